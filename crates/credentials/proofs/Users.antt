-- Users by their index.
use Rattle.std.proofs.Common.{◌≡◌, ℕ, ◌<◌, List, [], length, get_or, sym, ap, ◌∙◌, arith}
use Rattle.std.proofs.lemmas.List.{get_or-map, length-map}
use Rattle.std.specs.Prelude.{string_bytes}
use Rattle.credentials.specs.Keys.{key_of}
use Rattle.credentials.specs.Checks.{users_of, listed_account}
use Rattle.credentials.specs.declared.checking.User.{User}

pub user_at : (users : List User) (i : ℕ) (u : User) → i < length users → u ≡ get_or users i u → get_or (users_of users) i ([], []) ≡ (u.name.bytes.items, u.password.bytes.items)
user_at users i u lt is = get_or-map (λ (v : User). (v.name.bytes.items, v.password.bytes.items)) users i u ([], []) lt ∙ ap (λ (v : User). (v.name.bytes.items, v.password.bytes.items)) (sym is)

-- the key of a user is that of the account at the index
pub key_at : (users : List User) (realm : List ℕ) (i : ℕ) (u : User) → i < length (users_of users) → u ≡ get_or users i u → key_of (string_bytes u.name) realm (string_bytes u.password) ≡ (listed_account realm (users_of users) i).key
key_at users realm i u inside is =
    let lt : i < length users = omega (arith, length-map {B = List ℕ × List ℕ} users (λ (v : User). (v.name.bytes.items, v.password.bytes.items))) in
    sym (ap (λ (n : List ℕ × List ℕ). key_of n.0 realm n.1) (user_at users i u lt is))
