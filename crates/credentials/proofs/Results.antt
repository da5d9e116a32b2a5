-- The result of a check is that of the function.
use Rattle.std.proofs.Common.{◌≡◌, ◌≢◌, ℕ, zero, suc, ◌+◌, ◌⊎◌, Bool, true, false, ◌&&◌, List, [], ◌∷◌, refl, sym, ap, ◌∙◌, subst, inl, inr, arith}
use Rattle.std.specs.Prelude.{bytes_eq, is_some, if◌then◌else◌, Option, None, Some, Result, Ok, Err, ok_or}
use Rattle.std.specs.List.{position_from}
use Rattle.std.proofs.lemmas.Bool.{cond-true, cond-false, false_from_ne_true}
use Rattle.std.proofs.lemmas.Iterator.Adapters.{position_from-zero}
use Rattle.std.proofs.lemmas.Slice.Eq.{bytes_eq-Decides}
use Rattle.basics.specs.Fallible.{◌>>=◌, check}
use Rattle.stun.specs.Messages.{Parts}
use Rattle.stun.specs.Registry.{message_integrity}
use Rattle.stun.specs.declared.registry.attribute.TheConstants.{USERNAME, REALM, NONCE}
use Rattle.credentials.specs.Checks.{Users, Directory, HasAccount, HasNoAccount, HasCredentials, lacking, LacksAccount, IsChecked, IsUser, IsNoUser, first_value}
use Rattle.credentials.specs.Integrity.{integrity_under}
use Rattle.credentials.specs.Results.{user_of, account_at, check_result}
use Rattle.credentials.specs.TimeLimited.{Account, expiry_of}
use Rattle.credentials.specs.declared.checking.AuthError.{AuthError}
use Rattle.credentials.specs.declared.checking.AuthError.TheVariants.{Missing, Incomplete, StaleNonce, UnknownUser, WrongIntegrity, Expired}

same_bytes : (xs ys : List ℕ) → xs ≡ ys → bytes_eq xs ys ≡ true
same_bytes xs ys e = (bytes_eq-Decides xs ys).1 e

other_bytes : (xs ys : List ℕ) → xs ≢ ys → bytes_eq xs ys ≡ false
other_bytes xs ys ne = false_from_ne_true (bytes_eq xs ys) (λ t. ne ((bytes_eq-Decides xs ys).0 t))

-- ---- users

user_from : (name : List ℕ) (i : ℕ) (users : Users) (index : ℕ) → IsUser users name index → position_from (λ user. bytes_eq user.0 name) i users ≡ Some (i + index)
user_from name i [] index is = absurd (omega (arith, is.inside))
user_from name i (u ∷ us) zero is =
    let here : i ≡ i + 0 = omega arith in
    cond-true (bytes_eq u.0 name) (Some i) (position_from (λ user. bytes_eq user.0 name) (i + 1) us) (same_bytes u.0 name is.named) ∙ ap Some here
user_from name i (u ∷ us) (suc k) is =
    let rest : IsUser us name k = record { inside = omega (arith, is.inside); named = is.named; first = λ j lt. is.first (suc j) (omega (arith, lt)) } in
    let next : i + 1 + k ≡ i + suc k = omega arith in
    cond-false (bytes_eq u.0 name) (Some i) (position_from (λ user. bytes_eq user.0 name) (i + 1) us) (other_bytes u.0 name (is.first 0 (omega arith))) ∙ user_from name (i + 1) us k rest ∙ ap Some next

no_user_from : (name : List ℕ) (i : ℕ) (users : Users) → IsNoUser users name → position_from (λ user. bytes_eq user.0 name) i users ≡ None
no_user_from name i [] none = refl
no_user_from name i (u ∷ us) none =
    cond-false (bytes_eq u.0 name) (Some i) (position_from (λ user. bytes_eq user.0 name) (i + 1) us) (other_bytes u.0 name (none 0 (omega arith)))
    ∙ no_user_from name (i + 1) us (λ k lt. none (suc k) (omega (arith, lt)))

user_is : (users : Users) (name : List ℕ) (index : ℕ) → IsUser users name index → user_of users name ≡ Some index
user_is users name index is =
    let here : 0 + index ≡ index = omega arith in
    position_from-zero (λ user. bytes_eq user.0 name) users ∙ user_from name 0 users index is ∙ ap Some here

user_is_none : (users : Users) (name : List ℕ) → IsNoUser users name → user_of users name ≡ None
user_is_none users name none = position_from-zero (λ user. bytes_eq user.0 name) users ∙ no_user_from name 0 users none

-- ---- accounts

module _ (realm : List ℕ) (directory : Directory) (name : List ℕ) where
  has_account : (account : Account) → HasAccount realm directory name account → account_at realm directory name (user_of directory.users name) ≡ Some account
  has_account account (inl (index, is, e)) = ap (account_at realm directory name) (user_is directory.users name index is) ∙ sym (ap Some e)
  has_account account (inr (none, e)) = ap (account_at realm directory name) (user_is_none directory.users name none) ∙ e

  has_no_account : HasNoAccount realm directory name → account_at realm directory name (user_of directory.users name) ≡ None
  has_no_account (none, e) = ap (account_at realm directory name) (user_is_none directory.users name none) ∙ e

-- ---- the tests, from the last to the first

module _ (p : Parts) (realm : List ℕ) (directory : Directory) (nonce : List ℕ) where
  abbrev integrity_tested : Account → List ℕ → Option (List ℕ) → Result Account AuthError
  integrity_tested account integrity made = do
    right ← ok_or made WrongIntegrity
    _ ← check (bytes_eq right integrity) WrongIntegrity
    Ok account

  abbrev account_tested : List ℕ → List ℕ → Option Account → Result Account AuthError
  account_tested integrity name found = do
    account ← ok_or found (lacking directory name)
    integrity_tested account integrity (integrity_under account.key p)

  abbrev account_of_name : List ℕ → Option Account
  account_of_name name = account_at realm directory name (user_of directory.users name)

  abbrev nonce_tested : List ℕ → List ℕ → List ℕ → Result Account AuthError
  nonce_tested integrity name given = do
    _ ← check (bytes_eq given nonce) StaleNonce
    account_tested integrity name (account_of_name name)

  abbrev all_tested : Option (List ℕ) → Option (List ℕ) → Option (List ℕ) → Option (List ℕ) → Result Account AuthError
  all_tested integrity name realm given = do
    integrity ← ok_or integrity Missing
    name ← ok_or name Incomplete
    _ ← ok_or realm Incomplete
    given ← ok_or given Incomplete
    nonce_tested integrity name given

  right_integrity : (account : Account) (integrity : List ℕ) → integrity_tested account integrity (Some integrity) ≡ Ok account
  right_integrity account integrity = ap (λ b. check b WrongIntegrity >>= (λ _. Ok account)) (same_bytes integrity integrity refl)

  wrong_integrity : (account : Account) (integrity : List ℕ) (made : Option (List ℕ)) → made ≢ Some integrity → integrity_tested account integrity made ≡ Err WrongIntegrity
  wrong_integrity account integrity None ne = refl
  wrong_integrity account integrity (Some right) ne = ap (λ b. check b WrongIntegrity >>= (λ _. Ok account)) (other_bytes right integrity (λ e. ne (ap Some e)))

  -- with all four attributes, the nonce is compared
  with_all : (integrity name given : List ℕ) → HasCredentials p given integrity name → check_result p realm directory nonce ≡ nonce_tested integrity name given
  with_all integrity name given has =
      λ i. all_tested (has.integrity_is i) (has.name_is i) (has.realm_is i) (has.nonce_is i)

  -- with the current nonce, the account is looked up
  looked_up : (integrity name : List ℕ) → HasCredentials p nonce integrity name → check_result p realm directory nonce ≡ account_tested integrity name (account_of_name name)
  looked_up integrity name has =
      with_all integrity name nonce has ∙ ap (λ b. check b StaleNonce >>= (λ _. account_tested integrity name (account_of_name name))) (same_bytes nonce nonce refl)

  of_account : (integrity name : List ℕ) (account : Account) → HasCredentials p nonce integrity name → HasAccount realm directory name account
      → check_result p realm directory nonce ≡ integrity_tested account integrity (integrity_under account.key p)
  of_account integrity name account has is = looked_up integrity name has ∙ ap (account_tested integrity name) (has_account realm directory name account is)

  incomplete : (integrity : List ℕ) (a b c : Option (List ℕ)) → (a ≡ None) ⊎ (b ≡ None) ⊎ (c ≡ None) → all_tested (Some integrity) a b c ≡ Err Incomplete
  incomplete integrity None b c h = refl
  incomplete integrity (Some x) None c h = refl
  incomplete integrity (Some x) (Some y) None h = refl
  incomplete integrity (Some x) (Some y) (Some z) (inl e) = absurd cc
  incomplete integrity (Some x) (Some y) (Some z) (inr (inl e)) = absurd cc
  incomplete integrity (Some x) (Some y) (Some z) (inr (inr e)) = absurd cc

  with_some_integrity : (integrity a b c : Option (List ℕ)) → integrity ≢ None → ((a ≡ None) ⊎ (b ≡ None) ⊎ (c ≡ None)) → all_tested integrity a b c ≡ Err Incomplete
  with_some_integrity None a b c some h = absurd (some refl)
  with_some_integrity (Some integrity) a b c some h = incomplete integrity a b c h

  -- a name that lacks an account is refused for the reason that it has
  pub refused_for : (integrity name : List ℕ) → HasCredentials p nonce integrity name → HasNoAccount realm directory name → (reason : AuthError) → reason ≡ lacking directory name
      → IsChecked p realm directory nonce (Err reason)
  refused_for integrity name has none reason is =
      subst (λ (e : AuthError). IsChecked p realm directory nonce (Err e)) (sym is) (by (is_some directory.limits && is_some (expiry_of name)) refl)
    where
      by : (test : Bool) → (is_some directory.limits && is_some (expiry_of name)) ≡ test → IsChecked p realm directory nonce (Err (if test then Expired else UnknownUser))
      by true e = (integrity, name, has, none, ap (λ (test : Bool). if test then Expired else UnknownUser) e)
      by false e = (integrity, name, has, none, ap (λ (test : Bool). if test then Expired else UnknownUser) e)

  without_account : (reason : AuthError) → LacksAccount p realm directory nonce reason → Err reason ≡ check_result p realm directory nonce
  without_account reason (integrity, name, has, none, is) = sym (looked_up integrity name has ∙ ap (account_tested integrity name) (has_no_account realm directory name none) ∙ ap Err is)

  pub result_is_checked : (r : Result Account AuthError) → IsChecked p realm directory nonce r → r ≡ check_result p realm directory nonce
  result_is_checked (Ok account) (integrity, name, has, is, right) =
      sym (of_account integrity name account has is ∙ ap (integrity_tested account integrity) right ∙ right_integrity account integrity)
  result_is_checked (Err Missing) none = sym (ap (λ integrity. all_tested integrity (first_value p USERNAME) (first_value p REALM) (first_value p NONCE)) none)
  result_is_checked (Err Incomplete) (some, missing) = sym (with_some_integrity (first_value p message_integrity) (first_value p USERNAME) (first_value p REALM) (first_value p NONCE) some missing)
  result_is_checked (Err StaleNonce) (other, integrity, name, has, ne) =
      sym (with_all integrity name other has ∙ ap (λ b. check b StaleNonce >>= (λ _. account_tested integrity name (account_of_name name))) (other_bytes other nonce ne))
  result_is_checked (Err UnknownUser) lacks = without_account UnknownUser lacks
  result_is_checked (Err Expired) lacks = without_account Expired lacks
  result_is_checked (Err WrongIntegrity) (integrity, name, account, has, is, wrong) =
      sym (of_account integrity name account has is ∙ wrong_integrity account integrity (integrity_under account.key p) wrong)
