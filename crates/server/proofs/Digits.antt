-- Digits make a nonce.
use Rattle.std.proofs.Common.{◌≡◌, ℕ, List, [], ◌∷◌, length, Bool, true, refl, ap, ◌∙◌, arith}
use Rattle.std.specs.Prelude.{◌&&◌}
use Rattle.std.specs.List.{list_all}
use Rattle.std.proofs.lemmas.Bool.{and_parts}
use Rattle.std.proofs.lemmas.Bool.Decides.{nat_tests}
use Rattle.stun.specs.Ranges.{is_between}
use Rattle.credentials.specs.Texts.{is_nonce}
use Rattle.server.specs.Nonces.{is_digit}

visible : (c : ℕ) → is_digit c ≡ true → is_between 0x21 0x7e c ≡ true
visible c digit = grind (arith, nat_tests)

all_visible : (digits : List ℕ) → list_all is_digit digits ≡ true → list_all (is_between 0x21 0x7e) digits ≡ true
all_visible [] e = refl
all_visible (c ∷ rest) e =
    let parts = and_parts (is_digit c) (list_all is_digit rest) e in
    ap (λ (b : Bool). b && list_all (is_between 0x21 0x7e) rest) (visible c parts.0) ∙ all_visible rest parts.1

pub digits_are_nonce : (digits : List ℕ) → length digits ≡ 16 → list_all is_digit digits ≡ true → is_nonce digits ≡ true
digits_are_nonce digits count all =
    ap (λ (n : ℕ). is_between 1 64 n && list_all (is_between 0x21 0x7e) digits) count ∙ all_visible digits all
