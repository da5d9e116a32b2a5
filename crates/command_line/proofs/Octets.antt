-- A text that the library doesn't read as sixteen bytes spells none.
use Rattle.std.proofs.Common.{◌≡◌, ◌*◌, ◌∙◌, arith, sym, ℕ, List, length, Result, Ok, Err}
use Rattle.hex.specs.Hex.{decode_sized}
use Rattle.hex.specs.declared.error.FromHexError.{FromHexError}
use Rattle.hex.proofs.HexLemmas.{decode_of-ok, decode_sized-twice}
use Rattle.command_line.specs.Values.{AreOctets6}

pub no_octets : (text : List ℕ) (e : FromHexError) → Err e ≡ decode_sized text 16 → (ip : List ℕ) → ¬ (AreOctets6 text ip)
no_octets text e is ip are =
    let long : length text ≡ 2 * 16 = omega (arith, are.1, (decode_of-ok text ip are.0).2) in
    ok-err (sym are.0 ∙ sym (decode_sized-twice text 16 long) ∙ sym is)
  where
    ok-err : {A E : Type 0} {a : A} {e : E} → ◌≡◌ {A = Result A E} (Ok a) (Err e) → ⊥
    ok-err p = absurd cc
