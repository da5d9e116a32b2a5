-- Interface. In a slot that holds nothing, the helpers that look up find nothing.
use Rattle.std.specs.Prelude.{◌≡◌, ℕ, Bool, true, false, ◌==◌, ◌&&◌, None, if◌then◌else◌, refl}
use Rattle.semantics.specs.Calls.{is_valid, no_address}
use Rattle.semantics.specs.Machine.{AddressRecord}
use Rattle.semantics.specs.declared.helper.RecordForm.TheVariants.{Narrow, Wide}
use Rattle.helpers.specs.LookUps.{held_answer, number_answer, test_answer}
use Rattle.semantics.specs.Nothing.{empty_answer}

either : {A : Type 0} (test : Bool) (x y z : A) → x ≡ z → y ≡ z → (if test then x else y) ≡ z
either true x y z first second = first
either false x y z first second = second

no_number : (valid : Bool) → number_answer (if valid then None else None) ≡ (0, no_address)
no_number true = refl
no_number false = refl

no_permission : (valid : Bool) → test_answer (valid && false) ≡ (0, no_address)
no_permission true = refl
no_permission false = refl

unheld : (id number : ℕ) (address : AddressRecord) → held_answer None id number address ≡ empty_answer id number address
unheld id number address =
    either (id == 1) _ _ _ refl
    (either (id == 2) _ _ _ (no_number (is_valid Narrow address))
    (either (id == 3) _ _ _ (no_permission (is_valid Narrow address))
    (either (id == 6) _ _ _ refl
    (either (id == 7) _ _ _ (no_number (is_valid Wide address))
    (either (id == 8) _ _ _ (no_permission (is_valid Wide address)) refl)))))

pub unheld_answer : held_answer None ≡ empty_answer
unheld_answer = λ i id number address. unheld id number address i
