-- Choices that compare as the same are the same.
use Rattle.std.proofs.Common.{◌≡◌, ℕ, Bool, true, false, ◌&&◌, List, refl, sym, ap, ◌∙◌}
use Rattle.std.specs.Prelude.{◌==◌, Option, None, Some, bytes_eq, if◌then◌else◌}
use Rattle.std.proofs.lemmas.Bool.{and_parts, eqb-true}
use Rattle.std.proofs.lemmas.Slice.Eq.{bytes_eq-Decides}
use Rattle.addresses.specs.declared.address.Addr.{Addr}
use Rattle.addresses.specs.declared.address.Addr.TheVariants.{V4, V6}
use Rattle.events.specs.Events.{Sending, ToPeer, ToClient}
use Rattle.events.specs.declared.meta.Meta.{Meta}
use Rattle.insn.specs.declared.instruction.Insn.{Insn}
use Rattle.relay.specs.Choices.{Chosen, Passing, Relaying, chosen_of, with_program, SameChoiceIsSameStep}
use Rattle.relay.specs.Relays.{RelayContents, datagram_at}
use Rattle.shadow.specs.Comparisons.{compared, deed_of, goes_same_way, is_same_answer, is_same_choice, is_same_deed, is_same_endpoint, is_same_sending, is_same_way, WouldStepSame}
use Rattle.shadow.specs.declared.comparing.ChoiceComparison.{ChoiceComparison}
use Rattle.shadow.specs.declared.comparing.ChoiceComparison.TheVariants.{Same, OtherBytes, Elsewhere, Differs}
use Rattle.shadow.specs.declared.comparing.Deed.{Deed}

same_bytes : (a b : List ℕ) → bytes_eq a b ≡ true → a ≡ b
same_bytes a b e = (bytes_eq-Decides a b).0 e

same_endpoint : (a b : Addr) → is_same_endpoint a b ≡ true → a ≡ b
same_endpoint (V4 ip port) (V4 other other_port) e =
    let two = and_parts (bytes_eq ip other) (port == other_port) e in
    λ i. V4 (same_bytes ip other two.0 i) (eqb-true port other_port two.1 i)
same_endpoint (V6 ip port) (V6 other other_port) e =
    let two = and_parts (bytes_eq ip other) (port == other_port) e in
    λ i. V6 (same_bytes ip other two.0 i) (eqb-true port other_port two.1 i)
same_endpoint (V4 ip port) (V6 other other_port) e = absurd cc
same_endpoint (V6 ip port) (V4 other other_port) e = absurd cc

same_sending : (a b : Sending) → is_same_sending a b ≡ true → a ≡ b
same_sending (ToPeer slot peer bytes) (ToPeer other_slot other other_bytes) e =
    let two = and_parts (slot == other_slot && is_same_endpoint peer other) (bytes_eq bytes other_bytes) e in
    let ways = and_parts (slot == other_slot) (is_same_endpoint peer other) two.0 in
    λ i. ToPeer (eqb-true slot other_slot ways.0 i) (same_endpoint peer other ways.1 i) (same_bytes bytes other_bytes two.1 i)
same_sending (ToClient client bytes) (ToClient other other_bytes) e =
    let two = and_parts (is_same_endpoint client other) (bytes_eq bytes other_bytes) e in
    λ i. ToClient (same_endpoint client other two.0 i) (same_bytes bytes other_bytes two.1 i)
same_sending (ToPeer slot peer bytes) (ToClient other other_bytes) e = absurd cc
same_sending (ToClient client bytes) (ToPeer other_slot other other_bytes) e = absurd cc

same_answer : (a b : Option Sending) → is_same_answer a b ≡ true → a ≡ b
same_answer None None e = refl
same_answer (Some a) (Some b) e = ap Some (same_sending a b e)
same_answer None (Some b) e = absurd cc
same_answer (Some a) None e = absurd cc

pub same_choice : (a b : Chosen) → is_same_choice a b ≡ true → a ≡ b
same_choice (Passing a) (Passing b) e = ap Passing (same_bytes a b e)
same_choice (Relaying a) (Relaying b) e = ap Relaying (same_answer a b e)
same_choice (Passing a) (Relaying b) e = absurd cc
same_choice (Relaying a) (Passing b) e = absurd cc

-- only the same compares as the same
compares : (a b : Chosen) (same deed way : Bool)
    → (if same then Same else if deed then (if way then OtherBytes else Elsewhere) else Differs (deed_of a) (deed_of b)) ≡ Same → same ≡ true
compares a b true deed way e = refl
compares a b false true true e = absurd cc
compares a b false true false e = absurd cc
compares a b false false way e = absurd cc

pub would_step_same : (r : RelayContents) (given : Meta) (n : ℕ) (program : List Insn) (comparison : ChoiceComparison)
    → comparison ≡ compared (chosen_of r given (datagram_at r n)) (chosen_of (with_program r given.from program) given (datagram_at r n))
    → SameChoiceIsSameStep r given n program → WouldStepSame r given n program comparison
would_step_same r given n program comparison is law same =
    let a = chosen_of r given (datagram_at r n) in
    let b = chosen_of (with_program r given.from program) given (datagram_at r n) in
    law (sym (same_choice a b (compares a b (is_same_choice a b) (is_same_deed (deed_of a) (deed_of b)) (goes_same_way a b) (sym is ∙ same))))
