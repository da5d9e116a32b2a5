-- Meaning. What two programs do with a datagram, compared.
use Rattle.std.specs.Prelude.{◌≡◌, ℕ, Bool, true, false, ◌&&◌, List, Option, None, Some, ◌==◌, bytes_eq, if◌then◌else◌}
use Rattle.addresses.specs.declared.address.Addr.{Addr}
use Rattle.addresses.specs.declared.address.Addr.TheVariants.{V4, V6}
use Rattle.events.specs.Events.{Sending, ToPeer, ToClient}
use Rattle.events.specs.declared.meta.Meta.{Meta}
use Rattle.insn.specs.declared.instruction.Insn.{Insn}
use Rattle.relay.specs.Choices.{Chosen, Passing, Relaying, with_program}
use Rattle.relay.specs.Relays.{RelayContents}
use Rattle.relay.specs.Steps.{outcome_of}
use Rattle.shadow.specs.declared.comparing.ChoiceComparison.{ChoiceComparison}
use Rattle.shadow.specs.declared.comparing.ChoiceComparison.TheVariants.{Same, OtherBytes, Elsewhere, Differs}
use Rattle.shadow.specs.declared.comparing.Deed.{Deed}
use Rattle.shadow.specs.declared.comparing.Deed.TheVariants.{Discards, PassesOn, Sends}

-- ---- what a program does

abbrev pub deed_of : Chosen → Deed
deed_of (Passing bytes) = PassesOn
deed_of (Relaying None) = Discards
deed_of (Relaying (Some sending)) = Sends

abbrev pub is_same_deed : Deed → Deed → Bool
is_same_deed Discards Discards = true
is_same_deed PassesOn PassesOn = true
is_same_deed Sends Sends = true
is_same_deed a b = false

-- ---- where something is sent

abbrev pub is_same_endpoint : Addr → Addr → Bool
is_same_endpoint (V4 ip port) (V4 other other_port) = bytes_eq ip other && port == other_port
is_same_endpoint (V6 ip port) (V6 other other_port) = bytes_eq ip other && port == other_port
is_same_endpoint a b = false

-- from the same slot to the same peer, or to the same client
abbrev pub is_same_way : Sending → Sending → Bool
is_same_way (ToPeer slot peer bytes) (ToPeer other_slot other other_bytes) = slot == other_slot && is_same_endpoint peer other
is_same_way (ToClient client bytes) (ToClient other other_bytes) = is_same_endpoint client other
is_same_way a b = false

abbrev pub bytes_of_sending : Sending → List ℕ
bytes_of_sending (ToPeer slot peer bytes) = bytes
bytes_of_sending (ToClient client bytes) = bytes

-- ---- the comparison

-- the same is sent, byte for byte and the same way
abbrev pub is_same_sending : Sending → Sending → Bool
is_same_sending a b = is_same_way a b && bytes_eq (bytes_of_sending a) (bytes_of_sending b)

abbrev pub is_same_answer : Option Sending → Option Sending → Bool
is_same_answer None None = true
is_same_answer (Some a) (Some b) = is_same_sending a b
is_same_answer a b = false

-- the rules get the same bytes, the same is sent, or nothing is
abbrev pub is_same_choice : Chosen → Chosen → Bool
is_same_choice (Passing a) (Passing b) = bytes_eq a b
is_same_choice (Relaying a) (Relaying b) = is_same_answer a b
is_same_choice a b = false

-- whether of two that do the same deed, neither sends, or both send the same way
abbrev pub goes_same_way : Chosen → Chosen → Bool
goes_same_way (Relaying (Some a)) (Relaying (Some b)) = is_same_way a b
goes_same_way a b = true

-- of a program and its shadow
abbrev pub compared : Chosen → Chosen → ChoiceComparison
compared a b =
    if is_same_choice a b then Same
    else if is_same_deed (deed_of a) (deed_of b) then (if goes_same_way a b then OtherBytes else Elsewhere)
    else Differs (deed_of a) (deed_of b)

-- where a shadow does the same, the relay would have done the same with the shadow in place of its program
abbrev pub WouldStepSame : RelayContents → Meta → ℕ → List Insn → ChoiceComparison → Type 0
WouldStepSame r given n program comparison = comparison ≡ Same → outcome_of (with_program r given.from program) given n ≡ outcome_of r given n
