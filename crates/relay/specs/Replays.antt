-- Meaning. What a replay has read, done and written: the text of events, and the text of their answers.
use Rattle.std.specs.Prelude.{◌≡◌, ◌≢◌, ℕ, ◌+◌, ◌⊎◌, Bool, true, false, List, [], ◌∷◌, ◌++◌, All, length, take, Option, None, Some, IfSome, is_some, Result, Ok, Err, if◌then◌else◌}
use Rattle.std.specs.Io.BufRead.{first_piece}
use Rattle.std.specs.Io.KnownBytes.{Appends}
use Rattle.control.specs.declared.config.Config.{Config}
use Rattle.events.specs.Events.{Event}
use Rattle.basics.specs.Outputs.{AppendsBeginning}
use Rattle.events.specs.Lines.{line_of, answer_line, IsEvent}
use Rattle.relay.specs.ByPrograms.{Programs, by_programs}
use Rattle.relay.specs.Reasons.{reason_of_event}
use Rattle.relay.specs.ReasonTexts.{line_ending}
use Rattle.relay.specs.declared.reason.StepReason.{StepReason}
use Rattle.relay.specs.Relays.{RelayContents, state_of}
use Rattle.relay.specs.declared.replaying.ReplayError.{ReplayError}
use Rattle.relay.specs.declared.replaying.ReplayError.TheVariants as error
use Rattle.rules.specs.Systems.{SystemState, System, system_step, state_after_events}

-- ---- texts

-- the lines of some events, each ended by a line feed
abbrev pub text_of_events : List Event → List ℕ
text_of_events [] = []
text_of_events (e ∷ events) = line_of e ++ 10 ∷ text_of_events events

-- a text is the lines of these events: each ended by a line feed, the last one possibly not
abbrev pub IsText : List ℕ → List Event → Type 0
IsText text events = (text ≡ text_of_events events) ⊎ (text ++ 10 ∷ [] ≡ text_of_events events)

-- why the answer to an event is so, where reasons are wanted
abbrev pub reason_wanted : Bool → Programs → Config → SystemState → Event → Option StepReason
reason_wanted explains programs config s e = if explains then Some (reason_of_event programs config s e) else None

-- the line of the answer of some programs to an event: the answer, the reason, if it is wanted, and a line feed
abbrev pub answer_text : Bool → Programs → Config → SystemState → Event → List ℕ
answer_text explains programs config s e =
    answer_line (system_step (by_programs programs) config s e).answer
    ++ line_ending (reason_wanted explains programs config s e)

-- the lines of the answers to some events
abbrev pub answers_text : Bool → Programs → Config → SystemState → List Event → List ℕ
answers_text explains programs config s [] = []
answers_text explains programs config s (e ∷ events) =
    answer_text explains programs config s e
    ++ answers_text explains programs config (system_step (by_programs programs) config s e).state events

-- ---- one line

-- the state after the event of a line, if it has one, and the line of its answer
abbrev pub after_line : System → Config → SystemState → Option Event → SystemState
after_line system config s None = s
after_line system config s (Some e) = (system_step system config s e).state

abbrev pub answer_to : Bool → Programs → Config → SystemState → Option Event → List ℕ
answer_to explains programs config s None = []
answer_to explains programs config s (Some e) = answer_text explains programs config s e

-- a beginning of the line of the answer to the event of a line was written
pub record IsCut (explains : Bool) (held holds : Option (List ℕ)) (programs : Programs) (config : Config) (s : SystemState) (e : Option Event) : Type 0 where
  pub known : is_some e ≡ true
  pub written : AppendsBeginning held holds (answer_to explains programs config s e)

-- ---- replays

-- the system of a relay's programs
abbrev pub system_of : RelayContents → System
system_of r = by_programs r.programs

-- the programs are the same, and all of the configuration but its nonce
pub record IsSameRelay (old new : RelayContents) : Type 0 where
  pub programs : new.programs ≡ old.programs
  pub config : new.config ≡ record old.config { nonce = new.config.nonce }

-- the events of a relay that were read, and the relay after them
pub record HasPlayed (events : List Event) (old new : RelayContents) : Type 0 where
  pub are_events : All (IsEvent old.config.slots) events
  pub state : state_of new ≡ state_after_events (system_of old) old.config (state_of old) events
  pub same : IsSameRelay old new

-- the answers of a relay's programs to some events, with reasons where they are wanted
abbrev pub answers_of_events : Bool → RelayContents → List Event → List ℕ
answers_of_events explains r events = answers_text explains r.programs r.config (state_of r) events

-- the reader was read to its end, its bytes are the lines of events, and the lines of all their answers were written
pub record HasPlayedAll (explains : Bool) (read left : Option (List ℕ)) (old new : RelayContents) (held holds : Option (List ℕ)) : Type 0 where
  pub events : List Event
  pub played : HasPlayed events old new
  pub is_text : IfSome read (λ text. IsText text events)
  pub at_end : IfSome read (λ _. left ≡ Some [])
  pub written : Appends held holds (answers_of_events explains old events)

-- the line after those of some events is no event's, and the answers to these were written
pub record StopsAtLine (explains : Bool) (n : ℕ) (read : Option (List ℕ)) (old new : RelayContents) (held holds : Option (List ℕ)) : Type 0 where
  pub events : List Event
  pub played : HasPlayed events old new
  pub number : length events + 1 ≡ n
  pub text : IfSome read (λ text. (rest : List ℕ) × (text ≡ text_of_events events ++ rest) × (rest ≢ [])
      × ((e : Event) → IsEvent old.config.slots e → first_piece 10 rest ≢ line_of e))
  pub written : Appends held holds (answers_of_events explains old events)

-- stopped before the next line: some events were read whole, and the lines of all their answers were written
pub record StopsBefore (explains : Bool) (read : Option (List ℕ)) (old new : RelayContents) (held holds : Option (List ℕ)) : Type 0 where
  pub events : List Event
  pub played : HasPlayed events old new
  pub text : IfSome read (λ text. (rest : List ℕ) × (text ++ 10 ∷ [] ≡ text_of_events events ++ rest))
  pub written : Appends held holds (answers_of_events explains old events)

-- stopped by the writer: of the line of the answer to the last event that was read, a beginning was written
pub record StopsWriting (explains : Bool) (read : Option (List ℕ)) (old new : RelayContents) (held holds : Option (List ℕ)) : Type 0 where
  pub events : List Event
  pub last : Event
  pub played : HasPlayed (events ++ last ∷ []) old new
  pub text : IfSome read (λ text. (rest : List ℕ) × (text ++ 10 ∷ [] ≡ text_of_events (events ++ last ∷ []) ++ rest))
  pub count : ℕ
  pub written : Appends held holds (answers_of_events explains old events ++ take count (answer_text explains old.programs old.config (state_after_events (system_of old) old.config (state_of old) events) last))

-- ---- failures

-- whether an error says that the input has failed
abbrev pub is_read_failure : {T : Type 0} → Result T ReplayError → Bool
is_read_failure (Ok x) = false
is_read_failure (Err (error.Line n)) = false
is_read_failure (Err error.Read) = true
is_read_failure (Err error.Write) = false
is_read_failure (Err error.Memory) = false

-- whether an error says that the output has failed
abbrev pub is_write_failure : {T : Type 0} → Result T ReplayError → Bool
is_write_failure (Ok x) = false
is_write_failure (Err (error.Line n)) = false
is_write_failure (Err error.Read) = false
is_write_failure (Err error.Write) = true
is_write_failure (Err error.Memory) = false
