-- What the program of the peers' side is given, and how its run ends.
use Rattle.std.specs.Prelude.{◌≡◌, ◌≢◌, ℕ, ◌≤◌, List, Bool, Option, Some, None, IfSome, ◌==◌, if◌then◌else◌}
use Rattle.addresses.specs.declared.address.Addr.{Addr}
use Rattle.addresses.specs.declared.address.Addr.TheVariants.{V4, V6}
use Rattle.semantics.specs.Calls.{helper_number, widened}
use Rattle.semantics.specs.Machine.{AddressRecord, State}
use Rattle.semantics.specs.declared.helper.Helper.TheVariants.{ChannelTo, Permitted}
use Rattle.semantics.specs.declared.helper.RecordForm.{RecordForm}
use Rattle.semantics.specs.declared.helper.RecordForm.TheVariants.{Narrow, Wide}
use Rattle.semantics.specs.Records.{address_record, wide_record}
use Rattle.rules.specs.Rules.{peer_data}
use Rattle.programs.specs.Runs.{window_in}

-- 1 where it holds, and the number of a channel, and else 0
abbrev pub test_number : Bool → ℕ
test_number holds = if holds then 1 else 0

abbrev pub channel_number : Option ℕ → ℕ
channel_number None = 0
channel_number (Some number) = number

-- the form of the helpers that PEER asks for a source, and the record that it asks with
abbrev pub form_for : Addr → RecordForm
form_for (V4 ip port) = Narrow
form_for (V6 ip port) = Wide

abbrev pub record_for : Addr → AddressRecord
record_for (V4 ip port) = widened Narrow (address_record (V4 ip port))
record_for (V6 ip port) = wide_record (V6 ip port)

-- helpers answer so of a source
pub record AnswersPeer (answer : ℕ → ℕ → AddressRecord → ℕ × AddressRecord) (source : Addr) (allowed : Bool) (number : Option ℕ) : Type 0 where
  pub permits : (answer (helper_number (Permitted (form_for source))) 0 (record_for source)).0 ≡ test_number allowed
  pub numbers : (answer (helper_number (ChannelTo (form_for source))) 0 (record_for source)).0 ≡ channel_number number
  pub range : IfSome number (λ n. (0x4000 ≤ n) × (n ≤ 0x4fff))

-- the bytes of the window, with the verdict that sends
abbrev pub window_sent : ℕ → State → Option (List ℕ)
window_sent verdict s = if verdict == 2 then window_in s else None

pub record IsPeerEnd (allowed : Bool) (number : Option ℕ) (source : Addr) (tx d : List ℕ) (verdict : ℕ) (s : State) : Type 0 where
  pub alone : verdict ≢ 1
  pub sends : window_sent verdict s ≡ peer_data allowed number source tx d
