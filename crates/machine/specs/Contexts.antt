-- Meaning. What the definitions see of a context and of the helpers.
use Rattle.std.specs.Prelude.{ℕ}
use Rattle.semantics.specs.Machine as machine
use Rattle.semantics.specs.Machine.{AddressRecord}
use Rattle.semantics.specs.Records.{address_record, wide_record}
use Rattle.machine.specs.declared.context.Side.{Side}
use Rattle.machine.specs.declared.context.Side.TheVariants.{Client, Peer}
use Rattle.machine.specs.declared.context.Context.{Context}

abbrev pub side_number : Side → ℕ
side_number Client = 0
side_number Peer = 1

abbrev pub context_of : Context → machine.Context
context_of c = record { side = side_number c.side; source = address_record c.source; wide_source = wide_record c.source; tx = c.tx }

-- the answers of helpers
abbrev pub HelperAnswers : Type 0
HelperAnswers = ℕ → ℕ → AddressRecord → ℕ × AddressRecord

-- the environment of a run
abbrev pub environment_around : machine.Context → HelperAnswers → machine.Environment
environment_around model answers = record { context = model; answer = answers }
