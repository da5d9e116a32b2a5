-- Meaning. The helpers of a relay without an allocation.
use Rattle.std.specs.Prelude.{ℕ, replicate}
use Rattle.semantics.specs.Machine.{AddressRecord}

-- 0, and a record of zeros
abbrev pub empty_answer : ℕ → ℕ → AddressRecord → ℕ × AddressRecord
empty_answer id number address = (0, replicate 20 0)
