-- Meaning. The texts of abstract values.
use Rattle.std.specs.Prelude.{ℕ, ◌==◌, ℤ, pos, ◌-ℤ◌, int_lt, List, ◌++◌, codes, decimal, if◌then◌else◌}
use Rattle.std.specs.Fmt.{signed_decimal}
use Rattle.insn.specs.Spelling.{with_sign}
use Rattle.interval.specs.declared.domain.Bounds.{Bounds}
use Rattle.interval.specs.declared.interval.Interval.{Interval}
use Rattle.absstate.specs.declared.abstract_state.AbstractValue.{AbstractValue}
use Rattle.absstate.specs.declared.abstract_state.AbstractValue.TheVariants.{Nothing, Scalar, Ctx, Stack, Data, End}
use Rattle.absstate.specs.declared.abstract_state.Anchor.{Anchor}
use Rattle.absstate.specs.declared.abstract_state.Anchor.TheVariants.{First, Variable}

-- a known number, or the least and the greatest one
abbrev pub bounds_text : Bounds → List ℕ
bounds_text b = if b.lo == b.hi then codes "=" ++ decimal b.lo else decimal b.lo ++ codes ".." ++ decimal b.hi

-- a place of the datagram: from its first byte on, or from an anchor on that lies between two places
abbrev pub place_text : Anchor → ℤ → List ℕ
place_text First k = codes "datagram" ++ with_sign k
place_text (Variable id low high proved) k = codes "datagram+(" ++ signed_decimal low ++ codes ".." ++ signed_decimal high ++ codes ")" ++ with_sign k

-- so many bytes are proved after a place, of which fewer than none are nothing
abbrev pub after_text : ℤ → List ℕ
after_text n = if int_lt n (pos 0) then codes ", nothing proved after it" else codes ", " ++ signed_decimal n ++ codes " proved after it"

-- how many are proved after a place at a variable anchor; of the first byte, the state says it itself
abbrev pub proved_text : Anchor → ℤ → List ℕ
proved_text First k = codes ""
proved_text (Variable id low high proved) k = after_text (proved -ℤ k)

-- what is known of a register, or of eight bytes of the stack
abbrev pub value_text : AbstractValue Interval → List ℕ
value_text Nothing = codes "-"
value_text (Scalar b) = bounds_text b
value_text Ctx = codes "context"
value_text (Stack k) = codes "stack" ++ with_sign k
value_text (Data anchor k) = place_text anchor k ++ proved_text anchor k
value_text End = codes "end"
