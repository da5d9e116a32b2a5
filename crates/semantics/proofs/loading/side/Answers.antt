use Rattle.std.proofs.Common.{List, ℕ, ap, ◌∙◌}
use Rattle.insn.specs.Endian.{little_number}
use Rattle.semantics.specs.Access.{part}
use Rattle.semantics.specs.laws.Context.{side_field}
use Rattle.semantics.proofs.loading.side.Goals as goal

pub returns : goal.returns
returns c of n is e = c.number_of_bytes.ensures ∙ ap (λ (bytes : List ℕ). little_number 4 (part 4 44 bytes)) e ∙ side_field of n is
