use denote.Memory.{lone}
use Rattle.verifier.proofs.Sizes.{packed_fits, state_fits}
use Rattle.verifier.proofs.kept.KeptState.covers.Goals as goal

pub difference-requires : goal.difference-requires
difference-requires g c = (packed_fits (lone g.row.D.mir) g.met.D.Domain.small, (state_fits (lone g.row.D.mir) g.met.D.Domain.small, c.requires.words))
