use denote.Memory.{lone}
use Rattle.verifier.proofs.Sizes.{packed_fits}
use Rattle.verifier.proofs.kept.push_state.Goals as goal

pub drop-kept-inside-requires-room-T-Destruct : goal.drop-kept-inside-requires-room-T-Destruct
drop-kept-inside-requires-room-T-Destruct g c κs within = packed_fits (lone g.row.D.mir) g.met.D.Domain.small
