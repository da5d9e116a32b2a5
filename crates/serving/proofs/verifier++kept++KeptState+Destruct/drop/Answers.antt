use denote.Memory.{lone}
use Rattle.verifier.proofs.Sizes.{packed_fits}
use Rattle.serving.proofs.verifier++kept++KeptState+Destruct.drop.Goals as goal

pub drop-requires-room-T-Destruct : goal.drop-requires-room-T-Destruct
drop-requires-room-T-Destruct g c κs within = packed_fits (lone g.row.D.mir) g.met.D.Domain.small
