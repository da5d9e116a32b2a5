use denote.Memory.{lone}
use Rattle.verifier.proofs.Sizes.{packed_fits, state_fits}
use Rattle.verifier.proofs.kept.KeptState.new.Goals as goal

pub packed-requires : goal.packed-requires
packed-requires g c = (state_fits (lone g.row.D.mir) g.met.D.Domain.small, packed_fits (lone g.row.D.mir) g.met.D.Domain.small)

pub into-requires-room-U-From : goal.into-requires-room-U-From
into-requires-room-U-From g c κs within = packed_fits (lone g.row.D.mir) g.met.D.Domain.small
