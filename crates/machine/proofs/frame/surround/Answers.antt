use Rattle.machine.proofs.Frames.{surrounded_is}
use Rattle.machine.proofs.frame.surround.Goals as goal

pub returns : goal.returns
returns c = surrounded_is c.args.bytes.now _ _ c.args.n c.requires c.write_zeros.ensures c.write_zeros-2.ensures
