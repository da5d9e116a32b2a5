use Rattle.std.proofs.Common.{length, take, ap, arith}
use Rattle.std.proofs.lemmas.List.{length-map, length-take}
use Rattle.control.specs.Users.{index_of_user}
use Rattle.control.proofs.users.new_indices.Goals as goal

pub push-requires : goal.push-requires
push-requires c =
    omega (
      arith,
      c.requires,
      ap length c.loop-user.invariant,
      length-map (take c.loop-user.user-index c.args.old.now) (index_of_user c.args.new.now),
      length-take c.loop-user.user-index c.args.old.now,
    )
