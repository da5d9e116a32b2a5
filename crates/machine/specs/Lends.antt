-- Interface. What a frame ends as, where its room is lent.
use Rattle.std.specs.Prelude.{ℕ, List}
use Rattle.std.specs.Borrow.{Lends, Fml, MutBor, Array, u8}
use Rattle.machine.specs.Contents.{Contents, with_room}
use Rattle.machine.specs.contracts.frame.Frame.{the_row}

-- once the borrow r ends, the frame's room is what was written through r last
abbrev pub lends_room : MutBor Contents → MutBor (List ℕ) → Fml
lends_room f r = Lends the_row (Array u8 0) f r (with_room f.now)
