use Rattle.std.proofs.Common.{rules, arith, length, take, drop, ◌<◌, ◌≤◌, ◌-◌}
use Rattle.std.proofs.lemmas.List.{length-take, length-drop}
use Rattle.semantics.proofs.Places.{room_for_byte}
use Rattle.semantics.proofs.loading.+number_of_cells.Goals as goal

pub overflow_mul-result : goal.overflow_mul-result
overflow_mul-result t c =
    let short : length (take (length c.args.cells.now - 1) (drop 1 c.args.cells.now)) ≤ 7 = omega (arith, length-take (length c.args.cells.now - 1) (drop 1 c.args.cells.now), length-drop 1 c.args.cells.now) in
    omega (arith, room_for_byte c.in_ok-high-in-len1-up.high _ c.in_ok-high-in-len1-up.ensures.bound short)

pub overflow_add-result : goal.overflow_add-result
overflow_add-result t c =
    let short : length (take (length c.args.cells.now - 1) (drop 1 c.args.cells.now)) ≤ 7 = omega (arith, length-take (length c.args.cells.now - 1) (drop 1 c.args.cells.now), length-drop 1 c.args.cells.now) in
    let byte : c.in_ok-low-in-len1-up.low < 256 = search rules in
    omega (arith, c.from.ensures, room_for_byte c.in_ok-high-in-len1-up.high _ c.in_ok-high-in-len1-up.ensures.bound short)
