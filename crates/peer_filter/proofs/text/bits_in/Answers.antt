use Rattle.std.proofs.Common.{rules, ◌≢◌, ◌≤◌, length, slice_index}
use Rattle.peer_filter.proofs.Texts.{bits_parsed}
use Rattle.peer_filter.proofs.text.bits_in.Goals as goal

pub returns : goal.returns
returns c =
    let few : length c.args.text.now ≤ 3 = search rules in
    let other : slice_index c.args.text.now 0 ≢ 43 = search rules in
    rw c.ok.ensures.value (bits_parsed c.args.text.now c.parse.result few other c.parse.ensures.value.0)
