use Rattle.std.proofs.Common.{◌≡◌, ℕ, List, length, ◌++◌, take, sym, ap, ◌∙◌, arith}
use Rattle.std.proofs.lemmas.List.{length-append, take_at}
use Rattle.machine.specs.Contents.{room_of}
use Rattle.machine.specs.laws.Frame.{room_written}
use Rattle.semantics.specs.declared.limits.TheConstants.{MAX_DATAGRAM}
use Rattle.shadow.proofs.shadow.copy_to.Goals as goal

pub returns : goal.returns
returns c =
    let front : List ℕ = c.copy_from_slice.new.self in
    let rest : List ℕ = c.split_at_mut-to.result.1.now in
    let had : length (room_of c.args.frame.now) ≡ MAX_DATAGRAM = ap length (sym c.area.ensures.value) ∙ c.area.ensures.len in
    let copied : front ≡ take c.args.n c.args.room.now = c.copy_from_slice.ensures.after in
    let front_length : length front ≡ c.args.n = omega (arith, c.copy_from_slice.ensures.len, c.split_at_mut-to.ensures.front_len, ap length copied) in
    let whole : length (front ++ rest) ≡ MAX_DATAGRAM =
    omega (arith, length-append front rest, front_length, c.split_at_mut-to.ensures.back_len, c.area.ensures.len, c.requires.few) in
    ap (take c.args.n) (room_written c.args.frame.now (front ++ rest) had whole) ∙ take_at front rest c.args.n front_length ∙ copied
