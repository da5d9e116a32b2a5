use Rattle.std.proofs.Common.{◌+◌, ◌≡◌, ℕ, List, length, take, drop, refl, ap, ◌∙◌, rules, arith}
use Rattle.semantics.specs.declared.limits.TheConstants.{HEADROOM, MAX_DATAGRAM}
use Rattle.flat.specs.declared.layout.TheConstants.{HEADROOM_INDEX}
use Rattle.machine.specs.Contents.{Contents, room_of}
use Rattle.machine.proofs.Frames.{frame_written, room_written_in, room_in, length_written, is_unstarted}
use Rattle.machine.proofs.frame.Frame.area.Goals as goal

pub returns : goal.returns
returns c =
    let items : List ℕ = c.self.inside.flat.items in
    let f : Contents = record { area = drop HEADROOM_INDEX items; length = c.self.inside.length; is_started = c.self.inside.is_started; context = c.self.inside.context; window = c.self.inside.window } in
    let is : f ≡ c.args.self.now = c.self.view_is in
    let len : c.self.inside.flat.len ≡ length items = search rules in
    let value : c.slice_mut.result.now ≡ take MAX_DATAGRAM (drop (HEADROOM_INDEX + HEADROOM) items) = search rules in (
      (refl, λ w. frame_written f c.args.self.now w _ is (room_written_in items w c.self.inside.flat.len len c.self.invariant.long)),
      record { value = value ∙ room_in items ∙ ap room_of is; len = search rules; writes_back = tt },
    )

pub slice_mut-requires-clause-in_bounds : goal.slice_mut-requires-clause-in_bounds
slice_mut-requires-clause-in_bounds c =
    let len : c.self.inside.flat.len ≡ length c.self.inside.flat.items = search rules in
    omega (arith, len, c.self.invariant.long)

pub invariant_of-self-lent : goal.invariant_of-self-lent
invariant_of-self-lent c =
    let len : c.self.inside.flat.len ≡ length c.self.inside.flat.items = search rules in
    λ w. is_unstarted c.self.inside.flat.items _ c.self.inside.stack c.self.inside.stack c.self.inside.length c.self.inside.is_started c.self.inside.window c.self.inside.window c.self.inside.context
    (length_written c.self.inside.flat.items _ c.self.inside.flat.len len ∙ c.self.invariant.long) c.self.invariant.holds.inside c.self.invariant
