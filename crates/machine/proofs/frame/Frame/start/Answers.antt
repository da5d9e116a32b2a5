use Rattle.std.proofs.Common.{◌≡◌, ◌+◌, ◌++◌, List, ℕ, length, take, drop, sym, ap, ◌∙◌, subst, true, refl, None}
use Rattle.semantics.specs.Machine.{datagram_area}
use Rattle.semantics.specs.declared.limits.TheConstants.{HEADROOM, TAILROOM}
use Rattle.flat.specs.declared.layout.TheConstants.{HEADROOM_INDEX, AREA_BYTES}
use Rattle.machine.specs.Contents.{Contents, frame_area_size}
use Rattle.machine.specs.FrameFields.{HoldsDatagram}
use Rattle.machine.proofs.Frames.{written, is_frame}
use Rattle.machine.proofs.frame.Frame.start.Goals as goal

pub invariant_of-self : goal.invariant_of-self
invariant_of-self c =
    let old : List ℕ = c.deref_mut.result.now in
    let long : length old ≡ AREA_BYTES = ap length c.deref_mut.ensures.value ∙ c.self.invariant.long in
    let area_long : length (drop HEADROOM_INDEX old) ≡ frame_area_size = ap (λ (l : List ℕ). length (drop HEADROOM_INDEX l)) c.deref_mut.ensures.value ∙ c.self.invariant.holds.long in
    let area = written c.surround_in.new.flat c.self.inside.flat.items c.self.inside.flat.len (c.surround_in.auto.flat ∙ c.deref_mut.ensures.len) in
    record {
      long = ap length area ∙ c.surround_in.auto.flat ∙ long;
      holds = subst (λ (a : List ℕ). HoldsDatagram (drop HEADROOM_INDEX a) c.self.inside.stack c.args.n true None) (sym area)
          (is_frame (drop HEADROOM_INDEX old) (drop HEADROOM_INDEX c.surround_in.new.flat) c.self.inside.stack c.args.n area_long c.requires c.surround_in.ensures);
      is_context = c.law_context.ensures;
    }

pub returns : goal.returns
returns c =
    let area = written c.surround_in.new.flat c.self.inside.flat.items c.self.inside.flat.len (c.surround_in.auto.flat ∙ c.deref_mut.ensures.len) in
    let old_is : drop HEADROOM_INDEX c.deref_mut.result.now ≡ c.args.self.now.area = ap (drop HEADROOM_INDEX) c.deref_mut.ensures.value ∙ ap (λ (f : Contents). f.area) c.self.view_is in
    record {
      area = ap (drop HEADROOM_INDEX) area ∙ c.surround_in.ensures ∙ ap (λ (o : List ℕ). datagram_area (take c.args.n (drop HEADROOM o)) ++ drop (HEADROOM + TAILROOM + c.args.n) o) old_is;
      length = refl;
      is_started = refl;
      context = refl;
      window = refl;
    }
