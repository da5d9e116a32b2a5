use Rattle.std.proofs.Common.{◌≡◌, ◌+◌, ◌-◌, ◌≤◌, ◌++◌, ℕ, List, length, take, drop, ap, ◌∙◌, arith}
use Rattle.std.proofs.lemmas.List.{length-drop}
use Rattle.semantics.specs.Machine.{datagram_area}
use Rattle.semantics.specs.declared.limits.TheConstants.{HEADROOM, TAILROOM}
use Rattle.flat.specs.declared.layout.TheConstants.{HEADROOM_INDEX}
use Rattle.machine.proofs.Frames.{all_written, all_from_headroom}
use Rattle.machine.proofs.frame.surround_in.Goals as goal

pub returns : goal.returns
returns c =
    let flat : List ℕ = c.args.flat.now in
    let le : HEADROOM_INDEX ≤ length flat = omega (arith, c.requires) in
    let whole : take (length flat - HEADROOM_INDEX) (drop HEADROOM_INDEX flat) ≡ drop HEADROOM_INDEX flat = all_from_headroom flat in
    all_written flat c.surround.new.bytes le (c.surround.auto.bytes ∙ ap length whole ∙ length-drop HEADROOM_INDEX flat)
    ∙ c.surround.ensures ∙ ap (λ (a : List ℕ). datagram_area (take c.args.n (drop HEADROOM a)) ++ drop (HEADROOM + TAILROOM + c.args.n) a) whole
