use Rattle.std.proofs.Common.{◌≡◌, ◌+◌, ◌-◌, ◌≤◌, ℕ, List, length, take, drop, sym, ap, ◌∙◌, subst, arith}
use Rattle.std.proofs.lemmas.List.{length-drop, length-take-le}
use Rattle.semantics.specs.Views.{memory_with}
use Rattle.semantics.specs.declared.limits.TheConstants.{HEADROOM, TAILROOM}
use Rattle.flat.specs.declared.layout.TheConstants.{HEADROOM_INDEX}
use Rattle.machine.specs.Execution.{IsWholeRun, traced_environment}
use Rattle.machine.proofs.Frames.{part_end, part_is_new, rest_is_old}
use Rattle.machine.proofs.tracing.execute_in.Goals as goal

part_length : (n : ℕ) (flat : List ℕ) → HEADROOM_INDEX + (HEADROOM + TAILROOM + n) ≤ length flat → length (take (HEADROOM_INDEX + HEADROOM + TAILROOM + n - HEADROOM_INDEX) (drop HEADROOM_INDEX flat)) ≡ HEADROOM + TAILROOM + n
part_length n flat room = ap (λ (k : ℕ). length (take k (drop HEADROOM_INDEX flat))) (same n) ∙ length-take-le (HEADROOM + TAILROOM + n) (drop HEADROOM_INDEX flat) (omega (arith, room, length-drop HEADROOM_INDEX flat))
  where
    same : (n : ℕ) → HEADROOM_INDEX + HEADROOM + TAILROOM + n - HEADROOM_INDEX ≡ HEADROOM + TAILROOM + n
    same n = omega arith

pub returns-clause-run : goal.returns-clause-run
returns-clause-run g c =
    let n : ℕ = c.args.given.now.length in
    let flat : List ℕ = c.args.flat.now in
    let new : List ℕ = c.execute.new.bytes in
    let long : length new ≡ HEADROOM + TAILROOM + n = c.execute.auto.bytes ∙ part_length n flat c.requires.room in
    let Walks : List ℕ → List ℕ → Type 0 = λ old left. IsWholeRun g.S.Sink.Logs (traced_environment g.H.Helpers.answers c.args.given.now) c.args.given.now.code.now (memory_with c.args.stack.now old n) (memory_with c.execute.new.stack left n) c.execute.new.plan (g.S.Sink.log c.args.sink.now) (g.S.Sink.log c.execute.new.sink) c.execute.result in
    subst (λ (left : List ℕ). Walks (take (HEADROOM + TAILROOM + n) (drop HEADROOM_INDEX flat)) left) (sym (part_is_new n flat new c.requires.room long))
    (subst (λ (k : ℕ). Walks (take k (drop HEADROOM_INDEX flat)) new) (part_end n flat new c.requires.room long) c.execute.ensures.run)

pub returns-clause-beyond : goal.returns-clause-beyond
returns-clause-beyond g c =
    let n : ℕ = c.args.given.now.length in
    rest_is_old n c.args.flat.now c.execute.new.bytes c.requires.room (c.execute.auto.bytes ∙ part_length n c.args.flat.now c.requires.room)
