use Rattle.std.proofs.Common.{◌≡◌, ℕ, zero, suc, ◌+◌, ◌<◌, ◌≤◌, List, [], ◌∷◌, ◌++◌, length, replicate, Option, None, refl, sym, ap, ◌∙◌, arith}
use Rattle.std.specs.Prelude.{slice_set}
use Rattle.std.proofs.lemmas.List.{length-replicate}
use Rattle.semantics.specs.Access.{overlay}
use Rattle.semantics.specs.laws.Access.{put_none, put_more}
use Rattle.semantics.proofs.stack.clear_cells.Goals as goal

one_more : (n : ℕ) (x : Option ℕ) → replicate n x ++ x ∷ [] ≡ replicate (suc n) x
one_more zero x = refl
one_more (suc n) x = ap (λ (l : List (Option ℕ)). x ∷ l) (one_more n x)

next : (i : ℕ) → suc i ≡ i + 1
next i = omega arith

-- one cell more is cleared
more : (index i : ℕ) (old new : List (Option ℕ)) → i < 8 → index + 8 ≤ length old → new ≡ overlay index (replicate i None) old → slice_set new (index + i) None ≡ overlay index (replicate (i + 1) None) old
more index i old new lt le e =
    let none : Option ℕ = None in
    ap (λ (l : List (Option ℕ)). slice_set l (index + i) None) e
    ∙ put_more index (index + i) (replicate i None) old None (omega (arith, length-replicate i none)) (omega (arith, lt, le))
    ∙ ap (λ (l : List (Option ℕ)). overlay index l old) (one_more i None ∙ ap (λ (k : ℕ). replicate k none) (next i))

pub loop-i-init : goal.loop-i-init
loop-i-init c = sym (put_none c.args.index c.args.cells.now)

pub loop-i-preserved : goal.loop-i-preserved
loop-i-preserved c = more c.args.index c.loop-i.i c.args.cells.now c.loop-i.cells c.loop-i-test.true c.requires c.loop-i.invariant
