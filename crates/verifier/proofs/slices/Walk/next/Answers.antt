use Rattle.std.proofs.Common.{◌≡◌, suc, ◌-◌, ◌++◌, ◌∷◌, [], List, Some, length, refl, sym, ap, ◌∙◌, arith}
use Rattle.std.specs.Prelude.{slice_get}
use Rattle.std.proofs.lemmas.List.{length-append}
use Rattle.verifier.specs.Slices.{Walking}
use Rattle.verifier.specs.Walk.{state_to_follow, waiting_states}
use Rattle.verifier.specs.declared.walk.Path.{Path}
use Rattle.verifier.specs.declared.walk.Pending.{Pending}
use Rattle.verifier.proofs.slices.Walk.next.Goals as goal

last_of : {A : Type 0} (xs : List A) (x : A) → slice_get (xs ++ x ∷ []) (length (xs ++ x ∷ []) - 1) ≡ Some x
last_of [] x = refl
last_of (y ∷ ys) x =
    let at : length (y ∷ (ys ++ x ∷ [])) - 1 ≡ suc (length (ys ++ x ∷ []) - 1) = omega (arith, length-append ys (x ∷ [])) in
    ap (slice_get (y ∷ (ys ++ x ∷ []))) at ∙ last_of ys x

pub returns-in-Continues : goal.returns-in-Continues
returns-in-Continues g c =
    let waits : c.args.self.now.waits ≡ c.self.inside.at.pending.items ++ c.self.inside.at.here.value ∷ [] =
    ap (λ (w : Walking g.row.D.Denot). w.waits) (sym c.self.view_is) ∙ ap (λ (path : Path). waiting_states (state_to_follow path c.self.inside.at.here.value) c.self.inside.at.pending.items) c.in-Continues.is in
    ap (λ (p : Pending g.row.D.Denot). Some p) c.deref.ensures ∙ sym (ap (λ (xs : List (Pending g.row.D.Denot)). slice_get xs (length xs - 1)) waits ∙ last_of c.self.inside.at.pending.items c.self.inside.at.here.value)
