use Rattle.std.proofs.Common.{◌≡◌, ℕ, List, [], ◌∷◌, ◌++◌, ap, ◌∙◌, append_assoc}
use Rattle.md5.specs.Md5.{md5}
use Rattle.credentials.proofs.key.Key.of.Goals as goal

joined : (u r p : List ℕ) → ((((u ++ 58 ∷ []) ++ r) ++ 58 ∷ []) ++ p) ≡ (u ++ 58 ∷ r) ++ 58 ∷ p
joined u r p = append_assoc ((u ++ 58 ∷ []) ++ r) (58 ∷ []) p ∙ ap (λ (front : List ℕ). front ++ 58 ∷ p) (append_assoc u (58 ∷ []) r)

pub returns : goal.returns
returns c =
    c.finalize.ensures _ (c.update-5.ensures _ (c.update-4.ensures _ (c.update-3.ensures _ (c.update-2.ensures _ (c.update.ensures [] c.new-hasher.ensures)))))
    ∙ ap (λ (r : List ℕ). md5 ((((c.args.user.now ++ 58 ∷ []) ++ r) ++ 58 ∷ []) ++ c.args.password.now)) c.as_bytes.ensures.value
    ∙ ap md5 (joined c.args.user.now c.args.realm.now c.args.password.now)
