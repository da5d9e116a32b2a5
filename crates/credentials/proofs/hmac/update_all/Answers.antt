use Rattle.std.proofs.Common.{◌≡◌, ℕ, ◌+◌, ◌<◌, List, [], ◌++◌, length, map, take, get_or, Bor, refl, ap, ◌∙◌, subst, append_assoc}
use Rattle.std.specs.List.{concat}
use Rattle.std.proofs.lemmas.List.{take_more, map-append, append-nil}
use Rattle.std.proofs.lemmas.List.Folds.{concat-append}
use Rattle.sha1.specs.Sha1.{Holds}
use Rattle.credentials.proofs.hmac.update_all.Goals as goal

one_more : (m : List ℕ) (pieces : List (Bor (List ℕ))) (i : ℕ) (d : Bor (List ℕ)) → i < length pieces
    → (m ++ concat (map (λ piece. piece.now) (take i pieces))) ++ (get_or pieces i d).now ≡ m ++ concat (map (λ piece. piece.now) (take (i + 1) pieces))
one_more m pieces i d lt =
    append_assoc m (concat (map (λ piece. piece.now) (take i pieces))) (get_or pieces i d).now
    ∙ ap (λ (rest : List ℕ). m ++ rest) (rw (take_more pieces i d lt, map-append, concat-append, append-nil) refl)

pub loop-piece-preserved : goal.loop-piece-preserved
loop-piece-preserved c m held =
    subst (Holds c.update.new.self) (one_more m c.args.pieces.now c.loop-piece.piece-index (record { ref_ptr = (0, 0); now = [] }) c.loop-piece-test.true) (c.update.ensures _ (c.loop-piece.invariant m held))
