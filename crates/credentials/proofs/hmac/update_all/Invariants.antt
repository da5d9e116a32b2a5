use Rattle.std.proofs.Common.{ℕ, List, ◌++◌, map, take}
use Rattle.std.specs.List.{concat}
use Rattle.sha1.specs.Sha1.{Holds}
use Rattle.credentials.proofs.hmac.update_all.Given as goal

abbrev pub invariant-loop-piece : goal.invariant-loop-piece
invariant-loop-piece l = (m : List ℕ) → Holds l.initial.hash m → Holds l.hash (m ++ concat (map (λ piece. piece.now) (take l.piece-index l.pieces)))
