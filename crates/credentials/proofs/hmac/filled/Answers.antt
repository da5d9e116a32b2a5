use Rattle.std.proofs.Common.{ℕ, List, ◌++◌, length, ap, ◌∙◌}
use Rattle.std.proofs.lemmas.List.{drop-replicate}
use Rattle.credentials.proofs.hmac.filled.Goals as goal

pub returns : goal.returns
returns c = c.write_front.ensures ∙ ap (λ (rest : List ℕ). c.args.key.now ++ rest) (drop-replicate (length c.args.key.now) 64 0)
