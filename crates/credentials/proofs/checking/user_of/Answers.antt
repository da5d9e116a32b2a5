use Rattle.std.proofs.Common.{◌≡◌, ◌≢◌, ℕ, [], sym, ap, ◌∙◌, below_more, get_or, false, true}
use Rattle.credentials.specs.Checks.{users_of}
use Rattle.credentials.proofs.Users.{user_at}
use Rattle.credentials.proofs.checking.user_of.Goals as goal

false_is_not_true : false ≡ true → ⊥
false_is_not_true e = absurd cc

pub loop-index-preserved : goal.loop-index-preserved
loop-index-preserved c =
    below_more (λ (k : ℕ). (get_or (users_of c.args.users.now) k ([], [])).0 ≢ c.args.name.now) c.loop-index.index c.loop-index.invariant
    (λ e. false_is_not_true (c.if-has_name.ensures.1 (sym (ap (λ p. p.0) (user_at c.args.users.now c.loop-index.index c.index-users-index.result c.loop-index-test.true c.index-users-index.is)) ∙ e)))
