use Rattle.std.proofs.Common.{◌≡◌, ℕ, suc, ◌+◌, ◌*◌, ◌-◌, ◌<◌, sym, ap, ◌∙◌, arith}
use Rattle.absstate.specs.AbstractStates.{unmark, unmarked_from}
use Rattle.absstate.specs.declared.abstract_state.InitialisedBytes.{InitialisedBytes}
use Rattle.absstate.proofs.abstract_state.InitialisedBytes.unset_group.Goals as goal

one_more : (i end : ℕ) → i < end → end - i ≡ suc (end - (i + 1))
one_more i end lt = omega (arith, lt)

next : (i : ℕ) → suc i ≡ i + 1
next i = omega arith

-- one byte less is set
turn : (m : InitialisedBytes) (i end : ℕ) → i < end → unmarked_from m i (end - i) ≡ unmarked_from (unmark m i) (i + 1) (end - (i + 1))
turn m i end lt = ap (unmarked_from m i) (one_more i end lt) ∙ ap (λ (k : ℕ). unmarked_from (unmark m i) k (end - (i + 1))) (next i)

pub loop-i-preserved : goal.loop-i-preserved
loop-i-preserved c =
    let end : ℕ = 8 * c.from-first.result + 8 in
    ap (λ (m : InitialisedBytes). unmarked_from m (c.loop-i.i + 1) (end - (c.loop-i.i + 1))) c.unset.ensures
    ∙ sym (turn c.loop-i.self c.loop-i.i end c.loop-i-test.true) ∙ c.loop-i.invariant
