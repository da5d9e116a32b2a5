use Rattle.std.proofs.Common.{◌≡◌, ℕ, suc, ◌+◌, ◌-◌, ◌<◌, ◌≤◌, Bool, false, true, ◌&&◌, sym, ap, ◌∙◌, arith}
use Rattle.absstate.specs.AbstractStates.{is_marked, are_marked}
use Rattle.absstate.specs.declared.abstract_state.InitialisedBytes.{InitialisedBytes}
use Rattle.absstate.proofs.abstract_state.InitialisedBytes.are_set.Goals as goal

whole : (i n : ℕ) → n ≡ i + n - i
whole i n = omega arith

one_more : (i n : ℕ) → i < n → n - i ≡ suc (n - (i + 1))
one_more i n lt = omega arith

next : (i : ℕ) → suc i ≡ i + 1
next i = omega arith

turn : (m : InitialisedBytes) (i n : ℕ) → i < n → are_marked m i (n - i) ≡ (is_marked m i && are_marked m (i + 1) (n - (i + 1)))
turn m i n lt = ap (are_marked m i) (one_more i n lt) ∙ ap (λ (k : ℕ). is_marked m i && are_marked m k (n - (i + 1))) (next i)

nothing_left : (m : InitialisedBytes) (i n : ℕ) → n ≤ i → are_marked m i (n - i) ≡ true
nothing_left m i n le = let none : n - i ≡ 0 = omega arith in ap (are_marked m i) none

pub loop-i-init : goal.loop-i-init
loop-i-init c = ap (are_marked c.args.self.now c.args.index) (whole c.args.index c.args.n)

pub loop-i-preserved : goal.loop-i-preserved
loop-i-preserved c =
    let bit : is_marked c.args.self.now c.loop-i.i ≡ true = sym c.is_set.ensures ∙ c.if-not-is_set.false in
    c.loop-i.invariant ∙ turn c.args.self.now c.loop-i.i (c.args.index + c.args.n) c.loop-i-test.true
    ∙ ap (λ (b : Bool). b && are_marked c.args.self.now (c.loop-i.i + 1) (c.args.index + c.args.n - (c.loop-i.i + 1))) bit

pub returns-then-not-is_set : goal.returns-then-not-is_set
returns-then-not-is_set c =
    let bit : is_marked c.args.self.now c.loop-i.i ≡ false = sym c.is_set.ensures ∙ c.if-not-is_set.true in
    sym (c.loop-i.invariant ∙ turn c.args.self.now c.loop-i.i (c.args.index + c.args.n) c.loop-i-test.true
    ∙ ap (λ (b : Bool). b && are_marked c.args.self.now (c.loop-i.i + 1) (c.args.index + c.args.n - (c.loop-i.i + 1))) bit)

pub returns : goal.returns
returns c = sym (c.loop-i.invariant ∙ nothing_left c.args.self.now c.loop-i.i (c.args.index + c.args.n) c.loop-i-test.false)
