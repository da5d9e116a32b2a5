use Rattle.std.proofs.Common.{◌≡◌, ℕ, replicate, None, ap, ◌∙◌, arith, rules}
use Rattle.tables.specs.Rows.{slots_at}
use Rattle.tables.proofs.Slots.{slots_at-none}
use Rattle.tables.proofs.storage.Tables.new.Goals as goal

pub returns : goal.returns
returns c =
    let all : c.loop.counter ≡ c.args.slots = omega (arith, c.loop-test.false, c.loop.auto.counter-end) in
    λ i. record { moment = 0; slots = (ap (slots_at 0) c.loop.invariant ∙ slots_at-none 0 c.loop.counter ∙ ap (λ (n : ℕ). replicate n None) all) i }

pub loop-init : goal.loop-init
loop-init c = search rules
