use Rattle.std.proofs.Common.{◌≡◌, ◌≤◌, ◌+◌, ℕ, sym, ap₂, ◌∙◌, subst, rules, arith}
use Rattle.std.specs.Prelude.{max}
use Rattle.insn.specs.declared.decoding.TheConstants.{MAX_SLOTS}
use Rattle.semantics.specs.Slots.{fetch}
use Rattle.semantics.specs.declared.fetching.Branch.TheVariants.{NotTaken, Taken}
use Rattle.semantics.specs.declared.fetching.Fetched.TheVariants.{Begins}
use Rattle.explaining.specs.LongestPaths.{IsLongestFrom}
use Rattle.explaining.specs.Tables.{count_by}
use Rattle.explaining.proofs.PathTables.{longest_here, short_here}
use Rattle.explaining.proofs.longest.count_from.Goals as goal

pub overflow_add-result : goal.overflow_add-result
overflow_add-result c =
    let here : fetch c.args.program.now c.args.slot ≡ Begins c.in-Begins.insn = sym c.fetch.ensures ∙ c.in-Begins.is in
    let total : c.max.result ≡ max (count_by c.args.program.now c.args.counts.now c.args.slot c.in-Begins.insn NotTaken) (count_by c.args.program.now c.args.counts.now c.args.slot c.in-Begins.insn Taken) =
    c.max.ensures ∙ ap₂ max (c.count_of_next-next.ensures c.args.program.now) c.count_of_target-target.ensures in
    let short : c.max.result + 1 ≤ MAX_SLOTS = omega (arith, total, short_here c.args.program.now c.args.counts.now c.args.slot c.requires.table c.in-Begins.insn here c.requires.inside) in
    search (rules, short)

pub returns-in-Begins-clause-longest : goal.returns-in-Begins-clause-longest
returns-in-Begins-clause-longest c =
    let here : fetch c.args.program.now c.args.slot ≡ Begins c.in-Begins.insn = sym c.fetch.ensures ∙ c.in-Begins.is in
    let total : c.max.result ≡ max (count_by c.args.program.now c.args.counts.now c.args.slot c.in-Begins.insn NotTaken) (count_by c.args.program.now c.args.counts.now c.args.slot c.in-Begins.insn Taken) =
    c.max.ensures ∙ ap₂ max (c.count_of_next-next.ensures c.args.program.now) c.count_of_target-target.ensures in
    subst (λ (n : ℕ). IsLongestFrom c.args.program.now c.args.slot (n + 1)) (sym total) (longest_here c.args.program.now c.args.counts.now c.args.slot c.requires.table c.in-Begins.insn here)

pub returns-in-Begins-clause-short : goal.returns-in-Begins-clause-short
returns-in-Begins-clause-short c =
    let here : fetch c.args.program.now c.args.slot ≡ Begins c.in-Begins.insn = sym c.fetch.ensures ∙ c.in-Begins.is in
    let total : c.max.result ≡ max (count_by c.args.program.now c.args.counts.now c.args.slot c.in-Begins.insn NotTaken) (count_by c.args.program.now c.args.counts.now c.args.slot c.in-Begins.insn Taken) =
    c.max.ensures ∙ ap₂ max (c.count_of_next-next.ensures c.args.program.now) c.count_of_target-target.ensures in
    omega (arith, total, short_here c.args.program.now c.args.counts.now c.args.slot c.requires.table c.in-Begins.insn here c.requires.inside)
