use Rattle.std.proofs.Common.{◌≡◌, ◌+◌, ◌-◌, ℕ, List, sym, ap, ◌∙◌, subst, arith}
use Rattle.std.specs.Prelude.{replicate}
use Rattle.std.proofs.lemmas.List.{length-set}
use Rattle.insn.specs.declared.decoding.TheConstants.{MAX_SLOTS}
use Rattle.explaining.specs.LongestPaths.{IsLongestFrom}
use Rattle.explaining.specs.Tables.{count_at, IsTableFrom}
use Rattle.explaining.proofs.PathTables.{table_at_end, table_with}
use Rattle.explaining.proofs.longest.longest_path.Goals as goal

pub slots-init : goal.slots-init
slots-init c =
    let filled : c.in_ok-counts.counts.items ≡ replicate MAX_SLOTS 0 = c.in_ok-counts.ensures.items_if_clones_equal (λ y is. is) in
    record {
      inside = omega arith;
      count = omega (arith, c.in_ok-counts.ensures.len, c.in_ok-counts.counts.ok.0);
      table = table_at_end c.args.program.now c.in_ok-counts.counts.items c.requires.few filled;
    }

pub slots-preserved : goal.slots-preserved
slots-preserved c =
    let counts = c.slots.counts.items in
    let slot : ℕ = c.slots.slot - 1 in
    let next : c.slots.slot ≡ slot + 1 = omega (arith, c.slots-test.true) in
    let table : IsTableFrom c.args.program.now (slot + 1) counts = subst (λ (n : ℕ). IsTableFrom c.args.program.now n counts) next c.slots.invariant.table in
    record {
      inside = omega (arith, c.slots.invariant.inside);
      count = length-set counts slot c.count_from-count.result ∙ c.slots.invariant.count;
      table = table_with c.args.program.now counts slot c.count_from-count.result table (omega (arith, c.slots.invariant.inside, c.slots.invariant.count, next)) c.count_from-count.ensures.longest c.count_from-count.ensures.short;
    }

pub returns : goal.returns
returns c =
    let first : c.slots.slot ≡ 0 = omega (arith, c.slots-test.false) in
    let value : c.count_at.result ≡ count_at c.slots.counts.items 0 = c.count_at.ensures ∙ ap (λ (all : List ℕ). count_at all 0) c.deref-2.ensures.value in
    subst (IsLongestFrom c.args.program.now 0) (sym value) (c.slots.invariant.table.longest 0 (omega (arith, first)))
