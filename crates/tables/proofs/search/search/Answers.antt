use Rattle.std.proofs.Common.{◌+◌, ◌-◌, ◌/◌, ◌<◌, length, Ordering, sym, ◌∙◌, arith}
use Rattle.tables.proofs.Searches.{all_less, all_greater, halved, fewer_ticks}
use Rattle.tables.proofs.search.search.Goals as goal

pub loop-low-preserved-in-Less : goal.loop-low-preserved-in-Less
loop-low-preserved-in-Less g c =
    let low = c.loop-low.low in
    let high = c.loop-low.high in
    let made = g.C.Count.count c.loop-low.keys in
    let middle = low + (high - low) / 2 in
    let within : middle < length c.args.rows.now = omega (arith, c.loop-low-test.true, c.loop-low.invariant.within) in
    let order : g.row.R.Denot → Ordering = λ row. g.R.Keyed.order row c.args.key.now in
    record {
      within = c.loop-low.invariant.within;
      apart = omega (arith, c.loop-low-test.true);
      below = all_less order c.args.rows.now c.requires middle c.index-rows-middle.result within c.index-rows-middle.is (sym c.compare.ensures ∙ c.in-Less.is);
      above = c.loop-low.invariant.above;
      count = λ k few. fewer_ticks (g.C.Count.count c.args.keys.now) k made _ (high - (middle + 1)) c.tick.ensures (halved (g.C.Count.count c.args.keys.now) k made (high - low) (high - (middle + 1)) (c.loop-low.invariant.count k few) (omega (arith, c.loop-low-test.true)) (omega (arith, c.loop-low-test.true)));
    }

pub loop-low-preserved : goal.loop-low-preserved
loop-low-preserved g c =
    let low = c.loop-low.low in
    let high = c.loop-low.high in
    let made = g.C.Count.count c.loop-low.keys in
    let middle = low + (high - low) / 2 in
    let within : middle < length c.args.rows.now = omega (arith, c.loop-low-test.true, c.loop-low.invariant.within) in
    let order : g.row.R.Denot → Ordering = λ row. g.R.Keyed.order row c.args.key.now in
    record {
      within = omega (arith, within);
      apart = omega arith;
      below = c.loop-low.invariant.below;
      above = all_greater order c.args.rows.now c.requires middle c.index-rows-middle.result within c.index-rows-middle.is (sym c.compare.ensures ∙ c.in-Greater.is);
      count = λ k few. fewer_ticks (g.C.Count.count c.args.keys.now) k made _ (middle - low) c.tick.ensures
          (halved (g.C.Count.count c.args.keys.now) k made (high - low) (middle - low) (c.loop-low.invariant.count k few) (omega (arith, c.loop-low-test.true)) (omega (arith, c.loop-low-test.true)));
    }
