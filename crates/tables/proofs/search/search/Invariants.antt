use Rattle.std.proofs.Common.{◌-◌, ◌≡◌, ℕ, ◌+◌, ◌^◌, ◌<◌, ◌≤◌, length, get_or}
use Rattle.std.specs.declared.cmp.Ordering.TheVariants.{Less, Greater}
use Rattle.tables.proofs.search.search.Given as goal

abbrev pub invariant-loop-low : goal.invariant-loop-low
invariant-loop-low g l =
    record {
      within : l.high ≤ length l.rows;
      apart : l.low ≤ l.high;
      below : (k : ℕ) (d : _) → k < l.low → g.R.Keyed.order (get_or l.rows k d) l.key ≡ Less;
      above : (k : ℕ) (d : _) → l.high ≤ k → k < length l.rows → g.R.Keyed.order (get_or l.rows k d) l.key ≡ Greater;
      count : (k : ℕ) → length l.rows < 2 ^ k → (g.C.Count.count l.keys ≤ g.C.Count.count l.initial.keys + k) × (l.high - l.low < 2 ^ (g.C.Count.count l.initial.keys + k - g.C.Count.count l.keys));
    }

abbrev pub decreases-loop-low : goal.decreases-loop-low
decreases-loop-low g l = l.high - l.low
