use Rattle.std.proofs.Common.{◌≡◌, ◌≤◌, length}
use Rattle.insn.specs.declared.decoding.TheConstants.{MAX_SLOTS}
use Rattle.explaining.specs.Tables.{IsTableFrom}
use Rattle.explaining.proofs.longest.longest_path.Given as goal

abbrev pub invariant-slots : goal.invariant-slots
invariant-slots l = record {
  inside : l.slot ≤ MAX_SLOTS;
  count : length l.counts.items ≡ MAX_SLOTS;
  table : IsTableFrom l.program l.slot l.counts.items;
}

abbrev pub decreases-slots : goal.decreases-slots
decreases-slots l = l.slot
