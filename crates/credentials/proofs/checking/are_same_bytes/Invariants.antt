-- The bytes so far are the same, or two of them differ.
use Rattle.std.proofs.Common.{◌≡◌, true, take}
use Rattle.credentials.proofs.checking.are_same_bytes.Given as goal

abbrev pub invariant-loop-i : goal.invariant-loop-i
invariant-loop-i l = (l.same ≡ true → take l.i l.made ≡ take l.i l.integrity) × (l.made ≡ l.integrity → l.same ≡ true)
