use Rattle.std.proofs.Common.{◌≡◌, rules, to_z, of_z, w32, w64}
use Rattle.std.proofs.lemmas.List.{append_assoc}
use Rattle.explaining.proofs.text.DatagramPlaceDisplay.fmt.Goals as goal

pub returns-in-Variable-clause-writes : goal.returns-in-Variable-clause-writes
returns-in-Variable-clause-writes g c =
    let low : to_z w32 (of_z w32 c.in-Variable.low) ≡ c.in-Variable.low = search rules in
    let high : to_z w32 (of_z w32 c.in-Variable.high) ≡ c.in-Variable.high = search rules in
    let offset : to_z w64 (of_z w64 c.from.result) ≡ c.args.self.now.offset = search rules in
    let writes = rw (low, high, offset) at c.write-in-Variable.ensures.writes in
    rw c.in-Variable.is (simp append_assoc writes)
