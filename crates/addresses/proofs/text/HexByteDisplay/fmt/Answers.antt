use Rattle.std.proofs.Common.{◌<◌, false, arith, rules}
use Rattle.std.proofs.Output.{has_written_of_eq}
use Rattle.std.proofs.lemmas.Fmt.{hex_byte}
use Rattle.addresses.proofs.text.HexByteDisplay.fmt.Goals as goal

pub returns-clause-writes : goal.returns-clause-writes
returns-clause-writes g c = λ p ok.
    let byte : c.args.self.now.0 < 256 = omega arith in
    has_written_of_eq _ _ _ _ _ (hex_byte false c.args.self.now.0 byte) (search rules)
