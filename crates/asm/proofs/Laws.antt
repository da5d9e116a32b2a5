-- What the reader reads of a line is what the line says.
use Rattle.asm.specs.laws.Grammar.{read_line_means, means_read_line}
use Rattle.asm.proofs.Meanings.{ReaderLaws}

pub laws : ReaderLaws
laws = record { means = read_line_means; reads = means_read_line }
