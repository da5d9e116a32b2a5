-- Internal. The reader of a line reads the grammar: what a line is read as, it means, and what it means, it is read as.
pub mod Steps
pub mod Words
pub mod Numbers
pub mod Mnemonics
pub mod Arguments
pub mod Shapes
pub mod Instructions
pub mod StatementTokens
pub mod Statements
pub mod Tokens
use Rattle.std.proofs.Common.{◌≡◌, ℕ, List, Option, Some, sym, ap, ◌∙◌}
use Rattle.std.proofs.lemmas.Option.{same_Some}
use Rattle.asm.specs.Statements.{Statement}
use Rattle.asm.specs.Programs.{Means}
use Rattle.asm.specs.Reading.{tokens_of, said_by, line_statement}
use Rattle.asm.specs.laws.Grammar.StatementTokens.{said_tokens}
use Rattle.asm.specs.laws.Grammar.Statements.{read_is_said, said_is_read}
use Rattle.asm.specs.laws.Grammar.Tokens.{had_is_found, found_is_had}

-- what a line is read as, it means
pub read_line_means : (line : List ℕ) (s : Option Statement) → line_statement line ≡ Some s → Means line s
read_line_means line s e =
    let says = read_is_said (tokens_of line) s e in
    record { tokens = tokens_of line; has = found_is_had line (said_tokens s (tokens_of line) says); says = says }

-- what a line means, it is read as
pub means_read_line : (line : List ℕ) (s : Option Statement) → Means line s → line_statement line ≡ Some s
means_read_line line s m = ap said_by (had_is_found line m.tokens m.has) ∙ said_is_read s m.tokens m.says

-- a line means at most one thing
pub means_once : (line : List ℕ) (s t : Option Statement) → Means line s → Means line t → s ≡ t
means_once line s t m n = same_Some s t (sym (means_read_line line s m) ∙ means_read_line line t n)
