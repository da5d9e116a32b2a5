-- Internal. The spelling of an instruction: a line that says the instruction.
use Rattle.std.proofs.Common.{Some, None, refl, subst}
use Rattle.std.specs.Prelude.{codes}
use Rattle.std.specs.List.{AllByRecursion}
use Rattle.insn.specs.Spelling.{argument_of, mnemonic, arguments, following_arguments, spelling}
use Rattle.insn.specs.Encoding.{OperandFits, Fits}
use Rattle.insn.specs.declared.instruction.Operand.{Operand}
use Rattle.insn.specs.declared.instruction.Operand.TheVariants as operand
use Rattle.insn.specs.declared.instruction.Insn.{Insn}
use Rattle.insn.specs.declared.instruction.Insn.TheVariants.{Alu, Mov, Neg, SignExtend, Swap, Jump, LongJump, JumpIf, Load, LoadSigned, Store, LoadImm, Call, Exit}
use Rattle.asm.specs.Lines.{IsWord}
use Rattle.asm.specs.Statements.{Instruction, IsInstruction}
use Rattle.asm.specs.Programs.{Means}
use Rattle.asm.specs.Reading.{tokens_of}
use Rattle.asm.specs.laws.Grammar.Mnemonics.{mnemonic_is_word}
use Rattle.asm.specs.laws.Grammar.Instructions.{mnemonic_of, name_of-mnemonic_of}
use Rattle.asm.specs.laws.Grammar.StatementTokens.{said_tokens}
use Rattle.asm.specs.laws.Grammar.Tokens.{found_is_had}
use Rattle.asm.specs.laws.Grammar.Tokens.{word_read}
use Rattle.asm.specs.laws.Listing.Words.{HasNoFeed, word_has_no_feed, offset_is_short, imm_is_short}
use Rattle.asm.specs.laws.Listing.Arguments.{IsSmall, arguments_written, ends_at_arguments, both_have_no_feed, arguments_have_no_feed}

-- ---- the numbers of an instruction

-- an operand that fits is small
operand_is_small : (o : Operand) → OperandFits o → IsSmall (argument_of o)
operand_is_small (operand.Reg r) a = tt
operand_is_small (operand.Imm n) a = imm_is_short n a

-- and so is each argument of an instruction that fits
arguments_are_small : (i : Insn) → Fits i → AllByRecursion IsSmall (arguments i)
arguments_are_small (Alu width op dst o) h = (tt, (operand_is_small o h, tt))
arguments_are_small (Mov width dst o) h = (tt, (operand_is_small o h, tt))
arguments_are_small (Neg width dst) h = (tt, tt)
arguments_are_small (SignExtend e dst src) h = (tt, (tt, tt))
arguments_are_small (Swap op size dst) h = (tt, tt)
arguments_are_small (Jump distance) h = (offset_is_short distance h, tt)
arguments_are_small (LongJump distance) h = (imm_is_short distance h, tt)
arguments_are_small (JumpIf width c dst o distance) h =
    (tt, (operand_is_small o h.0, (offset_is_short distance h.1, tt)))
arguments_are_small (Load size dst base displacement) h = (tt, (offset_is_short displacement h, tt))
arguments_are_small (LoadSigned size dst base displacement) h = (tt, (offset_is_short displacement h, tt))
arguments_are_small (Store size base o displacement) h =
    (offset_is_short displacement h.1, (operand_is_small o h.0, tt))
arguments_are_small (LoadImm dst value) h = (tt, (h, tt))
arguments_are_small (Call helper) h = (imm_is_short helper h, tt)
arguments_are_small Exit h = tt

-- ---- the line of an instruction

-- the mnemonic of an instruction is a word
mnemonic_word : (i : Insn) → IsWord (mnemonic i)
mnemonic_word i = subst IsWord (name_of-mnemonic_of i) (mnemonic_is_word (mnemonic_of i))

-- the tokens of a spelling are those of the instruction
spelling_is_instruction : (i : Insn) → Fits i → IsInstruction i None (tokens_of (spelling i))
spelling_is_instruction i fits = record {
  unlinked = tt;
  rest = tokens_of (following_arguments (codes " ") (arguments i));
  begun = word_read (mnemonic i) (following_arguments (codes " ") (arguments i)) (mnemonic_word i)
      (ends_at_arguments (arguments i));
  written = arguments_written (arguments i) (arguments_are_small i fits);
}

-- a spelling says its instruction
pub spelling_means : (i : Insn) → Fits i → Means (spelling i) (Some (Instruction i None))
spelling_means i fits =
    let says = spelling_is_instruction i fits in
    let proper = said_tokens (Some (Instruction i None)) (tokens_of (spelling i)) says in
    record { tokens = tokens_of (spelling i); has = found_is_had (spelling i) proper; says = says }

-- a spelling is one line
pub spelling_has_no_feed : (i : Insn) → Fits i → HasNoFeed (spelling i)
spelling_has_no_feed i fits =
    let all = arguments_are_small i fits in
    both_have_no_feed (mnemonic i) (following_arguments (codes " ") (arguments i))
    (word_has_no_feed (mnemonic i) (mnemonic_word i)) (arguments_have_no_feed (codes " ") (arguments i) (refl, tt) all)
