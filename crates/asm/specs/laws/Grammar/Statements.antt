-- Internal. What tokens say, the reader reads from them, and nothing else.
use Rattle.std.proofs.Common.{◌≡◌, List, [], ◌∷◌, map, Option, Some, None, refl, sym, ap, ◌∙◌, subst}
use Rattle.std.specs.Prelude.{codes, bytes_eq, option_map}
use Rattle.std.proofs.lemmas.Bool.{cond-false}
use Rattle.std.proofs.lemmas.Option.{same_Some}
use Rattle.insn.specs.Spelling.{mnemonic, arguments}
use Rattle.insn.specs.declared.instruction.Insn.{Insn}
use Rattle.asm.specs.Lines.{Token}
use Rattle.asm.specs.Statements.{Name, spelling_of, Statement, Labelled, Instruction, IsInstruction, Says}
use Rattle.asm.specs.Reading.{sign, end, name_in, mnemonic_named, instruction, label, statement, label_or, said_by}
use Rattle.asm.specs.laws.Grammar.Steps.{bound, preimage, onward}
use Rattle.asm.specs.laws.Grammar.Words.{named_name, name_is_named}
use Rattle.asm.specs.laws.Grammar.Mnemonics.{named_mnemonic, mnemonic_is_named}
use Rattle.asm.specs.laws.Grammar.Arguments.{sign_taken}
use Rattle.asm.specs.laws.Grammar.Shapes.{no_more}
use Rattle.asm.specs.laws.Grammar.Instructions.{instruction_taken, instruction_given, mnemonic_of, name_of-mnemonic_of}
use Rattle.asm.specs.laws.Grammar.StatementTokens.{AreOfArguments, arguments_tokens}

-- ---- from the tokens to what they say

-- an instruction that is read is one that the tokens spell
statement_taken : (t : Token) (ts : List Token) (s : Statement) → statement t ts ≡ Some s → Says (Some s) (t ∷ ts)
statement_taken t ts s e =
    let m = bound (mnemonic_named t) _ s e in
    let found = instruction_taken m.0 ts s m.2 in
    let name : t ≡ mnemonic found.0 = sym (found.3 ∙ named_mnemonic t m.0 m.1) in
    let is : IsInstruction found.0 found.1 (t ∷ ts) =
    record { unlinked = found.4.0; rest = ts; begun = ap (λ (u : Token). u ∷ ts) name; written = found.4.1 } in
    subst (λ (x : Statement). Says (Some x) (t ∷ ts)) (sym found.2) is

-- a label that is read is one that the tokens spell
label_taken : (t : Token) (ts rest : List Token) (s : Statement) → ts ≡ codes ":" ∷ rest → label t rest ≡ Some s
    → Says (Some s) (t ∷ ts)
label_taken t ts rest s colon e =
    let n = bound (name_in t) _ s e in
    let done = bound (end rest) _ s n.2 in
    let name = named_name t n.0 n.1 in
    let after : ts ≡ codes ":" ∷ [] = colon ∙ ap (λ (us : List Token). codes ":" ∷ us) (no_more rest done.1) in
    let all : t ∷ ts ≡ n.0 ∷ codes ":" ∷ [] =
    ap (λ (u : Token). u ∷ ts) name.0 ∙ ap (λ (us : List Token). n.0 ∷ us) after in
    subst (λ (x : Statement). Says (Some x) (t ∷ ts)) (same_Some _ s done.2) (all, name.1)

-- likewise a label or an instruction, as the second token says
label_or_taken : (t : Token) (ts : List Token) (o : Option (List Token)) (s : Statement) → sign (codes ":") ts ≡ o
    → label_or o t ts ≡ Some s → Says (Some s) (t ∷ ts)
label_or_taken t ts (Some rest) s colon e = label_taken t ts rest s (sign_taken (codes ":") ts rest colon) e
label_or_taken t ts None s colon e = statement_taken t ts s e

-- what the reader reads from tokens, they say
pub read_is_said : (ts : List Token) (option : Option Statement) → said_by ts ≡ Some option → Says option ts
read_is_said [] option e = subst (λ (a : Option Statement). Says a []) (same_Some None option e) refl
read_is_said (t ∷ ts) a e =
    let found = preimage Some (label_or (sign (codes ":") ts) t ts) a e in
    let says = label_or_taken t ts (sign (codes ":") ts) found.0 refl found.1 in
    subst (λ (option : Option Statement). Says option (t ∷ ts)) (sym found.2) says

-- ---- from what tokens say to the reader

-- arguments don't begin with a `:`
no_label : (ts : List Token) → AreOfArguments ts → sign (codes ":") ts ≡ None
no_label [] h = refl
no_label (t ∷ ts) h = cond-false (bytes_eq t (codes ":")) (Some ts) None h.0.1

-- an instruction that the tokens spell is read
statement_given : (i : Insn) (target : Option Name) (ts : List Token) (h : IsInstruction i target ts)
    → statement (mnemonic i) h.rest ≡ Some (Instruction i target)
statement_given i target ts h =
    onward (mnemonic_named (mnemonic i)) (λ m. instruction m h.rest) (mnemonic_of i) _
    (ap mnemonic_named (sym (name_of-mnemonic_of i)) ∙ mnemonic_is_named (mnemonic_of i))
    (instruction_given i target h.rest (h.unlinked, h.written))

-- what tokens say, the reader reads from them
pub said_is_read : (a : Option Statement) (ts : List Token) → Says a ts → said_by ts ≡ Some a
said_is_read None ts h = ap said_by h
said_is_read (Some (Labelled name)) ts h =
    ap said_by h.0 ∙ ap (option_map Some) (onward (name_in name) _ name _ (name_is_named name h.1) refl)
said_is_read (Some (Instruction i target)) ts h =
    ap said_by h.begun
    ∙ ap (λ (o : Option (List Token)). option_map Some (label_or o (mnemonic i) h.rest))
    (no_label h.rest (arguments_tokens (map (spelling_of target) (arguments i)) h.rest h.written))
    ∙ ap (option_map Some) (statement_given i target ts h)
