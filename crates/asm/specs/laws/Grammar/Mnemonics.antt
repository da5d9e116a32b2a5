-- Internal. Mnemonics: the reader knows a word as a mnemonic where it is the mnemonic's name.
use Rattle.std.proofs.Common.{◌≡◌, ◌-◌, true, List, ◌++◌, length, take, drop, Some, inl, inr, refl, sym, ap, ◌∙◌, append-nil}
use Rattle.std.specs.Prelude.{codes, bytes_eq, option_map}
use Rattle.std.proofs.lemmas.Bool.{cases_Bool, cond-true, cond-false}
use Rattle.std.proofs.lemmas.List.{take-append-drop}
use Rattle.insn.specs.Spelling.{operator_name, condition_name, width_suffix}
use Rattle.insn.specs.declared.width.Width.{Width}
use Rattle.insn.specs.declared.width.Width.TheVariants.{W32, W64}
use Rattle.insn.specs.declared.operator.AluOp.{AluOp}
use Rattle.insn.specs.declared.operator.AluOp.TheVariants as operator
use Rattle.insn.specs.declared.operator.Extension.TheVariants as extension
use Rattle.insn.specs.declared.operator.SwapOp.TheVariants as order
use Rattle.insn.specs.declared.condition.Condition.{Condition}
use Rattle.insn.specs.declared.condition.Condition.TheVariants as condition
use Rattle.insn.specs.declared.size.Size.TheVariants as size
use Rattle.insn.specs.declared.size.SignedSize.TheVariants as signed
use Rattle.insn.specs.declared.size.SwapSize.TheVariants as swap
use Rattle.asm.specs.declared.mnemonic.Mnemonic.{Mnemonic}
use Rattle.asm.specs.declared.mnemonic.Mnemonic.TheVariants.{Alu, Mov, Neg, SignExtend, Swap, JumpIf, Load, LoadSigned, StoreImm, StoreReg}
use Rattle.asm.specs.Lines.{Token, IsWord}
use Rattle.asm.specs.Reading.{name_of, mnemonic_named, mnemonic_among, conversion_mnemonics, control_mnemonics, memory_mnemonics, operators, conditions, operator_named, condition_named, or_else, of_width, by_width}
use Rattle.asm.specs.laws.Grammar.Steps.{preimage, either, tested_first, found_passes}
use Rattle.asm.specs.laws.Grammar.Words.{same_text, is_word, word_by_test}

-- ---- from a mnemonic to its name

-- the name of a mnemonic names it, and is a word
mnemonic_facts : (m : Mnemonic) → (mnemonic_named (name_of m) ≡ Some m) × (is_word (name_of m) ≡ true)
mnemonic_facts (Alu W32 operator.Add) = (refl, refl)
mnemonic_facts (Alu W64 operator.Add) = (refl, refl)
mnemonic_facts (Mov W32) = (refl, refl)
mnemonic_facts (Neg W32) = (refl, refl)
mnemonic_facts (SignExtend extension.ByteTo32) = (refl, refl)
mnemonic_facts (Swap order.ToLittle swap.Half) = (refl, refl)
mnemonic_facts (Swap order.ToBig swap.Half) = (refl, refl)
mnemonic_facts (Swap order.Reverse swap.Half) = (refl, refl)
mnemonic_facts (JumpIf W32 condition.Eq) = (refl, refl)
mnemonic_facts (JumpIf W64 condition.Eq) = (refl, refl)
mnemonic_facts (Load size.Byte) = (refl, refl)
mnemonic_facts (LoadSigned signed.Byte) = (refl, refl)
mnemonic_facts (StoreImm size.Byte) = (refl, refl)
mnemonic_facts (StoreReg size.Byte) = (refl, refl)
mnemonic_facts _ = (refl, refl)

-- the name of a mnemonic names it
pub mnemonic_is_named : (m : Mnemonic) → mnemonic_named (name_of m) ≡ Some m
mnemonic_is_named m = (mnemonic_facts m).0

-- the name of a mnemonic is a word
pub mnemonic_is_word : (m : Mnemonic) → IsWord (name_of m)
mnemonic_is_word m = word_by_test (name_of m) (mnemonic_facts m).1

-- ---- from a word to the mnemonic that it names

-- a word that names an operator is its name
named_operator : (t : Token) (op : AluOp) → operator_named t ≡ Some op → operator_name op ≡ t
named_operator t op e =
    same_text (operator_name op) t (found_passes (λ x. bytes_eq (operator_name x) t) operators op e)

-- likewise a condition
named_condition : (t : Token) (c : Condition) → condition_named t ≡ Some c → condition_name c ≡ t
named_condition t c e =
    same_text (condition_name c) t (found_passes (λ x. bytes_eq (condition_name x) t) conditions c e)

-- likewise a mnemonic among some
named_among : (all : List Mnemonic) (t : Token) (m : Mnemonic) → mnemonic_among all t ≡ Some m → name_of m ≡ t
named_among all t m e = same_text (name_of m) t (found_passes (λ x. bytes_eq (name_of x) t) all m e)

-- a name, and the suffix of its width
abbrev with_suffix : Width → Token → Token
with_suffix width t = t ++ width_suffix width

-- an operation of a width has the name of the operation
named_operation : (width : Width) (t : Token) (m : Mnemonic)
    → or_else (option_map (Alu width) (operator_named t)) (option_map (JumpIf width) (condition_named t)) ≡ Some m
    → name_of m ≡ with_suffix width t
named_operation width t m e = elim (either (option_map (Alu width) (operator_named t)) _ m e) [
  | inl alu ↦
      let found = preimage (Alu width) (operator_named t) m alu in
      ap name_of found.2 ∙ ap (with_suffix width) (named_operator t found.0 found.1)
  | inr jump ↦
      let found = preimage (JumpIf width) (condition_named t) m jump in
      ap name_of found.2 ∙ ap (with_suffix width) (named_condition t found.0 found.1)
]

-- a mnemonic of a width has the name of the word, and the suffix of the width
named_of_width : (width : Width) (t : Token) (m : Mnemonic) → of_width width t ≡ Some m
    → name_of m ≡ with_suffix width t
named_of_width width t m e = elim (tested_first (bytes_eq t (codes "mov")) (Mov width) m _ e) [
  | inl mov ↦ ap name_of (sym mov.1) ∙ ap (with_suffix width) (sym (same_text t (codes "mov") mov.0))
  | inr others ↦ elim (tested_first (bytes_eq t (codes "neg")) (Neg width) m _ others) [
    | inl neg ↦ ap name_of (sym neg.1) ∙ ap (with_suffix width) (sym (same_text t (codes "neg") neg.0))
    | inr operation ↦ named_operation width t m operation
  ]
]

-- a mnemonic by its width has the name of the word
named_by_width : (t : Token) (m : Mnemonic) → by_width t ≡ Some m → name_of m ≡ t
named_by_width t m e =
    let front : Token = take (length t - 3) t in
    let suffix : Token = drop (length t - 3) t in
    elim (cases_Bool (bytes_eq suffix (codes ".32"))) [
      | inl short ↦
          named_of_width W32 front m (sym (cond-true (bytes_eq suffix (codes ".32")) _ _ short) ∙ e)
          ∙ ap (λ (u : Token). front ++ u) (sym (same_text suffix (codes ".32") short))
          ∙ take-append-drop (length t - 3) t
      | inr long ↦
          named_of_width W64 t m (sym (cond-false (bytes_eq suffix (codes ".32")) _ _ long) ∙ e) ∙ append-nil t
    ]

-- a word that names a mnemonic is its name
pub named_mnemonic : (t : Token) (m : Mnemonic) → mnemonic_named t ≡ Some m → name_of m ≡ t
named_mnemonic t m e = elim (either (mnemonic_among conversion_mnemonics t) _ m e) [
  | inl conversion ↦ named_among conversion_mnemonics t m conversion
  | inr others ↦ elim (either (mnemonic_among control_mnemonics t) _ m others) [
    | inl control ↦ named_among control_mnemonics t m control
    | inr more ↦ elim (either (mnemonic_among memory_mnemonics t) _ m more) [
      | inl memory ↦ named_among memory_mnemonics t m memory
      | inr operation ↦ named_by_width t m operation
    ]
  ]
]
