-- Internal. Registers and names: the reader knows a word where the grammar has it.
use Rattle.std.proofs.Common.{◌≡◌, ◌∙◌, ℕ, Bool, true, false, ◌&&◌, [], ◌∷◌, length, Some, None, refl, sym, subst, arith}
use Rattle.std.specs.Prelude.{bytes_eq, nat_le}
use Rattle.std.specs.List.{list_all}
use Rattle.std.specs.Fmt.{digits}
use Rattle.std.proofs.lemmas.Bool.{cond-true, and_parts, and_from, or_left, leb-true, le-leb}
use Rattle.std.proofs.lemmas.Bool.Decides.{nat_tests}
use Rattle.std.proofs.lemmas.Option.{cond_some}
use Rattle.std.proofs.lemmas.Slice.Eq.{bytes_eq-Decides}
use Rattle.insn.specs.Spelling.{register_name}
use Rattle.insn.specs.declared.register.Reg.{Reg}
use Rattle.insn.specs.declared.register.Reg.TheVariants.{R0}
use Rattle.asm.specs.declared.parser.TheConstants.{MAX_NAME}
use Rattle.asm.specs.Lines.{Token, begins_name, is_in_names, is_in_words, IsWord}
use Rattle.asm.specs.Statements.{Name, IsName}
use Rattle.asm.specs.Reading.{register_text, register_named, all_registers, is_name, name_in, number_of_token}
use Rattle.asm.specs.laws.Grammar.Steps.{found_passes, each_passes, all_pass, each_also}

-- ---- texts

-- texts that are equal by the test are equal
pub same_text : (t u : Token) → bytes_eq t u ≡ true → t ≡ u
same_text t u e = (bytes_eq-Decides t u).0 e

-- one character or more, each of words
abbrev pub is_word : Token → Bool
is_word [] = false
is_word (c ∷ rest) = list_all is_in_words (c ∷ rest)

-- a text that passes the test is a word
pub word_by_test : (t : Token) → is_word t ≡ true → IsWord t
word_by_test [] e = absurd cc
word_by_test (c ∷ rest) e = ((λ same. absurd cc), each_passes is_in_words (c ∷ rest) e)

-- ---- registers

-- a register's name is that of the register and a word, and no number
register_facts : (r : Reg) → (register_named (register_name r) ≡ Some r) × (is_word (register_name r) ≡ true)
    × (number_of_token (register_name r) ≡ None)
unfolding digits
register_facts R0 = (refl, refl, refl)
register_facts _ = (refl, refl, refl)

-- the name of a register names it
pub register_is_named : (r : Reg) → register_named (register_name r) ≡ Some r
register_is_named r = (register_facts r).0

-- the name of a register is no number
pub register_has_no_number : (r : Reg) → number_of_token (register_name r) ≡ None
register_has_no_number r = (register_facts r).2

-- the name of a register is a word
pub register_is_word : (r : Reg) → IsWord (register_name r)
register_is_word r = word_by_test (register_name r) (register_facts r).1

-- the text of a register is its name
text_is_name : (r : Reg) → register_name r ≡ register_text r
unfolding digits
text_is_name R0 = refl
text_is_name _ = refl

-- a word that names a register is its name
pub named_register : (t : Token) (r : Reg) → register_named t ≡ Some r → t ≡ register_name r
named_register t r e = sym (text_is_name r ∙ same_text (register_text r) t (found_passes (λ x. bytes_eq (register_text x) t) all_registers r e))

-- ---- names

-- a name passes the test
pub name_is_named : (n : Name) → IsName n → name_in n ≡ Some n
name_is_named [] h = absurd h
name_is_named (c ∷ rest) h = cond-true (is_name (c ∷ rest)) (Some (c ∷ rest)) None
    (and_from _ _ h.0 (and_from _ _ (all_pass is_in_names rest h.1) (le-leb _ _ h.2)))

-- a word that passes the test is a name
name_by_test : (n : Name) → is_name n ≡ true → IsName n
name_by_test [] e = absurd cc
name_by_test (c ∷ rest) e =
    let first = and_parts (begins_name c) (list_all is_in_names rest && nat_le (length (c ∷ rest)) MAX_NAME) e in
    let others = and_parts (list_all is_in_names rest) (nat_le (length (c ∷ rest)) MAX_NAME) first.1 in
    (first.0, each_passes is_in_names rest others.0, leb-true _ _ others.1)

-- a word that is read as a name is that name
pub named_name : (t : Token) (n : Name) → name_in t ≡ Some n → (t ≡ n) × IsName n
named_name t n e =
    let parts = cond_some (is_name t) t n e in
    (parts.1, subst IsName parts.1 (name_by_test t parts.0))

-- what begins a name may be further on
begins_and_is_in : (c : ℕ) → begins_name c ≡ true → is_in_names c ≡ true
begins_and_is_in c e = grind (arith, nat_tests)

-- a name is a word
pub name_is_word : (n : Name) → IsName n → IsWord n
name_is_word [] h = absurd h
name_is_word (c ∷ rest) h =
    ((λ same. absurd cc), (or_left _ _ (begins_and_is_in c h.0), each_also (λ d e. or_left _ _ e) rest h.1))
