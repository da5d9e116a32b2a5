-- Internal. The readers of arguments: each reads a value from the tokens that spell it.
use Rattle.std.proofs.Common.{◌≡◌, ℕ, ℤ, pos, neg_ℤ, List, [], ◌∷◌, ◌++◌, Option, Some, None, inl, inr, refl, sym, ap, ◌∙◌, subst, append_assoc, true}
use Rattle.std.specs.Prelude.{codes, bytes_eq, option_map, IfSome}
use Rattle.std.proofs.lemmas.Bool.{cases_Bool, cond-true, cond-false}
use Rattle.std.proofs.lemmas.Option.{none-some, same_Some, cond_some}
use Rattle.insn.specs.Spelling.{Register, Natural, Address, Distance, argument_of, register_name}
use Rattle.insn.specs.declared.register.Reg.{Reg}
use Rattle.insn.specs.declared.instruction.Operand.{Operand}
use Rattle.insn.specs.declared.instruction.Operand.TheVariants as operand
use Rattle.asm.specs.Lines.{Token}
use Rattle.asm.specs.Statements.{Name, IsNumber, IsSigned, IsInteger, Plain, Label, IsWritten, spelling_of}
use Rattle.asm.specs.Reading.{Parse, sign, word, register_named, name_in, number_of_token, register_in, name, number, signed_number, integer, register_or, operand_in, as_imm, Target, as_distance, name_or, jump_target, MemoryOperand, address}
use Rattle.asm.specs.laws.Grammar.Steps.{bound, preimage, onward}
use Rattle.asm.specs.laws.Grammar.Words.{same_text, register_is_named, named_register, name_is_named, named_name}
use Rattle.asm.specs.laws.Grammar.Numbers.{number_is_numbered, numbered_number, number_is_no_register, number_is_no_minus}

-- ---- definitions

-- what reads a value from the beginning of some tokens
abbrev pub Reader : Type 0 → Type 0
Reader X = List Token → Option (Parse X)

-- a value, and the tokens after it
abbrev pub before : {X : Type 0} → X → List Token → Option (Parse X)
before x rest = Some (record { value = x; rest = rest })

-- the tokens begin with those of a value
abbrev pub IsSpelledFirst : {X : Type 0} → (X → List Token → Type 0) → List Token → Parse X → Type 0
IsSpelledFirst Spells ts parse = (front : List Token) × (ts ≡ front ++ parse.rest) × Spells parse.value front

-- a reader reads a value where the tokens begin with those that spell it, and only there
pub record IsReader {X : Type 0} (reader : Reader X) (Spells : X → List Token → Type 0) : Type 0 where
  pub takes : (ts : List Token) (r : Parse X) → reader ts ≡ Some r → IsSpelledFirst Spells ts r
  pub gives : (x : X) (front rest : List Token) → Spells x front → reader (front ++ rest) ≡ before x rest

-- ---- words

-- a word that is read is first
word_taken : {X : Type 0} (meaning : Token → Option X) (ts : List Token) (parse : Parse X) → word meaning ts ≡ Some parse
    → (t : Token) × (ts ≡ t ∷ parse.rest) × (meaning t ≡ Some parse.value)
word_taken meaning [] parse e = absurd (none-some parse e)
word_taken meaning (t ∷ ts) parse e =
    let found = preimage (λ x. record { value = x; rest = ts }) (meaning t) parse e in
    (t, ap (λ (q : Parse _). t ∷ q.rest) (sym found.2), found.1 ∙ ap (λ (q : Parse _). Some q.value) (sym found.2))

-- a word that is first is read
word_given : {X : Type 0} (meaning : Token → Option X) (t : Token) (x : X) (rest : List Token) → meaning t ≡ Some x
    → word meaning (t ∷ rest) ≡ before x rest
word_given meaning t x rest e = ap (option_map (λ y. record { value = y; rest = rest })) e

-- the reader of a register reads its name
pub register_reads : IsReader register_in (λ r ts. IsWritten (Plain (Register r)) ts)
register_reads = record {
  takes = λ ts r e.
      let found = word_taken register_named ts r e in
      (found.0 ∷ [], found.1, ap (λ (t : Token). t ∷ []) (named_register found.0 r.value found.2));
  gives = λ r front rest h.
      ap (λ (ts : List Token). register_in (ts ++ rest)) h
      ∙ word_given register_named (register_name r) r rest (register_is_named r);
}

-- the reader of a name reads names
pub name_reads : IsReader name (λ n ts. IsWritten (Label n) ts)
name_reads = record {
  takes = λ ts r e.
      let found = word_taken name_in ts r e in
      let is = named_name found.0 r.value found.2 in
      (found.0 ∷ [], found.1, (ap (λ (t : Token). t ∷ []) is.0, is.1));
  gives = λ n front rest h.
      ap (λ (ts : List Token). name (ts ++ rest)) h.0 ∙ word_given name_in n n rest (name_is_named n h.1);
}

-- the reader of a number reads its digits
pub number_reads : IsReader number (λ n ts. IsWritten (Plain (Natural n)) ts)
number_reads = record {
  takes = λ ts r e.
      let found = word_taken number_of_token ts r e in
      (found.0 ∷ [], found.1, (found.0, refl, numbered_number found.0 r.value found.2));
  gives = λ n front rest h.
      ap (λ (ts : List Token). number (ts ++ rest)) h.1
      ∙ word_given number_of_token h.0 n rest (number_is_numbered n h.0 h.2);
}

-- ---- numbers with a sign

-- the integer of a number after a minus
abbrev minus : ℕ → ℤ
minus m = neg_ℤ (pos m)

-- a number, as the integer that its sign makes of it
abbrev signed_by : (ℕ → ℤ) → Parse ℕ → Parse ℤ
signed_by made parse = record { value = made parse.value; rest = parse.rest }

-- an integer that is read of a number: the number is first
number_taken : (made : ℕ → ℤ) (ts : List Token) (r : Parse ℤ) → option_map (signed_by made) (number ts) ≡ Some r
    → (m : ℕ) × (t : Token) × IsNumber m t × (ts ≡ t ∷ r.rest) × (r.value ≡ made m)
number_taken made ts r e =
    let read = preimage (signed_by made) (number ts) r e in
    let found = word_taken number_of_token ts read.0 read.1 in
    let split : ts ≡ found.0 ∷ r.rest = found.1 ∙ ap (λ (parse : Parse ℤ). found.0 ∷ parse.rest) (sym read.2) in
    (read.0.value, found.0, numbered_number found.0 read.0.value found.2, split, ap (λ (parse : Parse ℤ). parse.value) read.2)

-- a number that is first is read as an integer
number_given : (made : ℕ → ℤ) (m : ℕ) (t : Token) (n : ℤ) (rest : List Token) → IsNumber m t → n ≡ made m
    → option_map (signed_by made) (number (t ∷ rest)) ≡ before n rest
number_given made m t n rest h is =
    ap (option_map (signed_by made)) (word_given number_of_token t m rest (number_is_numbered m t h))
    ∙ ap (λ (k : ℤ). before k rest) (sym is)

-- an integer that is read of a sign and a number: both are first
after_sign : (s : Token) (made : ℕ → ℤ) (t : Token) (ts : List Token) (r : Parse ℤ) → bytes_eq t s ≡ true
    → option_map (signed_by made) (number ts) ≡ Some r
    → (m : ℕ) × (u : Token) × IsNumber m u × (t ∷ ts ≡ s ∷ u ∷ r.rest) × (r.value ≡ made m)
after_sign s made t ts r is e =
    let found = number_taken made ts r e in
    let first : t ∷ ts ≡ s ∷ ts = ap (λ (u : Token). u ∷ ts) (same_text t s is) in
    (found.0, found.1, found.2, first ∙ ap (λ (us : List Token). s ∷ us) found.3, found.4)

-- a signed number that is read is first
signed_taken : (ts : List Token) (r : Parse ℤ) → signed_number ts ≡ Some r → IsSpelledFirst IsSigned ts r
signed_taken [] r e = absurd (none-some r e)
signed_taken (t ∷ ts) r e = elim (cases_Bool (bytes_eq t (codes "+"))) [
  | inl plus ↦
      let found = after_sign (codes "+") pos t ts r plus (sym (cond-true (bytes_eq t (codes "+")) _ _ plus) ∙ e) in
      (codes "+" ∷ found.1 ∷ [], found.3, (found.0, found.1, found.2, inl (refl, found.4)))
  | inr other ↦
      let after = sym (cond-false (bytes_eq t (codes "+")) (option_map (signed_by pos) (number ts)) _ other) ∙ e in
      elim (cases_Bool (bytes_eq t (codes "-"))) [
        | inl dash ↦
            let read = option_map (signed_by minus) (number ts) in
            let is = sym (cond-true (bytes_eq t (codes "-")) read _ dash) ∙ after in
            let found = after_sign (codes "-") minus t ts r dash is in
            (codes "-" ∷ found.1 ∷ [], found.3, (found.0, found.1, found.2, inr (refl, found.4)))
        | inr none ↦ absurd (none-some r (sym (cond-false (bytes_eq t (codes "-")) _ _ none) ∙ after))
      ]
]

-- a signed number that is first is read
signed_given : (n : ℤ) (front rest : List Token) → IsSigned n front → signed_number (front ++ rest) ≡ before n rest
signed_given n front rest (m, t, h, inl plus) =
    ap (λ (ts : List Token). signed_number (ts ++ rest)) plus.0 ∙ number_given pos m t n rest h plus.1
signed_given n front rest (m, t, h, inr dash) =
    ap (λ (ts : List Token). signed_number (ts ++ rest)) dash.0 ∙ number_given minus m t n rest h dash.1

-- the reader of a signed number reads a sign and a number
pub signed_number_reads : IsReader signed_number IsSigned
signed_number_reads = record { takes = signed_taken; gives = signed_given }

-- an integer that is read is first
integer_taken : (ts : List Token) (r : Parse ℤ) → integer ts ≡ Some r → IsSpelledFirst IsInteger ts r
integer_taken [] r e = absurd (none-some r e)
integer_taken (t ∷ ts) r e = elim (cases_Bool (bytes_eq t (codes "-"))) [
  | inl dash ↦
      let found = after_sign (codes "-") minus t ts r dash (sym (cond-true (bytes_eq t (codes "-")) _ _ dash) ∙ e) in
      (codes "-" ∷ found.1 ∷ [], found.3, (found.0, found.1, found.2, inr (refl, found.4)))
  | inr none ↦
      let found = number_taken pos (t ∷ ts) r (sym (cond-false (bytes_eq t (codes "-")) _ _ none) ∙ e) in
      (found.1 ∷ [], found.3, (found.0, found.1, found.2, inl (refl, found.4)))
]

-- an integer that is first is read
integer_given : (n : ℤ) (front rest : List Token) → IsInteger n front → integer (front ++ rest) ≡ before n rest
integer_given n front rest (m, t, h, inl plain) =
    ap (λ (ts : List Token). integer (ts ++ rest)) plain.0
    ∙ cond-false (bytes_eq t (codes "-")) _ _ (number_is_no_minus m t h) ∙ number_given pos m t n rest h plain.1
integer_given n front rest (m, t, h, inr dash) =
    ap (λ (ts : List Token). integer (ts ++ rest)) dash.0 ∙ number_given minus m t n rest h dash.1

-- the reader of an integer reads a number, perhaps after a minus
pub integer_reads : IsReader integer IsInteger
integer_reads = record { takes = integer_taken; gives = integer_given }

-- ---- operands

-- these tokens are an operand
abbrev pub SpellsOperand : Operand → List Token → Type 0
SpellsOperand operand ts = IsWritten (Plain (argument_of operand)) ts

-- an operand that is read is first
register_or_taken : (ts : List Token) (o : Option (Parse Reg)) (p : Option (Parse ℤ)) → register_in ts ≡ o → integer ts ≡ p
    → (parse : Parse Operand) → register_or o p ≡ Some parse → IsSpelledFirst SpellsOperand ts parse
register_or_taken ts (Some q) p is_register is_integer parse e =
    subst (IsSpelledFirst SpellsOperand ts) (same_Some _ parse e) (register_reads.takes ts q is_register)
register_or_taken ts None p is_register is_integer parse e =
    let found = preimage as_imm p parse e in
    subst (IsSpelledFirst SpellsOperand ts) (sym found.2) (integer_reads.takes ts found.0 (is_integer ∙ found.1))

-- where an integer is first, no register does
integer_is_no_register : (n : ℤ) (front rest : List Token) → IsInteger n front → register_in (front ++ rest) ≡ None
integer_is_no_register n front rest (m, t, h, inl plain) =
    ap (λ (ts : List Token). register_in (ts ++ rest)) plain.0
    ∙ ap (option_map (λ r. record { value = r; rest = rest })) (number_is_no_register m t h)
integer_is_no_register n front rest (m, t, h, inr dash) = ap (λ (ts : List Token). register_in (ts ++ rest)) dash.0

-- an operand that is first is read
operand_given : (operand : Operand) (front rest : List Token) → SpellsOperand operand front
    → operand_in (front ++ rest) ≡ before operand rest
operand_given (operand.Reg r) front rest h =
    ap (λ (o : Option (Parse Reg)). register_or o (integer (front ++ rest))) (register_reads.gives r front rest h)
operand_given (operand.Imm n) front rest h =
    ap (λ (o : Option (Parse Reg)). register_or o (integer (front ++ rest))) (integer_is_no_register n front rest h)
    ∙ ap (option_map as_imm) (integer_reads.gives n front rest h)

-- the reader of an operand reads a register or an integer
pub operand_reads : IsReader operand_in SpellsOperand
operand_reads = record {
  takes = λ ts r e. register_or_taken ts (register_in ts) (integer ts) refl refl r e;
  gives = operand_given;
}

-- ---- targets of jumps

-- a distance, or a label and the distance 0
abbrev pub SpellsTarget : Target → List Token → Type 0
SpellsTarget a ts = IfSome a.label (λ _. a.distance ≡ pos 0) × IsWritten (spelling_of a.label (Distance a.distance)) ts

-- a target that is read is first
name_or_taken : (ts : List Token) (option : Option (Parse Name)) (p : Option (Parse ℤ)) → name ts ≡ option → signed_number ts ≡ p
    → (parse : Parse Target) → name_or option p ≡ Some parse → IsSpelledFirst SpellsTarget ts parse
name_or_taken ts (Some q) p is_name is_signed parse e =
    let found = name_reads.takes ts q is_name in
    subst (IsSpelledFirst SpellsTarget ts) (same_Some _ parse e) (found.0, found.1, (refl, found.2))
name_or_taken ts None p is_name is_signed parse e =
    let read = preimage as_distance p parse e in
    let found = signed_number_reads.takes ts read.0 (is_signed ∙ read.1) in
    subst (IsSpelledFirst SpellsTarget ts) (sym read.2) (found.0, found.1, (tt, found.2))

-- where a signed number is first, no name does
signed_is_no_name : (n : ℤ) (front rest : List Token) → IsSigned n front → name (front ++ rest) ≡ None
signed_is_no_name n front rest (m, t, h, inl plus) = ap (λ (ts : List Token). name (ts ++ rest)) plus.0
signed_is_no_name n front rest (m, t, h, inr dash) = ap (λ (ts : List Token). name (ts ++ rest)) dash.0

-- a target that is first is read
target_given : (a : Target) (front rest : List Token) → SpellsTarget a front → jump_target (front ++ rest) ≡ before a rest
target_given a front rest h = go a.distance a.label h
  where
    either_name : Option (Parse Name) → Option (Parse Target)
    either_name o = name_or o (signed_number (front ++ rest))

    go : (distance : ℤ) (label : Option Name) → SpellsTarget (record { distance = distance; label = label }) front
        → jump_target (front ++ rest) ≡ before (record { distance = distance; label = label }) rest
    go distance (Some n) h =
        ap either_name (name_reads.gives n front rest h.1)
        ∙ ap (λ (d : ℤ). before (record { distance = d; label = Some n }) rest) (sym h.0)
    go distance None h =
        ap either_name (signed_is_no_name distance front rest h.1)
        ∙ ap (option_map as_distance) (signed_number_reads.gives distance front rest h.1)

-- the reader of a target reads a label or a distance
pub target_reads : IsReader jump_target SpellsTarget
target_reads = record {
  takes = λ ts r e. name_or_taken ts (name ts) (signed_number ts) refl refl r e;
  gives = target_given;
}

-- ---- addresses

-- a sign that is read is first
pub sign_taken : (s : Token) (ts rest : List Token) → sign s ts ≡ Some rest → ts ≡ s ∷ rest
sign_taken s [] rest e = absurd (none-some rest e)
sign_taken s (t ∷ ts) rest e =
    let parts = cond_some (bytes_eq t s) ts rest e in
    ap (λ (u : Token). u ∷ ts) (same_text t s parts.0) ∙ ap (λ (us : List Token). s ∷ us) parts.1

-- these tokens are an address
abbrev pub SpellsAddress : MemoryOperand → List Token → Type 0
SpellsAddress operand ts = IsWritten (Plain (Address operand.base operand.displacement)) ts

-- the parts of an address, one after the other
address_split : (ts opened : List Token) (base : Parse Reg) (displacement : Parse ℤ) (closed : List Token)
    → ts ≡ codes "[" ∷ opened → IsSpelledFirst (λ r front. IsWritten (Plain (Register r)) front) opened base
    → IsSpelledFirst IsSigned base.rest displacement → displacement.rest ≡ codes "]" ∷ closed
    → IsSpelledFirst SpellsAddress ts
    (record { value = record { base = base.value; displacement = displacement.value }; rest = closed })
address_split ts opened base displacement closed first (front, named, is) (signed, split, h) last =
    let text : Token = register_name base.value in
    let after : base.rest ≡ (signed ++ codes "]" ∷ []) ++ closed =
    split ∙ ap (λ (us : List Token). signed ++ us) last ∙ sym (append_assoc signed (codes "]" ∷ []) closed) in
    let inside : opened ≡ text ∷ (signed ++ codes "]" ∷ []) ++ closed =
    named ∙ ap (λ (us : List Token). us ++ base.rest) is ∙ ap (λ (us : List Token). text ∷ us) after in
    let whole = first ∙ ap (λ (us : List Token). codes "[" ∷ us) inside in
    (codes "[" ∷ text ∷ signed ++ codes "]" ∷ [], whole, (signed, h, refl))

-- an address that is read is first
address_taken : (ts : List Token) (parse : Parse MemoryOperand) → address ts ≡ Some parse → IsSpelledFirst SpellsAddress ts parse
address_taken ts parse e =
    let opened = bound (sign (codes "[") ts) _ parse e in
    let base = bound (register_in opened.0) _ parse opened.2 in
    let displacement = bound (signed_number base.0.rest) _ parse base.2 in
    let closed = bound (sign (codes "]") displacement.0.rest) _ parse displacement.2 in
    subst (IsSpelledFirst SpellsAddress ts) (same_Some _ parse closed.2)
    (address_split ts opened.0 base.0 displacement.0 closed.0 (sign_taken (codes "[") ts opened.0 opened.1)
    (register_reads.takes opened.0 base.0 base.1)
    (signed_number_reads.takes base.0.rest displacement.0 displacement.1)
    (sign_taken (codes "]") displacement.0.rest closed.0 closed.1))

-- an address that is first is read
address_given : (operand : MemoryOperand) (front rest : List Token) → SpellsAddress operand front → address (front ++ rest) ≡ before operand rest
address_given operand front rest (signed, h, is) =
    let text : Token = register_name operand.base in
    let after : List Token = (signed ++ codes "]" ∷ []) ++ rest in
    let displacement : signed_number after ≡ before operand.displacement (codes "]" ∷ rest) =
    ap signed_number (append_assoc signed (codes "]" ∷ []) rest)
    ∙ signed_number_reads.gives operand.displacement signed (codes "]" ∷ rest) h in
    ap (λ (ts : List Token). address (ts ++ rest)) is
    ∙ onward (register_in (text ∷ after)) _ (record { value = operand.base; rest = after }) _
    (register_reads.gives operand.base (text ∷ []) after refl)
    (onward (signed_number after) _ (record { value = operand.displacement; rest = codes "]" ∷ rest }) _ displacement refl)

-- the reader of an address reads a register and a displacement between brackets
pub address_reads : IsReader address SpellsAddress
address_reads = record { takes = address_taken; gives = address_given }
