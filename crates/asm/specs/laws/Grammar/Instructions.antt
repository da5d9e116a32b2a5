-- Internal. Instructions: the reader of a mnemonic reads an instruction from the tokens of its arguments, and from no
-- others.
use Rattle.std.proofs.Common.{◌≡◌, ℕ, ℤ, pos, List, [], ◌∷◌, ◌++◌, map, Option, Some, None, refl, sym, ap, ◌∙◌, subst}
use Rattle.std.specs.Prelude.{codes, option_map, IfSome}
use Rattle.std.proofs.lemmas.Option.{same_Some}
use Rattle.insn.specs.Spelling.{Register, Distance, argument_of, mnemonic, arguments}
use Rattle.insn.specs.declared.width.Width.{Width}
use Rattle.insn.specs.declared.register.Reg.{Reg}
use Rattle.insn.specs.declared.condition.Condition.{Condition}
use Rattle.insn.specs.declared.size.Size.{Size}
use Rattle.insn.specs.declared.instruction.Operand.{Operand}
use Rattle.insn.specs.declared.instruction.Operand.TheVariants as operand
use Rattle.insn.specs.declared.instruction.Insn.{Insn}
use Rattle.insn.specs.declared.instruction.Insn.TheVariants as insn
use Rattle.asm.specs.declared.mnemonic.Mnemonic.{Mnemonic}
use Rattle.asm.specs.declared.mnemonic.Mnemonic.TheVariants.{Alu, Mov, Neg, SignExtend, Swap, Jump, LongJump, JumpIf, Load, LoadSigned, StoreImm, StoreReg, LoadImm, Call, Exit}
use Rattle.asm.specs.Lines.{Token}
use Rattle.asm.specs.Statements.{Name, WrittenArgument, Plain, AreWritten, spelling_of, IsUnlinked, Statement, Instruction}
use Rattle.basics.specs.Options.{◌>>=◌}
use Rattle.asm.specs.Reading.{Parse, end, register_in, number, integer, operand_in, Target, jump_target, MemoryOperand, address, name_of, only_target, one, jump, jump_if, load_statement, store_imm, store_register, exit, instruction}
use Rattle.asm.specs.laws.Grammar.Steps.{bound, onward}
use Rattle.asm.specs.laws.Grammar.Arguments.{register_reads, number_reads, integer_reads, operand_reads, target_reads, address_reads, SpellsTarget}
use Rattle.asm.specs.laws.Grammar.Shapes.{last, last_taken, last_given, pair, pair_taken, pair_given, with_comma, comma_taken, comma_given, comma_first, made_last, no_more}

-- ---- definitions

-- these tokens are an instruction's arguments; a jump to a label has no distance yet
abbrev pub HasArguments : Insn → Option Name → List Token → Type 0
HasArguments i label ts = IfSome label (λ _. IsUnlinked i) × AreWritten (map (spelling_of label) (arguments i)) ts

-- a statement is an instruction of a mnemonic, with these arguments
abbrev pub IsInstructionOf : Mnemonic → List Token → Statement → Type 0
IsInstructionOf m ts s = (i : Insn) × (label : Option Name) × (s ≡ Instruction i label) × (mnemonic i ≡ name_of m)
    × HasArguments i label ts

-- the mnemonic of an instruction
abbrev pub mnemonic_of : Insn → Mnemonic
mnemonic_of (insn.Alu width op dst o) = Alu width op
mnemonic_of (insn.Mov width dst o) = Mov width
mnemonic_of (insn.Neg width dst) = Neg width
mnemonic_of (insn.SignExtend e dst src) = SignExtend e
mnemonic_of (insn.Swap op size dst) = Swap op size
mnemonic_of (insn.Jump distance) = Jump
mnemonic_of (insn.LongJump distance) = LongJump
mnemonic_of (insn.JumpIf width c dst o distance) = JumpIf width c
mnemonic_of (insn.Load size dst base displacement) = Load size
mnemonic_of (insn.LoadSigned size dst base displacement) = LoadSigned size
mnemonic_of (insn.Store size base (operand.Imm n) displacement) = StoreImm size
mnemonic_of (insn.Store size base (operand.Reg r) displacement) = StoreReg size
mnemonic_of (insn.LoadImm dst value) = LoadImm
mnemonic_of (insn.Call helper) = Call
mnemonic_of insn.Exit = Exit

-- its name is how the instruction begins
pub name_of-mnemonic_of : (i : Insn) → name_of (mnemonic_of i) ≡ mnemonic i
name_of-mnemonic_of (insn.Store size base (operand.Imm n) displacement) = refl
name_of-mnemonic_of _ = refl

-- ---- shapes

-- the statement of one register
abbrev one_of : (Reg → Insn) → Reg → Statement
one_of make dst = Instruction (make dst) None

-- of a register and an operand
abbrev two_of : (Reg → Operand → Insn) → Reg → Operand → Statement
two_of make dst o = Instruction (make dst o) None

-- of two registers
abbrev two_registers_of : (Reg → Reg → Insn) → Reg → Reg → Statement
two_registers_of make dst src = Instruction (make dst src) None

-- of a register and an address
abbrev load_of : (Reg → Reg → ℤ → Insn) → Reg → MemoryOperand → Statement
load_of make dst p = Instruction (make dst p.base p.displacement) None

-- of an address and a number
abbrev store_imm_of : Size → MemoryOperand → ℤ → Statement
store_imm_of size p n = Instruction (insn.Store size p.base (operand.Imm n) p.displacement) None

-- of an address and a register
abbrev store_register_of : Size → MemoryOperand → Reg → Statement
store_register_of size p src = Instruction (insn.Store size p.base (operand.Reg src) p.displacement) None

-- of a register and a number
abbrev load_number_of : Reg → ℕ → Statement
load_number_of dst a = Instruction (insn.LoadImm dst a) None

-- of a number
abbrev call_of : ℤ → Statement
call_of n = Instruction (insn.Call n) None

-- of a target
abbrev jump_of : (ℤ → Insn) → Target → Statement
jump_of make t = Instruction (make t.distance) t.label

-- of a register, an operand and a target
abbrev jump_if_of : Width → Condition → Reg → Operand → Target → Statement
jump_if_of width c dst o t = Instruction (insn.JumpIf width c dst o t.distance) t.label

-- one register ends the tokens
one_is : (make : Reg → Insn) (ts : List Token) → one make ts ≡ last register_in (one_of make) ts
one_is make ts = made_last (register_in ts) (λ dst. dst) (one_of make)

-- the target of a jump ends the tokens
jump_is : (make : ℤ → Insn) (ts : List Token) → jump make ts ≡ last jump_target (jump_of make) ts
jump_is make ts = made_last (jump_target ts) (λ t. t) (jump_of make)

-- a load is a register and an address
load_is : (make : Reg → Reg → ℤ → Insn) (ts : List Token)
    → load_statement make ts ≡ pair register_in address (load_of make) ts
load_is make ts = go (with_comma register_in ts)
  where
    arguments_after : Parse Reg → Option (Reg × MemoryOperand)
    arguments_after dst = address dst.rest >>= (λ at. end at.rest >>= (λ done. Some (dst.value, at.value)))

    go : (o : Option (Parse Reg)) → option_map (λ a. load_of make a.0 a.1) (o >>= arguments_after)
        ≡ (o >>= (λ dst. last address (load_of make dst.value) dst.rest))
    go None = refl
    go (Some dst) = made_last (address dst.rest) (λ at. (dst.value, at)) (λ a. load_of make a.0 a.1)

-- a store is an address and a number
store_imm_is : (size : Size) (ts : List Token) → store_imm size ts ≡ pair address integer (store_imm_of size) ts
store_imm_is size ts = comma_first (address ts) (λ at. last integer (store_imm_of size at.value) at.rest)

-- or an address and a register
store_register_is : (size : Size) (ts : List Token)
    → store_register size ts ≡ pair address register_in (store_register_of size) ts
store_register_is size ts = comma_first (address ts) (λ at. last register_in (store_register_of size at.value) at.rest)

-- ---- jumps under a condition

-- a register, an operand and a target
abbrev JumpIfArguments : Reg → Operand → Target → List Token → Type 0
JumpIfArguments dst o t ts =
    AreWritten (Plain (Register dst) ∷ Plain (argument_of o) ∷ spelling_of t.label (Distance t.distance) ∷ []) ts

-- a label is in the place of the distance alone
jump_if_arguments : (dst : Reg) (o : Operand) (t : Target)
    → map (spelling_of t.label) (Register dst ∷ argument_of o ∷ Distance t.distance ∷ [])
    ≡ Plain (Register dst) ∷ Plain (argument_of o) ∷ spelling_of t.label (Distance t.distance) ∷ []
jump_if_arguments dst o t = go o t.label
  where
    go : (o : Operand) (label : Option Name)
        → map (spelling_of label) (Register dst ∷ argument_of o ∷ Distance t.distance ∷ [])
        ≡ Plain (Register dst) ∷ Plain (argument_of o) ∷ spelling_of label (Distance t.distance) ∷ []
    go (operand.Reg r) None = refl
    go (operand.Imm n) None = refl
    go (operand.Reg r) (Some name) = refl
    go (operand.Imm n) (Some name) = refl

-- the target after two commas
abbrev jump_if_after : Width → Condition → Reg → Parse Operand → Option Statement
jump_if_after width c dst parse = only_target parse.rest >>= (λ t. Some (jump_if_of width c dst parse.value t))

-- a jump under a condition that is read
jump_if_taken : (width : Width) (c : Condition) (ts : List Token) (s : Statement) → jump_if width c ts ≡ Some s
    → IsInstructionOf (JumpIf width c) ts s
jump_if_taken width c ts s e =
    let dst = bound (with_comma register_in ts) _ s e in
    let after = jump_if_after width c dst.0.value in
    let grouped = sym (comma_first (operand_in dst.0.rest) after) ∙ dst.2 in
    let o = bound (with_comma operand_in dst.0.rest) after s grouped in
    let target = bound (only_target o.0.rest) _ s o.2 in
    let first = comma_taken register_in register_reads ts dst.0 dst.1 in
    let second = comma_taken operand_in operand_reads dst.0.rest o.0 o.1 in
    let third = last_taken jump_target target_reads (λ t. t) o.0.rest target.0 target.1 in
    let spelled : SpellsTarget target.0 o.0.rest =
    subst (λ (t : Target). SpellsTarget t o.0.rest) (sym third.2) third.1 in
    let all : JumpIfArguments dst.0.value o.0.value target.0 ts =
    (first.0, dst.0.rest, first.1, first.2, (second.0, o.0.rest, second.1, second.2, spelled.1)) in
    let plain = jump_if_arguments dst.0.value o.0.value target.0 in (
      insn.JumpIf width c dst.0.value o.0.value target.0.distance,
      target.0.label,
      sym (same_Some _ s target.2),
      refl,
      (spelled.0, subst (λ (ws : List WrittenArgument). AreWritten ws ts) (sym plain) all),
    )

-- the arguments of a jump under a condition, read
jump_if_read : (width : Width) (c : Condition) (dst : Reg) (o : Operand) (t : Target) (ts : List Token)
    → JumpIfArguments dst o t ts → IfSome t.label (λ _. t.distance ≡ pos 0)
    → jump_if width c ts ≡ Some (jump_if_of width c dst o t)
jump_if_read width c dst o t ts (front, after, split, h, (middle, rest, again, k, l)) unlinked =
    let further = jump_if_after width c dst in
    ap (jump_if width c) split
    ∙ onward (with_comma register_in (front ++ codes "," ∷ after)) _ (record { value = dst; rest = after }) _
    (comma_given register_in register_reads dst front after h)
    (comma_first (operand_in after) further
    ∙ ap (λ (us : List Token). with_comma operand_in us >>= further) again
    ∙ onward (with_comma operand_in (middle ++ codes "," ∷ rest)) further (record { value = o; rest = rest }) _
    (comma_given operand_in operand_reads o middle rest k)
    (onward (only_target rest) _ t _ (last_given jump_target target_reads (λ x. x) t rest (unlinked, l)) refl))

-- a jump under a condition, from its arguments
jump_if_given : (width : Width) (c : Condition) (dst : Reg) (o : Operand) (t : Target) (ts : List Token)
    → HasArguments (insn.JumpIf width c dst o t.distance) t.label ts
    → jump_if width c ts ≡ Some (jump_if_of width c dst o t)
jump_if_given width c dst o t ts h =
    let plain = jump_if_arguments dst o t in
    jump_if_read width c dst o t ts (subst (λ (ws : List WrittenArgument). AreWritten ws ts) plain h.1) h.0

-- ---- from the tokens to an instruction

-- an exit that is read has no arguments
exit_taken : (ts : List Token) (s : Statement) → exit ts ≡ Some s → IsInstructionOf Exit ts s
exit_taken ts s e =
    let done = bound (end ts) _ s e in
    (insn.Exit, None, sym (same_Some _ s done.2), refl, (tt, no_more ts done.1))

-- what is read of a mnemonic's arguments is an instruction with these arguments
pub instruction_taken : (m : Mnemonic) (ts : List Token) (s : Statement) → instruction m ts ≡ Some s
    → IsInstructionOf m ts s
instruction_taken (Alu width op) ts s e =
    let f = pair_taken register_in operand_in register_reads operand_reads (two_of (insn.Alu width op)) ts s e in
    (insn.Alu width op f.0 f.1, None, f.3, refl, (tt, f.2))
instruction_taken (Mov width) ts s e =
    let f = pair_taken register_in operand_in register_reads operand_reads (two_of (insn.Mov width)) ts s e in
    (insn.Mov width f.0 f.1, None, f.3, refl, (tt, f.2))
instruction_taken (Neg width) ts s e =
    let f = last_taken register_in register_reads _ ts s (sym (one_is (insn.Neg width) ts) ∙ e) in
    (insn.Neg width f.0, None, f.2, refl, (tt, f.1))
instruction_taken (SignExtend x) ts s e =
    let f = pair_taken register_in register_in register_reads register_reads (two_registers_of (insn.SignExtend x)) ts s e in
    (insn.SignExtend x f.0 f.1, None, f.3, refl, (tt, f.2))
instruction_taken (Swap op size) ts s e =
    let f = last_taken register_in register_reads _ ts s (sym (one_is (insn.Swap op size) ts) ∙ e) in
    (insn.Swap op size f.0, None, f.2, refl, (tt, f.1))
instruction_taken Jump ts s e =
    let f = last_taken jump_target target_reads _ ts s (sym (jump_is insn.Jump ts) ∙ e) in
    (insn.Jump f.0.distance, f.0.label, f.2, refl, f.1)
instruction_taken LongJump ts s e =
    let f = last_taken jump_target target_reads _ ts s (sym (jump_is insn.LongJump ts) ∙ e) in
    (insn.LongJump f.0.distance, f.0.label, f.2, refl, f.1)
instruction_taken (JumpIf width c) ts s e = jump_if_taken width c ts s e
instruction_taken (Load size) ts s e =
    let f = pair_taken register_in address register_reads address_reads _ ts s (sym (load_is (insn.Load size) ts) ∙ e) in
    (insn.Load size f.0 f.1.base f.1.displacement, None, f.3, refl, (tt, f.2))
instruction_taken (LoadSigned size) ts s e =
    let f = pair_taken register_in address register_reads address_reads _ ts s (sym (load_is (insn.LoadSigned size) ts) ∙ e) in
    (insn.LoadSigned size f.0 f.1.base f.1.displacement, None, f.3, refl, (tt, f.2))
instruction_taken (StoreImm size) ts s e =
    let f = pair_taken address integer address_reads integer_reads _ ts s (sym (store_imm_is size ts) ∙ e) in
    (insn.Store size f.0.base (operand.Imm f.1) f.0.displacement, None, f.3, refl, (tt, f.2))
instruction_taken (StoreReg size) ts s e =
    let f = pair_taken address register_in address_reads register_reads _ ts s (sym (store_register_is size ts) ∙ e) in
    (insn.Store size f.0.base (operand.Reg f.1) f.0.displacement, None, f.3, refl, (tt, f.2))
instruction_taken LoadImm ts s e =
    let f = pair_taken register_in number register_reads number_reads load_number_of ts s e in
    (insn.LoadImm f.0 f.1, None, f.3, refl, (tt, f.2))
instruction_taken Call ts s e =
    let f = last_taken integer integer_reads call_of ts s e in
    (insn.Call f.0, None, f.2, refl, (tt, f.1))
instruction_taken Exit ts s e = exit_taken ts s e

-- ---- from an instruction to the tokens

-- a register and a displacement
abbrev memory_operand : Reg → ℤ → MemoryOperand
memory_operand base displacement = record { base = base; displacement = displacement }

-- a distance, and perhaps a label
abbrev target_at : ℤ → Option Name → Target
target_at distance label = record { distance = distance; label = label }

-- an instruction is read of its arguments
pub instruction_given : (i : Insn) (label : Option Name) (ts : List Token) → HasArguments i label ts
    → instruction (mnemonic_of i) ts ≡ Some (Instruction i label)
instruction_given (insn.Jump distance) label ts h =
    jump_is insn.Jump ts ∙ last_given jump_target target_reads (jump_of insn.Jump) (target_at distance label) ts h
instruction_given (insn.LongJump distance) label ts h =
    jump_is insn.LongJump ts ∙ last_given jump_target target_reads (jump_of insn.LongJump) (target_at distance label) ts h
instruction_given (insn.JumpIf width c dst o distance) label ts h =
    jump_if_given width c dst o (target_at distance label) ts h
instruction_given (insn.Alu width op dst o) None ts h =
    pair_given register_in operand_in register_reads operand_reads (two_of (insn.Alu width op)) dst o ts h.1
instruction_given (insn.Mov width dst o) None ts h =
    pair_given register_in operand_in register_reads operand_reads (two_of (insn.Mov width)) dst o ts h.1
instruction_given (insn.Neg width dst) None ts h =
    one_is (insn.Neg width) ts ∙ last_given register_in register_reads (one_of (insn.Neg width)) dst ts h.1
instruction_given (insn.SignExtend x dst src) None ts h =
    pair_given register_in register_in register_reads register_reads (two_registers_of (insn.SignExtend x)) dst src ts h.1
instruction_given (insn.Swap op size dst) None ts h =
    one_is (insn.Swap op size) ts ∙ last_given register_in register_reads (one_of (insn.Swap op size)) dst ts h.1
instruction_given (insn.Load size dst base displacement) None ts h =
    let at = memory_operand base displacement in
    load_is (insn.Load size) ts
    ∙ pair_given register_in address register_reads address_reads (load_of (insn.Load size)) dst at ts h.1
instruction_given (insn.LoadSigned size dst base displacement) None ts h =
    let at = memory_operand base displacement in
    load_is (insn.LoadSigned size) ts
    ∙ pair_given register_in address register_reads address_reads (load_of (insn.LoadSigned size)) dst at ts h.1
instruction_given (insn.Store size base (operand.Imm n) displacement) None ts h =
    let at = memory_operand base displacement in
    store_imm_is size ts ∙ pair_given address integer address_reads integer_reads (store_imm_of size) at n ts h.1
instruction_given (insn.Store size base (operand.Reg r) displacement) None ts h =
    let at = memory_operand base displacement in
    store_register_is size ts
    ∙ pair_given address register_in address_reads register_reads (store_register_of size) at r ts h.1
instruction_given (insn.LoadImm dst value) None ts h =
    pair_given register_in number register_reads number_reads load_number_of dst value ts h.1
instruction_given (insn.Call helper) None ts h = last_given integer integer_reads call_of helper ts h.1
instruction_given insn.Exit None ts h = ap exit h.1
instruction_given _ (Some name) ts h = absurd h.0
