use Rattle.std.proofs.Common.{◌≡◌, ◌∙◌, sym, subst, ap, ◌++◌, Option, FitsSigned}
use Rattle.std.specs.Int.{w16, w32}
use Rattle.std.proofs.lemmas.Bool.{false≢true}
use Rattle.std.proofs.lemmas.Int.{to_z-of_z}
use Rattle.insn.specs.Encoding.{optional_bytes, Fits}
use Rattle.insn.specs.Forms.{form, imm_in}
use Rattle.insn.specs.declared.fields.Fields.{Fields}
use Rattle.insn.proofs.Slots.{form_fits}
use Rattle.insn.proofs.TwoSlots.{after_second}
use Rattle.insn.proofs.Programs.{unused}
use Rattle.insn.proofs.decoding.typed.Goals as goal

pub returns-then-has_slots-clause-found : goal.returns-then-has_slots-clause-found
returns-then-has_slots-clause-found c =
    let offset = to_z-of_z w16 c.args.fields.offset c.requires.room.offset in
    let imm = to_z-of_z w32 c.args.fields.imm c.requires.room.imm in
    let high_fits : FitsSigned w32 c.imm_in.result = record { sfits = c.imm_in.type_inv } in
    let high = to_z-of_z w32 c.imm_in.result high_fits in
    let insn_is : c.insn_of-insn.result ≡ form c.args.head.opcode c.args.head.dst c.args.head.src c.args.fields.offset c.args.fields.imm c.imm_in.result =
    c.insn_of-insn.ensures ∙ (λ i. form c.args.head.opcode c.args.head.dst c.args.head.src (offset i) (imm i) (high i)) in
    let same = c.has_slots.ensures.same c.if-has_slots.true in
    let after = after_second c.args.head.opcode c.args.rest.now c.in_ok-second.second (c.in_ok-second.ensures.found) in
    record {
      fits = subst Fits (sym insn_is) (form_fits _ _ _ _ _ _ c.requires.room.offset c.requires.room.imm high_fits);
      fields = same.0;
      other = after.0;
      second = after.1 ∙ ap (λ (s : Option Fields). optional_bytes s ++ after.0) (sym same.1);
    }

pub returns-else-has_slots-clause-refused : goal.returns-else-has_slots-clause-refused
returns-else-has_slots-clause-refused c =
    let offset = to_z-of_z w16 c.args.fields.offset c.requires.room.offset in
    let imm = to_z-of_z w32 c.args.fields.imm c.requires.room.imm in
    let high = to_z-of_z w32 c.imm_in.result (record { sfits = c.imm_in.type_inv }) ∙ c.imm_in.ensures in
    let insn_is : c.insn_of-insn.result ≡ form c.args.head.opcode c.args.head.dst c.args.head.src c.args.fields.offset c.args.fields.imm (imm_in c.in_ok-second.second) =
    c.insn_of-insn.ensures ∙ (λ i. form c.args.head.opcode c.args.head.dst c.args.head.src (offset i) (imm i) (high i)) in
    unused c.args.rest.now c.args.fields c.requires.room c.args.head c.requires.head c.in_ok-second.second c.in_ok-second.ensures.found c.insn_of-insn.result insn_is
    (λ first second. false≢true (sym c.if-has_slots.false ∙ c.has_slots.ensures.found first second))
