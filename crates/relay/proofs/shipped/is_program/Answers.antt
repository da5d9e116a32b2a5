use Rattle.std.proofs.Common.{◌≡◌, ◌<◌, ◌≤◌, length, List, ℕ, arith, ap, sym, subst, ◌∙◌}
use Rattle.std.proofs.lemmas.Bool.{ltb-true}
use Rattle.std.specs.Cmp.Lexicographic.{same_text}
use Rattle.insn.specs.declared.instruction.Insn.{Insn}
use Rattle.insn.specs.Encoding.{encodings, slot_count, AllFit}
use Rattle.insn.specs.declared.decoding.TheConstants.{MAX_SLOTS}
use Rattle.semantics.specs.Runs.{IsSafe}
use Rattle.semantics.specs.laws.Slot.{instructions_and_slots}
use Rattle.loader.specs.Loads.{IsLoaded}
use Rattle.relay.proofs.shipped.is_program.Goals as goal
use Rattle.relay.proofs.shipped.is_program.Goals.{then-code-gt0, else-code-gt0}

loaded : (code : List Insn) (bytes : List ℕ) → AllFit code → 0 < length code → slot_count code ≤ MAX_SLOTS → IsSafe code → bytes ≡ encodings code → IsLoaded code bytes
loaded code bytes fit some few safe spelled = record {
  encoded = record { fit = fit; some = omega (arith, some, instructions_and_slots code); few = few; spelled = spelled };
  safe = safe;
}

pub returns : goal.returns
returns c = λ same. elim c.if-code-gt0.branch [
  | then-code-gt0 w ↦
      let program = c.program.result.now in
      let code = c.code-code.ensures.code in
      let equal = same_text w.as_slice.result.now c.args.bytes.now (sym same ∙ w.result-is ∙ w.eq.ensures) in
      subst (λ p. IsLoaded p c.args.bytes.now) c.program.ensures
      (loaded program c.args.bytes.now (subst AllFit code c.in_ok-encoded.ensures.fit) (subst (λ p. 0 < length p) code w.if-code-gt0.true) c.code-code.ensures.few c.code-code.ensures.safe
      (sym equal ∙ w.as_slice.ensures.value ∙ c.in_ok-encoded.ensures.bytes ∙ ap encodings code))
  | else-code-gt0 w ↦ absurd (omega (arith, w.if-code-gt0.false, ltb-true 0 (length c.code-code.result.now) (sym w.result-is ∙ same)))
]
