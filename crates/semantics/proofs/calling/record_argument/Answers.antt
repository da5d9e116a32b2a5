use Rattle.std.proofs.Common.{rules, ◌≡◌, ℕ, List, Result, Ok, Err, ap, sym, refl, ◌∙◌}
use Rattle.basics.specs.Fallible.{◌>>=◌}
use Rattle.insn.specs.declared.register.Reg.{Reg}
use Rattle.semantics.specs.Calls.{bytes_at, record_bytes, widened}
use Rattle.semantics.specs.Effects.{stack_argument, record_argument}
use Rattle.semantics.specs.Machine.{Memory}
use Rattle.semantics.specs.Views.{memory_of}
use Rattle.semantics.specs.declared.helper.RecordForm.{RecordForm}
use Rattle.semantics.specs.declared.helper.RecordForm.TheVariants.{Narrow, Wide}
use Rattle.semantics.specs.declared.reason.Reason.{Reason}
use Rattle.semantics.specs.declared.value.Value.{Value}
use Rattle.semantics.proofs.calling.record_argument.Goals as goal

-- what is read at the index of an argument, as a wide record
record_is : (m : Memory) (registers : List Value) (r : Reg) (form f : RecordForm) (i : ℕ) (x : Result (List ℕ) Reason) → f ≡ form → Ok i ≡ stack_argument registers (record_bytes form) r → x ≡ bytes_at m (record_bytes form) i
    → (x >>= λ bytes. Ok (widened form bytes)) ≡ record_argument m registers f r
record_is m registers r form f i x same at read =
    ap (λ (y : Result (List ℕ) Reason). y >>= λ bytes. Ok (widened form bytes)) read
    ∙ ap (λ (o : Result ℕ Reason). o >>= λ j. bytes_at m (record_bytes form) j >>= λ bytes. Ok (widened form bytes)) at
    ∙ ap (λ (g : RecordForm). record_argument m registers g r) (sym same)

as_it_is : (x : Result (List ℕ) Reason) → x ≡ (x >>= λ bytes. Ok bytes)
as_it_is (Ok bytes) = refl
as_it_is (Err reason) = refl

pub returns-in_err-bytes_at-in-Narrow : goal.returns-in_err-bytes_at-in-Narrow
returns-in_err-bytes_at-in-Narrow c =
    let is = record_is (memory_of c.args.memory.now) c.args.registers.now c.args.reg Narrow c.args.form c.in_ok-index-in-Narrow.index _ c.in-Narrow.is c.in_ok-index-in-Narrow.ensures.index c.in_err-bytes_at-in-Narrow.ensures in
    search rules

pub returns-in_ok-bytes_at-in-Narrow : goal.returns-in_ok-bytes_at-in-Narrow
returns-in_ok-bytes_at-in-Narrow c =
    ap (λ (bytes : List ℕ). Ok bytes) c.widened.ensures
    ∙ record_is (memory_of c.args.memory.now) c.args.registers.now c.args.reg Narrow c.args.form c.in_ok-index-in-Narrow.index (Ok c.in_ok-bytes_at-in-Narrow.field-0) c.in-Narrow.is c.in_ok-index-in-Narrow.ensures.index c.in_ok-bytes_at-in-Narrow.ensures

pub returns-in_ok-index-in-Wide : goal.returns-in_ok-index-in-Wide
returns-in_ok-index-in-Wide c =
    as_it_is c.bytes_at-in-Wide.result
    ∙ record_is (memory_of c.args.memory.now) c.args.registers.now c.args.reg Wide c.args.form c.in_ok-index-in-Wide.index c.bytes_at-in-Wide.result c.in-Wide.is c.in_ok-index-in-Wide.ensures.index c.bytes_at-in-Wide.ensures
