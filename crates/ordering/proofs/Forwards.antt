-- Programs whose jumps lead forward.
use Rattle.std.proofs.Common.{◌≡◌, ℕ, ◌+◌, ◌-◌, ◌<◌, ◌≤◌, Bool, true, false, cond, ℤ, pos, ◌+ℤ◌, List, Option, Some, None, Result, Ok, Err, refl, sym, ap, ◌∙◌, inl, inr, arith}
use Rattle.std.specs.Prelude.{int_le, unsigned_abs, if◌then◌else◌, IfOk}
use Rattle.std.proofs.lemmas.Bool.{cases_lt}
use Rattle.std.proofs.lemmas.Int.{ints}
use Rattle.insn.specs.Encoding.{slot_count}
use Rattle.insn.specs.declared.decoding.TheConstants.{MAX_SLOTS}
use Rattle.insn.specs.declared.instruction.Insn.{Insn}
use Rattle.basics.specs.Fallible.{◌>>=◌}
use Rattle.semantics.specs.Machine.{State, Environment}
use Rattle.semantics.specs.Effects.{effect}
use Rattle.semantics.specs.Slots.{fetch, landing, target}
use Rattle.semantics.specs.laws.Slot.{fetch_past, begins_inside}
use Rattle.semantics.specs.Flow.{flow_of, flow_distance}
use Rattle.semantics.specs.Runs.{step_to, step_by_effect, step_of_fetched, step}
use Rattle.semantics.specs.declared.effect.Effect.{Effect}
use Rattle.semantics.specs.declared.effect.Effect.TheVariants as effects
use Rattle.semantics.specs.declared.reason.Reason.{Reason}
use Rattle.semantics.specs.declared.reason.Reason.TheVariants.{JumpBackward, JumpOutside}
use Rattle.semantics.specs.declared.fetching.Fetched.{Fetched}
use Rattle.semantics.specs.declared.fetching.Fetched.TheVariants.{Begins, Inside, Past}
use Rattle.verifier.specs.Layout.{distance_checked, fetched_checked, HasGoodJumps}
use Rattle.ordering.specs.Orders.{any_target, free_step_by_effect, free_step_of_fetched, free_step, KeepsMeaningBy}
use Rattle.ordering.specs.declared.places.Places.TheVariants.{Kept}
use Rattle.ordering.specs.Tails.{JumpsAhead}
use Rattle.ordering.proofs.Backs.{target_back}
use Rattle.ordering.proofs.Effects.{EffectOf, effect_flow}

-- no faulty jump among the slots of a program is none at all
pub all_forward : (code : List Insn) → slot_count code ≤ MAX_SLOTS → ((k : ℕ) → k < MAX_SLOTS → fetched_checked code k (fetch code k) ≡ Ok tt) → HasGoodJumps code
all_forward code few checked k =
    elim (cases_lt k MAX_SLOTS) [
      | inl lt ↦ checked k lt
      | inr le ↦ ap (fetched_checked code k) (fetch_past code k (omega arith))
    ]

-- ---- the instructions that were placed

distance_ahead : (new : List Insn) (slot : ℕ) (i : Insn) (o : Option ℤ) → JumpsAhead new → fetch new slot ≡ Begins i → flow_distance (flow_of i) ≡ o → distance_checked new slot o ≡ Ok tt
distance_ahead new slot i None ahead here e = refl
distance_ahead new slot i (Some d) ahead here e =
    let inside : slot < slot_count new = begins_inside new slot i here in
    let back : slot_count new - (slot_count new - slot) ≡ slot = omega arith in
    let lands = ahead (slot_count new - slot) i d (omega arith) (ap (fetch new) back ∙ here) e in
    let there : target new slot d ≡ Ok (slot_count new - lands.place) =
    ap (target new slot) lands.is ∙ ap (λ (s : ℕ). target new s (pos lands.ahead)) (sym back)
    ∙ target_back new (slot_count new - slot) lands.place lands.ahead (omega arith) lands.begins lands.at in
    ap (λ (r : Result ℕ Reason). r >>= λ landed. Ok tt) there

fetched_ahead : (new : List Insn) (slot : ℕ) (f : Fetched) → JumpsAhead new → fetch new slot ≡ f → fetched_checked new slot f ≡ Ok tt
fetched_ahead new slot (Begins i) ahead here = distance_ahead new slot i (flow_distance (flow_of i)) ahead here refl
fetched_ahead new slot Inside ahead here = refl
fetched_ahead new slot Past ahead here = refl

pub has_good_jumps : (new : List Insn) → JumpsAhead new → HasGoodJumps new
has_good_jumps new ahead slot = fetched_ahead new slot (fetch new slot) ahead refl

-- ---- the same steps

forward_or_not : (a : ℤ) (slot : ℕ) (b : Bool) (found : Result ℕ Reason) (n : ℕ) → int_le a (pos slot) ≡ b → cond b (Err JumpBackward) found ≡ Ok n → (found ≡ Ok n) × (int_le (pos 0) a ≡ true)
forward_or_not a slot true found n e is = absurd cc
forward_or_not a slot false found n e is = (is, grind (arith, ints))

-- a jump that leads forward leads there
pub any_of_target : (code : List Insn) (slot n : ℕ) (d : ℤ) → target code slot d ≡ Ok n → any_target code slot d ≡ Ok n
any_of_target code slot n d e =
    let a : ℤ = pos (slot + 1) +ℤ d in
    let found : Result ℕ Reason = landing (fetch code (unsigned_abs a)) (unsigned_abs a) in
    let both = forward_or_not a slot (int_le a (pos slot)) found n refl e in
    ap (λ (b : Bool). if b then found else Err JumpOutside) both.1 ∙ both.0

pub passes : (r : Result ℕ Reason) → ◌≡◌ {A = Result (Unit {0}) Reason} (r >>= λ landed. Ok tt) (Ok tt) → (n : ℕ) × (r ≡ Ok n)
passes (Ok n) e = (n, refl)
passes (Err r) e = absurd cc

module _ (w : Environment) (code : List Insn) (s : State) (jumps : HasGoodJumps code) where
  same_jump : (i : Insn) (d : ℤ) → fetch code s.slot ≡ Begins i → flow_distance (flow_of i) ≡ Some d → step_to s (any_target code s.slot d) ≡ step_to s (target code s.slot d)
  same_jump i d here e =
      let checked : distance_checked code s.slot (Some d) ≡ Ok tt = ap (distance_checked code s.slot) (sym e) ∙ ap (fetched_checked code s.slot) (sym here) ∙ jumps s.slot in
      let there = passes (target code s.slot d) checked in
      ap (step_to s) (any_of_target code s.slot there.0 d there.1 ∙ sym there.1)

  same_effect : (i : Insn) (r : Result Effect Reason) → fetch code s.slot ≡ Begins i → IfOk r (EffectOf (flow_of i)) → free_step_by_effect w code s i r ≡ step_by_effect w code s i r
  same_effect i (Err reason) here is = refl
  same_effect i (Ok (effects.Jump d)) here is = same_jump i d here is.0
  same_effect i (Ok e) here is = refl

  same_fetched : (f : Fetched) → fetch code s.slot ≡ f → free_step_of_fetched w code s f ≡ step_of_fetched w code s f
  same_fetched (Begins i) here = same_effect i (effect w.context s.memory s.registers i) here (effect_flow w.context s.memory s.registers i)
  same_fetched Inside here = refl
  same_fetched Past here = refl

  -- where jumps lead forward, a step is the same
  pub same_step : free_step w code s ≡ step w code s
  same_step = same_fetched (fetch code s.slot) refl

-- a program whose jumps lead forward keeps its own meaning
pub keeps_itself : (code : List Insn) → HasGoodJumps code → KeepsMeaningBy Kept code code
keeps_itself code jumps = record {
  meaning = record {
    place = λ slot. slot;
    start = refl;
    steps = λ w s entered. record {
      goes = λ next e. inl (sym (same_step w code s jumps) ∙ e);
      exits = λ verdict e. sym (same_step w code s jumps) ∙ e;
      sticks = λ reason slot e. sym (same_step w code s jumps) ∙ e;
    };
  };
  same = λ slot. refl;
  reached = λ slot reached. refl;
}
