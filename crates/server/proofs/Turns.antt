-- The turns of an endpoint in a round.
use Rattle.std.proofs.Common.{◌≡◌, ℕ, ◌+◌, ◌<◌, ◌≤◌, List, [], ◌∷◌, length, eqb, ltb, cond, Bool, true, false, not, ◌&&◌, ◌⊎◌, inl, inr, refl, ap, sym, subst, ◌∙◌, arith, get_or-set_same, get_or-set_other, Some, None}
use Rattle.std.proofs.lemmas.Bool.{cases_eq, cases_lt, cases_Bool, cond_both, and_parts, and_cases, both_ways, not-true, not-false, not_from_false, eqb-true, eq-eqb, ltb-true, lt-ltb, and_from, cond-true, and_left, and_right, not_from_true, ne_eqb}
use Rattle.std.proofs.lemmas.List.{set_past, get_or_past, get_or-map, length-map}
use Rattle.std.proofs.lemmas.List.Sums.{passes_at_first, fails_before_first}
use Rattle.std.specs.List.{position, position_or_len}
use Rattle.server.specs.Rounds.{Step, Report, Next, has_turn, after, after_all, turns_of, IsReportedIn, IsOver, IsFair}
use Rattle.server.specs.Schedules.{no_endpoint, status_at, is_new, is_due, put, reported, handed_out, begun, unserved}
use Rattle.server.specs.declared.schedule.Status.{Status}

abbrev pub IsServed : List Status → ℕ → Type 0
IsServed endpoints t = (status_at endpoints t).is_served ≡ true

-- ---- a write

put_at : (endpoints : List Status) (t : ℕ) (b : Bool) → IsServed (put endpoints t b) t
put_at endpoints t b = elim (cases_lt t (length endpoints)) [
  | inl inside ↦ ap (λ (s : Status). s.is_served) (get_or-set_same endpoints t (record { is_ready = b; is_served = true }) no_endpoint inside)
  | inr outside ↦
      ap (λ (l : List Status). (status_at l t).is_served) (set_past endpoints t (record { is_ready = b; is_served = true }) outside)
      ∙ ap (λ (s : Status). s.is_served) (get_or_past endpoints t no_endpoint outside)
]

pub put_other : (endpoints : List Status) (t k : ℕ) (b : Bool) → (k ≡ t → ⊥) → status_at (put endpoints t b) k ≡ status_at endpoints k
put_other endpoints t k b other = get_or-set_other endpoints t k (record { is_ready = b; is_served = true }) no_endpoint other

put_served : (endpoints : List Status) (t k : ℕ) (b : Bool) → IsServed endpoints k → IsServed (put endpoints t b) k
put_served endpoints t k b served = elim (cases_eq k t) [
  | inl same ↦ ap (λ (j : ℕ). (status_at (put endpoints t b) j).is_served) same ∙ put_at endpoints t b
  | inr other ↦ ap (λ (s : Status). s.is_served) (put_other endpoints t k b other) ∙ served
]

reported_served : (endpoints : List Status) (token k : ℕ) → IsServed endpoints k → IsServed (reported endpoints token) k
reported_served endpoints token k served =
    cond_both (status_at endpoints token).is_ready endpoints (put endpoints token (status_at endpoints token).is_served) (λ p. IsServed p k) (λ _. served)
    (λ _. put_served endpoints token k (status_at endpoints token).is_served served)

pub reported_other : (endpoints : List Status) (token k : ℕ) → (k ≡ token → ⊥) → status_at (reported endpoints token) k ≡ status_at endpoints k
reported_other endpoints token k other =
    cond_both (status_at endpoints token).is_ready endpoints (put endpoints token (status_at endpoints token).is_served) (λ p. status_at p k ≡ status_at endpoints k) (λ _. refl)
    (λ _. put_other endpoints token k (status_at endpoints token).is_served other)

-- ---- a step

pub after_served : (endpoints : List Status) (step : Step) (k : ℕ) → IsServed endpoints k → IsServed (after endpoints step) k
after_served endpoints (Report token more) k served =
    cond_both (is_new (status_at endpoints token)) (put (reported endpoints token) token more) (reported endpoints token) (λ p. IsServed p k)
    (λ _. put_served (reported endpoints token) token k more (reported_served endpoints token k served)) (λ _. reported_served endpoints token k served)
after_served endpoints (Next more) k served =
    put_served (handed_out endpoints) (position_or_len is_due endpoints) k more (put_served endpoints (position_or_len is_due endpoints) k true served)

pub turn_served : (endpoints : List Status) (step : Step) (t : ℕ) → has_turn endpoints step t ≡ true → IsServed (after endpoints step) t
turn_served endpoints (Report token more) t turn =
    let (new, same) = and_parts (is_new (status_at endpoints token)) (eqb token t) turn in
    cond_both (is_new (status_at endpoints token)) (put (reported endpoints token) token more) (reported endpoints token) (λ p. IsServed p t)
    (λ _. subst (λ (k : ℕ). IsServed (put (reported endpoints token) token more) k) (eqb-true token t same) (put_at (reported endpoints token) token more))
    (λ old. absurd (both_ways (is_new (status_at endpoints token)) old new))
turn_served endpoints (Next more) t turn =
    let (inside, same) = and_parts (ltb t (length endpoints)) (eqb (position_or_len is_due endpoints) t) turn in
    subst (λ (k : ℕ). IsServed (after endpoints (Next more)) k) (eqb-true (position_or_len is_due endpoints) t same) (put_at (handed_out endpoints) (position_or_len is_due endpoints) more)

turn_unserved : (endpoints : List Status) (step : Step) (t : ℕ) → has_turn endpoints step t ≡ true → (status_at endpoints t).is_served ≡ false
turn_unserved endpoints (Report token more) t turn =
    let (new, same) = and_parts (is_new (status_at endpoints token)) (eqb token t) turn in
    let (unready, unserved) = and_parts (not (status_at endpoints token).is_ready) (not (status_at endpoints token).is_served) new in
    subst (λ (k : ℕ). (status_at endpoints k).is_served ≡ false) (eqb-true token t same) (not-true (status_at endpoints token).is_served unserved)
turn_unserved endpoints (Next more) t turn =
    let (inside, same) = and_parts (ltb t (length endpoints)) (eqb (position_or_len is_due endpoints) t) turn in
    let here : position_or_len is_due endpoints ≡ t = eqb-true (position_or_len is_due endpoints) t same in
    let lt : position_or_len is_due endpoints < length endpoints = omega (arith, here, ltb-true t (length endpoints) inside) in
    let (ready, unserved) = and_parts (status_at endpoints (position_or_len is_due endpoints)).is_ready (not (status_at endpoints (position_or_len is_due endpoints)).is_served) (passes_at_first is_due endpoints no_endpoint lt) in
    subst (λ (k : ℕ). (status_at endpoints k).is_served ≡ false) here (not-true (status_at endpoints (position_or_len is_due endpoints)).is_served unserved)

pub no_turn_served : (endpoints : List Status) (step : Step) (t : ℕ) → IsServed endpoints t → has_turn endpoints step t ≡ false
no_turn_served endpoints step t served = elim (cases_Bool (has_turn endpoints step t)) [
  | inl turn ↦ absurd (both_ways (status_at endpoints t).is_served (turn_unserved endpoints step t turn) served)
  | inr none ↦ none
]

-- ---- no endpoint has two turns

turns_served : (endpoints : List Status) (steps : List Step) (t : ℕ) → IsServed endpoints t → turns_of t endpoints steps ≡ 0
turns_served endpoints [] t served = refl
turns_served endpoints (step ∷ steps) t served =
    let none = no_turn_served endpoints step t served in
    let rest = turns_served (after endpoints step) steps t (after_served endpoints step t served) in
    ap (λ (b : Bool). cond b 1 0 + turns_of t (after endpoints step) steps) none ∙ ap (λ (n : ℕ). 0 + n) rest

pub once : (endpoints : List Status) (steps : List Step) (t : ℕ) → turns_of t endpoints steps ≤ 1
once endpoints [] t = omega arith
once endpoints (step ∷ steps) t = elim (cases_Bool (has_turn endpoints step t)) [
  | inl turn ↦
      subst (λ (b : Bool). cond b 1 0 + turns_of t (after endpoints step) steps ≤ 1) (sym turn)
      (let rest = turns_served (after endpoints step) steps t (turn_served endpoints step t turn) in omega (arith, rest))
  | inr none ↦
      subst (λ (b : Bool). cond b 1 0 + turns_of t (after endpoints step) steps ≤ 1) (sym none)
      (let rest = once (after endpoints step) steps t in omega (arith, rest))
]

-- ---- each endpoint that is due or reported has one

-- an endpoint that had no turn, has none now and is reported is ready
ready_if_old : (s : Status) → s.is_served ≡ false → is_new s ≡ false → s.is_ready ≡ true
ready_if_old s unserved old = elim (and_cases (not s.is_ready) (not s.is_served) old) [
  | inl ready ↦ not-false s.is_ready ready
  | inr served ↦ absurd (both_ways s.is_served unserved (not-false s.is_served served))
]

not_new : (endpoints : List Status) (token t : ℕ) (more : Bool) → has_turn endpoints (Report token more) t ≡ false → token ≡ t → is_new (status_at endpoints t) ≡ false
not_new endpoints token t more none same = elim (and_cases (is_new (status_at endpoints token)) (eqb token t) none) [
  | inl old ↦ ap (λ (k : ℕ). is_new (status_at endpoints k)) (sym same) ∙ old
  | inr other ↦ absurd (both_ways (eqb token t) other (eq-eqb token t same))
]

due_if_reported : (endpoints : List Status) (token t : ℕ) (more : Bool) → (status_at endpoints t).is_served ≡ false → has_turn endpoints (Report token more) t ≡ false → token ≡ t
    → is_due (status_at endpoints t) ≡ true
due_if_reported endpoints token t more unserved none same =
    and_from (status_at endpoints t).is_ready (not (status_at endpoints t).is_served) (ready_if_old (status_at endpoints t) unserved (not_new endpoints token t more none same))
    (not_from_false (status_at endpoints t).is_served unserved)

-- a report of an endpoint that is ready changes nothing
report_ready : (endpoints : List Status) (token t : ℕ) (more : Bool) → (status_at endpoints t).is_served ≡ false → has_turn endpoints (Report token more) t ≡ false → token ≡ t
    → after endpoints (Report token more) ≡ endpoints
report_ready endpoints token t more unserved none same =
    let old : is_new (status_at endpoints token) ≡ false = ap (λ (k : ℕ). is_new (status_at endpoints k)) same ∙ not_new endpoints token t more none same in
    let ready : (status_at endpoints token).is_ready ≡ true =
    ap (λ (k : ℕ). (status_at endpoints k).is_ready) same ∙ ready_if_old (status_at endpoints t) unserved (not_new endpoints token t more none same) in
    ap (λ (b : Bool). cond b (put (reported endpoints token) token more) (reported endpoints token)) old
    ∙ ap (λ (b : Bool). cond b endpoints (put endpoints token (status_at endpoints token).is_served)) ready

-- a step that doesn't serve an endpoint that had no turn leaves it as it is
pub unchanged : (endpoints : List Status) (step : Step) (t : ℕ) → (status_at endpoints t).is_served ≡ false → has_turn endpoints step t ≡ false
    → status_at (after endpoints step) t ≡ status_at endpoints t
unchanged endpoints (Report token more) t unserved none = elim (cases_eq t token) [
  | inl same ↦ ap (λ (p : List Status). status_at p t) (report_ready endpoints token t more unserved none (sym same))
  | inr other ↦
      cond_both (is_new (status_at endpoints token)) (put (reported endpoints token) token more) (reported endpoints token) (λ p. status_at p t ≡ status_at endpoints t)
      (λ _. put_other (reported endpoints token) token t more other ∙ reported_other endpoints token t other) (λ _. reported_other endpoints token t other)
]
unchanged endpoints (Next more) t unserved none = elim (cases_eq t (position_or_len is_due endpoints)) [
  | inl same ↦ elim (cases_lt t (length endpoints)) [
    | inl inside ↦ absurd (both_ways (has_turn endpoints (Next more) t) none (and_from (ltb t (length endpoints)) (eqb (position_or_len is_due endpoints) t) (lt-ltb t (length endpoints) inside) (eq-eqb (position_or_len is_due endpoints) t (sym same))))
    | inr outside ↦ absurd (both_ways (status_at endpoints t).is_served unserved (ap (λ (s : Status). s.is_served) (get_or_past endpoints t no_endpoint outside)))
  ]
  | inr other ↦ put_other (handed_out endpoints) (position_or_len is_due endpoints) t more other ∙ put_other endpoints (position_or_len is_due endpoints) t true other
]

-- at the end of a round no endpoint is due
pub over_at : (endpoints : List Status) (t : ℕ) → IsOver endpoints → is_due (status_at endpoints t) ≡ false
over_at endpoints t over = elim (cases_lt (position_or_len is_due endpoints) (length endpoints)) [
  | inl inside ↦
      let some : position is_due endpoints ≡ Some (position_or_len is_due endpoints) = cond-true (ltb (position_or_len is_due endpoints) (length endpoints)) (Some (position_or_len is_due endpoints)) None (lt-ltb (position_or_len is_due endpoints) (length endpoints) inside) in
      absurd (cc (over, some))
  | inr none ↦ elim (cases_lt t (length endpoints)) [
    | inl inside ↦ fails_before_first is_due endpoints t no_endpoint (omega (arith, inside, none))
    | inr outside ↦ ap is_due (get_or_past endpoints t no_endpoint outside)
  ]
]

abbrev IsAwaited : List Status → List Step → ℕ → Type 0
IsAwaited endpoints steps t = (is_due (status_at endpoints t) ≡ true) ⊎ IsReportedIn t steps

still_awaited : (endpoints : List Status) (step : Step) (steps : List Step) (t : ℕ) → (status_at endpoints t).is_served ≡ false → has_turn endpoints step t ≡ false
    → IsAwaited endpoints (step ∷ steps) t → IsAwaited (after endpoints step) steps t
still_awaited endpoints step steps t unserved none (inl due) = inl (ap is_due (unchanged endpoints step t unserved none) ∙ due)
still_awaited endpoints (Report token more) steps t unserved none (inr (inl same)) =
    inl (ap is_due (unchanged endpoints (Report token more) t unserved none) ∙ due_if_reported endpoints token t more unserved none same)
still_awaited endpoints (Report token more) steps t unserved none (inr (inr rest)) = inr rest
still_awaited endpoints (Next more) steps t unserved none (inr rest) = inr rest

pub at_least_once : (endpoints : List Status) (steps : List Step) (t : ℕ) → (status_at endpoints t).is_served ≡ false → IsAwaited endpoints steps t → IsOver (after_all endpoints steps)
    → 1 ≤ turns_of t endpoints steps
at_least_once endpoints [] t unserved (inl due) over = absurd (both_ways (is_due (status_at endpoints t)) (over_at endpoints t over) due)
at_least_once endpoints [] t unserved (inr none) over = absurd none
at_least_once endpoints (step ∷ steps) t unserved awaited over = elim (cases_Bool (has_turn endpoints step t)) [
  | inl turn ↦ subst (λ (b : Bool). 1 ≤ cond b 1 0 + turns_of t (after endpoints step) steps) (sym turn) (omega arith)
  | inr none ↦
      subst (λ (b : Bool). 1 ≤ cond b 1 0 + turns_of t (after endpoints step) steps) (sym none)
      (let rest =
      at_least_once (after endpoints step) steps t (ap (λ (s : Status). s.is_served) (unchanged endpoints step t unserved none) ∙ unserved)
      (still_awaited endpoints step steps t unserved none awaited) over in omega (arith, rest))
]

-- ---- any other endpoint has none

pub unready_not_due : (s : Status) → s.is_ready ≡ false → is_due s ≡ false
unready_not_due s unready = and_left s.is_ready (not s.is_served) unready

pub not_due_served : (s : Status) → s.is_served ≡ true → is_due s ≡ false
not_due_served s served = and_right s.is_ready (not s.is_served) (not_from_true s.is_served served)

next_is_due : (endpoints : List Status) (more : Bool) (t : ℕ) → has_turn endpoints (Next more) t ≡ true → is_due (status_at endpoints t) ≡ true
next_is_due endpoints more t turn =
    let (inside, same) = and_parts (ltb t (length endpoints)) (eqb (position_or_len is_due endpoints) t) turn in
    let here : position_or_len is_due endpoints ≡ t = eqb-true (position_or_len is_due endpoints) t same in
    let lt : position_or_len is_due endpoints < length endpoints = omega (arith, here, ltb-true t (length endpoints) inside) in
    subst (λ (k : ℕ). is_due (status_at endpoints k) ≡ true) here (passes_at_first is_due endpoints no_endpoint lt)

no_turn_unawaited : (endpoints : List Status) (step : Step) (steps : List Step) (t : ℕ) → is_due (status_at endpoints t) ≡ false → (IsReportedIn t (step ∷ steps) → ⊥) → has_turn endpoints step t ≡ false
no_turn_unawaited endpoints (Report token more) steps t due none =
    and_right (is_new (status_at endpoints token)) (eqb token t) (ne_eqb token t (λ same. none (inl same)))
no_turn_unawaited endpoints (Next more) steps t due none = elim (cases_Bool (has_turn endpoints (Next more) t)) [
  | inl turn ↦ absurd (both_ways (is_due (status_at endpoints t)) due (next_is_due endpoints more t turn))
  | inr without ↦ without
]

still_not_due : (endpoints : List Status) (step : Step) (steps : List Step) (t : ℕ) → is_due (status_at endpoints t) ≡ false → (IsReportedIn t (step ∷ steps) → ⊥)
    → is_due (status_at (after endpoints step) t) ≡ false
still_not_due endpoints (Report token more) steps t due none =
    let other : t ≡ token → ⊥ = λ same. none (inl (sym same)) in
    cond_both (is_new (status_at endpoints token)) (put (reported endpoints token) token more) (reported endpoints token) (λ p. is_due (status_at p t) ≡ false)
    (λ _. ap is_due (put_other (reported endpoints token) token t more other ∙ reported_other endpoints token t other) ∙ due)
    (λ _. ap is_due (reported_other endpoints token t other) ∙ due)
still_not_due endpoints (Next more) steps t due none = elim (cases_eq t (position_or_len is_due endpoints)) [
  | inl same ↦
      not_due_served (status_at (after endpoints (Next more)) t)
      (subst (λ (k : ℕ). IsServed (after endpoints (Next more)) k) (sym same) (put_at (handed_out endpoints) (position_or_len is_due endpoints) more))
  | inr other ↦ ap is_due (put_other (handed_out endpoints) (position_or_len is_due endpoints) t more other ∙ put_other endpoints (position_or_len is_due endpoints) t true other) ∙ due
]

later_reports : (t : ℕ) (step : Step) (steps : List Step) → IsReportedIn t steps → IsReportedIn t (step ∷ steps)
later_reports t (Report token more) steps rest = inr rest
later_reports t (Next more) steps rest = rest

pub no_turns : (endpoints : List Status) (steps : List Step) (t : ℕ) → is_due (status_at endpoints t) ≡ false → (IsReportedIn t steps → ⊥) → turns_of t endpoints steps ≡ 0
no_turns endpoints [] t due none = refl
no_turns endpoints (step ∷ steps) t due none =
    let without = no_turn_unawaited endpoints step steps t due none in
    let rest = no_turns (after endpoints step) steps t (still_not_due endpoints step steps t due none) (λ reported. none (later_reports t step steps reported)) in
    ap (λ (b : Bool). cond b 1 0 + turns_of t (after endpoints step) steps) without ∙ ap (λ (n : ℕ). 0 + n) rest

-- ---- a round

pub begun_at : (endpoints : List Status) (t : ℕ) → t < length endpoints → status_at (begun endpoints) t ≡ unserved (status_at endpoints t)
begun_at endpoints t inside = get_or-map unserved endpoints t no_endpoint no_endpoint inside

pub begun_not_due : (endpoints : List Status) (t : ℕ) → (status_at endpoints t).is_ready ≡ false → is_due (status_at (begun endpoints) t) ≡ false
begun_not_due endpoints t unready = elim (cases_lt t (length endpoints)) [
  | inl inside ↦ ap is_due (begun_at endpoints t inside) ∙ unready_not_due (unserved (status_at endpoints t)) unready
  | inr outside ↦ ap is_due (get_or_past (begun endpoints) t no_endpoint (let l = length-map endpoints unserved in omega (arith, l, outside)))
]

awaited_at_first : (endpoints : List Status) (steps : List Step) (t : ℕ) → t < length endpoints → ((status_at endpoints t).is_ready ≡ true) ⊎ IsReportedIn t steps → IsAwaited (begun endpoints) steps t
awaited_at_first endpoints steps t inside (inl ready) = inl (ap is_due (begun_at endpoints t inside) ∙ ap (λ (b : Bool). b && true) ready)
awaited_at_first endpoints steps t inside (inr rest) = inr rest

pub fair : (endpoints : List Status) → IsFair endpoints
fair endpoints = record {
  once = λ steps t. once endpoints steps t;
  served = λ steps t inside over awaited.
      let least = at_least_once (begun endpoints) steps t (ap (λ (s : Status). s.is_served) (begun_at endpoints t inside)) (awaited_at_first endpoints steps t inside awaited) over in
      let most = once (begun endpoints) steps t in
      omega (arith, least, most);
  others = λ steps t unready none. no_turns (begun endpoints) steps t (begun_not_due endpoints t unready) none;
  twice = λ rest steps t.
      let first = once endpoints rest t in
      let second = once (begun (after_all endpoints rest)) steps t in
      omega (arith, first, second);
}
