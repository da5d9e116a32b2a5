-- What a round leaves: which endpoints had a turn in it, and what is known of each.
use Rattle.std.proofs.Common.{◌≡◌, ℕ, ◌+◌, ◌<◌, ◌≤◌, List, [], ◌∷◌, ◌++◌, length, eqb, ltb, cond, Bool, true, false, not, ◌&&◌, ◌||◌, ◌⊎◌, inl, inr, refl, ap, sym, subst, ◌∙◌, arith, get_or-set_same, append-nil, Option}
use Rattle.std.proofs.lemmas.Bool.{cases_eq, cases_lt, cases_Bool, cond_both, and_parts, and_from, both_ways, eqb-true, eq-eqb, ne_eqb, lt-ltb, le-ltb, ltb-true, and_right, not-true, or_from, or_parts}
use Rattle.std.proofs.lemmas.List.{get_or_past, length-map, length-set}
use Rattle.std.proofs.lemmas.List.Folds.{list_any-append}
use Rattle.std.proofs.lemmas.List.Sums.{sum_by-cons}
use Rattle.std.specs.List.{position_or_len, list_any, count_by}
use Rattle.server.proofs.Reported.{reported_more}
use Rattle.server.proofs.Turns.{IsServed, fair, put_other, reported_other, after_served, turn_served, no_turn_served, unchanged, over_at, no_turns, begun_at, begun_not_due}
use Rattle.server.proofs.Walks.{after_more, turns_more, reports_more, count_turns, same_test, length_reported, length_after, length_after_all}
use Rattle.server.specs.Calls.{HasReported}
use Rattle.server.specs.RoundSteps.{turn_of, turns_in, reports_in, asks_in, HasGone}
use Rattle.server.specs.Rounds.{Step, Report, Next, EndpointTurn, has_turn, after, after_all, turns_of, IsReportedIn, IsOver, IsFair, turn_count, may_have_more, is_awaited, is_reported_again, IsRound, status_after, HasServedRound}
use Rattle.server.specs.Schedules.{no_endpoint, status_at, is_new, is_due, put, reported, handed_out, begun, unserved}
use Rattle.server.specs.declared.schedule.Status.{Status}

abbrev served_with : Bool → Status
served_with ready = record { is_ready = ready; is_served = true }

or_false : (b : Bool) → (b || false) ≡ b
or_false true = refl
or_false false = refl

same_status : {s : Status} {ready served : Bool} → s.is_ready ≡ ready → s.is_served ≡ served → s ≡ record { is_ready = ready; is_served = served }
same_status {s} {ready} {served} r v = ap (λ (b : Bool). record { is_ready = b; is_served = s.is_served }) r ∙ ap (λ (b : Bool). record { is_ready = ready; is_served = b }) v

nothing_more : (k : ℕ) → 0 + k ≡ k
nothing_more k = omega arith

-- ---- what is no endpoint has no turn

no_turn_past : (endpoints : List Status) (step : Step) (t : ℕ) → length endpoints ≤ t → has_turn endpoints step t ≡ false
no_turn_past endpoints step t past = no_turn_served endpoints step t (ap (λ (s : Status). s.is_served) (get_or_past endpoints t no_endpoint past))

no_turns_past : (endpoints : List Status) (steps : List Step) (t : ℕ) → length endpoints ≤ t → turns_of t endpoints steps ≡ 0
no_turns_past endpoints [] t past = refl
no_turns_past endpoints (step ∷ steps) t past =
    let same = length_after endpoints step in
    let rest = no_turns_past (after endpoints step) steps t (omega (arith, same, past)) in
    ap (λ (b : Bool). cond b 1 0 + turns_of t (after endpoints step) steps) (no_turn_past endpoints step t past) ∙ ap (λ (n : ℕ). 0 + n) rest

-- ---- what is reported

is_reported : (t : ℕ) (steps : List Step) → list_any (λ u. eqb u t) (reports_in steps) ≡ true → IsReportedIn t steps
is_reported t [] any = absurd (both_ways false refl any)
is_reported t (Report token more ∷ steps) any = elim (cases_Bool (eqb token t)) [
  | inl same ↦ inl (eqb-true token t same)
  | inr other ↦ inr (is_reported t steps (ap (λ (b : Bool). b || list_any (λ u. eqb u t) (reports_in steps)) (sym other) ∙ any))
]
is_reported t (Next more ∷ steps) any = is_reported t steps any

reported_any : (t : ℕ) (steps : List Step) → IsReportedIn t steps → list_any (λ u. eqb u t) (reports_in steps) ≡ true
reported_any t [] rest = elim rest [ ]
reported_any t (Report token more ∷ steps) (inl same) = ap (λ (b : Bool). b || list_any (λ u. eqb u t) (reports_in steps)) (eq-eqb token t same)
reported_any t (Report token more ∷ steps) (inr rest) = elim (cases_Bool (eqb token t)) [
  | inl same ↦ ap (λ (b : Bool). b || list_any (λ u. eqb u t) (reports_in steps)) same
  | inr other ↦ ap (λ (b : Bool). b || list_any (λ u. eqb u t) (reports_in steps)) other ∙ reported_any t steps rest
]
reported_any t (Next more ∷ steps) rest = reported_any t steps rest

abbrev report_count : ℕ → List Step → ℕ
report_count t steps = count_by (λ u. eqb u t) (reports_in steps)

count_more : (t u : ℕ) (reports : List ℕ) → count_by (λ v. eqb v t) (u ∷ reports) ≡ cond (eqb u t) 1 0 + count_by (λ v. eqb v t) reports
count_more t u reports = sum_by-cons (λ v. cond (eqb v t) 1 0) u reports

any_counted : (t : ℕ) (reports : List ℕ) → list_any (λ u. eqb u t) reports ≡ ltb 0 (count_by (λ u. eqb u t) reports)
any_counted t [] = refl
any_counted t (u ∷ reports) = elim (cases_Bool (eqb u t)) [
  | inl same ↦
      ap (λ (b : Bool). b || list_any (λ v. eqb v t) reports) same
      ∙ sym (ap (ltb 0) (count_more t u reports) ∙ lt-ltb 0 (cond (eqb u t) 1 0 + count_by (λ v. eqb v t) reports) (subst (λ (b : Bool). 0 < cond b 1 0 + count_by (λ v. eqb v t) reports) (sym same) (omega arith)))
  | inr other ↦
      ap (λ (b : Bool). b || list_any (λ v. eqb v t) reports) other ∙ any_counted t reports
      ∙ sym (ap (ltb 0) (count_more t u reports) ∙ ap (λ (b : Bool). ltb 0 (cond b 1 0 + count_by (λ v. eqb v t) reports)) other ∙ ap (ltb 0) (nothing_more (count_by (λ v. eqb v t) reports)))
]

-- ---- what the turn in a step says

abbrev says : Step → Bool
says (Report token more) = more
says (Next more) = more

abbrev more_in : ℕ → List Status → List Step → Bool
more_in t endpoints steps = may_have_more t (turns_in endpoints steps)

any_if : (b more : Bool) (token t : ℕ) (rest : List EndpointTurn)
    → may_have_more t (cond b (record { token = token; more = more } ∷ []) [] ++ rest) ≡ ((b && eqb token t) && more) || may_have_more t rest
any_if true more token t rest = refl
any_if false more token t rest = refl

turn_says : (t : ℕ) (endpoints : List Status) (step : Step) (steps : List Step)
    → more_in t endpoints (step ∷ steps) ≡ (has_turn endpoints step t && says step) || more_in t (after endpoints step) steps
turn_says t endpoints (Report token more) steps = any_if (is_new (status_at endpoints token)) more token t (turns_in (after endpoints (Report token more)) steps)
turn_says t endpoints (Next more) steps =
    any_if (ltb (position_or_len is_due endpoints) (length endpoints)) more (position_or_len is_due endpoints) t (turns_in (after endpoints (Next more)) steps)
    ∙ ap (λ (b : Bool). (b && more) || more_in t (after endpoints (Next more)) steps) (same_test (position_or_len is_due endpoints) t (length endpoints))

-- a step that gives an endpoint no turn says nothing of it
says_nothing : (t : ℕ) (endpoints : List Status) (step : Step) (steps : List Step) → has_turn endpoints step t ≡ false
    → more_in t endpoints (step ∷ steps) ≡ more_in t (after endpoints step) steps
says_nothing t endpoints step steps none =
    turn_says t endpoints step steps ∙ ap (λ (b : Bool). (b && says step) || more_in t (after endpoints step) steps) none

-- what had its turn has no other one
no_more : (t : ℕ) (endpoints : List Status) (steps : List Step) → IsServed endpoints t → more_in t endpoints steps ≡ false
no_more t endpoints [] served = refl
no_more t endpoints (step ∷ steps) served =
    says_nothing t endpoints step steps (no_turn_served endpoints step t served) ∙ no_more t (after endpoints step) steps (after_served endpoints step t served)

-- so the only turn of an endpoint decides
says_all : (t : ℕ) (endpoints : List Status) (step : Step) (steps : List Step) → has_turn endpoints step t ≡ true → more_in t endpoints (step ∷ steps) ≡ says step
says_all t endpoints step steps turn =
    turn_says t endpoints step steps ∙ ap (λ (b : Bool). (b && says step) || more_in t (after endpoints step) steps) turn
    ∙ ap (λ (b : Bool). says step || b) (no_more t (after endpoints step) steps (turn_served endpoints step t turn)) ∙ or_false (says step)

-- ---- what a step leaves of an endpoint

-- one that has its turn
turn_leaves : (endpoints : List Status) (step : Step) (t : ℕ) → t < length endpoints → has_turn endpoints step t ≡ true → status_at (after endpoints step) t ≡ served_with (says step)
turn_leaves endpoints (Report token more) t inside turn =
    let (new, same) = and_parts (is_new (status_at endpoints token)) (eqb token t) turn in
    let long = length_reported endpoints token in
    let here : token ≡ t = eqb-true token t same in
    ap (λ (b : Bool). status_at (cond b (put (reported endpoints token) token more) (reported endpoints token)) t) new
    ∙ ap (λ (k : ℕ). status_at (put (reported endpoints token) token more) k) (sym here)
    ∙ get_or-set_same (reported endpoints token) token (served_with more) no_endpoint (omega (arith, long, here, inside))
turn_leaves endpoints (Next more) t inside turn =
    let (within, same) = and_parts (ltb t (length endpoints)) (eqb (position_or_len is_due endpoints) t) turn in
    let here : position_or_len is_due endpoints ≡ t = eqb-true (position_or_len is_due endpoints) t same in
    let long = length-set endpoints (position_or_len is_due endpoints) (served_with true) in
    ap (λ (k : ℕ). status_at (after endpoints (Next more)) k) (sym here)
    ∙ get_or-set_same (handed_out endpoints) (position_or_len is_due endpoints) (served_with more) no_endpoint (omega (arith, long, here, inside))

-- one that had its turn, where it is reported
report_same : (endpoints : List Status) (t : ℕ) → t < length endpoints → IsServed endpoints t
    → status_at (reported endpoints t) t ≡ served_with ((status_at endpoints t).is_ready || eqb t t)
report_same endpoints t inside served =
    cond_both (status_at endpoints t).is_ready endpoints (put endpoints t (status_at endpoints t).is_served) (λ p. status_at p t ≡ served_with ((status_at endpoints t).is_ready || eqb t t))
    (λ ready. same_status ready served ∙ ap served_with (sym (ap (λ (b : Bool). b || eqb t t) ready)))
    (λ unready. get_or-set_same endpoints t (served_with (status_at endpoints t).is_served) no_endpoint inside
    ∙ ap served_with (served ∙ sym (ap (λ (b : Bool). b || eqb t t) unready ∙ eq-eqb t t refl)))

report_leaves : (endpoints : List Status) (token : ℕ) (more : Bool) (t : ℕ) → t < length endpoints → IsServed endpoints t
    → status_at (after endpoints (Report token more)) t ≡ served_with ((status_at endpoints t).is_ready || eqb token t)
report_leaves endpoints token more t inside served = elim (cases_eq token t) [
  | inl same ↦ subst (λ (k : ℕ). status_at (after endpoints (Report k more)) t ≡ served_with ((status_at endpoints t).is_ready || eqb k t)) (sym same)
      (ap (λ (b : Bool). status_at (cond b (put (reported endpoints t) t more) (reported endpoints t)) t) (and_right (not (status_at endpoints t).is_ready) (not (status_at endpoints t).is_served) (ap not served))
      ∙ report_same endpoints t inside served)
  | inr other ↦
      let elsewhere : t ≡ token → ⊥ = λ is. other (sym is) in
      cond_both (is_new (status_at endpoints token)) (put (reported endpoints token) token more) (reported endpoints token) (λ p. status_at p t ≡ status_at endpoints t)
      (λ _. put_other (reported endpoints token) token t more elsewhere ∙ reported_other endpoints token t elsewhere) (λ _. reported_other endpoints token t elsewhere)
      ∙ ap (λ (b : Bool). record { is_ready = (status_at endpoints t).is_ready; is_served = b }) served
      ∙ ap served_with (sym (ap (λ (b : Bool). (status_at endpoints t).is_ready || b) (ne_eqb token t other) ∙ or_false (status_at endpoints t).is_ready))
]

-- and where the next endpoint is asked for
next_leaves : (endpoints : List Status) (more : Bool) (t : ℕ) → t < length endpoints → IsServed endpoints t → status_at (after endpoints (Next more)) t ≡ status_at endpoints t
next_leaves endpoints more t inside served = elim (cases_eq t (position_or_len is_due endpoints)) [
  | inl same ↦
      let turn : has_turn endpoints (Next more) t ≡ true = and_from (ltb t (length endpoints)) (eqb (position_or_len is_due endpoints) t) (lt-ltb t (length endpoints) inside) (eq-eqb (position_or_len is_due endpoints) t (sym same)) in
      absurd (both_ways (has_turn endpoints (Next more) t) (no_turn_served endpoints (Next more) t served) turn)
  | inr other ↦ put_other (handed_out endpoints) (position_or_len is_due endpoints) t more other ∙ put_other endpoints (position_or_len is_due endpoints) t true other
]

-- ---- what steps leave of an endpoint

more_reports : (ready same : Bool) (k : ℕ) → ((ready || same) || ltb 0 k) ≡ (ready || ltb 0 (cond same 1 0 + k))
more_reports true same k = refl
more_reports false true k = sym (lt-ltb 0 (1 + k) (omega arith))
more_reports false false k = ap (ltb 0) (sym (nothing_more k))

after_first : (k : ℕ) → ltb 1 (1 + k) ≡ ltb 0 k
after_first k = elim (cases_lt 0 k) [
  | inl some ↦ lt-ltb 1 (1 + k) (omega (arith, some)) ∙ sym (lt-ltb 0 k some)
  | inr none ↦ le-ltb 1 (1 + k) (omega (arith, none)) ∙ sym (le-ltb 0 k none)
]

longer : (endpoints : List Status) (step : Step) (t : ℕ) → t < length endpoints → t < length (after endpoints step)
longer endpoints step t inside = let same = length_after endpoints step in omega (arith, same, inside)

-- one that had its turn
served_leaves : (t : ℕ) (endpoints : List Status) (steps : List Step) → t < length endpoints → IsServed endpoints t
    → status_at (after_all endpoints steps) t ≡ served_with ((status_at endpoints t).is_ready || ltb 0 (report_count t steps))
served_leaves t endpoints [] inside served = same_status refl served ∙ ap served_with (sym (or_false (status_at endpoints t).is_ready))
served_leaves t endpoints (Report token more ∷ steps) inside served =
    served_leaves t (after endpoints (Report token more)) steps (longer endpoints (Report token more) t inside) (after_served endpoints (Report token more) t served)
    ∙ ap (λ (s : Status). served_with (s.is_ready || ltb 0 (report_count t steps))) (report_leaves endpoints token more t inside served)
    ∙ ap served_with (more_reports (status_at endpoints t).is_ready (eqb token t) (report_count t steps))
    ∙ ap (λ (k : ℕ). served_with ((status_at endpoints t).is_ready || ltb 0 k)) (sym (count_more t token (reports_in steps)))
served_leaves t endpoints (Next more ∷ steps) inside served =
    served_leaves t (after endpoints (Next more)) steps (longer endpoints (Next more) t inside) (after_served endpoints (Next more) t served)
    ∙ ap (λ (s : Status). served_with (s.is_ready || ltb 0 (report_count t steps))) (next_leaves endpoints more t inside served)

abbrev IsUnserved : List Status → ℕ → Type 0
IsUnserved endpoints t = (status_at endpoints t).is_served ≡ false

still_unserved : (endpoints : List Status) (step : Step) (t : ℕ) → IsUnserved endpoints t → has_turn endpoints step t ≡ false → IsUnserved (after endpoints step) t
still_unserved endpoints step t unserved none = ap (λ (s : Status). s.is_served) (unchanged endpoints step t unserved none) ∙ unserved

-- one without a turn in them
stays : (t : ℕ) (endpoints : List Status) (steps : List Step) → IsUnserved endpoints t → turns_of t endpoints steps ≡ 0
    → (status_at (after_all endpoints steps) t ≡ status_at endpoints t) × (more_in t endpoints steps ≡ false)
stays t endpoints [] unserved zero = (refl, refl)
stays t endpoints (step ∷ steps) unserved zero = elim (cases_Bool (has_turn endpoints step t)) [
  | inl turn ↦
      let one : cond true 1 0 + turns_of t (after endpoints step) steps ≡ 0 = ap (λ (b : Bool). cond b 1 0 + turns_of t (after endpoints step) steps) (sym turn) ∙ zero in
      absurd (omega (arith, one))
  | inr none ↦
      let rest : cond false 1 0 + turns_of t (after endpoints step) steps ≡ 0 = ap (λ (b : Bool). cond b 1 0 + turns_of t (after endpoints step) steps) (sym none) ∙ zero in
      let more = stays t (after endpoints step) steps (still_unserved endpoints step t unserved none) (omega (arith, rest)) in
      (more.0 ∙ unchanged endpoints step t unserved none, says_nothing t endpoints step steps none ∙ more.1)
]

-- one that is ready has no turn by reports
waits : (t : ℕ) (endpoints : List Status) (steps : List Step) → IsUnserved endpoints t → (status_at endpoints t).is_ready ≡ true → asks_in steps ≡ false → turns_of t endpoints steps ≡ 0
waits t endpoints [] unserved ready quiet = refl
waits t endpoints (Report token more ∷ steps) unserved ready quiet = elim (cases_Bool (has_turn endpoints (Report token more) t)) [
  | inl turn ↦
      let (new, same) = and_parts (is_new (status_at endpoints token)) (eqb token t) turn in
      let here : is_new (status_at endpoints t) ≡ true = ap (λ (k : ℕ). is_new (status_at endpoints k)) (sym (eqb-true token t same)) ∙ new in
      absurd (both_ways (is_new (status_at endpoints t)) (ap (λ (b : Bool). not b && not (status_at endpoints t).is_served) ready) here)
  | inr none ↦
      let rest = waits t (after endpoints (Report token more)) steps (still_unserved endpoints (Report token more) t unserved none) (ap (λ (s : Status). s.is_ready) (unchanged endpoints (Report token more) t unserved none) ∙ ready) quiet in
      ap (λ (b : Bool). cond b 1 0 + turns_of t (after endpoints (Report token more)) steps) none ∙ ap (λ (n : ℕ). 0 + n) rest
]
waits t endpoints (Next more ∷ steps) unserved ready quiet = absurd (both_ways true quiet refl)

-- one whose reports give it its turn
reports_leave : (t : ℕ) (endpoints : List Status) (steps : List Step) → t < length endpoints → is_new (status_at endpoints t) ≡ true → asks_in steps ≡ false → 0 < report_count t steps
    → status_at (after_all endpoints steps) t ≡ served_with (more_in t endpoints steps || ltb 1 (report_count t steps))
reports_leave t endpoints [] inside new quiet some = absurd (omega (arith, some))
reports_leave t endpoints (Report token more ∷ steps) inside new quiet some =
    let step : Step = Report token more in
    let next : List Status = after endpoints step in
    elim (cases_Bool (eqb token t)) [
      | inl same ↦
          let turn : has_turn endpoints step t ≡ true = and_from (is_new (status_at endpoints token)) (eqb token t) (ap (λ (k : ℕ). is_new (status_at endpoints k)) (eqb-true token t same) ∙ new) same in
          served_leaves t next steps (longer endpoints step t inside) (turn_served endpoints step t turn)
          ∙ ap (λ (s : Status). served_with (s.is_ready || ltb 0 (report_count t steps))) (turn_leaves endpoints step t inside turn)
          ∙ ap (λ (b : Bool). served_with (more || b)) (sym (after_first (report_count t steps)))
          ∙ ap (λ (b : Bool). served_with (more || ltb 1 (cond b 1 0 + report_count t steps))) (sym same)
          ∙ ap (λ (k : ℕ). served_with (more || ltb 1 k)) (sym (count_more t token (reports_in steps)))
          ∙ ap (λ (b : Bool). served_with (b || ltb 1 (report_count t (step ∷ steps)))) (sym (says_all t endpoints step steps turn))
      | inr other ↦
          let none : has_turn endpoints step t ≡ false = and_right (is_new (status_at endpoints token)) (eqb token t) other in
          let unserved : IsUnserved endpoints t = not-true (status_at endpoints t).is_served (and_parts (not (status_at endpoints t).is_ready) (not (status_at endpoints t).is_served) new).1 in
          let fewer : report_count t (step ∷ steps) ≡ report_count t steps = count_more t token (reports_in steps) ∙ ap (λ (b : Bool). cond b 1 0 + report_count t steps) other ∙ nothing_more (report_count t steps) in
          reports_leave t next steps (longer endpoints step t inside) (ap is_new (unchanged endpoints step t unserved none) ∙ new) quiet (omega (arith, fewer, some))
          ∙ ap (λ (b : Bool). served_with (b || ltb 1 (report_count t steps))) (sym (says_nothing t endpoints step steps none))
          ∙ ap (λ (k : ℕ). served_with (more_in t endpoints (step ∷ steps) || ltb 1 k)) (sym fewer)
    ]
reports_leave t endpoints (Next more ∷ steps) inside new quiet some = absurd (both_ways true quiet refl)

-- one that is due, until none is
due_leaves : (t : ℕ) (endpoints : List Status) (steps : List Step) → t < length endpoints → is_due (status_at endpoints t) ≡ true → reports_in steps ≡ [] → IsOver (after_all endpoints steps)
    → status_at (after_all endpoints steps) t ≡ served_with (more_in t endpoints steps)
due_leaves t endpoints [] inside due none over = absurd (both_ways (is_due (status_at endpoints t)) (over_at endpoints t over) due)
due_leaves t endpoints (Report token more ∷ steps) inside due none over = let some = ap length none in absurd (omega (arith, some))
due_leaves t endpoints (Next more ∷ steps) inside due none over =
    let step : Step = Next more in
    elim (cases_Bool (has_turn endpoints step t)) [
      | inl turn ↦
          served_leaves t (after endpoints step) steps (longer endpoints step t inside) (turn_served endpoints step t turn)
          ∙ ap (λ (s : Status). served_with (s.is_ready || ltb 0 (report_count t steps))) (turn_leaves endpoints step t inside turn)
          ∙ ap (λ (reports : List ℕ). served_with (more || ltb 0 (count_by (λ u. eqb u t) reports))) none
          ∙ ap served_with (or_false more ∙ sym (says_all t endpoints step steps turn))
      | inr without ↦
          let unserved : IsUnserved endpoints t = not-true (status_at endpoints t).is_served (and_parts (status_at endpoints t).is_ready (not (status_at endpoints t).is_served) due).1 in
          due_leaves t (after endpoints step) steps (longer endpoints step t inside) (ap is_due (unchanged endpoints step t unserved without) ∙ due) none over
          ∙ ap served_with (sym (says_nothing t endpoints step steps without))
    ]

-- ---- a round

-- by reports alone, and then by asking alone
module _ (old : List Status) (first rest : List Step) (quiet : asks_in first ≡ false) (unreported : reports_in rest ≡ [])
    (over : IsOver (after_all (after_all (begun old) first) rest)) (t : ℕ) (inside : t < length old) where
  abbrev ready : Bool
  ready = (status_at old t).is_ready

  abbrev between : List Status
  between = after_all (begun old) first

  abbrev turns : List EndpointTurn
  turns = turns_in (begun old) (first ++ rest)

  within : t < length (begun old)
  within = let same = length-map old unserved in omega (arith, same, inside)

  within_between : t < length between
  within_between = let same = length_after_all (begun old) first in omega (arith, same, within)

  unserved_first : IsUnserved (begun old) t
  unserved_first = ap (λ (s : Status). s.is_served) (begun_at old t inside)

  more_are : may_have_more t turns ≡ (more_in t (begun old) first || more_in t between rest)
  more_are = ap (may_have_more t) (turns_more (begun old) first rest) ∙ list_any-append (λ (turn : EndpointTurn). eqb turn.token t && turn.more) (turns_in (begun old) first) (turns_in between rest)

  abbrev at_the_end : Bool → Bool → Status
  at_the_end more served = record { is_ready = more; is_served = served }

  awaited_is : is_awaited old (reports_in first) t ≡ (ready || ltb 0 (report_count t first))
  awaited_is = ap (λ (b : Bool). b && (ready || list_any (λ u. eqb u t) (reports_in first))) (lt-ltb t (length old) inside) ∙ ap (λ (b : Bool). ready || b) (any_counted t (reports_in first))

  expected : (more again : Bool) → may_have_more t turns ≡ more → is_reported_again old (reports_in first) t ≡ again → (served : Bool) → is_awaited old (reports_in first) t ≡ served
      → at_the_end (more || again) served ≡ status_after old (reports_in first) turns t
  expected more again is_more is_again served is_served = sym (same_status (ap (λ (b : Bool). b || is_reported_again old (reports_in first) t) is_more ∙ ap (λ (b : Bool). more || b) is_again) is_served)

  known_ready : ready ≡ true → status_at (after_all between rest) t ≡ status_after old (reports_in first) turns t
  known_ready is =
      let at_first : (status_at (begun old) t).is_ready ≡ true = ap (λ (s : Status). s.is_ready) (begun_at old t inside) ∙ is in
      let kept = stays t (begun old) first unserved_first (waits t (begun old) first unserved_first at_first quiet) in
      let due : is_due (status_at between t) ≡ true = ap is_due kept.0 ∙ ap (λ (b : Bool). b && not (status_at (begun old) t).is_served) at_first ∙ ap not unserved_first in
      due_leaves t between rest within_between due unreported over
      ∙ ap served_with (sym (or_false (more_in t between rest)))
      ∙ expected (more_in t between rest) false (more_are ∙ ap (λ (b : Bool). b || more_in t between rest) kept.1)
      (ap (λ (b : Bool). not b && ltb 1 (report_count t first)) is) true (awaited_is ∙ ap (λ (b : Bool). b || ltb 0 (report_count t first)) is)

  known_unready : ready ≡ false → status_at (after_all between rest) t ≡ status_after old (reports_in first) turns t
  known_unready is = elim (cases_lt 0 (report_count t first)) [
    | inl some ↦
        let new : is_new (status_at (begun old) t) ≡ true = ap is_new (begun_at old t inside) ∙ ap (λ (b : Bool). not b && true) is in
        let left = reports_leave t (begun old) first within new quiet some in
        let served : IsServed between t = ap (λ (s : Status). s.is_served) left in
        served_leaves t between rest within_between served
        ∙ ap (λ (reports : List ℕ). served_with ((status_at between t).is_ready || ltb 0 (count_by (λ u. eqb u t) reports))) unreported
        ∙ ap served_with (or_false (status_at between t).is_ready) ∙ ap (λ (s : Status). served_with s.is_ready) left
        ∙ expected (more_in t (begun old) first) (ltb 1 (report_count t first))
        (more_are ∙ ap (λ (b : Bool). more_in t (begun old) first || b) (no_more t between rest served) ∙ or_false (more_in t (begun old) first))
        (ap (λ (b : Bool). not b && ltb 1 (report_count t first)) is) true
        (awaited_is ∙ ap (λ (b : Bool). b || ltb 0 (report_count t first)) is ∙ lt-ltb 0 (report_count t first) some)
    | inr none ↦
        let unreported_first : IsReportedIn t first → ⊥ = λ reported. both_ways (list_any (λ u. eqb u t) (reports_in first)) (any_counted t (reports_in first) ∙ le-ltb 0 (report_count t first) none) (reported_any t first reported) in
        let kept = stays t (begun old) first unserved_first (no_turns (begun old) first t (begun_not_due old t is) unreported_first) in
        let unserved_between : IsUnserved between t = ap (λ (s : Status). s.is_served) kept.0 ∙ unserved_first in
        let undue : is_due (status_at between t) ≡ false = ap is_due kept.0 ∙ begun_not_due old t is in
        let unreported_rest : IsReportedIn t rest → ⊥ = λ reported. both_ways (list_any (λ u. eqb u t) (reports_in rest)) (ap (list_any (λ u. eqb u t)) unreported) (reported_any t rest reported) in
        let last = stays t between rest unserved_between (no_turns between rest t undue unreported_rest) in
        last.0 ∙ kept.0 ∙ begun_at old t inside ∙ ap (λ (b : Bool). at_the_end b false) is
        ∙ expected false false (more_are ∙ or_from (more_in t (begun old) first) (more_in t between rest) kept.1 last.1)
        (ap (λ (b : Bool). not b && ltb 1 (report_count t first)) is ∙ le-ltb 1 (report_count t first) (omega (arith, none))) false
        (awaited_is ∙ ap (λ (b : Bool). b || ltb 0 (report_count t first)) is ∙ le-ltb 0 (report_count t first) none)
  ]

  known : status_at (after_all between rest) t ≡ status_after old (reports_in first) turns t
  known = elim (cases_Bool ready) [
    | inl is ↦ known_ready is
    | inr is ↦ known_unready is
  ]

module _ (old : List Status) (steps : List Step) (over : IsOver (after_all (begun old) steps)) (t : ℕ) where
  abbrev awaits : Bool
  awaits = (status_at old t).is_ready || list_any (λ u. eqb u t) (reports_in steps)

  awaited : awaits ≡ true → ((status_at old t).is_ready ≡ true) ⊎ IsReportedIn t steps
  awaited is = elim (cases_Bool (status_at old t).is_ready) [
    | inl ready ↦ inl ready
    | inr unready ↦ inr (is_reported t steps (ap (λ (b : Bool). b || list_any (λ u. eqb u t) (reports_in steps)) (sym unready) ∙ is))
  ]

  turns_are : turns_of t (begun old) steps ≡ cond (is_awaited old (reports_in steps) t) 1 0
  turns_are = elim (cases_lt t (length old)) [
    | inl inside ↦
        let here = ap (λ (b : Bool). cond (b && awaits) 1 0) (lt-ltb t (length old) inside) in
        elim (cases_Bool awaits) [
          | inl is ↦ (fair old).served steps t inside over (awaited is) ∙ sym (here ∙ ap (λ (b : Bool). cond b 1 0) is)
          | inr none_is ↦
              let none = or_parts (status_at old t).is_ready (list_any (λ u. eqb u t) (reports_in steps)) none_is in
              (fair old).others steps t none.0 (λ reported. both_ways (list_any (λ u. eqb u t) (reports_in steps)) none.1 (reported_any t steps reported))
              ∙ sym (here ∙ ap (λ (b : Bool). cond b 1 0) none_is)
        ]
    | inr outside ↦
        let past = length-map old unserved in
        no_turns_past (begun old) steps t (omega (arith, past, outside)) ∙ sym (ap (λ (b : Bool). cond (b && awaits) 1 0) (le-ltb t (length old) outside))
  ]

pub serves_round : (old middle new : List Status) (reports : List ℕ) (former now latter : Option (List EndpointTurn))
    → HasGone false (begun old) middle reports former now → HasGone true middle new [] now latter → IsOver new → HasServedRound old new reports former latter
serves_round old middle new reports former now latter f r over =
    let steps : List Step = f.steps ++ r.steps in
    let arrives : new ≡ after_all (after_all (begun old) f.steps) r.steps = r.arrives ∙ ap (λ (l : List Status). after_all l r.steps) f.arrives in
    let at_end : new ≡ after_all (begun old) steps = arrives ∙ sym (after_more (begun old) f.steps r.steps) in
    let reports_are : reports_in steps ≡ reports = reports_more f.steps r.steps ∙ ap (λ (l : List ℕ). reports_in f.steps ++ l) r.reports_are ∙ append-nil (reports_in f.steps) ∙ f.reports_are in
    record {
      turns = turns_in (begun old) steps;
      reported = subst (HasReported former latter) (sym (turns_more (begun old) f.steps r.steps))
          (reported_more former now latter (turns_in (begun old) f.steps) (turns_in (after_all (begun old) f.steps) r.steps) f.reported
          (subst (λ (l : List Status). HasReported now latter (turns_in l r.steps)) f.arrives r.reported));
      round = λ t. count_turns t (begun old) steps ∙ turns_are old steps (subst IsOver at_end over) t ∙ ap (λ (l : List ℕ). cond (is_awaited old l t) 1 0) reports_are;
      count = ap length at_end ∙ length_after_all (begun old) steps ∙ length-map old unserved;
      known = λ t inside.
          ap (λ (l : List Status). status_at l t) arrives
          ∙ known old f.steps r.steps (f.asks refl) r.reports_are (subst IsOver arrives over) t inside
          ∙ ap (λ (l : List ℕ). status_after old l (turns_in (begun old) steps) t) f.reports_are;
    }
