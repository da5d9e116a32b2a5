-- The turns of a round, one after the other, are those that are counted along its steps.
use Rattle.std.proofs.Common.{◌≡◌, ℕ, ◌+◌, ◌<◌, ◌≤◌, List, [], ◌∷◌, ◌++◌, length, eqb, ltb, cond, Bool, true, false, not, ◌&&◌, ◌||◌, inl, inr, refl, ap, sym, subst, ◌∙◌, arith, append_assoc, Option, Some}
use Rattle.std.proofs.lemmas.Bool.{cases_lt, cases_Bool, cond_both, both_ways, eqb-true, lt-ltb, and_right}
use Rattle.std.proofs.lemmas.List.{length-set}
use Rattle.std.proofs.lemmas.List.Quantifiers.{position-Some}
use Rattle.std.proofs.lemmas.List.Sums.{sum_by-append, position_or_len_is}
use Rattle.std.specs.List.{position, position_or_len}
use Rattle.server.proofs.Reported.{reported_more, reported_none}
use Rattle.server.specs.Calls.{HasReported}
use Rattle.server.specs.RoundSteps.{turn_of, turns_in, reports_in, asks_in, HasGone}
use Rattle.server.specs.Rounds.{Step, Report, Next, EndpointTurn, has_turn, after, after_all, turns_of, turn_count}
use Rattle.server.specs.Schedules.{no_endpoint, status_at, is_new, is_due, put, reported, handed_out}
use Rattle.server.specs.declared.schedule.Status.{Status}

-- ---- steps, one after the other

pub after_more : (endpoints : List Status) (first more : List Step) → after_all endpoints (first ++ more) ≡ after_all (after_all endpoints first) more
after_more endpoints [] more = refl
after_more endpoints (step ∷ first) more = after_more (after endpoints step) first more

pub turns_more : (endpoints : List Status) (first more : List Step) → turns_in endpoints (first ++ more) ≡ turns_in endpoints first ++ turns_in (after_all endpoints first) more
turns_more endpoints [] more = refl
turns_more endpoints (step ∷ first) more =
    ap (λ (l : List EndpointTurn). turn_of endpoints step ++ l) (turns_more (after endpoints step) first more)
    ∙ sym (append_assoc (turn_of endpoints step) (turns_in (after endpoints step) first) (turns_in (after_all (after endpoints step) first) more))

pub reports_more : (first more : List Step) → reports_in (first ++ more) ≡ reports_in first ++ reports_in more
reports_more [] more = refl
reports_more (Report token _ ∷ first) more = ap (λ (l : List ℕ). token ∷ l) (reports_more first more)
reports_more (Next _ ∷ first) more = reports_more first more

asks_more : (first more : List Step) → asks_in first ≡ false → asks_in more ≡ false → asks_in (first ++ more) ≡ false
asks_more [] more none rest = rest
asks_more (Report token _ ∷ first) more none rest = asks_more first more none rest
asks_more (Next _ ∷ first) more asks rest = asks

-- ---- from some endpoints to others

abbrev Turns : Type 0
Turns = Option (List EndpointTurn)

pub gone_nowhere : (may_ask : Bool) (endpoints : List Status) (now : Turns) → HasGone may_ask endpoints endpoints [] now now
gone_nowhere may_ask endpoints now = record { steps = []; arrives = refl; reports_are = refl; asks = λ _. refl; reported = reported_none now }

pub gone_on : (may_ask : Bool) (old between new : List Status) (first more : List ℕ) (former now latter : Turns)
    → HasGone may_ask old between first former now → HasGone may_ask between new more now latter → HasGone may_ask old new (first ++ more) former latter
gone_on may_ask old between new first more former now latter f m = record {
  steps = f.steps ++ m.steps;
  arrives = m.arrives ∙ ap (λ (l : List Status). after_all l m.steps) f.arrives ∙ sym (after_more old f.steps m.steps);
  reports_are = reports_more f.steps m.steps ∙ ap (λ (l : List ℕ). l ++ reports_in m.steps) f.reports_are ∙ ap (λ (l : List ℕ). first ++ l) m.reports_are;
  asks = λ may. asks_more f.steps m.steps (f.asks may) (m.asks may);
  reported = subst (HasReported former latter) (sym (turns_more old f.steps m.steps))
      (reported_more former now latter (turns_in old f.steps) (turns_in (after_all old f.steps) m.steps) f.reported
      (subst (λ (l : List Status). HasReported now latter (turns_in l m.steps)) f.arrives m.reported));
}

-- one step
goes : (may_ask : Bool) (old : List Status) (step : Step) (former latter : Turns) → (may_ask ≡ false → asks_in (step ∷ []) ≡ false)
    → HasReported former latter (turn_of old step ++ []) → HasGone may_ask old (after old step) (reports_in (step ∷ [])) former latter
goes may_ask old step former latter asks reported = record { steps = step ∷ []; arrives = refl; reports_are = refl; asks = asks; reported = reported }

-- a report of an endpoint that is to be served now
pub reports_new : (old reported_to new : List Status) (token : ℕ) (more : Bool) (former latter : Turns) → is_new (status_at old token) ≡ true
    → reported_to ≡ reported old token → new ≡ put reported_to token more → HasReported former latter (record { token = token; more = more } ∷ [])
    → HasGone false old new (token ∷ []) former latter
reports_new old reported_to new token more former latter fresh is after_is calls =
    let there : new ≡ after old (Report token more) = after_is ∙ ap (λ (l : List Status). put l token more) is
    ∙ sym (ap (λ (b : Bool). cond b (put (reported old token) token more) (reported old token)) fresh) in
    let turn : EndpointTurn = record { token = token; more = more } in
    subst (λ (l : List Status). HasGone false old l (token ∷ []) former latter) (sym there)
    (goes false old (Report token more) former latter (λ _. refl) (subst (λ (b : Bool). HasReported former latter (cond b (turn ∷ []) [] ++ [])) (sym fresh) calls))

-- and of another one
pub reports_old : (old new : List Status) (token : ℕ) (now : Turns) → is_new (status_at old token) ≡ false
    → new ≡ reported old token → HasGone false old new (token ∷ []) now now
reports_old old new token now known is =
    let there : new ≡ after old (Report token false) = is ∙ sym (ap (λ (b : Bool). cond b (put (reported old token) token false) (reported old token)) known) in
    let turn : EndpointTurn = record { token = token; more = false } in
    subst (λ (l : List Status). HasGone false old l (token ∷ []) now now) (sym there)
    (goes false old (Report token false) now now (λ _. refl) (subst (λ (b : Bool). HasReported now now (cond b (turn ∷ []) [] ++ [])) (sym known) (reported_none now)))

due_first : (endpoints : List Status) (token : ℕ) → position is_due endpoints ≡ Some token → (position_or_len is_due endpoints ≡ token) × (token < length endpoints)
due_first endpoints token found =
    let (inside, here, before) = position-Some is_due endpoints token no_endpoint found in
    (position_or_len_is is_due endpoints token no_endpoint (omega (arith, inside)) before (λ _. here), inside)

-- the next endpoint that is ready has its turn
pub hands_out : (old handed new : List Status) (token : ℕ) (more : Bool) (former latter : Turns) → position is_due old ≡ Some token
    → handed ≡ handed_out old → new ≡ put handed token more → HasReported former latter (record { token = token; more = more } ∷ []) → HasGone true old new [] former latter
hands_out old handed new token more former latter found handed_is after_is calls =
    let (first, within) = due_first old token found in
    let inside : ltb (position_or_len is_due old) (length old) ≡ true = lt-ltb (position_or_len is_due old) (length old) (omega (arith, first, within)) in
    let there : new ≡ after old (Next more) = after_is ∙ ap (λ (l : List Status). put l token more) handed_is ∙ ap (λ (t : ℕ). put (handed_out old) t more) (sym first) in
    let of : ℕ → EndpointTurn = λ t. record { token = t; more = more } in
    let turn : turn_of old (Next more) ≡ of token ∷ [] = ap (λ (b : Bool). cond b (of (position_or_len is_due old) ∷ []) []) inside ∙ ap (λ (t : ℕ). of t ∷ []) first in
    subst (λ (l : List Status). HasGone true old l [] former latter) (sym there)
    (goes true old (Next more) former latter (λ may. absurd (both_ways true may refl)) (subst (λ (l : List EndpointTurn). HasReported former latter (l ++ [])) (sym turn) calls))

-- ---- turns are counted

count_if : (b : Bool) (turn : EndpointTurn) (t : ℕ) → turn_count t (cond b (turn ∷ []) []) ≡ cond (b && eqb turn.token t) 1 0
count_if true turn t = omega (arith)
count_if false turn t = refl

-- the first one that is due, among so many, is an endpoint
pub same_test : (p t n : ℕ) → (ltb p n && eqb p t) ≡ (ltb t n && eqb p t)
same_test p t n = elim (cases_Bool (eqb p t)) [
  | inl same ↦ ap (λ (k : ℕ). ltb k n && eqb p t) (eqb-true p t same)
  | inr other ↦ and_right (ltb p n) (eqb p t) other ∙ sym (and_right (ltb t n) (eqb p t) other)
]

count_turn : (t : ℕ) (endpoints : List Status) (step : Step) → turn_count t (turn_of endpoints step) ≡ cond (has_turn endpoints step t) 1 0
count_turn t endpoints (Report token more) = count_if (is_new (status_at endpoints token)) (record { token = token; more = more }) t
count_turn t endpoints (Next more) =
    count_if (ltb (position_or_len is_due endpoints) (length endpoints)) (record { token = position_or_len is_due endpoints; more = more }) t
    ∙ ap (λ (b : Bool). cond b 1 0) (same_test (position_or_len is_due endpoints) t (length endpoints))

pub count_turns : (t : ℕ) (endpoints : List Status) (steps : List Step) → turn_count t (turns_in endpoints steps) ≡ turns_of t endpoints steps
count_turns t endpoints [] = refl
count_turns t endpoints (step ∷ steps) =
    sum_by-append (λ (turn : EndpointTurn). cond (eqb turn.token t) 1 0) (turn_of endpoints step) (turns_in (after endpoints step) steps)
    ∙ ap (λ (n : ℕ). n + turn_count t (turns_in (after endpoints step) steps)) (count_turn t endpoints step)
    ∙ ap (λ (n : ℕ). cond (has_turn endpoints step t) 1 0 + n) (count_turns t (after endpoints step) steps)

-- ---- the endpoints stay the same ones

pub length_reported : (endpoints : List Status) (token : ℕ) → length (reported endpoints token) ≡ length endpoints
length_reported endpoints token =
    cond_both (status_at endpoints token).is_ready endpoints (put endpoints token (status_at endpoints token).is_served) (λ p. length p ≡ length endpoints) (λ _. refl)
    (λ _. length-set endpoints token (record { is_ready = (status_at endpoints token).is_served; is_served = true }))

pub length_after : (endpoints : List Status) (step : Step) → length (after endpoints step) ≡ length endpoints
length_after endpoints (Report token more) =
    cond_both (is_new (status_at endpoints token)) (put (reported endpoints token) token more) (reported endpoints token) (λ p. length p ≡ length endpoints)
    (λ _. length-set (reported endpoints token) token (record { is_ready = more; is_served = true }) ∙ length_reported endpoints token) (λ _. length_reported endpoints token)
length_after endpoints (Next more) =
    length-set (handed_out endpoints) (position_or_len is_due endpoints) (record { is_ready = more; is_served = true })
    ∙ length-set endpoints (position_or_len is_due endpoints) (record { is_ready = true; is_served = true })

pub length_after_all : (endpoints : List Status) (steps : List Step) → length (after_all endpoints steps) ≡ length endpoints
length_after_all endpoints [] = refl
length_after_all endpoints (step ∷ steps) = length_after_all (after endpoints step) steps ∙ length_after endpoints step
