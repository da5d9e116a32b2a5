-- What a schedule stores, and what is known of its endpoints.
use Rattle.std.proofs.Common.{◌≡◌, ℕ, ◌+◌, ◌<◌, ◌≤◌, List, [], ◌∷◌, length, map, set, get_or, eqb, ltb, cond, Bool, true, false, not, refl, ap, sym, ◌∙◌, arith, get_or-set_same, get_or-set_other, zero, suc, ◌⊎◌, inl, inr, ◌||◌, ◌&&◌, zero-add, add-zero, mul-one, replicate, ◌-◌, subst}
use Rattle.std.proofs.lemmas.Bool.{cases_eq, cases_lt}
use Rattle.std.proofs.lemmas.Bool.Decides.{nat_tests}
use Rattle.std.proofs.lemmas.List.{map-set, set_past}
use Rattle.std.proofs.Math.ListN.{get_or-map}
use Rattle.std.proofs.lemmas.List.Folds.{sum_by-replicate}
use Rattle.std.proofs.lemmas.List.Sums.{sum_by-set, sum_by-cons, fails_before_first, position_or_len_is, passes_at_first}
use Rattle.std.specs.List.{position_or_len}
use Rattle.server.specs.Entries.{status_in, statuses_in, AreStamped, ArePassed, ready_count, IsSchedule, unstamped}
use Rattle.server.specs.Schedules.{status_at, is_due, no_endpoint, put, begun, due_count, unserved, has_ready, ready_at_first}
use Rattle.server.specs.declared.schedule.Entry.{Entry}
use Rattle.server.specs.declared.schedule.Status.{Status}

-- ---- a new round

later : (a r : ℕ) → a ≤ r → eqb a (r + 1) ≡ false
later a r h = grind (arith, nat_tests)

pub begun_statuses : (r : ℕ) (es : List Entry) → AreStamped r es → statuses_in (r + 1) es ≡ begun (statuses_in r es)
begun_statuses r [] h = refl
begun_statuses r (e ∷ es) h =
    λ i. record { is_ready = e.is_ready; is_served = later e.round r h.0 i } ∷ begun_statuses r es h.1 i

pub begun_unstamped : (r : ℕ) (es : List Entry) → statuses_in 1 (map unstamped es) ≡ begun (statuses_in r es)
begun_unstamped r [] = refl
begun_unstamped r (e ∷ es) = ap (λ (l : List Status). record { is_ready = e.is_ready; is_served = false } ∷ l) (begun_unstamped r es)

pub stamped_later : (r : ℕ) (es : List Entry) → AreStamped r es → AreStamped (r + 1) es
stamped_later r [] h = tt
stamped_later r (e ∷ es) h = (omega (arith, h.0), stamped_later r es h.1)

pub stamped_first : (es : List Entry) → AreStamped 1 (map unstamped es)
stamped_first [] = tt
stamped_first (e ∷ es) = (omega arith, stamped_first es)

pub count_begun : (endpoints : List Status) → ready_count (begun endpoints) ≡ ready_count endpoints
count_begun [] = refl
count_begun (s ∷ endpoints) =
    sum_by-cons (λ x. cond x.is_ready 1 0) (unserved s) (begun endpoints)
    ∙ ap (λ (n : ℕ). cond s.is_ready 1 0 + n) (count_begun endpoints) ∙ sym (sum_by-cons (λ x. cond x.is_ready 1 0) s endpoints)

-- ---- a write

pub stamped_put : (r : ℕ) (es : List Entry) (t : ℕ) (e : Entry) → e.round ≤ r → AreStamped r es → AreStamped r (set es t e)
stamped_put r [] t e h all = all
stamped_put r (x ∷ es) zero e h all = (h, all.1)
stamped_put r (x ∷ es) (suc t) e h all = (all.0, stamped_put r es t e h all.1)

eqb_same : (a : ℕ) → eqb a a ≡ true
eqb_same a = grind (arith, nat_tests)

pub statuses_put : (r : ℕ) (es : List Entry) (t : ℕ) (b : Bool) → statuses_in r (set es t (record { is_ready = b; round = r })) ≡ put (statuses_in r es) t b
statuses_put r es t b =
    map-set (status_in r) es t (record { is_ready = b; round = r })
    ∙ ap (λ (x : Bool). set (statuses_in r es) t (record { is_ready = b; is_served = x })) (eqb_same r)

pub count_put : (endpoints : List Status) (t : ℕ) (b : Bool) (d : Status) → t < length endpoints
    → ready_count (put endpoints t b) + cond (get_or endpoints t d).is_ready 1 0 ≡ ready_count endpoints + cond b 1 0
count_put endpoints t b d h = sum_by-set (λ s. cond s.is_ready 1 0) endpoints t (record { is_ready = b; is_served = true }) d h

served_not_due : (b : Bool) → is_due (record { is_ready = b; is_served = true }) ≡ false
served_not_due true = refl
served_not_due false = refl

passed_put_at : (endpoints : List Status) (t : ℕ) (b : Bool) (k : ℕ) → is_due (status_at endpoints k) ≡ false → (k ≡ t) ⊎ (k ≡ t → ⊥) → (t < length endpoints) ⊎ (length endpoints ≤ t)
    → is_due (status_at (put endpoints t b) k) ≡ false
passed_put_at endpoints t b k not_due (inl same) (inl inside) =
    ap (λ (j : ℕ). is_due (status_at (put endpoints t b) j)) same
    ∙ ap is_due (get_or-set_same endpoints t (record { is_ready = b; is_served = true }) no_endpoint inside) ∙ served_not_due b
passed_put_at endpoints t b k not_due same (inr outside) =
    ap (λ (l : List Status). is_due (status_at l k)) (set_past endpoints t (record { is_ready = b; is_served = true }) outside) ∙ not_due
passed_put_at endpoints t b k not_due (inr other) inside =
    ap is_due (get_or-set_other endpoints t k (record { is_ready = b; is_served = true }) no_endpoint other) ∙ not_due

pub passed_put : (n : ℕ) (endpoints : List Status) (t : ℕ) (b : Bool) → ArePassed n endpoints → ArePassed n (put endpoints t b)
passed_put n endpoints t b passed k h = passed_put_at endpoints t b k (passed k h) (cases_eq k t) (cases_lt t (length endpoints))

pub passed_first : (endpoints : List Status) → ArePassed (position_or_len is_due endpoints) endpoints
passed_first endpoints k h = fails_before_first is_due endpoints k no_endpoint h

-- ---- whether an endpoint is ready

has_more : (b : Bool) (n : ℕ) → ltb 0 (cond b 1 0 + n) ≡ (b || ltb 0 n)
has_more true n = grind (arith, nat_tests)
has_more false n = ap (ltb 0) (zero-add n)

pub has_ready_by_count : (endpoints : List Status) → ltb 0 (ready_count endpoints) ≡ has_ready endpoints
has_ready_by_count [] = refl
has_ready_by_count (s ∷ endpoints) =
    ap (ltb 0) (sum_by-cons (λ x. cond x.is_ready 1 0) s endpoints)
    ∙ has_more s.is_ready (ready_count endpoints) ∙ ap (λ (b : Bool). s.is_ready || b) (has_ready_by_count endpoints)

one_more : (n : ℕ) → 1 + n ≡ suc n
one_more n = omega arith

none_due : (b served : Bool) (n : ℕ) → cond b 1 0 + n ≡ 0 → (b && not served) ≡ false
none_due true served n h = absurd (omega arith)
none_due false served n h = refl

none_left : (b : Bool) (n : ℕ) → cond b 1 0 + n ≡ 0 → n ≡ 0
none_left true n h = omega arith
none_left false n h = omega arith

-- where no endpoint is ready none is due
pub none_ready : (endpoints : List Status) → ready_count endpoints ≡ 0 → position_or_len is_due endpoints ≡ length endpoints
none_ready [] h = refl
none_ready (s ∷ endpoints) h =
    let c : cond s.is_ready 1 0 + ready_count endpoints ≡ 0 = sym (sum_by-cons (λ x. cond x.is_ready 1 0) s endpoints) ∙ h in
    ap (λ (b : Bool). cond (not b) (1 + position_or_len is_due endpoints) 0) (none_due s.is_ready s.is_served (ready_count endpoints) c)
    ∙ ap (λ (n : ℕ). 1 + n) (none_ready endpoints (none_left s.is_ready (ready_count endpoints) c)) ∙ one_more (length endpoints)

-- ---- the first endpoints

pub first_statuses : (n : ℕ) → statuses_in 1 (replicate n (record { is_ready = true; round = 0 })) ≡ replicate n ready_at_first
first_statuses zero = refl
first_statuses (suc n) = ap (λ (l : List Status). ready_at_first ∷ l) (first_statuses n)

pub stamped_new : (n : ℕ) → AreStamped 1 (replicate n (record { is_ready = true; round = 0 }))
stamped_new zero = tt
stamped_new (suc n) = (omega arith, stamped_new n)

pub count_new : (n : ℕ) → ready_count (replicate n ready_at_first) ≡ n
count_new n = sum_by-replicate (λ s. cond s.is_ready 1 0) n ready_at_first ∙ mul-one n

-- ---- what is kept

length_statuses : (r : ℕ) (es : List Entry) → length (statuses_in r es) ≡ length es
length_statuses r [] = refl
length_statuses r (e ∷ es) = ap suc (length_statuses r es)

-- the endpoint that a write changes, in the count of those that are ready
counts : (r : ℕ) (es : List Entry) (ready t : ℕ) (b : Bool) (d : Entry) → ready ≡ ready_count (statuses_in r es) → t < length es
    → ready_count (statuses_in r (set es t (record { is_ready = b; round = r }))) + cond (get_or es t d).is_ready 1 0 ≡ ready + cond b 1 0
counts r es ready t b d count inside =
    let inside' : t < length (statuses_in r es) = omega (arith, length_statuses r es) in
    ap (λ (l : List Status). ready_count l + cond (get_or es t d).is_ready 1 0) (statuses_put r es t b)
    ∙ ap (λ (s : Status). ready_count (put (statuses_in r es) t b) + cond s.is_ready 1 0) (sym (get_or-map (status_in r) es t d))
    ∙ count_put (statuses_in r es) t b (status_in r d) inside' ∙ ap (λ (n : ℕ). n + cond b 1 0) (sym count)

pub was_counted : (r : ℕ) (es : List Entry) (ready next t was : ℕ) (d : Entry) → IsSchedule r es ready next → t < length es → was ≡ cond (get_or es t d).is_ready 1 0 → was ≤ ready
was_counted r es ready next t was d s inside is = let e = counts r es ready t false d s.count inside in omega (arith, e, is)

pub schedule_put : (r : ℕ) (es : List Entry) (ready next t was now : ℕ) (b : Bool) (d : Entry) → IsSchedule r es ready next → t < length es
    → was ≡ cond (get_or es t d).is_ready 1 0 → now ≡ cond b 1 0 → IsSchedule r (set es t (record { is_ready = b; round = r })) (ready - was + now) next
schedule_put r es ready next t was now b d s inside is_was is_now = record {
  stamps = stamped_put r es t (record { is_ready = b; round = r }) (omega arith) s.stamps;
  count = let e = counts r es ready t b d s.count inside in let few = was_counted r es ready next t was d s inside is_was in omega (arith, e, few, is_was, is_now);
  passed = subst (λ (l : List Status). ArePassed next l) (sym (statuses_put r es t b)) (passed_put next (statuses_in r es) t b s.passed);
}

-- the endpoint that was looked for is the cursor of the next search
pub schedule_at : (r : ℕ) (es : List Entry) (ready next token : ℕ) (endpoints : List Status) → IsSchedule r es ready next → statuses_in r es ≡ endpoints
    → token ≡ position_or_len is_due endpoints → IsSchedule r es ready token
schedule_at r es ready next token endpoints s view is = record {
  stamps = s.stamps;
  count = s.count;
  passed = subst (λ (t : ℕ). ArePassed t (statuses_in r es)) (ap (position_or_len is_due) view ∙ sym is) (passed_first (statuses_in r es));
}

pub schedule_begun : (r : ℕ) (es : List Entry) (ready next : ℕ) → IsSchedule r es ready next → IsSchedule (r + 1) es ready 0
schedule_begun r es ready next s = record {
  stamps = stamped_later r es s.stamps;
  count = s.count ∙ sym (count_begun (statuses_in r es)) ∙ ap ready_count (sym (begun_statuses r es s.stamps));
  passed = λ k h. absurd (omega (arith, h));
}

pub schedule_unstamped : (r : ℕ) (es : List Entry) (ready next : ℕ) → IsSchedule r es ready next → IsSchedule 1 (map unstamped es) ready 0
schedule_unstamped r es ready next s = record {
  stamps = stamped_first es;
  count = s.count ∙ sym (count_begun (statuses_in r es)) ∙ ap ready_count (sym (begun_unstamped r es));
  passed = λ k h. absurd (omega (arith, h));
}

pub schedule_new : (n : ℕ) (es : List Entry) → es ≡ replicate n (record { is_ready = true; round = 0 }) → IsSchedule 1 es n 0
schedule_new n es is = subst (λ (l : List Entry). IsSchedule 1 l n 0) (sym is) (record {
  stamps = stamped_new n;
  count = sym (count_new n) ∙ ap ready_count (sym (first_statuses n));
  passed = λ k h. absurd (omega (arith, h));
})

-- ---- the endpoint that is looked for

pub first_due : (endpoints : List Status) (t : ℕ) → t ≤ length endpoints → ArePassed t endpoints → (t < length endpoints → is_due (status_at endpoints t) ≡ true) → t ≡ position_or_len is_due endpoints
first_due endpoints t inside passed due = sym (position_or_len_is is_due endpoints t no_endpoint inside passed due)

pub none_due_at_all : (r : ℕ) (es : List Entry) (ready next n : ℕ) (endpoints : List Status) → IsSchedule r es ready next → statuses_in r es ≡ endpoints → ready ≡ 0 → n ≡ length es
    → n ≡ position_or_len is_due endpoints
none_due_at_all r es ready next n endpoints s view none count =
    count ∙ sym (length_statuses r es) ∙ sym (none_ready (statuses_in r es) (sym s.count ∙ none)) ∙ ap (position_or_len is_due) view

pub length_endpoints : (r : ℕ) (es : List Entry) (endpoints : List Status) → statuses_in r es ≡ endpoints → length endpoints ≡ length es
length_endpoints r es endpoints view = sym (ap length view) ∙ length_statuses r es

-- ---- how many endpoints are due

-- an endpoint that was served isn't
due_put : (endpoints : List Status) (t : ℕ) (b : Bool) → t < length endpoints → due_count (put endpoints t b) + cond (is_due (status_at endpoints t)) 1 0 ≡ due_count endpoints
due_put endpoints t b inside =
    sum_by-set (λ s. cond (is_due s) 1 0) endpoints t (record { is_ready = b; is_served = true }) no_endpoint inside
    ∙ ap (λ (x : Bool). due_count endpoints + cond x 1 0) (served_not_due b) ∙ add-zero (due_count endpoints)

pub due_no_more : (endpoints : List Status) (t : ℕ) (b : Bool) → due_count (put endpoints t b) ≤ due_count endpoints
due_no_more endpoints t b = elim (cases_lt t (length endpoints)) [
  | inl inside ↦ let e = due_put endpoints t b inside in omega (arith, e)
  | inr outside ↦ subst (λ (l : List Status). due_count l ≤ due_count endpoints) (sym (set_past endpoints t (record { is_ready = b; is_served = true }) outside)) (omega arith)
]

pub due_fewer : (endpoints : List Status) (b : Bool) → position_or_len is_due endpoints < length endpoints → due_count (put endpoints (position_or_len is_due endpoints) b) < due_count endpoints
due_fewer endpoints b inside =
    let e =
    ap (λ (x : Bool). due_count (put endpoints (position_or_len is_due endpoints) b) + cond x 1 0) (sym (passes_at_first is_due endpoints no_endpoint inside))
    ∙ due_put endpoints (position_or_len is_due endpoints) b inside in
    omega (arith, e)
