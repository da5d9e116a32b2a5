-- Each datagram is counted once by its arrival, and once by its outcome.
use Rattle.std.specs.Prelude.{◌≡◌, ◌≢◌, ℕ, ◌+◌, ◌^◌, ◌<◌, ◌≤◌, ◌==◌, Bool, true, false, cond, List, [], ◌∷◌, length, refl}
use Rattle.std.specs.List.{sum_by, count_by}
use Rattle.std.proofs.Common.{sym, ◌∙◌, ap, subst, inl, inr, arith}
use Rattle.std.proofs.lemmas.Bool.{eq-eqb, eqb-true, cases_Bool, both_ways}
use Rattle.std.proofs.lemmas.List.Sums.{sum_by-cons}
use Rattle.server.proofs.CounterValues.{each_kind, each_reason, same_counter}
use Rattle.server.specs.Counters.{HasRaised, HasCounted, HaveCounted, CountsEachOnce, arrival_counter, outcome_counter, arrival_counters, outcome_counters, response_counter, raised}
use Rattle.server.specs.CounterValues.{counter_index}
use Rattle.server.specs.declared.counters.Counter.{Counter}
use Rattle.server.specs.declared.counters.Counter.TheVariants as counter
use Rattle.server.specs.declared.counters.Kind.{Kind}
use Rattle.server.specs.declared.counters.Kind.TheVariants.{ChannelData, Message, Other, FromPeer}
use Rattle.server.specs.declared.counters.TurnOutcome.{TurnOutcome}
use Rattle.server.specs.declared.counters.TurnOutcome.TheVariants as outcome
use Rattle.credentials.specs.declared.checking.AuthError.TheVariants as auth
use Rattle.rules.specs.declared.disposition.Discard.{Discard}
use Rattle.rules.specs.declared.disposition.Disposition.TheVariants.{Relayed, Answered, Discarded}
use Rattle.control.specs.declared.response.Response.{Response}
use Rattle.control.specs.declared.response.Response.TheVariants as response

-- ---- what holds of the counter of an outcome

abbrev is_at : Counter → Counter → Bool
is_at c d = counter_index c == counter_index d

record OfEach (P : Counter → Type 0) : Type 0 where
  pub to_peers : P counter.ToPeers
  pub to_clients : P counter.ToClients
  pub granted : P counter.Granted
  pub challenged : P counter.Challenged
  pub unauthenticated : P counter.Unauthenticated
  pub refused : P counter.Refused
  pub denied : P counter.Denied
  pub unsent : P counter.SendFaults
  pub discarded : (kind : Kind) (reason : Discard) → P (counter.Discarded kind reason)

of_response : (P : Counter → Type 0) → OfEach P → (r : Response) → P (response_counter r)
of_response P each (response.Granted grant) = each.granted
of_response P each (response.Unauthenticated auth.Missing) = each.challenged
of_response P each (response.Unauthenticated auth.StaleNonce) = each.challenged
of_response P each (response.Unauthenticated auth.UnknownUser) = each.unauthenticated
of_response P each (response.Unauthenticated auth.WrongIntegrity) = each.unauthenticated
of_response P each (response.Unauthenticated auth.Expired) = each.unauthenticated
of_response P each (response.Unauthenticated auth.Incomplete) = each.refused
of_response P each (response.Refused error) = each.refused

of_outcome : (P : Counter → Type 0) → OfEach P → (kind : Kind) (o : TurnOutcome) → P (outcome_counter kind o)
of_outcome P each kind (outcome.Done Relayed) = each_kind (λ k. P (outcome_counter k (outcome.Done Relayed))) each.to_peers each.to_peers each.to_peers each.to_clients kind
of_outcome P each kind (outcome.Done (Answered r)) = of_response P each r
of_outcome P each kind (outcome.Done (Discarded reason)) = each.discarded kind reason
of_outcome P each kind outcome.Denied = each.denied
of_outcome P each kind outcome.SendFailed = each.unsent

-- what computes for each discard
of_discard : (P : Counter → Type 0) → ((reason : Discard) → P (counter.Discarded ChannelData reason)) → ((reason : Discard) → P (counter.Discarded Message reason))
    → ((reason : Discard) → P (counter.Discarded Other reason)) → ((reason : Discard) → P (counter.Discarded FromPeer reason))
    → (kind : Kind) (reason : Discard) → P (counter.Discarded kind reason)
of_discard P a b c d kind reason = each_kind (λ k. P (counter.Discarded k reason)) (a reason) (b reason) (c reason) (d reason) kind

-- ---- how often a list has the counter of an outcome, and of an arrival

abbrev IsOnce : Counter → Type 0
IsOnce c = (count_by (is_at c) outcome_counters ≡ 1) × (count_by (is_at c) arrival_counters ≡ 0) × (is_at c counter.FromClients ≡ false) × (is_at c counter.FromPeers ≡ false)

once : OfEach IsOnce
once = record {
  to_peers = (refl, refl, refl, refl);
  to_clients = (refl, refl, refl, refl);
  granted = (refl, refl, refl, refl);
  challenged = (refl, refl, refl, refl);
  unauthenticated = (refl, refl, refl, refl);
  refused = (refl, refl, refl, refl);
  denied = (refl, refl, refl, refl);
  unsent = (refl, refl, refl, refl);
  discarded = of_discard IsOnce
      (each_reason (λ r. IsOnce (counter.Discarded ChannelData r)) (refl, refl, refl, refl) (refl, refl, refl, refl) (refl, refl, refl, refl) (refl, refl, refl, refl) (refl, refl, refl, refl) (refl, refl, refl, refl) (refl, refl, refl, refl) (refl, refl, refl, refl) (refl, refl, refl, refl) (refl, refl, refl, refl) (refl, refl, refl, refl) (refl, refl, refl, refl))
      (each_reason (λ r. IsOnce (counter.Discarded Message r)) (refl, refl, refl, refl) (refl, refl, refl, refl) (refl, refl, refl, refl) (refl, refl, refl, refl) (refl, refl, refl, refl) (refl, refl, refl, refl) (refl, refl, refl, refl) (refl, refl, refl, refl) (refl, refl, refl, refl) (refl, refl, refl, refl) (refl, refl, refl, refl) (refl, refl, refl, refl))
      (each_reason (λ r. IsOnce (counter.Discarded Other r)) (refl, refl, refl, refl) (refl, refl, refl, refl) (refl, refl, refl, refl) (refl, refl, refl, refl) (refl, refl, refl, refl) (refl, refl, refl, refl) (refl, refl, refl, refl) (refl, refl, refl, refl) (refl, refl, refl, refl) (refl, refl, refl, refl) (refl, refl, refl, refl) (refl, refl, refl, refl))
      (each_reason (λ r. IsOnce (counter.Discarded FromPeer r)) (refl, refl, refl, refl) (refl, refl, refl, refl) (refl, refl, refl, refl) (refl, refl, refl, refl) (refl, refl, refl, refl) (refl, refl, refl, refl) (refl, refl, refl, refl) (refl, refl, refl, refl) (refl, refl, refl, refl) (refl, refl, refl, refl) (refl, refl, refl, refl) (refl, refl, refl, refl));
}

abbrev IsArrival : Counter → Type 0
IsArrival c = (count_by (is_at c) outcome_counters ≡ 0) × (count_by (is_at c) arrival_counters ≡ 1)

arrives : (kind : Kind) → IsArrival (arrival_counter kind)
arrives ChannelData = (refl, refl)
arrives Message = (refl, refl)
arrives Other = (refl, refl)
arrives FromPeer = (refl, refl)

apart : (kind : Kind) (c : Counter) → is_at c counter.FromClients ≡ false → is_at c counter.FromPeers ≡ false → is_at c (arrival_counter kind) ≡ false
apart ChannelData c a b = a
apart Message c a b = a
apart Other c a b = a
apart FromPeer c a b = b

-- ---- one counter, after a datagram

one : Bool → ℕ
one true = 1
one false = 0

abbrev Rises : ℕ → ℕ → ℕ → Bool → Bool → Type 0
Rises n old new a b = (new ≡ old + cond a 1 0 + cond b 1 0) × (new ≤ n + 1)

rises : (n old new : ℕ) → old ≤ n → n + 1 < 2 ^ 64 → new ≡ raised old → (new ≡ old + 1) × (new ≤ n + 1)
rises n old new le fits is = (omega (arith, is), omega (arith, is))

-- whichever counter it is
at_arrival : (a o c : Counter) (n : ℕ) (old new : Counter → ℕ) → is_at o a ≡ false → old c ≤ n → n + 1 < 2 ^ 64 → new a ≡ raised (old a) → is_at a c ≡ true
    → Rises n (old c) (new c) (is_at a c) (is_at o c)
at_arrival a o c n old new other le fits is same =
    let e : a ≡ c = same_counter a c (eqb-true _ _ same) in
    let P : Counter → Type 0 = λ d. old d ≤ n → Rises n (old d) (new d) (is_at a d) (is_at o d) in
    let base : P a = λ le. let r = rises n (old a) (new a) le fits is in
    rw other (rw (eq-eqb (counter_index a) (counter_index a) refl) (omega (arith, r.0), r.1)) in
    subst P e base le

at_outcome : (a o c : Counter) (n : ℕ) (old new : Counter → ℕ) → old c ≤ n → n + 1 < 2 ^ 64 → new o ≡ raised (old o) → is_at a c ≡ false → is_at o c ≡ true
    → Rises n (old c) (new c) (is_at a c) (is_at o c)
at_outcome a o c n old new le fits is not_a same =
    let e : o ≡ c = same_counter o c (eqb-true _ _ same) in
    let P : Counter → Type 0 = λ d. old d ≤ n → is_at a d ≡ false → Rises n (old d) (new d) (is_at a d) (is_at o d) in
    let base : P o = λ le not_a. let r = rises n (old o) (new o) le fits is in
    rw not_a (rw (eq-eqb (counter_index o) (counter_index o) refl) (omega (arith, r.0), r.1)) in
    subst P e base le not_a

at_neither : (a o c : Counter) (n : ℕ) (old new : Counter → ℕ) → old c ≤ n → (c ≢ a → c ≢ o → new c ≡ old c) → is_at a c ≡ false → is_at o c ≡ false
    → Rises n (old c) (new c) (is_at a c) (is_at o c)
at_neither a o c n old new le others not_a not_o =
    let is : new c ≡ old c = others (λ e. both_ways _ not_a (eq-eqb _ _ (ap counter_index (sym e)))) (λ e. both_ways _ not_o (eq-eqb _ _ (ap counter_index (sym e)))) in
    rw not_a (rw not_o (omega (arith, is), omega (arith, is, le)))

apart_of : (kind : Kind) (o : TurnOutcome) → is_at (outcome_counter kind o) (arrival_counter kind) ≡ false
apart_of kind o = let e = of_outcome IsOnce once kind o in apart kind (outcome_counter kind o) e.2 e.3

at_each : (kind : Kind) (o : TurnOutcome) (n : ℕ) (old new : Counter → ℕ) → HasCounted kind o old new → n + 1 < 2 ^ 64 → (c : Counter) → old c ≤ n
    → Rises n (old c) (new c) (is_at (arrival_counter kind) c) (is_at (outcome_counter kind o) c)
at_each kind o n old new counted fits c le =
    let a = arrival_counter kind in
    let b = outcome_counter kind o in
    elim (cases_Bool (is_at a c)) [
      | inl holds ↦ at_arrival a b c n old new (apart_of kind o) le fits counted.arrival holds
      | inr not_a ↦ elim (cases_Bool (is_at b c)) [
        | inl holds ↦ at_outcome a b c n old new le fits counted.became not_a holds
        | inr not_b ↦ at_neither a b c n old new le (counted.others c) not_a not_b
      ]
    ]

-- ---- sums

sums : (a b : Counter) (old new : Counter → ℕ) → ((c : Counter) → new c ≡ old c + cond (is_at a c) 1 0 + cond (is_at b c) 1 0) → (cs : List Counter)
    → sum_by new cs ≡ sum_by old cs + count_by (is_at a) cs + count_by (is_at b) cs
sums a b old new each [] = refl
sums a b old new each (c ∷ cs) =
    omega (
      arith,
      each c,
      sums a b old new each cs,
      sum_by-cons new c cs,
      sum_by-cons old c cs,
      sum_by-cons (λ d. cond (is_at a d) 1 0) c cs,
      sum_by-cons (λ d. cond (is_at b d) 1 0) c cs,
    )

same_sums : (old new : Counter → ℕ) → ((c : Counter) → new c ≡ old c) → (cs : List Counter) → sum_by new cs ≡ sum_by old cs
same_sums old new each [] = refl
same_sums old new each (c ∷ cs) = omega (arith, each c, same_sums old new each cs, sum_by-cons new c cs, sum_by-cons old c cs)

-- the sum of one list of counters after datagrams, each of which is in it once
record IsCountedIn (cs : List Counter) : Type 0 where
  pub is_once : (kind : Kind) (o : TurnOutcome) → count_by (is_at (arrival_counter kind)) cs + count_by (is_at (outcome_counter kind o)) cs ≡ 1

sum_after : (cs : List Counter) → IsCountedIn cs → (datagrams : List (Kind × TurnOutcome)) (n : ℕ) (old new : Counter → ℕ) → ((c : Counter) → old c ≤ n)
    → n + length datagrams < 2 ^ 64 → HaveCounted datagrams old new → sum_by new cs ≡ sum_by old cs + length datagrams
sum_after cs is_in [] n old new le fits counted = omega (arith, same_sums old new counted cs)
sum_after cs is_in ((kind, o) ∷ rest) n old new le fits (next, first, others) =
    let fits_one : n + 1 < 2 ^ 64 = omega (arith, fits) in
    let each = at_each kind o n old next first fits_one in
    let step = sums (arrival_counter kind) (outcome_counter kind o) old next (λ c. (each c (le c)).0) cs in
    let after = sum_after cs is_in rest (n + 1) next new (λ c. (each c (le c)).1) (omega (arith, fits)) others in
    omega (arith, step, after, is_in.is_once kind o)

in_arrivals : IsCountedIn arrival_counters
in_arrivals = record { is_once = λ kind o. omega (arith, (arrives kind).1, (of_outcome IsOnce once kind o).1) }

in_outcomes : IsCountedIn outcome_counters
in_outcomes = record { is_once = λ kind o. omega (arith, (arrives kind).0, (of_outcome IsOnce once kind o).0) }

zero_sum : (old : Counter → ℕ) → ((c : Counter) → old c ≡ 0) → (cs : List Counter) → sum_by old cs ≡ 0
zero_sum old each [] = refl
zero_sum old each (c ∷ cs) = omega (arith, each c, zero_sum old each cs, sum_by-cons old c cs)

sum_from_zero : (cs : List Counter) → IsCountedIn cs → (datagrams : List (Kind × TurnOutcome)) (old new : Counter → ℕ) → ((c : Counter) → old c ≡ 0)
    → length datagrams < 2 ^ 64 → HaveCounted datagrams old new → sum_by new cs ≡ length datagrams
sum_from_zero cs is_in datagrams old new zero few counted =
    omega (arith, zero_sum old zero cs, sum_after cs is_in datagrams 0 old new (λ c. omega (arith, zero c)) (omega (arith, few)) counted)

pub counts_each_once : CountsEachOnce
counts_each_once datagrams old new zero few counted =
    (sum_from_zero arrival_counters in_arrivals datagrams old new zero few counted, sum_from_zero outcome_counters in_outcomes datagrams old new zero few counted)

-- ---- a datagram's two counters, raised one after the other

pub has_counted : (kind : Kind) (o : TurnOutcome) (a b : Counter) (old next new : Counter → ℕ) → a ≡ arrival_counter kind → b ≡ outcome_counter kind o
    → HasRaised a old next → HasRaised b next new → HasCounted kind o old new
has_counted kind o a b old next new is_a is_b first second =
    let other : a ≢ b = λ e. both_ways _ (apart_of kind o) (eq-eqb _ _ (ap counter_index (sym is_b ∙ sym e ∙ is_a))) in
    let became : new b ≡ raised (old b) = second.this ∙ ap raised (first.others b (λ e. other (sym e))) in
    record {
      arrival = let P : Counter → Type 0 = λ c. new c ≡ raised (old c) in subst P is_a (second.others a other ∙ first.this);
      became = let P : Counter → Type 0 = λ c. new c ≡ raised (old c) in subst P is_b became;
      others = λ c not_a not_b. second.others c (λ e. not_b (e ∙ is_b)) ∙ first.others c (λ e. not_a (e ∙ is_a));
    }
