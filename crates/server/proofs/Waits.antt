-- What waits, as it is stored.
use Rattle.std.proofs.Common.{◌≡◌, ℕ, ◌+◌, ◌-◌, ◌<◌, ◌≤◌, List, [], ◌∷◌, ◌++◌, length, map, take, drop, get_or, leb, zero, suc, Bool, true, false, Option, Some, None, Result, Ok, inl, inr, refl, ap, sym, subst, ◌∙◌, arith, append_assoc, le-leb, length-take-le, length-append, length-drop, drop-cons, drop_of_length-le}
use Rattle.std.proofs.lemmas.Bool.{cond-true, cond-false, lt-leb}
use Rattle.std.proofs.lemmas.List.{append-nil, map-append, take-take, drop-append-le}
use Rattle.std.proofs.lemmas.Slice.{between_is, between-put_mid}
use borrow.Rule.Slice.PartMut.{put_mid}
use native.Mathlib.Numerals.{add-one}
use Rattle.addresses.specs.declared.address.Addr.{Addr}
use Rattle.semantics.specs.declared.limits.TheConstants.{MAX_DATAGRAM}
use Rattle.server.proofs.Reported.{reported_more, reported_none}
use Rattle.server.specs.Calls.{Call, Received, HasReported}
use Rattle.server.specs.declared.link.LinkFault.{LinkFault}
use Rattle.server.specs.declared.link.Place.{Place}
use Rattle.server.specs.Ahead.{Waiting, Datagram, Fault, Receive, call_at, waiting_of, waiting_after, is_datagram, IsReceive, AreDatagrams, HasFilled, HasTaken, IsHandedOn}
use Rattle.server.specs.Filling.{stored_datagram, ending_of, waiting_in, AreWithin, HasReceived, HasReceivedOne, HasFilledSoFar}
use Rattle.server.specs.declared.ahead.Stored.{Stored}
use Rattle.server.specs.declared.ahead.BatchEnd.{BatchEnd}
use Rattle.server.specs.declared.ahead.BatchEnd.TheVariants as then

-- ---- where datagrams lie

fits_at : (ss : List Stored) (i end : ℕ) (d : Stored) → AreWithin end ss → i < length ss → (get_or ss i d).start + (get_or ss i d).n ≤ end
fits_at [] i end d all h = absurd (omega (arith, h))
fits_at (s ∷ ss) zero end d all h = all.0
fits_at (s ∷ ss) (suc i) end d all h = fits_at ss i end d all.1 (omega (arith, h))

pub fits_stored : (ss : List Stored) (i end : ℕ) (s : Stored) → AreWithin end ss → i < length ss → s ≡ get_or ss i s → s.start + s.n ≤ end
fits_stored ss i end s all h is = subst (λ (x : Stored). x.start + x.n ≤ end) (sym is) (fits_at ss i end s all h)

pub within_more : (end more : ℕ) (ss : List Stored) → end ≤ more → AreWithin end ss → AreWithin more ss
within_more end more [] h all = tt
within_more end more (s ∷ ss) h all = (omega (arith, h, all.0), within_more end more ss h all.1)

pub within_push : (end : ℕ) (ss : List Stored) (s : Stored) → AreWithin end ss → s.start + s.n ≤ end → AreWithin end (ss ++ s ∷ [])
within_push end [] s all h = (h, tt)
within_push end (x ∷ ss) s all h = (all.0, within_push end ss s all.1 h)

within_drop : (end i : ℕ) (ss : List Stored) → AreWithin end ss → AreWithin end (drop i ss)
within_drop end zero ss all = all
within_drop end (suc i) [] all = all
within_drop end (suc i) (s ∷ ss) all = within_drop end i ss all.1

-- ---- the first one that waits

pub first_waits : (bytes : List ℕ) (ss : List Stored) (i : ℕ) (t : BatchEnd) (s : Stored) → i < length ss → s ≡ get_or ss i s
    → waiting_in bytes ss i t ≡ stored_datagram bytes s ∷ waiting_in bytes ss (i + 1) t
first_waits bytes ss i t s h is =
    ap (λ (l : List Stored). map (stored_datagram bytes) l ++ ending_of t) (drop-cons ss i s h)
    ∙ ap (λ (x : Stored). stored_datagram bytes x ∷ (map (stored_datagram bytes) (drop (suc i) ss) ++ ending_of t)) (sym is)
    ∙ ap (λ (k : ℕ). stored_datagram bytes s ∷ (map (stored_datagram bytes) (drop k ss) ++ ending_of t)) (sym (add-one i))

pub none_stored : (bytes : List ℕ) (ss : List Stored) (i : ℕ) (t : BatchEnd) → length ss ≤ i → waiting_in bytes ss i t ≡ ending_of t
none_stored bytes ss i t h = ap (λ (l : List Stored). map (stored_datagram bytes) l ++ ending_of t) (drop_of_length-le ss h)

pub some_stored : (bytes : List ℕ) (ss : List Stored) (i : ℕ) (t : BatchEnd) → i < length ss → waiting_in bytes ss i t ≡ [] → ⊥
some_stored bytes [] i t h is = absurd (omega (arith, h))
some_stored bytes (s ∷ ss) zero t h is = cc is
some_stored bytes (s ∷ ss) (suc i) t h is = some_stored bytes ss i t (omega (arith, h)) is

-- ---- a receive

part_is : (xs : List ℕ) (a n : ℕ) → take n (drop a xs) ≡ drop a (take (a + n) xs)
part_is xs a n =
    let e : n ≡ a + n - a = omega arith in
    ap (λ (k : ℕ). take k (drop a xs)) e ∙ between_is xs a (a + n)

same_part : (end : ℕ) (xs ys : List ℕ) (a n : ℕ) → take end ys ≡ take end xs → a + n ≤ end → take n (drop a ys) ≡ take n (drop a xs)
same_part end xs ys a n same h =
    part_is ys a n ∙ ap (drop a) (sym (take-take (a + n) end ys h) ∙ ap (take (a + n)) same ∙ take-take (a + n) end xs h) ∙ sym (part_is xs a n)

same_datagrams : (end : ℕ) (xs ys : List ℕ) (ss : List Stored) → take end ys ≡ take end xs → AreWithin end ss → map (stored_datagram ys) ss ≡ map (stored_datagram xs) ss
same_datagrams end xs ys [] same all = refl
same_datagrams end xs ys (s ∷ ss) same all =
    λ i. Datagram (same_part end xs ys s.start s.n same all.0 i) s.from ∷ same_datagrams end xs ys ss same all.1 i

-- what waited waits still
same_waits : (end : ℕ) (xs ys : List ℕ) (ss : List Stored) (i : ℕ) → take end ys ≡ take end xs → AreWithin end ss
    → map (stored_datagram ys) (drop i ss) ≡ waiting_in xs ss i then.Receive
same_waits end xs ys ss i same all =
    same_datagrams end xs ys (drop i ss) same (within_drop end i ss all) ∙ sym (append-nil (map (stored_datagram xs) (drop i ss)))

pub one_more : (end : ℕ) (xs ys : List ℕ) (ss : List Stored) (i : ℕ) (s : Stored) → take end ys ≡ take end xs → AreWithin end ss → i ≤ length ss
    → waiting_in ys (ss ++ s ∷ []) i then.Receive ≡ waiting_in xs ss i then.Receive ++ stored_datagram ys s ∷ []
one_more end xs ys ss i s same all h =
    append-nil (map (stored_datagram ys) (drop i (ss ++ s ∷ [])))
    ∙ ap (map (stored_datagram ys)) (drop-append-le i ss (s ∷ []) h)
    ∙ map-append (stored_datagram ys) (drop i ss) (s ∷ [])
    ∙ ap (λ (l : List Waiting). l ++ stored_datagram ys s ∷ []) (same_waits end xs ys ss i same all)

pub one_ends : (end : ℕ) (xs ys : List ℕ) (ss : List Stored) (i : ℕ) (t : BatchEnd) (w : Waiting) → take end ys ≡ take end xs → AreWithin end ss → ending_of t ≡ w ∷ []
    → waiting_in ys ss i t ≡ waiting_in xs ss i then.Receive ++ w ∷ []
one_ends end xs ys ss i t w same all is =
    ap (λ (l : List Waiting). map (stored_datagram ys) (drop i ss) ++ l) is
    ∙ ap (λ (l : List Waiting). l ++ w ∷ []) (same_waits end xs ys ss i same all)

room_is : (ys : List ℕ) (end : ℕ) → end + MAX_DATAGRAM ≤ length ys → length (take MAX_DATAGRAM (drop end ys)) ≡ MAX_DATAGRAM
room_is ys end h = let l = length-drop end ys in length-take-le MAX_DATAGRAM (drop end ys) (omega (arith, l, h))

-- a datagram that came lies where its receive has written it
module _ (endpoint : Place) (before after : Option (List Call)) (old : List Waiting) (xs ys : List ℕ) (ss : List Stored) (i end : ℕ)
    (view : waiting_in xs ss i then.Receive ≡ old) (same : take end ys ≡ take end xs) (within : AreWithin end ss) (handed : i ≤ length ss)
    (long : end + MAX_DATAGRAM ≤ length ys) (answer result : Result (Option (ℕ × Addr)) LinkFault)
    (reported : HasReported before after (Received endpoint (take MAX_DATAGRAM (drop end ys)) result ∷ [])) (is : result ≡ answer) where
  made : Receive
  made = record { buffer = take MAX_DATAGRAM (drop end ys); answer = answer }

  pub received : (new : List Waiting) (came : Bool) (w : Waiting) → waiting_after (take MAX_DATAGRAM (drop end ys)) answer ≡ w → is_datagram w ≡ came
      → new ≡ waiting_in xs ss i then.Receive ++ w ∷ [] → HasReceived endpoint before after old new came
  unfolding made
  received new came w waits gives now = record {
    receive = made;
    is_receive = record { room = room_is ys end long; gives = ap is_datagram waits ∙ gives };
    reported = subst (λ r. HasReported before after (Received endpoint (take MAX_DATAGRAM (drop end ys)) r ∷ [])) is reported;
    waits = now ∙ ap (λ (l : List Waiting). l ++ w ∷ []) view ∙ ap (λ (x : Waiting). old ++ x ∷ []) (sym waits);
  }

pub datagram_waits : (ys : List ℕ) (end n : ℕ) (from : Addr) → n ≤ MAX_DATAGRAM
    → waiting_after (take MAX_DATAGRAM (drop end ys)) (Ok (Some (n, from))) ≡ Datagram (take n (drop end ys)) from
datagram_waits ys end n from h =
    cond-true (leb n MAX_DATAGRAM) (Datagram (take n (take MAX_DATAGRAM (drop end ys))) from) Fault (le-leb n MAX_DATAGRAM h)
    ∙ ap (λ (l : List ℕ). Datagram l from) (take-take n MAX_DATAGRAM (drop end ys) h)

pub long_waits : (buffer : List ℕ) (n : ℕ) (from : Addr) → MAX_DATAGRAM < n → waiting_after buffer (Ok (Some (n, from))) ≡ Fault
long_waits buffer n from h = cond-false (leb n MAX_DATAGRAM) (Datagram (take n buffer) from) Fault (lt-leb n MAX_DATAGRAM h)

-- ---- a filling

datagrams_push : (rs : List Receive) (r : Receive) → AreDatagrams rs → IsReceive r true → AreDatagrams (rs ++ r ∷ [])
datagrams_push [] r all is = (is, tt)
datagrams_push (x ∷ rs) r all is = (all.0, datagrams_push rs r all.1 is)

-- a further receive after some
module _ (endpoint : Place) (before between after : Option (List Call)) (waiting new : List Waiting) (came : Bool)
    (so_far : HasFilledSoFar endpoint before between waiting) (one : HasReceived endpoint between after waiting new came) where
  more_reported : HasReported before after (map (call_at endpoint) (so_far.datagrams ++ one.receive ∷ []))
  more_reported =
      subst (HasReported before after) (sym (map-append (call_at endpoint) so_far.datagrams (one.receive ∷ [])))
      (reported_more before between after (map (call_at endpoint) so_far.datagrams) (call_at endpoint one.receive ∷ []) so_far.reported one.reported)

  more_waits : new ≡ map waiting_of (so_far.datagrams ++ one.receive ∷ [])
  more_waits =
      one.waits ∙ ap (λ (l : List Waiting). l ++ waiting_of one.receive ∷ []) so_far.waits
      ∙ sym (map-append waiting_of so_far.datagrams (one.receive ∷ []))

  pub goes_on : came ≡ true → HasFilledSoFar endpoint before after new
  goes_on is = record {
    datagrams = so_far.datagrams ++ one.receive ∷ [];
    each = datagrams_push so_far.datagrams one.receive so_far.each (subst (λ (b : Bool). IsReceive one.receive b) is one.is_receive);
    reported = more_reported;
    waits = more_waits;
  }

  pub ends : (old : List Waiting) → old ≡ [] → came ≡ false → HasFilled endpoint before after old new
  ends old none is = record {
    datagrams = so_far.datagrams;
    ending = Some one.receive;
    each = so_far.each;
    last = subst (λ (b : Bool). IsReceive one.receive b) is one.is_receive;
    reported = more_reported;
    waits = more_waits ∙ ap (λ (l : List Waiting). l ++ map waiting_of (so_far.datagrams ++ one.receive ∷ [])) (sym none);
    unfilled = λ some. absurd (some none);
  }

pub filled : (endpoint : Place) (before after : Option (List Call)) (old new : List Waiting) → HasFilledSoFar endpoint before after new → old ≡ [] → HasFilled endpoint before after old new
filled endpoint before after old new so_far none = record {
  datagrams = so_far.datagrams;
  ending = None;
  each = so_far.each;
  last = tt;
  reported = subst (λ (l : List Receive). HasReported before after (map (call_at endpoint) l)) (sym (append-nil so_far.datagrams)) so_far.reported;
  waits =
      so_far.waits ∙ ap (map waiting_of) (sym (append-nil so_far.datagrams))
      ∙ ap (λ (l : List Waiting). l ++ map waiting_of (so_far.datagrams ++ [])) (sym none);
  unfilled = λ some. absurd (some none);
}

pub unfilled : (endpoint : Place) (calls : Option (List Call)) (old : List Waiting) → HasFilled endpoint calls calls old old
unfilled endpoint calls old = record {
  datagrams = [];
  ending = None;
  each = tt;
  last = tt;
  reported = reported_none calls;
  waits = sym (append-nil old);
  unfilled = λ some. refl;
}

pub nothing_yet : (endpoint : Place) (calls : Option (List Call)) (new : List Waiting) → new ≡ [] → HasFilledSoFar endpoint calls calls new
nothing_yet endpoint calls new none = record { datagrams = []; each = tt; reported = reported_none calls; waits = none }

pub stops : (endpoint : Place) (before between after : Option (List Call)) (old waiting new : List Waiting) → HasFilledSoFar endpoint before between waiting
    → HasReceivedOne endpoint between after waiting new false → old ≡ [] → HasFilled endpoint before after old new
stops endpoint before between after old waiting new so_far (inl (calls, same, came)) none =
    filled endpoint before after old new
    (subst (λ (c : Option (List Call)). HasFilledSoFar endpoint before c new) (sym calls) (subst (λ (l : List Waiting). HasFilledSoFar endpoint before between l) (sym same) so_far)) none
stops endpoint before between after old waiting new so_far (inr one) none = ends endpoint before between after waiting new false so_far one old none refl

pub goes_on_after : (endpoint : Place) (before between after : Option (List Call)) (waiting new : List Waiting) → HasFilledSoFar endpoint before between waiting
    → HasReceivedOne endpoint between after waiting new true → HasFilledSoFar endpoint before after new
goes_on_after endpoint before between after waiting new so_far (inl (calls, same, came)) = absurd (cc came)
goes_on_after endpoint before between after waiting new so_far (inr one) = goes_on endpoint before between after waiting new true so_far one refl

pub one_more_at_most : (endpoint : Place) (before after : Option (List Call)) (old new : List Waiting) (came : Bool) → HasReceivedOne endpoint before after old new came → length new ≤ length old + 1
one_more_at_most endpoint before after old new came (inl (calls, same, none)) = let l = ap length same in omega (arith, l)
one_more_at_most endpoint before after old new came (inr one) =
    let l = ap length one.waits in
    let a = length-append old (waiting_of one.receive ∷ []) in
    omega (arith, l, a)

-- ---- handing on

pub taken_first : (endpoint : Place) (before after : Option (List Call)) (old new : List Waiting) (into now : List ℕ) (result : Result (Option (ℕ × Addr)) LinkFault) (w : Waiting) (rest : List Waiting)
    → old ≡ w ∷ rest → new ≡ rest → after ≡ before → IsHandedOn w into now result → HasTaken endpoint before after old new into now result
taken_first endpoint before after old new into now result w rest is same calls handed =
    subst (λ (l : List Waiting). HasTaken endpoint before after l new into now result) (sym is) (same, calls, handed)

pub taken_none : (endpoint : Place) (before after : Option (List Call)) (old new : List Waiting) (into now : List ℕ) (result : Result (Option (ℕ × Addr)) LinkFault)
    → old ≡ [] → new ≡ [] → HasReported before after (Received endpoint now result ∷ []) → HasTaken endpoint before after old new into now result
taken_none endpoint before after old new into now result is same reported =
    subst (λ (l : List Waiting). HasTaken endpoint before after l new into now result) (sym is) (same, reported)

-- ---- what was written is read back

pub read_back : (start k : ℕ) (xs ys : List ℕ) → start + MAX_DATAGRAM ≤ length xs → k ≡ MAX_DATAGRAM → length ys ≡ MAX_DATAGRAM → take MAX_DATAGRAM (drop start (put_mid start k xs ys)) ≡ ys
read_back start k xs ys inside is l =
    let e : MAX_DATAGRAM ≡ start + MAX_DATAGRAM - start = omega arith in
    ap (λ (n : ℕ). take n (drop start (put_mid start k xs ys))) e
    ∙ between-put_mid start k xs ys (start + MAX_DATAGRAM) (omega (arith, inside)) (l ∙ e)
