-- One more event that was read, and answered.
use Rattle.std.proofs.Common.{◌≡◌, ◌≢◌, ℕ, suc, ◌+◌, ◌<◌, ◌≤◌, ◌^◌, ◌⊎◌, Bool, true, false, List, [], ◌∷◌, ◌++◌, length, length-append, take, refl, sym, ap, ◌∙◌, inl, inr, arith, subst, append_assoc, append-nil}
use Rattle.std.specs.Prelude.{Option, None, Some, IfSome, Result, Ok, Err, IfErr, is_some}
use Rattle.std.proofs.lemmas.List.Elements.{All-nil, All-push}
use Rattle.std.proofs.lemmas.Option.{same_Some, none-some}
use Rattle.std.specs.Io.KnownBytes.{Appends, Consumes, IsAtEnd}
use Rattle.std.specs.Io.BufRead.{first_piece, drop_through, DropsThrough}
use Rattle.std.proofs.KnownBytes.{Appends-nil, Appends-trans, Consumes-nil}
use Rattle.control.specs.declared.config.Config.{Config}
use Rattle.events.specs.Events.{Event, Datagram, Nonce}
use Rattle.events.specs.Lines.{line_of, IsEvent}
use Rattle.events.specs.Reading.{event_in}
use Rattle.events.specs.laws.Reading.{event_in-line_of, event_in-is}
use Rattle.relay.specs.ByPrograms.{Programs, by_programs}
use Rattle.relay.specs.ReadLines.{IsLine}
use Rattle.relay.specs.Relays.{RelayContents, state_of}
use Rattle.relay.specs.Replays.{text_of_events, IsText, answer_text, answers_text, after_line, answer_to, system_of, IsSameRelay, HasPlayed, HasPlayedAll, answers_of_events, IsCut, StopsAtLine, StopsBefore, StopsWriting}
use Rattle.rules.specs.Systems.{SystemState, System, SystemOutcome, system_step, state_after_events}
use Rattle.relay.specs.declared.lines.TheConstants.{MAX_LINE}
use Rattle.relay.specs.declared.replaying.ReplayError.{ReplayError}
use Rattle.relay.specs.declared.replaying.ReplayError.TheVariants as error
use Rattle.relay.proofs.FirstLines.{taken}
use Rattle.relay.proofs.LineLengths.{line_short}

-- the number of the line that an error names
abbrev number_of_line : ReplayError → ℕ
number_of_line (error.Line n) = n
number_of_line error.Read = 0
number_of_line error.Write = 0
number_of_line error.Memory = 0

-- ---- one event more

text_of-push : (events : List Event) (e : Event) → text_of_events (events ++ e ∷ []) ≡ text_of_events events ++ (line_of e ++ 10 ∷ [])
text_of-push [] e = refl
text_of-push (d ∷ events) e = ap (λ l. line_of d ++ 10 ∷ l) (text_of-push events e) ∙ sym (append_assoc (line_of d) (10 ∷ text_of_events events) (line_of e ++ 10 ∷ []))

module _ (programs : Programs) (config : Config) where
  abbrev system : System
  system = by_programs programs

  abbrev next : SystemState → Event → SystemState
  next s e = (system_step system config s e).state

  after-push : (s : SystemState) (events : List Event) (e : Event) → state_after_events system config s (events ++ e ∷ []) ≡ next (state_after_events system config s events) e
  after-push s [] e = refl
  after-push s (d ∷ events) e = after-push (next s d) events e

  answers-push : (explains : Bool) (s : SystemState) (events : List Event) (e : Event)
      → answers_text explains programs config s (events ++ e ∷ []) ≡ answers_text explains programs config s events ++ answer_text explains programs config (state_after_events system config s events) e
  answers-push explains s [] e = append-nil (answer_text explains programs config s e)
  answers-push explains s (d ∷ events) e =
      ap (λ l. answer_text explains programs config s d ++ l) (answers-push explains (next s d) events e)
      ∙ sym (append_assoc (answer_text explains programs config s d) (answers_text explains programs config (next s d) events) (answer_text explains programs config (state_after_events system config (next s d) events) e))

take_past : (front most : List ℕ) (n : ℕ) → take (length front + n) (front ++ most) ≡ front ++ take n most
take_past [] most n = let none : 0 + n ≡ n = omega arith in ap (λ k. take k most) none
take_past (x ∷ front) most n =
    let one : length (x ∷ front) + n ≡ suc (length front + n) = omega arith in
    ap (λ k. take k (x ∷ (front ++ most))) one ∙ ap (λ l. x ∷ l) (take_past front most n)

-- ---- what was read

-- whole lines were read, or all that there was, of which the last line had no line feed
abbrev pub HasRead : List Event → Option (List ℕ) → Option (List ℕ) → Type 0
HasRead events read left = Consumes read left (text_of_events events) ⊎ IfSome read (λ text. (left ≡ Some []) × (text ++ 10 ∷ [] ≡ text_of_events events))

-- the next line was read, and is the event's
read_more : (a b c : Option (List ℕ)) (events : List Event) (line : List ℕ) (e : Event) → HasRead events a b
    → IfSome b (λ xs. (xs ≢ []) × (line ≡ first_piece 10 xs)) → DropsThrough b c 10 → line ≡ line_of e → HasRead (events ++ e ∷ []) a c
read_more None b c events line e read more drops is = inl tt
read_more (Some x) None c events line e (inl h) more drops is = absurd h
read_more (Some x) None c events line e (inr h) more drops is = absurd (none-some [] h.0)
read_more (Some x) (Some y) c events line e (inr h) more drops is = absurd (more.0 (same_Some y [] h.0))
read_more (Some x) (Some y) c events line e (inl h) more drops is = elim (taken y) [
  | inl t ↦
      let whole : y ≡ line_of e ++ 10 ∷ drop_through 10 y = t ∙ ap (λ l. l ++ 10 ∷ drop_through 10 y) (sym more.1 ∙ is) in
      let split : line_of e ++ 10 ∷ drop_through 10 y ≡ (line_of e ++ 10 ∷ []) ++ drop_through 10 y = sym (append_assoc (line_of e) (10 ∷ []) (drop_through 10 y)) in
      inl (subst (λ o. Consumes (Some x) o (text_of_events (events ++ e ∷ []))) (sym drops)
      (h ∙ ap (λ l. text_of_events events ++ l) (whole ∙ split) ∙ sym (append_assoc (text_of_events events) (line_of e ++ 10 ∷ []) (drop_through 10 y)) ∙ ap (λ l. l ++ drop_through 10 y) (sym (text_of-push events e))))
  | inr t ↦
      let whole : y ≡ line_of e = t.0 ∙ sym more.1 ∙ is in
      inr (drops ∙ ap Some t.1, ap (λ l. l ++ 10 ∷ []) (h ∙ ap (λ l. text_of_events events ++ l) whole) ∙ append_assoc (text_of_events events) (line_of e) (10 ∷ []) ∙ sym (text_of-push events e))
]

all_read : (a b : Option (List ℕ)) (events : List Event) → HasRead events a b → IsAtEnd b → IfSome a (λ text. IsText text events)
all_read None b events h e = tt
all_read (Some x) None events (inl h) e = absurd h
all_read (Some x) (Some y) events (inl h) e = inl (h ∙ ap (λ l. text_of_events events ++ l) e ∙ append-nil (text_of_events events))
all_read (Some x) b events (inr h) e = inr h.1

left_at_end : (a b c : Option (List ℕ)) (events : List Event) → HasRead events a b → IsAtEnd b → DropsThrough b c 10 → IfSome a (λ _. c ≡ Some [])
left_at_end None b c events h e d = tt
left_at_end (Some x) None c events (inl h) e d = absurd h
left_at_end (Some x) None c events (inr h) e d = absurd (none-some [] h.0)
left_at_end (Some x) (Some y) c events h e d = d ∙ ap (λ l. Some (drop_through 10 l)) e

begins : (a b : Option (List ℕ)) (events : List Event) → HasRead events a b → IfSome a (λ text. (rest : List ℕ) × (text ++ 10 ∷ [] ≡ text_of_events events ++ rest))
begins None b events h = tt
begins (Some x) None events (inl h) = absurd h
begins (Some x) (Some y) events (inl h) = (y ++ 10 ∷ [], ap (λ l. l ++ 10 ∷ []) h ∙ append_assoc (text_of_events events) y (10 ∷ []))
begins (Some x) b events (inr h) = ([], h.1 ∙ sym (append-nil (text_of_events events)))

-- ---- under way

-- the events of `count` lines were read and answered
pub record IsUnderWay (explains : Bool) (count : ℕ) (read left : Option (List ℕ)) (old new : RelayContents) (held holds : Option (List ℕ)) : Type 0 where
  pub events : List Event
  pub number : length events ≡ count
  pub played : HasPlayed events old new
  pub has_read : HasRead events read left
  pub written : Appends held holds (answers_of_events explains old events)

pub starts : (explains : Bool) (read : Option (List ℕ)) (old : RelayContents) (held : Option (List ℕ)) → IsUnderWay explains 0 read read old old held held
starts explains read old held = record {
  events = [];
  number = refl;
  played = record { are_events = All-nil (IsEvent old.config.slots); state = refl; same = record { programs = refl; config = refl } };
  has_read = inl (Consumes-nil read);
  written = Appends-nil held;
}

-- a step of a relay whose nonce may have changed is one of the system
same_step : (old now : RelayContents) (s : SystemState) (e : Event) → IsSameRelay old now → system_step (system_of now) now.config s e ≡ system_step (system_of old) old.config s e
same_step old now s (Datagram given bytes) same = λ i. system_step (system_of (record now { programs = same.programs i })) (same.config i) s (Datagram given bytes)
same_step old now s (Nonce text) same = refl

-- and so is the line of its answer
same_text : (explains : Bool) (old now : RelayContents) (s : SystemState) (e : Event) → IsSameRelay old now → answer_text explains now.programs now.config s e ≡ answer_text explains old.programs old.config s e
same_text explains old now s (Datagram given bytes) same = λ i. answer_text explains (same.programs i) (same.config i) s (Datagram given bytes)
same_text explains old now s (Nonce text) same = refl

trans_same : (a b c : RelayContents) → IsSameRelay a b → IsSameRelay b c → IsSameRelay a c
trans_same a b c x y = record { programs = y.programs ∙ x.programs; config = y.config ∙ (λ i. record (x.config i) { nonce = c.config.nonce }) }

some_value : (o : Option Event) → is_some o ≡ true → (e : Event) × (o ≡ Some e)
some_value None h = absurd cc
some_value (Some e) h = (e, refl)

pub none_value : (o : Option Event) → is_some o ≡ false → o ≡ None
none_value None h = refl
none_value (Some e) h = absurd cc

-- all events were read
pub ends : (explains : Bool) (count : ℕ) (read left left' : Option (List ℕ)) (old now : RelayContents) (held holds : Option (List ℕ)) → IsUnderWay explains count read left old now held holds
    → IsAtEnd left → DropsThrough left left' 10 → HasPlayedAll explains read left' old now held holds
ends explains count read left left' old now held holds so_far ended drops = record {
  events = so_far.events;
  played = so_far.played;
  is_text = all_read read left so_far.events so_far.has_read ended;
  at_end = left_at_end read left left' so_far.events so_far.has_read ended drops;
  written = so_far.written;
}

module _ (explains : Bool) (count : ℕ) (read left : Option (List ℕ)) (old now : RelayContents) (held holds : Option (List ℕ)) (so_far : IsUnderWay explains count read left old now held holds) where
  -- what one more event makes
  played_more : (new : RelayContents) (e : Event) → IsEvent old.config.slots e → state_of new ≡ (system_step (system_of now) now.config (state_of now) e).state → IsSameRelay now new → HasPlayed (so_far.events ++ e ∷ []) old new
  played_more new e event stepped same = record {
    are_events = All-push (IsEvent old.config.slots) so_far.events e so_far.played.are_events event;
    state =
        stepped
        ∙ ap (λ (o : SystemOutcome). o.state) (same_step old now (state_of now) e so_far.played.same)
        ∙ ap (λ (s : SystemState). (system_step (system_of old) old.config s e).state) so_far.played.state
        ∙ sym (after-push old.programs old.config (state_of old) so_far.events e);
    same = trans_same old now new so_far.played.same same;
  }

  answer_is : (e : Event) → answer_text explains now.programs now.config (state_of now) e ≡ answer_text explains old.programs old.config (state_after_events (system_of old) old.config (state_of old) so_far.events) e
  answer_is e = same_text explains old now (state_of now) e so_far.played.same ∙ ap (λ (s : SystemState). answer_text explains old.programs old.config s e) so_far.played.state

  slots_same : now.config.slots ≡ old.config.slots
  slots_same = ap (λ (c : Config). c.slots) so_far.played.same.config

  -- the event of the line that was read
  module _ (left' : Option (List ℕ)) (line : List ℕ) (new : RelayContents) (few : now.config.slots < 2 ^ 64)
      (more : IfSome left (λ xs. (xs ≢ []) × IsLine line xs)) (drops : length line ≤ MAX_LINE → DropsThrough left left' 10)
      (stepped : state_of new ≡ after_line (system_of now) now.config (state_of now) (event_in now.config.slots line)) (same : IsSameRelay now new) where
    -- a line that is an event's was read whole
    short : (e : Event) → event_in now.config.slots line ≡ Some e → length line ≤ MAX_LINE
    short e found =
        let is = event_in-is now.config.slots line e found in
        omega (arith, ap length is.1, line_short now.config.slots e few is.0)

    whole_line : (e : Event) → event_in now.config.slots line ≡ Some e → IfSome left (λ xs. (xs ≢ []) × (line ≡ first_piece 10 xs))
    whole_line e found = of left more where
      of : (a : Option (List ℕ)) → IfSome a (λ xs. (xs ≢ []) × IsLine line xs) → IfSome a (λ xs. (xs ≢ []) × (line ≡ first_piece 10 xs))
      of None h = tt
      of (Some xs) h = (h.0, elim h.1 [ inl same ↦ same | inr long ↦ absurd (omega (arith, short e found, long.0)) ])

    pub goes_on : (holds' : Option (List ℕ)) → is_some (event_in now.config.slots line) ≡ true
        → Appends holds holds' (answer_to explains now.programs now.config (state_of now) (event_in now.config.slots line))
        → IsUnderWay explains (count + 1) read left' old new held holds'
    goes_on holds' known wrote =
        let found = some_value (event_in now.config.slots line) known in
        let e : Event = found.0 in
        let is = event_in-is now.config.slots line e found.1 in
        let event : IsEvent old.config.slots e = subst (λ n. IsEvent n e) slots_same is.0 in
        let text = ap (answer_to explains now.programs now.config (state_of now)) found.1 ∙ answer_is e in
        record {
          events = so_far.events ++ e ∷ [];
          number = omega (arith, length-append so_far.events (e ∷ []), so_far.number);
          played = played_more new e event (stepped ∙ ap (after_line (system_of now) now.config (state_of now)) found.1) same;
          has_read = read_more read left left' so_far.events line e so_far.has_read (whole_line e found.1) (drops (short e found.1)) is.1;
          written = subst (Appends held holds') (sym (answers-push old.programs old.config explains (state_of old) so_far.events e))
              (Appends-trans held holds holds' (answers_of_events explains old so_far.events) _ so_far.written (subst (Appends holds holds') text wrote));
        }

    -- no event: nothing was played
    unplayed : event_in now.config.slots line ≡ None → HasPlayed so_far.events old new
    unplayed none = record {
      are_events = so_far.played.are_events;
      state = stepped ∙ ap (after_line (system_of now) now.config (state_of now)) none ∙ so_far.played.state;
      same = trans_same old now new so_far.played.same same;
    }

    differs : (xs : List ℕ) → IsLine line xs → ((e : Event) → IsEvent old.config.slots e → line ≢ line_of e)
        → (e : Event) → IsEvent old.config.slots e → first_piece 10 xs ≢ line_of e
    differs xs (inl same) bad e is is_line = bad e is (same ∙ is_line)
    differs xs (inr long) bad e is is_line =
        absurd (omega (arith, long.0, length-append line long.1.0, ap length (sym long.1.1 ∙ is_line), line_short old.config.slots e (subst (λ (n : ℕ). n < 2 ^ 64) slots_same few) is))

    not_the_end : (a b : Option (List ℕ)) (events : List Event) → HasRead events a b → IfSome b (λ xs. (xs ≢ []) × IsLine line xs)
        → ((e : Event) → IsEvent old.config.slots e → line ≢ line_of e)
        → IfSome a (λ text. (rest : List ℕ) × (text ≡ text_of_events events ++ rest) × (rest ≢ []) × ((e : Event) → IsEvent old.config.slots e → first_piece 10 rest ≢ line_of e))
    not_the_end None b events h more bad = tt
    not_the_end (Some x) None events (inl h) more bad = absurd h
    not_the_end (Some x) None events (inr h) more bad = absurd (none-some [] h.0)
    not_the_end (Some x) (Some y) events (inl h) more bad = (y, h, more.0, differs y more.1 bad)
    not_the_end (Some x) (Some y) events (inr h) more bad = absurd (more.0 (same_Some y [] h.0))

    pub stops_at : (holds' : Option (List ℕ)) → event_in now.config.slots line ≡ None
        → Appends holds holds' (answer_to explains now.programs now.config (state_of now) (event_in now.config.slots line))
        → (n : ℕ) → error.Line (count + 1) ≡ error.Line n → StopsAtLine explains n read old new held holds'
    stops_at holds' none wrote n is = record {
      events = so_far.events;
      played = unplayed none;
      number = let same : count + 1 ≡ n = ap number_of_line is in omega (arith, so_far.number, same);
      text = not_the_end read left so_far.events so_far.has_read more
          (λ e is is_line. none-some e (sym none ∙ ap (λ (n : ℕ). event_in n line) slots_same ∙ ap (event_in old.config.slots) is_line ∙ event_in-line_of old.config.slots e (subst (λ (n : ℕ). n < 2 ^ 64) slots_same few) is));
      written = subst (Appends held holds') (append-nil (answers_of_events explains old so_far.events))
          (Appends-trans held holds holds' (answers_of_events explains old so_far.events) [] so_far.written (subst (λ o. Appends holds holds' (answer_to explains now.programs now.config (state_of now) o)) none wrote));
    }

    -- all answers so far were written, and the last event's in part
    pub stops_in : (holds' : Option (List ℕ)) → IsCut explains holds holds' now.programs now.config (state_of now) (event_in now.config.slots line) → StopsWriting explains read old new held holds'
    stops_in holds' part =
        let found = some_value (event_in now.config.slots line) part.known in
        let e : Event = found.0 in
        let is = event_in-is now.config.slots line e found.1 in
        let event : IsEvent old.config.slots e = subst (λ n. IsEvent n e) slots_same is.0 in
        let text = ap (answer_to explains now.programs now.config (state_of now)) found.1 ∙ answer_is e in
        record {
          events = so_far.events;
          last = e;
          played = played_more new e event (stepped ∙ ap (after_line (system_of now) now.config (state_of now)) found.1) same;
          text = begins read left' (so_far.events ++ e ∷ []) (read_more read left left' so_far.events line e so_far.has_read (whole_line e found.1) (drops (short e found.1)) is.1);
          count = part.written.0;
          written = Appends-trans held holds holds' (answers_of_events explains old so_far.events) _ so_far.written (subst (λ l. Appends holds holds' (take part.written.0 l)) text part.written.1);
        }

  -- all answers so far were written
  pub stops_before : StopsBefore explains read old now held holds
  stops_before = record {
    events = so_far.events;
    played = so_far.played;
    text = begins read left so_far.events so_far.has_read;
    written = so_far.written;
  }

-- what holds whatever the error
pub for_err : {X E : Type 0} {P : E → Type 0} (r : Result X E) → ((e : E) → P e) → IfErr r P
for_err (Ok x) p = tt
for_err (Err e) p = p e
