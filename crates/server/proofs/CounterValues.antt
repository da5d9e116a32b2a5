-- Where the value of each counter is stored: no two share an index.
use Rattle.std.specs.Prelude.{◌≡◌, ◌≢◌, ℕ, ◌<◌, List, ◌∷◌, length, get_or, set, replicate, refl, Option, Some}
use Rattle.std.proofs.Common.{sym, ◌∙◌, ap, subst, zero, suc}
use Rattle.std.proofs.lemmas.List.{get_or-set_same, get_or-set_other}
use Rattle.machine.specs.declared.context.Side.{Side}
use Rattle.machine.specs.declared.context.Side.TheVariants as side
use Rattle.server.specs.Counters.{HasCountedVerdict, HasRaised, counted_verdict, discard_counters, raised}
use Rattle.server.specs.CounterValues.{counter_index, counter_value, verdict_value}
use Rattle.server.specs.declared.counters.TheConstants.{KINDS}
use Rattle.server.specs.declared.counters.Counters.{Counters}
use Rattle.server.specs.declared.counters.Counter.{Counter}
use Rattle.server.specs.declared.counters.Counter.TheVariants as counter
use Rattle.server.specs.declared.counters.Kind.{Kind}
use Rattle.server.specs.declared.counters.Kind.TheVariants.{ChannelData, Message, Other, FromPeer}
use Rattle.rules.specs.declared.disposition.Discard.{Discard}
use Rattle.rules.specs.declared.disposition.Discard.TheVariants as discard

-- ---- by cases

pub each_kind : (P : Kind → Type 0) → P ChannelData → P Message → P Other → P FromPeer → (kind : Kind) → P kind
each_kind P a b c d ChannelData = a
each_kind P a b c d Message = b
each_kind P a b c d Other = c
each_kind P a b c d FromPeer = d

pub each_reason : (P : Discard → Type 0) → P discard.NotServed → P discard.ByProgram → P discard.Malformed → P discard.NoRequest → P discard.NoAllocation
    → P discard.NoChannel → P discard.UnknownAttribute → P discard.Incomplete → P discard.NoPermission → P discard.OtherFamily → P discard.TooLong → P discard.Confined → (reason : Discard) → P reason
each_reason P a b c d e f g h i j k l discard.NotServed = a
each_reason P a b c d e f g h i j k l discard.ByProgram = b
each_reason P a b c d e f g h i j k l discard.Malformed = c
each_reason P a b c d e f g h i j k l discard.NoRequest = d
each_reason P a b c d e f g h i j k l discard.NoAllocation = e
each_reason P a b c d e f g h i j k l discard.NoChannel = f
each_reason P a b c d e f g h i j k l discard.UnknownAttribute = g
each_reason P a b c d e f g h i j k l discard.Incomplete = h
each_reason P a b c d e f g h i j k l discard.NoPermission = i
each_reason P a b c d e f g h i j k l discard.OtherFamily = j
each_reason P a b c d e f g h i j k l discard.TooLong = k
each_reason P a b c d e f g h i j k l discard.Confined = l

-- ---- the counter of an index

abbrev in_order : List Counter
in_order = counter.FromClients ∷ counter.FromPeers ∷ counter.ToPeers ∷ counter.ToClients ∷ counter.Granted ∷ counter.Challenged
    ∷ counter.Unauthenticated ∷ counter.Refused ∷ counter.Denied ∷ counter.SendFaults ∷ counter.ReceiveFaults ∷ discard_counters KINDS

abbrev counter_at : ℕ → Counter
counter_at i = get_or in_order i counter.FromClients

abbrev IsInOrder : Counter → Type 0
IsInOrder c = counter_at (counter_index c) ≡ c

discard_at : (kind : Kind) (reason : Discard) → IsInOrder (counter.Discarded kind reason)
discard_at kind reason = each_kind (λ k. IsInOrder (counter.Discarded k reason))
    (each_reason (λ r. IsInOrder (counter.Discarded ChannelData r)) refl refl refl refl refl refl refl refl refl refl refl refl reason)
    (each_reason (λ r. IsInOrder (counter.Discarded Message r)) refl refl refl refl refl refl refl refl refl refl refl refl reason)
    (each_reason (λ r. IsInOrder (counter.Discarded Other r)) refl refl refl refl refl refl refl refl refl refl refl refl reason)
    (each_reason (λ r. IsInOrder (counter.Discarded FromPeer r)) refl refl refl refl refl refl refl refl refl refl refl refl reason)
    kind

at_index : (c : Counter) → IsInOrder c
at_index counter.FromClients = refl
at_index counter.FromPeers = refl
at_index counter.ToPeers = refl
at_index counter.ToClients = refl
at_index counter.Granted = refl
at_index counter.Challenged = refl
at_index counter.Unauthenticated = refl
at_index counter.Refused = refl
at_index counter.Denied = refl
at_index counter.SendFaults = refl
at_index counter.ReceiveFaults = refl
at_index (counter.Discarded kind reason) = discard_at kind reason

pub same_counter : (c d : Counter) → counter_index c ≡ counter_index d → c ≡ d
same_counter c d same = sym (at_index c) ∙ ap counter_at same ∙ at_index d

-- ---- values

pub zeros : (n i : ℕ) → (let zero_at : ℕ = get_or (replicate n 0) i 0 in zero_at) ≡ 0
zeros zero i = refl
zeros (suc n) zero = refl
zeros (suc n) (suc i) = zeros n i

pub has_raised : (c : Counter) (old : Counters) (i value : ℕ) → i ≡ counter_index c → i < length old.values → value ≡ raised (get_or old.values i 0)
    → HasRaised c (counter_value old) (counter_value (record old { values = set old.values i value }))
has_raised c old i value at inside is =
    let this : get_or (set old.values i value) i 0 ≡ raised (get_or old.values i 0) = get_or-set_same old.values i value 0 inside ∙ is in
    record {
      this = let P : ℕ → Type 0 = λ k. get_or (set old.values i value) k 0 ≡ raised (get_or old.values k 0) in subst P at this;
      others = λ d other. get_or-set_other old.values i (counter_index d) value 0 (λ same. other (same_counter d c (same ∙ at)));
    }

-- ---- verdicts

-- at one index of a list a number is raised
record IsRaisedAt (i : ℕ) (old new : List ℕ) : Type 0 where
  this : get_or new i 0 ≡ raised (get_or old i 0)
  others : (k : ℕ) → k ≢ i → get_or new k 0 ≡ get_or old k 0

raised_at : (counts : List ℕ) (i value : ℕ) → i < length counts → value ≡ raised (get_or counts i 0) → IsRaisedAt i counts (set counts i value)
raised_at counts i value inside is = record {
  this = get_or-set_same counts i value 0 inside ∙ is;
  others = λ k other. get_or-set_other counts i k value 0 other;
}

pub by_side : (P : Side × ℕ → Type 0) → ((v : ℕ) → P (side.Client, v)) → ((v : ℕ) → P (side.Peer, v)) → (d : Side × ℕ) → P d
by_side P client peer (side.Client, v) = client v
by_side P client peer (side.Peer, v) = peer v

-- then the verdict of that index is counted, at the side whose list it is
module _ (verdict : ℕ) (old : Counters) (i value : ℕ) (at : i ≡ counted_verdict verdict) (side_is : Side) (ended : Option ℕ) (some : ended ≡ Some verdict) where
  abbrev HasCountedIn : Counters → Type 0
  HasCountedIn new = HasCountedVerdict side_is ended (verdict_value old) (verdict_value new)

  counted_at : (s : Side) (new : Counters) → side_is ≡ s → HasRaised (s, counted_verdict verdict) (verdict_value old) (verdict_value new) → HasCountedIn new
  counted_at s new same raised =
      subst (λ o. HasCountedVerdict side_is o (verdict_value old) (verdict_value new)) (sym some)
      (subst (λ t. HasRaised (t, counted_verdict verdict) (verdict_value old) (verdict_value new)) (sym same) raised)

  pub client_counted : side_is ≡ side.Client → i < length old.verdicts.client → value ≡ raised (get_or old.verdicts.client i 0)
      → HasCountedIn (record old { verdicts = record old.verdicts { client = set old.verdicts.client i value } })
  client_counted same inside is =
      let has = subst (λ k. IsRaisedAt k old.verdicts.client (set old.verdicts.client i value)) at (raised_at old.verdicts.client i value inside is) in
      counted_at side.Client (record old { verdicts = record old.verdicts { client = set old.verdicts.client i value } }) same (record {
        this = has.this;
        others = by_side _ (λ v other. has.others v (λ same. other (ap (λ (k : ℕ). (side.Client, k)) same))) (λ v other. refl);
      })

  pub peer_counted : side_is ≡ side.Peer → i < length old.verdicts.peer → value ≡ raised (get_or old.verdicts.peer i 0)
      → HasCountedIn (record old { verdicts = record old.verdicts { peer = set old.verdicts.peer i value } })
  peer_counted same inside is =
      let has = subst (λ k. IsRaisedAt k old.verdicts.peer (set old.verdicts.peer i value)) at (raised_at old.verdicts.peer i value inside is) in
      counted_at side.Peer (record old { verdicts = record old.verdicts { peer = set old.verdicts.peer i value } }) same (record {
        this = has.this;
        others = by_side _ (λ v other. refl) (λ v other. has.others v (λ same. other (ap (λ (k : ℕ). (side.Peer, k)) same)));
      })
