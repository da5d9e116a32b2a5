-- Meaning. What is counted of datagrams that came, by their kinds (RFC 8656, section 12), and of what became of them.
use Rattle.std.specs.Prelude.{◌≡◌, ◌≢◌, ℕ, ◌+◌, ◌<◌, ◌-◌, ◌^◌, min, List, [], ◌∷◌, ◌++◌, length, map, Option, None, Some, if◌then◌else◌}
use Rattle.std.specs.List.{sum_by}
use Rattle.machine.specs.declared.context.Side.{Side}
use Rattle.server.specs.declared.counters.TheConstants.{KINDS, REASONS}
use Rattle.server.specs.declared.counters.Counter.{Counter}
use Rattle.server.specs.declared.counters.Counter.TheVariants as counter
use Rattle.server.specs.declared.counters.Kind.{Kind}
use Rattle.server.specs.declared.counters.Kind.TheVariants.{ChannelData, Message, Other, FromPeer}
use Rattle.server.specs.declared.counters.TurnOutcome.{TurnOutcome}
use Rattle.server.specs.declared.counters.TurnOutcome.TheVariants as outcome
use Rattle.credentials.specs.declared.checking.AuthError.TheVariants as auth
use Rattle.rules.specs.declared.disposition.Disposition.TheVariants.{Relayed, Answered, Discarded}
use Rattle.server.specs.declared.link.Place.{Place}
use Rattle.server.specs.declared.link.Place.TheVariants.{Client, Slot}
use Rattle.control.specs.declared.response.Response.{Response}
use Rattle.control.specs.declared.response.Response.TheVariants as response
use Rattle.rules.specs.FastPart.{begins_as_stun, begins_as_channel_data}

-- ---- kinds

-- by the first two bits (RFC 8656, section 12), as the rules take it
abbrev pub client_kind : List ℕ → Kind
client_kind datagram = if begins_as_stun datagram then Message else if begins_as_channel_data datagram then ChannelData else Other

abbrev pub datagram_kind : Place → List ℕ → Kind
datagram_kind Client datagram = client_kind datagram
datagram_kind (Slot slot) datagram = FromPeer

-- ---- the two counters of a datagram

-- it came
abbrev pub arrival_counter : Kind → Counter
arrival_counter ChannelData = counter.FromClients
arrival_counter Message = counter.FromClients
arrival_counter Other = counter.FromClients
arrival_counter FromPeer = counter.FromPeers

abbrev pub relayed_counter : Kind → Counter
relayed_counter ChannelData = counter.ToPeers
relayed_counter Message = counter.ToPeers
relayed_counter Other = counter.ToPeers
relayed_counter FromPeer = counter.ToClients

-- an error for credentials that are wrong, missing or no longer valid, and any other error
abbrev pub response_counter : Response → Counter
response_counter (response.Granted grant) = counter.Granted
response_counter (response.Unauthenticated auth.Missing) = counter.Challenged
response_counter (response.Unauthenticated auth.StaleNonce) = counter.Challenged
response_counter (response.Unauthenticated auth.UnknownUser) = counter.Unauthenticated
response_counter (response.Unauthenticated auth.WrongIntegrity) = counter.Unauthenticated
response_counter (response.Unauthenticated auth.Expired) = counter.Unauthenticated
response_counter (response.Unauthenticated auth.Incomplete) = counter.Refused
response_counter (response.Refused error) = counter.Refused

-- this became of it
abbrev pub outcome_counter : Kind → TurnOutcome → Counter
outcome_counter kind (outcome.Done Relayed) = relayed_counter kind
outcome_counter kind (outcome.Done (Answered response)) = response_counter response
outcome_counter kind (outcome.Done (Discarded reason)) = counter.Discarded kind reason
outcome_counter kind outcome.Denied = counter.Denied
outcome_counter kind outcome.SendFailed = counter.SendFaults

-- ---- counting

-- a counter stays at the greatest number that it can have
abbrev pub raised : ℕ → ℕ
raised value = min (value + 1) (2 ^ 64 - 1)

-- of counters by name, one is raised, and no other one changes
pub record HasRaised {Name : Type 0} (c : Name) (old new : Name → ℕ) : Type 0 where
  pub this : new c ≡ raised (old c)
  pub others : (d : Name) → d ≢ c → new d ≡ old d

-- the two counters of a datagram are raised, and no other one changes
pub record HasCounted (kind : Kind) (o : TurnOutcome) (old new : Counter → ℕ) : Type 0 where
  pub arrival : new (arrival_counter kind) ≡ raised (old (arrival_counter kind))
  pub became : new (outcome_counter kind o) ≡ raised (old (outcome_counter kind o))
  pub others : (c : Counter) → c ≢ arrival_counter kind → c ≢ outcome_counter kind o → new c ≡ old c

-- datagrams were counted, one after the other
abbrev pub HaveCounted : List (Kind × TurnOutcome) → (Counter → ℕ) → (Counter → ℕ) → Type 0
HaveCounted [] old new = (c : Counter) → new c ≡ old c
HaveCounted ((kind, o) ∷ rest) old new = (next : Counter → ℕ) × HasCounted kind o old next × HaveCounted rest next new

-- ---- verdicts

-- each up to 15 is counted on its own, and all from 16 on together
abbrev pub counted_verdict : ℕ → ℕ
counted_verdict verdict = min verdict 16

-- where a program of a side ended with a verdict, that one is raised
abbrev pub HasCountedVerdict : Side → Option ℕ → (Side × ℕ → ℕ) → (Side × ℕ → ℕ) → Type 0
HasCountedVerdict side None old new = (v : Side × ℕ) → new v ≡ old v
HasCountedVerdict side (Some verdict) old new = HasRaised (side, counted_verdict verdict) old new

-- ---- the sums of counters

abbrev pub arrival_counters : List Counter
arrival_counters = counter.FromClients ∷ counter.FromPeers ∷ []

abbrev pub discard_counters : List Kind → List Counter
discard_counters [] = []
discard_counters (kind ∷ kinds) = map (counter.Discarded kind) REASONS ++ discard_counters kinds

abbrev pub outcome_counters : List Counter
outcome_counters = counter.ToPeers ∷ counter.ToClients ∷ counter.Granted ∷ counter.Challenged ∷ counter.Unauthenticated ∷ counter.Refused
    ∷ counter.Denied ∷ counter.SendFaults ∷ discard_counters KINDS

-- Where all counters were 0, and fewer than 2^64 datagrams were counted, those that came add up to their number, and so do
-- those by what became of them.
abbrev pub CountsEachOnce : Type 0
CountsEachOnce = (datagrams : List (Kind × TurnOutcome)) (old new : Counter → ℕ) → ((c : Counter) → old c ≡ 0) → length datagrams < 2 ^ 64
    → HaveCounted datagrams old new
    → (sum_by new arrival_counters ≡ length datagrams) × (sum_by new outcome_counters ≡ length datagrams)
