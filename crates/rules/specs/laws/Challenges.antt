-- Interface. No request whose credentials are accepted is answered with a challenge.
use Rattle.std.proofs.Common.{ℕ, Bool, true, false, List, [], ◌∷◌}
use Rattle.std.specs.Prelude.{Option, None, Some, option_map, nat_eq, Result, Ok, Err, IfErr, ok_or}
use Rattle.stun.specs.Messages.{Parts}
use Rattle.stun.specs.Ranges.{is_between}
use Rattle.stun.specs.declared.registry.attribute.TheConstants.{CHANNEL_NUMBER, LIFETIME, REQUESTED_ADDRESS_FAMILY, REQUESTED_TRANSPORT, XOR_PEER_ADDRESS}
use Rattle.stun.specs.declared.registry.ErrorCode.{ErrorCode}
use Rattle.stun.specs.declared.registry.ErrorCode.TheVariants.{BadRequest, Unauthenticated, UnknownAttribute, AllocationMismatch, StaleNonce, AddressFamilyNotSupported, WrongCredentials, UnsupportedTransport, PeerAddressFamilyMismatch, InsufficientCapacity}
use Rattle.attributes.specs.Addresses.{address_in}
use Rattle.attributes.specs.Values.{number_of_value}
use Rattle.addresses.specs.declared.address.Addr.{Addr}
use Rattle.credentials.specs.Checks.{first_value}
use Rattle.control.specs.Control.{acceptable, all_understood, allocate_beside, attribute_test, channel_bind, create_permission, decision_for_user, decision_if_understood, family_for, family_number, has_quota, is_repeated, owner_in, own_allocation, peers_in, refresh_decision, refresh_for, requested_family, requested_lifetime, result_of_change, some_addresses}
use Rattle.control.specs.Values.{optional_value, required_value}
use Rattle.control.specs.declared.allocate.TheConstants.{UDP}
use Rattle.control.specs.declared.config.Config.{Config}
use Rattle.control.specs.declared.request.TurnRequest.{TurnRequest}
use Rattle.control.specs.declared.request.TurnRequest.TheVariants as turn
use Rattle.basics.specs.Fallible.{◌>>=◌, check}
use Rattle.tables.specs.Changes.{Change, allocation_change, bind_change, permit_change, refresh_change}
use Rattle.tables.specs.Channels.{is_none_or}
use Rattle.tables.specs.Counts.{allocations_of}
use Rattle.tables.specs.LookUps.{allocation_of}
use Rattle.tables.specs.Rows.{Rows}
use Rattle.tables.specs.declared.allocation.Allocation.{Allocation}
use Rattle.tables.specs.declared.channels.TheConstants.{FIRST_CHANNEL, LAST_CHANNEL}
use Rattle.tables.specs.declared.refusal.TableError.TheVariants as refusal

-- an error without the realm and the nonce
abbrev pub IsNoChallenge : ErrorCode → Type 0
IsNoChallenge Unauthenticated = ⊥
IsNoChallenge StaleNonce = ⊥
IsNoChallenge BadRequest = Unit {0}
IsNoChallenge UnknownAttribute = Unit {0}
IsNoChallenge AllocationMismatch = Unit {0}
IsNoChallenge AddressFamilyNotSupported = Unit {0}
IsNoChallenge WrongCredentials = Unit {0}
IsNoChallenge UnsupportedTransport = Unit {0}
IsNoChallenge PeerAddressFamilyMismatch = Unit {0}
IsNoChallenge InsufficientCapacity = Unit {0}

abbrev pub GivesNoChallenge : {A : Type 0} → Result A ErrorCode → Type 0
GivesNoChallenge result = IfErr result IsNoChallenge

-- ---- steps

then : {A B : Type 0} (result : Result A ErrorCode) (f : A → Result B ErrorCode) → GivesNoChallenge result → ((x : A) → GivesNoChallenge (f x))
    → GivesNoChallenge (result >>= f)
then (Ok x) f none each = each x
then (Err error) f none each = none

tested : (b : Bool) (error : ErrorCode) → IsNoChallenge error → GivesNoChallenge (check b error)
tested true error none = tt
tested false error none = none

found : {A : Type 0} (o : Option A) (error : ErrorCode) → IsNoChallenge error → GivesNoChallenge (ok_or o error)
found None error none = none
found (Some x) error none = tt

optional : {A : Type 0} (parse : List ℕ → Option A) (value : Option (List ℕ)) → GivesNoChallenge (optional_value parse value)
optional parse None = tt
optional parse (Some value) = found (option_map Some (parse value)) BadRequest tt

required : {A : Type 0} (parse : List ℕ → Option A) (value : Option (List ℕ)) → GivesNoChallenge (required_value parse value)
required parse None = tt
required parse (Some value) = found (parse value) BadRequest tt

changed : {A : Type 0} (change : Change A) → GivesNoChallenge (result_of_change change)
changed (Ok made) = tt
changed (Err refusal.Mismatch) = tt
changed (Err refusal.Capacity) = tt
changed (Err refusal.Conflict) = tt
changed (Err refusal.NoAllocation) = tt
changed (Err refusal.Family) = tt

some_found : (addresses : Option (List Addr)) → GivesNoChallenge (some_addresses addresses)
some_found None = tt
some_found (Some []) = tt
some_found (Some (peer ∷ peers)) = tt

-- ---- requests

module _ (config : Config) (client : Addr) (user : ℕ) (p : Parts) (rows : Rows) where
  family_gives : GivesNoChallenge (requested_family p)
  family_gives = optional (number_of_value 1) (first_value p REQUESTED_ADDRESS_FAMILY)

  lifetime_gives : GivesNoChallenge (requested_lifetime p)
  lifetime_gives = optional (number_of_value 4) (first_value p LIFETIME)

  acceptable_gives : GivesNoChallenge (acceptable config p)
  acceptable_gives =
      then (required_value (number_of_value 1) (first_value p REQUESTED_TRANSPORT)) _ (required (number_of_value 1) (first_value p REQUESTED_TRANSPORT)) (λ transport.
      then (check (nat_eq transport UDP) UnsupportedTransport) _ (tested (nat_eq transport UDP) UnsupportedTransport tt) (λ _.
      then (requested_family p) _ family_gives (λ requested.
      then (ok_or (family_for config requested) AddressFamilyNotSupported) _ (found (family_for config requested) AddressFamilyNotSupported tt) (λ family.
      then (requested_lifetime p) _ lifetime_gives (λ seconds. tt)))))

  allocate_gives : (o : Option Allocation) → GivesNoChallenge (allocate_beside config o client user p rows)
  allocate_gives None =
      then (acceptable config p) _ acceptable_gives (λ given.
      then (check (has_quota config.user_slots (allocations_of (owner_in p) rows)) InsufficientCapacity) _ (tested _ InsufficientCapacity tt) (λ _.
      then (result_of_change (allocation_change client user (owner_in p) p.tx given.0 given.1 rows)) _ (changed _) (λ made. tt)))
  allocate_gives (Some a) = then (check (is_repeated a user p) AllocationMismatch) _ (tested (is_repeated a user p) AllocationMismatch tt) (λ _. tt)

  own_gives : GivesNoChallenge (own_allocation client user rows)
  own_gives =
      then (ok_or (allocation_of client rows) AllocationMismatch) _ (found (allocation_of client rows) AllocationMismatch tt) (λ a.
      then (check (nat_eq a.user user) WrongCredentials) _ (tested (nat_eq a.user user) WrongCredentials tt) (λ _. tt))

  refresh_gives : GivesNoChallenge (refresh_decision client user p rows)
  refresh_gives =
      then (own_allocation client user rows) _ own_gives (λ a.
      then (requested_family p) _ family_gives (λ family.
      then (check (is_none_or (nat_eq (family_number a.family)) family) PeerAddressFamilyMismatch) _ (tested _ PeerAddressFamilyMismatch tt) (λ _.
      then (requested_lifetime p) _ lifetime_gives (λ requested.
      then (result_of_change (refresh_change a.slot (refresh_for requested) rows)) _ (changed _) (λ made. tt)))))

  permission_gives : GivesNoChallenge (create_permission client user p rows)
  permission_gives =
      then (own_allocation client user rows) _ own_gives (λ a.
      then (peers_in p) _ (some_found _) (λ peers.
      then (result_of_change (permit_change a.slot peers rows)) _ (changed _) (λ made. tt)))

  bind_gives : GivesNoChallenge (channel_bind client user p rows)
  bind_gives =
      then (own_allocation client user rows) _ own_gives (λ a.
      then (required_value (number_of_value 2) (first_value p CHANNEL_NUMBER)) _ (required (number_of_value 2) (first_value p CHANNEL_NUMBER)) (λ number.
      then (required_value (address_in p.tx) (first_value p XOR_PEER_ADDRESS)) _ (required (address_in p.tx) (first_value p XOR_PEER_ADDRESS)) (λ peer.
      then (check (is_between FIRST_CHANNEL LAST_CHANNEL number) BadRequest) _ (tested _ BadRequest tt) (λ _.
      then (result_of_change (bind_change a.slot number peer rows)) _ (changed _) (λ made. tt)))))

  user_gives : (r : TurnRequest) → GivesNoChallenge (decision_for_user r config client user p rows)
  user_gives turn.Allocate = allocate_gives (allocation_of client rows)
  user_gives turn.Refresh = refresh_gives
  user_gives turn.CreatePermission = permission_gives
  user_gives turn.ChannelBind = bind_gives

  pub no_challenge : (r : TurnRequest) → GivesNoChallenge (decision_if_understood r config client user p rows)
  no_challenge r = then (attribute_test p) _ (tested (all_understood p) UnknownAttribute tt) (λ _. user_gives r)
