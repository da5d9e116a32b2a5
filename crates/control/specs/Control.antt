-- Meaning. How requests are answered: credentials, then attributes that are not understood, then the tests of the
-- method in their order. The first that fails gives the error. Each test is one of RFC 8489, section 9.2.4, or RFC 8656,
-- sections 7, 8, 10 and 12; their order is this relay's own.
use Rattle.std.specs.Prelude.{ℕ, Bool, true, false, ◌&&◌, List, [], ◌∷◌, max, min, nat_eq, nat_lt, bytes_eq, Option, None, Some, option_and_then, is_some, unwrap_or, Result, Ok, Err, ok_or, if◌then◌else◌}
use Rattle.basics.specs.Fallible.{◌>>=◌, check}
use Rattle.stun.specs.Attributes.{values_of}
use Rattle.stun.specs.Messages.{Parts, message_of}
use Rattle.stun.specs.Ranges.{is_between}
use Rattle.stun.specs.declared.registry.attribute.TheConstants.{USERNAME, CHANNEL_NUMBER, LIFETIME, XOR_PEER_ADDRESS, REQUESTED_ADDRESS_FAMILY, REQUESTED_TRANSPORT}
use Rattle.stun.specs.declared.registry.family.TheConstants.{IPV4, IPV6}
use Rattle.stun.specs.declared.registry.ErrorCode.{ErrorCode}
use Rattle.stun.specs.declared.registry.ErrorCode.TheVariants.{BadRequest, Unauthenticated, UnknownAttribute, AllocationMismatch, StaleNonce, AddressFamilyNotSupported, WrongCredentials, UnsupportedTransport, PeerAddressFamilyMismatch, InsufficientCapacity}
use Rattle.addresses.specs.declared.address.Addr.{Addr}
use Rattle.attributes.specs.Addresses.{address_in}
use Rattle.addresses.specs.declared.address.Family.{Family}
use Rattle.addresses.specs.declared.address.Family.TheVariants.{Ipv4, Ipv6}
use Rattle.attributes.specs.Values.{number_of_value}
use Rattle.credentials.specs.Checks.{first_value}
use Rattle.credentials.specs.TimeLimited.{owner_of}
use Rattle.credentials.specs.declared.checking.AuthError.{AuthError}
use Rattle.credentials.specs.declared.checking.AuthError.TheVariants.{Missing, Incomplete, UnknownUser, WrongIntegrity, Expired}
use Rattle.credentials.specs.declared.checking.AuthError.TheVariants as auth
use Rattle.tables.specs.Rows.{Rows}
use Rattle.tables.specs.Channels.{is_none_or}
use Rattle.tables.specs.Changes.{Change}
use Rattle.tables.specs.Changes as tables
use Rattle.tables.specs.Counts.{allocations_of}
use Rattle.tables.specs.LookUps.{allocation_of}
use Rattle.tables.specs.declared.allocation.Allocation.{Allocation}
use Rattle.tables.specs.declared.channels.TheConstants.{FIRST_CHANNEL, LAST_CHANNEL}
use Rattle.tables.specs.declared.refusal.TableError.{TableError}
use Rattle.tables.specs.declared.refusal.TableError.TheVariants.{Mismatch, Capacity, Conflict, NoAllocation}
use Rattle.tables.specs.declared.refusal.TableError.TheVariants as refusal
use Rattle.control.specs.declared.config.Config.{Config}
use Rattle.control.specs.Unknown.{unknown_types}
use Rattle.control.specs.Values.{optional_value, required_value}
use Rattle.control.specs.declared.allocate.TheConstants.{UDP}
use Rattle.control.specs.declared.lifetime.TheConstants.{MIN_LIFETIME, MAX_LIFETIME}
use Rattle.control.specs.declared.reply.Grant.{Grant}
use Rattle.control.specs.declared.reply.Grant.TheVariants.{Mapped, Allocated, Refreshed, Done}
use Rattle.control.specs.declared.request.TurnRequest.{TurnRequest}
use Rattle.control.specs.declared.request.TurnRequest.TheVariants as turn

-- what is granted, with new rows where they change, or the error
abbrev pub Decision : Type 0
Decision = Result (Grant × Option Rows) ErrorCode

-- what is granted, without the rows
abbrev pub grant_of : Decision → Result Grant ErrorCode
grant_of (Ok given) = Ok given.0
grant_of (Err error) = Err error

abbrev pub rows_after : Rows → Option Rows → Rows
rows_after rows None = rows
rows_after rows (Some changed) = changed

-- the rows afterwards: an error changes nothing
abbrev pub rows_of : Rows → Decision → Rows
rows_of rows (Ok given) = rows_after rows given.1
rows_of rows (Err error) = rows

-- the error of a refused change
abbrev pub error_of : TableError → ErrorCode
error_of Mismatch = AllocationMismatch
error_of Capacity = InsufficientCapacity
error_of Conflict = BadRequest
error_of NoAllocation = AllocationMismatch
error_of refusal.Family = PeerAddressFamilyMismatch

abbrev pub result_of_change : {A : Type 0} → Change A → Result (A × Option Rows) ErrorCode
result_of_change (Ok made) = Ok (made.0, Some made.1)
result_of_change (Err refused) = Err (error_of refused)

-- ---- values

-- the lifetime that is given, in seconds, where one or none is requested
abbrev pub lifetime_for : Option ℕ → ℕ
lifetime_for None = MIN_LIFETIME
lifetime_for (Some requested) = max MIN_LIFETIME (min requested MAX_LIFETIME)

abbrev pub requested_lifetime : Parts → Result (Option ℕ) ErrorCode
requested_lifetime p = optional_value (number_of_value 4) (first_value p LIFETIME)

abbrev pub requested_family : Parts → Result (Option ℕ) ErrorCode
requested_family p = optional_value (number_of_value 1) (first_value p REQUESTED_ADDRESS_FAMILY)

-- the number of a family (RFC 8656, section 18.6), and the family of a number
abbrev pub family_number : Family → ℕ
family_number Ipv4 = IPV4
family_number Ipv6 = IPV6

abbrev pub family_numbered : ℕ → Option Family
family_numbered n = if nat_eq n IPV4 then Some Ipv4 else (if nat_eq n IPV6 then Some Ipv6 else None)

-- whether the relay gives relayed addresses of a family
abbrev pub gives_family : Config → Family → Bool
gives_family config Ipv4 = true
gives_family config Ipv6 = is_some config.ip6

abbrev pub offered : Config → Family → Option Family
offered config family = if gives_family config family then Some family else None

-- the family that is given, where one or none is requested
abbrev pub family_for : Config → Option ℕ → Option Family
family_for config None = Some Ipv4
family_for config (Some n) = option_and_then (offered config) (family_numbered n)

-- ---- Allocate (RFC 8656, section 7)

-- a repeated request gets the first success again
abbrev pub is_repeated : Allocation → ℕ → Parts → Bool
is_repeated a user p = bytes_eq a.tx p.tx && nat_eq a.user user

-- the family and the lifetime to give, where all values can be granted
abbrev pub acceptable : Config → Parts → Result (Family × ℕ) ErrorCode
acceptable config p = do
  transport ← required_value (number_of_value 1) (first_value p REQUESTED_TRANSPORT)
  _ ← check (nat_eq transport UDP) UnsupportedTransport
  requested ← requested_family p
  family ← ok_or (family_for config requested) AddressFamilyNotSupported
  seconds ← requested_lifetime p
  Ok (family, lifetime_for seconds)

-- whose allocations this one is counted with, by the name that the request gives
abbrev pub owner_in : Parts → List ℕ
owner_in p = owner_of (unwrap_or (first_value p USERNAME) [])

-- whether who has so many allocations may have a further one: there is no quota, or it isn't used up
abbrev pub has_quota : Option ℕ → ℕ → Bool
has_quota None count = true
has_quota (Some quota) count = nat_lt count quota

-- with the family and the lifetime that are given
abbrev pub allocate_given : Addr → ℕ → Parts → Family × ℕ → Rows → Decision
allocate_given client user p given rows = do
  made ← result_of_change (tables.allocation_change client user (owner_in p) p.tx given.0 given.1 rows)
  Ok (Allocated given.0 made.0 given.1, made.1)

abbrev pub allocate_anew : Config → Addr → ℕ → Parts → Rows → Decision
allocate_anew config client user p rows = do
  given ← acceptable config p
  _ ← check (has_quota config.user_slots (allocations_of (owner_in p) rows)) InsufficientCapacity
  allocate_given client user p given rows

-- where the client has no allocation, and where it has one, which a repeated request leaves as it is
abbrev pub allocate_beside : Config → Option Allocation → Addr → ℕ → Parts → Rows → Decision
allocate_beside config None client user p rows = allocate_anew config client user p rows
allocate_beside config (Some a) client user p rows = do
  _ ← check (is_repeated a user p) AllocationMismatch
  Ok (Allocated a.family a.slot a.lifetime, None)

abbrev pub allocate_decision : Config → Addr → ℕ → Parts → Rows → Decision
allocate_decision config client user p rows = allocate_beside config (allocation_of client rows) client user p rows

-- ---- Refresh (section 8)

-- the client's allocation, which must be the user's
abbrev pub own_allocation : Addr → ℕ → Rows → Result Allocation ErrorCode
own_allocation client user rows = do
  a ← ok_or (allocation_of client rows) AllocationMismatch
  _ ← check (nat_eq a.user user) WrongCredentials
  Ok a

-- a lifetime of 0 is given as it is requested: it deletes the allocation
abbrev pub refresh_for : Option ℕ → ℕ
refresh_for None = lifetime_for None
refresh_for (Some requested) = if nat_eq requested 0 then 0 else lifetime_for (Some requested)

abbrev pub refresh_decision : Addr → ℕ → Parts → Rows → Decision
refresh_decision client user p rows = do
  a ← own_allocation client user rows
  family ← requested_family p
  _ ← check (is_none_or (nat_eq (family_number a.family)) family) PeerAddressFamilyMismatch
  requested ← requested_lifetime p
  made ← result_of_change (tables.refresh_change a.slot (refresh_for requested) rows)
  Ok (Refreshed (refresh_for requested), made.1)

-- ---- CreatePermission (section 10)

abbrev pub first_and_rest : Option Addr → Option (List Addr) → Option (List Addr)
first_and_rest None addresses = None
first_and_rest (Some a) None = None
first_and_rest (Some a) (Some addresses) = Some (a ∷ addresses)

-- all addresses of a request, if each is well formed
abbrev pub addresses_in : List ℕ → List (List ℕ) → Option (List Addr)
addresses_in tx [] = Some []
addresses_in tx (value ∷ values) = first_and_rest (address_in tx value) (addresses_in tx values)

-- the addresses, of which there must be one
abbrev pub some_addresses : Option (List Addr) → Result (List Addr) ErrorCode
some_addresses None = Err BadRequest
some_addresses (Some []) = Err BadRequest
some_addresses (Some (peer ∷ peers)) = Ok (peer ∷ peers)

-- the addresses of a request
abbrev pub peers_in : Parts → Result (List Addr) ErrorCode
peers_in p = some_addresses (addresses_in p.tx (values_of XOR_PEER_ADDRESS (message_of p).attributes))

abbrev pub create_permission : Addr → ℕ → Parts → Rows → Decision
create_permission client user p rows = do
  a ← own_allocation client user rows
  peers ← peers_in p
  made ← result_of_change (tables.permit_change a.slot peers rows)
  Ok (Done, made.1)

-- ---- ChannelBind (section 12)

abbrev pub channel_bind : Addr → ℕ → Parts → Rows → Decision
channel_bind client user p rows = do
  a ← own_allocation client user rows
  number ← required_value (number_of_value 2) (first_value p CHANNEL_NUMBER)
  peer ← required_value (address_in p.tx) (first_value p XOR_PEER_ADDRESS)
  _ ← check (is_between FIRST_CHANNEL LAST_CHANNEL number) BadRequest
  made ← result_of_change (tables.bind_change a.slot number peer rows)
  Ok (Done, made.1)

-- ---- all requests

-- the error of credentials that are refused
abbrev pub refused_credentials : AuthError → ErrorCode
refused_credentials Missing = Unauthenticated
refused_credentials Incomplete = BadRequest
refused_credentials auth.StaleNonce = StaleNonce
refused_credentials UnknownUser = Unauthenticated
refused_credentials WrongIntegrity = Unauthenticated
refused_credentials Expired = Unauthenticated

abbrev pub user_or_error : Result ℕ AuthError → Result ℕ ErrorCode
user_or_error (Ok user) = Ok user
user_or_error (Err e) = Err (refused_credentials e)

abbrev pub is_empty : List ℕ → Bool
is_empty [] = true
is_empty (kind ∷ kinds) = false

-- whether all attributes are understood
abbrev pub all_understood : Parts → Bool
all_understood p = is_empty (unknown_types p)

abbrev pub attribute_test : Parts → Result (Unit {0}) ErrorCode
attribute_test p = check (all_understood p) UnknownAttribute

-- a request of TURN of a user whose credentials were accepted
abbrev pub decision_for_user : TurnRequest → Config → Addr → ℕ → Parts → Rows → Decision
decision_for_user turn.Allocate config client user p rows = allocate_decision config client user p rows
decision_for_user turn.Refresh config client user p rows = refresh_decision client user p rows
decision_for_user turn.CreatePermission config client user p rows = create_permission client user p rows
decision_for_user turn.ChannelBind config client user p rows = channel_bind client user p rows

-- where all attributes are understood
abbrev pub decision_if_understood : TurnRequest → Config → Addr → ℕ → Parts → Rows → Decision
decision_if_understood r config client user p rows = do
  _ ← attribute_test p
  decision_for_user r config client user p rows

-- with the result of the check of the credentials
abbrev pub decision : TurnRequest → Result ℕ AuthError → Config → Addr → Parts → Rows → Decision
decision r checked config client p rows = do
  user ← user_or_error checked
  decision_if_understood r config client user p rows

-- Binding (RFC 8489, section 12), which needs no credentials
abbrev pub binding : Parts → Decision
binding p = do
  _ ← attribute_test p
  Ok (Mapped, None)
