-- Meaning. Replies: their attributes in order, and their bytes.
use Rattle.std.specs.Prelude.{ℕ, ◌+◌, List, [], ◌∷◌, replicate, Option, None, Some, Result, Ok, Err, string_bytes}
use Rattle.stun.specs.Endian.{big_bytes}
use Rattle.stun.specs.Messages.{Attribute, Parts, empty_message, with_attribute}
use Rattle.stun.specs.Types.{type_number}
use Rattle.stun.specs.declared.registry.Class.{Class}
use Rattle.stun.specs.declared.registry.ErrorCode.{ErrorCode}
use Rattle.stun.specs.declared.registry.ErrorCode.TheVariants.{BadRequest, Unauthenticated, UnknownAttribute, AllocationMismatch, StaleNonce, AddressFamilyNotSupported, WrongCredentials, UnsupportedTransport, PeerAddressFamilyMismatch, InsufficientCapacity}
use Rattle.stun.specs.declared.registry.Class.TheVariants as class
use Rattle.stun.specs.declared.registry.MessageType.{MessageType}
use Rattle.stun.specs.declared.registry.Method.{Method}
use Rattle.stun.specs.declared.registry.Method.TheVariants as method
use Rattle.stun.specs.declared.registry.attribute.TheConstants.{ERROR_CODE, UNKNOWN_ATTRIBUTES, LIFETIME, REALM, NONCE, XOR_RELAYED_ADDRESS, XOR_MAPPED_ADDRESS}
use Rattle.attributes.specs.Addresses.{address_value}
use Rattle.attributes.specs.Errors.{error_value, unknown_value}
use Rattle.addresses.specs.declared.address.Addr.{Addr}
use Rattle.addresses.specs.declared.address.Addr.TheVariants.{V4, V6}
use Rattle.addresses.specs.declared.address.Family.{Family}
use Rattle.addresses.specs.declared.address.Family.TheVariants.{Ipv4, Ipv6}
use Rattle.credentials.specs.Signs.{with_integrity}
use Rattle.control.specs.Unknown.{unknown_types}
use Rattle.control.specs.declared.config.Config.{Config}
use Rattle.control.specs.declared.reply.Grant.{Grant}
use Rattle.control.specs.declared.reply.Grant.TheVariants as grant
use Rattle.control.specs.declared.request.Request.{Request}
use Rattle.control.specs.declared.request.Request.TheVariants as request
use Rattle.control.specs.declared.request.TurnRequest.TheVariants as turn

abbrev pub attribute : ℕ → List ℕ → Attribute
attribute kind value = record { kind = kind; value = value }

-- the relayed address of a family at a slot; one of IPv6 is given where the relay has an address of IPv6 alone
abbrev pub ip6_of : Option (List ℕ) → List ℕ
ip6_of (Some ip) = ip
ip6_of None = replicate 16 0

abbrev pub relayed_address : Config → Family → ℕ → Addr
relayed_address config Ipv4 slot = V4 config.ip (config.first_port + slot)
relayed_address config Ipv6 slot = V6 (ip6_of config.ip6) (config.first_port + slot)

-- the attributes of a success response
abbrev pub grant_attributes : Config → Addr → List ℕ → Grant → List Attribute
grant_attributes config client tx grant.Mapped = attribute XOR_MAPPED_ADDRESS (address_value client tx) ∷ []
grant_attributes config client tx (grant.Allocated family slot lifetime) =
    attribute XOR_RELAYED_ADDRESS (address_value (relayed_address config family slot) tx)
    ∷ attribute LIFETIME (big_bytes 4 lifetime)
    ∷ attribute XOR_MAPPED_ADDRESS (address_value client tx)
    ∷ []
grant_attributes config client tx (grant.Refreshed lifetime) = attribute LIFETIME (big_bytes 4 lifetime) ∷ []
grant_attributes config client tx grant.Done = []

-- the challenge to a client: the realm and the nonce (RFC 8489, section 9.2.4)
abbrev pub challenge : Config → List Attribute
challenge config = attribute REALM (string_bytes config.realm) ∷ attribute NONCE config.nonce.bytes ∷ []

-- the attributes after ERROR-CODE
abbrev pub error_details : Config → Parts → ErrorCode → List Attribute
error_details config p Unauthenticated = challenge config
error_details config p StaleNonce = challenge config
error_details config p UnknownAttribute = attribute UNKNOWN_ATTRIBUTES (unknown_value (unknown_types p)) ∷ []
error_details config p BadRequest = []
error_details config p AllocationMismatch = []
error_details config p AddressFamilyNotSupported = []
error_details config p WrongCredentials = []
error_details config p UnsupportedTransport = []
error_details config p PeerAddressFamilyMismatch = []
error_details config p InsufficientCapacity = []

-- the attributes of an error response
abbrev pub error_attributes : Config → Parts → ErrorCode → List Attribute
error_attributes config p error = attribute ERROR_CODE (error_value error) ∷ error_details config p error

-- a message of a type and an id with these attributes, in their order
abbrev pub with_attributes : Parts → List Attribute → Parts
with_attributes p [] = p
with_attributes p (a ∷ rest) = with_attributes (with_attribute p a.kind a.value) rest

-- it is signed where there is a key
abbrev pub signed_if : Option (List ℕ) → Parts → Parts
signed_if None p = p
signed_if (Some key) p = with_integrity key p

abbrev pub method_of : Request → Method
method_of request.Binding = method.Binding
method_of (request.Turn turn.Allocate) = method.Allocate
method_of (request.Turn turn.Refresh) = method.Refresh
method_of (request.Turn turn.CreatePermission) = method.CreatePermission
method_of (request.Turn turn.ChannelBind) = method.ChannelBind

-- the type of a request, or of a reply to it, and its number
abbrev pub type_of : Request → Class → MessageType
type_of r class = record { method = method_of r; class = class }

abbrev pub kind_of : Request → Class → ℕ
kind_of r class = type_number (type_of r class)

-- the reply to a request
abbrev pub reply : Request → Class → List ℕ → List Attribute → Option (List ℕ) → Parts
reply r class tx attributes key = signed_if key (with_attributes (empty_message (kind_of r class) tx) attributes)

-- the reply that gives a grant or an error
abbrev pub reply_to : Config → Request → Addr → Parts → Option (List ℕ) → Result Grant ErrorCode → Parts
reply_to config r client p key (Ok grant) = reply r class.Success p.tx (grant_attributes config client p.tx grant) key
reply_to config r client p key (Err error) = reply r class.Error p.tx (error_attributes config p error) key
