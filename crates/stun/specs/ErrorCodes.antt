-- Meaning. The errors: their codes (RFC 8489, section 18.4; RFC 8656, section 19) and the phrases of this relay.
use Rattle.std.specs.Prelude.{ℕ, List, codes}
use Rattle.stun.specs.declared.registry.ErrorCode.{ErrorCode}
use Rattle.stun.specs.declared.registry.ErrorCode.TheVariants.{BadRequest, Unauthenticated, UnknownAttribute, AllocationMismatch, StaleNonce, AddressFamilyNotSupported, WrongCredentials, UnsupportedTransport, PeerAddressFamilyMismatch, InsufficientCapacity}

abbrev pub number_of_error : ErrorCode → ℕ
number_of_error BadRequest = 400
number_of_error Unauthenticated = 401
number_of_error UnknownAttribute = 420
number_of_error AllocationMismatch = 437
number_of_error StaleNonce = 438
number_of_error AddressFamilyNotSupported = 440
number_of_error WrongCredentials = 441
number_of_error UnsupportedTransport = 442
number_of_error PeerAddressFamilyMismatch = 443
number_of_error InsufficientCapacity = 508

-- a phrase has at most 30 bytes
abbrev pub phrase_of : ErrorCode → List ℕ
phrase_of BadRequest = codes "Bad Request"
phrase_of Unauthenticated = codes "Unauthenticated"
phrase_of UnknownAttribute = codes "Unknown Attribute"
phrase_of AllocationMismatch = codes "Allocation Mismatch"
phrase_of StaleNonce = codes "Stale Nonce"
phrase_of AddressFamilyNotSupported = codes "Address Family not Supported"
phrase_of WrongCredentials = codes "Wrong Credentials"
phrase_of UnsupportedTransport = codes "Unsupported Transport Protocol"
phrase_of PeerAddressFamilyMismatch = codes "Peer Address Family Mismatch"
phrase_of InsufficientCapacity = codes "Insufficient Capacity"
