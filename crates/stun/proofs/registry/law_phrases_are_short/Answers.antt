use Rattle.std.proofs.Common.{◌≤◌, length, arith}
use Rattle.stun.specs.ErrorCodes.{phrase_of}
use Rattle.stun.specs.declared.registry.ErrorCode.{ErrorCode}
use Rattle.stun.specs.declared.registry.ErrorCode.TheVariants.{BadRequest, Unauthenticated, UnknownAttribute, AllocationMismatch, StaleNonce, AddressFamilyNotSupported, WrongCredentials, UnsupportedTransport, PeerAddressFamilyMismatch, InsufficientCapacity}
use Rattle.stun.proofs.registry.law_phrases_are_short.Goals as goal

short : (e : ErrorCode) → length (phrase_of e) ≤ 30
short BadRequest = omega arith
short Unauthenticated = omega arith
short UnknownAttribute = omega arith
short AllocationMismatch = omega arith
short StaleNonce = omega arith
short AddressFamilyNotSupported = omega arith
short WrongCredentials = omega arith
short UnsupportedTransport = omega arith
short PeerAddressFamilyMismatch = omega arith
short InsufficientCapacity = omega arith

pub returns : goal.returns
returns c = short
