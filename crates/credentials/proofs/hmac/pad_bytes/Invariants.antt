use Rattle.std.proofs.Common.{◌≡◌, ◌++◌, take, drop}
use Rattle.credentials.specs.Hmac.{block_with_pad}
use Rattle.credentials.proofs.hmac.pad_bytes.Given as goal

abbrev pub invariant-loop-byte : goal.invariant-loop-byte
invariant-loop-byte l = l.bytes ≡ block_with_pad l.pad (take l.byte-index l.initial.bytes) ++ drop l.byte-index l.initial.bytes
