-- The first bytes of a relay's room are a datagram.
use Rattle.std.proofs.Common.{◌<◌, ◌≤◌, ℕ, All, length-take, arith}
use Rattle.std.proofs.lemmas.List.Elements.{All-take}
use Rattle.machine.specs.Contents.{room_of}
use Rattle.semantics.specs.Runs.{IsDatagram}
use Rattle.semantics.specs.declared.limits.TheConstants.{MAX_DATAGRAM}
use Rattle.relay.specs.Relays.{RelayContents, datagram_at}

pub is_datagram : (r : RelayContents) (n : ℕ) → n ≤ MAX_DATAGRAM → All (λ b. b < 256) (room_of r.frame) → IsDatagram (datagram_at r n)
is_datagram r n short fit = record {
  short = omega (arith, length-take n (room_of r.frame), short);
  bytes_fit = All-take (λ b. b < 256) n (room_of r.frame) fit;
}
