-- The digits so far.
use Rattle.std.proofs.Common.{◌≡◌, length, true}
use Rattle.std.specs.List.{list_all}
use Rattle.server.specs.Nonces.{is_digit}
use Rattle.server.proofs.nonce.draw_nonce.Given as goal

abbrev pub invariant-loop : goal.invariant-loop
invariant-loop g l = (length l.nonce.bytes ≡ l.counter) × (list_all is_digit l.nonce.bytes ≡ true)
