-- Internal. Helpers whose answers are drawn before a run.
use Rattle.std.specs.Prelude.{ℕ, Bool, [], ◌∷◌, ◌++◌, ◌==◌, ◌||◌, ◌%◌, replicate, if◌then◌else◌}
use Rattle.semantics.specs.Calls.{no_address}
use Rattle.semantics.specs.Machine.{AddressRecord}
use Rattle.run_agrees.specs.declared.drawn.Peer.{Peer}
use Rattle.run_agrees.specs.declared.drawn.Peer.TheVariants.{Ipv4, Ipv6, Neither}

-- the wide records of 203.0.113.9:6000 and of 2001:db8::9 with the same port; and one of IPv4 that has no zeros at its end
abbrev pub drawn_record : Peer → AddressRecord
drawn_record Ipv4 = (0 ∷ 1 ∷ 0x17 ∷ 0x70 ∷ 203 ∷ 0 ∷ 113 ∷ 9 ∷ []) ++ replicate 12 0
drawn_record Ipv6 = (0 ∷ 2 ∷ 0x17 ∷ 0x70 ∷ 0x20 ∷ 1 ∷ 0x0d ∷ 0xb8 ∷ []) ++ replicate 11 0 ++ 9 ∷ []
drawn_record Neither = (0 ∷ 1 ∷ []) ++ replicate 18 9

abbrev pub drawn_answer : Bool → Peer → ℕ → ℕ → ℕ → AddressRecord → ℕ × AddressRecord
drawn_answer found peer channel id number address =
    if id == 2 || id == 7 then (channel % 0x5000, no_address)
    else (if found then (if id == 1 || id == 6 then (1, drawn_record peer) else (1, no_address)) else (0, no_address))
