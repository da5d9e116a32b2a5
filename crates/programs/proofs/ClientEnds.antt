-- What the program of the client's side is given, and how its run ends.
use Rattle.std.specs.Prelude.{◌≡◌, ◌≢◌, ℕ, ◌≤◌, ◌<◌, ◌+◌, ◌⊎◌, List, Bool, Option, Some, None, IfSome, length, drop, slice_index, ◌==◌, if◌then◌else◌}
use Rattle.insn.specs.Endian.{big_number}
use Rattle.addresses.specs.Addresses.{HasWidth, IsAddress}
use Rattle.attributes.specs.Addresses.{address_in}
use Rattle.addresses.specs.declared.address.Addr.{Addr}
use Rattle.addresses.specs.declared.address.Addr.TheVariants.{V4, V6}
use Rattle.semantics.specs.Access.{part}
use Rattle.semantics.specs.Calls.{helper_number, no_address, widened}
use Rattle.semantics.specs.Machine.{AddressRecord, State}
use Rattle.semantics.specs.declared.helper.Helper.TheVariants.{ChannelPeer, Permitted}
use Rattle.semantics.specs.declared.helper.RecordForm.TheVariants.{Narrow, Wide}
use Rattle.basics.specs.Options.{◌>>=◌, guard}
use Rattle.programs.proofs.PeerEnds.{test_number}
use Rattle.programs.specs.PlainSends.{padded_length, IsAddressFirst, IsDataFirst}
use Rattle.semantics.specs.Records.{address_record, wide_record}
use Rattle.rules.specs.Rules.{channel_data}
use Rattle.programs.specs.Runs.{datagram_in, window_in, destination_in}

-- helper 1 answers with the record of an IPv4 peer, helper 6 with that of any
abbrev pub narrow_answer : Option Addr → ℕ × AddressRecord
narrow_answer None = (0, no_address)
narrow_answer (Some (V4 ip port)) = (1, widened Narrow (address_record (V4 ip port)))
narrow_answer (Some (V6 ip port)) = (0, no_address)

abbrev pub wide_answer : Option Addr → ℕ × AddressRecord
wide_answer None = (0, no_address)
wide_answer (Some peer) = (1, wide_record peer)

pub record AnswersClient (answer : ℕ → ℕ → AddressRecord → ℕ × AddressRecord) (peer : ℕ → Option Addr) (permitted : Addr → Bool) : Type 0 where
  pub narrow_peers : (n : ℕ) → answer (helper_number (ChannelPeer Narrow)) n no_address ≡ narrow_answer (peer n)
  pub wide_peers : (n : ℕ) → answer (helper_number (ChannelPeer Wide)) n no_address ≡ wide_answer (peer n)
  pub permissions : (ip : List ℕ) (port : ℕ) → HasWidth 4 ip port → (answer (helper_number (Permitted Narrow)) 0 (widened Narrow (address_record (V4 ip port)))).0 ≡ test_number (permitted (V4 ip port))
  pub addresses : (n : ℕ) → IfSome (peer n) IsAddress

-- the bytes of the window and the destination, with the verdict that sends
abbrev pub sent_to : ℕ → State → Option (Addr × List ℕ)
sent_to verdict s = if verdict == 2 then (window_in s >>= λ bytes. destination_in s >>= λ to. Some (to, bytes)) else None

-- content goes to the address of a value, where the value is well-formed and the address permitted
abbrev pub of_send : (Addr → Bool) → List ℕ → List ℕ → List ℕ → Option (Addr × List ℕ)
of_send permits tx value content = address_in tx value >>= λ to. guard (permits to) >>= λ _. Some (to, content)

-- of ChannelData, of a Send indication of two attributes in either order, of what else begins as STUN does, and of any other
-- datagram
pub record IsClientEnd (peer : ℕ → Option Addr) (permitted : Addr → Bool) (tx d : List ℕ) (verdict : ℕ) (s : State) : Type 0 where
  pub channel : 1 ≤ length d → 64 ≤ slice_index d 0 → slice_index d 0 < 128 → (verdict ≢ 1) × (sent_to verdict s ≡ channel_data peer d)
  pub address_first : IsAddressFirst d → (verdict ≢ 1) × (sent_to verdict s ≡ of_send permitted tx (part 8 24 d) (part (big_number 2 (drop 34 d)) 36 d))
  pub data_first : IsDataFirst d → (verdict ≢ 1) × (sent_to verdict s ≡ of_send permitted tx (part 8 (padded_length (big_number 2 (drop 22 d)) + 28) d) (part (big_number 2 (drop 22 d)) 24 d))
  pub passed : 1 ≤ length d → slice_index d 0 < 64 → (IsAddressFirst d → ⊥) → (IsDataFirst d → ⊥) → (verdict ≡ 1) × (datagram_in (length d) s ≡ d)
  pub other : (length d ≡ 0) ⊎ (128 ≤ slice_index d 0) → verdict ≡ 0
