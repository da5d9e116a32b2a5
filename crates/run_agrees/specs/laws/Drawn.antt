-- Internal. The helpers whose answers are drawn are lawful.
use Rattle.std.specs.Prelude.{ℕ, ◌≤◌, ◌<◌, ◌%◌, [], ◌∷◌, ◌++◌, Bool, true, false, replicate}
use Rattle.std.proofs.Common.{refl, arith}
use Rattle.std.proofs.lemmas.List.Elements.{All-append, All-from_recursion, All-replicate}
use Rattle.semantics.specs.Calls.{helper_number}
use Rattle.semantics.specs.Machine.{AddressRecord, AreBytes}
use Rattle.semantics.specs.laws.Number.{no_address_bytes}
use Rattle.semantics.specs.Runs.{IsLawful}
use Rattle.semantics.specs.declared.helper.Helper.TheVariants.{ChannelPeer, ChannelTo, Permitted}
use Rattle.semantics.specs.declared.helper.RecordForm.{RecordForm}
use Rattle.semantics.specs.declared.helper.RecordForm.TheVariants.{Narrow, Wide}
use Rattle.run_agrees.specs.Drawn.{drawn_record, drawn_answer}
use Rattle.run_agrees.specs.declared.drawn.Peer.{Peer}
use Rattle.run_agrees.specs.declared.drawn.Peer.TheVariants.{Ipv4, Ipv6, Neither}

bytes_of : (peer : Peer) → AreBytes 20 (drawn_record peer)
bytes_of Ipv4 = record {
  count = refl;
  fit = All-append (λ (b : ℕ). b < 256) (0 ∷ 1 ∷ 0x17 ∷ 0x70 ∷ 203 ∷ 0 ∷ 113 ∷ 9 ∷ []) (replicate 12 0)
      (All-from_recursion (λ (b : ℕ). b < 256) (0 ∷ 1 ∷ 0x17 ∷ 0x70 ∷ 203 ∷ 0 ∷ 113 ∷ 9 ∷ [])
      (omega arith, (omega arith, (omega arith, (omega arith, (omega arith, (omega arith, (omega arith, (omega arith, tt)))))))))
      (All-replicate (λ (b : ℕ). b < 256) 12 0 (omega arith));
}
bytes_of Ipv6 = record {
  count = refl;
  fit = All-append (λ (b : ℕ). b < 256) (0 ∷ 2 ∷ 0x17 ∷ 0x70 ∷ 0x20 ∷ 1 ∷ 0x0d ∷ 0xb8 ∷ []) (replicate 11 0 ++ 9 ∷ [])
      (All-from_recursion (λ (b : ℕ). b < 256) (0 ∷ 2 ∷ 0x17 ∷ 0x70 ∷ 0x20 ∷ 1 ∷ 0x0d ∷ 0xb8 ∷ [])
      (omega arith, (omega arith, (omega arith, (omega arith, (omega arith, (omega arith, (omega arith, (omega arith, tt)))))))))
      (All-append (λ (b : ℕ). b < 256) (replicate 11 0) (9 ∷ [])
      (All-replicate (λ (b : ℕ). b < 256) 11 0 (omega arith))
      (All-from_recursion (λ (b : ℕ). b < 256) (9 ∷ []) (omega arith, tt)));
}
bytes_of Neither = record {
  count = refl;
  fit = All-append (λ (b : ℕ). b < 256) (0 ∷ 1 ∷ []) (replicate 18 9)
      (All-from_recursion (λ (b : ℕ). b < 256) (0 ∷ 1 ∷ []) (omega arith, (omega arith, tt)))
      (All-replicate (λ (b : ℕ). b < 256) 18 9 (omega arith));
}

abbrev AtMost : ℕ → ℕ × AddressRecord → Type 0
AtMost n answer = answer.0 ≤ n

abbrev HasRecord : ℕ × AddressRecord → Type 0
HasRecord answer = AreBytes 20 answer.1

peers : (found : Bool) (peer : Peer) (channel : ℕ) (form : RecordForm) (n : ℕ) (address : AddressRecord)
    → AtMost 1 (drawn_answer found peer channel (helper_number (ChannelPeer form)) n address)
    × HasRecord (drawn_answer found peer channel (helper_number (ChannelPeer form)) n address)
peers true peer channel Narrow n address = (omega arith, bytes_of peer)
peers true peer channel Wide n address = (omega arith, bytes_of peer)
peers false peer channel Narrow n address = (omega arith, no_address_bytes)
peers false peer channel Wide n address = (omega arith, no_address_bytes)

channel_fits : (channel : ℕ) → channel % 0x5000 ≤ 0x4fff
channel_fits channel = omega arith

channels : (found : Bool) (peer : Peer) (channel : ℕ) (form : RecordForm) (n : ℕ) (address : AddressRecord)
    → AtMost 0x4fff (drawn_answer found peer channel (helper_number (ChannelTo form)) n address)
channels found peer channel Narrow n address = channel_fits channel
channels found peer channel Wide n address = channel_fits channel

permissions : (found : Bool) (peer : Peer) (channel : ℕ) (form : RecordForm) (n : ℕ) (address : AddressRecord)
    → AtMost 1 (drawn_answer found peer channel (helper_number (Permitted form)) n address)
permissions true peer channel Narrow n address = omega arith
permissions true peer channel Wide n address = omega arith
permissions false peer channel Narrow n address = omega arith
permissions false peer channel Wide n address = omega arith

pub drawn_is_lawful : (found : Bool) (peer : Peer) (channel : ℕ) → IsLawful (drawn_answer found peer channel)
drawn_is_lawful found peer channel = record {
  channel_peer = λ form n address word bytes. peers found peer channel form n address;
  channel_to = λ form n address word bytes. channels found peer channel form n address;
  permitted = λ form n address word bytes. permissions found peer channel form n address;
}
