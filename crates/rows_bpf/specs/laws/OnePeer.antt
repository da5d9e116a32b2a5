-- Internal. The helpers that know one peer of either family are lawful.
use Rattle.std.specs.Prelude.{ℕ, ◌≤◌, ◌<◌, Bool, true, false, [], ◌∷◌, ◌++◌, ◌==◌, replicate, if◌then◌else◌}
use Rattle.std.proofs.Common.{refl, arith}
use Rattle.std.proofs.lemmas.List.Elements.{All-append, All-from_recursion, All-replicate}
use Rattle.semantics.specs.Calls.{no_address, helper_number}
use Rattle.semantics.specs.Machine.{AddressRecord, AreBytes}
use Rattle.semantics.specs.laws.Number.{no_address_bytes}
use Rattle.semantics.specs.Runs.{IsLawful}
use Rattle.semantics.specs.declared.helper.Helper.TheVariants.{ChannelPeer, ChannelTo, Permitted}
use Rattle.semantics.specs.declared.helper.RecordForm.{RecordForm}
use Rattle.semantics.specs.declared.helper.RecordForm.TheVariants.{Narrow, Wide}
use Rattle.rows_bpf.specs.OnePeer.{is_host, is_peer, first_bytes, first_ipv6_bytes, record_of_peer, record_of_ipv6_peer, one_peer}

bytes_of_peer : AreBytes 20 record_of_peer
bytes_of_peer = record {
  count = refl;
  fit = All-append (λ (n : ℕ). n < 256) first_bytes (replicate 12 0)
      (All-from_recursion (λ (n : ℕ). n < 256) first_bytes
      (omega arith, (omega arith, (omega arith, (omega arith, (omega arith, (omega arith, (omega arith, (omega arith, tt)))))))))
      (All-replicate (λ (n : ℕ). n < 256) 12 0 (omega arith));
}

bytes_of_ipv6_peer : AreBytes 20 record_of_ipv6_peer
bytes_of_ipv6_peer = record {
  count = refl;
  fit = All-append (λ (n : ℕ). n < 256) first_ipv6_bytes (replicate 11 0 ++ 7 ∷ [])
      (All-from_recursion (λ (n : ℕ). n < 256) first_ipv6_bytes
      (omega arith, (omega arith, (omega arith, (omega arith, (omega arith, (omega arith, (omega arith, (omega arith, tt)))))))))
      (All-append (λ (n : ℕ). n < 256) (replicate 11 0) (7 ∷ [])
      (All-replicate (λ (n : ℕ). n < 256) 11 0 (omega arith))
      (All-from_recursion (λ (n : ℕ). n < 256) (7 ∷ []) (omega arith, tt)));
}

abbrev AtMost : ℕ → ℕ × AddressRecord → Type 0
AtMost n answer = answer.0 ≤ n

abbrev HasRecord : ℕ × AddressRecord → Type 0
HasRecord answer = AreBytes 20 answer.1

abbrev IsFound : ℕ × AddressRecord → Type 0
IsFound answer = AtMost 1 answer × HasRecord answer

found : (b : Bool) → IsFound (if b then (1, record_of_peer) else (0, no_address))
found true = (omega arith, bytes_of_peer)
found false = (omega arith, no_address_bytes)

found_in_two : (a b : Bool) → IsFound (if a then (1, record_of_peer) else (if b then (1, record_of_ipv6_peer) else (0, no_address)))
found_in_two true b = (omega arith, bytes_of_peer)
found_in_two false true = (omega arith, bytes_of_ipv6_peer)
found_in_two false false = (omega arith, no_address_bytes)

bound : (b : Bool) → AtMost 0x4fff (if b then (0x4001, no_address) else (0, no_address))
bound true = omega arith
bound false = omega arith

allowed : (b : Bool) → AtMost 1 (if b then (1, no_address) else (0, no_address))
allowed true = omega arith
allowed false = omega arith

peers : (form : RecordForm) (n : ℕ) (address : AddressRecord) → IsFound (one_peer (helper_number (ChannelPeer form)) n address)
peers Narrow n address = found (n == 0x4001)
peers Wide n address = found_in_two (n == 0x4001) (n == 0x4002)

channels : (form : RecordForm) (n : ℕ) (address : AddressRecord) → AtMost 0x4fff (one_peer (helper_number (ChannelTo form)) n address)
channels Narrow n address = bound (is_peer address)
channels Wide n address = bound (is_peer address)

permissions : (form : RecordForm) (n : ℕ) (address : AddressRecord) → AtMost 1 (one_peer (helper_number (Permitted form)) n address)
permissions Narrow n address = allowed (is_host address)
permissions Wide n address = allowed (is_host address)

pub one_peer_is_lawful : IsLawful one_peer
one_peer_is_lawful = record {
  channel_peer = λ form n address word bytes. peers form n address;
  channel_to = λ form n address word bytes. channels form n address;
  permitted = λ form n address word bytes. permissions form n address;
}
