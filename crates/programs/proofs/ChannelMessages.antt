-- The channel message of a datagram, and the peer that its channel is bound to.
use Rattle.std.proofs.Common.{◌≡◌, ◌≢◌, ℕ, ◌+◌, ◌%◌, ◌^◌, ◌≤◌, ◌<◌, List, ◌∷◌, ◌++◌, length, take, drop, replicate, Option, Some, None, refl, sym, ap, ◌∙◌, arith, Bool, true, false, ◌&&◌}
use Rattle.std.specs.Prelude.{IfSome, nat_le, if◌then◌else◌}
use Rattle.std.proofs.lemmas.Bool.Decides.{nat_tests}
use Rattle.std.proofs.lemmas.List.{length-drop, length-append, take_all, take-append-le, drop_at}
use Rattle.insn.specs.Endian.{big_number}
use Rattle.stun.specs.Channels.{ChannelMessage}
use Rattle.stun.specs.Datagrams.{channel_in}
use Rattle.stun.specs.Ranges.{is_between}
use Rattle.addresses.specs.Addresses.{IsAddress, HasWidth}
use Rattle.addresses.specs.declared.address.Addr.{Addr}
use Rattle.addresses.specs.declared.address.Addr.TheVariants.{V4, V6}
use Rattle.programs.proofs.ClientEnds.{narrow_answer, wide_answer}
use Rattle.semantics.specs.Records.{address_record, wide_record, address_of}
use Rattle.semantics.specs.declared.helper.RecordForm.{RecordForm}
use Rattle.semantics.specs.declared.helper.RecordForm.TheVariants.{Narrow, Wide}
use Rattle.std.specs.List.{list_all}
use Rattle.std.specs.Prelude.{◌==◌}
use Rattle.semantics.specs.Access.{part}
use Rattle.semantics.specs.Calls.{is_valid, widened, as_form}
use Rattle.semantics.specs.Machine.{AddressRecord}
use Rattle.programs.proofs.LoadedValues.{port_back}

-- ---- the channel message of a datagram

less : (a b : ℕ) → b < a → nat_le a b ≡ false
less a b lt = grind (arith, nat_tests)

at_most : (a b : ℕ) → a ≤ b → nat_le a b ≡ true
at_most a b le = grind (arith, nat_tests)

module _ {X : Type 0} (x : X) where
  none_first : (a b c : Bool) → a ≡ false → (if a && b && c then Some x else None) ≡ None
  none_first false b c e = refl
  none_first true b c e = absurd cc

  none_last : (a b c : Bool) → c ≡ false → (if a && b && c then Some x else None) ≡ None
  none_last a b true e = absurd cc
  none_last true true false e = refl
  none_last true false false e = refl
  none_last false b false e = refl

  some_all : (a b c : Bool) → a ≡ true → b ≡ true → c ≡ true → (if a && b && c then Some x else None) ≡ Some x
  some_all true true true p q r = refl
  some_all true true false p q r = absurd cc
  some_all true false c p q r = absurd cc
  some_all false b c p q r = absurd cc

both : (a b : Bool) → a ≡ true → b ≡ true → (a && b) ≡ true
both true true p q = refl
both true false p q = q
both false b p q = p

-- the message that a datagram's header tells of
abbrev pub message_of : List ℕ → ChannelMessage
message_of d = record { number = big_number 2 d; bytes = part (big_number 2 (drop 2 d)) 4 d }

module _ (d : List ℕ) where
  abbrev is_long : Bool
  is_long = nat_le 4 (length d)

  abbrev has_number : Bool
  has_number = is_between 0x4000 0x7fff (big_number 2 d)

  abbrev is_whole : Bool
  is_whole = nat_le (big_number 2 (drop 2 d)) (length (drop 4 d))

  pub no_header : length d < 4 → channel_in d ≡ None
  no_header lt = none_first (message_of d) is_long has_number is_whole (less 4 (length d) lt)

  pub no_data : length d < 4 + big_number 2 (drop 2 d) → 4 ≤ length d → channel_in d ≡ None
  no_data lt header = none_last (message_of d) is_long has_number is_whole (less _ _ (omega (arith, lt, header, length-drop 4 d)))

  pub has_message : 4 ≤ length d → 0x4000 ≤ big_number 2 d → big_number 2 d ≤ 0x7fff → 4 + big_number 2 (drop 2 d) ≤ length d → channel_in d ≡ Some (message_of d)
  has_message header low high whole =
      some_all (message_of d) is_long has_number is_whole (at_most 4 (length d) header) (both _ _ (at_most _ _ low) (at_most _ _ high)) (at_most _ _ (omega (arith, whole, length-drop 4 d)))

-- ---- the answers of helpers 1 and 6

pub record IsFound (form : RecordForm) (o : Option Addr) (bytes : AddressRecord) : Type 0 where
  pub address : Addr
  pub is : o ≡ Some address
  pub count : length bytes ≡ 20
  pub same : widened form (as_form form bytes) ≡ bytes
  pub valid : is_valid form bytes ≡ true
  pub back : address_of bytes ≡ address

front_of : (ip : List ℕ) → length ip ≡ 4 → take 4 (ip ++ replicate 12 0) ≡ ip
front_of ip long = take-append-le 4 ip (replicate 12 0) (omega (arith, long)) ∙ take_all 4 ip (omega (arith, long))

-- the record of an IPv4 address with zeros after it
pub wide_back : (ip : List ℕ) (port : ℕ) → HasWidth 4 ip port → address_of (wide_record (V4 ip port)) ≡ V4 ip port
wide_back ip port fits = λ i. V4 (front_of ip fits.long i) (port_back port fits.small i)

pub length-wide_ipv4 : (ip : List ℕ) (port : ℕ) → length ip ≡ 4 → length (wide_record (V4 ip port)) ≡ 20
length-wide_ipv4 ip port long = length-append (address_record (V4 ip port)) (replicate 12 0) ∙ omega (arith, long)

first_eight : (ip : List ℕ) (port : ℕ) → length ip ≡ 4 → take 8 (wide_record (V4 ip port)) ≡ address_record (V4 ip port)
first_eight ip port long =
    take-append-le 8 (address_record (V4 ip port)) (replicate 12 0) (omega (arith, long)) ∙ take_all 8 (address_record (V4 ip port)) (omega (arith, long))

all_zero : list_all (λ b. b == 0) (replicate 12 0) ≡ true
all_zero = refl

after_eight : (ip : List ℕ) (port : ℕ) → length ip ≡ 4 → drop 8 (wide_record (V4 ip port)) ≡ replicate 12 0
after_eight ip port long = drop_at (address_record (V4 ip port)) (replicate 12 0) 8 (omega (arith, long))

narrow_found : (ip : List ℕ) (port : ℕ) (bytes : AddressRecord) → HasWidth 4 ip port → bytes ≡ wide_record (V4 ip port) → IsFound Narrow (Some (V4 ip port)) bytes
narrow_found ip port bytes fits e = record {
  address = V4 ip port;
  is = refl;
  count = ap length e ∙ length-wide_ipv4 ip port fits.long;
  same = rw e (ap (λ (l : List ℕ). l ++ replicate 12 0) (first_eight ip port fits.long));
  valid = rw e refl;
  back = ap address_of e ∙ wide_back ip port fits;
}

pub found_narrow : (o : Option Addr) (v : ℕ) (bytes : AddressRecord) → IfSome o IsAddress → v ≡ (narrow_answer o).0 → bytes ≡ (narrow_answer o).1 → v % 2 ^ 64 ≢ 0 → IsFound Narrow o bytes
found_narrow None v bytes fits e f some = absurd (some (omega (arith, e)))
found_narrow (Some (V4 ip port)) v bytes fits e f some = narrow_found ip port bytes fits f
found_narrow (Some (V6 ip port)) v bytes fits e f some = absurd (some (omega (arith, e)))

wide_found : (a : Addr) (bytes : AddressRecord) → IsAddress a → bytes ≡ wide_record a → IsFound Wide (Some a) bytes
wide_found (V4 ip port) bytes fits e = record {
  address = V4 ip port;
  is = refl;
  count = ap length e ∙ length-wide_ipv4 ip port fits.long;
  same = refl;
  valid = rw e (ap (list_all (λ b. b == 0)) (after_eight ip port fits.long) ∙ all_zero);
  back = ap address_of e ∙ wide_back ip port fits;
}
wide_found (V6 ip port) bytes fits e = record {
  address = V6 ip port;
  is = refl;
  count = ap length e ∙ omega (arith, fits.long);
  same = refl;
  valid = rw e refl;
  back = ap address_of e ∙ ap (λ (n : ℕ). V6 ip n) (port_back port fits.small);
}

pub found_wide : (o : Option Addr) (v : ℕ) (bytes : AddressRecord) → IfSome o IsAddress → v ≡ (wide_answer o).0 → bytes ≡ (wide_answer o).1 → v % 2 ^ 64 ≢ 0 → IsFound Wide o bytes
found_wide None v bytes fits e f some = absurd (some (omega (arith, e)))
found_wide (Some a) v bytes fits e f some = wide_found a bytes fits f

pub not_found : (o : Option Addr) (v : ℕ) → v ≡ (wide_answer o).0 → v % 2 ^ 64 ≡ 0 → (o ≡ None) × (v ≡ 0)
not_found None v e none = (refl, e)
not_found (Some a) v e none = absurd (omega (arith, e, none))
