-- Attributes and parts are those of their bytes, and of no others.
use Rattle.std.proofs.Common.{◌≡◌, ℕ, zero, suc, ◌+◌, ◌*◌, ◌/◌, ◌%◌, ◌<◌, ◌≤◌, List, [], ◌∷◌, ◌++◌, length, take, drop, slice_index, subst, refl, sym, ap, ◌∙◌, arith, append_assoc}
use Rattle.std.specs.List.{AllByRecursion}
use Rattle.std.proofs.lemmas.List.{length-append, length-drop, length-take-le, take-append-drop, drop-drop, nil_from_length, append-nil}
use Rattle.byteorder.specs.Endian.{big_bytes, big_number}
use Rattle.byteorder.specs.Numbers.{big_number-reads_back}
use Rattle.stun.specs.Messages.{PaddedAttribute, IsPadded, padding_count, attribute_bytes, attributes_bytes}
use Rattle.stun.specs.Refusals.{number_at}
use Rattle.stun.specs.Reading.{first_padded, after_first, first_attributes, attributes_in, BeginsWith, AreAttributes}

-- ---- one attribute

-- the pieces of bytes that were put together
pub piece_take : (v r : List ℕ) (n : ℕ) → n ≡ length v → take n (v ++ r) ≡ v
piece_take [] r n e = ap (λ (m : ℕ). take m r) e
piece_take (x ∷ v) r n e = ap (λ (m : ℕ). take m (x ∷ v ++ r)) e ∙ ap (λ (l : List ℕ). x ∷ l) (piece_take v r (length v) refl)

pub piece_drop : (v r : List ℕ) (n : ℕ) → n ≡ length v → drop n (v ++ r) ≡ r
piece_drop [] r n e = ap (λ (m : ℕ). drop m r) e
piece_drop (x ∷ v) r n e = ap (λ (m : ℕ). drop m (x ∷ v ++ r)) e ∙ piece_drop v r (length v) refl

pieces : (v p r : List ℕ) (n m : ℕ) → n ≡ length v → m ≡ length p
    → (take n ((v ++ p) ++ r) ≡ v) × (take m (drop n ((v ++ p) ++ r)) ≡ p) × (drop (n + m) ((v ++ p) ++ r) ≡ r)
pieces v p r n m en em =
    let split = append_assoc v p r in
    let first = ap (take n) split ∙ piece_take v (p ++ r) n en in
    let second = ap (take m) (ap (drop n) split ∙ piece_drop v (p ++ r) n en) ∙ piece_take p r m em in
    let third = piece_drop (v ++ p) r (n + m) (omega (arith, en, em, length-append v p)) in
    (first, second, third)

pub record IsFirst (a : PaddedAttribute) (rest bytes : List ℕ) : Type 0 where
  pub padded : first_padded bytes ≡ a
  pub after : after_first bytes ≡ rest

pub first_is : (a : PaddedAttribute) (r : List ℕ) → IsPadded a → IsFirst a r (attribute_bytes a ++ r)
first_is a r is =
    let bytes = attribute_bytes a ++ r in
    let kind_is : number_at 2 0 bytes ≡ a.kind = big_number-reads_back 2 a.kind ((big_bytes 2 (length a.value) ++ a.value ++ a.padding) ++ r) (omega (arith, is.kind)) in
    let length_is : number_at 2 2 bytes ≡ length a.value = big_number-reads_back 2 (length a.value) ((a.value ++ a.padding) ++ r) (omega (arith, is.value)) in
    let three = pieces a.value a.padding r (number_at 2 2 bytes) (padding_count (number_at 2 2 bytes)) length_is (ap padding_count length_is ∙ sym is.padding) in
    record {
      padded = λ i. record { kind = kind_is i; value = three.0 i; padding = three.1 i };
      after = three.2;
    }

-- two bytes, and four, are those of their number
pub bytes_of_2 : (b0 b1 : ℕ) (rest : List ℕ) → b0 < 256 → b1 < 256 → big_bytes 2 (big_number 2 (b0 ∷ b1 ∷ rest)) ≡ b0 ∷ b1 ∷ []
bytes_of_2 b0 b1 rest h0 h1 =
    let n : ℕ = big_number 2 (b0 ∷ b1 ∷ rest) in
    let n_is : n ≡ b0 * 256 + b1 = omega arith in
    let high : n / 256 % 256 ≡ b0 = omega arith in
    let low : n % 256 ≡ b1 = omega arith in
    λ i. high i ∷ low i ∷ []

pub bytes_of_4 : (b0 b1 b2 b3 : ℕ) (rest : List ℕ) → b0 < 256 → b1 < 256 → b2 < 256 → b3 < 256 → big_bytes 4 (big_number 4 (b0 ∷ b1 ∷ b2 ∷ b3 ∷ rest)) ≡ b0 ∷ b1 ∷ b2 ∷ b3 ∷ []
bytes_of_4 b0 b1 b2 b3 rest h0 h1 h2 h3 =
    let n : ℕ = big_number 4 (b0 ∷ b1 ∷ b2 ∷ b3 ∷ rest) in
    let n_is : n ≡ b0 * 16777216 + (b1 * 65536 + (b2 * 256 + b3)) = omega arith in
    let e0 : n / 16777216 % 256 ≡ b0 = omega arith in
    let e1 : n / 65536 % 256 ≡ b1 = omega arith in
    let e2 : n / 256 % 256 ≡ b2 = omega arith in
    let e3 : n % 256 ≡ b3 = omega arith in
    λ i. e0 i ∷ e1 i ∷ e2 i ∷ e3 i ∷ []

pub small_2 : (b0 b1 : ℕ) (rest : List ℕ) → b0 < 256 → b1 < 256 → big_number 2 (b0 ∷ b1 ∷ rest) < 0x10000
small_2 b0 b1 rest h0 h1 = omega arith

-- the three pieces of a list
three_pieces : (n m : ℕ) (t : List ℕ) → t ≡ (take n t ++ take m (drop n t)) ++ drop (n + m) t
three_pieces n m t =
    sym (append_assoc (take n t) (take m (drop n t)) (drop (n + m) t)
    ∙ ap (λ (l : List ℕ). take n t ++ (take m (drop n t) ++ l)) (sym (drop-drop m n t))
    ∙ ap (λ (l : List ℕ). take n t ++ l) (take-append-drop m (drop n t))
    ∙ take-append-drop n t)

padded_here : (t : List ℕ) (k n : ℕ) → k < 0x10000 → n < 0x10000 → n + padding_count n ≤ length t
    → IsPadded (record { kind = k; value = take n t; padding = take (padding_count n) (drop n t) })
padded_here t k n small fits room =
    let value_length : length (take n t) ≡ n = length-take-le n t (omega arith) in
    let left : padding_count n ≤ length (drop n t) = omega (arith, length-drop n t) in
    record {
      kind = small;
      value = omega (arith, value_length);
      padding = length-take-le (padding_count n) (drop n t) left ∙ ap padding_count (sym value_length);
    }

spelled_here : (b0 b1 b2 b3 : ℕ) (t : List ℕ) (k n : ℕ) → big_bytes 2 k ≡ b0 ∷ b1 ∷ [] → big_bytes 2 n ≡ b2 ∷ b3 ∷ [] → n ≤ length t
    → b0 ∷ b1 ∷ b2 ∷ b3 ∷ t ≡ attribute_bytes (record { kind = k; value = take n t; padding = take (padding_count n) (drop n t) }) ++ drop (n + padding_count n) t
spelled_here b0 b1 b2 b3 t k n kind_bytes length_bytes room =
    let value_length : length (take n t) ≡ n = length-take-le n t room in
    let there : big_bytes 2 (length (take n t)) ≡ b2 ∷ b3 ∷ [] = ap (big_bytes 2) value_length ∙ length_bytes in
    let split = three_pieces n (padding_count n) t in
    λ i. sym kind_bytes i ++ (sym there i ++ split i)

begins_here : (bytes : List ℕ) → 4 ≤ length bytes → ((k : ℕ) → slice_index bytes k < 256) → number_at 2 2 bytes + padding_count (number_at 2 2 bytes) ≤ length (drop 4 bytes)
    → BeginsWith bytes (number_at 2 0 bytes) (take (number_at 2 2 bytes) (drop 4 bytes)) (drop (number_at 2 2 bytes + padding_count (number_at 2 2 bytes)) (drop 4 bytes))
begins_here [] long small room = absurd (omega arith)
begins_here (b0 ∷ []) long small room = absurd (omega arith)
begins_here (b0 ∷ b1 ∷ []) long small room = absurd (omega arith)
begins_here (b0 ∷ b1 ∷ b2 ∷ []) long small room = absurd (omega arith)
begins_here (b0 ∷ b1 ∷ b2 ∷ b3 ∷ t) long small room =
    let h0 : b0 < 256 = small 0 in
    let h1 : b1 < 256 = small 1 in
    let h2 : b2 < 256 = small 2 in
    let h3 : b3 < 256 = small 3 in
    let k : ℕ = big_number 2 (b0 ∷ b1 ∷ b2 ∷ b3 ∷ t) in
    let n : ℕ = big_number 2 (b2 ∷ b3 ∷ t) in
    record {
      padded = padded_here t k n (small_2 b0 b1 (b2 ∷ b3 ∷ t) h0 h1) (small_2 b2 b3 t h2 h3) room;
      spelled = spelled_here b0 b1 b2 b3 t k n (bytes_of_2 b0 b1 (b2 ∷ b3 ∷ t) h0 h1) (bytes_of_2 b2 b3 t h2 h3) (omega (arith, room));
      kind_is = refl;
      value_is = refl;
    }

pub begins_with : (bytes value rest : List ℕ) (kind n m : ℕ) → 4 ≤ length bytes → ((k : ℕ) → slice_index bytes k < 256)
    → kind ≡ number_at 2 0 bytes → n ≡ number_at 2 2 bytes → m ≡ n + padding_count n → m ≤ length (drop 4 bytes) → value ≡ take n (drop 4 bytes) → rest ≡ drop m (drop 4 bytes)
    → BeginsWith bytes kind value rest
begins_with bytes value rest kind n m long small kind_is n_is m_is room value_is rest_is =
    let m_there : m ≡ number_at 2 2 bytes + padding_count (number_at 2 2 bytes) = m_is ∙ ap (λ (l : ℕ). l + padding_count l) n_is in
    let here = begins_here bytes long small (omega (arith, m_there, room)) in
    record {
      padded = here.padded;
      spelled = here.spelled ∙ ap (λ (r : List ℕ). attribute_bytes (first_padded bytes) ++ r) (ap (λ (l : ℕ). drop l (drop 4 bytes)) (sym m_there) ∙ sym rest_is);
      kind_is = kind_is;
      value_is = value_is ∙ ap (λ (l : ℕ). take l (drop 4 bytes)) n_is;
    }

pub length_of_attribute : (a : PaddedAttribute) (r : List ℕ) → IsPadded a → length (attribute_bytes a ++ r) ≡ 4 + length a.value + padding_count (length a.value) + length r
length_of_attribute a r is = omega (arith, length-append (a.value ++ a.padding) r, length-append a.value a.padding, is.padding)

pub overruns : (bytes : List ℕ) (a : PaddedAttribute) (r : List ℕ) (n m : ℕ) → IsPadded a → bytes ≡ attribute_bytes a ++ r → n ≡ number_at 2 2 bytes → m ≡ n + padding_count n → length (drop 4 bytes) < m → ⊥
overruns bytes a r n m is spelled n_is m_is short =
    let length_is : number_at 2 2 (attribute_bytes a ++ r) ≡ length a.value = big_number-reads_back 2 (length a.value) ((a.value ++ a.padding) ++ r) (omega (arith, is.value)) in
    let here : n ≡ length a.value = n_is ∙ ap (number_at 2 2) spelled ∙ length_is in
    let there : m ≡ length a.value + padding_count (length a.value) = m_is ∙ ap (λ (l : ℕ). l + padding_count l) here in
    omega (arith, there, length-drop 4 bytes, ap length spelled, length_of_attribute a r is, short)

-- ---- all attributes

attributes_are_from : (n : ℕ) (list : List PaddedAttribute) → AllByRecursion IsPadded list → length (attributes_bytes list) ≤ n → first_attributes n (attributes_bytes list) ≡ list
attributes_are_from zero [] all few = refl
attributes_are_from (suc n) [] all few = refl
attributes_are_from zero (a ∷ list) all few = absurd (omega (arith, few, length_of_attribute a (attributes_bytes list) all.0))
attributes_are_from (suc n) (a ∷ list) all few =
    let first = first_is a (attributes_bytes list) all.0 in
    let rest = ap (first_attributes n) first.after ∙ attributes_are_from n list all.1 (omega (arith, few, length_of_attribute a (attributes_bytes list) all.0)) in
    λ i. first.padded i ∷ rest i

-- the attributes of their bytes
pub attributes_are : (bytes : List ℕ) (list : List PaddedAttribute) → AllByRecursion IsPadded list → bytes ≡ attributes_bytes list → attributes_in bytes ≡ list
attributes_are bytes list all spelled = ap attributes_in spelled ∙ attributes_are_from (length (attributes_bytes list)) list all (omega arith)

pub are_attributes_of : (bytes : List ℕ) (list : List PaddedAttribute) → AllByRecursion IsPadded list → bytes ≡ attributes_bytes list → AreAttributes bytes
are_attributes_of bytes list all spelled =
    let are = sym (attributes_are bytes list all spelled) in
    record {
      padded = subst (AllByRecursion IsPadded) are all;
      spelled = spelled ∙ ap attributes_bytes are;
    }

pub no_attributes : (bytes : List ℕ) → length bytes ≤ 0 → AreAttributes bytes
no_attributes bytes none = are_attributes_of bytes [] tt (nil_from_length bytes (omega arith))

-- one more in front
not_nothing : (bytes : List ℕ) (kind : ℕ) (value rest : List ℕ) → BeginsWith bytes kind value rest → bytes ≡ [] → ⊥
not_nothing bytes kind value rest first nothing = omega (arith, ap length nothing, ap length first.spelled, length_of_attribute (first_padded bytes) rest first.padded)

after_one : (bytes : List ℕ) (kind : ℕ) (value rest : List ℕ) → BeginsWith bytes kind value rest → (list : List PaddedAttribute) → AllByRecursion IsPadded list → bytes ≡ attributes_bytes list → AreAttributes rest
after_one bytes kind value rest first [] all spelled = absurd (not_nothing bytes kind value rest first spelled)
after_one bytes kind value rest first (a ∷ list) all spelled =
    let one = first_is a (attributes_bytes list) all.0 in
    let other = first_is (first_padded bytes) rest first.padded in
    are_attributes_of rest list all.1 (
    sym other.after ∙ ap after_first (sym first.spelled ∙ spelled) ∙ one.after
    )

pub attributes_tail : (bytes : List ℕ) (kind : ℕ) (value rest : List ℕ) → BeginsWith bytes kind value rest → AreAttributes bytes → AreAttributes rest
attributes_tail bytes kind value rest first are = after_one bytes kind value rest first (attributes_in bytes) are.padded are.spelled

-- the attributes of bytes are the first and those of what follows
pub attributes_split : (bytes : List ℕ) (kind : ℕ) (value rest : List ℕ) → BeginsWith bytes kind value rest → AreAttributes rest → attributes_in bytes ≡ first_padded bytes ∷ attributes_in rest
attributes_split bytes kind value rest first are =
    attributes_are bytes (first_padded bytes ∷ attributes_in rest) (first.padded, are.padded)
    (first.spelled ∙ ap (λ (r : List ℕ). attribute_bytes (first_padded bytes) ++ r) are.spelled)

-- ---- lists of attributes

pub bytes_append : (front back : List PaddedAttribute) → attributes_bytes (front ++ back) ≡ attributes_bytes front ++ attributes_bytes back
bytes_append [] back = refl
bytes_append (a ∷ front) back = ap (λ b. attribute_bytes a ++ b) (bytes_append front back) ∙ sym (append_assoc (attribute_bytes a) (attributes_bytes front) (attributes_bytes back))

pub push_bytes : (front : List PaddedAttribute) (a : PaddedAttribute) → attributes_bytes (front ++ a ∷ []) ≡ attributes_bytes front ++ attribute_bytes a
push_bytes front a = bytes_append front (a ∷ []) ∙ ap (λ b. attributes_bytes front ++ b) (append-nil (attribute_bytes a))

pub push_all : (front : List PaddedAttribute) (a : PaddedAttribute) → AllByRecursion IsPadded front → IsPadded a → AllByRecursion IsPadded (front ++ a ∷ [])
push_all [] a all is = (is, tt)
push_all (b ∷ front) a all is = (all.0, push_all front a all.1 is)

pub none_begin : (bytes : List ℕ) → 0 < length bytes → ((a : PaddedAttribute) (r : List ℕ) → IsPadded a → bytes ≡ attribute_bytes a ++ r → ⊥)
    → (list : List PaddedAttribute) → AllByRecursion IsPadded list → bytes ≡ attributes_bytes list → ⊥
none_begin bytes some none [] all spelled = omega (arith, ap length spelled)
none_begin bytes some none (a ∷ list) all spelled = none a (attributes_bytes list) all.0 spelled
