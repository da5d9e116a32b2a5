-- Interface. Marks and their words: where one state covers another, each word of its marks has no bits but those of the other's.
use Rattle.std.proofs.Common.{◌≡◌, ℕ, zero, suc, ◌+◌, ◌*◌, ◌/◌, ◌%◌, ◌^◌, ◌<◌, ◌≤◌, Bool, true, false, not, ◌&&◌, ◌||◌, List, [], ◌∷◌, ◌++◌, length, map, take, drop, refl, sym, ap, ap₂, ◌∙◌, subst, arith, rules, bit_and, bit_or, pow_pos}
use Rattle.std.specs.Prelude.{◌==◌, min, max, int_le}
use Rattle.std.specs.Int.{bit_at}
use Rattle.std.proofs.lemmas.Nat.{and_block, or_block, and_le_l, and_mod}
use Rattle.std.specs.Int.Bits.{or_zero_l, or_zero_r}
use Rattle.std.proofs.Math.Pow.{pow_mono}
use Rattle.std.proofs.lemmas.Grind.{pow_more}
use Rattle.std.proofs.lemmas.Bool.{eqb-true}
use Rattle.std.proofs.lemmas.List.{take-append-drop, drop-drop, drop_all, length-take, length-drop}
use Rattle.std.proofs.lemmas.Nat.Bits.{bit_at_and, bit_at_or, same_from_bits}
use Rattle.interval.specs.Domains.{Operations}
use Rattle.absstate.specs.Covers.{covers_values, share_alike, covers_marks, covers}
use Rattle.absstate.specs.InitialisedWords.{bit_of, shifted, word_of, word_at, words_of, are_within, bits_of, marks_of}
use Rattle.absstate.specs.laws.Step.MemoryValues.{first_of_and, rest_of_and, both_true}
use Rattle.absstate.specs.declared.abstract_state.AbsState.{AbsState}

-- each bit of the first number is one of the second
abbrev pub IsWithin : ℕ → ℕ → Type 0
IsWithin a b = bit_and a b ≡ a

-- ---- a word

pub within_times : (a b k : ℕ) → IsWithin a b → IsWithin (a * 2 ^ k) (b * 2 ^ k)
within_times a b k h =
    let block : bit_and (a * 2 ^ k + 0) (b * 2 ^ k + 0) ≡ bit_and a b * 2 ^ k + bit_and 0 0 = and_block k a b 0 0 (pow_pos k) (pow_pos k) in
    let one : a * 2 ^ k + 0 ≡ a * 2 ^ k = omega arith in
    let other : b * 2 ^ k + 0 ≡ b * 2 ^ k = omega arith in
    ap (λ (x : ℕ). bit_and x (b * 2 ^ k)) (sym one) ∙ ap (λ (y : ℕ). bit_and (a * 2 ^ k + 0) y) (sym other) ∙ block ∙ ap (λ (x : ℕ). x * 2 ^ k + 0) h ∙ one

pub within_mod : (a b k : ℕ) → IsWithin a b → IsWithin (a % 2 ^ k) (b % 2 ^ k)
within_mod a b k h = sym (and_mod a b k) ∙ ap (λ (x : ℕ). x % 2 ^ k) h

-- ---- by bits

pub each_bit : (a b : ℕ) → IsWithin a b → (i : ℕ) → min (bit_at a i) (bit_at b i) ≡ bit_at a i
each_bit a b within i = sym (bit_at_and a b i) ∙ ap (λ (x : ℕ). bit_at x i) within

pub by_bits : (a b : ℕ) → ((i : ℕ) → min (bit_at a i) (bit_at b i) ≡ bit_at a i) → IsWithin a b
by_bits a b each = same_from_bits (bit_and a b) a (λ i. bit_at_and a b i ∙ each i)

greatest : (x y u v : ℕ) → min x u ≡ x → min y v ≡ y → min (max x y) (max u v) ≡ max x y
greatest x y u v p q = omega (arith, p, q)

pub within_or : (a b c d : ℕ) → IsWithin a b → IsWithin c d → IsWithin (bit_or a c) (bit_or b d)
within_or a b c d h k = by_bits (bit_or a c) (bit_or b d) (λ i.
    ap₂ min (bit_at_or a c i) (bit_at_or b d i) ∙ greatest (bit_at a i) (bit_at c i) (bit_at b i) (bit_at d i) (each_bit a b h i) (each_bit c d k i) ∙ sym (bit_at_or a c i))

least : (x y u v : ℕ) → min x u ≡ x → min y v ≡ y → min (min x y) (min u v) ≡ min x y
least x y u v p q = omega (arith, p, q)

pub within_and : (a b c d : ℕ) → IsWithin a b → IsWithin c d → IsWithin (bit_and a c) (bit_and b d)
within_and a b c d h k = by_bits (bit_and a c) (bit_and b d) (λ i.
    ap₂ min (bit_at_and a c i) (bit_at_and b d i) ∙ least (bit_at a i) (bit_at c i) (bit_at b i) (bit_at d i) (each_bit a b h i) (each_bit c d k i) ∙ sym (bit_at_and a c i))

-- ---- a word of marks

within_bit : (m o : Bool) → (not m || o) ≡ true → IsWithin (bit_of m) (bit_of o)
within_bit true true e = refl
within_bit true false e = absurd cc
within_bit false true e = refl
within_bit false false e = refl

within_shifted : (a b : ℕ) (m o : Bool) → IsWithin a b → (not m || o) ≡ true → IsWithin (shifted a m) (shifted b o)
within_shifted a b m o h e =
    within_or (a * 2 ^ 1 % 2 ^ 64) (b * 2 ^ 1 % 2 ^ 64) (bit_of m) (bit_of o) (within_mod (a * 2 ^ 1) (b * 2 ^ 1) 64 (within_times a b 1 h)) (within_bit m o e)

pub nothing_within : (b : ℕ) → IsWithin 0 b
nothing_within b = omega (arith, and_le_l 0 b)

no_mark : (m : Bool) → not m ≡ true → (not m || false) ≡ true
no_mark m e = ap (λ (b : Bool). b || false) e

marks_within : (ms os : List Bool) → covers_marks ms os ≡ true → IsWithin (word_of ms) (word_of os)
marks_within [] os e = nothing_within (word_of os)
marks_within (m ∷ ms) [] e = within_shifted (word_of ms) 0 m false (marks_within ms [] (rest_of_and (not m) (covers_marks ms []) e)) (no_mark m (first_of_and (not m) (covers_marks ms []) e))
marks_within (m ∷ ms) (o ∷ os) e = within_shifted (word_of ms) (word_of os) m o (marks_within ms os (rest_of_and (not m || o) (covers_marks ms os) e)) (first_of_and (not m || o) (covers_marks ms os) e)

-- ---- some of the marks

take_none : (n : ℕ) (ms : List Bool) → covers_marks ms [] ≡ true → covers_marks (take n ms) [] ≡ true
take_none zero ms e = refl
take_none (suc n) [] e = refl
take_none (suc n) (m ∷ ms) e = both_true (not m) (covers_marks (take n ms) []) (first_of_and (not m) (covers_marks ms []) e) (take_none n ms (rest_of_and (not m) (covers_marks ms []) e))

covers_take : (n : ℕ) (ms os : List Bool) → covers_marks ms os ≡ true → covers_marks (take n ms) (take n os) ≡ true
covers_take zero ms os e = refl
covers_take (suc n) [] os e = refl
covers_take (suc n) (m ∷ ms) [] e = take_none (suc n) (m ∷ ms) e
covers_take (suc n) (m ∷ ms) (o ∷ os) e =
    both_true (not m || o) (covers_marks (take n ms) (take n os)) (first_of_and (not m || o) (covers_marks ms os) e) (covers_take n ms os (rest_of_and (not m || o) (covers_marks ms os) e))

drop_none : (n : ℕ) (ms : List Bool) → covers_marks ms [] ≡ true → covers_marks (drop n ms) [] ≡ true
drop_none zero ms e = e
drop_none (suc n) [] e = refl
drop_none (suc n) (m ∷ ms) e = drop_none n ms (rest_of_and (not m) (covers_marks ms []) e)

covers_drop : (n : ℕ) (ms os : List Bool) → covers_marks ms os ≡ true → covers_marks (drop n ms) (drop n os) ≡ true
covers_drop zero ms os e = e
covers_drop (suc n) [] os e = refl
covers_drop (suc n) (m ∷ ms) [] e = drop_none n ms (rest_of_and (not m) (covers_marks ms []) e)
covers_drop (suc n) (m ∷ ms) (o ∷ os) e = covers_drop n ms os (rest_of_and (not m || o) (covers_marks ms os) e)

-- ---- all words

pub same_number : (m n : ℕ) → m ≡ n → (m == n) ≡ true
same_number m n e = subst (λ (k : ℕ). (m == k) ≡ true) e (itself m) where
  itself : (k : ℕ) → (k == k) ≡ true
  itself k = search rules

words_within : (ms os : List Bool) (places : List ℕ) → covers_marks ms os ≡ true → are_within (map (word_at ms) places) (map (word_at os) places) ≡ true
words_within ms os [] e = refl
words_within ms os (i ∷ places) e =
    let word : IsWithin (word_at ms i) (word_at os i) = marks_within (take 64 (drop (64 * i) ms)) (take 64 (drop (64 * i) os)) (covers_take 64 (drop (64 * i) ms) (drop (64 * i) os) (covers_drop (64 * i) ms os e)) in
    both_true (bit_and (word_at ms i) (word_at os i) == word_at ms i) (are_within (map (word_at ms) places) (map (word_at os) places))
    (same_number (bit_and (word_at ms i) (word_at os i)) (word_at ms i) word) (words_within ms os places e)

pub covered_within : {D : Type 0} (ops : Operations D) (a b : AbsState D) → covers ops a b ≡ true → are_within (words_of a.marks.cells) (words_of b.marks.cells) ≡ true
covered_within ops a b e =
    let memory = rest_of_and (covers_values ops a b a.values b.values && share_alike a.values b.values) (int_le a.proved b.proved && covers_marks a.marks.cells b.marks.cells) e in
    words_within a.marks.cells b.marks.cells (0 ∷ 1 ∷ 2 ∷ 3 ∷ 4 ∷ 5 ∷ 6 ∷ 7 ∷ []) (rest_of_and (int_le a.proved b.proved) (covers_marks a.marks.cells b.marks.cells) memory)

-- ---- marks from words

bit_small : (m : Bool) → bit_of m < 2 ^ 1
bit_small true = omega arith
bit_small false = omega arith

-- a shifted word, in numbers
shifted_is : (n : ℕ) (m : Bool) → n < 2 ^ 63 → shifted n m ≡ n * 2 + bit_of m
shifted_is n m small =
    let fits : n * 2 ^ 1 % 2 ^ 64 ≡ n * 2 ^ 1 + 0 = omega (arith, small) in
    let none : 0 * 2 ^ 1 + bit_of m ≡ bit_of m = omega arith in
    let double : n * 2 ^ 1 + bit_of m ≡ n * 2 + bit_of m = omega arith in
    ap (λ (x : ℕ). bit_or x (bit_of m)) fits ∙ ap (λ (y : ℕ). bit_or (n * 2 ^ 1 + 0) y) (sym none) ∙ or_block 1 n 0 0 (bit_of m) (omega arith) (bit_small m)
    ∙ ap (λ (x : ℕ). x * 2 ^ 1 + bit_or 0 (bit_of m)) (or_zero_r n) ∙ ap (λ (y : ℕ). n * 2 ^ 1 + y) (or_zero_l (bit_of m)) ∙ double

-- a word of few marks is small
word_small : (k : ℕ) (ms : List Bool) → length ms ≤ k → k ≤ 64 → word_of ms < 2 ^ k
word_small zero [] short fits = omega arith
word_small zero (m ∷ ms) short fits = absurd (omega (arith, short))
word_small (suc k) [] short fits = pow_pos (suc k)
word_small (suc k) (m ∷ ms) short fits =
    let small : word_of ms < 2 ^ k = word_small k ms (omega (arith, short)) (omega (arith, fits)) in
    let below : 2 ^ k ≤ 2 ^ 63 = pow_mono {i = k} {j = 63} (omega (arith, fits)) in
    let power : 2 ^ (k + 1) ≡ 2 ^ k * 2 = pow_more 2 k in
    let next : suc k ≡ k + 1 = omega arith in
    let whole : 2 ^ suc k ≡ 2 ^ k * 2 = ap (λ (n : ℕ). 2 ^ n) next ∙ power in
    let bit : bit_of m < 2 = bit_small m in
    omega (arith, shifted_is (word_of ms) m (omega (arith, small, below)), small, whole, bit)

tail_small : (ms : List Bool) → length ms ≤ 63 → word_of ms < 2 ^ 63
tail_small ms short = word_small 63 ms short (omega arith)

-- the bits of a word of marks are these marks
bits_of_word : (ms : List Bool) → length ms ≤ 64 → bits_of (length ms) (word_of ms) ≡ ms
bits_of_word [] short = refl
bits_of_word (m ∷ ms) short =
    let is : shifted (word_of ms) m ≡ word_of ms * 2 + bit_of m = shifted_is (word_of ms) m (tail_small ms (omega (arith, short))) in
    let bit : bit_of m < 2 = bit_small m in
    let half : shifted (word_of ms) m / 2 ≡ word_of ms = omega (arith, is, bit) in
    let odd : shifted (word_of ms) m % 2 ≡ bit_of m = omega (arith, is, bit) in
    ap (λ (n : ℕ). (n == 1) ∷ bits_of (length ms) (shifted (word_of ms) m / 2)) odd ∙ ap (λ (b : Bool). b ∷ bits_of (length ms) (shifted (word_of ms) m / 2)) (mark_of_bit m)
    ∙ ap (λ (n : ℕ). m ∷ bits_of (length ms) n) half ∙ ap (λ (rest : List Bool). m ∷ rest) (bits_of_word ms (omega (arith, short)))
  where
    mark_of_bit : (m : Bool) → (bit_of m == 1) ≡ m
    mark_of_bit true = refl
    mark_of_bit false = refl

-- a word within another one covers its marks
bit_within : (m o : Bool) → bit_and (bit_of m) (bit_of o) ≡ bit_of m → (not m || o) ≡ true
bit_within true true e = refl
bit_within true false e = absurd cc
bit_within false o e = refl

within_covers : (ms os : List Bool) → length ms ≡ length os → length ms ≤ 64 → IsWithin (word_of ms) (word_of os) → covers_marks ms os ≡ true
within_covers [] os same short h = refl
within_covers (m ∷ ms) [] same short h = absurd (omega (arith, same))
within_covers (m ∷ ms) (o ∷ os) same short h =
    let n = word_of ms in
    let k = word_of os in
    let mine : shifted n m ≡ n * 2 ^ 1 + bit_of m = shifted_is n m (tail_small ms (omega (arith, short))) in
    let other : shifted k o ≡ k * 2 ^ 1 + bit_of o = shifted_is k o (tail_small os (omega (arith, short, same))) in
    let block : bit_and (n * 2 ^ 1 + bit_of m) (k * 2 ^ 1 + bit_of o) ≡ bit_and n k * 2 ^ 1 + bit_and (bit_of m) (bit_of o) = and_block 1 n k (bit_of m) (bit_of o) (bit_small m) (bit_small o) in
    let whole : bit_and n k * 2 ^ 1 + bit_and (bit_of m) (bit_of o) ≡ n * 2 ^ 1 + bit_of m = sym block ∙ ap (λ (x : ℕ). bit_and x (k * 2 ^ 1 + bit_of o)) (sym mine) ∙ ap (λ (y : ℕ). bit_and (shifted n m) y) (sym other) ∙ h ∙ mine in
    let low : bit_and (bit_of m) (bit_of o) ≤ bit_of m = and_le_l (bit_of m) (bit_of o) in
    let bit : bit_of m < 2 ^ 1 = bit_small m in
    both_true (not m || o) (covers_marks ms os) (bit_within m o (omega (arith, whole, low, bit))) (within_covers ms os (omega (arith, same)) (omega (arith, short)) (omega (arith, whole, low, bit)))

-- ---- eight words

-- marks of the first words, and those after them
chunk : (k : ℕ) (ms : List Bool) → drop (64 * k) ms ≡ take 64 (drop (64 * k) ms) ++ drop (64 * (k + 1)) ms
chunk k ms =
    let next : 64 * k + 64 ≡ 64 * (k + 1) = omega arith in
    sym (take-append-drop 64 (drop (64 * k) ms)) ∙ ap (λ (rest : List Bool). take 64 (drop (64 * k) ms) ++ rest) (drop-drop 64 (64 * k) ms ∙ ap (λ (n : ℕ). drop n ms) next)

chunk_length : (k : ℕ) (ms : List Bool) → length ms ≡ 512 → k < 8 → length (take 64 (drop (64 * k) ms)) ≡ 64
chunk_length k ms whole lt = omega (arith, length-take 64 (drop (64 * k) ms), length-drop (64 * k) ms, whole, lt)

chunk_bits : (k : ℕ) (ms : List Bool) → length ms ≡ 512 → k < 8 → bits_of 64 (word_at ms k) ≡ take 64 (drop (64 * k) ms)
chunk_bits k ms whole lt =
    let long = chunk_length k ms whole lt in
    ap (λ (n : ℕ). bits_of n (word_at ms k)) (sym long) ∙ bits_of_word (take 64 (drop (64 * k) ms)) (omega (arith, long))

-- the places of n words from the k-th on
abbrev places_from : ℕ → ℕ → List ℕ
places_from k zero = []
places_from k (suc n) = k ∷ places_from (k + 1) n

marks_from_words : (n k : ℕ) (ms : List Bool) → length ms ≡ 512 → k + n ≡ 8 → marks_of (map (word_at ms) (places_from k n)) ≡ drop (64 * k) ms
unfolding marks_of
marks_from_words zero k ms whole all = sym (drop_all (64 * k) ms (omega (arith, whole, all)))
marks_from_words (suc n) k ms whole all =
    ap (λ (first : List Bool). first ++ marks_of (map (word_at ms) (places_from (k + 1) n))) (chunk_bits k ms whole (omega (arith, all)))
    ∙ ap (λ (rest : List Bool). take 64 (drop (64 * k) ms) ++ rest) (marks_from_words n (k + 1) ms whole (omega (arith, all))) ∙ sym (chunk k ms)

-- marks are those of their words
pub marks_of_words : (ms : List Bool) → length ms ≡ 512 → marks_of (words_of ms) ≡ ms
marks_of_words ms whole = marks_from_words 8 0 ms whole refl

covers_append : (ms os more others : List Bool) → length ms ≡ length os → covers_marks ms os ≡ true → covers_marks more others ≡ true → covers_marks (ms ++ more) (os ++ others) ≡ true
covers_append [] [] more others same e f = f
covers_append [] (o ∷ os) more others same e f = absurd (omega (arith, same))
covers_append (m ∷ ms) [] more others same e f = absurd (omega (arith, same))
covers_append (m ∷ ms) (o ∷ os) more others same e f =
    both_true (not m || o) (covers_marks (ms ++ more) (os ++ others)) (first_of_and (not m || o) (covers_marks ms os) e) (covers_append ms os more others (omega (arith, same)) (rest_of_and (not m || o) (covers_marks ms os) e) f)

equal_number : (m n : ℕ) → (m == n) ≡ true → m ≡ n
equal_number m n e = eqb-true m n e

within_from : (n k : ℕ) (ms os : List Bool) → length ms ≡ 512 → length os ≡ 512 → k + n ≡ 8 → are_within (map (word_at ms) (places_from k n)) (map (word_at os) (places_from k n)) ≡ true → covers_marks (drop (64 * k) ms) (drop (64 * k) os) ≡ true
within_from zero k ms os whole other all e = ap (λ (xs : List Bool). covers_marks xs (drop (64 * k) os)) (drop_all (64 * k) ms (omega (arith, whole, all)))
within_from (suc n) k ms os whole other all e =
    let test = bit_and (word_at ms k) (word_at os k) == word_at ms k in
    let rest = are_within (map (word_at ms) (places_from (k + 1) n)) (map (word_at os) (places_from (k + 1) n)) in
    let word : IsWithin (word_at ms k) (word_at os k) = equal_number (bit_and (word_at ms k) (word_at os k)) (word_at ms k) (first_of_and test rest e) in
    let long = chunk_length k ms whole (omega (arith, all)) in
    let long_too = chunk_length k os other (omega (arith, all)) in
    ap (λ (xs : List Bool). covers_marks xs (drop (64 * k) os)) (chunk k ms) ∙ ap (λ (xs : List Bool). covers_marks (take 64 (drop (64 * k) ms) ++ drop (64 * (k + 1)) ms) xs) (chunk k os)
    ∙ covers_append (take 64 (drop (64 * k) ms)) (take 64 (drop (64 * k) os)) (drop (64 * (k + 1)) ms) (drop (64 * (k + 1)) os) (long ∙ sym long_too)
    (within_covers (take 64 (drop (64 * k) ms)) (take 64 (drop (64 * k) os)) (long ∙ sym long_too) (omega (arith, long)) word)
    (within_from n (k + 1) ms os whole other (omega (arith, all)) (rest_of_and test rest e))

-- where each word is within the other one, the marks are covered
pub words_cover : (ms os : List Bool) → length ms ≡ 512 → length os ≡ 512 → are_within (words_of ms) (words_of os) ≡ true → covers_marks ms os ≡ true
words_cover ms os whole other e = within_from 8 0 ms os whole other refl e
