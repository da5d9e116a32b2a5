-- Interface. Marks as words: 64 marks a word, the first one at its lowest bit.
use Rattle.std.specs.Prelude.{ℕ, zero, suc, ◌*◌, ◌/◌, ◌%◌, ◌^◌, ◌==◌, ◌&&◌, Bool, true, false, List, [], ◌∷◌, ◌++◌, map, take, drop, bit_or, bit_and}

abbrev pub bit_of : Bool → ℕ
bit_of true = 1
bit_of false = 0

-- a word shifted by one bit, with a mark at its lowest one
abbrev pub shifted : ℕ → Bool → ℕ
shifted n m = bit_or (n * 2 ^ 1 % 2 ^ 64) (bit_of m)

abbrev pub word_of : List Bool → ℕ
word_of [] = 0
word_of (m ∷ ms) = shifted (word_of ms) m

-- the marks from a multiple of 64 on
abbrev pub word_at : List Bool → ℕ → ℕ
word_at marks i = word_of (take 64 (drop (64 * i) marks))

abbrev pub words_of : List Bool → List ℕ
words_of marks = map (word_at marks) (0 ∷ 1 ∷ 2 ∷ 3 ∷ 4 ∷ 5 ∷ 6 ∷ 7 ∷ [])

-- each word has no bits but those of the other one at its place
abbrev pub are_within : List ℕ → List ℕ → Bool
are_within (w ∷ words) (o ∷ others) = (bit_and w o == w) && are_within words others
are_within _ _ = true

-- the lowest bits of a word as marks, the lowest one first
abbrev pub bits_of : ℕ → ℕ → List Bool
bits_of zero word = []
bits_of (suc n) word = (word % 2 == 1) ∷ bits_of n (word / 2)

-- the marks that words have
unfoldable pub marks_of : List ℕ → List Bool
marks_of [] = []
marks_of (word ∷ words) = bits_of 64 word ++ marks_of words
