-- What a reader shows of a line, piece by piece.
use Rattle.std.proofs.Common.{◌≡◌, ℕ, ◌+◌, ◌≤◌, List, [], ◌++◌, length, length-append, take, sym, ap, subst, ◌∙◌, arith, take-take, length-take-le}
use Rattle.std.specs.Prelude.{Option, None, Some, IfSome}
use Rattle.std.specs.Io.{StartsWith, StopsAt, appended_bytes}
use Rattle.std.specs.Io.BufRead.{DropsConsumable}
use Rattle.std.specs.Io.KnownBytes.{Keeps, Consumes, IsAtEnd}
use Rattle.std.proofs.BufReadLemmas.{Consumes_shown}
use Rattle.std.proofs.KnownBytes.{starts_with_rest}
use Rattle.std.proofs.lemmas.List.{take_at}
use Rattle.basics.specs.Shown.{HasShown}

shown_after : (kept read left : Option (List ℕ)) (old new : List ℕ) (n : ℕ) → Keeps kept read → HasShown read left old new n → HasShown kept left old new n
shown_after None read left old new n keeps is = record { shown = is.shown; appended = is.appended; counted = is.counted; stops = is.stops; consumed = tt; at_end = λ _. tt }
shown_after (Some xs) None left old new n keeps is = absurd keeps
shown_after (Some xs) (Some ys) left old new n keeps is = subst (λ zs. HasShown (Some zs) left old new n) keeps is

module _ (kept read filled left : Option (List ℕ)) (buffered : Option ℕ) (s : List ℕ) (after : Option (List ℕ)) (old before new : List ℕ) (n : ℕ) where
  abbrev part : List ℕ
  part = appended_bytes before new

  taken : (o : Option (List ℕ)) → Consumes (Some s) o part → length part ≡ n → take n s ≡ part
  taken None consumed count = absurd consumed
  taken (Some rest) consumed count = ap (take n) consumed ∙ take_at part rest n count

  within : (o : Option (List ℕ)) → Consumes (Some s) o part → length part ≡ n → n ≤ length s
  within None consumed count = absurd consumed
  within (Some rest) consumed count = omega (arith, count, ap length consumed, length-append part rest)

  pub shows : before ≡ old → Keeps kept read → StartsWith new before → StopsAt part 10 → length new ≡ length before + n → Consumes (Some s) after part → (n ≡ 0 → IsAtEnd (Some s))
      → IfSome read (λ xs. StartsWith xs s) → IfSome read (λ xs. length s ≡ 0 → xs ≡ []) → Keeps read filled
      → IfSome read (λ _. IfSome buffered (λ k. length s ≤ k)) → DropsConsumable filled left buffered n
      → HasShown kept left old new n
  shows same keeps starts stops longer consumed at_end front end fills fits drops =
      let split : new ≡ before ++ part = starts_with_rest new before starts in
      let count : length part ≡ n = omega (arith, longer, ap length split, length-append before part) in
      let dropped = Consumes_shown read filled left buffered s n (within after consumed count) front end fills fits drops in
      shown_after kept read left old new n keeps (record {
        shown = part;
        appended = split ∙ ap (λ l. l ++ part) same;
        counted = count;
        stops = stops;
        consumed = subst (Consumes read left) (taken after consumed count) dropped.0;
        at_end = λ none. ends read end (ap length (at_end none));
      })
    where
      ends : (o : Option (List ℕ)) → IfSome o (λ xs. length s ≡ 0 → xs ≡ []) → length s ≡ 0 → IsAtEnd o
      ends None h e = tt
      ends (Some xs) h e = h e

-- the same where only the first m bytes that are shown are looked at
module _ (s : List ℕ) (m : ℕ) (few : m ≤ length s) (some : m ≡ 0 → length s ≡ 0) where
  size : length (take m s) ≡ m
  size = length-take-le m s few

  starts_cut : (read : Option (List ℕ)) → IfSome read (λ xs. StartsWith xs s) → IfSome read (λ xs. StartsWith xs (take m s))
  starts_cut None h = tt
  starts_cut (Some xs) h = ap (λ k. take k xs) size ∙ sym (take-take m (length s) xs few) ∙ ap (take m) h

  ends_cut : (read : Option (List ℕ)) → IfSome read (λ xs. length s ≡ 0 → xs ≡ []) → IfSome read (λ xs. length (take m s) ≡ 0 → xs ≡ [])
  ends_cut None h = tt
  ends_cut (Some xs) h = λ none. h (some (sym size ∙ none))

  fits_cut : (read : Option (List ℕ)) (buffered : Option ℕ) → IfSome read (λ _. IfSome buffered (λ k. length s ≤ k)) → IfSome read (λ _. IfSome buffered (λ k. length (take m s) ≤ k))
  fits_cut None buffered h = tt
  fits_cut (Some xs) None h = tt
  fits_cut (Some xs) (Some k) h = omega (arith, size, few, h)

  pub shows_front : (kept read filled left : Option (List ℕ)) (buffered : Option ℕ) (after : Option (List ℕ)) (old before new : List ℕ) (n : ℕ)
      → before ≡ old → Keeps kept read → StartsWith new before → StopsAt (appended_bytes before new) 10 → length new ≡ length before + n
      → Consumes (Some (take m s)) after (appended_bytes before new) → (n ≡ 0 → IsAtEnd (Some (take m s)))
      → IfSome read (λ xs. StartsWith xs s) → IfSome read (λ xs. length s ≡ 0 → xs ≡ []) → Keeps read filled
      → IfSome read (λ _. IfSome buffered (λ k. length s ≤ k)) → DropsConsumable filled left buffered n
      → HasShown kept left old new n
  shows_front kept read filled left buffered after old before new n same keeps starts stops longer consumed at_end front end fills fits drops =
      shows kept read filled left buffered (take m s) after old before new n same keeps starts stops longer consumed at_end
      (starts_cut read front) (ends_cut read end) fills (fits_cut read buffered fits) drops

-- no more is appended than is looked at
pub appends_few : (s : List ℕ) (m most : ℕ) (old new rest : List ℕ) → m ≤ length s → m ≤ most → StartsWith new old → take m s ≡ appended_bytes old new ++ rest → length new ≤ length old + most
appends_few s m most old new rest few within starts cut =
    omega (
      arith,
      few,
      within,
      ap length (starts_with_rest new old starts),
      length-append old (appended_bytes old new),
      ap length cut,
      length-append (appended_bytes old new) rest,
      length-take-le m s few,
    )
