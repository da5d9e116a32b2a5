-- A line that is read piece by piece.
use Rattle.std.proofs.Common.{◌≡◌, ◌≢◌, ℕ, ◌+◌, ◌-◌, ◌<◌, inl, inr, List, [], ◌∷◌, ◌++◌, All, length, length-append, take, get_or, refl, sym, ap, subst, ◌∙◌, arith, append_assoc}
use Rattle.std.specs.Prelude.{Option, None, Some, IfSome, slice_get}
use Rattle.std.specs.Io.{StopsAt}
use Rattle.std.specs.Io.BufRead.{first_piece, drop_through, DropsThrough}
use Rattle.std.specs.Io.KnownBytes.{Consumes, IsAtEnd}
use Rattle.std.proofs.KnownBytes.{Consumes-nil, Consumes-trans}
use Rattle.std.proofs.Transfers.{StopsAt-append, All-of_StopsAt}
use Rattle.std.proofs.lemmas.List.{take_all, take_more, get_or_default, nil_from_length}
use Rattle.std.proofs.lemmas.Option.{slice_get-get_or, slice_get_within, same_Some}
use Rattle.std.proofs.lemmas.List.Elements.{All-nil, All-append}
use Rattle.basics.specs.Shown.{HasShown}
use Rattle.relay.specs.ReadLines.{IsLine}
use Rattle.relay.specs.declared.lines.TheConstants.{MAX_LINE}
use Rattle.relay.proofs.FirstLines.{line_in, piece_ended, piece_last}

abbrev pub IsOpen : List ℕ → Type 0
IsOpen bytes = All (λ x. x ≢ 10) bytes

-- ---- a line under way: what was read of it has no line feed

pub record IsUnread (start left : Option (List ℕ)) (line : List ℕ) : Type 0 where
  pub unended : IsOpen line
  pub consumed : Consumes start left line

pub unread : (start : Option (List ℕ)) → IsUnread start start []
unread start = record { unended = All-nil (λ x. x ≢ 10); consumed = Consumes-nil start }

-- a line that was read, and what is left
pub record HasLineOf (start left : Option (List ℕ)) (line : List ℕ) : Type 0 where
  pub is_line : IfSome start (λ xs. (xs ≢ []) × IsLine line xs)
  pub rest : DropsThrough start left 10

-- one more piece
module _ (start before left : Option (List ℕ)) (line new : List ℕ) (count : ℕ) (so_far : IsUnread start before line) (is : HasShown before left line new count) where
  all_consumed : Consumes start left new
  all_consumed = subst (Consumes start left) (sym is.appended) (Consumes-trans start before left line is.shown so_far.consumed is.consumed)

  -- no byte but the last is a line feed
  one_feed : StopsAt new 10
  one_feed = subst (λ l. StopsAt l 10) (sym is.appended) (StopsAt-append line is.shown 10 so_far.unended is.stops)

  -- a line feed came last
  pub ends : slice_get new (length new - 1) ≡ Some 10 → HasLineOf start left (take (length new - 1) new)
  ends feed = of start left all_consumed where
    body : List ℕ
    body = take (length new - 1) new

    inside : length new - 1 < length new
    inside = slice_get_within new (length new - 1) 10 feed

    split : new ≡ body ++ 10 ∷ []
    split =
        let all : length new - 1 + 1 ≡ length new = omega (arith, inside) in
        sym (take_all (length new) new (omega arith)) ∙ ap (λ n. take n new) (sym all) ∙ take_more new (length new - 1) 0 inside
        ∙ ap (λ b. body ++ b ∷ []) (same_Some _ 10 (sym (slice_get-get_or new (length new - 1) 0 inside) ∙ feed))

    of : (a b : Option (List ℕ)) → Consumes a b new → HasLineOf a b body
    of None b consumed = record { is_line = tt; rest = tt }
    of (Some xs) None consumed = absurd consumed
    of (Some xs) (Some ys) consumed =
        let whole : xs ≡ body ++ 10 ∷ ys = consumed ∙ ap (λ l. l ++ ys) split ∙ append_assoc body (10 ∷ []) ys in
        let pieces = piece_ended body ys one_feed in
        let some : xs ≢ [] = λ e. absurd (omega (arith, ap length (sym e ∙ whole), length-append body (10 ∷ ys))) in
        record {
          is_line = (some, inl (sym (ap (first_piece 10) whole ∙ pieces.0)));
          rest = ap Some (sym (ap (drop_through 10) whole ∙ pieces.1));
        }

  -- no line feed came last
  module _ (no_feed : slice_get new (length new - 1) ≢ Some 10) where
    still_unended : IsOpen new
    still_unended = of new one_feed no_feed where
      of : (l : List ℕ) → StopsAt l 10 → slice_get l (length l - 1) ≢ Some 10 → IsOpen l
      of [] stops other = All-nil (λ x. x ≢ 10)
      of (x ∷ xs) stops other =
          let n = length (x ∷ xs) in
          let b = get_or (x ∷ xs) (n - 1) 0 in
          let within : n - 1 < n = omega arith in
          All-of_StopsAt (x ∷ xs) 10 n b refl (omega arith) (get_or_default (x ∷ xs) (n - 1) 0 b within)
          (λ e. other (slice_get-get_or (x ∷ xs) (n - 1) 0 within ∙ ap Some e)) stops

    pub goes_on : IsUnread start left new
    goes_on = record { unended = still_unended; consumed = all_consumed }

    -- the input is at its end
    module _ (none : count ≡ 0) where
      all_read : (a b c : Option (List ℕ)) → Consumes a b line → Consumes b c is.shown → IsAtEnd b → IfSome a (λ xs. (xs ≡ new) × (c ≡ Some []))
      all_read None b c first more ended = tt
      all_read (Some xs) None c first more ended = absurd first
      all_read (Some xs) (Some ys) None first more ended = absurd more
      all_read (Some xs) (Some ys) (Some zs) first more ended =
          let empty : is.shown ≡ [] = nil_from_length is.shown (is.counted ∙ none) in
          let rest : zs ≡ [] = sym (more ∙ ap (λ l. l ++ zs) empty) ∙ ended in
          (first ∙ ap (λ l. line ++ l) ended ∙ ap (λ l. line ++ l) (sym empty) ∙ sym is.appended, ap Some rest)

      read_all : IfSome start (λ xs. (xs ≡ new) × (left ≡ Some []))
      read_all = all_read start before left so_far.consumed is.consumed (is.at_end none)

      pub drops : DropsThrough start left 10
      drops = of start read_all where
        of : (a : Option (List ℕ)) → IfSome a (λ xs. (xs ≡ new) × (left ≡ Some [])) → DropsThrough a left 10
        of None h = tt
        of (Some xs) h = h.1 ∙ ap Some (sym (ap (drop_through 10) h.0 ∙ (piece_last new still_unended).1))

      pub ends_input : new ≢ [] → IfSome start (λ xs. (xs ≢ []) × IsLine new xs)
      ends_input some = of start read_all where
        of : (a : Option (List ℕ)) → IfSome a (λ xs. (xs ≡ new) × (left ≡ Some [])) → IfSome a (λ xs. (xs ≢ []) × IsLine new xs)
        of None h = tt
        of (Some xs) h = (λ e. some (sym h.0 ∙ e), inl (sym (ap (first_piece 10) h.0 ∙ (piece_last new still_unended).0)))

      pub at_end : new ≡ [] → IsAtEnd start
      at_end empty = of start read_all where
        of : (a : Option (List ℕ)) → IfSome a (λ xs. (xs ≡ new) × (left ≡ Some [])) → IsAtEnd a
        of None h = tt
        of (Some xs) h = h.0 ∙ empty

    -- the line is too long
    pub too_long : MAX_LINE < length new → IfSome start (λ xs. (xs ≢ []) × IsLine new xs)
    too_long long = of start left all_consumed where
      of : (a b : Option (List ℕ)) → Consumes a b new → IfSome a (λ xs. (xs ≢ []) × IsLine new xs)
      of None b consumed = tt
      of (Some xs) None consumed = absurd consumed
      of (Some xs) (Some ys) consumed =
          let rest = line_in ys in
          let some : xs ≢ [] = λ e. absurd (omega (arith, long, ap length (sym e ∙ consumed), length-append new ys)) in
          let unended : IsOpen (new ++ rest.line) = All-append (λ x. x ≢ 10) new rest.line still_unended rest.free in (
            some,
            inr (
              long,
              (
                rest.line,
                elim rest.split [
                  | inl h ↦
                      let whole : xs ≡ (new ++ rest.line) ++ 10 ∷ h.0 = consumed ∙ ap (λ l. new ++ l) h.1 ∙ sym (append_assoc new rest.line (10 ∷ h.0)) in
                      ap (first_piece 10) whole ∙ (piece_ended (new ++ rest.line) h.0 unended).0
                  | inr e ↦
                      let whole : xs ≡ new ++ rest.line = consumed ∙ ap (λ l. new ++ l) e in
                      ap (first_piece 10) whole ∙ (piece_last (new ++ rest.line) unended).0
                ],
              ),
            ),
          )
