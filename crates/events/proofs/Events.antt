-- What a line is read as, by the reader.
use Rattle.std.proofs.Common.{◌≡◌, ℕ, zero, suc, ◌<◌, ◌^◌, true, false, List, [], ◌∷◌, length, sym, ap, ◌∙◌, inl, inr, arith}
use Rattle.std.specs.Prelude.{bytes_eq, codes, slice_index, nat_le, Option, None, Some, IfSome, IsSomeAnd, option_map}
use Rattle.std.specs.List.{list_all}
use Rattle.stun.specs.Ranges.{is_between}
use Rattle.std.specs.Str.{IsUtf8}
use Rattle.std.proofs.lemmas.Bool.{cases_Bool, cond-true, cond-false, and_parts, leb-true}
use Rattle.std.proofs.lemmas.Option.{same_Some, none-some}
use Rattle.std.proofs.lemmas.Str.{IsUtf8-from_ascii}
use Rattle.credentials.specs.Texts.{is_nonce}
use Rattle.events.specs.Events.{Event, Nonce}
use Rattle.events.specs.Lines.{line_of, IsEvent}
use Rattle.events.specs.Reading.{parts_around, event_in, event_by, client_in_text, peer_in, datagram_in_text, nonce_in}
use Rattle.basics.specs.Options.{◌>>=◌}
use Rattle.events.specs.laws.Reading.{event_in-line_of, event_in-is}

module _ {P : Type 0} (slots : ℕ) (line : List ℕ) (read : P → Event) (r : Option P) (same : option_map read r ≡ event_in slots line) where
  pub found : IfSome r (λ p. IsEvent slots (read p) × (line ≡ line_of (read p)))
  found = of r same where
    of : (o : Option P) → option_map read o ≡ event_in slots line → IfSome o (λ p. IsEvent slots (read p) × (line ≡ line_of (read p)))
    of None e = tt
    of (Some p) e = event_in-is slots line (read p) (sym e)

  pub only : slots < 2 ^ 64 → (e : Event) → IsEvent slots e → line ≡ line_of e → IsSomeAnd r (λ p. read p ≡ e)
  only few e is has = of r same where
    read_back : event_in slots line ≡ Some e
    read_back = ap (event_in slots) has ∙ event_in-line_of slots e few is

    of : (o : Option P) → option_map read o ≡ event_in slots line → IsSomeAnd o (λ p. read p ≡ e)
    of None h = absurd (none-some e (h ∙ read_back))
    of (Some p) h = same_Some (read p) e (h ∙ read_back)

-- ---- nonces

ascii_at : (text : List ℕ) (i : ℕ) → list_all (is_between 0x21 0x7e) text ≡ true → slice_index text i < 128
ascii_at [] i h = omega arith
ascii_at (b ∷ text) zero h =
    let here = and_parts (is_between 0x21 0x7e b) (list_all (is_between 0x21 0x7e) text) h in
    omega (arith, leb-true b 0x7e (and_parts (nat_le 0x21 b) (nat_le b 0x7e) here.0).1)
ascii_at (b ∷ text) (suc i) h = ascii_at text i (and_parts (is_between 0x21 0x7e b) (list_all (is_between 0x21 0x7e) text) h).1

-- a nonce is ASCII
pub no_nonce : (text : List ℕ) → (IsUtf8 text → ⊥) → None ≡ nonce_in text
no_nonce text bad = elim (cases_Bool (is_nonce text)) [
  | inl t ↦ absurd (bad (IsUtf8-from_ascii text (λ i. ascii_at text i (and_parts (is_between 1 64 (length text)) (list_all (is_between 0x21 0x7e) text) t).1)))
  | inr f ↦ sym (cond-false (is_nonce text) (Some (Nonce text)) None f)
]

pub named_nonce : (slots : ℕ) (line kind text : List ℕ) → parts_around 0x20 line ≡ Some (kind, text) → bytes_eq kind (codes "c") ≡ false → bytes_eq kind (codes "p") ≡ false → bytes_eq kind (codes "n") ≡ true
    → event_in slots line ≡ nonce_in text
named_nonce slots line kind text split no_c no_p is_n =
    ap (λ (o : Option (List ℕ × List ℕ)). o >>= (λ p. event_by slots p.0 p.1)) split
    ∙ cond-false (bytes_eq kind (codes "c")) (datagram_in_text client_in_text text) _ no_c
    ∙ cond-false (bytes_eq kind (codes "p")) (datagram_in_text (peer_in slots) text) _ no_p
    ∙ cond-true (bytes_eq kind (codes "n")) (nonce_in text) None is_n
