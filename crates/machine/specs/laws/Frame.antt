-- Interface. Laws of a frame whose room was written, and that was started.
use Rattle.std.proofs.Common.{◌≡◌, ℕ, ◌+◌, ◌≤◌, List, [], ◌∷◌, ◌++◌, length, take, drop, sym, ap, ◌∙◌, arith, append_assoc}
use Rattle.std.proofs.lemmas.List.{length-append, length-take-le, length-drop, length-take, take_at, drop_at, take_all, take-take}
use Rattle.semantics.specs.Machine.{headroom, datagram_area}
use Rattle.semantics.specs.declared.limits.TheConstants.{HEADROOM, MAX_DATAGRAM, TAILROOM}
use Rattle.semantics.specs.laws.Start.{length-headroom}
use Rattle.machine.specs.Contents.{Contents, IsStartedOver, datagram_of, room_of, with_room}
use Rattle.machine.specs.declared.context.Context.{Context}

-- the datagram of an area that begins with its surroundings
pub datagram_inside : (datagram rest area : List ℕ) (n : ℕ) → length datagram ≡ n → area ≡ datagram_area datagram ++ rest → take n (drop HEADROOM area) ≡ datagram
datagram_inside datagram rest area n long e =
    let zeros : List ℕ = 0 ∷ 0 ∷ 0 ∷ [] in
    let regrouped : area ≡ headroom ++ (datagram ++ (zeros ++ rest)) = e ∙ append_assoc (headroom ++ datagram) zeros rest ∙ append_assoc headroom datagram (zeros ++ rest) in
    let after : drop HEADROOM area ≡ datagram ++ (zeros ++ rest) = ap (drop HEADROOM) regrouped ∙ drop_at headroom (datagram ++ (zeros ++ rest)) HEADROOM length-headroom in
    ap (take n) after ∙ take_at datagram (zeros ++ rest) n long

-- a room that was written has what was written there
pub room_written : (f : Contents) (bytes : List ℕ) → length (room_of f) ≡ MAX_DATAGRAM → length bytes ≡ MAX_DATAGRAM → room_of (with_room f bytes) ≡ bytes
room_written f bytes room long =
    let front : List ℕ = take HEADROOM f.area in
    let rest : List ℕ = drop (HEADROOM + length bytes) f.area in
    let spans : HEADROOM + MAX_DATAGRAM ≤ length f.area = omega (arith, room, length-take MAX_DATAGRAM (drop HEADROOM f.area), length-drop HEADROOM f.area) in
    let front_long : length front ≡ HEADROOM = length-take-le HEADROOM f.area (omega arith) in
    let whole : length (front ++ bytes ++ rest) ≤ length f.area = omega (arith, length-append (front ++ bytes) rest, length-append front bytes, front_long, length-drop (HEADROOM + length bytes) f.area) in
    let after : drop HEADROOM (with_room f bytes).area ≡ bytes ++ rest =
    ap (drop HEADROOM) (take_all (length f.area) (front ++ bytes ++ rest) whole ∙ append_assoc front bytes rest) ∙ drop_at front (bytes ++ rest) HEADROOM front_long in
    ap (take MAX_DATAGRAM) after ∙ take_at bytes rest MAX_DATAGRAM long

-- a frame that was started has the first bytes of its room as its datagram
pub datagram_started : (old new : Contents) (given : Context) (n : ℕ) → length (room_of old) ≡ MAX_DATAGRAM → n ≤ MAX_DATAGRAM → IsStartedOver old new given n → datagram_of new ≡ take n (room_of old)
datagram_started old new given n room few started =
    let from : List ℕ = drop HEADROOM old.area in
    let long : n ≤ length from = omega (arith, room, length-take MAX_DATAGRAM from) in
    ap (λ (k : ℕ). take k (drop HEADROOM new.area)) started.length
    ∙ datagram_inside (take n from) (drop (HEADROOM + TAILROOM + n) old.area) new.area n (length-take-le n from long) started.area
    ∙ sym (take-take n MAX_DATAGRAM from few)
