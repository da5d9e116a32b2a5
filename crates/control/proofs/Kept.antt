-- What is kept of a buffer after the message that is written over its first bytes.
use Rattle.std.proofs.Common.{◌≡◌, ℕ, ◌≤◌, List, length, drop, ap, ◌∙◌, sym, refl, subst, arith, Result, Ok}
use Rattle.std.specs.Result.{OnOk}
use Rattle.std.proofs.lemmas.Slice.{drop-append-drop}
use Rattle.stun.specs.Builders.{bytes_of, parts_of, used_of, Appends}
use Rattle.stun.specs.Building.{IsBegun, building_parts, used_in}
use Rattle.stun.specs.Messages.{parts_bytes, empty_message}
use Rattle.stun.specs.declared.building.Builder.{Builder}
use Rattle.control.specs.Serving.{IsKeptFrom}

pub kept_same : (from : ℕ) (bytes : List ℕ) → IsKeptFrom from bytes bytes
kept_same from bytes = λ n far. refl

pub kept_then : (from upto : ℕ) (a b c : List ℕ) → from ≤ upto → IsKeptFrom from a b → IsKeptFrom upto b c → IsKeptFrom upto a c
kept_then from upto a b c longer first second = λ n far. second n far ∙ first n (omega (arith, longer, far))

used_is : (bytes : List ℕ) → length (parts_bytes (building_parts bytes)) ≡ used_in bytes
unfolding used_in
used_is bytes = refl

module _ {kind : ℕ} {value : List ℕ} {old new : Builder} (appends : Appends kind value old new) where
  pub appended_longer : used_of old ≤ used_of new
  appended_longer = omega (arith, appends.used)

  pub appended_kept : IsKeptFrom (used_of new) (bytes_of old) (bytes_of new)
  appended_kept n far =
      ap (drop n) appends.bytes
      ∙ drop-append-drop (length (parts_bytes (parts_of new))) (bytes_of old) (parts_bytes (parts_of new)) n (omega (arith, far, used_is (bytes_of new))) refl

-- a message was begun where that is no error
pub begun_when_ok : {E P : Type 0} (result : Result (Unit {0}) E) (done : Unit {0}) → result ≡ Ok done → OnOk result P → P
begun_when_ok {E} {P} result done is begun = subst (λ (r : Result (Unit {0}) E). OnOk r P) is begun

pub begun_kept : (kind : ℕ) (tx old new : List ℕ) → IsBegun kind tx old new → IsKeptFrom (used_in new) old new
begun_kept kind tx old new begins n far =
    ap (drop n) begins.bytes
    ∙ drop-append-drop (length (parts_bytes (empty_message kind tx))) old (parts_bytes (empty_message kind tx)) n
    (omega (arith, far, used_is new, ap (λ p. length (parts_bytes p)) begins.parts)) refl

-- the buffer at the end is that of the last builder
pub kept_whole : (result : ℕ) (final last old : List ℕ) → final ≡ last → drop result last ≡ drop result old → drop result final ≡ drop result old
kept_whole result final last old same kept = ap (drop result) same ∙ kept

-- a message that was begun, and to which two functions appended
pub kept_reply : (kind : ℕ) (tx old begun : List ℕ) (first second third : Builder) (result : ℕ) → IsBegun kind tx old begun → bytes_of first ≡ begun
    → used_of first ≤ used_of second → IsKeptFrom (used_of second) (bytes_of first) (bytes_of second)
    → used_of second ≤ used_of third → IsKeptFrom (used_of third) (bytes_of second) (bytes_of third) → result ≡ used_of third
    → drop result (bytes_of third) ≡ drop result old
kept_reply kind tx old begun first second third result begins same longer kept longer_yet kept_yet size =
    let at_first : IsKeptFrom (used_of first) old (bytes_of first) = subst (λ (bytes : List ℕ). IsKeptFrom (used_in bytes) old bytes) (sym same) (begun_kept kind tx old begun begins) in
    let at_second = kept_then (used_of first) (used_of second) old (bytes_of first) (bytes_of second) longer at_first kept in
    kept_then (used_of second) (used_of third) old (bytes_of second) (bytes_of third) longer_yet at_second kept_yet result (omega (arith, size))
