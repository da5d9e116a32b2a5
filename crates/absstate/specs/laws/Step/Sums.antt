-- Internal. A place of the datagram and a number: where the abstract sum is accepted, the machine's has a place of its
-- anchor.
use Rattle.std.proofs.Common.{◌≡◌, ℕ, suc, ◌<◌, ◌≤◌, ◌^◌, Bool, true, false, ◌&&◌, ℤ, pos, negsuc, ◌+ℤ◌, ◌-ℤ◌, ◌≤ℤ◌, Option, Some, None, refl, sym, ap, ◌∙◌, subst, arith}
use Rattle.std.specs.Prelude.{int_le, if◌then◌else◌}
use Rattle.std.specs.Option.{option_map}
use Rattle.std.specs.Prelude.{◌==◌}
use Rattle.std.specs.Int.{w64, cast_signed}
use Rattle.std.proofs.lemmas.Bool.{eqb-true}
use Rattle.std.proofs.lemmas.Int.{ints}
use Rattle.insn.specs.declared.width.Width.{Width}
use Rattle.insn.specs.declared.width.Width.TheVariants.{W64}
use Rattle.insn.specs.declared.operator.AluOp.{AluOp}
use Rattle.insn.specs.declared.operator.AluOp.TheVariants.{Add, Sub}
use Rattle.semantics.specs.Effects.{near_place, moved_place}
use Rattle.interval.specs.declared.domain.Bounds.{Bounds}
use Rattle.absstate.specs.AbstractStates.{low_of, high_of, proved_of, greatest_id}
use Rattle.absstate.specs.AbstractSteps.{with_both, short_offset, moved_offset, lowest, highest, is_one_sided, proved_within, made_anchor, made_sum, data_sum}
use Rattle.absstate.specs.Membership.{Places, place_of, IsAnchorPlace, IsAnchored}
use Rattle.absstate.specs.declared.abstract_state.Anchor.{Anchor}
use Rattle.absstate.specs.declared.abstract_state.Anchor.TheVariants.{First, Variable}
use Rattle.absstate.specs.declared.abstract_state.AbstractValue.{AbstractValue}
use Rattle.absstate.specs.declared.abstract_state.AbstractValue.TheVariants.{Data}
use Rattle.absstate.specs.declared.abstract_state.AbsState.{AbsState}
use Rattle.absstate.specs.laws.Step.Bounds.{le_of, le_is_true}
use Rattle.absstate.specs.laws.Step.MemoryValues.{first_of_and, rest_of_and, both_true}
use Rattle.absstate.specs.laws.Step.Anchors.{Extends, extends_itself, with_place, with_place_extends, with_place_at, signed_between, sum_place}

-- ---- near places

some_is : (z y : ℤ) → ◌≡◌ {A = Option ℤ} (Some z) (Some y) → z ≡ y
some_is z y e = cc

record IsNear (z r : ℤ) : Type 0 where
  same : r ≡ z
  low : negsuc 1048575 ≤ℤ z
  high : z ≤ℤ pos 1048576

near_by : (z r : ℤ) (t : Bool) → (int_le (negsuc 1048575) z && int_le z (pos 1048576)) ≡ t → (if t then Some z else None) ≡ Some r → IsNear z r
near_by z r true e f = record {
  same = sym (some_is z r f);
  low = le_of (negsuc 1048575) z (first_of_and (int_le (negsuc 1048575) z) (int_le z (pos 1048576)) e);
  high = le_of z (pos 1048576) (rest_of_and (int_le (negsuc 1048575) z) (int_le z (pos 1048576)) e);
}
near_by z r false e f = absurd cc

near_of : (z r : ℤ) → near_place z ≡ Some r → IsNear z r
near_of z r e = near_by z r (int_le (negsuc 1048575) z && int_le z (pos 1048576)) refl e

near_from : (z : ℤ) → negsuc 1048575 ≤ℤ z → z ≤ℤ pos 1048576 → near_place z ≡ Some z
near_from z p q = ap (λ (t : Bool). if t then Some z else None) (both_true (int_le (negsuc 1048575) z) (int_le z (pos 1048576)) (le_is_true (negsuc 1048575) z p) (le_is_true z (pos 1048576) q))

-- ---- shifts

minus_is : (z c : ℤ) → (z -ℤ c) ≡ (z +ℤ (pos 0 -ℤ c))
minus_is z c = omega (arith, ints)

-- a number moves every place alike
record Shifts (op : AluOp) (w : Width) (n : ℕ) : Type 0 where
  by : ℤ
  at : (z : ℤ) → moved_place op w z n ≡ near_place (z +ℤ by)

shifts_of : (op : AluOp) (w : Width) (n : ℕ) (z r : ℤ) → moved_place op w z n ≡ Some r → Shifts op w n
shifts_of Add W64 n z r e = record { by = cast_signed w64 n; at = λ y. refl }
shifts_of Sub W64 n z r e = record { by = pos 0 -ℤ cast_signed w64 n; at = λ y. ap near_place (minus_is y (cast_signed w64 n)) }
shifts_of op w n z r e = absurd cc

-- a sum with a number between bounds on one side: the places move by numbers between those by which the ends move
record Spreads (op : AluOp) (w : Width) (low high least greatest : ℤ) (n : ℕ) : Type 0 where
  by_low : ℤ
  by : ℤ
  by_high : ℤ
  below : by_low ≤ℤ by
  above : by ≤ℤ by_high
  least_is : least ≡ (low +ℤ by_low)
  greatest_is : greatest ≡ (high +ℤ by_high)
  least_near : negsuc 1048575 ≤ℤ least
  greatest_near : greatest ≤ℤ pos 1048576
  at : (z : ℤ) → moved_place op w z n ≡ near_place (z +ℤ by)

spreads_of : (op : AluOp) (w : Width) (b : Bounds) (low high least greatest : ℤ) (n : ℕ) → b.lo ≤ n → n ≤ b.hi → n < 2 ^ 64 → is_one_sided b ≡ true → lowest op w low b ≡ Some least → highest op w high b ≡ Some greatest → Spreads op w low high least greatest n
spreads_of Add W64 b low high least greatest n p q fits side e f =
    let between = signed_between b.lo n b.hi p q fits (le_of (cast_signed w64 b.lo) (cast_signed w64 b.hi) side) in
    let l = near_of (low +ℤ cast_signed w64 b.lo) least e in
    let h = near_of (high +ℤ cast_signed w64 b.hi) greatest f in
    record {
      by_low = cast_signed w64 b.lo;
      by = cast_signed w64 n;
      by_high = cast_signed w64 b.hi;
      below = between.0;
      above = between.1;
      least_is = l.same;
      greatest_is = h.same;
      least_near = subst (λ (z : ℤ). negsuc 1048575 ≤ℤ z) (sym l.same) l.low;
      greatest_near = subst (λ (z : ℤ). z ≤ℤ pos 1048576) (sym h.same) h.high;
      at = λ z. refl;
    }
spreads_of Sub W64 b low high least greatest n p q fits side e f =
    let between = signed_between b.lo n b.hi p q fits (le_of (cast_signed w64 b.lo) (cast_signed w64 b.hi) side) in
    let l = near_of (low -ℤ cast_signed w64 b.hi) least e in
    let h = near_of (high -ℤ cast_signed w64 b.lo) greatest f in
    record {
      by_low = pos 0 -ℤ cast_signed w64 b.hi;
      by = pos 0 -ℤ cast_signed w64 n;
      by_high = pos 0 -ℤ cast_signed w64 b.lo;
      below = omega (arith, ints, between.1);
      above = omega (arith, ints, between.0);
      least_is = l.same ∙ omega (arith, ints);
      greatest_is = h.same ∙ omega (arith, ints);
      least_near = subst (λ (z : ℤ). negsuc 1048575 ≤ℤ z) (sym l.same) l.low;
      greatest_near = subst (λ (z : ℤ). z ≤ℤ pos 1048576) (sym h.same) h.high;
      at = λ z. ap near_place (minus_is z (cast_signed w64 n));
    }
spreads_of op w b low high least greatest n p q fits side e f = absurd cc

-- ---- sums

-- the machine's place after a sum, and the anchors' places
pub record IsSum {D : Type 0} (places : Places) (size : ℕ) (a : AbsState D) (op : AluOp) (w : Width) (from : ℤ) (n : ℕ) (anchor : Anchor) (k : ℤ) : Type 0 where
  pub more : Places
  pub extends : Extends (greatest_id a.values) places more
  pub anchored : IsAnchored more size anchor
  pub moved : moved_place op w from n ≡ Some (place_of more anchor +ℤ k)

-- the place of an anchor lies in its interval, and the datagram reaches as far as is proved
pub place_is : {D : Type 0} (places : Places) (size : ℕ) (a : AbsState D) (anchor : Anchor) → a.proved ≤ℤ pos size → IsAnchored places size anchor → IsAnchorPlace size (low_of anchor) (high_of anchor) (proved_of a anchor) (place_of places anchor)
place_is places size a First reaches is = record { least = omega (arith, ints); greatest = omega (arith, ints); reaches = omega (arith, ints, reaches) }
place_is places size a (Variable id low high proved) reaches is = is

with_both_some : {A : Type 0} (o option : Option ℤ) (i : ℤ → ℤ → Option A) (r : A) → with_both o option i ≡ Some r → (u : ℤ) × (v : ℤ) × (o ≡ Some u) × (option ≡ Some v) × (i u v ≡ Some r)
with_both_some (Some x) (Some y) i r e = (x, y, refl, refl, e)
with_both_some (Some x) None i r e = absurd cc
with_both_some None o i r e = absurd cc

if_some : {A : Type 0} (t : Bool) (x r : A) → (if t then Some x else None) ≡ Some r → (t ≡ true) × (x ≡ r)
if_some true x r e = (refl, cc)
if_some false x r e = absurd cc

anchor_is : {D : Type 0} (x anchor : Anchor) (k l : ℤ) → ◌≡◌ {A = AbstractValue D} (Data x k) (Data anchor l) → (x ≡ anchor) × (k ≡ l)
anchor_is x anchor k l e = (cc, cc)

module _ {D : Type 0} (places : Places) (size : ℕ) (a : AbsState D) (reaches : a.proved ≤ℤ pos size) (op : AluOp) (w : Width) (k : ℤ) (b : Bounds) (n : ℕ) (p : b.lo ≤ n) (q : n ≤ b.hi) (fits : n < 2 ^ 64) where
  -- a number that isn't single makes an anchor
  pub made_is_sum : (anchor : Anchor) → IsAnchored places size anchor → (made : Anchor) (l : ℤ) → made_sum a anchor op w k b ≡ Some (Data made l) → IsSum places size a op w (place_of places anchor +ℤ k) n made l
  made_is_sum anchor is made l e =
      let parts = with_both_some (lowest op w (low_of anchor +ℤ k) b) (highest op w (high_of anchor +ℤ k) b) _ (Data made l) e in
      let least : ℤ = parts.0 in
      let greatest : ℤ = parts.1 in
      let tests = if_some (is_one_sided b && int_le (pos (suc (greatest_id a.values))) (pos 4294967295)) (Data (made_anchor a anchor least greatest) (pos 0)) (Data made l) parts.4 in
      let one_sided = first_of_and (is_one_sided b) (int_le (pos (suc (greatest_id a.values))) (pos 4294967295)) tests.0 in
      let s = spreads_of op w b (low_of anchor +ℤ k) (high_of anchor +ℤ k) least greatest n p q fits one_sided parts.2 parts.3 in
      let at = place_is places size a anchor reaches is in
      let to : ℤ = (place_of places anchor +ℤ k) +ℤ s.by in
      let id : ℕ = suc (greatest_id a.values) in
      let more : Places = with_place places id to in
      let more_is : more id ≡ to = with_place_at places id to in
      let sum = sum_place (low_of anchor) (high_of anchor) (proved_of a anchor) (place_of places anchor) k least greatest s.by_low s.by s.by_high to size at s.below s.above s.least_is s.greatest_is s.greatest_near refl in
      let low_near : negsuc 1048575 ≤ℤ to = omega (arith, ints, sum.least, s.least_near) in
      let high_near : to ≤ℤ pos 1048576 = omega (arith, ints, sum.greatest, s.greatest_near) in
      let moved : moved_place op w (place_of places anchor +ℤ k) n ≡ Some to = s.at (place_of places anchor +ℤ k) ∙ near_from to low_near high_near in
      let same = anchor_is (made_anchor a anchor least greatest) made (pos 0) l tests.1 in
      subst (λ (x : Anchor). IsSum places size a op w (place_of places anchor +ℤ k) n x l) same.0
      (subst (λ (z : ℤ). IsSum places size a op w (place_of places anchor +ℤ k) n (made_anchor a anchor least greatest) z) same.1
      (record {
        more = more;
        extends = with_place_extends (greatest_id a.values) places to;
        anchored = subst (IsAnchorPlace size least greatest (proved_within (proved_of a anchor -ℤ (greatest -ℤ high_of anchor)))) (sym more_is) sum;
        moved = moved ∙ ap (λ (z : ℤ). Some z) (omega (arith, ints, more_is));
      }))

  abbrev known_at : Anchor → ℤ → AbstractValue D
  known_at anchor z = Data anchor z

  -- a single number moves the offset; First is at the place 0
  first_moved : (m : ℕ) → n ≡ m → (made : Anchor) (l : ℤ) → (o : Option ℤ) → moved_place op w k m ≡ o → option_map (known_at First) o ≡ Some (Data made l) → IsSum places size a op w (pos 0 +ℤ k) n made l
  first_moved m same made l None e f = absurd cc
  first_moved m same made l (Some z) e f =
      let parts : (First ≡ made) × (z ≡ l) = anchor_is First made z l (data_is f) in
      let at : moved_place op w (pos 0 +ℤ k) n ≡ moved_place op w k m = (λ i. moved_place op w (zero_less k i) (same i)) in
      subst (λ (x : Anchor). IsSum places size a op w (pos 0 +ℤ k) n x l) parts.0
      (record { more = places; extends = extends_itself (greatest_id a.values) places; anchored = tt; moved = at ∙ e ∙ ap (λ (y : ℤ). Some y) (parts.1 ∙ more_zero l) }) where
        data_is : ◌≡◌ {A = Option (AbstractValue D)} (Some (Data First z)) (Some (Data made l)) → ◌≡◌ {A = AbstractValue D} (Data First z) (Data made l)
        data_is g = cc

        zero_less : (y : ℤ) → (pos 0 +ℤ y) ≡ y
        zero_less y = omega (arith, ints)

        more_zero : (y : ℤ) → y ≡ (pos 0 +ℤ y)
        more_zero y = omega (arith, ints)

  short_is : (z : ℤ) (r : ℤ) → short_offset z ≡ Some r → z ≡ r
  short_is z r e = (if_some (int_le (negsuc 2147483647) z && int_le z (pos 2147483647)) z r e).1

  made_moved : (m : ℕ) → n ≡ m → (id : ℕ) (low high proved : ℤ) → IsAnchorPlace size low high proved (places id) → (made : Anchor) (l : ℤ) → (o : Option ℤ) → moved_offset op w low high k m ≡ o → option_map (known_at (Variable id low high proved)) o ≡ Some (Data made l) → IsSum places size a op w (places id +ℤ k) n made l
  made_moved m same id low high proved is made l None e f = absurd cc
  made_moved m same id low high proved is made l (Some z) e f =
      let anchor : Anchor = Variable id low high proved in
      let parts : (anchor ≡ made) × (z ≡ l) = anchor_is anchor made z l (data_is f) in
      let ends = with_both_some (moved_place op w (low +ℤ k) m) (moved_place op w (high +ℤ k) m) (λ least greatest. short_offset (least -ℤ low)) z e in
      let s = shifts_of op w m (low +ℤ k) ends.0 ends.2 in
      let lowest_near = near_of ((low +ℤ k) +ℤ s.by) ends.0 (sym (s.at (low +ℤ k)) ∙ ends.2) in
      let highest_near = near_of ((high +ℤ k) +ℤ s.by) ends.1 (sym (s.at (high +ℤ k)) ∙ ends.3) in
      let offset : (ends.0 -ℤ low) ≡ z = short_is (ends.0 -ℤ low) z ends.4 in
      let to : ℤ = (places id +ℤ k) +ℤ s.by in
      let to_is : to ≡ (places id +ℤ z) = omega (arith, ints, lowest_near.same, offset) in
      let moved : moved_place op w (places id +ℤ k) n ≡ Some to = ap (moved_place op w (places id +ℤ k)) same ∙ s.at (places id +ℤ k) ∙ near_from to (omega (arith, ints, lowest_near.low, is.least)) (omega (arith, ints, highest_near.high, is.greatest)) in
      subst (λ (x : Anchor). IsSum places size a op w (places id +ℤ k) n x l) parts.0
      (record { more = places; extends = extends_itself (greatest_id a.values) places; anchored = is; moved = moved ∙ ap (λ (y : ℤ). Some y) (to_is ∙ ap (λ (y : ℤ). places id +ℤ y) parts.1) }) where
        data_is : ◌≡◌ {A = Option (AbstractValue D)} (Some (Data (Variable id low high proved) z)) (Some (Data made l)) → ◌≡◌ {A = AbstractValue D} (Data (Variable id low high proved) z) (Data made l)
        data_is g = cc

  -- every sum that is accepted
  pub data_is_sum : (anchor : Anchor) → IsAnchored places size anchor → (made : Anchor) (l : ℤ) → data_sum a anchor op w k b ≡ Some (Data made l) → IsSum places size a op w (place_of places anchor +ℤ k) n made l
  data_is_sum First is made l e = by (b.lo == b.hi) refl e where
    by : (t : Bool) → (b.lo == b.hi) ≡ t → (if t then option_map (Data First) (moved_place op w k b.lo) else made_sum a First op w k b) ≡ Some (Data made l) → IsSum places size a op w (pos 0 +ℤ k) n made l
    by true f g = let same : b.lo ≡ b.hi = eqb-true b.lo b.hi f in first_moved b.lo (omega (arith, p, q, same)) made l (moved_place op w k b.lo) refl g
    by false f g = made_is_sum First is made l g
  data_is_sum (Variable id low high proved) is made l e = by (b.lo == b.hi) refl e where
    by : (t : Bool) → (b.lo == b.hi) ≡ t → (if t then option_map (Data (Variable id low high proved)) (moved_offset op w low high k b.lo) else made_sum a (Variable id low high proved) op w k b) ≡ Some (Data made l) → IsSum places size a op w (places id +ℤ k) n made l
    by true f g = let same : b.lo ≡ b.hi = eqb-true b.lo b.hi f in made_moved b.lo (omega (arith, p, q, same)) id low high proved is made l (moved_offset op w low high k b.lo) refl g
    by false f g = made_is_sum (Variable id low high proved) is made l g

-- a sum is a place of the datagram
abbrev pub IsOther : {D : Type 0} → AbstractValue D → Type 0
IsOther (Data anchor k) = ⊥
IsOther v = Unit {0}

mapped_other : {D : Type 0} (anchor : Anchor) (o : Option ℤ) (v : AbstractValue D) → IsOther v → option_map (λ (z : ℤ). Data anchor z) o ≡ Some v → ⊥
mapped_other anchor None v other e = absurd cc
mapped_other anchor (Some z) v other e = let is : ◌≡◌ {A = AbstractValue _} (Data anchor z) v = cc in subst IsOther (sym is) other

made_other : {D : Type 0} (a : AbsState D) (anchor : Anchor) (op : AluOp) (w : Width) (k : ℤ) (b : Bounds) (v : AbstractValue D) → IsOther v → made_sum a anchor op w k b ≡ Some v → ⊥
made_other a anchor op w k b v other e =
    let parts = with_both_some (lowest op w (low_of anchor +ℤ k) b) (highest op w (high_of anchor +ℤ k) b) _ v e in
    let tests = if_some (is_one_sided b && int_le (pos (suc (greatest_id a.values))) (pos 4294967295)) (Data (made_anchor a anchor parts.0 parts.1) (pos 0)) v parts.4 in
    subst IsOther (sym tests.1) other

pub no_other : {D : Type 0} (a : AbsState D) (anchor : Anchor) (op : AluOp) (w : Width) (k : ℤ) (b : Bounds) (v : AbstractValue D) → IsOther v → data_sum a anchor op w k b ≡ Some v → ⊥
no_other a First op w k b v other e = by (b.lo == b.hi) e where
  by : (t : Bool) → (if t then option_map (Data First) (moved_place op w k b.lo) else made_sum a First op w k b) ≡ Some v → ⊥
  by true g = mapped_other First (moved_place op w k b.lo) v other g
  by false g = made_other a First op w k b v other g
no_other a (Variable id low high proved) op w k b v other e = by (b.lo == b.hi) e where
  by : (t : Bool) → (if t then option_map (Data (Variable id low high proved)) (moved_offset op w low high k b.lo) else made_sum a (Variable id low high proved) op w k b) ≡ Some v → ⊥
  by true g = mapped_other (Variable id low high proved) (moved_offset op w low high k b.lo) v other g
  by false g = made_other a (Variable id low high proved) op w k b v other g
