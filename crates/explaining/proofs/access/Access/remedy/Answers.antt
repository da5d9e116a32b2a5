use Rattle.std.proofs.Common.{◌≡◌, ℤ, pos, ◌+ℤ◌, ◌≤ℤ◌, w16, w32, to_z, of_z, sym, ap, ap₂, ◌∙◌, subst, rules, arith}
use Rattle.std.specs.Prelude.{◌-ℤ◌}
use Rattle.std.proofs.lemmas.Int.{ints}
use Rattle.semantics.specs.Access.{headroom_first}
use Rattle.semantics.specs.declared.limits.TheConstants.{MAX_DATAGRAM, MAX_OFFSET}
use Rattle.absstate.specs.AbstractStates.{abstract_at, low_of, high_of}
use Rattle.absstate.specs.declared.abstract_state.AbstractValue.TheVariants.{Data}
use Rattle.explaining.specs.Remedies.{IsRemedy}
use Rattle.explaining.proofs.Remedies.{helps}
use Rattle.explaining.proofs.access.Access.remedy.Goals as goal

pub returns-then-is_short : goal.returns-then-is_short
returns-then-is_short c =
    let end : c.in_ok-end.end ≡ (c.in-Data.offset +ℤ c.args.self.displacement +ℤ pos c.args.self.bytes) = search rules in
    let round : to_z w32 (of_z w32 c.in_ok-end.end) ≡ c.in_ok-end.end = search rules in
    let fits : c.in_ok-end.end ≤ℤ pos 2147483647 = search rules in
    let here : abstract_at c.args.state.now.values c.args.self.base ≡ Data c.in-Data.anchor c.in-Data.offset = sym c.pointer.ensures ∙ c.in-Data.is in
    let offset : to_z w32 (of_z w32 c.in-Data.offset) ≡ c.in-Data.offset = search rules in
    let displacement : to_z w16 (of_z w16 c.args.self.displacement) ≡ c.args.self.displacement = search rules in
    let first : c.first_of.result ≡ (c.in-Data.offset +ℤ c.args.self.displacement) = c.first_of.ensures ∙ ap₂ (λ (x y : ℤ). x +ℤ y) offset displacement in
    let headroom : c.headroom_from.result ≡ (headroom_first -ℤ low_of c.in-Data.anchor) = c.headroom_from.ensures in
    let greatest : c.greatest_place-is_near.result ≡ (high_of c.in-Data.anchor +ℤ c.in_ok-end.end) = c.greatest_place-is_near.ensures ∙ ap (λ (e : ℤ). high_of c.in-Data.anchor +ℤ e) round in
    let least : c.least_place.result ≡ (low_of c.in-Data.anchor +ℤ c.in_ok-end.end) = c.least_place.ensures ∙ ap (λ (e : ℤ). low_of c.in-Data.anchor +ℤ e) round in
    let low : (headroom_first -ℤ low_of c.in-Data.anchor) ≤ℤ (c.in-Data.offset +ℤ c.args.self.displacement) = omega (arith, ints, c.if-is_after_headroom.true, first, headroom) in
    let near : (high_of c.in-Data.anchor +ℤ c.in_ok-end.end) ≤ℤ MAX_OFFSET = omega (arith, ints, c.if-is_near.true, greatest) in
    let short : (low_of c.in-Data.anchor +ℤ c.in_ok-end.end) ≤ℤ pos MAX_DATAGRAM = omega (arith, ints, c.if-is_short.true, least) in
    subst (λ (e : ℤ). IsRemedy c.args.state.now c.args.self.base c.args.self.displacement c.args.self.bytes (record { anchor = c.in-Data.anchor; offset = e })) (sym round)
    (record {
      helps = helps c.args.state.now c.args.self.base c.args.self.displacement c.in-Data.offset c.in_ok-end.end c.args.self.bytes c.in-Data.anchor here end low fits;
      near = near;
      short = short;
    })
