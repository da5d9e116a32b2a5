use Rattle.std.proofs.Common.{◌≡◌, true, Ok, Err, ap, sym, ◌∙◌, subst, refl, List}
use Rattle.std.specs.List.{list_all}
use Rattle.stun.specs.declared.registry.ErrorCode.TheVariants.{PeerAddressFamilyMismatch}
use Rattle.addresses.specs.Addresses.{is_of_family}
use Rattle.addresses.specs.declared.address.Addr.{Addr}
use Rattle.tables.specs.Rows.{rows_at}
use Rattle.tables.specs.laws.Permit.{StandsFor}
use Rattle.tables.specs.laws.WellFormed.{rows_at-well_formed}
use Rattle.control.specs.Control.{Decision, create_permission}
use Rattle.control.specs.Serving.{Gives}
use Rattle.control.specs.Peers.{peers_of}
use Rattle.control.proofs.Decisions.{other_family-is, permit_gives}
use Rattle.control.proofs.create_permission.create_permission.Goals as goal

pub returns-then-not-branch-clause-gives : goal.returns-then-not-branch-clause-gives
returns-then-not-branch-clause-gives c =
    let p = c.args.message.now in
    let old = c.args.tables.now in
    subst (λ (d : Decision). Gives d old (Err PeerAddressFamilyMismatch) old)
    (sym (other_family-is c.args.client c.args.user p (rows_at c.args.now old) c.in_ok-allocation.allocation (rows_at-well_formed c.args.now old c.law_are_well_formed.ensures)
    (sym c.own_allocation.ensures.allocation ∙ c.in_ok-allocation.was)
    (sym c.are_of.ensures ∙ c.in_ok-are_of.was ∙ ap Ok c.if-not-branch.true)))
    (refl, refl)

pub returns-in-Ok-clause-gives : goal.returns-in-Ok-clause-gives
returns-in-Ok-clause-gives c =
    let p = c.args.message.now in
    let old = c.args.tables.now in
    let a = c.in_ok-allocation.allocation in
    let read = sym c.are_of.ensures ∙ c.in_ok-are_of.was ∙ ap Ok c.if-not-branch.false in
    let few_of : list_all (is_of_family a.family) c.deref.result.now ≡ true = ap (list_all (is_of_family a.family)) c.deref.ensures.0 ∙ c.distinct_peers-peers.ensures.families a.family read in
    let stands = subst (λ (few : List Addr). StandsFor few (peers_of p)) (sym c.deref.ensures.0) c.distinct_peers-peers.ensures.same in
    (permit_gives c.args.client c.args.user p (rows_at c.args.now old) a (rows_at-well_formed c.args.now old c.law_are_well_formed.ensures)
    (sym c.own_allocation.ensures.allocation ∙ c.in_ok-allocation.was)
    c.deref.result.now old c.permit.new.self c.permit.result read few_of stands c.permit.ensures.follows).0 c.in-Ok.field-0 c.in-Ok.is

pub returns-in-Err-clause-gives : goal.returns-in-Err-clause-gives
returns-in-Err-clause-gives c =
    let p = c.args.message.now in
    let old = c.args.tables.now in
    let a = c.in_ok-allocation.allocation in
    let read = sym c.are_of.ensures ∙ c.in_ok-are_of.was ∙ ap Ok c.if-not-branch.false in
    let few_of : list_all (is_of_family a.family) c.deref.result.now ≡ true = ap (list_all (is_of_family a.family)) c.deref.ensures.0 ∙ c.distinct_peers-peers.ensures.families a.family read in
    let stands = subst (λ (few : List Addr). StandsFor few (peers_of p)) (sym c.deref.ensures.0) c.distinct_peers-peers.ensures.same in
    let given = (permit_gives c.args.client c.args.user p (rows_at c.args.now old) a (rows_at-well_formed c.args.now old c.law_are_well_formed.ensures)
    (sym c.own_allocation.ensures.allocation ∙ c.in_ok-allocation.was)
    c.deref.result.now old c.permit.new.self c.permit.result read few_of stands c.permit.ensures.follows).1 c.in-Err.refused c.in-Err.is in
    subst (λ error. Gives (create_permission c.args.client c.args.user p (rows_at c.args.now old)) old (Err error) c.permit.new.self) (sym c.error_of.ensures) given
