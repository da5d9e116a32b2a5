-- Decisions: what they grant, and the rows that follow.
use Rattle.std.proofs.Common.{◌≡◌, ℕ, Bool, true, false, nat_eq, ok_or, List, [], ◌∷◌, Option, Some, None, option_map, Result, Ok, Err, is_ok, true≢false, sym, ap, ◌∙◌, refl, subst}
use Rattle.std.specs.List.{list_all}
use Rattle.basics.specs.Fallible.{◌>>=◌, check}
use Rattle.stun.specs.Attributes.{values_of}
use Rattle.stun.specs.Messages.{Parts, message_of}
use Rattle.stun.specs.declared.registry.attribute.TheConstants.{XOR_PEER_ADDRESS}
use Rattle.stun.specs.declared.registry.ErrorCode.TheVariants.{AllocationMismatch, WrongCredentials, PeerAddressFamilyMismatch}
use Rattle.std.proofs.lemmas.Option.{none-some, same_Some}
use Rattle.stun.specs.declared.registry.ErrorCode.{ErrorCode}
use Rattle.addresses.specs.Addresses.{is_of_family}
use Rattle.addresses.specs.declared.address.Addr.{Addr}
use Rattle.tables.specs.Changes.{Change, Follows, permit_change, permission_end}
use Rattle.tables.specs.LookUps.{held_in, allocation_of}
use Rattle.tables.specs.Permissions.{with_all}
use Rattle.tables.specs.WellFormed.{AreWellFormed}
use Rattle.tables.specs.laws.WellFormed.{allocation_of-at_slot}
use Rattle.tables.specs.declared.held.Held.{Held}
use Rattle.tables.specs.declared.refusal.TableError.TheVariants as refusal
use Rattle.tables.specs.laws.Permit.{StandsFor, HaveFamilyOf, permit_held, permit_with, permit_alike}
use Rattle.tables.specs.Rows.{Rows}
use Rattle.tables.specs.declared.allocation.Allocation.{Allocation}
use Rattle.tables.specs.declared.refusal.TableError.{TableError}
use Rattle.control.specs.Control.{result_of_change, error_of, Decision, own_allocation, peers_in, addresses_in, some_addresses, create_permission}
use Rattle.control.specs.Serving.{Gives, are_of}
use Rattle.control.specs.Peers.{peers_of}
use Rattle.control.specs.Control.{grant_of, rows_of}
use Rattle.control.specs.declared.reply.Grant.{Grant}
use Rattle.control.specs.declared.reply.Grant.TheVariants.{Done}
use Rattle.control.proofs.Peers.{all_read, read_families}

-- a change that answers nothing more
abbrev pub done : Change (Unit {0}) → Decision
done x = result_of_change x >>= λ made. Ok (Done, made.1)

abbrev pub permit_all : Allocation → Rows → List Addr → Decision
permit_all a rows peers = done (permit_change a.slot peers rows)

abbrev pub permit_for : Parts → Rows → Allocation → Decision
permit_for p rows a = peers_in p >>= permit_all a rows

abbrev err_or : {A E : Type 0} → E → Result A E → E
err_or d (Ok x) = d
err_or d (Err e) = e

abbrev ok_or_else : {A E : Type 0} → A → Result A E → A
ok_or_else x (Ok y) = y
ok_or_else x (Err e) = x

ok-err : {A E : Type 0} {x : A} {e : E} → ◌≡◌ {A = Result A E} (Ok x) (Err e) → ⊥
ok-err e = true≢false (ap is_ok e)

same_Err : {A E : Type 0} (d e : E) → ◌≡◌ {A = Result A E} (Err d) (Err e) → d ≡ e
same_Err d e is = ap (λ r. err_or d r) is

same_Ok : {A E : Type 0} (x y : A) → ◌≡◌ {A = Result A E} (Ok x) (Ok y) → x ≡ y
same_Ok x y is = ap (λ r. ok_or_else x r) is

pub rows_given : (x : Decision) (old new : Rows) (result : Result Grant ErrorCode) → Gives x old result new → new ≡ rows_of old x
rows_given (Ok given) old new result h = h.1
rows_given (Err error) old new result h = h.1

pub grant_given : (x : Decision) (old new : Rows) (result : Result Grant ErrorCode) → Gives x old result new → result ≡ grant_of x
grant_given (Ok given) old new result h = h.0
grant_given (Err error) old new result h = h.0

-- a change of the client's own allocation, as it is refused or made
pub gives_change : (x : Change (Unit {0})) (old new : Rows) (result : Result (Unit {0}) TableError) → Follows x old result new
    → ((u : Unit {0}) → result ≡ Ok u → Gives (done x) old (Ok Done) new) × ((e : TableError) → result ≡ Err e → Gives (done x) old (Err (error_of e)) new)
gives_change (Ok made) old new result h = ((λ u is. (refl, h.1)), λ e is. absurd (ok-err (sym h.0 ∙ is)))
gives_change (Err refused) old new result h = ((λ u is. absurd (ok-err (sym is ∙ h.0))), λ e is. (ap (λ r. Err (error_of r)) (same_Err e refused (sym is ∙ h.0)), h.1))

-- ---- CreatePermission

-- the own allocation is that of the client, and that at its slot
abbrev is_own : ℕ → Option Allocation → Result Allocation ErrorCode
is_own user o = ok_or o AllocationMismatch >>= λ a. check (nat_eq a.user user) WrongCredentials >>= λ _. Ok a

own_found : (user : ℕ) (o : Option Allocation) (a : Allocation) → is_own user o ≡ Ok a → o ≡ Some a
own_found user None a h = absurd (ok-err (sym h))
own_found user (Some b) a h = elim (nat_eq b.user user) as (λ t. (check t WrongCredentials >>= λ _. Ok b) ≡ Ok a → Some b ≡ Some a) [
  | true ↦ λ e. ap (λ (x : Allocation). Some x) (same_Ok b a e)
  | false ↦ λ e. absurd (ok-err (sym e))
] h

module _ (client : Addr) (user : ℕ) (p : Parts) (rows : Rows) (a : Allocation) (are : AreWellFormed rows) (own : own_allocation client user rows ≡ Ok a) where
  own_held : (o : Option Held) → held_in rows a.slot ≡ o → (held : Held) × (held_in rows a.slot ≡ Some held) × (held.allocation ≡ a)
  own_held None is = absurd (none-some a (sym (ap (λ (o : Option Held). option_map (λ held. held.allocation) o) is) ∙ allocation_of-at_slot client rows a are (own_found user (allocation_of client rows) a own)))
  own_held (Some held) is =
      (held, is, same_Some _ _ (sym (ap (λ (o : Option Held). option_map (λ held. held.allocation) o) is) ∙ allocation_of-at_slot client rows a are (own_found user (allocation_of client rows) a own)))

  held_own : (held : Held) → held_in rows a.slot ≡ Some held → held.allocation ≡ a
  held_own held is =
      let found = own_held (held_in rows a.slot) refl in
      ap (λ (h : Held). h.allocation) (same_Some held found.0 (sym is ∙ found.1)) ∙ found.2

  -- a request whose addresses are all well formed
  create_permission-is : (b : Bool) → are_of a.family p ≡ Ok b → create_permission client user p rows ≡ done (permit_change a.slot (peers_of p) rows)
  create_permission-is b read =
      ap (λ r. r >>= permit_for p rows) own
      ∙ elim (addresses_in p.tx (values_of XOR_PEER_ADDRESS (message_of p).attributes)) as
      (λ o. addresses_in p.tx (values_of XOR_PEER_ADDRESS (message_of p).attributes) ≡ o → (some_addresses o >>= λ peers. Ok (list_all (is_of_family a.family) peers)) ≡ Ok b
      → (some_addresses o >>= permit_all a rows) ≡ done (permit_change a.slot (peers_of p) rows)) [
        | None ↦ λ is h. absurd (ok-err (sym h))
        | Some [] ↦ λ is h. absurd (ok-err (sym h))
        | Some (peer ∷ peers) ↦ λ is h. ap (λ all. done (permit_change a.slot all rows)) (sym (all_read p.tx (values_of XOR_PEER_ADDRESS (message_of p).attributes) (peer ∷ peers) is))
      ] refl read

  -- an address of another family
  pub other_family-is : are_of a.family p ≡ Ok false → create_permission client user p rows ≡ Err PeerAddressFamilyMismatch
  other_family-is read =
      let found = own_held (held_in rows a.slot) refl in
      let held : Held = found.0 in
      let family : list_all (is_of_family held.allocation.family) (peers_of p) ≡ false =
      ap (λ (x : Allocation). list_all (is_of_family x.family) (peers_of p)) found.2 ∙ read_families a.family p false read in
      create_permission-is false read
      ∙ ap (λ (o : Option Held). done (permit_held (peers_of p) a.slot rows o)) found.1
      ∙ ap (λ (b : Bool). done (check b refusal.Family >>= (λ _. permit_with a.slot rows held (with_all held.permissions (peers_of p) (permission_end rows))))) family

  -- permissions for some addresses stand for those for all
  pub permit_gives : (few : List Addr) (old new : Rows) (result : Result (Unit {0}) TableError)
      → are_of a.family p ≡ Ok true → list_all (is_of_family a.family) few ≡ true → StandsFor few (peers_of p) → Follows (permit_change a.slot few rows) old result new
      → ((u : Unit {0}) → result ≡ Ok u → Gives (create_permission client user p rows) old (Ok Done) new) × ((e : TableError) → result ≡ Err e → Gives (create_permission client user p rows) old (Err (error_of e)) new)
  permit_gives few old new result read few_of stands follows =
      let families : HaveFamilyOf few (peers_of p) a.slot rows = λ held is.
      subst (λ (x : Allocation). list_all (is_of_family x.family) few ≡ list_all (is_of_family x.family) (peers_of p)) (sym (held_own held is)) (few_of ∙ sym (read_families a.family p true read)) in
      let same = create_permission-is true read ∙ ap done (sym (permit_alike few (peers_of p) stands a.slot rows families)) in
      let given = gives_change (permit_change a.slot few rows) old new result follows in
      ((λ u is. subst (λ (x : Decision). Gives x old (Ok Done) new) (sym same) (given.0 u is)), λ e is. subst (λ (x : Decision). Gives x old (Err (error_of e)) new) (sym same) (given.1 e is))
