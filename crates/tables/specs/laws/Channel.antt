-- Interface. A channel that is found by its number is found by its peer, too.
use Rattle.std.proofs.Common.{◌≡◌, ℕ, List, [], ◌∷◌, Bool, true, false, inl, inr, sym, ap, ◌∙◌}
use Rattle.std.specs.Option.{option_and_then}
use Rattle.std.specs.Prelude.{Option, None, Some, is_some, find, option_map}
use Rattle.std.specs.FinMap.{entries, get-entries, find as lookup}
use Rattle.std.specs.Ordering.{nat_cmp, eq_by_cmp}
use Rattle.std.proofs.lemmas.Bool.{cases_Bool, cond-true, cond-false, both_ways}
use Rattle.std.proofs.lemmas.Option.{none-some, same_Some}
use Rattle.addresses.specs.AddressOrder.{is_same_address}
use Rattle.addresses.specs.laws.AddressOrder.{is_same-itself}
use Rattle.addresses.specs.declared.address.Addr.{Addr}
use Rattle.tables.specs.LookUps.{bound_channel, bound_peer, channel_of, held_in, peer_of}
use Rattle.tables.specs.Rows.{Rows}
use Rattle.tables.specs.declared.channels.Binding.{Binding}
use Rattle.tables.specs.declared.held.Held.{Held}

abbrev is_bound_to : Addr → ℕ × Binding → Bool
is_bound_to peer e = is_same_address peer e.1.peer

abbrev number_in : Addr → List (ℕ × Binding) → Option ℕ
number_in peer es = option_map (λ (e : ℕ × Binding). e.0) (find (is_bound_to peer) es)

abbrev peer_in : Option Binding → Option Addr
peer_in o = option_map (λ (b : Binding). b.peer) o

abbrev first_in : Option (ℕ × Binding) → Option ℕ
first_in o = option_map (λ (e : ℕ × Binding). e.0) o

-- the entry of the number isn't the first one where that is bound to another peer
not_here : (number : ℕ) (peer : Addr) (e : ℕ × Binding) (es : List (ℕ × Binding)) → is_bound_to peer e ≡ false
    → peer_in (lookup nat_cmp number (e ∷ es)) ≡ Some peer → peer_in (lookup nat_cmp number es) ≡ Some peer
not_here number peer e es f there = elim (cases_Bool (eq_by_cmp nat_cmp number e.0)) [
  | inl same ↦
      let here : e.1.peer ≡ peer = same_Some e.1.peer peer (sym (ap peer_in (cond-true (eq_by_cmp nat_cmp number e.0) (Some e.1) (lookup nat_cmp number es) same)) ∙ there) in
      absurd (both_ways (is_bound_to peer e) f (ap (is_same_address peer) here ∙ is_same-itself peer))
  | inr other ↦ sym (ap peer_in (cond-false (eq_by_cmp nat_cmp number e.0) (Some e.1) (lookup nat_cmp number es) other)) ∙ there
]

found_by_peer : (number : ℕ) (peer : Addr) (es : List (ℕ × Binding)) → peer_in (lookup nat_cmp number es) ≡ Some peer → is_some (number_in peer es) ≡ true
found_by_peer number peer [] there = absurd (none-some peer there)
found_by_peer number peer (e ∷ es) there = elim (cases_Bool (is_bound_to peer e)) [
  | inl t ↦ ap (λ (o : Option (ℕ × Binding)). is_some (first_in o)) (cond-true (is_bound_to peer e) (Some e) (find (is_bound_to peer) es) t)
  | inr f ↦
      ap (λ (o : Option (ℕ × Binding)). is_some (first_in o)) (cond-false (is_bound_to peer e) (Some e) (find (is_bound_to peer) es) f)
      ∙ found_by_peer number peer es (not_here number peer e es f there)
]

pub bound_back : (number : ℕ) (peer : Addr) (held : Held) → bound_peer number held ≡ Some peer → is_some (bound_channel peer held) ≡ true
bound_back number peer held there =
    found_by_peer number peer (entries held.channels) (ap peer_in (sym (get-entries held.channels number)) ∙ there)

pub peer_of-channel_of : (slot number : ℕ) (peer : Addr) (rows : Rows) → peer_of slot number rows ≡ Some peer → is_some (channel_of slot peer rows) ≡ true
peer_of-channel_of slot number peer rows = of (held_in rows slot) where
  of : (o : Option Held) → option_and_then (bound_peer number) o ≡ Some peer → is_some (option_and_then (bound_channel peer) o) ≡ true
  of None there = absurd (none-some peer there)
  of (Some held) there = bound_back number peer held there
