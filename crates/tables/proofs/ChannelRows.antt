-- Channels as they are stored, and their map.
use Rattle.std.proofs.Common.{◌≡◌, ◌≢◌, ℕ, Bool, true, false, IsTrue, List, length, get_or, filter, nat_lt, nat_eq, Option, Some, None, IfSome, cond, All, AllPairs, Ordering, Equal, option_map, is_eq, sym, refl, ap, ◌∙◌, subst, inl, inr, arith}
use Rattle.std.specs.Ordering.{nat_cmp, eq_by_cmp}
use Rattle.std.specs.Cmp.{nat_cmp_total, tied_itself, Equal-is}
use Rattle.std.specs.FinMap.{get, insert, len, nat_cmp-IsAntisymmetric}
use Rattle.std.proofs.lemmas.Bool.{cases_Bool, cond-true, cond-false, both_ways, false_from_ne_true, and_parts, and_from, eqb-true}
use Rattle.std.proofs.lemmas.Option.{same_Some}
use Rattle.std.proofs.lemmas.List.Elements.{All-filter}
use Rattle.std.proofs.lemmas.List.Kept.{AllPairs-filter}
use Rattle.addresses.specs.declared.address.Addr.{Addr}
use Rattle.addresses.specs.AddressOrder.{address_parts, order_by_parts, is_same_address}
use Rattle.addresses.specs.laws.AddressOrder.{parts_order-total, is_same-itself}
use Rattle.tables.specs.Channels.{IsChannelNumber, channels_at, number_to, may_bind, is_none_or}
use Rattle.tables.specs.RowLists.{channels_of, AreChannels}
use Rattle.tables.specs.Retained.{value_if}
use Rattle.tables.specs.laws.Retained.{get-kept_of}
use Rattle.tables.specs.laws.Row.{is_live_binding}
use Rattle.tables.specs.Search.{AreAscending, row_of, put_row}
use Rattle.tables.specs.SortedRows.{AreSortedByNumber, AreSortedByPeer, AreChannelLists}
use Rattle.tables.specs.declared.channels.Binding.{Binding}
use Rattle.tables.specs.declared.channels.Channel.{Channel}
use Rattle.tables.proofs.Ascending.{searchable, Ascending-distinct, Ascending-filter, Ascending-put_row, is_same-by_parts}
use Rattle.tables.proofs.Lists.{Once, find-Some, find-None, find-each, find-filter}
use Rattle.tables.proofs.Maps.{PassesOnce, key_where-None, key_where-Some}
use Rattle.tables.proofs.RowMaps.{Finds, get-row_of, row_of_entry, entry_of_row, len-map_of, map_of-filter, map_of-put_row, Distinct-put_row}
use Rattle.tables.proofs.Searches.{found_once, All-put_row}

abbrev pub entry_of : Channel → ℕ × Binding
entry_of row = (row.number, row.binding)

abbrev pub bound_to : Addr → Binding → Bool
bound_to peer binding = is_same_address peer binding.peer

abbrev pub number_in : Channel → ℕ
number_in row = row.number

abbrev pub peer_in : Channel → List ℕ × ℕ
peer_in row = address_parts row.binding.peer

-- how a row compares with a number and with a peer
abbrev pub by_number : ℕ → Channel → Ordering
by_number number row = nat_cmp row.number number

abbrev pub by_peer : Addr → Channel → Ordering
by_peer peer row = order_by_parts row.binding.peer peer

-- whether a row is live, if there is one
abbrev pub is_live_row : ℕ → Option Channel → Bool
is_live_row t row = is_live_binding t (option_map (λ row. row.binding) row)

pub searchable_by_number : (number : ℕ) (rows : List Channel) → AreSortedByNumber rows → AreAscending (by_number number) rows
searchable_by_number number rows sorted = searchable nat_cmp_total number_in rows number sorted

pub searchable_by_peer : (peer : Addr) (rows : List Channel) → AreSortedByPeer rows → AreAscending (by_peer peer) rows
searchable_by_peer peer rows sorted = searchable parts_order-total peer_in rows (address_parts peer) sorted

pub get-binding : (number : ℕ) (rows : List Channel) → get (channels_of rows) number ≡ option_map (λ row. row.binding) (row_of (by_number number) rows)
get-binding number rows = get-row_of nat_cmp_total nat_cmp-IsAntisymmetric entry_of (by_number number) number rows (λ k d l. refl)

-- ---- the number of a peer

module _ (rows : List Channel) (peers : AreSortedByPeer rows) where
  pub once_by_peer : (peer : Addr) → Once (λ row. is_eq (by_peer peer row)) rows
  once_by_peer peer = found_once (by_peer peer) rows (searchable_by_peer peer rows peers)

  -- no peer is bound twice
  pub bound_once : (peer : Addr) → PassesOnce nat_cmp_total nat_cmp-IsAntisymmetric (bound_to peer) (channels_of rows)
  bound_once peer k l v w at_k at_l v_to w_to =
      let Only : Channel → Type 0 = λ row. is_eq (by_peer peer row) ≡ true → row_of (by_peer peer) rows ≡ Some row in
      let each : All Only rows = find-each (λ row. is_eq (by_peer peer row)) rows (once_by_peer peer) in
      let r = row_of_entry nat_cmp_total nat_cmp-IsAntisymmetric entry_of Only rows each k v at_k in
      let s = row_of_entry nat_cmp_total nat_cmp-IsAntisymmetric entry_of Only rows each l w at_l in
      let same : r.0 ≡ s.0 = same_Some _ _ (sym (r.1 (is_same-by_parts peer r.0.binding.peer ∙ ap (bound_to peer) r.3 ∙ v_to)) ∙ s.1 (is_same-by_parts peer s.0.binding.peer ∙ ap (bound_to peer) s.3 ∙ w_to)) in
      r.2 ∙ ap (λ (row : Channel). row.number) same ∙ sym s.2

  pub number_to-row_of : AllPairs (λ a b. a.number ≢ b.number) rows → (peer : Addr) → number_to peer (channels_of rows) ≡ option_map (λ row. row.number) (row_of (by_peer peer) rows)
  number_to-row_of distinct peer =
      elim (row_of (by_peer peer) rows) as (λ r. row_of (by_peer peer) rows ≡ r → number_to peer (channels_of rows) ≡ option_map (λ row. row.number) r) [
        | None ↦ λ none. key_where-None nat_cmp_total nat_cmp-IsAntisymmetric (bound_to peer) (channels_of rows) (λ number binding at.
            let r = row_of_entry nat_cmp_total nat_cmp-IsAntisymmetric entry_of (λ row. is_eq (by_peer peer row) ≡ false) rows (find-None (λ row. is_eq (by_peer peer row)) rows none) number binding at in
            ap (bound_to peer) (sym r.3) ∙ sym (is_same-by_parts peer r.0.binding.peer) ∙ r.1)
        | Some row ↦ λ is.
            let r = find-Some (λ row. is_eq (by_peer peer row)) (λ row. get (channels_of rows) row.number ≡ Some row.binding) rows row (entry_of_row nat_cmp_total nat_cmp-IsAntisymmetric entry_of rows distinct) is in
            key_where-Some nat_cmp_total nat_cmp-IsAntisymmetric (bound_to peer) (channels_of rows) row.number row.binding (bound_once peer) r.0 (sym (is_same-by_parts peer row.binding.peer) ∙ r.1)
      ] refl

-- ---- both lists

none_or_kept : {X : Type 0} (passes : Option X → Bool) (test : Option X → Bool) (v : Option X) → passes None ≡ true → passes v ≡ true → passes (value_if test v) ≡ true
none_or_kept passes test v none h = elim (cases_Bool (test v)) [
  | inl t ↦ ap passes (cond-true (test v) v None t) ∙ h
  | inr e ↦ ap passes (cond-false (test v) v None e) ∙ none
]

module _ (rows others : List Channel) (are : AreChannelLists rows others) where
  distinct_numbers : AllPairs (λ a b. a.number ≢ b.number) rows
  distinct_numbers = Ascending-distinct nat_cmp_total number_in rows are.numbers

  len-channels : len (channels_of rows) ≡ length rows
  len-channels = len-map_of nat_cmp_total nat_cmp-IsAntisymmetric entry_of rows distinct_numbers

  pub same_length : length others ≡ length rows
  same_length = sym (len-map_of nat_cmp_total nat_cmp-IsAntisymmetric entry_of others are.distinct) ∙ ap len are.same ∙ len-channels

  pub are_channels : AreChannels rows
  are_channels =
      let bound : All (λ row. get (channels_of others) row.number ≡ Some row.binding) rows = λ k d l.
      ap (λ m. get m (get_or rows k d).number) are.same ∙ entry_of_row nat_cmp_total nat_cmp-IsAntisymmetric entry_of rows distinct_numbers k d l in
      record {
        distinct = distinct_numbers;
        peers = λ i j d p l. false_from_ne_true _ (λ same. distinct_numbers i j d p l
            (bound_once others are.peers (get_or rows i d).binding.peer _ _ _ _ (bound i d (omega (arith, p, l))) (bound j d l) (is_same-itself (get_or rows i d).binding.peer) same));
        low = λ k d l. (are.range k d l).0;
        high = λ k d l. (are.range k d l).1;
      }

  pub number_to-channels : (peer : Addr) → number_to peer (channels_of rows) ≡ option_map (λ row. row.number) (row_of (by_peer peer) others)
  number_to-channels peer = ap (number_to peer) (sym are.same) ∙ number_to-row_of others are.peers are.distinct peer

  -- ---- the live ones

  pub channels_of-filtered : (t : ℕ) → channels_of (filter (λ row. nat_lt t row.binding.end) rows) ≡ channels_at t (channels_of rows)
  channels_of-filtered t = map_of-filter nat_cmp_total nat_cmp-IsAntisymmetric entry_of (is_live_binding t) (λ row. nat_lt t row.binding.end) (λ x. refl) rows distinct_numbers

  pub filtered_lists : (t : ℕ) → AreChannelLists (filter (λ row. nat_lt t row.binding.end) rows) (filter (λ row. nat_lt t row.binding.end) others)
  filtered_lists t =
      let live : Channel → Bool = λ row. nat_lt t row.binding.end in
      record {
        numbers = Ascending-filter nat_cmp_total number_in live rows are.numbers;
        peers = Ascending-filter parts_order-total peer_in live others are.peers;
        distinct = AllPairs-filter (λ a b. a.number ≢ b.number) live others are.distinct;
        range = All-filter live (λ row. IsChannelNumber row.number) rows are.range;
        range_by_peer = All-filter live (λ row. IsChannelNumber row.number) others are.range_by_peer;
        same = map_of-filter nat_cmp_total nat_cmp-IsAntisymmetric entry_of (is_live_binding t) live (λ x. refl) others are.distinct ∙ ap (channels_at t) are.same ∙ sym (channels_of-filtered t);
      }

-- the live number of a peer
pub number_at-channels : (rows others : List Channel) → AreChannelLists rows others → (t : ℕ) (peer : Addr)
    → number_to peer (channels_at t (channels_of rows)) ≡ option_map (λ row. row.number) (value_if (is_live_row t) (row_of (by_peer peer) others))
number_at-channels rows others are t peer =
    let live : Channel → Bool = λ row. nat_lt t row.binding.end in
    ap (number_to peer) (sym (channels_of-filtered rows others are t)) ∙ number_to-channels (filter live rows) (filter live others) (filtered_lists rows others are t) peer
    ∙ ap (option_map (λ row. row.number)) (find-filter (λ row. is_eq (by_peer peer row)) live (is_live_row t) (λ x. refl) others (once_by_peer others are.peers peer))

in_range : (live : Bool) (row : Channel) → IsChannelNumber row.number → IfSome (option_map (λ row. row.number) (cond live (Some row) None)) IsChannelNumber
in_range true row range = range
in_range false row range = tt

pub number_at-range : (rows others : List Channel) → AreChannelLists rows others → (t : ℕ) (peer : Addr) → IfSome (number_to peer (channels_at t (channels_of rows))) IsChannelNumber
number_at-range rows others are t peer = subst (λ n. IfSome n IsChannelNumber) (sym (number_at-channels rows others are t peer))
    (elim (row_of (by_peer peer) others) as (λ r. row_of (by_peer peer) others ≡ r → IfSome (option_map (λ row. row.number) (value_if (is_live_row t) r)) IsChannelNumber) [
      | None ↦ λ _. tt
      | Some row ↦ λ is. in_range (nat_lt t row.binding.end) row (find-Some (λ row. is_eq (by_peer peer row)) (λ row. IsChannelNumber row.number) others row are.range_by_peer is).0
    ] refl)

-- what is free among all is free among the live ones
pub free_later : (rows others : List Channel) → AreChannelLists rows others → (number : ℕ) (peer : Addr) (t : ℕ) → IsTrue (may_bind (channels_of rows) number peer) → IsTrue (may_bind (channels_at t (channels_of rows)) number peer)
free_later rows others are number peer t free =
    let parts = and_parts _ _ free in
    let is_own : Option Channel → Bool = λ row. is_none_or (nat_eq number) (option_map (λ row. row.number) row) in
    and_from _ _
    (ap (is_none_or (bound_to peer)) (get-kept_of nat_cmp_total (is_live_binding t) (channels_of rows) number) ∙ none_or_kept (is_none_or (bound_to peer)) (is_live_binding t) (get (channels_of rows) number) refl parts.0)
    (ap (is_none_or (nat_eq number)) (number_at-channels rows others are t peer)
    ∙ none_or_kept is_own (is_live_row t) (row_of (by_peer peer) others) refl (sym (ap (is_none_or (nat_eq number)) (number_to-channels rows others are peer)) ∙ parts.1))

-- ---- a binding

module _ (number : ℕ) (binding : Binding) (rows others : List Channel) (are : AreChannelLists rows others) (free : IsTrue (may_bind (channels_of rows) number binding.peer)) where
  abbrev pub new : Channel
  new = record { number = number; binding = binding }

  -- the row of the peer is that of the number
  finds_by_peer : Finds nat_cmp_total nat_cmp-IsAntisymmetric entry_of (by_peer binding.peer) number others
  finds_by_peer = λ k d l.
      let row = get_or others k d in
      let at : get (channels_of rows) row.number ≡ Some row.binding = ap (λ m. get m row.number) (sym are.same) ∙ entry_of_row nat_cmp_total nat_cmp-IsAntisymmetric entry_of others are.distinct k d l in
      let parts = and_parts _ _ free in
      elim (cases_Bool (eq_by_cmp nat_cmp row.number number)) [
        | inl t ↦
            let own : get (channels_of rows) number ≡ Some row.binding = ap (get (channels_of rows)) (sym (nat_cmp-IsAntisymmetric row.number number ((Equal-is (nat_cmp row.number number)).0 t))) ∙ at in
            is_same-by_parts binding.peer row.binding.peer ∙ sym (ap (is_none_or (bound_to binding.peer)) own) ∙ parts.0 ∙ sym t
        | inr f ↦ false_from_ne_true (is_eq (by_peer binding.peer row)) (λ s.
            let bound : number_to binding.peer (channels_of rows) ≡ Some row.number =
            number_to-channels rows others are binding.peer ∙ ap (option_map (λ row. row.number)) (find-each (λ row. is_eq (by_peer binding.peer row)) others (once_by_peer others are.peers binding.peer) k d l s) in
            let own : number ≡ row.number = eqb-true number row.number (sym (ap (is_none_or (nat_eq number)) bound) ∙ parts.1) in
            both_ways (eq_by_cmp nat_cmp row.number number) f (ap is_eq (subst (λ n. nat_cmp row.number n ≡ Equal) (sym own) (tied_itself nat_cmp_total row.number)))) ∙ sym f
      ]

  pub put_map : channels_of (put_row (by_number number) new rows) ≡ insert (channels_of rows) number binding
  put_map = map_of-put_row nat_cmp_total nat_cmp-IsAntisymmetric entry_of (by_number number) new rows (λ k d l. refl)

  pub put_lists : IsChannelNumber number → AreChannelLists (put_row (by_number number) new rows) (put_row (by_peer binding.peer) new others)
  put_lists range = record {
    numbers = Ascending-put_row nat_cmp_total number_in new rows are.numbers;
    peers = Ascending-put_row parts_order-total peer_in new others are.peers;
    distinct = Distinct-put_row nat_cmp_total nat_cmp-IsAntisymmetric entry_of (by_peer binding.peer) new others (searchable_by_peer binding.peer others are.peers) finds_by_peer are.distinct;
    range = All-put_row (by_number number) (λ row. IsChannelNumber row.number) new rows range are.range;
    range_by_peer = All-put_row (by_peer binding.peer) (λ row. IsChannelNumber row.number) new others range are.range_by_peer;
    same = map_of-put_row nat_cmp_total nat_cmp-IsAntisymmetric entry_of (by_peer binding.peer) new others finds_by_peer ∙ ap (λ m. insert m number binding) are.same ∙ sym put_map;
  }

  pub len-put : IsChannelNumber number → length (put_row (by_number number) new rows) ≡ len (insert (channels_of rows) number binding)
  len-put range = sym (len-channels (put_row (by_number number) new rows) (put_row (by_peer binding.peer) new others) (put_lists range)) ∙ ap len put_map
