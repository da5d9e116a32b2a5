-- Permissions as they are stored, and their map.
use Rattle.std.proofs.Common.{Ordering, ◌≡◌, ℕ, ◌+◌, ◌≤◌, Bool, true, false, cond, not, List, [], ◌∷◌, length, get_or, filter, nat_lt, Option, Some, is_some, is_none, option_map, refl, sym, ap, ◌∙◌, arith}
use Rattle.std.specs.FinMap.{get, insert, len, contains_key, get-insert, len-insert}
use Rattle.std.specs.Ordering.{eq_by_cmp}
use Rattle.std.specs.List.{count_by}
use Rattle.std.proofs.lemmas.Bool.{false≢true}
use Rattle.std.proofs.lemmas.List.Sums.{sum_by-cons}
use Rattle.addresses.specs.Addresses.{ip_of}
use Rattle.addresses.specs.declared.address.Addr.{Addr}
use Rattle.tables.specs.Moments.{is_live_at}
use Rattle.tables.specs.Permissions.{PermissionMap, permissions_at, with_all}
use Rattle.tables.specs.RowLists.{permissions_of, ArePermissions}
use Rattle.tables.specs.declared.permissions.Permission.{Permission}
use Rattle.addresses.specs.AddressOrder.{ip_cmp, ip_order}
use Rattle.addresses.specs.laws.AddressOrder.{ip_order-total, ip_order-same, ip_total, ip_antisymmetric}
use Rattle.tables.specs.Search.{AreAscending, row_of, put_row}
use Rattle.tables.specs.SortedRows.{AreSortedPermissions}
use Rattle.tables.proofs.Ascending.{searchable, Ascending-distinct, Ascending-filter, Ascending-put_row}
use Rattle.tables.proofs.Maps.{len-insert-ge}
use Rattle.tables.proofs.RowMaps.{get-row_of, len-map_of, map_of-filter, map_of-put_row}

abbrev pub entry_of : Permission → List ℕ × ℕ
entry_of row = (ip_of row.ip, row.end)

abbrev pub ip_in : Permission → List ℕ
ip_in row = ip_of row.ip

-- how a row compares with an IP address
abbrev pub by_ip : List ℕ → Permission → Ordering
by_ip ip row = ip_order (ip_of row.ip) ip

module _ (rows : List Permission) (sorted : AreSortedPermissions rows) where
  pub are_permissions : ArePermissions rows
  are_permissions = record { distinct = Ascending-distinct ip_order-total ip_in rows sorted }

  pub searchable_by : (ip : List ℕ) → AreAscending (by_ip ip) rows
  searchable_by ip = searchable ip_order-total ip_in rows ip sorted

  pub len-permissions : len (permissions_of rows) ≡ length rows
  len-permissions = len-map_of ip_total ip_antisymmetric entry_of rows are_permissions.distinct

  -- the live ones
  pub sorted-filtered : (t : ℕ) → AreSortedPermissions (filter (λ row. nat_lt t row.end) rows)
  sorted-filtered t = Ascending-filter ip_order-total ip_in (λ row. nat_lt t row.end) rows sorted

  pub permissions_of-filtered : (t : ℕ) → permissions_of (filter (λ row. nat_lt t row.end) rows) ≡ permissions_at t (permissions_of rows)
  permissions_of-filtered t = map_of-filter ip_total ip_antisymmetric entry_of (is_live_at t) (λ row. nat_lt t row.end) (λ x. refl) rows are_permissions.distinct

  -- with a row at its place
  pub sorted-put : (row : Permission) → AreSortedPermissions (put_row (by_ip (ip_of row.ip)) row rows)
  sorted-put row = Ascending-put_row ip_order-total ip_in row rows sorted

  pub permissions_of-put : (row : Permission) → permissions_of (put_row (by_ip (ip_of row.ip)) row rows) ≡ insert (permissions_of rows) (ip_of row.ip) row.end
  permissions_of-put row = map_of-put_row ip_total ip_antisymmetric entry_of (by_ip (ip_of row.ip)) row rows (λ k d l. ip_order-same (ip_of (get_or rows k d).ip) (ip_of row.ip))

pub len-put : (rows : List Permission) → AreSortedPermissions rows → (row : Permission) → length (put_row (by_ip (ip_of row.ip)) row rows) ≡ len (insert (permissions_of rows) (ip_of row.ip) row.end)
len-put rows sorted row = sym (len-permissions (put_row (by_ip (ip_of row.ip)) row rows) (sorted-put rows sorted row)) ∙ ap len (permissions_of-put rows sorted row)

pub get-permission : (ip : List ℕ) (rows : List Permission) → get (permissions_of rows) ip ≡ option_map (λ row. row.end) (row_of (by_ip ip) rows)
get-permission ip rows = get-row_of ip_total ip_antisymmetric entry_of (by_ip ip) ip rows (λ k d l. ip_order-same (ip_of (get_or rows k d).ip) ip)

-- ---- permissions for all

pub len-with_all-ge : (m : PermissionMap) (ips : List Addr) (end : ℕ) → len m ≤ len (with_all m ips end)
len-with_all-ge m [] end = omega arith
len-with_all-ge m (ip ∷ ips) end = omega (arith, len-insert-ge ip_total m (ip_of ip) end, len-with_all-ge (insert m (ip_of ip) end) ips end)

-- ---- room for all

inserted_too : (b : Bool) (end : ℕ) (o : Option ℕ) → is_some o ≡ true → is_some (cond b (Some end) o) ≡ true
inserted_too true end o there = refl
inserted_too false end o there = there

one_more : (known there : Bool) (n : ℕ) → (known ≡ true → there ≡ true) → cond there n (n + 1) ≤ n + cond (not known) 1 0
one_more known true n has = omega arith
one_more false false n has = omega arith
one_more true false n has = absurd (false≢true (has refl))

-- an address takes at most one more row, and none where it has one
pub len-with_all-le : (old m : PermissionMap) (ips : List Addr) (end : ℕ) → ((ip : List ℕ) → contains_key old ip ≡ true → contains_key m ip ≡ true) → len (with_all m ips end) ≤ len m + count_by (λ ip. is_none (get old (ip_of ip))) ips
len-with_all-le old m [] end has = omega arith
len-with_all-le old m (x ∷ xs) end has =
    let ip = ip_of x in
    let more = len-with_all-le old (insert m ip end) xs end (λ k there. ap is_some (get-insert ip_total m ip end k) ∙ inserted_too (eq_by_cmp ip_cmp k ip) end (get m k) (has k there)) in
    omega (arith, more, len-insert ip_total m ip end, one_more (contains_key old ip) (contains_key m ip) (len m) (has ip), sum_by-cons (λ (ip : Addr). cond (is_none (get old (ip_of ip))) 1 0) x xs)
