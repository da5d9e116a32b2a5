-- Look-ups in what a slot holds that is live at a moment.
use Rattle.std.proofs.Common.{◌≡◌, ℕ, option_map, is_some, sym, ap, ◌∙◌}
use Rattle.std.specs.Cmp.{nat_cmp_total}
use Rattle.std.specs.FinMap.{get}
use Rattle.addresses.specs.Addresses.{ip_of}
use Rattle.addresses.specs.laws.AddressOrder.{ip_total}
use Rattle.addresses.specs.declared.address.Addr.{Addr}
use Rattle.tables.specs.Moments.{is_live_at}
use Rattle.tables.specs.LookUps.{bound_peer, permission_of}
use Rattle.tables.specs.Retained.{value_if}
use Rattle.tables.specs.laws.Retained.{get-kept_of}
use Rattle.tables.specs.laws.Row.{is_live_binding, live_held}
use Rattle.tables.specs.declared.held.Held.{Held}

module _ (m : ℕ) (held live : Held) (shows : live_held m held ≡ live) where
  pub bound_peer-live : (number : ℕ) → option_map (λ b. b.peer) (value_if (is_live_binding m) (get held.channels number)) ≡ bound_peer number live
  bound_peer-live number = ap (option_map (λ b. b.peer)) (sym (get-kept_of nat_cmp_total (is_live_binding m) held.channels number)) ∙ ap (bound_peer number) shows

  pub permission_of-live : (ip : Addr) → is_some (value_if (is_live_at m) (get held.permissions (ip_of ip))) ≡ is_some (permission_of ip live)
  permission_of-live ip = ap is_some (sym (get-kept_of ip_total (is_live_at m) held.permissions (ip_of ip))) ∙ ap (λ h. is_some (permission_of ip h)) shows
