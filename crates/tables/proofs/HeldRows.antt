-- What a slot holds after a change, as the code makes it.
use Rattle.std.proofs.Common.{◌≡◌, ℕ, true, false, Result, Ok, Err, OnOk, OnErr, is_ok, sym, subst}
use Rattle.std.specs.FinMap.{empty}
use Rattle.addresses.specs.Addresses.{IsIpv4Address}
use Rattle.tables.specs.Channels.{ChannelMap}
use Rattle.tables.specs.Permissions.{PermissionMap}
use Rattle.tables.specs.WellFormed.{IsHeldAt}
use Rattle.tables.specs.laws.WellFormed.{fresh-held_at}
use Rattle.tables.specs.declared.allocation.Allocation.{Allocation}
use Rattle.tables.specs.declared.held.Held.{Held}

abbrev pub held_of : Allocation → PermissionMap → ChannelMap → Held
held_of allocation permissions channels = record { allocation = allocation; permissions = permissions; channels = channels }

pub allocated : (slot : ℕ) (a : Allocation) (permissions : PermissionMap) (channels : ChannelMap) → permissions ≡ empty → channels ≡ empty → a.slot ≡ slot → IsIpv4Address a.client
    → IsHeldAt slot (held_of a permissions channels)
allocated slot a permissions channels no_permissions no_channels at client =
    subst (IsHeldAt slot) (λ i. held_of a (sym no_permissions i) (sym no_channels i)) (fresh-held_at slot a at client)

-- ---- what a call says of its result

pub on_made : {A E P : Type 0} (r : Result A E) → is_ok r ≡ true → OnOk r P → P
on_made (Ok x) ok p = p
on_made (Err e) ok p = absurd cc

pub on_refused : {A E P : Type 0} (r : Result A E) → is_ok r ≡ false → OnErr r P → P
on_refused (Ok x) refused p = absurd cc
on_refused (Err e) refused p = p
