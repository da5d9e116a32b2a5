-- Meaning. The channels of an allocation (RFC 8656, section 12).
use Rattle.std.specs.Prelude.{ℕ, ◌≤◌, Bool, true, ◌&&◌, find, Option, None, Some, nat_eq}
use Rattle.std.specs.Option.{option_map}
use Rattle.std.specs.Ordering.{nat_cmp}
use Rattle.std.specs.FinMap.{FinMap, get, entries, retain_keys}
use Rattle.addresses.specs.AddressOrder.{is_same_address}
use Rattle.addresses.specs.declared.address.Addr.{Addr}
use Rattle.tables.specs.Moments.{is_live_at}
use Rattle.tables.specs.declared.channels.Binding.{Binding}
use Rattle.tables.specs.declared.channels.TheConstants.{FIRST_CHANNEL, LAST_CHANNEL}

-- the numbers of channels
abbrev pub IsChannelNumber : ℕ → Type 0
IsChannelNumber number = (FIRST_CHANNEL ≤ number) × (number ≤ LAST_CHANNEL)

-- the peer and the end of each channel, by its number
abbrev pub ChannelMap : Type 0
ChannelMap = FinMap nat_cmp Binding

abbrev pub end_of : ChannelMap → ℕ → Option ℕ
end_of channels number = option_map (λ b. b.end) (get channels number)

-- those that are live at a moment
abbrev pub channels_at : ℕ → ChannelMap → ChannelMap
channels_at t channels = retain_keys channels (λ number. is_live_at t (end_of channels number))

-- the number that is bound to a peer
abbrev pub number_to : Addr → ChannelMap → Option ℕ
number_to peer channels = option_map (λ e. e.0) (find (λ e. is_same_address peer e.1.peer) (entries channels))

abbrev pub is_none_or : {A : Type 0} → (A → Bool) → Option A → Bool
is_none_or test None = true
is_none_or test (Some x) = test x

-- whether this number is bound to no other peer, and this peer to no other number
abbrev pub may_bind : ChannelMap → ℕ → Addr → Bool
may_bind channels number peer = is_none_or (λ b. is_same_address peer b.peer) (get channels number) && is_none_or (nat_eq number) (number_to peer channels)
