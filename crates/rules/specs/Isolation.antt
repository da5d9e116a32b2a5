-- Meaning. That users of a relay are apart: of the rows, what a datagram draws depends on those of its own allocation alone, for a
-- client beside the next free slot and the counts that a quota is of, and it changes no other's.
use Rattle.std.specs.Prelude.{◌≡◌, ℕ, List, [], ◌∷◌, length, map, Option, None, Some, if◌then◌else◌}
use Rattle.addresses.specs.AddressOrder.{is_same_address}
use Rattle.addresses.specs.declared.address.Addr.{Addr}
use Rattle.control.specs.declared.config.Config.{Config}
use Rattle.events.specs.declared.meta.Source.{Source}
use Rattle.events.specs.declared.meta.Source.TheVariants.{Client, Peer}
use Rattle.tables.specs.Changes.{first_free}
use Rattle.tables.specs.Counts.{allocations_of}
use Rattle.tables.specs.LookUps.{held_in}
use Rattle.tables.specs.Rows.{Rows, rows_at}
use Rattle.tables.specs.WellFormed.{AreWellFormed}
use Rattle.tables.specs.declared.held.Held.{Held}
use Rattle.rules.specs.Systems.{System}

-- ---- what is a source's own, and what is others'

-- what a slot holds of a client
abbrev pub of_client : Addr → Option Held → Option Held
of_client client None = None
of_client client (Some held) = if is_same_address client held.allocation.client then Some held else None

-- what it holds of any other
abbrev pub of_other : Addr → Option Held → Option Held
of_other client None = None
of_other client (Some held) = if is_same_address client held.allocation.client then None else Some held

-- the rows of a datagram's own allocation: those of the client, each at its slot, or of the slot that a peer's datagram came to
abbrev pub own_rows : Source → Rows → List (Option Held)
own_rows (Client client) rows = map (of_client client) rows.slots
own_rows (Peer slot peer) rows = held_in rows slot ∷ []

-- the slot that an Allocate request of a client would be given
abbrev pub next_slot : Source → Rows → Option ℕ
next_slot (Client client) rows = first_free rows
next_slot (Peer slot peer) rows = None

-- where users have a quota, a client is given an allocation by how many its user has
abbrev pub HaveSameCounts : Option ℕ → Source → Rows → Rows → Type 0
HaveSameCounts None from a b = Unit {0}
HaveSameCounts (Some quota) (Client client) a b = (owner : List ℕ) → allocations_of owner a ≡ allocations_of owner b
HaveSameCounts (Some quota) (Peer slot peer) a b = Unit {0}

-- Two tables look alike to a source: they have the same own rows, at the same moment, and the same slot is free next; and where
-- users have a quota, each has as many allocations.
pub record LookAlike (quota : Option ℕ) (from : Source) (a b : Rows) : Type 0 where
  pub moment : a.moment ≡ b.moment
  pub count : length a.slots ≡ length b.slots
  pub own : own_rows from a ≡ own_rows from b
  pub next : next_slot from a ≡ next_slot from b
  pub counts : HaveSameCounts quota from a b

-- the rows of all other clients are the same, each at its slot; a peer's datagram changes none
abbrev pub KeepsOthers : Source → Rows → Rows → Type 0
KeepsOthers (Client client) before after = map (of_other client) before.slots ≡ map (of_other client) after.slots
KeepsOthers (Peer slot peer) before after = before.slots ≡ after.slots

-- ---- a system

-- For a datagram with its source, at a moment: over two tables that look alike to the source a system sends the same, and leaves
-- the same own rows; and over any it leaves the rows of all others as they are.
pub record ActsOnItsOwn (system : System) (config : Config) (now : ℕ) (tx : List ℕ) (from : Source) (bytes : List ℕ) : Type 0 where
  pub answer : (a b : Rows) → AreWellFormed a → AreWellFormed b → LookAlike config.user_slots from (rows_at now a) (rows_at now b)
      → (system config now tx from a bytes).answer ≡ (system config now tx from b bytes).answer
  pub own : (a b : Rows) → AreWellFormed a → AreWellFormed b → LookAlike config.user_slots from (rows_at now a) (rows_at now b)
      → own_rows from (rows_at now (system config now tx from a bytes).rows) ≡ own_rows from (rows_at now (system config now tx from b bytes).rows)
  pub others : (rows : Rows) → AreWellFormed rows
      → KeepsOthers from (rows_at now rows) (rows_at now (system config now tx from rows bytes).rows)

-- it does so for every datagram
abbrev pub KeepsUsersApart : System → Type 0
KeepsUsersApart system = (config : Config) (now : ℕ) (tx : List ℕ) (from : Source) (bytes : List ℕ)
    → ActsOnItsOwn system config now tx from bytes
