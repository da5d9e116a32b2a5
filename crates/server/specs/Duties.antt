-- Meaning. What a server does beside datagrams: one piece at a time, of the kinds in turn.
use Rattle.std.specs.Prelude.{◌≡◌, ◌≢◌, ◌⊎◌, ℕ, suc, zero, ◌<◌, Bool, true, false, List, [], ◌∷◌, ◌++◌, length, Option, None, Some}
use Rattle.server.specs.Calls.{HasReported}
use Rattle.server.specs.declared.duties.Duty.{Duty}
use Rattle.server.specs.declared.duties.Duty.TheVariants.{Log, Clients, Chores, Reports, Programs}

-- a kind was asked for a piece, and whether something of it was due and is done
pub record Asked : Type 0 where
  pub duty : Duty
  pub done : Bool

abbrev pub next_duty : Duty → Duty
next_duty Log = Clients
next_duty Clients = Chores
next_duty Chores = Reports
next_duty Reports = Programs
next_duty Programs = Log

-- the n-th kind in turn after one; the fifth is that one again
abbrev pub duty_after : ℕ → Duty → Duty
duty_after zero last = last
duty_after (suc n) last = next_duty (duty_after n last)

-- the next kinds in turn are asked, and nothing of them is due
abbrev pub none_due : ℕ → Duty → List Asked
none_due zero last = []
none_due (suc n) last = none_due n last ++ record { duty = duty_after (suc n) last; done = false } ∷ []

-- The kinds in turn after the last one are asked until something of one is due, which is done, and no further; where nothing is due, all
-- five are asked.
abbrev pub HasDoneNext : Duty → Option (List Asked) → Option (List Asked) → Option Duty → Type 0
HasDoneNext last before after None = HasReported before after (none_due 5 last)
HasDoneNext last before after (Some duty) = (n : ℕ) × (n < 5) × (duty ≡ duty_after (suc n) last)
    × HasReported before after (none_due n last ++ record { duty = duty; done = true } ∷ [])

-- ---- no kind waits for long

-- a piece of this kind is the next one, after kinds of which nothing is due; `x` isn't one of these
pub record IsNextPast (x last duty : Duty) : Type 0 where
  pub idle : ℕ
  pub next : duty ≡ duty_after (suc idle) last
  pub due : (k : ℕ) → k < idle → x ≢ duty_after (suc k) last

-- pieces one after the other, while something of the kind `x` is due
abbrev pub ArePieces : Duty → Duty → List Duty → Type 0
ArePieces x last [] = Unit {0}
ArePieces x last (duty ∷ pieces) = IsNextPast x last duty × ArePieces x duty pieces

abbrev pub IsAmong : Duty → List Duty → Type 0
IsAmong x [] = ⊥
IsAmong x (duty ∷ pieces) = (x ≡ duty) ⊎ IsAmong x pieces

-- While something of a kind is due, a piece of it is done at the latest when its turn comes: after as many others as there are kinds
-- before it, four at most.
abbrev pub IsDoneInTurn : Type 0
IsDoneInTurn = (x last : Duty) (n : ℕ) (pieces : List Duty) → x ≡ duty_after (suc n) last → ArePieces x last pieces → n < length pieces → IsAmong x pieces
