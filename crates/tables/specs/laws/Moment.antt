-- Interface. Laws of the moment that counts where one is handed in.
use Rattle.std.specs.Prelude.{◌≡◌, ℕ, ◌≤◌}
use Rattle.std.proofs.Common.{ap, arith}
use Rattle.tables.specs.Moments.{moment_of}
use Rattle.tables.specs.Rows.{Rows, rows_at, live_rows}
use Rattle.tables.specs.declared.moment.TheConstants.{LATEST}

-- a moment between the greatest and the latest is itself
pub moment_of-between : (greatest t : ℕ) → greatest ≤ t → t ≤ LATEST → moment_of greatest t ≡ t
moment_of-between greatest t since latest = omega arith

pub moment_of-since : (greatest t : ℕ) → greatest ≤ moment_of greatest t
moment_of-since greatest t = omega arith

pub moment_of-latest : (greatest t : ℕ) → greatest ≤ LATEST → moment_of greatest t ≤ LATEST
moment_of-latest greatest t latest = omega arith

pub moment_of-again : (greatest t : ℕ) → moment_of greatest (moment_of greatest t) ≡ moment_of greatest t
moment_of-again greatest t = omega arith

-- a moment that a caller clamps by a greatest moment of its own
pub moment_of-greater : (m greatest t : ℕ) → m ≤ greatest → greatest ≤ LATEST → moment_of m (moment_of greatest t) ≡ moment_of greatest t
moment_of-greater m greatest t more latest = omega arith

-- the rows at such a moment are those that are live then
pub rows_at-greater : (rows : Rows) (greatest t : ℕ) → rows.moment ≤ greatest → greatest ≤ LATEST → rows_at (moment_of greatest t) rows ≡ live_rows (moment_of greatest t) rows
rows_at-greater rows greatest t more latest = ap (λ m. live_rows m rows) (moment_of-greater rows.moment greatest t more latest)
