-- Internal. The code of the model's values.
use Rattle.std.specs.Prelude.{ℕ, List, Option, refl}
use Rattle.std.specs.Coded.{Coded, code_by, coded×, coded_ℕ, coded_list, coded_option}
use Rattle.tables.specs.Rows.{Rows}
use Rattle.tables.specs.declared.held.Held.{Held}

abbrev pub coded_rows : Coded Held → Coded Rows
coded_rows held = code_by (ℕ × List (Option Held)) (coded× coded_ℕ (coded_list (coded_option held))) (λ rows. (rows.moment, rows.slots)) (λ p. record { moment = p.0; slots = p.1 }) (λ _. refl)
