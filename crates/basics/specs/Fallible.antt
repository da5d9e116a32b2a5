-- Meaning. Steps that may fail, one after the other: the first that fails gives the error.
use Rattle.std.specs.Prelude.{Bool, Result, Ok, Err, if◌then◌else◌}

infixl 10 ◌>>=◌
abbrev pub ◌>>=◌ : {A B E : Type 0} → Result A E → (A → Result B E) → Result B E
(Ok x) >>= f = f x
(Err error) >>= f = Err error

-- continues where the test passes
abbrev pub check : {E : Type 0} → Bool → E → Result (Unit {0}) E
check passed error = if passed then Ok tt else Err error
