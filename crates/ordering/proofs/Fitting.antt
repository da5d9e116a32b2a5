-- Instructions that fit.
use Rattle.std.proofs.Common.{◌≡◌, ℕ, zero, suc, ◌-◌, List, [], ◌∷◌, ◌++◌, get_or, replicate, subst}
use Rattle.std.specs.List.{AllByRecursion}
use Rattle.insn.specs.Encoding.{slots_of, Fits, AllFit}
use Rattle.insn.specs.declared.instruction.Insn.{Insn}
use Rattle.semantics.specs.Slots.{slots_of_insn, slots, fetch}
use Rattle.semantics.specs.declared.fetching.Fetched.{Fetched}
use Rattle.semantics.specs.declared.fetching.Fetched.TheVariants.{Begins, Inside, Past}

abbrev FitsThere : Fetched → Type 0
FitsThere (Begins i) = Fits i
FitsThere Inside = Unit {0}
FitsThere Past = Unit {0}

both : (xs ys : List Fetched) → AllByRecursion FitsThere xs → AllByRecursion FitsThere ys → AllByRecursion FitsThere (xs ++ ys)
both [] ys p q = q
both (x ∷ xs) ys p q = (p.0, both xs ys p.1 q)

all_inside : (n : ℕ) → AllByRecursion FitsThere (replicate n Inside)
all_inside zero = tt
all_inside (suc n) = (tt, all_inside n)

all_fit : (code : List Insn) → AllFit code → AllByRecursion FitsThere (slots code)
all_fit [] fit = tt
all_fit (i ∷ code) fit = both (slots_of_insn i) (slots code) (fit.0, all_inside (slots_of i - 1)) (all_fit code fit.1)

one_fits : (all : List Fetched) (n : ℕ) → AllByRecursion FitsThere all → FitsThere (get_or all n Past)
one_fits [] n fit = tt
one_fits (f ∷ all) zero fit = fit.0
one_fits (f ∷ all) (suc n) fit = one_fits all n fit.1

-- an instruction of a program fits where all do
pub fits_at : (code : List Insn) (slot : ℕ) (i : Insn) → AllFit code → fetch code slot ≡ Begins i → Fits i
fits_at code slot i fit here = subst FitsThere here (one_fits (slots code) slot (all_fit code fit))
