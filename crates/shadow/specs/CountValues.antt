-- Internal. Where the count of each comparison is stored.
use Rattle.std.specs.Prelude.{ℕ, ◌+◌, ◌*◌, slice_index}
use Rattle.shadow.specs.declared.comparing.ChoiceComparison.{ChoiceComparison}
use Rattle.shadow.specs.declared.comparing.ChoiceComparison.TheVariants.{Same, OtherBytes, Elsewhere, Differs}
use Rattle.shadow.specs.declared.comparing.Deed.{Deed}
use Rattle.shadow.specs.declared.comparing.Deed.TheVariants.{Discards, PassesOn, Sends}
use Rattle.shadow.specs.declared.counts.ShadowCounts.{ShadowCounts}

abbrev pub deed_index : Deed → ℕ
deed_index Discards = 0
deed_index PassesOn = 1
deed_index Sends = 2

abbrev pub comparison_index : ChoiceComparison → ℕ
comparison_index Same = 0
comparison_index OtherBytes = 1
comparison_index Elsewhere = 2
comparison_index (Differs program shadow) = 3 + 3 * deed_index program + deed_index shadow

abbrev pub comparison_count : ShadowCounts → ChoiceComparison → ℕ
comparison_count counts c = slice_index counts.values (comparison_index c)
