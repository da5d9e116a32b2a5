-- Where the count of each comparison is stored: no two share an index.
use Rattle.std.specs.Prelude.{◌≡◌, ℕ, ◌<◌, List, [], ◌∷◌, length, get_or, set, replicate, refl}
use Rattle.std.proofs.Common.{sym, ◌∙◌, ap, subst, zero, suc}
use Rattle.std.proofs.lemmas.List.{get_or-set_same, get_or-set_other}
use Rattle.server.specs.Counters.{HasRaised, raised}
use Rattle.shadow.specs.CountValues.{comparison_index, comparison_count}
use Rattle.shadow.specs.declared.comparing.ChoiceComparison.{ChoiceComparison}
use Rattle.shadow.specs.declared.comparing.ChoiceComparison.TheVariants.{Same, OtherBytes, Elsewhere, Differs}
use Rattle.shadow.specs.declared.comparing.Deed.{Deed}
use Rattle.shadow.specs.declared.comparing.Deed.TheVariants.{Discards, PassesOn, Sends}
use Rattle.shadow.specs.declared.counts.ShadowCounts.{ShadowCounts}

abbrev in_order : List ChoiceComparison
in_order = Same ∷ OtherBytes ∷ Elsewhere
    ∷ Differs Discards Discards ∷ Differs Discards PassesOn ∷ Differs Discards Sends
    ∷ Differs PassesOn Discards ∷ Differs PassesOn PassesOn ∷ Differs PassesOn Sends
    ∷ Differs Sends Discards ∷ Differs Sends PassesOn ∷ Differs Sends Sends ∷ []

abbrev comparison_at : ℕ → ChoiceComparison
comparison_at i = get_or in_order i Same

at_index : (c : ChoiceComparison) → comparison_at (comparison_index c) ≡ c
at_index Same = refl
at_index OtherBytes = refl
at_index Elsewhere = refl
at_index (Differs Discards Discards) = refl
at_index (Differs Discards PassesOn) = refl
at_index (Differs Discards Sends) = refl
at_index (Differs PassesOn Discards) = refl
at_index (Differs PassesOn PassesOn) = refl
at_index (Differs PassesOn Sends) = refl
at_index (Differs Sends Discards) = refl
at_index (Differs Sends PassesOn) = refl
at_index (Differs Sends Sends) = refl

same_comparison : (c d : ChoiceComparison) → comparison_index c ≡ comparison_index d → c ≡ d
same_comparison c d same = sym (at_index c) ∙ ap comparison_at same ∙ at_index d

pub has_raised : (c : ChoiceComparison) (old : ShadowCounts) (i value : ℕ) → i ≡ comparison_index c → i < length old.values → value ≡ raised (get_or old.values i 0)
    → HasRaised c (comparison_count old) (comparison_count (record old { values = set old.values i value }))
has_raised c old i value at inside is =
    let this : get_or (set old.values i value) i 0 ≡ raised (get_or old.values i 0) = get_or-set_same old.values i value 0 inside ∙ is in
    record {
      this = let P : ℕ → Type 0 = λ k. get_or (set old.values i value) k 0 ≡ raised (get_or old.values k 0) in subst P at this;
      others = λ d other. get_or-set_other old.values i (comparison_index d) value 0 (λ same. other (same_comparison d c (same ∙ at)));
    }

-- ---- counts that are all 0

pub zeros : (n i : ℕ) → (let zero_at : ℕ = get_or (replicate n 0) i 0 in zero_at) ≡ 0
zeros zero i = refl
zeros (suc n) zero = refl
zeros (suc n) (suc i) = zeros n i
