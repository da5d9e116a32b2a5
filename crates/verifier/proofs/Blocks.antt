-- Signatures in blocks.
use Rattle.std.proofs.Common.{◌≡◌, ℕ, ◌+◌, ◌-◌, ◌*◌, ◌/◌, ◌<◌, ◌≤◌, Bool, true, false, List, [], ◌∷◌, ◌++◌, length, take, ⊎_elim, refl, sym, ap, ◌∙◌, subst, arith}
use Rattle.std.specs.Prelude.{◌==◌, nat_lt, slice_index_or, slice_set, if◌then◌else◌}
use Rattle.std.proofs.lemmas.Bool.{cases_lt, cases_eq, ltb-true, ltb-false}
use Rattle.std.proofs.lemmas.List.{length-append, length-set, length-take, get_or_append_left, get_or_push, get_or-set_same, get_or-set_other, get_or-take, take_at}
use Rattle.absstate.specs.CommonSignatures.{common_of, common_with, admits}
use Rattle.absstate.specs.Signatures.{lies_within}
use Rattle.absstate.specs.laws.Step.Common.{admits_one, admits_added, admits_more}
use Rattle.absstate.specs.laws.Step.Packing.{same_item}
use Rattle.absstate.specs.declared.common_signature.CommonSignature.{CommonSignature}
use Rattle.absstate.specs.declared.signature.StateSignature.{StateSignature}
use Rattle.verifier.specs.Blocks.{blocks_with, AreInBlocks}
use Rattle.verifier.specs.declared.signatures.TheConstants.{BLOCK}

pub no_blocks : (blocks : List CommonSignature) (each : List StateSignature) → each ≡ [] → AreInBlocks blocks each
no_blocks blocks each none = let zero : length each ≡ 0 = ap (λ (xs : List StateSignature). length xs) none in record { all = omega (arith, zero); admitted = λ i s c t lt. absurd (omega (arith, lt, zero)) }

pub same_blocks : (blocks blocks' : List CommonSignature) (each each' : List StateSignature) → blocks' ≡ blocks → each' ≡ each → AreInBlocks blocks each → AreInBlocks blocks' each'
same_blocks blocks blocks' each each' same also are = subst (λ (xs : List StateSignature). AreInBlocks blocks' xs) (sym also) (subst (λ (bs : List CommonSignature). AreInBlocks bs each) (sym same) are)

module _ (blocks : List CommonSignature) (each : List StateSignature) (s : StateSignature) (are : AreInBlocks blocks each) where
  abbrev block : ℕ
  block = length each / BLOCK

  abbrev old : CommonSignature
  old = slice_index_or blocks block (common_of s)

  -- a block with one signature more
  in_raised : block < length blocks → AreInBlocks (slice_set blocks block (common_with old s)) each
  in_raised inside =
      let long : length (slice_set blocks block (common_with old s)) ≡ length blocks = length-set blocks block (common_with old s) in
      record {
        all = omega (arith, long, are.all);
        admitted = λ i r c t lt at there within. ⊎_elim
            (λ same.
            let is : c ≡ common_with old s = sym there ∙ ap (λ n. slice_index_or (slice_set blocks block (common_with old s)) n c) same ∙ get_or-set_same blocks block (common_with old s) c inside in
            let before : slice_index_or blocks (i / BLOCK) old ≡ old = ap (λ n. slice_index_or blocks n old) same ∙ same_item block blocks old (common_of s) inside in
            subst (λ (d : CommonSignature). admits d t ≡ true) (sym is) (admits_more old s t (are.admitted i r old t lt at before within)))
            (λ other. are.admitted i r c t lt at (sym (get_or-set_other blocks block (i / BLOCK) (common_with old s) c other) ∙ there) within)
            (cases_eq (i / BLOCK) block);
      }

  -- a new block
  in_more : AreInBlocks (blocks ++ common_of s ∷ []) each
  in_more =
      let long : length (blocks ++ common_of s ∷ []) ≡ length blocks + 1 = length-append blocks (common_of s ∷ []) in
      record {
        all = omega (arith, long, are.all);
        admitted = λ i r c t lt at there within.
            let inside : i / BLOCK < length blocks = omega (arith, lt, are.all) in
            are.admitted i r c t lt at (sym (get_or_append_left blocks (common_of s ∷ []) c (i / BLOCK) inside) ∙ there) within;
      }

  pub in_blocks : AreInBlocks (blocks_with blocks block s) each
  in_blocks = by (nat_lt block (length blocks)) refl where
    by : (test : Bool) → nat_lt block (length blocks) ≡ test → AreInBlocks (if test then slice_set blocks block (common_with old s) else blocks ++ common_of s ∷ []) each
    by true e = in_raised (ltb-true block (length blocks) e)
    by false e = in_more

  -- the block of the signature that is added admits what that one lies within
  admits_last : (c : CommonSignature) (t : StateSignature) → slice_index_or (blocks_with blocks block s) block c ≡ c → lies_within s t ≡ true → admits c t ≡ true
  admits_last c t = by (nat_lt block (length blocks)) refl where
    by : (test : Bool) → nat_lt block (length blocks) ≡ test → slice_index_or (if test then slice_set blocks block (common_with old s) else blocks ++ common_of s ∷ []) block c ≡ c → lies_within s t ≡ true → admits c t ≡ true
    by true e there within =
        let is : c ≡ common_with old s = sym there ∙ get_or-set_same blocks block (common_with old s) c (ltb-true block (length blocks) e) in
        subst (λ (d : CommonSignature). admits d t ≡ true) (sym is) (admits_added old s t within)
    by false e there within =
        let last : length blocks ≡ block = omega (arith, are.all, ltb-false block (length blocks) e) in
        let is : c ≡ common_of s = sym there ∙ get_or_push blocks (common_of s) c block last in
        subst (λ (d : CommonSignature). admits d t ≡ true) (sym is) (admits_one s t within)

  there_is : block < length (blocks_with blocks block s)
  there_is = by (nat_lt block (length blocks)) refl where
    by : (test : Bool) → nat_lt block (length blocks) ≡ test → block < length (if test then slice_set blocks block (common_with old s) else blocks ++ common_of s ∷ [])
    by true e = omega (arith, length-set blocks block (common_with old s), ltb-true block (length blocks) e)
    by false e = omega (arith, length-append blocks (common_of s ∷ []), are.all)

  pub with_last : AreInBlocks (blocks_with blocks block s) (each ++ s ∷ [])
  with_last = record {
    all = omega (arith, there_is, length-append each (s ∷ []));
    admitted = λ i r c t lt at there within. ⊎_elim
        (λ before. in_blocks.admitted i r c t before (sym (get_or_append_left each (s ∷ []) r i before) ∙ at) there within)
        (λ last.
        let is : i ≡ length each = omega (arith, last, lt, length-append each (s ∷ [])) in
        let same : r ≡ s = sym at ∙ get_or_push each s r i (sym is) in
        admits_last c t (ap (λ n. slice_index_or (blocks_with blocks block s) (n / BLOCK) c) (sym is) ∙ there) (ap (λ (x : StateSignature). lies_within x t) (sym same) ∙ within))
        (cases_lt i (length each));
  }

pub without_last : (each : List StateSignature) (s : StateSignature) → take (length (each ++ s ∷ []) - 1) (each ++ s ∷ []) ≡ each
without_last each s = take_at each (s ∷ []) (length (each ++ s ∷ []) - 1) (omega (arith, length-append each (s ∷ [])))

-- the first signatures alone
pub with_fewer : (blocks : List CommonSignature) (each : List StateSignature) (n : ℕ) → AreInBlocks blocks each → AreInBlocks blocks (take n each)
with_fewer blocks each n are = record {
  all = omega (arith, length-take n each, are.all);
  admitted = λ i s c t lt at. are.admitted i s c t (omega (arith, lt, length-take n each)) (sym (get_or-take n each i s (omega (arith, lt, length-take n each))) ∙ at);
}

-- what a block doesn't admit, none of its signatures lies within
pub ruled_out : (blocks : List CommonSignature) (each : List StateSignature) (i : ℕ) (s : StateSignature) (c : CommonSignature) (t : StateSignature) → AreInBlocks blocks each → i < length each → slice_index_or each i s ≡ s
    → slice_index_or blocks (i / BLOCK) c ≡ c → admits c t ≡ false → lies_within s t ≡ false
ruled_out blocks each i s c t are lt at there none = by (lies_within s t) refl where
  by : (test : Bool) → lies_within s t ≡ test → lies_within s t ≡ false
  by false e = e
  by true e = let bad : true ≡ false = sym (are.admitted i s c t lt at there e) ∙ none in absurd cc
