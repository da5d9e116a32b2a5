use Rattle.std.proofs.Common.{◌≡◌, ℕ, ◌+◌, ◌<◌, ◌≤◌, List, length, map, take, get_or, Option, Some, sym, ap, ◌∙◌, arith}
use Rattle.std.specs.Prelude.{slice_set}
use Rattle.std.proofs.lemmas.List.{length-take-le, length-map, map_more}
use Rattle.semantics.specs.Access.{overlay}
use Rattle.semantics.specs.laws.Access.{put_more}
use Rattle.semantics.proofs.storing.put_cells.Goals as goal

-- one byte more is written
more : (index i : ℕ) (bytes : List ℕ) (old new : List (Option ℕ)) → i < length bytes → index + length bytes ≤ length old → new ≡ overlay index (map Some (take i bytes)) old
    → slice_set new (index + i) (Some (get_or bytes i 0)) ≡ overlay index (map Some (take (i + 1) bytes)) old
more index i bytes old new lt le e =
    let cells : List (Option ℕ) = map (λ (b : ℕ). Some b) (take i bytes) in
    let count : length cells ≡ i = length-map (take i bytes) (λ (b : ℕ). Some b) ∙ length-take-le i bytes (omega (arith, lt)) in
    ap (λ (l : List (Option ℕ)). slice_set l (index + i) (Some (get_or bytes i 0))) e
    ∙ put_more index (index + i) cells old (Some (get_or bytes i 0)) (omega (arith, count)) (omega (arith, lt, le))
    ∙ ap (λ (l : List (Option ℕ)). overlay index l old) (sym (map_more (λ (b : ℕ). Some b) bytes i 0 lt))

pub loop-i-preserved : goal.loop-i-preserved
loop-i-preserved c = more c.args.index c.loop-i.i c.args.bytes.now c.args.cells.now c.loop-i.cells c.loop-i-test.true c.requires c.loop-i.invariant
