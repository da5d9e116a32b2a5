use Rattle.std.proofs.Common.{rules, ◌≡◌, ℕ, suc, ◌+◌, ◌≤◌, ◌<◌, List, length, take, get_or, Option, Some, None, refl, sym, ap, ◌∙◌, arith}
use Rattle.std.specs.Prelude.{slice_set}
use Rattle.std.proofs.lemmas.List.{length-replicate, length-set, take_all, take_more_set}
use Rattle.semantics.specs.Access.{cells_bytes}
use Rattle.semantics.specs.laws.Call.{cells_more, cells_none}
use Rattle.semantics.proofs.helper.bytes_of_cells.Goals as goal

next : (i : ℕ) → i + 1 ≡ suc i
next i = omega arith

-- one byte more is read
more : (n : ℕ) (cells : List (Option ℕ)) (bytes : List ℕ) (i b : ℕ) → length cells ≡ n → length bytes ≡ n → i < n → get_or cells i None ≡ Some b → cells_bytes (take i cells) ≡ Some (take i bytes)
    → cells_bytes (take (i + 1) cells) ≡ Some (take (i + 1) (slice_set bytes i b))
more n cells bytes i b count long lt here e =
    ap (λ (k : ℕ). cells_bytes (take k cells)) (next i) ∙ cells_more cells i b (take i bytes) (omega (arith, lt, count)) here e
    ∙ ap (λ (l : List ℕ). Some l) (sym (take_more_set bytes i b (omega (arith, lt, long))))

whole : (n : ℕ) (cells : List (Option ℕ)) (bytes : List ℕ) (i : ℕ) → length cells ≡ n → length bytes ≡ n → n ≤ i → cells_bytes (take i cells) ≡ Some (take i bytes) → Some bytes ≡ cells_bytes cells
whole n cells bytes i count long le e =
    ap (λ (l : List ℕ). Some l) (sym (take_all i bytes (omega (arith, le, long)))) ∙ sym e ∙ ap cells_bytes (take_all i cells (omega (arith, le, count)))

pub loop-i-init : goal.loop-i-init
loop-i-init g c = (length-replicate g.row.N 0, refl)

pub loop-i-preserved : goal.loop-i-preserved
loop-i-preserved g c = (
  length-set c.loop-i.bytes c.loop-i.i c.in_ok-bytes.field-0 ∙ c.loop-i.invariant.0,
  more _ c.args.cells.now c.loop-i.bytes c.loop-i.i c.in_ok-bytes.field-0 c.requires c.loop-i.invariant.0 c.loop-i-test.true c.in_ok-bytes.was c.loop-i.invariant.1,
)

pub returns : goal.returns
returns g c = whole _ c.args.cells.now c.loop-i.bytes c.loop-i.i c.requires c.loop-i.invariant.0 c.loop-i-test.false c.loop-i.invariant.1

pub returns-in_err-bytes : goal.returns-in_err-bytes
returns-in_err-bytes g c =
    let none : cells_bytes c.args.cells.now ≡ None = cells_none c.args.cells.now c.loop-i.i (omega (arith, c.requires, c.loop-i-test.true)) c.in_err-bytes.was in
    rw none (search rules)
