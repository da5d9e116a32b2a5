use Rattle.std.proofs.Common.{◌≡◌, ◌<◌, ◌≤◌, List, length, sym, ap, ◌∙◌, arith}
use Rattle.std.specs.Prelude.{slice_index_or, slice_set}
use Rattle.std.proofs.lemmas.List.{set-get_or}
use denote.Memory.{lone}
use Rattle.absstate.specs.declared.abstract_state.AbsState.{AbsState}
use Rattle.verifier.specs.Searches.{HasPassed}
use Rattle.verifier.proofs.Signed.{passed_over, one_more, one_covers}
use Rattle.verifier.proofs.Sizes.{state_fits}
use Rattle.verifier.proofs.kept.search_among.Goals as goal

pub covers-requires : goal.covers-requires
covers-requires g c = (state_fits (lone g.row.D.mir) g.met.D.Domain.small, (c.words-words.ensures, omega (arith, c.if-at-end.true, c.min.ensures, c.if-weight-lt-SEARCH.true)))

pub returns-then-covers-clause-found : goal.returns-then-covers-clause-found
returns-then-covers-clause-found g c =
    let lt : c.next_within-next.result < length c.args.states.now.items = omega (arith, c.if-at-end.true, c.min.ensures, c.len-in-loop-at.ensures, c.loop-at-test.true, c.len.ensures, ap (λ (xs : List (AbsState g.row.D.Denot)). length xs) c.loop-at.invariant.same) in
    let at : slice_index_or c.args.states.now.items c.next_within-next.result c.index_mut.result.now ≡ c.index_mut.result.now =
    ap (λ (xs : List (AbsState g.row.D.Denot)). slice_index_or xs c.next_within-next.result c.index_mut.result.now) (sym c.loop-at.invariant.same) ∙ sym c.index_mut.ensures.value in (
      one_covers g.D.Domain.ops g.D.Domain.Member g.met.D.Domain.laws c.args.state.now c.args.states.now.items c.next_within-next.result c.index_mut.result.now lt at (sym c.covers.ensures.value ∙ c.if-covers.true),
      (c.next_within-next.result, c.index_mut.result.now, lt, at, c.covers.ensures.members c.if-covers.true),
    )

pub loop-at-preserved-then-at-end : goal.loop-at-preserved-then-at-end
loop-at-preserved-then-at-end g c =
    let count : length c.loop-at.states.items ≡ length c.args.states.now.items = ap (λ (xs : List (AbsState g.row.D.Denot)). length xs) c.loop-at.invariant.same in
    let lt : c.next_within-next.result < length c.args.states.now.items = omega (arith, c.if-at-end.true, c.min.ensures, c.len-in-loop-at.ensures, c.loop-at-test.true, c.len.ensures, count) in
    let at : slice_index_or c.args.states.now.items c.next_within-next.result c.index_mut.result.now ≡ c.index_mut.result.now =
    ap (λ (xs : List (AbsState g.row.D.Denot)). slice_index_or xs c.next_within-next.result c.index_mut.result.now) (sym c.loop-at.invariant.same) ∙ sym c.index_mut.ensures.value in
    let passed : HasPassed g.D.Domain.ops c.args.states.now.items c.next_within-next.result c.args.state.now =
    passed_over g.D.Domain.ops g.D.Domain.Member g.met.D.Domain.laws c.args.state.now c.args.states.now.items c.args.signatures.now c.signature-signature.result c.loop-at.at c.next_within-next.result c.requires.signatures c.signature-signature.ensures c.next_within-next.ensures.after (omega (arith, lt)) c.next_within-next.ensures.none
    c.loop-at.invariant.has_passed in
    record {
      same = ap (slice_set c.loop-at.states.items c.next_within-next.result) (c.covers.ensures.same ∙ c.index_mut.ensures.value) ∙ set-get_or c.loop-at.states.items c.next_within-next.result c.index_mut.result.now ∙ c.loop-at.invariant.same;
      has_passed = one_more g.D.Domain.ops g.D.Domain.Member g.met.D.Domain.laws c.args.state.now c.args.states.now.items c.next_within-next.result c.index_mut.result.now lt at (sym c.covers.ensures.value ∙ c.if-covers.false) passed;
      after = omega (arith, c.loop-at.invariant.after, c.next_within-next.ensures.after);
      counted = omega (arith, c.loop-at.invariant.counted, c.next_within-next.ensures.after, c.covers.ensures.part);
      each = omega (arith, c.loop-at.invariant.each, c.next_within-next.ensures.after, c.covers.ensures.most);
      most = omega (arith, c.if-at-end.true, c.min.ensures, c.if-weight-lt-SEARCH.true, c.covers.ensures.most);
    }

pub loop-at-preserved : goal.loop-at-preserved
loop-at-preserved g c =
    let count : length c.loop-at.states.items ≡ length c.args.states.now.items = ap (λ (xs : List (AbsState g.row.D.Denot)). length xs) c.loop-at.invariant.same in
    let inside : c.next_within-next.result ≤ length c.args.states.now.items = omega (arith, c.next_within-next.ensures.inside, c.min.ensures, c.len-in-loop-at.ensures, c.loop-at-test.true, c.len.ensures, count) in
    record {
      same = c.loop-at.invariant.same;
      has_passed =
          passed_over g.D.Domain.ops g.D.Domain.Member g.met.D.Domain.laws c.args.state.now c.args.states.now.items c.args.signatures.now c.signature-signature.result c.loop-at.at c.next_within-next.result c.requires.signatures c.signature-signature.ensures c.next_within-next.ensures.after inside c.next_within-next.ensures.none
          c.loop-at.invariant.has_passed;
      after = omega (arith, c.loop-at.invariant.after, c.next_within-next.ensures.after);
      counted = omega (arith, c.loop-at.invariant.counted, c.next_within-next.ensures.after);
      each = omega (arith, c.loop-at.invariant.each, c.next_within-next.ensures.after);
      most = omega (arith, c.next_within-next.ensures.inside, c.min.ensures, c.if-weight-lt-SEARCH.true);
    }
