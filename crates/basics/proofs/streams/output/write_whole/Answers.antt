use Rattle.std.proofs.Common.{◌≡◌, ◌++◌, rules, take, sym, subst}
use Rattle.std.proofs.KnownBytes.{Appends-trans, Appends-kept, Keeps-refl}
use Rattle.basics.proofs.Beginnings.{short, nothing_appended, moves_front}
use Rattle.basics.proofs.streams.output.write_whole.Goals.{in-Ok, in-Err+else-ne}
use Rattle.basics.proofs.streams.output.write_whole.Goals as goal

pub returns-in-Ok-eq0-clause-err : goal.returns-in-Ok-eq0-clause-err
returns-in-Ok-eq0-clause-err g c =
    let (done, split, appended) = c.loop.invariant in
    short _ _ _ _ done _ split appended (nothing_appended _ _ _ c.in-Ok-eq0.field-0 (search rules) c.in-Ok-eq0.ensures.bytes)

pub returns-then-ne-clause-err : goal.returns-then-ne-clause-err
returns-then-ne-clause-err g c =
    let (done, split, appended) = c.loop.invariant in
    short _ _ _ _ done _ split appended c.in-Err.ensures.bytes

pub loop-preserved : goal.loop-preserved
loop-preserved g c =
    let (done, split, appended) = c.loop.invariant in
    elim c.match-write.branch [
      | in-Ok w ↦
          let n = w.in-Ok.n in
          (done ++ take n c.loop.rest.now, subst (λ r. c.args.bytes.now ≡ (done ++ take n c.loop.rest.now) ++ r.now) (sym w.rest-is) (moves_front _ done c.loop.rest.now n split), Appends-trans _ _ _ _ _ appended w.in-Ok.ensures.bytes)
      | in-Err+else-ne w ↦
          (done, subst (λ r. c.args.bytes.now ≡ done ++ r.now) (sym w.rest-is) split, Appends-kept _ _ _ _ appended w.in-Err.ensures.bytes)
    ]

pub returns-clause-err : goal.returns-clause-err
returns-clause-err g c =
    let (done, split, appended) = c.loop.invariant in
    short _ _ _ _ done _ split appended (Keeps-refl _)
