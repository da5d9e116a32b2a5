use Rattle.std.proofs.Common.{rules, ◌≡◌, ◌++◌, ap, sym, subst, ◌∙◌, append_assoc}
use Rattle.std.specs.Slice.Iter.{chunks_rest}
use Rattle.std.specs.Io.KnownBytes.{Appends}
use Rattle.std.proofs.KnownBytes.{Appends-trans}
use Rattle.hex.specs.Hex.{encode_lower}
use Rattle.events.specs.Lines.{bytes_text}
use Rattle.events.proofs.WrittenBytes.{cut, for_err, encode-append, text_is, no_bytes}
use Rattle.events.proofs.writing.write_bytes.Goals as goal

pub loop-chunk-preserved : goal.loop-chunk-preserved
loop-chunk-preserved g c =
    let steps = c.in-Some.ensures.steps in
    let (done, written, whole) = c.loop-chunk.invariant.3 in (
      search rules,
      tt,
      steps.0 ∙ c.loop-chunk.invariant.2,
      (
        done ++ encode_lower c.in-Some.chunk.now,
        Appends-trans _ _ _ done (encode_lower c.in-Some.chunk.now) written c.in_ok-write_digits.ensures.ok,
        append_assoc done _ _ ∙ ap (λ l. done ++ l) (sym (encode-append c.in-Some.chunk.now _) ∙ ap encode_lower (sym steps.1.0)) ∙ whole,
      ),
      search rules,
    )

pub returns-in_err-write_digits-clause-err : goal.returns-in_err-write_digits-clause-err
returns-in_err-write_digits-clause-err g c =
    let (done, written, whole) = c.loop-chunk.invariant.3 in
    let text : bytes_text c.args.bytes.now ≡ done ++ encode_lower c.in-Some.chunk.now ++ encode_lower (chunks_rest c.next.new.self) =
    text_is c.args.bytes.now (search rules) ∙ sym whole ∙ ap (λ l. done ++ l) (ap encode_lower c.in-Some.ensures.steps.1.0 ∙ encode-append c.in-Some.chunk.now _)
    ∙ sym (append_assoc done (encode_lower c.in-Some.chunk.now) (encode_lower (chunks_rest c.next.new.self))) in
    for_err c.from_residual.result (cut _ _ _ (bytes_text c.args.bytes.now) done (encode_lower c.in-Some.chunk.now) (encode_lower (chunks_rest c.next.new.self)) text written c.in_err-write_digits.ensures.err)

pub returns-clause-ok : goal.returns-clause-ok
returns-clause-ok g c =
    let (done, written, whole) = c.loop-chunk.invariant.3 in
    subst (Appends c.args.output.now.contents c.loop-chunk.output.contents)
    (no_bytes _ done (encode_lower c.args.bytes.now) c.in-None.ensures.steps.1.0 whole ∙ sym (text_is c.args.bytes.now (search rules))) written
