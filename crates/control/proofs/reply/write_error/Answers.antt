use Rattle.std.proofs.Common.{rules, arith}
use Rattle.stun.specs.Builders.{bytes_of}
use Rattle.control.proofs.Kept.{begun_when_ok, kept_then, kept_whole, kept_reply, appended_longer, appended_kept}
use Rattle.control.proofs.reply.write_error.Goals as goal

pub returns-clause-rest : goal.returns-clause-rest
returns-clause-rest c =
    let first = c.push_error.ensures.appends in
    kept_whole c.finish.result _ (bytes_of c.sign_if.new.builder) c.args.out.now (search rules)
    (kept_reply c.kind-kind.result c.tx.result c.args.out.now c.begin.new.buffer c.resume-builder.result c.push_details.new.builder c.sign_if.new.builder c.finish.result (begun_when_ok c.begin.result c.unwrap.result c.unwrap.ensures c.begin.ensures.begins) c.resume-builder.ensures.bytes
    (omega (arith, appended_longer first, c.push_details.ensures.longer)) (kept_then _ _ _ _ _ c.push_details.ensures.longer (appended_kept first) c.push_details.ensures.kept)
    c.sign_if.ensures.longer c.sign_if.ensures.kept c.finish.ensures.size)
