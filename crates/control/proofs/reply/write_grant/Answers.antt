use Rattle.std.proofs.Common.{rules}
use Rattle.stun.specs.Builders.{bytes_of}
use Rattle.control.proofs.Kept.{begun_when_ok, kept_whole, kept_reply}
use Rattle.control.proofs.reply.write_grant.Goals as goal

pub returns-clause-rest : goal.returns-clause-rest
returns-clause-rest c =
    kept_whole c.finish.result _ (bytes_of c.sign_if.new.builder) c.args.out.now (search rules)
    (kept_reply c.kind-kind.result c.tx.result c.args.out.now c.begin.new.buffer c.resume-builder.result c.push_grant.new.builder c.sign_if.new.builder c.finish.result (begun_when_ok c.begin.result c.unwrap.result c.unwrap.ensures c.begin.ensures.begins) c.resume-builder.ensures.bytes
    c.push_grant.ensures.longer c.push_grant.ensures.kept c.sign_if.ensures.longer c.sign_if.ensures.kept c.finish.ensures.size)
