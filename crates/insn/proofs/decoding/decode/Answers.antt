use Rattle.std.proofs.Common.{arith, rules, inl}
use Rattle.insn.specs.Refusal.{IsWhole}
use Rattle.insn.specs.declared.refusal.DecodeError.TheVariants.{Empty, NotEights, TooLong}
use Rattle.insn.proofs.Programs.{found_whole, refused_whole, only_program, exact_refusal, refusal_unique, refused_is_no_program}
use Rattle.insn.proofs.decoding.decode.Goals as goal

pub returns-then-is_empty-clause-only : goal.returns-then-is_empty-clause-only
returns-then-is_empty-clause-only c code encodes =
    absurd (refused_is_no_program c.args.bytes.now Empty code (search rules) encodes)

pub returns-then-bytes-ne0-clause-only : goal.returns-then-bytes-ne0-clause-only
returns-then-bytes-ne0-clause-only c code encodes =
    absurd (refused_is_no_program c.args.bytes.now NotEights code (search rules) encodes)

pub returns-then-bytes-clause-only : goal.returns-then-bytes-clause-only
returns-then-bytes-clause-only c code encodes =
    absurd (refused_is_no_program c.args.bytes.now TooLong code (search rules) encodes)

pub returns-clause-found : goal.returns-clause-found
returns-clause-found c =
    let whole : IsWhole c.args.bytes.now = record { some = search rules; eights = search rules; few = omega arith } in
    found_whole c.args.bytes.now c.instructions.result whole c.instructions.ensures.found

pub returns-clause-only : goal.returns-clause-only
returns-clause-only c =
    let whole : IsWhole c.args.bytes.now = record { some = search rules; eights = search rules; few = omega arith } in
    only_program c.args.bytes.now c.instructions.result (found_whole c.args.bytes.now c.instructions.result whole c.instructions.ensures.found)
    (refused_whole c.args.bytes.now c.instructions.result whole c.instructions.ensures.refused)

pub returns-then-is_empty-clause-exact : goal.returns-then-is_empty-clause-exact
returns-then-is_empty-clause-exact c e is = inl (refusal_unique c.args.bytes.now Empty e (search rules) is)

pub returns-then-bytes-ne0-clause-exact : goal.returns-then-bytes-ne0-clause-exact
returns-then-bytes-ne0-clause-exact c e is = inl (refusal_unique c.args.bytes.now NotEights e (search rules) is)

pub returns-then-bytes-clause-exact : goal.returns-then-bytes-clause-exact
returns-then-bytes-clause-exact c e is = inl (refusal_unique c.args.bytes.now TooLong e (search rules) is)

pub returns-clause-exact : goal.returns-clause-exact
returns-clause-exact c =
    let whole : IsWhole c.args.bytes.now = record { some = search rules; eights = search rules; few = omega arith } in
    exact_refusal c.args.bytes.now c.instructions.result (found_whole c.args.bytes.now c.instructions.result whole c.instructions.ensures.found)
    (refused_whole c.args.bytes.now c.instructions.result whole c.instructions.ensures.refused)
