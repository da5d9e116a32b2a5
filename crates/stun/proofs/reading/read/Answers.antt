use Rattle.std.proofs.Common.{arith, rules, refl, subst, sym, ap, ◌∙◌}
use Rattle.std.proofs.lemmas.Result.{err_from_is_err_and}
use Rattle.stun.specs.Messages.{message_of}
use Rattle.stun.specs.Refusals.{IsRefusedMessage}
use Rattle.stun.specs.Reading.{EncodesParts, integrity_at}
use Rattle.stun.specs.declared.refusal.StunError.TheVariants.{AttributeOverrun}
use Rattle.stun.proofs.Datagrams.{refused_is_no_message, overrun, accepted, accepted_has_parts, parts_are}
use Rattle.stun.proofs.Readings.{reads_parts, reads_nothing}
use Rattle.stun.proofs.reading.read.Goals as goal
use Rattle.stun.proofs.reading.read.Goals.{In_ok-integrity}

pub returns-in_err-test_header-clause-only : goal.returns-in_err-test_header-clause-only
returns-in_err-test_header-clause-only c p are spelled =
    absurd (refused_is_no_message c.args.bytes.now _ p c.in_err-test_header.ensures.refused are spelled)

overruns : (c : goal.After-from_residual-in_err-integrity) → IsRefusedMessage c.args.bytes.now AttributeOverrun
overruns c =
    overrun c.args.bytes.now _ (search rules) c.split_at.ensures.back c.in_err-integrity.ensures.overrun.1

pub returns-in_err-integrity-clause-only : goal.returns-in_err-integrity-clause-only
returns-in_err-integrity-clause-only c p are spelled =
    absurd (refused_is_no_message c.args.bytes.now AttributeOverrun p (overruns c) are spelled)

pub returns-in_err-integrity-clause-refused :
    goal.returns-in_err-integrity-clause-refused
returns-in_err-integrity-clause-refused c =
    let refused = subst (IsRefusedMessage c.args.bytes.now) (sym c.in_err-integrity.ensures.overrun.0) (overruns c) in
    search rules

is_datagram : (c : In_ok-integrity) → EncodesParts c.args.bytes.now
is_datagram c =
    accepted_has_parts c.args.bytes.now (λ k. omega (arith, c.type_inv.bytes k))
    (accepted c.args.bytes.now _ (search rules) c.split_at.ensures.back c.in_ok-integrity.ensures.found.0)

pub invariant_of-result : goal.invariant_of-result
invariant_of-result c = record { encodes = is_datagram c; integrity_is = c.in_ok-integrity.ensures.found.1 ∙ ap integrity_at c.split_at.ensures.back }

pub returns-clause-found : goal.returns-clause-found
returns-clause-found c = let d = is_datagram c in (d.are_parts, d.spelled)

pub returns-clause-only : goal.returns-clause-only
returns-clause-only c p are spelled = parts_are c.args.bytes.now p are spelled

pub returns-in_err-test_header-clause-every : goal.returns-in_err-test_header-clause-every
returns-in_err-test_header-clause-every c m is =
    absurd (refused_is_no_message c.args.bytes.now _ is.0 c.in_err-test_header.ensures.refused is.1 is.2)

pub returns-in_err-integrity-clause-every :
    goal.returns-in_err-integrity-clause-every
returns-in_err-integrity-clause-every c m is =
    absurd (refused_is_no_message c.args.bytes.now AttributeOverrun is.0 (overruns c) is.1 is.2)

pub returns-clause-message : goal.returns-clause-message
returns-clause-message c = let d = is_datagram c in (_, d.are_parts, d.spelled, refl)

pub returns-clause-every : goal.returns-clause-every
returns-clause-every c m is = ap message_of (parts_are c.args.bytes.now is.0 is.1 is.2) ∙ sym is.3

pub returns-in_err-test_header-clause-reads : goal.returns-in_err-test_header-clause-reads
returns-in_err-test_header-clause-reads c =
    let p = err_from_is_err_and c.from_residual.result c.from_residual.ensures.1 in
    rw p.1 (reads_nothing c.args.bytes.now (λ p are spelled. refused_is_no_message c.args.bytes.now _ p c.in_err-test_header.ensures.refused are spelled))

pub returns-in_err-integrity-clause-reads :
    goal.returns-in_err-integrity-clause-reads
returns-in_err-integrity-clause-reads c =
    let p = err_from_is_err_and c.from_residual-in_err-integrity.result c.from_residual-in_err-integrity.ensures.1 in
    rw p.1 (reads_nothing c.args.bytes.now (λ p are spelled. refused_is_no_message c.args.bytes.now AttributeOverrun p (overruns c) are spelled))

pub returns-clause-reads : goal.returns-clause-reads
returns-clause-reads c = reads_parts c.args.bytes.now (is_datagram c)
