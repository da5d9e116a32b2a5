use Rattle.std.proofs.Common.{List, ℕ, ◌++◌, drop, replicate, ap, ◌∙◌}
use Rattle.semantics.specs.Access.{part}
use Rattle.semantics.specs.declared.limits.TheConstants.{STACK_BYTES}
use Rattle.semantics.specs.declared.loading.TheConstants.{CONTEXT_BYTES}
use Rattle.flat.specs.laws.Flat.{laid_out_after, laid_out_record}
use Rattle.flat.specs.declared.layout.TheConstants.{HEADROOM_INDEX, POINTERS_BYTES}
use Rattle.machine.specs.Contexts.{context_of}
use Rattle.machine.proofs.context.traced_record.Goals as goal

pub returns-clause-record : goal.returns-clause-record
returns-clause-record c =
    let zeros : List ℕ = replicate POINTERS_BYTES 0 in
    c.write_zeros.ensures
    ∙ ap (λ (l : List ℕ). zeros ++ drop POINTERS_BYTES l) (c.context_record-bytes.ensures ∙ ap (part CONTEXT_BYTES STACK_BYTES) c.lay_out_context.ensures)
    ∙ laid_out_record (context_of c.args.context.now) c.law_context.ensures c.args.size c.args.area.now c.requires.long

pub returns-clause-after : goal.returns-clause-after
returns-clause-after c = ap (drop HEADROOM_INDEX) c.lay_out_context.ensures ∙ laid_out_after (context_of c.args.context.now) c.law_context.ensures c.args.size c.args.area.now
