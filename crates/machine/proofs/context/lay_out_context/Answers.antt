use Rattle.std.proofs.Common.{ℕ, List, ◌++◌, sym, ◌∙◌}
use Rattle.semantics.specs.Access.{overlay}
use Rattle.semantics.specs.declared.limits.TheConstants.{STACK_BYTES}
use Rattle.flat.specs.Layout.{context_fields, pointers}
use Rattle.flat.specs.laws.Flat.{fields_of_context}
use Rattle.machine.specs.Contexts.{context_of}
use Rattle.machine.proofs.context.lay_out_context.Goals as goal

pub returns : goal.returns
returns c =
    let old : List ℕ = c.args.area.now in
    let size : ℕ = c.args.size in
    c.lay_out.ensures
    ∙ (λ i. overlay STACK_BYTES (pointers size ++ context_fields size (c.source_record-source.ensures.narrow i) (c.source_record-source.ensures.wide i) c.args.context.now.tx (c.side_number.ensures i)) old)
    ∙ (λ i. overlay STACK_BYTES (pointers size ++ sym (fields_of_context (context_of c.args.context.now) size) i) old)
