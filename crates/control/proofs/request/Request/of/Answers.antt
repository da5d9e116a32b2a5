use Rattle.std.proofs.Common.{◌∙◌, sym}
use Rattle.stun.specs.declared.registry.Class.TheVariants as class
use Rattle.control.specs.Replies.{type_of}
use Rattle.control.proofs.request.Request.of.Goals as goal

pub returns-in_default-clause-only : goal.returns-in_default-clause-only
returns-in_default-clause-only c r e = absurd (c.in_default.not-Some (type_of r class.Request) (c.from_kind.ensures.only (type_of r class.Request) (e ∙ sym c.kind.ensures)))
