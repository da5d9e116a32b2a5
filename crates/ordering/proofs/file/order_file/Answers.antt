use Rattle.std.proofs.Common.{◌≡◌, List, subst, rules}
use Rattle.insn.specs.Encoding.{Encodes, encodings}
use Rattle.insn.specs.declared.instruction.Insn.{Insn}
use Rattle.ordering.specs.Orders.{KeepsMeaningBy, HasNoLoop}
use Rattle.ordering.proofs.file.order_file.Goals as goal

pub returns-in-Ok-order_with_places-clause-ok : goal.returns-in-Ok-order_with_places-clause-ok
returns-in-Ok-order_with_places-clause-ok c =
    let encodes : Encodes c.in-Ok.code.items c.args.bytes.now = search rules in
    let spelled : c.in_ok-bytes-in-Ok-order_with_places.bytes.items ≡ encodings c.in-Ok-order_with_places.field-0.code.items = search rules in
    record {
      code = c.in-Ok.code.items;
      encodes = encodes;
      loopless = subst HasNoLoop c.deref.ensures.value c.in-Ok-order_with_places.ensures.loopless;
      in_order = c.in-Ok-order_with_places.field-0.code.items;
      fit = c.in-Ok-order_with_places.ensures.fits;
      few = c.in-Ok-order_with_places.ensures.few;
      spelled = spelled;
      forward = c.in-Ok-order_with_places.ensures.forward;
      meaning = subst (λ (code : List Insn). KeepsMeaningBy c.in-Ok-order_with_places.field-0.places code c.in-Ok-order_with_places.field-0.code.items) c.deref.ensures.value c.in-Ok-order_with_places.ensures.meaning;
    }
