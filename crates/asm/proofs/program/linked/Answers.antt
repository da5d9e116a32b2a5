use Rattle.std.proofs.Common.{Some, option_map, ap, ◌∙◌, sym, ◌+◌, pos, ◌-ℤ◌}
use Rattle.insn.specs.Jumps.{with_distance}
use Rattle.asm.specs.Programs.{slot_of_label, linked_one}
use Rattle.asm.proofs.Links.{place_found, short_distance, distance_fits, place_fits}
use Rattle.asm.proofs.program.linked.Goals as goal

pub overflow_cast-target : goal.overflow_cast-target
overflow_cast-target c = place_fits _
    (place_found c.args.table.now c.requires.table.0 c.in-Some.name _ c.requires.table.1 c.requires.table.2
    (sym c.in_ok-target.ensures.value)).1

pub overflow_sub-target : goal.overflow_sub-target
overflow_sub-target c = distance_fits _ c.args.slot
    (place_found c.args.table.now c.requires.table.0 c.in-Some.name _ c.requires.table.1 c.requires.table.2
    (sym c.in_ok-target.ensures.value)).1 c.requires.slot

pub returns : goal.returns
returns c said holds few =
    let found = place_found c.args.table.now said c.in-Some.name c.in_ok-target.field-0.now holds few
    (sym c.in_ok-target.ensures.value) in
    ap (λ i. Some i) (c.with_distance.ensures.value
    ∙ ap (with_distance c.args.insn) (short_distance _ c.args.slot found.1 c.requires.slot))
    ∙ sym (ap (λ t. linked_one (slot_of_label said) c.args.slot c.args.insn (option_map (λ name. name.now) t)) c.in-Some.is
    ∙ ap (option_map (λ p. with_distance c.args.insn (pos p -ℤ pos (c.args.slot + 1)))) found.0)
