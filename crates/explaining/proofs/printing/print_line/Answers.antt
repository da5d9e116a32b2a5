use Rattle.std.proofs.Common.{◌≡◌, ℕ, ◌++◌, ◌-◌, List, [], length, rules, ap, ap₂, ◌∙◌, subst}
use Rattle.std.specs.Prelude.{codes}
use Rattle.std.specs.List.{repeat}
use Rattle.std.specs.Io.KnownBytes.{Appends}
use Rattle.explaining.specs.Lines.{note_text, line_text, step_text}
use Rattle.explaining.proofs.Lines.{noted, if_ok}
use Rattle.explaining.proofs.printing.print_line.Goals as goal

pub returns : goal.returns
returns g c =
    let step : c.deref-else-is_empty.result.now ≡ step_text c.args.slot c.args.insn = search rules in
    let blank : c.deref-else-is_empty-2.result.now ≡ repeat (25 - length c.deref-else-is_empty.result.now) (codes " ") = search rules in
    let some : c.first_line-note.result.now ≡ [] → ⊥ = search rules in
    let is : c.deref-else-is_empty.result.now ++ c.deref-else-is_empty-2.result.now ++ codes " ; " ++ c.first_line-note.result.now ++ codes "\n" ≡ line_text c.args.slot c.args.insn c.args.note.now =
    ap (λ (l : List ℕ). c.deref-else-is_empty.result.now ++ l ++ codes " ; " ++ c.first_line-note.result.now ++ codes "\n") blank
    ∙ noted c.deref-else-is_empty.result.now c.first_line-note.result.now some
    ∙ ap₂ (λ (s n : List ℕ). s ++ note_text (length s) n ++ codes "\n") step c.first_line-note.ensures in
    if_ok c.print_noted.result c.print_noted.ensures (subst (λ (text : List ℕ). Appends (g.W.Write.contents c.args.out.now) (g.W.Write.contents c.print_noted.new.out) text) is)
