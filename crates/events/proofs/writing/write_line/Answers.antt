use Rattle.std.proofs.Common.{List, ℕ, [], ◌++◌, sym, append_assoc, append-nil, refl}
use Rattle.std.proofs.KnownBytes.{Appends-nil, Appends-trans}
use Rattle.events.specs.Fields.{field_text}
use Rattle.events.proofs.WrittenBytes.{cut, for_err, map_err}
use Rattle.events.proofs.writing.write_line.Goals as goal

pub returns-in_err-write_all-clause-err : goal.returns-in_err-write_all-clause-err
returns-in_err-write_all-clause-err g c =
    let text = c.args.front.now in
    let rest : List ℕ = field_text c.args.field ++ c.args.ending.now in
    for_err c.from_residual.result (cut _ _ _ (text ++ field_text c.args.field ++ c.args.ending.now) [] text rest
    (append_assoc text (field_text c.args.field) c.args.ending.now) (Appends-nil _) c.in_err-write_all.ensures.err)

pub returns-in_err-write_field-clause-err : goal.returns-in_err-write_field-clause-err
returns-in_err-write_field-clause-err g c =
    let text = c.args.front.now in
    let shown : List ℕ = field_text c.args.field in
    for_err c.from_residual-in_err-write_field.result (cut _ _ _ (text ++ shown ++ c.args.ending.now) text shown c.args.ending.now refl
    c.in_ok-write_all.ensures.ok c.in_err-write_field.ensures.err)

pub returns-clause-err : goal.returns-clause-err
returns-clause-err g c =
    let text = c.args.front.now in
    let shown : List ℕ = field_text c.args.field in
    map_err c.write_all-2.result (λ written. cut _ _ _ (text ++ shown ++ c.args.ending.now) (text ++ shown) c.args.ending.now [] (sym (append-nil _))
    (Appends-trans _ _ _ text shown c.in_ok-write_all.ensures.ok c.in_ok-write_field.ensures.ok) written) c.write_all-2.ensures.err
