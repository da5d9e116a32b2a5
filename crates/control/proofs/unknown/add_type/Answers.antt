use Rattle.std.proofs.Common.{◌∙◌, sym, ap}
use Rattle.std.proofs.lemmas.List.{take_all}
use Rattle.control.proofs.Types.{is_among, added, known, full, not_full, all_room}
use Rattle.control.proofs.unknown.add_type.Goals as goal
use Rattle.control.proofs.unknown.add_type.Goals.{else-not-contains-via-then-not-contains+else-not-is_full, else-not-contains-via-else-not-contains}

pub returns-then-not-is_full-clause-added : goal.returns-then-not-is_full-clause-added
returns-then-not-is_full-clause-added c =
    let kinds = c.args.kinds.now.items in
    let kind = c.args.kind in
    let among = ap (λ ks. is_among ks kind) (sym c.deref.ensures.0) ∙ sym c.contains.ensures.value ∙ c.if-not-contains.true in
    c.push.ensures.items ∙ added 16 kinds kind among (not_full 16 kinds c.requires.few (sym c.is_full.ensures.value ∙ c.if-not-is_full.true))

pub returns-else-not-contains-clause-added : goal.returns-else-not-contains-clause-added
returns-else-not-contains-clause-added c =
    let kinds = c.args.kinds.now.items in
    let kind = c.args.kind in
    elim c.else-not-contains.branch [
      | else-not-contains-via-then-not-contains+else-not-is_full w ↦ sym (take_all 16 kinds c.requires.few) ∙ full 16 kinds kind (all_room 16 kinds (sym w.is_full.ensures.value ∙ w.if-not-is_full.false))
      | else-not-contains-via-else-not-contains w ↦ known 16 kinds kind (ap (λ ks. is_among ks kind) (sym c.deref.ensures.0) ∙ sym c.contains.ensures.value ∙ w.if-not-contains.false) c.requires.few
    ]
