use Rattle.std.proofs.Common.{is_none, refl, rules, tests, ◌∙◌}
use Rattle.std.proofs.lemmas.Iterator.Search.{position_from_yields_List}
use Rattle.tables.proofs.Slots.{slots_read}
use Rattle.tables.proofs.storage.Tables.first_free.Goals as goal

pub returns : goal.returns
returns c =
    let slots = slots_read c.self.inside.moment c.self.inside.slots.items c.args.self.now c.self.view_is c.args.moment c.requires.later c.len.result refl (c.len.ensures ∙ c.self.inside.slots.ok.0) in
    position_from_yields_List is_none _ _ c.position.result c.position.ensures.ran slots (λ x b q k. search (rules, tests))
