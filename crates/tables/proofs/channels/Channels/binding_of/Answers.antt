use Rattle.std.proofs.Common.{◌≡◌, option_map, ap, ◌∙◌, sym, arith, rules}
use Rattle.std.specs.FinMap.{get}
use Rattle.tables.proofs.ChannelRows.{searchable_by_number, get-binding}
use Rattle.tables.proofs.channels.Channels.binding_of.Goals as goal

pub row_of-requires : goal.row_of-requires
row_of-requires g c = (omega arith, searchable_by_number c.args.number c.self.inside.rows.items c.self.invariant.numbers)

pub returns-clause-binding : goal.returns-clause-binding
returns-clause-binding g c =
    let binding : c.map.result ≡ option_map (λ row. row.binding) c.row_of.result = search rules in
    binding ∙ ap (option_map (λ row. row.binding)) c.row_of.ensures.row ∙ sym (get-binding c.args.number c.self.inside.rows.items) ∙ ap (λ m. get m c.args.number) c.self.view_is

pub returns-clause-keys : goal.returns-clause-keys
returns-clause-keys g c = c.row_of.ensures.count 7 (omega arith)
