use Rattle.std.proofs.Common.{◌≡◌, option_map, ap, ◌∙◌, sym, arith, rules}
use Rattle.std.specs.FinMap.{get}
use Rattle.addresses.specs.Addresses.{ip_of}
use Rattle.tables.proofs.PermissionRows.{searchable_by, get-permission}
use Rattle.tables.proofs.permissions.Permissions.end_of.Goals as goal

pub row_of-requires : goal.row_of-requires
row_of-requires g c = (omega arith, searchable_by c.self.inside.rows.items c.self.invariant (ip_of c.args.ip.now))

pub returns-clause-end : goal.returns-clause-end
returns-clause-end g c =
    let ip = ip_of c.args.ip.now in
    let end : c.map.result ≡ option_map (λ row. row.end) c.row_of.result = search rules in
    end ∙ ap (option_map (λ row. row.end)) c.row_of.ensures.row ∙ sym (get-permission ip c.self.inside.rows.items) ∙ ap (λ m. get m ip) c.self.view_is

pub returns-clause-keys : goal.returns-clause-keys
returns-clause-keys g c = c.row_of.ensures.count 7 (omega arith)
