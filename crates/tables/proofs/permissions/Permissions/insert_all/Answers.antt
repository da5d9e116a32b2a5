use Rattle.std.proofs.Common.{◌≡◌, ◌+◌, [], get_or, drop, ap, ◌∙◌, sym, arith}
use Rattle.std.specs.FinMap.{insert, len}
use Rattle.std.proofs.lemmas.List.{at_drop_more}
use Rattle.addresses.specs.Addresses.{ip_of}
use Rattle.addresses.specs.declared.address.Addr.TheVariants.{V4}
use Rattle.tables.specs.Permissions.{with_all}
use Rattle.tables.proofs.Lists.{on_err}
use Rattle.tables.proofs.PermissionRows.{len-with_all-ge}
use Rattle.tables.proofs.permissions.Permissions.insert_all.Goals as goal

pub returns-in_err-insert-clause-full : goal.returns-in_err-insert-clause-full
returns-in_err-insert-clause-full c =
    let ips = c.args.ips.now in
    let one = insert c.loop-ip.self (ip_of (get_or ips c.loop-ip.ip-index (V4 [] 0))) c.args.end in
    let rest = drop (c.loop-ip.ip-index + 1) ips in
    let step : with_all one rest c.args.end ≡ with_all c.args.self.now ips c.args.end =
    sym (at_drop_more (λ xs. with_all c.loop-ip.self xs c.args.end) ips c.loop-ip.ip-index (V4 [] 0) c.loop-ip-test.true) ∙ c.loop-ip.invariant.rest in
    on_err c.from_residual.result (omega (arith, c.in_err-insert.ensures.full, len-with_all-ge one rest c.args.end, ap len step))
