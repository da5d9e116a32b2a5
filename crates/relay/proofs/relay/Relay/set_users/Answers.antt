use Rattle.std.proofs.Common.{◌≡◌, ◌≤◌, length, map, ap, ◌∙◌, true, is_some, rules}
use Rattle.std.proofs.lemmas.List.{length-map}
use Rattle.tables.specs.Rows.{Rows}
use Rattle.control.specs.Configs.{are_users}
use Rattle.control.specs.declared.config.TheConstants.{MAX_USERS}
use Rattle.control.specs.laws.Config.{within_limits}
use Rattle.control.specs.Users.{index_of_user, new_index}
use Rattle.tables.specs.Users.{rows_of_users, index_in}
use Rattle.relay.specs.Relays.{RelayContents}
use Rattle.relay.specs.Users.{after_users}
use Rattle.relay.proofs.NewUsers.{same_rows}
use Rattle.relay.proofs.ValidUsers.{valid_with_users}
use Rattle.relay.proofs.relay.Relay.set_users.Goals as goal

pub new_indices-indices-requires : goal.new_indices-indices-requires
new_indices-indices-requires c =
    let few : length c.self.inside.config.users.items ≤ MAX_USERS = (within_limits c.self.inside.config c.self.invariant.valid).users.1 in
    search (rules, few)

pub returns-clause-ok : goal.returns-clause-ok
returns-clause-ok c =
    let old = c.self.inside.config.users.items in
    let new = c.args.users.items in
    let indices : c.deref-4.result.now ≡ map (index_of_user new) old =
    c.deref-4.ensures.0 ∙ c.new_indices-indices.ensures ∙ (λ i. map (index_of_user (c.deref-3.ensures.value i)) (c.deref-2.ensures.value i)) in
    let rows : c.replace_users.new.self ≡ rows_of_users (new_index old new) c.self.inside.tables =
    c.replace_users.ensures ∙ (λ i. rows_of_users (index_in (indices i)) c.self.inside.tables) ∙ same_rows old new c.self.inside.tables in
    (λ i. record {
      config = record c.self.inside.config { users = c.args.users };
      programs = record { client = c.self.inside.client; peer = c.self.inside.peer; confinement = c.self.inside.confinement };
      rows = rows i;
      greatest = c.self.inside.greatest;
      frame = c.self.inside.frame;
      reply = c.self.inside.reply.items;
    })
    ∙ ap (λ (r : RelayContents). after_users r c.args.users) c.self.view_is

pub invariant_of-self : goal.invariant_of-self
invariant_of-self c =
    let may : are_users (is_some c.self.inside.config.secret) c.args.users.items ≡ true = search rules in
    record {
      shipped = c.self.invariant.shipped;
      valid = valid_with_users c.self.inside.config c.args.users c.self.invariant.valid may;
      slots = ap (λ (r : Rows). length r.slots) c.replace_users.ensures ∙ length-map c.self.inside.tables.slots _ ∙ c.self.invariant.slots;
      latest = c.self.invariant.latest;
      room = c.self.invariant.room;
    }
