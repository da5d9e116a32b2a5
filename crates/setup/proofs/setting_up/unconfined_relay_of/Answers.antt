use Rattle.std.proofs.Common.{rules}
use Rattle.setup.proofs.RefusedFields.{has_fault}
use Rattle.setup.proofs.setting_up.unconfined_relay_of.Goals as goal

pub returns-in-Err-BadConfig-clause-refused : goal.returns-in-Err-BadConfig-clause-refused
returns-in-Err-BadConfig-clause-refused c =
    has_fault c.args.setup c.in_ok-nonce.nonce c.in_ok-client.client c.in_ok-peer.peer _ (search rules) (search rules) (search rules) (search rules) (search rules)

pub returns-in-Err-Memory-clause-refused : goal.returns-in-Err-Memory-clause-refused
returns-in-Err-Memory-clause-refused c =
    has_fault c.args.setup c.in_ok-nonce.nonce c.in_ok-client.client c.in_ok-peer.peer _ (search rules) (search rules) (search rules) (search rules) (search rules)
