-- What is known where a field of the configuration is refused, and where none is.
use Rattle.std.proofs.Common.{◌≡◌, ◌≤◌, pos, List, length, Option, refl}
use Rattle.arrayvec.specs.ArrayString.{ArrayString}
use Rattle.control.specs.Configs.{fault}
use Rattle.control.specs.declared.config.Config.{Config}
use Rattle.control.specs.declared.config.Field.{Field}
use Rattle.insn.specs.declared.instruction.Insn.{Insn}
use Rattle.setup.specs.Setups.{HasFieldFault, IsProgram, MOST_NONCE}
use Rattle.setup.specs.declared.setting_up.Setup.{Setup}

-- the configuration of a setup, with a copy of its nonce
abbrev pub config_of : Setup → ArrayString → Config
config_of s nonce = record {
  ip = s.ip;
  ip6 = s.ip6;
  first_port = s.first_port;
  slots = s.slots;
  user_slots = s.user_slots;
  realm = s.realm;
  nonce = nonce;
  users = s.users;
  secret = s.secret;
  former_secret = s.former_secret;
  revoked = s.revoked;
  clock_ahead = pos 0;
}

pub has_fault : (s : Setup) (nonce : ArrayString) (client peer : List Insn) (field : Option Field)
    → nonce.bytes ≡ s.nonce.now → length s.nonce.now ≤ MOST_NONCE → IsProgram s.client client → IsProgram s.peer peer
    → fault (config_of s nonce) ≡ field → HasFieldFault s field
has_fault s nonce client peer field copied fits is_client is_peer fault_is = record {
  nonce = fits;
  client = (client, is_client);
  peer = (peer, is_peer);
  config = config_of s nonce;
  is_config = record { ip = refl; ip6 = refl; first_port = refl; slots = refl; user_slots = refl; realm = refl; nonce = copied; users_are = refl; secret = refl; former_secret = refl; revoked = refl; clock = refl };
  is_fault = fault_is;
}
