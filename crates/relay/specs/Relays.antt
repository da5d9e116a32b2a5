-- Meaning. What contracts see of a relay, and the datagram of a step.
use Rattle.std.specs.Prelude.{◌≡◌, ℕ, ◌≤◌, Bool, true, List, length, take, Option, None, refl}
use Rattle.std.specs.Coded.{Coded, code_by, coded×, coded_ℕ, coded_list}
use Rattle.insn.specs.declared.instruction.Insn.{Insn}
use Rattle.control.specs.Configs.{fault}
use Rattle.control.specs.declared.config.Config.{Config}
use Rattle.tables.specs.Rows.{Rows}
use Rattle.tables.specs.declared.moment.TheConstants.{LATEST}
use Rattle.machine.specs.Contents as machine
use Rattle.machine.specs.Contents.{room_of}
use Rattle.relay.specs.ByPrograms.{Programs}
use Rattle.relay.specs.Shipped.{AreShippedPair}
use Rattle.rules.specs.Systems.{SystemState}
use Rattle.rules.specs.declared.confinement.Confinement.{Confinement}
use Rattle.control.specs.declared.reply.TheConstants.{REPLY_BYTES}

-- the configuration with the current nonce, the programs, the rows, the greatest moment that was seen, the frame of runs,
-- and the room for replies
pub record RelayContents : Type 0 where
  pub config : Config
  pub programs : Programs
  pub rows : Rows
  pub greatest : ℕ
  pub frame : machine.Contents
  pub reply : List ℕ

abbrev pub state_of : RelayContents → SystemState
state_of r = record { rows = r.rows; greatest = r.greatest; nonce = r.config.nonce.bytes }

-- the datagram of a step: the first n bytes of the room
abbrev pub datagram_at : RelayContents → ℕ → List ℕ
datagram_at r n = take n (room_of r.frame)

-- the configuration has no fault, programs that are marked as the shipped ones are, the tables have the slots of the
-- configuration, no greater moment than the latest was seen, and there is room for every reply
pub record IsRelay (config : Config) (client peer : List Insn) (are_shipped : Bool) (rows : Rows) (greatest : ℕ) (reply : List ℕ) : Type 0 where
  pub shipped : are_shipped ≡ true → AreShippedPair client peer
  pub valid : fault config ≡ None
  pub slots : length rows.slots ≡ config.slots
  pub latest : greatest ≤ LATEST
  pub room : length reply ≡ REPLY_BYTES

abbrev pub coded_contents : Coded Config → Coded (List Insn) → Coded (Option Confinement) → Coded Rows → Coded machine.Contents → Coded RelayContents
coded_contents config code confinement rows frame =
    code_by (Config × (List Insn × (List Insn × (Option Confinement × (Rows × (ℕ × (machine.Contents × List ℕ)))))))
    (coded× config (coded× code (coded× code (coded× confinement (coded× rows (coded× coded_ℕ (coded× frame (coded_list coded_ℕ))))))))
    (λ r. (r.config, (r.programs.client, (r.programs.peer, (r.programs.confinement, (r.rows, (r.greatest, (r.frame, r.reply))))))))
    (λ p. record {
      config = p.0;
      programs = record { client = p.1.0; peer = p.1.1.0; confinement = p.1.1.1.0 };
      rows = p.1.1.1.1.0;
      greatest = p.1.1.1.1.1.0;
      frame = p.1.1.1.1.1.1.0;
      reply = p.1.1.1.1.1.1.1;
    })
    (λ _. refl)
