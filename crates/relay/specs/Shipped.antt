-- Meaning. The shipped programs in a relay, and systems that answer alike.
use Rattle.std.specs.Prelude.{◌≡◌, List}
use Rattle.control.specs.declared.config.Config.{Config}
use Rattle.events.specs.Events.{Event}
use Rattle.insn.specs.declared.instruction.Insn.{Insn}
use Rattle.loader.specs.Loads.{IsLoaded}
use Rattle.programs.specs.declared.client.TheConstants.{CLIENT}
use Rattle.programs.specs.declared.peer.TheConstants.{PEER}
use Rattle.relay.specs.ByPrograms.{Programs}
use Rattle.rules.specs.Systems.{SystemState, System, answers, state_after_events}

-- two programs are the shipped ones
pub record AreShippedPair (of_clients of_peers : List Insn) : Type 0 where
  pub client : IsLoaded of_clients CLIENT.now
  pub peer : IsLoaded of_peers PEER.now

-- the programs of both sides are, confined or not
abbrev pub AreShipped : Programs → Type 0
AreShipped programs = AreShippedPair programs.client programs.peer

-- from a state on, two systems send the same for each of some events, and come to the same state
pub record AnswerAlike (one other : System) (config : Config) (s : SystemState) (events : List Event) : Type 0 where
  pub answers : answers one config s events ≡ answers other config s events
  pub after : state_after_events one config s events ≡ state_after_events other config s events
