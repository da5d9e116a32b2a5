-- Interface. What a choice, a step and a route lend.
use Rattle.std.specs.Prelude.{ℕ, List, Option, None, Some, option_map}
use Rattle.events.specs.Actions.{sending_of}
use Rattle.events.specs.Events.{Sending, ToPeer, ToClient}
use Rattle.machine.specs.Contents as machine
use Rattle.machine.specs.Contents.{datagram_of}
use Rattle.relay.specs.Choices.{Chosen, Passing, Relaying}
use Rattle.relay.specs.Forwarding.{window_shown}
use Rattle.relay.specs.declared.choosing.Choice.{Choice}
use Rattle.relay.specs.declared.choosing.Choice.TheVariants as choice
use Rattle.relay.specs.declared.choosing.Route.{Route}
use Rattle.relay.specs.declared.choosing.Route.TheVariants as route

abbrev pub chosen_in : Choice → Chosen
chosen_in (choice.Passes bytes) = Passing bytes.now
chosen_in (choice.Sends action) = Relaying (sending_of action)

-- by what the rules got, if they got anything, and what is sent
abbrev pub chosen_by_step : Option (List ℕ) → Option Sending → Chosen
chosen_by_step (Some bytes) sent = Passing bytes
chosen_by_step None sent = Relaying sent

-- with the bytes of the frame over which the program ran
abbrev pub chosen_by_route : machine.Contents → Route → Chosen
chosen_by_route f route.Nowhere = Relaying None
chosen_by_route f route.ToRules = Passing (datagram_of f)
chosen_by_route f (route.ToPeer slot peer) = Relaying (option_map (ToPeer slot peer) (window_shown f))
chosen_by_route f (route.ToClient client) = Relaying (option_map (ToClient client) (window_shown f))
