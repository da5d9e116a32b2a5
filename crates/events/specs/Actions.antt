-- Interface. What an action sends.
use Rattle.std.specs.Prelude.{Option, None, Some}
use Rattle.events.specs.Events.{Sending}
use Rattle.events.specs.Events as sending
use Rattle.events.specs.declared.action.Action.{Action}
use Rattle.events.specs.declared.action.Action.TheVariants as action

-- with the bytes that it lends
abbrev pub sending_of : Action → Option Sending
sending_of action.Nothing = None
sending_of (action.ToPeer slot peer bytes) = Some (sending.ToPeer slot peer bytes.now)
sending_of (action.ToClient client bytes) = Some (sending.ToClient client bytes.now)
