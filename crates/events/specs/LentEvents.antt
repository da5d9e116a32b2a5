-- Interface. The event that the code has as a value.
use Rattle.events.specs.Events.{Event}
use Rattle.events.specs.Events as event
use Rattle.events.specs.declared.event.Event as lent
use Rattle.events.specs.declared.event.Event.TheVariants as given

-- with the bytes that it lends
abbrev pub as_event : lent.Event → Event
as_event (given.Datagram meta bytes) = event.Datagram meta bytes.now
as_event (given.Nonce text) = event.Nonce text.now
