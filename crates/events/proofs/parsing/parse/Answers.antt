use Rattle.std.proofs.Common.{rules}
use Rattle.events.specs.Parsing.{event_of}
use Rattle.events.proofs.Events.{found, only}
use Rattle.events.proofs.parsing.parse.Goals as goal

pub returns-clause-found : goal.returns-clause-found
returns-clause-found c = found c.args.slots c.args.line.now (event_of c.read_line.new.room) c.read_line.result c.read_line.ensures.reads

pub returns-clause-only : goal.returns-clause-only
returns-clause-only c = only c.args.slots c.args.line.now (event_of c.read_line.new.room) c.read_line.result c.read_line.ensures.reads (search rules)
