-- What is split is what is still to be split, after what was passed over.
use Rattle.std.proofs.Common.{◌≡◌, take, drop}
use Rattle.std.specs.Prelude.{option_map}
use Rattle.events.specs.Reading.{parts_around}
use Rattle.events.proofs.Splits.{before}
use Rattle.events.proofs.parsing.split_at.Given as goal

abbrev pub invariant-loop-front : goal.invariant-loop-front
invariant-loop-front l = parts_around l.separator l.bytes ≡ option_map (before (take l.front l.bytes)) (parts_around l.separator (drop l.front l.bytes))
