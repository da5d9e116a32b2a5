-- Interface. The log of the storing sink.
use Rattle.std.specs.Prelude.{List, [], ◌∷◌, ◌++◌, take}
use Rattle.semantics.specs.declared.fetching.Visit.{Visit}
use Rattle.machine.specs.declared.sink.TheConstants.{KEPT}

-- one more step, of which the first 4,096 are kept
abbrev pub kept_more : List Visit → Visit → List Visit
kept_more kept v = take KEPT (kept ++ v ∷ [])
