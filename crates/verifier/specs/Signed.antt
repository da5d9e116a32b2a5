-- Internal. The signatures of states.
use Rattle.std.specs.Prelude.{List, map}
use Rattle.interval.specs.Domains.{Operations}
use Rattle.absstate.specs.Signatures.{state_signature}
use Rattle.absstate.specs.declared.abstract_state.AbsState.{AbsState}
use Rattle.absstate.specs.declared.signature.StateSignature.{StateSignature}

abbrev pub signatures_of : {D : Type 0} → Operations D → List (AbsState D) → List StateSignature
signatures_of ops states = map (state_signature ops) states
