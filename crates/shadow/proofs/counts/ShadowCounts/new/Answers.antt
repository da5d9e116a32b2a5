use Rattle.shadow.specs.CountValues.{comparison_index}
use Rattle.shadow.proofs.CountIndices.{zeros}
use Rattle.shadow.proofs.counts.ShadowCounts.new.Goals as goal

pub returns : goal.returns
returns c = λ d. zeros 12 (comparison_index d)
