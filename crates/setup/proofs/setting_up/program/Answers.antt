use Rattle.std.proofs.Common.{rules}
use Rattle.loader.specs.Loads.{IsMemoryRefusal}
use Rattle.setup.proofs.NamedFaults.{named}
use Rattle.setup.proofs.setting_up.program.Goals as goal

pub returns-in-Err-clause-refused : goal.returns-in-Err-clause-refused
returns-in-Err-clause-refused c =
    let aside : ¬ (IsMemoryRefusal c.in-Err.refusal) = search rules in
    let is = named c.in-Some.bytes.now c.in-Err.refusal c.in-Err.ensures.refused aside c.in-Err.ensures.decode c.in-Err.ensures.layout in
    search rules
