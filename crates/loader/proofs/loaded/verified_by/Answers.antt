use Rattle.loader.proofs.loaded.verified_by.Goals as goal

pub returns-clause-verdict : goal.returns-clause-verdict
returns-clause-verdict g c = c.verify.ensures.verdict
