use Rattle.call_tests.proofs.shared.start_on.Goals as goal

pub returns : goal.returns
returns c = c.start.ensures.is_started
