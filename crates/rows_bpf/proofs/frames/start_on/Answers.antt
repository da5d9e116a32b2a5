use Rattle.rows_bpf.proofs.frames.start_on.Goals as goal

pub returns : goal.returns
returns c = c.start.ensures.is_started
