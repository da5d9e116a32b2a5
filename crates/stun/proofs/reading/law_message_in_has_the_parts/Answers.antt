use Rattle.stun.proofs.Readings.{spelled_if, reads_if}
use Rattle.stun.proofs.reading.law_message_in_has_the_parts.Goals as goal

pub returns-clause-found : goal.returns-clause-found
returns-clause-found c = spelled_if

pub returns-clause-every : goal.returns-clause-every
returns-clause-every c = reads_if
