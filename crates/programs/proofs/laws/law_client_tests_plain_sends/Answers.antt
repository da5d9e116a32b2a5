use Rattle.programs.proofs.PlainSendLaws.{passes_tests, is_plain}
use Rattle.programs.proofs.laws.law_client_tests_plain_sends.Goals as goal

pub returns-clause-only : goal.returns-clause-only
returns-clause-only c = passes_tests c.law_message_in_has_the_parts.ensures.found c.law_message_in_has_the_parts.ensures.every

pub returns-clause-every : goal.returns-clause-every
returns-clause-every c = is_plain c.law_message_in_has_the_parts.ensures.found c.law_message_in_has_the_parts.ensures.every
