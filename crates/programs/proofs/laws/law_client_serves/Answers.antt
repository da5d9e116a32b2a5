use Rattle.std.proofs.Common.{arith, refl, subst}
use Rattle.insn.specs.Encoding.{Encodes}
use Rattle.programs.specs.Client.{client_program}
use Rattle.programs.specs.declared.client.TheConstants.{CLIENT}
use Rattle.programs.proofs.ClientServes.{ServesIfSafe, serves_client}
use Rattle.programs.proofs.laws.law_client_serves.Goals as goal

encoded : Encodes client_program CLIENT.now
encoded = record { fit = search arith; some = omega arith; few = omega arith; spelled = refl }

pub returns : goal.returns
returns c = λ code encodes.
    subst ServesIfSafe (c.law_bytes_encode_one_program.ensures client_program code CLIENT.now encoded encodes)
    (serves_client c.law_message_in_has_the_parts.ensures.found c.law_message_in_has_the_parts.ensures.every)
