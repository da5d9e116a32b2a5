use Rattle.std.proofs.Common.{arith, refl, subst}
use Rattle.insn.specs.Encoding.{Encodes}
use Rattle.programs.specs.Peer.{peer_program}
use Rattle.programs.specs.declared.peer.TheConstants.{PEER}
use Rattle.programs.proofs.PeerServes.{ServesIfSafe, peer_program_serves}
use Rattle.programs.proofs.laws.law_peer_serves.Goals as goal

encoded : Encodes peer_program PEER.now
encoded = record { fit = search arith; some = omega arith; few = omega arith; spelled = refl }

pub returns : goal.returns
returns c = λ code encodes. subst ServesIfSafe (c.law_bytes_encode_one_program.ensures peer_program code PEER.now encoded encodes) peer_program_serves
