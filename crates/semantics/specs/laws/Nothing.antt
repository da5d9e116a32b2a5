-- Interface. The helpers of a relay without an allocation are lawful.
use Rattle.std.specs.Prelude.{ℕ, ◌<◌, replicate}
use Rattle.std.proofs.Common.{refl, arith}
use Rattle.std.proofs.lemmas.List.Elements.{All-replicate}
use Rattle.semantics.specs.Machine.{AreBytes}
use Rattle.semantics.specs.Runs.{IsLawful}
use Rattle.semantics.specs.Nothing.{empty_answer}

zeros : AreBytes 20 (replicate 20 0)
zeros = record { count = refl; fit = All-replicate (λ (b : ℕ). b < 256) 20 0 (omega arith) }

pub nothing_is_lawful : IsLawful empty_answer
nothing_is_lawful = record {
  channel_peer = λ form n address word bytes. (omega arith, zeros);
  channel_to = λ form n address word bytes. omega arith;
  permitted = λ form n address word bytes. omega arith;
}
