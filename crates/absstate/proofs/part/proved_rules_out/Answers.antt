use Rattle.std.proofs.Common.{◌≡◌, false, ℤ, sym, ap, ◌∙◌, rules}
use Rattle.std.specs.Prelude.{int_le}
use Rattle.std.proofs.lemmas.Bool.{not-true}
use Rattle.absstate.specs.laws.Step.Packing.{ruled_out, proved_of_covered}
use Rattle.absstate.proofs.part.proved_rules_out.Goals as goal

pub returns : goal.returns
returns g c = λ a is out.
    let no_more : c.proves_no_more.result ≡ false = not-true c.proves_no_more.result out in
    let more : int_le c.args.proved c.args.other.now.proved ≡ false = search rules in
    ruled_out _ (int_le c.args.proved c.args.other.now.proved) (λ covered. ap (λ (n : ℤ). int_le n c.args.other.now.proved) (sym is) ∙ proved_of_covered g.D.Domain.ops a c.args.other.now covered) more
