use Rattle.std.proofs.Common.{◌≡◌, ℕ, List, length, drop, All, refl, sym, ap, ◌∙◌, subst, arith}
use Rattle.std.proofs.lemmas.List.{length-replicate, drop-replicate}
use Rattle.std.proofs.lemmas.List.Elements.{All-replicate}
use Rattle.flat.specs.declared.layout.TheConstants.{HEADROOM_INDEX, AREA_BYTES}
use Rattle.machine.specs.Contents.{frame_area_size}
use Rattle.machine.proofs.frame.Frame.new.Goals as goal

pub invariant_of-result : goal.invariant_of-result
invariant_of-result c = record {
  long = let zero_byte : ℕ = 0 in ap length c.in_ok-zeros.ensures ∙ length-replicate AREA_BYTES zero_byte;
  holds = record {
    long = let zero_byte : ℕ = 0 in ap (λ (l : List ℕ). length (drop HEADROOM_INDEX l)) c.in_ok-zeros.ensures ∙ ap length (drop-replicate HEADROOM_INDEX AREA_BYTES zero_byte) ∙ length-replicate frame_area_size zero_byte;
    short = omega arith;
    ready = λ e. absurd cc;
    inside = tt;
  };
  is_context = c.law_context.ensures;
}

pub returns : goal.returns
returns c = record {
  area = let zero_byte : ℕ = 0 in ap (λ (l : List ℕ). length (drop HEADROOM_INDEX l)) c.in_ok-zeros.ensures ∙ ap length (drop-replicate HEADROOM_INDEX AREA_BYTES zero_byte) ∙ length-replicate frame_area_size zero_byte;
  zeros = let zero_byte : ℕ = 0 in subst (All (λ b. b ≡ 0)) (sym (ap (drop HEADROOM_INDEX) c.in_ok-zeros.ensures ∙ drop-replicate HEADROOM_INDEX AREA_BYTES zero_byte)) (All-replicate (λ (b : ℕ). b ≡ 0) frame_area_size 0 refl);
  length = refl;
  is_started = refl;
  window = refl;
}
