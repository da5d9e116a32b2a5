use Rattle.std.proofs.Common.{◌≡◌, ◌-◌, ◌++◌, ◌∷◌, [], List, length, take, sym, ap, ◌∙◌, rules}
use Rattle.std.proofs.lemmas.List.{map-append}
use denote.Memory.{lone}
use Rattle.absstate.specs.Signatures.{state_signature}
use Rattle.absstate.specs.declared.abstract_state.AbsState.{AbsState}
use Rattle.absstate.specs.declared.signature.StateSignature.{StateSignature}
use Rattle.verifier.specs.Signed.{signatures_of}
use Rattle.verifier.proofs.Blocks.{without_last}
use Rattle.verifier.proofs.Sizes.{packed_fits}
use Rattle.verifier.proofs.kept.States.push.Goals as goal

pub drop-kept-inside-requires-room-T-Destruct : goal.drop-kept-inside-requires-room-T-Destruct
drop-kept-inside-requires-room-T-Destruct g c κs within = packed_fits (lone g.row.D.mir) g.met.D.Domain.small

pub drop-kept-inside-requires-in_err-push-room-T-Destruct : goal.drop-kept-inside-requires-in_err-push-room-T-Destruct
drop-kept-inside-requires-in_err-push-room-T-Destruct g c κs within = packed_fits (lone g.row.D.mir) g.met.D.Domain.small

pub invariant_of-self : goal.invariant_of-self
invariant_of-self g c = c.in_err-push.ensures.err ∙ c.self.invariant

pub invariant_of-self-in-Err : goal.invariant_of-self-in-Err
invariant_of-self-in-Err g c =
    c.pop.ensures ∙ ap (λ (xs : List StateSignature). take (length xs - 1) xs) c.in_ok-push.ensures.ok ∙ without_last c.self.inside.signatures c.signature-signature.result ∙ c.self.invariant
    ∙ ap (λ (xs : List (AbsState g.row.D.Denot)). signatures_of g.D.Domain.ops xs) (sym c.in-Err.ensures.items)

pub invariant_of-self-in_default : goal.invariant_of-self-in_default
invariant_of-self-in_default g c =
    let states = c.self.inside.states.items in
    let first : c.push.new.self ≡ c.self.inside.signatures ++ c.signature-signature.result ∷ [] = search rules in
    let second : c.push-2.new.self.items ≡ states ++ c.args.state.now ∷ [] = search rules in
    first ∙ ap (λ (xs : List StateSignature). xs ++ c.signature-signature.result ∷ []) c.self.invariant
    ∙ ap (λ (s : StateSignature). signatures_of g.D.Domain.ops states ++ s ∷ []) c.signature-signature.ensures ∙ sym (map-append (state_signature g.D.Domain.ops) states (c.args.state.now ∷ []))
    ∙ ap (λ (xs : List (AbsState g.row.D.Denot)). signatures_of g.D.Domain.ops xs) (sym second)
