use Rattle.std.proofs.Common.{◌≡◌, ap, ◌∙◌, length, ◌/◌, rules}
use Rattle.verifier.specs.Blocks.{blocks_with}
use Rattle.verifier.specs.declared.signatures.TheConstants.{BLOCK}
use Rattle.verifier.proofs.Blocks.{same_blocks, in_blocks, with_last}
use Rattle.verifier.proofs.signatures.Signatures.push.Goals as goal

pub invariant_of-self-in_err-push : goal.invariant_of-self-in_err-push
invariant_of-self-in_err-push c =
    let count : c.len.result ≡ length c.self.inside.each.items = search rules in
    let added = c.in_ok-add_to_block.ensures.ok ∙ ap (λ n. blocks_with c.self.inside.blocks.items (n / BLOCK) c.args.signature) count in
    same_blocks _ _ _ _ added c.in_err-push.ensures.items (in_blocks c.self.inside.blocks.items c.self.inside.each.items c.args.signature c.self.invariant)

pub invariant_of-self-2 : goal.invariant_of-self-2
invariant_of-self-2 c =
    let count : c.len.result ≡ length c.self.inside.each.items = search rules in
    let added = c.in_ok-add_to_block.ensures.ok ∙ ap (λ n. blocks_with c.self.inside.blocks.items (n / BLOCK) c.args.signature) count in
    same_blocks _ _ _ _ added c.in_ok-push.ensures.items (with_last c.self.inside.blocks.items c.self.inside.each.items c.args.signature c.self.invariant)
