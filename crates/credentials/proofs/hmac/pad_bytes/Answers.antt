use Rattle.std.proofs.Common.{ℕ, get_or}
use Rattle.std.specs.Prelude.{bit_xor}
use Rattle.std.proofs.lemmas.List.{get_or_default}
use Rattle.std.proofs.lemmas.List.Edits.{map_over_more}
use Rattle.credentials.proofs.hmac.pad_bytes.Goals as goal

pub loop-byte-preserved : goal.loop-byte-preserved
loop-byte-preserved c =
    map_over_more (λ (b : ℕ). bit_xor b c.args.pad) c.args.bytes.now c.loop-byte.bytes c.loop-byte.byte-index (get_or c.loop-byte.bytes c.loop-byte.byte-index 0) c.loop-byte-test.true c.loop-byte.invariant
    (get_or_default c.loop-byte.bytes c.loop-byte.byte-index 0 (get_or c.loop-byte.bytes c.loop-byte.byte-index 0) (rw c.loop-byte.auto.bytes c.loop-byte-test.true))
