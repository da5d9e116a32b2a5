use Rattle.std.proofs.Common.{◌≡◌, ℕ, ◌<◌, ◌+◌, List, [], ◌++◌, length, take, get_or, sym, ap, ◌∙◌, rules}
use Rattle.std.specs.List.{flat_map}
use Rattle.std.proofs.lemmas.List.{flat_map_more, take_more}
use Rattle.std.proofs.Output.{has_written_append, has_written_of_eq}
use Rattle.addresses.specs.AddressTexts.{hex_digits}
use Rattle.addresses.proofs.text.HexBytesDisplay.fmt.Goals as goal

one_more : (bytes : List ℕ) (i : ℕ) → i < length bytes → flat_map hex_digits (take i bytes) ++ hex_digits (get_or bytes i 0) ≡ flat_map hex_digits (take (i + 1) bytes)
one_more bytes i inside = flat_map_more hex_digits [] (take i bytes) (get_or bytes i 0) ∙ ap (flat_map hex_digits) (sym (take_more bytes i 0 inside))

pub loop-byte-preserved : goal.loop-byte-preserved
loop-byte-preserved g c = λ p.
    has_written_of_eq _ _ _ _ _ (one_more c.args.self.now.0.now c.loop-byte.byte-index c.loop-byte-test.true)
    (has_written_append _ _ _ _ _ _ (c.loop-byte.invariant p) (search rules))
