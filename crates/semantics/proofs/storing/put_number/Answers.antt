use Rattle.std.proofs.Common.{◌≡◌, ℕ, ◌+◌, ◌-◌, ◌≤◌, List, ◌++◌, length, take, drop, sym, ap, ◌∙◌, arith, append_assoc}
use Rattle.std.proofs.lemmas.List.{length-take-le, length-drop, drop-drop}
use Rattle.insn.specs.Endian.{little_bytes}
use Rattle.insn.specs.Numbers.{length-bytes_low_first}
use Rattle.semantics.specs.Access.{overlay}
use Rattle.semantics.specs.laws.Access.{put_is}
use Rattle.semantics.proofs.storing.put_number.Goals as goal

-- the bytes that a slice in the middle of others leaves
written : (index n value : ℕ) (old part new : List ℕ) → index + n ≤ length old → length part ≡ index + n - index → new ≡ little_bytes (length part) value → length (little_bytes n value) ≡ n
    → take index old ++ (new ++ drop (index + n - index) (drop index old)) ≡ overlay index (little_bytes n value) old
written index n value old part new le long e count =
    let same : index + n - index ≡ n = omega arith in
    let after : drop n (drop index old) ≡ drop (index + n) old = drop-drop n index old in
    let is : new ≡ little_bytes n value = e ∙ ap (λ (k : ℕ). little_bytes k value) (long ∙ same) in
    (λ i. take index old ++ (is i ++ drop (same i) (drop index old))) ∙ (λ i. take index old ++ (little_bytes n value ++ after i)) ∙ sym (append_assoc (take index old) (little_bytes n value) (drop (index + n) old)) ∙ sym (put_is index (index + n) (little_bytes n value) old (omega (arith, count)) le)

pub returns : goal.returns
returns c =
    let index : ℕ = c.args.index in
    let inside : index + (index + c.args.n - index) ≤ length c.args.bytes.now = omega (arith, c.requires.inside) in
    let long : length (take (index + c.args.n - index) (drop index c.args.bytes.now)) ≡ index + c.args.n - index = length-take-le (index + c.args.n - index) (drop index c.args.bytes.now) (omega (arith, length-drop index c.args.bytes.now, inside)) in
    written index c.args.n c.args.value c.args.bytes.now (take (index + c.args.n - index) (drop index c.args.bytes.now)) c.write_little_endian.new.bytes c.requires.inside long c.write_little_endian.ensures (length-bytes_low_first 0 c.args.n c.args.value)
