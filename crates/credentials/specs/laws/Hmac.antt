-- Interface. An HMAC has 20 bytes, those of a digest of SHA-1.
use Rattle.std.proofs.Common.{◌≡◌, ℕ, zero, suc, ◌*◌, List, length, refl, arith}
use Rattle.std.specs.Int.{w32, to_be_bytes}
use Rattle.std.specs.Prelude.{slice_index}
use Rattle.std.proofs.lemmas.List.{length-append}
use Rattle.sha1.specs.Sha1.{digest_bytes, sha1}
use Rattle.credentials.specs.Hmac.{hmac}

length-digest : (h : List ℕ) (n : ℕ) → length (digest_bytes h n) ≡ n * 4
unfolding digest_bytes
length-digest h zero = refl
length-digest h (suc n) =
    let last : length (to_be_bytes w32 (slice_index h n)) ≡ 4 = refl in
    omega (arith, length-digest h n, last, length-append (digest_bytes h n) (to_be_bytes w32 (slice_index h n)))

length-sha1 : (m : List ℕ) → length (sha1 m) ≡ 20
unfolding sha1
length-sha1 m = length-digest _ 5

pub length-hmac : (key m : List ℕ) → length (hmac key m) ≡ 20
unfolding hmac
length-hmac key m = length-sha1 _
