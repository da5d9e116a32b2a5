-- Meaning. HMAC over SHA-1 (RFC 2104, section 2).
use Rattle.std.specs.Prelude.{ℕ, ◌-◌, List, ◌++◌, length, map, replicate, bit_xor, nat_le, if◌then◌else◌}
use Rattle.sha1.specs.Sha1.{sha1}

-- a key that is longer than a block of the hash, 64 bytes, is hashed first
abbrev pub short_key : List ℕ → List ℕ
short_key key = if nat_le (length key) 64 then key else sha1 key

-- a key of at most 64 bytes, filled with zeros to a block
abbrev pub block_of : List ℕ → List ℕ
block_of key = key ++ replicate (64 - length key) 0

-- each byte xored with a pad
abbrev pub block_with_pad : ℕ → List ℕ → List ℕ
block_with_pad pad block = map (λ b. bit_xor b pad) block

abbrev pub inner_pad : ℕ
inner_pad = 0x36

abbrev pub outer_pad : ℕ
outer_pad = 0x5c

-- H((K xor opad) || H((K xor ipad) || m))
unfoldable pub hmac : List ℕ → List ℕ → List ℕ
hmac key m = sha1 (block_with_pad outer_pad (block_of (short_key key)) ++ sha1 (block_with_pad inner_pad (block_of (short_key key)) ++ m))
