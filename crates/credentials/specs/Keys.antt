-- Meaning. The keys of the long-term mechanism (RFC 8489, section 9.2.2).
use Rattle.std.specs.Prelude.{ℕ, List, ◌∷◌, ◌++◌}
use Rattle.credentials.specs.declared.key.Key.{Key}
use Rattle.md5.specs.Md5.{md5}

-- MD5 of username, realm and password, with colons between them
abbrev pub key_of : List ℕ → List ℕ → List ℕ → List ℕ
key_of user realm password = md5 (user ++ 58 ∷ realm ++ 58 ∷ password)

-- the bytes of a key
abbrev pub key_bytes : Key → List ℕ
key_bytes key = key.bytes
