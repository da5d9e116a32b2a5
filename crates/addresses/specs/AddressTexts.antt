-- Meaning. The text of an address: `a.b.c.d:port` for IPv4, `[` 32 hexadecimal digits `]:port` for IPv6.
use Rattle.std.specs.Prelude.{ℕ, ◌/◌, ◌%◌, false, List, [], ◌∷◌, ◌++◌, codes, decimal}
use Rattle.std.specs.Fmt.{digit_glyph}
use Rattle.std.specs.List.{flat_map}
use Rattle.addresses.specs.declared.address.Addr.{Addr}
use Rattle.addresses.specs.declared.address.Addr.TheVariants.{V4, V6}

-- a byte as two hexadecimal digits, in lower case
abbrev pub hex_digits : ℕ → List ℕ
hex_digits byte = digit_glyph false (byte / 16) ∷ digit_glyph false (byte % 16) ∷ []

-- bytes as decimal numbers, with points between them
abbrev pub dotted_decimal : List ℕ → List ℕ
dotted_decimal [] = []
dotted_decimal (byte ∷ []) = decimal byte
dotted_decimal (byte ∷ bytes) = decimal byte ++ codes "." ++ dotted_decimal bytes

abbrev pub address_text : Addr → List ℕ
address_text (V4 ip port) = dotted_decimal ip ++ codes ":" ++ decimal port
address_text (V6 ip port) = codes "[" ++ flat_map hex_digits ip ++ codes "]:" ++ decimal port
