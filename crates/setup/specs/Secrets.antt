-- Meaning. The secrets of a file, one a line.
use Rattle.std.specs.Prelude.{ℕ, Bool, List, ◌==◌, bytes_eq, [], Option, Some, None, if◌then◌else◌}
use Rattle.std.specs.List.{before_first, after_first}

abbrev pub is_feed : ℕ → Bool
is_feed byte = byte == 0x0a

-- the first line of a text, without the line feed that ends it, and what follows that
abbrev pub line_in : List ℕ → List ℕ
line_in text = before_first is_feed text

abbrev pub after_first_line : List ℕ → List ℕ
after_first_line text = after_first is_feed text

-- the secret and the former one, if a second line has one; none where a third line follows
abbrev pub secrets_in : List ℕ → Option (List ℕ × Option (List ℕ))
secrets_in text =
    if bytes_eq (after_first_line text) [] then Some (line_in text, None)
    else if bytes_eq (after_first_line (after_first_line text)) [] then Some (line_in text, Some (line_in (after_first_line text)))
    else None
