-- Meaning. A file that is read again periodically: which of its contents are tried.
use Rattle.std.specs.Prelude.{ℕ, Bool, true, false, not, ◌||◌, List, Option, None, Some, Vec, bytes_eq, is_some, ◌&&◌, if◌then◌else◌}
use Rattle.std.specs.declared.alloc.Global.{Global}

-- the bytes that are in use, and those that were last refused
pub record Known : Type 0 where
  pub in_use : Option (List ℕ)
  pub refused : Option (List ℕ)

abbrev pub contents_of : Option (Vec ℕ Global) → Option (List ℕ)
contents_of None = None
contents_of (Some bytes) = Some bytes.items

-- whether bytes were kept, and are these
abbrev pub is_kept : Option (List ℕ) → List ℕ → Bool
is_kept None bytes = false
is_kept (Some kept) bytes = bytes_eq kept bytes

-- others than those in use, and than those that were last refused
abbrev pub is_other : Known → List ℕ → Bool
is_other known bytes = not (is_kept known.in_use bytes || is_kept known.refused bytes)

-- the file has those in use again, after others were refused
abbrev pub is_put_back : Known → List ℕ → Bool
is_put_back known bytes = is_some known.refused && is_kept known.in_use bytes

-- once the file has those in use again, the ones that were refused are forgotten
abbrev pub looked : Known → List ℕ → Known
looked known bytes = if is_kept known.in_use bytes then record known { refused = None } else known
