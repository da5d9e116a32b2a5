-- Meaning. The types of a message's attributes that are not understood (RFC 8489, section 6.3.1).
use Rattle.std.specs.Prelude.{ℕ, not, List, [], ◌∷◌, ◌++◌, map, take, fold, ◌==◌, if◌then◌else◌}
use Rattle.std.specs.List.{filter, list_any}
use Rattle.stun.specs.Attributes.{is_understood}
use Rattle.stun.specs.Messages.{Parts, message_of}
use Rattle.control.specs.declared.unknown.TheConstants.{MAX_UNKNOWN}

-- a type after others, if it isn't among them
abbrev pub with_type : List ℕ → ℕ → List ℕ
with_type kinds kind = if list_any (λ k. k == kind) kinds then kinds else kinds ++ kind ∷ []

-- each type once, in the order in which they appear first
abbrev pub distinct_types : List ℕ → List ℕ
distinct_types kinds = fold with_type [] kinds

-- the first of the types that are not understood
abbrev pub unknown_types : Parts → List ℕ
unknown_types p = take MAX_UNKNOWN (distinct_types (filter (λ kind. not (is_understood kind)) (map (λ a. a.kind) (message_of p).attributes)))
