-- Interface. What signatures have in common, by which many are ruled out at once.
use Rattle.std.specs.Prelude.{ℕ, ◌/◌, ◌^◌, ◌&&◌, ◌||◌, Bool, min, nat_lt, nat_le, bit_and, bit_or}
use Rattle.absstate.specs.declared.common_signature.CommonLinks.{CommonLinks}
use Rattle.absstate.specs.declared.common_signature.CommonMargins.{CommonMargins}
use Rattle.absstate.specs.declared.common_signature.CommonSignature.{CommonSignature}
use Rattle.absstate.specs.declared.links.Links.{Links}
use Rattle.absstate.specs.declared.margins.Margins.{Margins}
use Rattle.absstate.specs.declared.signature.MarkBits.{MarkBits}
use Rattle.absstate.specs.declared.signature.StateSignature.{StateSignature}
use Rattle.absstate.specs.Signatures.{above_of, word_within, marks_within}

-- one bit of 128 for a hash
abbrev pub hash_bit : ℕ → ℕ
hash_bit hash = 2 ^ (hash / 2 ^ 57)

abbrev pub is_among : ℕ → ℕ → Bool
is_among hash bits = word_within (hash_bit hash) bits

-- ---- what one has

abbrev pub common_links_of : Links → CommonLinks
common_links_of l = record { count = l.count; firsts = hash_bit l.firsts }

abbrev pub common_margins_of : Margins → CommonMargins
common_margins_of m = record { below = m.below; above = above_of m; total = m.total }

abbrev pub common_of : StateSignature → CommonSignature
common_of s = record { registers = s.registers; groups = s.groups; marks = s.marks; margins = common_margins_of s.margins; values = hash_bit s.values; links = common_links_of s.links }

-- ---- what two have in common: the bits that both have, and the least numbers; the bits for hashes are those of either

abbrev pub common_marks : MarkBits → MarkBits → MarkBits
common_marks m n = record { any = bit_and m.any n.any; two = bit_and m.two n.two }

abbrev pub least_margins : CommonMargins → CommonMargins → CommonMargins
least_margins m n = record { below = min m.below n.below; above = min m.above n.above; total = min m.total n.total }

abbrev pub common_links : CommonLinks → CommonLinks → CommonLinks
common_links l k = record { count = min l.count k.count; firsts = bit_or l.firsts k.firsts }

abbrev pub in_common : CommonSignature → CommonSignature → CommonSignature
in_common c d = record {
  registers = bit_and c.registers d.registers;
  groups = bit_and c.groups d.groups;
  marks = common_marks c.marks d.marks;
  margins = least_margins c.margins d.margins;
  values = bit_or c.values d.values;
  links = common_links c.links d.links;
}

abbrev pub common_with : CommonSignature → StateSignature → CommonSignature
common_with c s = in_common c (common_of s)

-- ---- another one that one of them may lie within

abbrev pub admits_margins : CommonMargins → Margins → Bool
admits_margins m n = nat_le m.below n.below && nat_le m.above (above_of n)

abbrev pub admits_links : CommonLinks → Links → Bool
admits_links l k = nat_lt l.count k.count || is_among k.firsts l.firsts

abbrev pub admits : CommonSignature → StateSignature → Bool
admits c t = word_within c.registers t.registers && (word_within c.groups t.groups && (admits_margins c.margins t.margins
    && ((nat_lt c.margins.total t.margins.total || is_among t.values c.values) && (marks_within c.marks t.marks && admits_links c.links t.links))))
