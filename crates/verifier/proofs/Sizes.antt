-- The states of the walk fit in memory, whatever the domain: an abstract number takes at most 65,536 bytes.
use Rattle.std.proofs.Common.{ℕ, ◌+◌, ◌-◌, ◌*◌, ◌%◌, ◌<◌, ◌≤◌, ◌^◌, sym, subst, arith}
use Rattle.std.specs.Prelude.{max}
use Rattle.std.proofs.Math.Nat.{mod-le}
use mir.Syntax.{Width, w8, w16, w32, w64, w128, Ty}
use mir.Val.{bytes}
use prog.Memory.{align, size, up}
use prog.Align.{align_w, align-bytes}

of_width : (w : Width) → bytes w ≤ 16
of_width w8 = omega arith
of_width w16 = omega arith
of_width w32 = omega arith
of_width w64 = omega arith
of_width w128 = omega arith

small_alignment : (t : Ty) → align t ≤ 16
small_alignment t = subst (λ (k : ℕ). k ≤ 16) (sym (align-bytes t)) (of_width (align_w t))

up_le : (k e : ℕ) → up k e ≤ e + k
up_le k e = omega (arith, mod-le (k - e % k) k)

-- an abstract number of s bytes with the alignment a, and what is made of it
abbrev pub value_align : ℕ → ℕ
value_align a = max 1 (max (max a 1) 4)

abbrev pub value_size : ℕ → ℕ → ℕ
value_size a s = up (value_align a) (max 1 (max (up a 1 + s) 28))

abbrev pub state_align : ℕ → ℕ
state_align a = max (value_align a) 8

abbrev pub state_size : ℕ → ℕ → ℕ
state_size a s = up (state_align a) (up 8 (up 1 (up (value_align a) 0 + 75 * value_size a s) + 512) + 8)

abbrev pub packed_size : ℕ → ℕ → ℕ
packed_size a s = up (max (value_align a) 8) (up 8 (up 8 (up 8 (up (value_align a) 0 + 11 * value_size a s) + 24) + 64) + 8)

abbrev pub pending_size : ℕ → ℕ → ℕ
pending_size a s = up (max 8 (max (state_align a) 1)) (up (state_align a) 8 + state_size a s)

module _ (a s : ℕ) (aligned : a ≤ 16) (small : s ≤ 65536) where
  value_small : value_size a s ≤ 70000
  value_small = omega (arith, up_le (value_align a) (max 1 (max (up a 1 + s) 28)), up_le a 1, aligned, small)

  state_small : state_size a s ≤ 10000000
  state_small =
      omega (
        arith,
        value_small,
        aligned,
        up_le (state_align a) (up 8 (up 1 (up (value_align a) 0 + 75 * value_size a s) + 512) + 8),
        up_le 8 (up 1 (up (value_align a) 0 + 75 * value_size a s) + 512),
        up_le 1 (up (value_align a) 0 + 75 * value_size a s),
        up_le (value_align a) 0,
      )

  packed_small : packed_size a s < 2 ^ 63
  packed_small =
      omega (
        arith,
        value_small,
        aligned,
        up_le (max (value_align a) 8) (up 8 (up 8 (up 8 (up (value_align a) 0 + 11 * value_size a s) + 24) + 64) + 8),
        up_le 8 (up 8 (up 8 (up (value_align a) 0 + 11 * value_size a s) + 24) + 64),
        up_le 8 (up 8 (up (value_align a) 0 + 11 * value_size a s) + 24),
        up_le 8 (up (value_align a) 0 + 11 * value_size a s),
        up_le (value_align a) 0,
      )

  pending_small : pending_size a s < 2 ^ 63
  pending_small = omega (arith, state_small, aligned, up_le (max 8 (max (state_align a) 1)) (up (state_align a) 8 + state_size a s), up_le (state_align a) 8)

-- made of abstract numbers of a type
module _ (t : Ty) (small : size t ≤ 65536) where
  pub state_fits : state_size (align t) (size t) < 2 ^ 63
  state_fits = omega (arith, state_small (align t) (size t) (small_alignment t) small)

  pub packed_fits : packed_size (align t) (size t) < 2 ^ 63
  packed_fits = packed_small (align t) (size t) (small_alignment t) small

  pub pending_fits : pending_size (align t) (size t) < 2 ^ 63
  pending_fits = pending_small (align t) (size t) (small_alignment t) small
