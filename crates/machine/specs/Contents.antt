-- Meaning. The contents of a frame: a datagram between headroom and tailroom, in one area of bytes.
use Rattle.std.specs.Prelude.{◌≡◌, ℕ, ◌+◌, Bool, true, false, List, ◌++◌, All, length, take, drop, Option, None}
use Rattle.semantics.specs.Machine.{datagram_area}
use Rattle.semantics.specs.declared.limits.TheConstants.{HEADROOM, MAX_DATAGRAM, TAILROOM}
use Rattle.machine.specs.declared.context.Context.{Context}

-- The area has 64 bytes of headroom, room for a datagram of 65,507 bytes, and three bytes more. The tailroom begins where
-- the datagram ends. A frame is started when it is given a datagram's length and a context, until it runs or its room is
-- written.
pub record Contents : Type 0 where
  pub area : List ℕ
  pub length : ℕ
  pub is_started : Bool
  pub context : Context
  pub window : Option (ℕ × ℕ)

-- the number of bytes of an area
abbrev pub frame_area_size : ℕ
frame_area_size = HEADROOM + MAX_DATAGRAM + TAILROOM

-- the room for a datagram
abbrev pub room_of : Contents → List ℕ
room_of f = take MAX_DATAGRAM (drop HEADROOM f.area)

-- the frame, not started, with bytes written over its area from the room on
abbrev pub with_room : Contents → List ℕ → Contents
with_room f bytes = record f { area = take (length f.area) (take HEADROOM f.area ++ bytes ++ drop (HEADROOM + length bytes) f.area); is_started = false }

-- the datagram
abbrev pub datagram_of : Contents → List ℕ
datagram_of f = take f.length (drop HEADROOM f.area)

-- the bytes of a window, of a front and a length
abbrev pub window_of : Contents → ℕ × ℕ → List ℕ
window_of f w = take w.1 (drop w.0 f.area)

-- a started frame: the first n bytes of its room are the datagram, with zeros round it
pub record IsStartedOver (old new : Contents) (given : Context) (n : ℕ) : Type 0 where
  pub area : new.area ≡ datagram_area (take n (drop HEADROOM old.area)) ++ drop (HEADROOM + TAILROOM + n) old.area
  pub length : new.length ≡ n
  pub is_started : new.is_started ≡ true
  pub context : new.context ≡ given
  pub window : new.window ≡ None

-- a new frame: zeros, the empty datagram, not started, no window
pub record IsNew (f : Contents) : Type 0 where
  pub area : length f.area ≡ frame_area_size
  pub zeros : All (λ b. b ≡ 0) f.area
  pub length : f.length ≡ 0
  pub is_started : f.is_started ≡ false
  pub window : f.window ≡ None
