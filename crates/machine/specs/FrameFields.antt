-- Internal. What the fields of a frame hold.
use Rattle.semantics.specs.declared.stack.StackMemory.{StackMemory}
use Rattle.std.specs.Prelude.{◌≡◌, ℕ, ◌+◌, ◌≤◌, Bool, true, List, length, take, drop, Option, IfSome}
use Rattle.semantics.specs.Machine.{IsContext, datagram_area}
use Rattle.semantics.specs.declared.limits.TheConstants.{HEADROOM, MAX_DATAGRAM, TAILROOM}
use Rattle.flat.specs.declared.layout.TheConstants.{AREA_BYTES, HEADROOM_INDEX}
use Rattle.machine.specs.Contents.{frame_area_size}
use Rattle.machine.specs.Contexts.{context_of}
use Rattle.machine.specs.declared.context.Context.{Context}

-- A frame's memory: an area, and a stack of 512 cells. Where the frame is started, its datagram has zeros round it. A
-- window lies in the area.
pub record HoldsDatagram (area : List ℕ) (stack : StackMemory) (count : ℕ) (is_started : Bool) (window : Option (ℕ × ℕ)) : Type 0 where
  pub long : length area ≡ frame_area_size
  pub short : count ≤ MAX_DATAGRAM
  pub ready : is_started ≡ true → take (HEADROOM + TAILROOM + count) area ≡ datagram_area (take count (drop HEADROOM area))
  pub inside : IfSome window (λ w. w.0 + w.1 ≤ frame_area_size)

-- a frame's memory, in an area that has it from headroom on, and a context of the definitions' sizes
pub record IsFrame (flat : List ℕ) (stack : StackMemory) (count : ℕ) (is_started : Bool) (window : Option (ℕ × ℕ)) (context : Context) : Type 0 where
  pub long : length flat ≡ AREA_BYTES
  pub holds : HoldsDatagram (drop HEADROOM_INDEX flat) stack count is_started window
  pub is_context : IsContext (context_of context)
