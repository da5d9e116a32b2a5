-- Meaning. Message types: a method (RFC 8489, section 18.2; RFC 8656, section 17) and a class (RFC 8489, section 5).
use Rattle.std.specs.Prelude.{ℕ, ◌+◌}
use Rattle.stun.specs.declared.registry.Method.{Method}
use Rattle.stun.specs.declared.registry.Method.TheVariants.{Binding, Allocate, Refresh, Send, Data, CreatePermission, ChannelBind}
use Rattle.stun.specs.declared.registry.Class.{Class}
use Rattle.stun.specs.declared.registry.Class.TheVariants.{Request, Indication, Success, Error}
use Rattle.stun.specs.declared.registry.MessageType.{MessageType}

abbrev pub method_number : Method → ℕ
method_number Binding = 0x001
method_number Allocate = 0x003
method_number Refresh = 0x004
method_number Send = 0x006
method_number Data = 0x007
method_number CreatePermission = 0x008
method_number ChannelBind = 0x009

-- the two bits of a class are the bits 4 and 8 of a type
abbrev pub class_bits : Class → ℕ
class_bits Request = 0x000
class_bits Indication = 0x010
class_bits Success = 0x100
class_bits Error = 0x110

-- every method is below 16: its bits are below those of the class
abbrev pub type_number : MessageType → ℕ
type_number t = method_number t.method + class_bits t.class
