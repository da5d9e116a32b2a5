-- Interface. That a buffer begins with a message has at most one proof, as an invariant needs.
use Rattle.std.specs.Prelude.{ℕ, List}
use Rattle.std.specs.List.{AllByRecursion-prop}
use Rattle.std.specs.Coded.{Coded-set, coded_ℕ, coded_list, le_prop}
use Rattle.stun.specs.Messages.{PaddedAttribute, IsPadded, Parts, AreParts}
use Rattle.stun.specs.Reading.{parts_in, EncodesParts}
use Rattle.stun.specs.Building.{IsBuilding, message_bytes}

IsPadded-prop : (a : PaddedAttribute) → IsProp (IsPadded a)
IsPadded-prop a x y = λ i. record { kind = le_prop x.kind y.kind i; value = le_prop x.value y.value i; padding = Coded-set coded_ℕ _ _ x.padding y.padding i }

AreParts-prop : (p : Parts) → IsProp (AreParts p)
AreParts-prop p x y = λ i. record {
  kind = le_prop x.kind y.kind i;
  tx = Coded-set coded_ℕ _ _ x.tx y.tx i;
  attributes = AllByRecursion-prop IsPadded IsPadded-prop p.attributes x.attributes y.attributes i;
  short = le_prop x.short y.short i;
}

IsDatagram-prop : (bytes : List ℕ) → IsProp (EncodesParts bytes)
IsDatagram-prop bytes x y = λ i. record {
  are_parts = AreParts-prop (parts_in bytes) x.are_parts y.are_parts i;
  spelled = Coded-set (coded_list coded_ℕ) _ _ x.spelled y.spelled i;
}

pub IsBuilding-prop : (bytes : List ℕ) → IsProp (IsBuilding bytes)
IsBuilding-prop bytes x y = λ i. record { inside = le_prop x.inside y.inside i; message = IsDatagram-prop (message_bytes bytes) x.message y.message i }
