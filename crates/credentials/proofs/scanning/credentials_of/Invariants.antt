use Rattle.std.proofs.Common.{◌≡◌, option_copied}
use Rattle.std.specs.Option.{option_or}
use Rattle.stun.specs.Attributes.{attributes_left, value_of}
use Rattle.stun.specs.Registry.{message_integrity}
use Rattle.stun.specs.declared.registry.attribute.TheConstants.{USERNAME, REALM, NONCE}
use Rattle.credentials.proofs.scanning.credentials_of.Given as goal

abbrev pub invariant-loop-attr : goal.invariant-loop-attr
invariant-loop-attr l = record {
  can : (goal.iterator-loop-attr).can_next l.attr-iterator;
  finite : (goal.iterator-loop-attr).is_finite l.attr-iterator;
  integrity : option_or (option_copied l.found.integrity) (value_of message_integrity (attributes_left l.attr-iterator)) ≡ value_of message_integrity (attributes_left l.message.attributes);
  name : option_or (option_copied l.found.name) (value_of USERNAME (attributes_left l.attr-iterator)) ≡ value_of USERNAME (attributes_left l.message.attributes);
  realm : option_or (option_copied l.found.realm) (value_of REALM (attributes_left l.attr-iterator)) ≡ value_of REALM (attributes_left l.message.attributes);
  nonce : option_or (option_copied l.found.nonce) (value_of NONCE (attributes_left l.attr-iterator)) ≡ value_of NONCE (attributes_left l.message.attributes);
}
