-- Data between relayed addresses of one server.
use Rattle.std.proofs.Common.{◌≡◌, ℕ, Bool, true, false, ◌&&◌, List, length, refl, sym, ap, ◌∙◌, arith}
use Rattle.std.specs.Prelude.{bytes_eq, nat_le, if◌then◌else◌}
use Rattle.std.proofs.lemmas.Bool.{and_parts}
use Rattle.std.proofs.lemmas.Slice.Eq.{bytes_eq-Decides}
use Rattle.addresses.specs.Addresses.{IsAddress, ip_of, port_of}
use Rattle.addresses.specs.declared.address.Addr.{Addr}
use Rattle.addresses.specs.declared.address.Addr.TheVariants.{V4, V6}
use Rattle.rules.specs.Permitted.{at_port}
use Rattle.server.specs.Hairpins.{ComesBack, inward, outward}
use Rattle.server.specs.declared.hairpin.Hairpin.{Hairpin}

-- an address with the IP address and the port of another one is that one
same_address : (x a : Addr) → IsAddress x → IsAddress a → bytes_eq (ip_of x) (ip_of a) ≡ true → at_port x (port_of a) ≡ a
same_address (V4 ip p) (V4 other q) is are e = ap (λ (bytes : List ℕ). V4 bytes q) ((bytes_eq-Decides ip other).0 e)
same_address (V6 ip p) (V6 other q) is are e = ap (λ (bytes : List ℕ). V6 bytes q) ((bytes_eq-Decides ip other).0 e)
same_address (V4 ip p) (V6 other q) is are e = absurd (omega (arith, is.long, are.long, ap (λ (bytes : List ℕ). length bytes) ((bytes_eq-Decides ip other).0 e)))
same_address (V6 ip p) (V4 other q) is are e = absurd (omega (arith, is.long, are.long, ap (λ (bytes : List ℕ). length bytes) ((bytes_eq-Decides ip other).0 e)))

itself : (bytes : List ℕ) → bytes_eq bytes bytes ≡ true
itself bytes = (bytes_eq-Decides bytes bytes).1 refl

both : (x y : Bool) → x ≡ true → y ≡ true → (x && y) ≡ true
both true true p q = refl
both true false p q = absurd cc
both false y p q = absurd cc

module _ (h : Hairpin) (port : ℕ) where
  abbrev has_port : Bool
  has_port = nat_le h.first port && nat_le port h.last

  -- from the socket with a port of a slot
  returned : (b : Addr) → b ≡ h.bound → has_port ≡ true → inward h (at_port b port) ≡ at_port h.relayed port
  returned (V4 ip p) is ports =
      let same : bytes_eq (ip_of h.bound) ip ≡ true = ap (λ (x : Addr). bytes_eq (ip_of x) ip) (sym is) ∙ itself ip in
      ap (λ (test : Bool). if test then at_port h.relayed port else V4 ip port) (both (bytes_eq (ip_of h.bound) ip) has_port same ports)
  returned (V6 ip p) is ports =
      let same : bytes_eq (ip_of h.bound) ip ≡ true = ap (λ (x : Addr). bytes_eq (ip_of x) ip) (sym is) ∙ itself ip in
      ap (λ (test : Bool). if test then at_port h.relayed port else V6 ip port) (both (bytes_eq (ip_of h.bound) ip) has_port same ports)

pub comes_back : (h : Hairpin) (a : Addr) → IsAddress h.relayed → IsAddress a → ComesBack h a
comes_back h a is are e =
    let parts = and_parts (bytes_eq (ip_of h.relayed) (ip_of a)) (nat_le h.first (port_of a) && nat_le (port_of a) h.last) e in
    let out : outward h a ≡ at_port h.bound (port_of a) = ap (λ (test : Bool). if test then at_port h.bound (port_of a) else a) e in
    ap (inward h) out ∙ returned h (port_of a) h.bound refl parts.1 ∙ same_address h.relayed a is are parts.0
