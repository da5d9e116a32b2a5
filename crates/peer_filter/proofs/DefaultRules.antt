-- Which addresses the rules that hold without options deny.
use Rattle.std.proofs.Common.{◌≡◌, ℕ, ◌+◌, ◌*◌, ◌/◌, ◌^◌, ◌<◌, ◌∙◌, arith, sym, ap, Bool, true, false, not, ◌&&◌, ◌||◌, cond, refl, List, [], ◌∷◌, ◌++◌, Option, Some, None, nat_lt, nat_le, ◌==◌, filter}
use Rattle.std.specs.Int.{is_in_range}
use Rattle.std.specs.List.{list_any, list_all}
use Rattle.std.proofs.lemmas.Bool.Decides.{nat_tests}
use Rattle.std.proofs.lemmas.Grind.{common_steps}
use Rattle.addresses.specs.Addresses.{IsAddress}
use Rattle.addresses.specs.declared.address.Addr.{Addr}
use Rattle.addresses.specs.declared.address.Addr.TheVariants.{V4, V6}
use Rattle.peer_filter.specs.Networks.{ip_number, prefix_bits}
use Rattle.peer_filter.specs.Defaults.{denied_v6, is_denied_v4, is_denied_v6}
use Rattle.peer_filter.proofs.Families.{family_of, uncovered, of_the_family}
use Rattle.addresses.specs.declared.address.Family.TheVariants.{Ipv4, Ipv6}
use Rattle.peer_filter.specs.Filters.{is_for, covers_peer, before_others, deciding_rule, is_allow, is_allowed_by, default_rules}
use Rattle.peer_filter.specs.declared.defaults.TheConstants.{ALLOWED_LOOPBACK_V6, ALWAYS_DENIED, LOOPBACK_V4, LOOPBACK_V6}
use Rattle.peer_filter.specs.declared.rule.Loopback.{Loopback}
use Rattle.peer_filter.specs.declared.rule.Rule.{Rule}

-- ---- rules that all deny

abbrev denies : Rule → Bool
denies rule = not (is_allow rule.action)

abbrev Denies : Option Rule → Bool → Type 0
Denies None covered = covered ≡ false
Denies (Some rule) covered = (covered ≡ true) × (is_allow rule.action ≡ false)

denies_is : (rule : Rule) (rest : Bool) → (denies rule && rest) ≡ true → (is_allow rule.action ≡ false) × (rest ≡ true)
denies_is rule rest is = go (is_allow rule.action) is
  where
    go : (b : Bool) → (not b && rest) ≡ true → (b ≡ false) × (rest ≡ true)
    go true e = absurd cc
    go false e = (refl, e)

chosen : (c l : Bool) (rule other : Rule) → is_allow rule.action ≡ false → is_allow other.action ≡ false
    → Denies (cond (c && l) (Some rule) (Some other)) (c || true)
chosen true true rule other one rest = (refl, one)
chosen true false rule other one rest = (refl, rest)
chosen false l rule other one rest = (refl, rest)

alone : (c : Bool) (rule : Rule) → is_allow rule.action ≡ false → Denies (cond c (Some rule) None) (c || false)
alone true rule one = (refl, one)
alone false rule one = refl

one_more : (peer : Addr) (rule : Rule) (o : Option Rule) (covered : Bool) → is_allow rule.action ≡ false → Denies o covered
    → Denies (before_others peer rule o) (covers_peer peer rule || covered)
one_more peer rule None covered one rest = rw rest (alone (covers_peer peer rule) rule one)
one_more peer rule (Some other) covered one rest =
    rw rest.0 (chosen (covers_peer peer rule) (nat_lt (prefix_bits other.network) (prefix_bits rule.network)) rule other one rest.1)

all_deny : (peer : Addr) (rules : List Rule) → list_all denies rules ≡ true → Denies (deciding_rule rules peer) (list_any (covers_peer peer) rules)
all_deny peer [] all = refl
all_deny peer (rule ∷ rules) all =
    let is = denies_is rule (list_all denies rules) all in
    one_more peer rule (deciding_rule rules peer) (list_any (covers_peer peer) rules) is.0 (all_deny peer rules is.1)

allowed : (o : Option Rule) (covered : Bool) → Denies o covered → is_allowed_by o ≡ not covered
allowed None covered is = sym (ap (λ b. not b) is)
allowed (Some rule) covered is = is.1 ∙ sym (ap (λ b. not b) is.0)

-- where all rules of its family deny, an address is allowed where none of them contains it
abbrev own_rules : Addr → List Rule → List Rule
own_rules peer rules = filter (is_for (family_of peer)) rules

unless_covered : (peer : Addr) (rules own : List Rule) → own_rules peer rules ≡ own → list_all denies own ≡ true → is_allowed_by (deciding_rule rules peer) ≡ not (list_any (covers_peer peer) own)
unless_covered peer rules own is all =
    ap is_allowed_by (sym (of_the_family peer rules) ∙ ap (λ (rs : List Rule). deciding_rule rs peer) is) ∙ allowed (deciding_rule own peer) (list_any (covers_peer peer) own) (all_deny peer own all)

abbrev rules_of : Bool → Bool → List Rule
rules_of ipv4 ipv6 = ALWAYS_DENIED ++ cond ipv4 [] (LOOPBACK_V4 ∷ []) ++ cond ipv6 ALLOWED_LOOPBACK_V6 LOOPBACK_V6 ∷ []

-- ---- tests

false_is_not_true : false ≡ true → ⊥
false_is_not_true e = absurd cc

or_assoc : (p q r : Bool) → ((p || q) || r) ≡ (p || (q || r))
or_assoc true q r = refl
or_assoc false q r = refl

and_first : (p q : Bool) → (p && q) ≡ true → p ≡ true
and_first true q e = refl
and_first false q e = absurd (false_is_not_true e)

and_rest : (p q : Bool) → (p && q) ≡ true → q ≡ true
and_rest true q e = e
and_rest false q e = absurd (false_is_not_true e)

not_more : (b : Bool) (m n : ℕ) → nat_le n m ≡ true → (b && nat_lt m n) ≡ false
not_more true m n e = grind (arith, common_steps, nat_tests)
not_more false m n e = refl

unless_one : (p q : Bool) → p ≡ (p && not (q && false))
unless_one true true = refl
unless_one true false = refl
unless_one false q = refl

but_one : (p q : Bool) → q ≡ true → not (p && not (q && true)) ≡ true
but_one true true e = refl
but_one false q e = refl
but_one true false e = absurd (false_is_not_true e)

and_not_one : (p q : Bool) → q ≡ false → p ≡ (p && not (q && true))
and_not_one true false e = refl
and_not_one false q e = refl
and_not_one true true e = absurd (false_is_not_true (sym e))

turned_one : (n : ℕ) → (1 == n / 1) ≡ true → (n == 1) ≡ true
turned_one n e = grind (arith, common_steps, nat_tests)

not_one : (n : ℕ) → (1 == n / 1) ≡ false → (n == 1) ≡ false
not_one n e = grind (arith, common_steps, nat_tests)

-- ---- IPv4

abbrev denied_rules_v4 : Bool → List Rule
denied_rules_v4 ipv4 = filter (is_for Ipv4) ALWAYS_DENIED ++ cond ipv4 [] (LOOPBACK_V4 ∷ [])

own_v4 : (ipv4 ipv6 : Bool) (ip : List ℕ) (port : ℕ) → own_rules (V4 ip port) (rules_of ipv4 ipv6) ≡ denied_rules_v4 ipv4
own_v4 true true ip port = refl
own_v4 true false ip port = refl
own_v4 false true ip port = refl
own_v4 false false ip port = refl

they_deny_v4 : (ipv4 : Bool) → list_all denies (denied_rules_v4 ipv4) ≡ true
they_deny_v4 true = refl
they_deny_v4 false = refl

value_v4 : (a b c d port : ℕ) → ip_number (V4 (a ∷ b ∷ c ∷ d ∷ []) port) ≡ a * 16777216 + (b * 65536 + (c * 256 + d))
unfolding ip_number
value_v4 a b c d port = omega arith

turned : (p q r s : Bool) → (p || (q || (r || s))) ≡ (p || (s || (q || r)))
turned true q r s = refl
turned false true true true = refl
turned false true true false = refl
turned false true false true = refl
turned false true false false = refl
turned false false true true = refl
turned false false true false = refl
turned false false false true = refl
turned false false false false = refl

link_local : (a b : ℕ) → b < 256 → (43518 == a * 256 + b) ≡ (a == 169 && b == 254)
link_local a b small = grind (arith, common_steps, nat_tests)

upper : (a : ℕ) → a < 256 → (7 == a / 32) ≡ nat_le 224 a
upper a small = grind (arith, common_steps, nat_tests)

other_way : (m n : ℕ) → (m == n) ≡ (n == m)
other_way m n = grind (arith, common_steps, nat_tests)

loopback_v4 : (ipv4 : Bool) (a : ℕ) → cond ipv4 false ((127 == a) || false) ≡ (a == 127 && not ipv4)
loopback_v4 true a = grind (arith, common_steps, nat_tests)
loopback_v4 false a = grind (arith, common_steps, nat_tests)

bytes_v4 : (ipv4 : Bool) (a b : ℕ) → a < 256 → b < 256
    → ((0 == a) || ((43518 == a * 256 + b) || ((7 == a / 32) || cond ipv4 false ((127 == a) || false))))
    ≡ (a == 0 || ((a == 127 && not ipv4) || ((a == 169 && b == 254) || nat_le 224 a)))
bytes_v4 ipv4 a b small also =
    (λ i. other_way 0 a i || (link_local a b also i || (upper a small i || loopback_v4 ipv4 a i)))
    ∙ turned (a == 0) (a == 169 && b == 254) (nat_le 224 a) (a == 127 && not ipv4)

abbrev tests_v4 : Bool → ℕ → Bool
tests_v4 ipv4 n = (0 == n / 16777216) || ((43518 == n / 65536) || ((7 == n / 536870912) || cond ipv4 false ((127 == n / 16777216) || false)))

covered_v4 : (ipv4 : Bool) (ip : List ℕ) (port : ℕ)
    → list_any (covers_peer (V4 ip port)) (denied_rules_v4 ipv4) ≡ tests_v4 ipv4 (ip_number (V4 ip port))
covered_v4 true ip port = refl
covered_v4 false ip port = refl

tested_v4 : (ipv4 : Bool) (n a b c d : ℕ) → n ≡ a * 16777216 + (b * 65536 + (c * 256 + d)) → a < 256 → b < 256 → c < 256 → d < 256
    → tests_v4 ipv4 n ≡ (a == 0 || ((a == 127 && not ipv4) || ((a == 169 && b == 254) || nat_le 224 a)))
tested_v4 ipv4 n a b c d is small also third fourth =
    let first : n / 16777216 ≡ a = omega arith in
    let second : n / 65536 ≡ a * 256 + b = omega arith in
    let top : n / 536870912 ≡ a / 32 = omega arith in
    (λ i. (0 == first i) || ((43518 == second i) || ((7 == top i) || cond ipv4 false ((127 == first i) || false))))
    ∙ bytes_v4 ipv4 a b small also

pub defaults_v4 : (loopback : Loopback) (a b c d port : ℕ) → IsAddress (V4 (a ∷ b ∷ c ∷ d ∷ []) port)
    → is_allowed_by (deciding_rule (default_rules loopback) (V4 (a ∷ b ∷ c ∷ d ∷ []) port)) ≡ not (is_denied_v4 loopback a b)
defaults_v4 loopback a b c d port is =
    let ip : List ℕ = a ∷ b ∷ c ∷ d ∷ [] in
    unless_covered (V4 ip port) (rules_of loopback.ipv4 loopback.ipv6) (denied_rules_v4 loopback.ipv4) (own_v4 loopback.ipv4 loopback.ipv6 ip port) (they_deny_v4 loopback.ipv4)
    ∙ ap (λ b. not b) (covered_v4 loopback.ipv4 ip port
    ∙ tested_v4 loopback.ipv4 (ip_number (V4 ip port)) a b c d (value_v4 a b c d port) (is.bytes 0) (is.bytes 1) (is.bytes 2) (is.bytes 3))

-- ---- IPv6

abbrev denied_rules_v6 : List Rule
denied_rules_v6 = filter (is_for Ipv6) ALWAYS_DENIED

own_v6 : (ipv4 ipv6 : Bool) (ip : List ℕ) (port : ℕ) → own_rules (V6 ip port) (rules_of ipv4 ipv6) ≡ denied_rules_v6 ++ cond ipv6 ALLOWED_LOOPBACK_V6 LOOPBACK_V6 ∷ []
own_v6 true true ip port = refl
own_v6 true false ip port = refl
own_v6 false true ip port = refl
own_v6 false false ip port = refl

-- the networks, of which each has the numbers from its first to its last one
compatible : (n : ℕ) → (0 == n / 2 ^ 32) ≡ is_in_range 0 0xffffffff n
compatible n = grind (arith, common_steps, nat_tests)

mapped : (n : ℕ) → (0xffff == n / 2 ^ 32) ≡ is_in_range 0xffff00000000 0xffffffffffff n
mapped n = grind (arith, common_steps, nat_tests)

translated : (n : ℕ) → (0x64ff9b0000000000000000 == n / 2 ^ 32) ≡ is_in_range 0x64ff9b000000000000000000000000 0x64ff9b0000000000000000ffffffff n
translated n = grind (arith, common_steps, nat_tests)

locally_translated : (n : ℕ) → (0x64ff9b0001 == n / 2 ^ 80) ≡ is_in_range 0x64ff9b000100000000000000000000 0x64ff9b0001ffffffffffffffffffff n
locally_translated n = grind (arith, common_steps, nat_tests)

teredo : (n : ℕ) → (0x20010000 == n / 2 ^ 96) ≡ is_in_range 0x20010000000000000000000000000000 0x20010000ffffffffffffffffffffffff n
teredo n = grind (arith, common_steps, nat_tests)

six_to_four : (n : ℕ) → (0x2002 == n / 2 ^ 112) ≡ is_in_range 0x20020000000000000000000000000000 0x2002ffffffffffffffffffffffffffff n
six_to_four n = grind (arith, common_steps, nat_tests)

metadata : (n : ℕ) → (0xfd000ec2000000000000000000000254 == n / 1) ≡ is_in_range 0xfd000ec2000000000000000000000254 0xfd000ec2000000000000000000000254 n
metadata n = grind (arith, common_steps, nat_tests)

link_local_v6 : (n : ℕ) → (0x3fa == n / 2 ^ 118) ≡ is_in_range 0xfe800000000000000000000000000000 0xfebfffffffffffffffffffffffffffff n
link_local_v6 n = grind (arith, common_steps, nat_tests)

multicast : (n : ℕ) → (0xff == n / 2 ^ 120) ≡ is_in_range 0xff000000000000000000000000000000 0xffffffffffffffffffffffffffffffff n
multicast n = grind (arith, common_steps, nat_tests)

abbrev ranges : ℕ → Bool
ranges n = list_any (λ network. is_in_range network.0 network.1 n) denied_v6

-- what is denied by all but the rule for ::1, and that one, which lies in the first network
covered_v6 : (ip : List ℕ) (port : ℕ) → list_any (covers_peer (V6 ip port)) denied_rules_v6 ≡ ranges (ip_number (V6 ip port))
covered_v6 ip port = let n : ℕ = ip_number (V6 ip port) in
    (λ i. compatible n i || (mapped n i || (translated n i || (locally_translated n i || (teredo n i || (six_to_four n i || (metadata n i || (link_local_v6 n i || (multicast n i || false)))))))))

abbrev is_one : ℕ → Bool
is_one n = 1 == n / 1

in_first : (n : ℕ) → is_one n ≡ true → is_in_range 0 0xffffffff n ≡ true
in_first n one = grind (arith, common_steps, nat_tests)

absorbed : (p q : Bool) (rest : Bool) → (q ≡ true → p ≡ true) → ((p || rest) || (q || false)) ≡ (p || rest)
absorbed true q rest first = refl
absorbed false true rest first = absurd (false_is_not_true (first refl))
absorbed false false true first = refl
absorbed false false false first = refl

any_append : (peer : Addr) (xs ys : List Rule) → list_any (covers_peer peer) (xs ++ ys) ≡ (list_any (covers_peer peer) xs || list_any (covers_peer peer) ys)
any_append peer [] ys = refl
any_append peer (x ∷ xs) ys = ap (λ b. covers_peer peer x || b) (any_append peer xs ys) ∙ sym (or_assoc (covers_peer peer x) (list_any (covers_peer peer) xs) (list_any (covers_peer peer) ys))

denied_all_v6 : (ip : List ℕ) (port : ℕ) → list_any (covers_peer (V6 ip port)) (denied_rules_v6 ++ LOOPBACK_V6 ∷ []) ≡ ranges (ip_number (V6 ip port))
denied_all_v6 ip port =
    let n : ℕ = ip_number (V6 ip port) in
    any_append (V6 ip port) denied_rules_v6 (LOOPBACK_V6 ∷ []) ∙ ap (λ b. b || (is_one n || false)) (covered_v6 ip port)
    ∙ absorbed (is_in_range 0 0xffffffff n) (is_one n) _ (in_first n)

-- a rule that comes last and doesn't contain the address changes no decision
last_uncovered : (peer : Addr) (rules : List Rule) (rule : Rule) → covers_peer peer rule ≡ false → deciding_rule (rules ++ rule ∷ []) peer ≡ deciding_rule rules peer
last_uncovered peer [] rule apart = uncovered peer rule None apart
last_uncovered peer (first ∷ rules) rule apart = ap (before_others peer first) (last_uncovered peer rules rule apart)

-- one that comes last, contains the address, and has more bits than each other one, decides
abbrev has_fewer_bits : ℕ → Rule → Bool
has_fewer_bits bits rule = nat_le (prefix_bits rule.network) bits

last_covers : (peer : Addr) (rules : List Rule) (rule : Rule) → covers_peer peer rule ≡ true → list_all (has_fewer_bits (prefix_bits rule.network)) rules ≡ true → deciding_rule (rules ++ rule ∷ []) peer ≡ Some rule
last_covers peer [] rule covers fewer = ap (λ b. cond b (Some rule) None) covers
last_covers peer (first ∷ rules) rule covers fewer =
    ap (before_others peer first) (last_covers peer rules rule covers (and_rest (has_fewer_bits (prefix_bits rule.network) first) _ fewer))
    ∙ ap (λ b. cond b (Some first) (Some rule)) (not_more (covers_peer peer first) (prefix_bits rule.network) (prefix_bits first.network) (and_first (has_fewer_bits (prefix_bits rule.network) first) _ fewer))

decided_v6 : (ipv6 : Bool) (ip : List ℕ) (port : ℕ) → is_allowed_by (deciding_rule (denied_rules_v6 ++ cond ipv6 ALLOWED_LOOPBACK_V6 LOOPBACK_V6 ∷ []) (V6 ip port))
    ≡ not (ranges (ip_number (V6 ip port)) && not (ip_number (V6 ip port) == 1 && ipv6))
decided_v6 false ip port =
    allowed (deciding_rule (denied_rules_v6 ++ LOOPBACK_V6 ∷ []) (V6 ip port)) (list_any (covers_peer (V6 ip port)) (denied_rules_v6 ++ LOOPBACK_V6 ∷ [])) (all_deny (V6 ip port) (denied_rules_v6 ++ LOOPBACK_V6 ∷ []) refl)
    ∙ ap (λ b. not b) (denied_all_v6 ip port ∙ unless_one (ranges (ip_number (V6 ip port))) (ip_number (V6 ip port) == 1))
decided_v6 true ip port = by (is_one (ip_number (V6 ip port))) refl where
  by : (one : Bool) → is_one (ip_number (V6 ip port)) ≡ one → is_allowed_by (deciding_rule (denied_rules_v6 ++ ALLOWED_LOOPBACK_V6 ∷ []) (V6 ip port)) ≡ not (ranges (ip_number (V6 ip port)) && not (ip_number (V6 ip port) == 1 && true))
  by true one = ap is_allowed_by (last_covers (V6 ip port) denied_rules_v6 ALLOWED_LOOPBACK_V6 one refl) ∙ sym (but_one (ranges (ip_number (V6 ip port))) (ip_number (V6 ip port) == 1) (turned_one (ip_number (V6 ip port)) one))
  by false other =
      ap is_allowed_by (last_uncovered (V6 ip port) denied_rules_v6 ALLOWED_LOOPBACK_V6 other)
      ∙ allowed (deciding_rule denied_rules_v6 (V6 ip port)) (list_any (covers_peer (V6 ip port)) denied_rules_v6) (all_deny (V6 ip port) denied_rules_v6 refl)
      ∙ ap (λ b. not b) (covered_v6 ip port ∙ and_not_one (ranges (ip_number (V6 ip port))) (ip_number (V6 ip port) == 1) (not_one (ip_number (V6 ip port)) other))

pub defaults_v6 : (loopback : Loopback) (ip : List ℕ) (port : ℕ) → IsAddress (V6 ip port)
    → is_allowed_by (deciding_rule (default_rules loopback) (V6 ip port)) ≡ not (is_denied_v6 loopback (ip_number (V6 ip port)))
defaults_v6 loopback ip port is =
    ap is_allowed_by (sym (of_the_family (V6 ip port) (rules_of loopback.ipv4 loopback.ipv6)) ∙ ap (λ (rules : List Rule). deciding_rule rules (V6 ip port)) (own_v6 loopback.ipv4 loopback.ipv6 ip port))
    ∙ decided_v6 loopback.ipv6 ip port
