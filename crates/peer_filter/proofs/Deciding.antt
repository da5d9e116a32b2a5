-- The rule that decides is the one that the relation names.
use Rattle.std.proofs.Common.{◌≡◌, ℕ, ◌<◌, ◌≤◌, ◌∙◌, arith, sym, ap, subst, Bool, true, false, refl, List, [], ◌∷◌, ◌++◌, Option, Some, None, nat_lt, ◌&&◌, cond}
use Rattle.std.specs.Prelude.{⊤}
use Rattle.std.proofs.lemmas.Bool.Decides.{nat_tests}
use Rattle.std.proofs.lemmas.Grind.{common_steps}
use Rattle.addresses.specs.declared.address.Addr.{Addr}
use Rattle.peer_filter.specs.Networks.{prefix_bits}
use Rattle.peer_filter.specs.Filters.{covers_peer, before_others, deciding_rule, EachCovering, DecidesOn, IsDecision}
use Rattle.peer_filter.specs.declared.rule.Rule.{Rule}

each_so : (peer : Addr) (P Q : Rule → Type 0) → ((r : Rule) → P r → Q r) → (rules : List Rule) → EachCovering peer P rules → EachCovering peer Q rules
each_so peer P Q so [] each = tt
each_so peer P Q so (r ∷ rules) each = (λ covers. so r (each.0 covers), each_so peer P Q so rules each.1)

each_append : (peer : Addr) (P : Rule → Type 0) (xs ys : List Rule) → EachCovering peer P xs → EachCovering peer P ys → EachCovering peer P (xs ++ ys)
each_append peer P [] ys front back = back
each_append peer P (x ∷ xs) ys front back = (front.0, each_append peer P xs ys front.1 back)

false_is_not_true : false ≡ true → ⊥
false_is_not_true e = absurd cc

-- ---- what is found decides

step_none : (peer : Addr) (rule : Rule) (rules : List Rule) (b : Bool) → covers_peer peer rule ≡ b
    → EachCovering peer (λ _. ⊥) rules → IsDecision (rule ∷ rules) peer (cond b (Some rule) None)
step_none peer rule rules true covers none = record {
  before = [];
  after = rules;
  member = refl;
  covers = covers;
  not_shorter = tt;
  longer = each_so peer (λ _. ⊥) (λ other. prefix_bits other.network < prefix_bits rule.network) (λ r never. absurd never) rules none;
}
step_none peer rule rules false covers none = (λ also. absurd (false_is_not_true (sym covers ∙ also)), none)

all_shorter : (peer : Addr) (rules : List Rule) (other : Rule) (n : ℕ) → prefix_bits other.network < n → DecidesOn rules peer other
    → EachCovering peer (λ r. prefix_bits r.network < n) rules
all_shorter peer rules other n less d =
    subst (λ (rs : List Rule). EachCovering peer (λ r. prefix_bits r.network < n) rs) (sym d.member)
    (each_append peer (λ r. prefix_bits r.network < n) d.before (other ∷ d.after)
    (each_so peer (λ r. prefix_bits r.network ≤ prefix_bits other.network) (λ r. prefix_bits r.network < n) (λ r some. omega (arith, some, less)) d.before d.not_shorter) (
      λ covers. less,
      each_so peer (λ r. prefix_bits r.network < prefix_bits other.network) (λ r. prefix_bits r.network < n) (λ r some. omega (arith, some, less)) d.after d.longer,
    ))

kept : (peer : Addr) (rule : Rule) (rules : List Rule) (other : Rule) → (covers_peer peer rule ≡ true → prefix_bits rule.network ≤ prefix_bits other.network)
    → DecidesOn rules peer other → DecidesOn (rule ∷ rules) peer other
kept peer rule rules other few d = record {
  before = rule ∷ d.before;
  after = d.after;
  member = ap (λ (rs : List Rule). rule ∷ rs) d.member;
  covers = d.covers;
  not_shorter = (few, d.not_shorter);
  longer = d.longer;
}

lt_of : (m n : ℕ) → nat_lt m n ≡ true → m < n
lt_of m n is = grind (arith, common_steps, nat_tests)

le_of : (m n : ℕ) → nat_lt m n ≡ false → n ≤ m
le_of m n is = grind (arith, common_steps, nat_tests)

step_some : (peer : Addr) (rule : Rule) (rules : List Rule) (other : Rule) (b l : Bool) → covers_peer peer rule ≡ b
    → nat_lt (prefix_bits other.network) (prefix_bits rule.network) ≡ l
    → DecidesOn rules peer other → IsDecision (rule ∷ rules) peer (cond (b && l) (Some rule) (Some other))
step_some peer rule rules other true true covers more d = record {
  before = [];
  after = rules;
  member = refl;
  covers = covers;
  not_shorter = tt;
  longer = all_shorter peer rules other (prefix_bits rule.network) (lt_of (prefix_bits other.network) (prefix_bits rule.network) more) d;
}
step_some peer rule rules other true false covers more d =
    kept peer rule rules other (λ also. le_of (prefix_bits other.network) (prefix_bits rule.network) more) d
step_some peer rule rules other false l covers more d =
    kept peer rule rules other (λ also. absurd (false_is_not_true (sym covers ∙ also))) d

step : (peer : Addr) (rule : Rule) (rules : List Rule) (o : Option Rule) → IsDecision rules peer o
    → IsDecision (rule ∷ rules) peer (before_others peer rule o)
step peer rule rules None is = step_none peer rule rules (covers_peer peer rule) refl is
step peer rule rules (Some other) is =
    step_some peer rule rules other (covers_peer peer rule) (nat_lt (prefix_bits other.network) (prefix_bits rule.network)) refl refl is

pub found : (rules : List Rule) (peer : Addr) → IsDecision rules peer (deciding_rule rules peer)
found [] peer = tt
found (rule ∷ rules) peer = step peer rule rules (deciding_rule rules peer) (found rules peer)

-- ---- what decides is found

abbrev Holds : (Rule → Type 0) → Option Rule → Type 0
Holds P None = ⊤
Holds P (Some rule) = P rule

chosen_holds : (P : Rule → Type 0) (b : Bool) (rule : Rule) (o : Option Rule) → (b ≡ true → P rule) → Holds P o → Holds P (cond b (Some rule) o)
chosen_holds P true rule o one rest = one refl
chosen_holds P false rule o one rest = rest

front_holds : (l : Bool) (b : Bool) → (b && l) ≡ true → b ≡ true
front_holds l true is = refl
front_holds l false is = is

decision_holds : (peer : Addr) (P : Rule → Type 0) (rules : List Rule) → EachCovering peer P rules → Holds P (deciding_rule rules peer)
decision_holds peer P [] each = tt
decision_holds peer P (rule ∷ rules) each = go (deciding_rule rules peer) (decision_holds peer P rules each.1)
  where
    go : (o : Option Rule) → Holds P o → Holds P (before_others peer rule o)
    go None holds = chosen_holds P (covers_peer peer rule) rule None each.0 holds
    go (Some other) holds =
        chosen_holds P (covers_peer peer rule && nat_lt (prefix_bits other.network) (prefix_bits rule.network)) rule (Some other)
        (λ both. each.0 (front_holds (nat_lt (prefix_bits other.network) (prefix_bits rule.network)) (covers_peer peer rule) both)) holds

lt_is : (m n : ℕ) → m < n → nat_lt m n ≡ true
lt_is m n less = grind (arith, common_steps, nat_tests)

first_taken : (peer : Addr) (rule : Rule) (o : Option Rule) → covers_peer peer rule ≡ true
    → Holds (λ other. prefix_bits other.network < prefix_bits rule.network) o → before_others peer rule o ≡ Some rule
first_taken peer rule None covers holds = ap (λ b. cond b (Some rule) None) covers
first_taken peer rule (Some other) covers holds =
    (λ i. cond (covers i && lt_is (prefix_bits other.network) (prefix_bits rule.network) holds i) (Some rule) (Some other))

not_before : (b : Bool) (m n : ℕ) → (b ≡ true → n ≤ m) → (b && nat_lt m n) ≡ false
not_before true m n few = let le : n ≤ m = few refl in grind (arith, common_steps, nat_tests)
not_before false m n few = refl

only_at : (peer : Addr) (rule : Rule) (before after : List Rule) → covers_peer peer rule ≡ true
    → EachCovering peer (λ other. prefix_bits other.network ≤ prefix_bits rule.network) before
    → EachCovering peer (λ other. prefix_bits other.network < prefix_bits rule.network) after
    → deciding_rule (before ++ rule ∷ after) peer ≡ Some rule
only_at peer rule [] after covers not_shorter longer =
    first_taken peer rule (deciding_rule after peer) covers (decision_holds peer (λ other. prefix_bits other.network < prefix_bits rule.network) after longer)
only_at peer rule (x ∷ before) after covers not_shorter longer =
    ap (before_others peer x) (only_at peer rule before after covers not_shorter.1 longer)
    ∙ ap (λ b. cond b (Some x) (Some rule)) (not_before (covers_peer peer x) (prefix_bits rule.network) (prefix_bits x.network) not_shorter.0)

pub only : (rules : List Rule) (peer : Addr) (rule : Rule) → DecidesOn rules peer rule → deciding_rule rules peer ≡ Some rule
only rules peer rule d =
    ap (λ (rs : List Rule). deciding_rule rs peer) d.member ∙ only_at peer rule d.before d.after d.covers d.not_shorter d.longer
