-- The rule that decides, once one more rule comes last.
use Rattle.std.proofs.Common.{◌≡◌, ℕ, ◌∙◌, arith, sym, ap, Bool, true, false, refl, List, [], ◌∷◌, ◌++◌, Option, Some, None, nat_lt, nat_le, ◌&&◌, cond}
use Rattle.std.proofs.lemmas.Bool.Decides.{nat_tests}
use Rattle.std.proofs.lemmas.Grind.{common_steps}
use Rattle.addresses.specs.declared.address.Addr.{Addr}
use Rattle.peer_filter.specs.Networks.{prefix_bits}
use Rattle.peer_filter.specs.Filters.{covers_peer, before_others, deciding_rule}
use Rattle.peer_filter.specs.declared.rule.Rule.{Rule}

-- ---- two rules and another one, by the bits of their prefixes

flip : {A : Type 0} (m n : ℕ) (x y : A) → cond (nat_lt n m) x y ≡ cond (nat_le m n) y x
flip m n x y = grind (arith, common_steps, nat_tests)

three : {A : Type 0} (first other last : ℕ) (x y z : A)
    → cond (nat_le other last) (cond (nat_lt last first) x z) (cond (nat_lt other first) x y)
    ≡ cond (nat_lt other first) (cond (nat_le first last) z x) (cond (nat_le other last) z y)
three first other last x y z = grind (arith, common_steps, nat_tests)

-- ---- a rule after others

abbrev pub after_others : Addr → Option Rule → Rule → Option Rule
after_others peer None rule = cond (covers_peer peer rule) (Some rule) None
after_others peer (Some other) rule = cond (covers_peer peer rule && nat_le (prefix_bits other.network) (prefix_bits rule.network)) (Some rule) (Some other)

cond_before : (peer : Addr) (rule : Rule) (b : Bool) (x y : Option Rule)
    → before_others peer rule (cond b x y) ≡ cond b (before_others peer rule x) (before_others peer rule y)
cond_before peer rule true x y = refl
cond_before peer rule false x y = refl

cond_after : (peer : Addr) (rule : Rule) (b : Bool) (x y : Option Rule)
    → after_others peer (cond b x y) rule ≡ cond b (after_others peer x rule) (after_others peer y rule)
cond_after peer rule true x y = refl
cond_after peer rule false x y = refl

same : {A : Type 0} (b : Bool) (x : A) → x ≡ cond b x x
same true x = refl
same false x = refl

alone : {A : Type 0} (f l : Bool) (m n : ℕ) (x y : A)
    → cond l (cond (f && nat_lt n m) (Some x) (Some y)) (cond f (Some x) None)
    ≡ cond f (cond (l && nat_le m n) (Some y) (Some x)) (cond l (Some y) None)
alone true true m n x y = flip m n (Some x) (Some y)
alone true false m n x y = refl
alone false true m n x y = refl
alone false false m n x y = refl

beside : {A : Type 0} (f l : Bool) (first other last : ℕ) (x y z : A)
    → cond (l && nat_le other last) (cond (f && nat_lt last first) x z) (cond (f && nat_lt other first) x y)
    ≡ cond (f && nat_lt other first) (cond (l && nat_le first last) z x) (cond (l && nat_le other last) z y)
beside true true first other last x y z = three first other last x y z
beside true false first other last x y z = refl
beside false true first other last x y z = refl
beside false false first other last x y z = refl

both_ends : (peer : Addr) (first last : Rule) (o : Option Rule)
    → before_others peer first (after_others peer o last) ≡ after_others peer (before_others peer first o) last
both_ends peer first last None =
    cond_before peer first (covers_peer peer last) (Some last) None
    ∙ alone (covers_peer peer first) (covers_peer peer last) (prefix_bits first.network) (prefix_bits last.network) first last
    ∙ sym (cond_after peer last (covers_peer peer first) (Some first) None)
both_ends peer first last (Some other) =
    cond_before peer first (covers_peer peer last && nat_le (prefix_bits other.network) (prefix_bits last.network)) (Some last) (Some other)
    ∙ beside (covers_peer peer first) (covers_peer peer last) (prefix_bits first.network) (prefix_bits other.network) (prefix_bits last.network) (Some first) (Some other) (Some last)
    ∙ sym (cond_after peer last (covers_peer peer first && nat_lt (prefix_bits other.network) (prefix_bits first.network)) (Some first) (Some other))

deciding_rule-last : (rules : List Rule) (peer : Addr) (last : Rule)
    → deciding_rule (rules ++ last ∷ []) peer ≡ after_others peer (deciding_rule rules peer) last
deciding_rule-last [] peer last = refl
deciding_rule-last (rule ∷ rules) peer last = ap (before_others peer rule) (deciding_rule-last rules peer last) ∙ both_ends peer rule last (deciding_rule rules peer)

-- ---- what comes of one more rule

last_is : (peer : Addr) (last : Rule) (o r : Option Rule) → r ≡ after_others peer o last
    → (rules : List Rule) → o ≡ deciding_rule rules peer → r ≡ deciding_rule (rules ++ last ∷ []) peer
last_is peer last o r is rules e = is ∙ ap (λ d. after_others peer d last) e ∙ sym (deciding_rule-last rules peer last)

pub kept_uncovered : (peer : Addr) (last : Rule) (o : Option Rule) → covers_peer peer last ≡ false
    → (rules : List Rule) → o ≡ deciding_rule rules peer → o ≡ deciding_rule (rules ++ last ∷ []) peer
kept_uncovered peer last None out = last_is peer last None None (sym (ap (λ b. cond b (Some last) None) out))
kept_uncovered peer last (Some other) out =
    last_is peer last (Some other) (Some other)
    (sym (ap (λ b. cond (b && nat_le (prefix_bits other.network) (prefix_bits last.network)) (Some last) (Some other)) out))

pub taken_alone : (peer : Addr) (last : Rule) (o : Option Rule) → covers_peer peer last ≡ true → o ≡ None
    → (rules : List Rule) → o ≡ deciding_rule rules peer → Some last ≡ deciding_rule (rules ++ last ∷ []) peer
taken_alone peer last o inside none =
    last_is peer last o (Some last)
    (sym (ap (λ (q : Option Rule). after_others peer q last) none ∙ ap (λ b. cond b (Some last) None) inside))

cond_some : (b : Bool) (x y : Rule) → Some (cond b x y) ≡ cond b (Some x) (Some y)
cond_some true x y = refl
cond_some false x y = refl

pub longer_taken : (peer : Addr) (last other chosen : Rule) (o : Option Rule) → covers_peer peer last ≡ true → o ≡ Some other
    → chosen ≡ cond (nat_le (prefix_bits other.network) (prefix_bits last.network)) last other
    → (rules : List Rule) → o ≡ deciding_rule rules peer → Some chosen ≡ deciding_rule (rules ++ last ∷ []) peer
longer_taken peer last other chosen o inside some is =
    last_is peer last o (Some chosen)
    (ap (λ (r : Rule). Some r) is
    ∙ cond_some (nat_le (prefix_bits other.network) (prefix_bits last.network)) last other
    ∙ sym (ap (λ (q : Option Rule). after_others peer q last) some
    ∙ ap (λ b. cond (b && nat_le (prefix_bits other.network) (prefix_bits last.network)) (Some last) (Some other)) inside))
