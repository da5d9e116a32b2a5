-- The path of a search, before and after a unit of work.
use Rattle.std.proofs.Common.{◌≡◌, ℕ, suc, ◌+◌, ◌-◌, ◌≤◌, List, [], ◌∷◌, ◌++◌, length, take, Option, Some, None, inl, inr, refl, sym, ap, ◌∙◌, subst, arith}
use Rattle.std.specs.Prelude.{◌⊎◌, All, replicate, reverse, slice_get}
use Rattle.std.proofs.Math.Seq.{take-length}
use Rattle.std.proofs.lemmas.List.Elements.{All-push}
use Rattle.std.proofs.lemmas.List.{append-nil, append_assoc, length-append, length-reverse, length-take-le, length_push, reverse-append, take_all, take-take, take-append-le}
use Rattle.insn.specs.declared.instruction.Insn.{Insn}
use Rattle.interval.specs.Intervals.{interval_ops}
use Rattle.interval.specs.declared.interval.Interval.{Interval}
use Rattle.semantics.specs.declared.fetching.Branch.TheVariants.{NotTaken, Taken}
use Rattle.absstate.specs.MemberSteps.{state_after}
use Rattle.absstate.specs.declared.abstract_state.AbsState.{AbsState}
use Rattle.verifier.specs.Units.{IsStepMade, IsSkip, DoesUnit, RefusesUnit}
use Rattle.verifier.specs.Walk.{Advances, IsNext, IsLeft, IsStepRefusal, first_pending, waiting_states}
use Rattle.verifier.specs.declared.refusal.Refusal.{Refusal}
use Rattle.verifier.specs.declared.refusal.Refusal.TheVariants as refusal
use Rattle.verifier.specs.declared.walk.Pending.{Pending}
use Rattle.explaining.specs.Paths.{IsSuccessor, SucceedFrom, IsStatePath, EndsStatePath, ShowsRefusal}
use Rattle.explaining.specs.Trails.{BranchOff, IsTrail, LeadsUp, IsHeaded}
use Rattle.explaining.specs.declared.searching.Trail.{Trail}

-- ---- longer paths

module _ (code : List Insn) where
  succeed_more : (a : Pending Interval) (xs : List (Pending Interval)) (p b : Pending Interval) → SucceedFrom interval_ops code a (xs ++ p ∷ []) → IsSuccessor interval_ops code p b → SucceedFrom interval_ops code a ((xs ++ p ∷ []) ++ b ∷ [])
  succeed_more a [] p b from next = (from.0, (next, tt))
  succeed_more a (x ∷ xs) p b from next = (from.0, succeed_more x xs p b from.1 next)

  pub path_more : (xs : List (Pending Interval)) (p b : Pending Interval) → IsStatePath interval_ops code (xs ++ p ∷ []) → IsSuccessor interval_ops code p b → IsStatePath interval_ops code ((xs ++ p ∷ []) ++ b ∷ [])
  path_more [] p b path next = (path.0, (next, tt))
  path_more (x ∷ xs) p b path next = (path.0, succeed_more x xs p b path.1 next)

-- ---- the states that branch off a path

module _ (code : List Insn) where
  branch_wider : (path : List (Pending Interval)) (most more : ℕ) (ds : List ℕ) (ws : List (Pending Interval)) → most ≤ more → BranchOff code path most ds ws → BranchOff code path more ds ws
  branch_wider path most more [] [] wider off = tt
  branch_wider path most more [] (w ∷ ws) wider off = absurd off
  branch_wider path most more (d ∷ ds) [] wider off = absurd off
  branch_wider path most more (d ∷ ds) (w ∷ ws) wider off = (omega (arith, off.0), off.1, off.2)

  take_again : (d at : ℕ) (path more : List (Pending Interval)) → d ≤ at → at ≤ length path → take d (take at path ++ more) ≡ take d path
  take_again d at path more few within =
      let count : length (take at path) ≡ at = length-take-le at path within in
      take-append-le d (take at path) more (omega (arith, count)) ∙ take-take d at path few

  branch_cut : (path more : List (Pending Interval)) (at most : ℕ) (ds : List ℕ) (ws : List (Pending Interval)) → at ≤ length path → most ≤ at → BranchOff code path most ds ws → BranchOff code (take at path ++ more) most ds ws
  branch_cut path more at most [] [] within few off = tt
  branch_cut path more at most [] (w ∷ ws) within few off = absurd off
  branch_cut path more at most (d ∷ ds) [] within few off = absurd off
  branch_cut path more at most (d ∷ ds) (w ∷ ws) within few off =
      let fewer : d ≤ at = omega (arith, off.0) in (
        off.0,
        subst (λ (xs : List (Pending Interval)). IsStatePath interval_ops code (xs ++ w ∷ [])) (sym (take_again d at path more fewer within)) off.1,
        branch_cut path more at d ds ws within fewer off.2,
      )

  same_count : (path : List (Pending Interval)) (most : ℕ) (ds : List ℕ) (ws : List (Pending Interval)) → BranchOff code path most ds ws → length ds ≡ length ws
  same_count path most [] [] off = refl
  same_count path most [] (w ∷ ws) off = absurd off
  same_count path most (d ∷ ds) [] off = absurd off
  same_count path most (d ∷ ds) (w ∷ ws) off = ap suc (same_count path d ds ws off.2)

-- ---- the path to the state to follow next

last_at : {A : Type 0} (x : A) (xs : List A) (l : A) → slice_get (x ∷ xs) (length xs) ≡ Some l → (rest : List A) × (x ∷ xs ≡ rest ++ l ∷ [])
last_at x [] l is = let same : x ≡ l = cc in ([], ap (λ (y : _). y ∷ []) same)
last_at x (y ∷ ys) l is = let r = last_at y ys l is in (x ∷ r.0, ap (λ (zs : List _). x ∷ zs) r.1)

-- what is the last one of a list stands at its end
pub last_of : {A : Type 0} (xs : List A) (l : A) → slice_get xs (length xs - 1) ≡ Some l → (rest : List A) × (xs ≡ rest ++ l ∷ [])
last_of [] l is = absurd cc
last_of (x ∷ xs) l is =
    let count : length (x ∷ xs) - 1 ≡ length xs = omega arith in
    last_at x xs l (subst (λ (n : ℕ). slice_get (x ∷ xs) n ≡ Some l) count is)

-- a list with one more at its end, the other way round
reversed : {A : Type 0} (xs : List A) (x : A) → reverse (xs ++ x ∷ []) ≡ x ∷ reverse xs
reversed xs x = reverse-append xs (x ∷ [])

same_last : {A : Type 0} (xs ys : List A) (x y : A) → xs ++ x ∷ [] ≡ ys ++ y ∷ [] → x ≡ y
same_last xs ys x y is =
    let both : x ∷ reverse xs ≡ y ∷ reverse ys = sym (reversed xs x) ∙ ap reverse is ∙ reversed ys y in
    cc

module _ (code : List Insn) (path : List (Pending Interval)) (ds : List ℕ) (d : ℕ) where
  -- where one waits at a depth, the path so far leads to it, and the others branch off it
  one_heads : (rest : List (Pending Interval)) (here : Pending Interval) → BranchOff code path (length path) (reverse (ds ++ d ∷ [])) (reverse (rest ++ here ∷ []))
      → (d ≤ length path) × IsStatePath interval_ops code (take d path ++ here ∷ []) × BranchOff code path d (reverse ds) (reverse rest)
  one_heads rest here off =
      subst (λ (xs : List ℕ). BranchOff code path (length path) xs (here ∷ reverse rest)) (reversed ds d)
      (subst (λ (ws : List (Pending Interval)). BranchOff code path (length path) (reverse (ds ++ d ∷ [])) ws) (reversed rest here) off)

  others_branch : (rest : List (Pending Interval)) (here : Pending Interval) → BranchOff code path (length path) (reverse (ds ++ d ∷ [])) (reverse (rest ++ here ∷ []))
      → BranchOff code (take d path ++ here ∷ []) (length (take d path ++ here ∷ [])) (reverse ds) (reverse rest)
  others_branch rest here off =
      let h = one_heads rest here off in
      let count : length (take d path ++ here ∷ []) ≡ d + 1 = length_push (take d path) here ∙ ap (λ (n : ℕ). n + 1) (length-take-le d path h.0) in
      branch_wider code (take d path ++ here ∷ []) d (length (take d path ++ here ∷ [])) (reverse ds) (reverse rest) (omega (arith, count))
      (branch_cut code path (here ∷ []) d d (reverse ds) (reverse rest) h.0 (omega arith) h.2)

  pub headed_path : (waits rest : List (Pending Interval)) (here : Pending Interval) → waits ≡ rest ++ here ∷ [] → BranchOff code path (length path) (reverse (ds ++ d ∷ [])) (reverse waits) → IsStatePath interval_ops code (take d path ++ here ∷ [])
  headed_path waits rest here is off =
      (one_heads rest here (subst (λ (ws : List (Pending Interval)). BranchOff code path (length path) (reverse (ds ++ d ∷ [])) (reverse ws)) is off)).1

-- the trail whose path was cut to the depth of the state to follow next, and leads to it
pub headed : (code : List Insn) (old new : Trail) (d : ℕ) (waits rest : List (Pending Interval)) (here : Pending Interval) → waits ≡ rest ++ here ∷ []
    → BranchOff code old.path.items (length old.path.items) (reverse old.depths.items) (reverse waits)
    → old.depths.items ≡ new.depths.items ++ d ∷ [] → new.path.items ≡ take d old.path.items ++ here ∷ []
    → (others : List (Pending Interval)) (last : Pending Interval) → waits ≡ others ++ last ∷ [] → LeadsUp code others last new
headed code old new d waits rest here is off depths path others last is_too =
    let off_too : BranchOff code old.path.items (length old.path.items) (reverse (new.depths.items ++ d ∷ [])) (reverse (others ++ last ∷ [])) =
    subst (λ (ws : List (Pending Interval)). BranchOff code old.path.items (length old.path.items) (reverse (new.depths.items ++ d ∷ [])) (reverse ws)) is_too
    (subst (λ (xs : List ℕ). BranchOff code old.path.items (length old.path.items) (reverse xs) (reverse waits)) depths off) in
    let same : here ≡ last = same_last rest others here last (sym is ∙ is_too) in
    let path_too : new.path.items ≡ take d old.path.items ++ last ∷ [] = path ∙ ap (λ (p : Pending Interval). take d old.path.items ++ p ∷ []) same in
    record {
      before = take d old.path.items;
      path_is = path_too;
      branches = subst (λ (xs : List (Pending Interval)). BranchOff code xs (length xs) (reverse new.depths.items) (reverse others)) (sym path_too) (others_branch code old.path.items new.depths.items d others last off_too);
    }

-- ---- the states that wait after a unit of work

-- each of some states succeeds a state
abbrev AllSucceed : List Insn → Pending Interval → List (Pending Interval) → Type 0
AllSucceed code here [] = Unit {0}
AllSucceed code here (w ∷ ws) = IsSuccessor interval_ops code here w × AllSucceed code here ws

module _ (code : List Insn) (here : Pending Interval) (rest : List (Pending Interval)) (next : Option (Pending Interval)) (pending : List (Pending Interval)) (adv : Advances interval_ops code here rest next pending) where
  next_succeeds : (state : Option (AbsState Interval)) (p : Pending Interval) → state_after adv.accepted NotTaken ≡ state → IsNext code here.slot adv.insn NotTaken state (Some p) → IsSuccessor interval_ops code here p
  next_succeeds None p is on = absurd on
  next_succeeds (Some s) p is on = record { insn = adv.insn; begins = adv.begins; branch = NotTaken; by = record { accepted = adv.accepted; step_is = adv.step_is; leads = on.leads; state_is = is ∙ ap Some (sym on.state_is) } }

  left_succeed : (state : Option (AbsState Interval)) (left : List (Pending Interval)) → state_after adv.accepted Taken ≡ state → IsLeft code here.slot adv.insn Taken state left → AllSucceed code here left
  left_succeed None left is none = subst (AllSucceed code here) (sym none) tt
  left_succeed (Some s) left is (p, leads, one) =
      subst (AllSucceed code here) (sym one)
      (record { insn = adv.insn; begins = adv.begins; branch = Taken; by = record { accepted = adv.accepted; step_is = adv.step_is; leads = leads.leads; state_is = is ∙ ap Some (sym leads.state_is) } }, tt)

all_and : (code : List Insn) (here : Pending Interval) (xs ys : List (Pending Interval)) → AllSucceed code here xs → AllSucceed code here ys → AllSucceed code here (xs ++ ys)
all_and code here [] ys all more = more
all_and code here (x ∷ xs) ys all more = (all.0, all_and code here xs ys all.1 more)

-- the states that a step leads to wait after the others
news : (code : List Insn) (here : Pending Interval) (rest : List (Pending Interval)) (next : Option (Pending Interval)) (pending : List (Pending Interval)) → Advances interval_ops code here rest next pending
    → (new : List (Pending Interval)) × (waiting_states next pending ≡ rest ++ new) × AllSucceed code here new
news code here rest None pending adv = (adv.left, adv.new_is, left_succeed code here rest None pending adv (state_after adv.accepted Taken) adv.left refl adv.goes_on.1)
news code here rest (Some p) pending adv = (
  adv.left ++ p ∷ [],
  ap (λ (xs : List (Pending Interval)). xs ++ p ∷ []) adv.new_is ∙ append_assoc rest adv.left (p ∷ []),
  all_and code here adv.left (p ∷ []) (left_succeed code here rest (Some p) pending adv (state_after adv.accepted Taken) adv.left refl adv.goes_on.1)
      (next_succeeds code here rest (Some p) pending adv (state_after adv.accepted NotTaken) p refl adv.goes_on.0, tt),
)

module _ (code : List Insn) (path before : List (Pending Interval)) (here : Pending Interval) (path_is : path ≡ before ++ here ∷ []) (is_path : IsStatePath interval_ops code path) where
  one_more : (w : Pending Interval) → IsSuccessor interval_ops code here w → IsStatePath interval_ops code (take (length path) path ++ w ∷ [])
  one_more w next =
      subst (λ (xs : List (Pending Interval)). IsStatePath interval_ops code (xs ++ w ∷ [])) (sym path_is ∙ sym (take-length path))
      (path_more code before here w (subst (IsStatePath interval_ops code) path_is is_path) next)

  -- successors of the path's end wait at its length
  grow : (new : List (Pending Interval)) (ds : List ℕ) (ws : List (Pending Interval)) → AllSucceed code here new → BranchOff code path (length path) (reverse ds) (reverse ws)
      → BranchOff code path (length path) (reverse (ds ++ replicate (length new) (length path))) (reverse (ws ++ new))
  grow [] ds ws all off =
      subst (λ (xs : List (Pending Interval)). BranchOff code path (length path) (reverse (ds ++ [])) (reverse xs)) (sym (append-nil ws))
      (subst (λ (xs : List ℕ). BranchOff code path (length path) (reverse xs) (reverse ws)) (sym (append-nil ds)) off)
  grow (w ∷ new) ds ws all off =
      let n = length path in
      let one : BranchOff code path n (n ∷ reverse ds) (w ∷ reverse ws) = (omega arith, one_more w all.0, off) in
      let first : BranchOff code path n (reverse (ds ++ n ∷ [])) (reverse (ws ++ w ∷ [])) =
      subst (λ (xs : List ℕ). BranchOff code path n xs (reverse (ws ++ w ∷ []))) (sym (reversed ds n))
      (subst (λ (xs : List (Pending Interval)). BranchOff code path n (n ∷ reverse ds) xs) (sym (reversed ws w)) one) in
      subst (λ (xs : List (Pending Interval)). BranchOff code path n (reverse (ds ++ replicate (length (w ∷ new)) n)) (reverse xs)) (append_assoc ws (w ∷ []) new)
      (subst (λ (xs : List ℕ). BranchOff code path n (reverse xs) (reverse ((ws ++ w ∷ []) ++ new))) (append_assoc ds (n ∷ []) (replicate (length new) n))
      (grow new (ds ++ n ∷ []) (ws ++ w ∷ []) all.1 first))

  -- the depths after a unit of work, of which `waits` are left
  after_unit : (ds : List ℕ) (rest new waits : List (Pending Interval)) → waits ≡ rest ++ new → AllSucceed code here new → BranchOff code path (length path) (reverse ds) (reverse rest)
      → BranchOff code path (length path) (reverse (take (length waits) ds ++ replicate (length waits - length ds) (length path))) (reverse waits)
  after_unit ds rest new waits is all off =
      let same : length ds ≡ length rest = sym (length-reverse ds) ∙ same_count code path (length path) (reverse ds) (reverse rest) off ∙ length-reverse rest in
      let count : length waits ≡ length rest + length new = ap (λ (xs : List (Pending Interval)). length xs) is ∙ length-append rest new in
      let kept : take (length waits) ds ≡ ds = take_all (length waits) ds (omega (arith, same, count)) in
      let more : length waits - length ds ≡ length new = omega (arith, same, count) in
      subst (λ (xs : List (Pending Interval)). BranchOff code path (length path) (reverse (take (length waits) ds ++ replicate (length waits - length ds) (length path))) (reverse xs)) (sym is)
      (subst (λ (k : ℕ). BranchOff code path (length path) (reverse (take (length waits) ds ++ replicate k (length path))) (reverse (rest ++ new))) (sym more)
      (subst (λ (xs : List ℕ). BranchOff code path (length path) (reverse (xs ++ replicate (length new) (length path))) (reverse (rest ++ new))) (sym kept)
      (grow new ds rest all off)))

-- so the states that wait after a unit of work branch off the path
pub went_on : (code : List Insn) (old new : List (Pending Interval)) (before made : ℕ) (t : Trail) (ds : List ℕ) → IsHeaded code old t → DoesUnit interval_ops code old new before made
    → ds ≡ take (length new) t.depths.items ++ replicate (length new - length t.depths.items) (length t.path.items)
    → BranchOff code t.path.items (length t.path.items) (reverse ds) (reverse new)
went_on code old new before made t ds is unit depths =
    subst (λ (xs : List ℕ). BranchOff code t.path.items (length t.path.items) (reverse xs) (reverse new)) (sym depths) (does unit.does)
  where
    up : LeadsUp code unit.rest unit.here t
    up = is.leads unit.rest unit.here unit.old_is

    does : IsSkip unit.rest new before made ⊎ IsStepMade interval_ops code unit.here unit.rest new before made
        → BranchOff code t.path.items (length t.path.items) (reverse (take (length new) t.depths.items ++ replicate (length new - length t.depths.items) (length t.path.items))) (reverse new)
    does (inl skip) =
        after_unit code t.path.items up.before unit.here up.path_is is.path t.depths.items unit.rest [] new (skip.0 ∙ sym (append-nil unit.rest)) tt up.branches
    does (inr step) =
        let n = news code unit.here unit.rest step.next step.pending step.advances in
        after_unit code t.path.items up.before unit.here up.path_is is.path t.depths.items unit.rest n.0 new (step.waits_are ∙ n.1) n.2 up.branches

-- ---- the end

-- the path shows the refusal of a unit of work
pub shown : (code : List Insn) (waits : List (Pending Interval)) (e : Refusal) (t : Trail) → IsHeaded code waits t → RefusesUnit interval_ops code waits e → ShowsRefusal code t.path.items e
shown code waits e t is unit = shows e unit.cause
  where
    up : LeadsUp code unit.rest unit.here t
    up = is.leads unit.rest unit.here unit.old_is

    shows : (e : Refusal) → IsStepRefusal interval_ops code unit.here e ⊎ (e ≡ refusal.Budget unit.here.slot) → ShowsRefusal code t.path.items e
    shows (refusal.Stuck reason slot) (inl refused) = inr (up.before, unit.here, up.path_is, refused)
    shows (refusal.Stuck reason slot) (inr budget) = absurd cc
    shows (refusal.Budget slot) (inl refused) = absurd refused
    shows (refusal.Budget slot) (inr budget) = (up.before, unit.here, up.path_is, cc)
    shows (refusal.Memory slot) cause = tt

-- ---- the trail

-- at the start
pub begun : (code : List Insn) (t : Trail) → t.path.items ≡ [] → t.depths.items ≡ 0 ∷ [] → t.firsts.items ≡ [] → IsTrail code (first_pending ∷ []) t
begun code t path depths firsts = record {
  path = subst (IsStatePath interval_ops code) (sym path) tt;
  branches =
      subst (λ (xs : List (Pending Interval)). BranchOff code xs (length xs) (reverse t.depths.items) (reverse (first_pending ∷ []))) (sym path)
      (subst (λ (xs : List ℕ). BranchOff code [] 0 (reverse xs) (reverse (first_pending ∷ []))) (sym depths) (omega arith, (refl, tt), tt));
  firsts = subst (All (EndsStatePath interval_ops code)) (sym firsts) (λ k d less. absurd (omega (arith, less)));
}

-- before a unit of work
pub leads_on : (code : List Insn) (waits : List (Pending Interval)) (here : Pending Interval) (d : ℕ) (old new : Trail) → IsTrail code waits old → Some here ≡ slice_get waits (length waits - 1)
    → old.depths.items ≡ new.depths.items ++ d ∷ [] → new.path.items ≡ take d old.path.items ++ here ∷ [] → new.firsts ≡ old.firsts → IsHeaded code waits new
leads_on code waits here d old new trail is depths path firsts =
    let last = last_of waits here (sym is) in
    let off : BranchOff code old.path.items (length old.path.items) (reverse (new.depths.items ++ d ∷ [])) (reverse waits) =
    subst (λ (xs : List ℕ). BranchOff code old.path.items (length old.path.items) (reverse xs) (reverse waits)) depths trail.branches in
    record {
      path = subst (IsStatePath interval_ops code) (sym path) (headed_path code old.path.items new.depths.items d waits last.0 here last.1 off);
      leads = λ rest p is. headed code old new d waits last.0 here last.1 trail.branches depths path rest p is;
      firsts = subst (λ (v : _). All (EndsStatePath interval_ops code) v.items) (sym firsts) trail.firsts;
    }

-- after it
pub goes_on : (code : List Insn) (old new : List (Pending Interval)) (before made : ℕ) (from waited to : Trail) → IsHeaded code old from → DoesUnit interval_ops code old new before made
    → waited.depths.items ≡ take (length new) from.depths.items ++ replicate (length new - length from.depths.items) (length from.path.items) → waited.path ≡ from.path → to.path ≡ waited.path → to.depths ≡ waited.depths
    → All (EndsStatePath interval_ops code) to.firsts.items → IsTrail code new to
goes_on code old new before made from waited to is unit depths path path_too depths_too firsts =
    let same : to.path.items ≡ from.path.items = ap (λ (v : _). v.items) (path_too ∙ path) in
    record {
      path = subst (IsStatePath interval_ops code) (sym same) is.path;
      branches =
          subst (λ (xs : List (Pending Interval)). BranchOff code xs (length xs) (reverse to.depths.items) (reverse new)) (sym same)
          (went_on code old new before made from to.depths.items is unit (ap (λ (v : _). v.items) depths_too ∙ depths));
      firsts = firsts;
    }

-- the last state of a path that is among the first ones
pub more_firsts : (code : List Insn) (path firsts : List (Pending Interval)) (here : Pending Interval) → IsStatePath interval_ops code path → Some here ≡ slice_get path (length path - 1)
    → All (EndsStatePath interval_ops code) firsts → All (EndsStatePath interval_ops code) (firsts ++ here ∷ [])
more_firsts code path firsts here is_path is all =
    let last = last_of path here (sym is) in
    All-push (EndsStatePath interval_ops code) firsts here all (last.0, subst (IsStatePath interval_ops code) last.1 is_path)
