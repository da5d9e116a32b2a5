-- What a run costs: the longest path of a program without faulty jumps leads to an exit, and no run is longer.
use Rattle.std.proofs.Common.{◌≡◌, ℕ, ◌≤◌, List, [], ◌∷◌, length, Result, Ok, Err, inl, refl, sym, ap, ◌∙◌, arith}
use Rattle.std.specs.Prelude.{IsOk}
use Rattle.insn.specs.declared.instruction.Insn.{Insn}
use Rattle.insn.specs.declared.instruction.Insn.TheVariants as insn
use Rattle.semantics.specs.Flow.{Flow, Straight, Jumps, Forks, flow_of, flow_branches, branches, branch_slot}
use Rattle.semantics.specs.Flow as flow
use Rattle.semantics.specs.Machine.{start}
use Rattle.semantics.specs.Runs.{run}
use Rattle.semantics.specs.Slots.{fetch}
use Rattle.semantics.specs.declared.fetching.Branch.{Branch}
use Rattle.semantics.specs.declared.fetching.Branch.TheVariants.{NotTaken, Taken}
use Rattle.semantics.specs.declared.fetching.Fetched.TheVariants.{Begins}
use Rattle.semantics.specs.declared.fetching.Visit.{Visit}
use Rattle.semantics.specs.declared.reason.Reason.{Reason}
use Rattle.absstate.specs.Successors.{Ends, flow_successors, successors_of}
use Rattle.verifier.specs.Layout.{IsLaidOut, EndsInExit}
use Rattle.verifier.proofs.Branches.{branch_is_good, branch_begins}
use Rattle.ordering.specs.Orders.{IsOneOf}
use Rattle.explaining.specs.LongestPaths.{IsFollowedBy, FollowFrom, IsPathFrom, IsLongestFrom, EndsAtExit, IsCostOf}
use Rattle.explaining.proofs.RunPaths.{run_path}

-- ---- an instruction that is no exit is followed by another one

is_exit : (i : Insn) → flow_of i ≡ flow.Ends → i ≡ insn.Exit
is_exit insn.Exit e = refl
is_exit i e = absurd cc

ends_by : (f : Flow) → flow_successors f ≡ Ends → f ≡ flow.Ends
ends_by Straight e = absurd cc
ends_by (Jumps d) e = absurd cc
ends_by (Forks d) e = absurd cc
ends_by flow.Ends e = refl

some_branch : (f : Flow) → (f ≡ flow.Ends → ⊥) → (b : Branch) × IsOneOf (flow_branches f) b
some_branch Straight on = (NotTaken, inl refl)
some_branch (Jumps d) on = (Taken, inl refl)
some_branch (Forks d) on = (NotTaken, inl refl)
some_branch flow.Ends on = absurd (on refl)

some_slot : (r : Result ℕ Reason) → IsOk r → (to : ℕ) × (r ≡ Ok to)
some_slot (Ok to) e = (to, refl)
some_slot (Err reason) e = absurd cc

module _ (code : List Insn) (laid_out : IsLaidOut code) where
  is_followed : (v : Visit) → fetch code v.slot ≡ Begins v.insn → (flow_of v.insn ≡ flow.Ends → ⊥) → (next : Visit) × IsFollowedBy code v next
  is_followed v here on =
      let by = some_branch (flow_of v.insn) on in
      let slot = some_slot (branch_slot code v.slot v.insn by.0) (branch_is_good code v.slot v.insn by.0 laid_out.jumps here) in
      let further : successors_of v.insn ≡ Ends → ⊥ = λ e. on (ends_by (flow_of v.insn) e) in
      let there = branch_begins code v.slot slot.0 v.insn by.0 laid_out.exit here further slot.1 in
      (record { slot = slot.0; insn = there.0 }, record { branch = by.0; is_branch = by.1; leads = slot.1; begins = there.1 })

  -- ---- the longest path ends at an exit

  none_further : (v : Visit) → fetch code v.slot ≡ Begins v.insn → ((more : List Visit) → FollowFrom code v more → length more ≤ 0) → (flow_of v.insn ≡ flow.Ends → ⊥) → ⊥
  none_further v here most on = let next = is_followed v here on in absurd (omega (arith, most (next.0 ∷ []) (next.1, tt)))

  last_exits : (v : Visit) → fetch code v.slot ≡ Begins v.insn → ((more : List Visit) → FollowFrom code v more → length more ≤ 0) → v.insn ≡ insn.Exit
  last_exits v here most = by (flow_of v.insn) refl where
    by : (f : Flow) → flow_of v.insn ≡ f → v.insn ≡ insn.Exit
    by Straight e = absurd (none_further v here most (λ ends. let bad : Straight ≡ flow.Ends = sym e ∙ ends in absurd cc))
    by (Jumps d) e = absurd (none_further v here most (λ ends. let bad : Jumps d ≡ flow.Ends = sym e ∙ ends in absurd cc))
    by (Forks d) e = absurd (none_further v here most (λ ends. let bad : Forks d ≡ flow.Ends = sym e ∙ ends in absurd cc))
    by flow.Ends e = is_exit v.insn e

  exits_from : (v : Visit) (rest : List Visit) → fetch code v.slot ≡ Begins v.insn → FollowFrom code v rest → ((more : List Visit) → FollowFrom code v more → length more ≤ length rest) → EndsAtExit (v ∷ rest)
  exits_from v [] here follows most = last_exits v here most
  exits_from v (next ∷ rest) here (follows, others) most = exits_from next rest follows.begins others (λ more f. omega (arith, most (next ∷ more) (follows, f)))

  first_begins : (program : List Insn) → EndsInExit program → (i : Insn) × (fetch program 0 ≡ Begins i)
  first_begins [] e = absurd cc
  first_begins (i ∷ program) e = (i, refl)

  exits : (n : ℕ) (path : List Visit) → IsPathFrom code 0 path → length path ≡ n → ((other : List Visit) → IsPathFrom code 0 other → length other ≤ n) → EndsAtExit path
  exits n [] is count most =
      let first = first_begins code laid_out.exit in
      absurd (omega (arith, count, most (record { slot = 0; insn = first.0 } ∷ []) (refl, first.1, tt)))
  exits n (v ∷ rest) (at, begins, follows) count most =
      let here : fetch code v.slot ≡ Begins v.insn = ap (fetch code) at ∙ begins in
      exits_from v rest here follows (λ more f. omega (arith, count, most (v ∷ more) (at, begins, f)))

  pub cost_is : (steps : ℕ) → IsLongestFrom code 0 steps → IsCostOf code (record { steps = steps })
  cost_is steps longest = record {
    longest = longest;
    exits = exits steps longest.path longest.is_path longest.count longest.most;
    runs = λ w datagram m. longest.most (run w code m (start datagram)).path (run_path w code m (start datagram));
  }
