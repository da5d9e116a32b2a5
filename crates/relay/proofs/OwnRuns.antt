-- The system with loaded programs keeps users apart, whatever the programs: a run looks up in the own slot alone.
use Rattle.std.proofs.Common.{◌≡◌, ℕ, List, length, Bool, true, false, refl, sym, ap, subst, ◌∙◌}
use Rattle.std.specs.Prelude.{◌==◌, ◌||◌, Option, None, Some, is_some, nat_lt, if◌then◌else◌}
use Rattle.std.specs.Option.{option_map, option_and_then}
use Rattle.std.proofs.lemmas.List.{length-map}
use Rattle.insn.specs.declared.instruction.Insn.{Insn}
use Rattle.semantics.specs.Machine.{AddressRecord, State}
use Rattle.semantics.specs.Runs as runs
use Rattle.semantics.specs.Runs.{Run, Ending}
use Rattle.addresses.specs.Addresses.{is_of_family}
use Rattle.addresses.specs.declared.address.Addr.{Addr}
use Rattle.control.specs.declared.config.Config.{Config}
use Rattle.helpers.specs.LookUps.{held_answer, look_up_answer}
use Rattle.machine.specs.Contexts.{context_of, environment_around}
use Rattle.machine.specs.Tracing.{run_over}
use Rattle.tables.specs.LookUps.{allocation_of, bound_channel, held_in, permission_of}
use Rattle.tables.specs.Moments.{moment_of}
use Rattle.tables.specs.Rows.{Rows, held_at, rows_at}
use Rattle.tables.specs.WellFormed.{AreWellFormed}
use Rattle.tables.specs.declared.allocation.Allocation.{Allocation}
use Rattle.tables.specs.declared.held.Held.{Held}
use Rattle.tables.specs.laws.WellFormed.{rows_at-well_formed}
use Rattle.events.specs.Events.{Sending, ToPeer, ToClient}
use Rattle.events.specs.declared.meta.Source.TheVariants.{Client, Peer}
use Rattle.basics.specs.Options.{◌>>=◌, guard}
use Rattle.programs.specs.Runs.{context_for, datagram_in, destination_in, planned_sending, run_for, sent_by, slot_for, window_in}
use Rattle.programs.specs.declared.verdict.TheConstants.{PASSES, SENDS}
use Rattle.rules.specs.ByRules.{from_client}
use Rattle.rules.specs.Isolation.{KeepsUsersApart, LookAlike}
use Rattle.rules.specs.Permitted.{holds_as}
use Rattle.rules.specs.Rules.{to_peer}
use Rattle.rules.specs.Systems.{SystemReply, no_answer, reply_of_relaying}
use Rattle.rules.specs.declared.confinement.Confinement.{Confinement}
use Rattle.rules.specs.laws.Isolation.{RepliesAlike, RepliesUnchanged, acts_on_own, acts_unchanged, from_client-alike, held_alike, peer_slot-alike, unchanged-alike}
use Rattle.rules.specs.laws.OwnRows.{allocation_of-alike}
use Rattle.relay.specs.ByPrograms.{Programs, by_programs, by_run, let_through, of_ending, of_verdict}

-- ---- a client's datagram

module _ {quota : Option ℕ} (client : Addr) (a b : Rows) (are_a : AreWellFormed a) (are_b : AreWellFormed b) (alike : LookAlike quota (Client client) a b) where
  own_allocation : allocation_of client a ≡ allocation_of client b
  own_allocation = allocation_of-alike client a b alike

  own_answers : look_up_answer (slot_for (Client client) a) a ≡ look_up_answer (slot_for (Client client) b) b
  own_answers = of (allocation_of client a) refl ∙ ap (λ (o : Option Allocation). look_up_answer (option_map (λ x. x.slot) o) b) own_allocation where
    of : (o : Option Allocation) → allocation_of client a ≡ o → look_up_answer (option_map (λ x. x.slot) o) a ≡ look_up_answer (option_map (λ x. x.slot) o) b
    of None is = refl
    of (Some x) is = ap held_answer (held_alike client a b are_a are_b alike x is)

  client_run : (code : List Insn) (tx bytes : List ℕ) → run_for code tx (Client client) a bytes ≡ run_for code tx (Client client) b bytes
  client_run code tx bytes =
      ap (λ (answers : ℕ → ℕ → AddressRecord → ℕ × AddressRecord). run_over (environment_around (context_of (context_for tx (Client client))) answers) code bytes) own_answers

  -- what is planned, over the client's allocation
  abbrev planned : Option Addr → Option (List ℕ) → Option Allocation → Option Sending
  planned destination window own = window >>= λ bytes. own >>= λ x. destination >>= λ peer. to_peer x (peer, bytes)

  abbrev Passes : Option Confinement → Option Sending → Type 0
  Passes confinement sent = let_through confinement (Client client) a sent ≡ let_through confinement (Client client) b sent

  passes_nothing : (confinement : Option Confinement) → Passes confinement None
  passes_nothing None = refl
  passes_nothing (Some confinement) = refl

  passes_own : (confinement : Option Confinement) (x : Allocation) → allocation_of client a ≡ Some x → (peer : Addr) (bytes : List ℕ) (family : Bool)
      → Passes confinement (guard family >>= λ _. Some (ToPeer x.slot peer bytes))
  passes_own None x own peer bytes family = refl
  passes_own (Some confinement) x own peer bytes false = refl
  passes_own (Some confinement) x own peer bytes true =
      ap (λ (o : Option Held). guard (holds_as confinement.aliases.items (λ name. is_some (option_and_then (permission_of name) o) || is_some (option_and_then (bound_channel name) o)) peer)
      >>= λ _. Some (ToPeer x.slot peer bytes)) (held_alike client a b are_a are_b alike x own)

  passes_planned : (confinement : Option Confinement) (destination : Option Addr) (window : Option (List ℕ)) (own : Option Allocation) → allocation_of client a ≡ own
      → Passes confinement (planned destination window own)
  passes_planned confinement destination None own is = passes_nothing confinement
  passes_planned confinement destination (Some bytes) None is = passes_nothing confinement
  passes_planned confinement None (Some bytes) (Some x) is = passes_nothing confinement
  passes_planned confinement (Some peer) (Some bytes) (Some x) is = passes_own confinement x is peer bytes (is_of_family x.family peer)

  planned_alike : (confinement : Option Confinement) (destination : Option Addr) (window : Option (List ℕ))
      → let_through confinement (Client client) a (planned_sending (Client client) a destination window)
      ≡ let_through confinement (Client client) b (planned_sending (Client client) b destination window)
  planned_alike confinement destination window =
      passes_planned confinement destination window (allocation_of client a) refl
      ∙ ap (λ (o : Option Allocation). let_through confinement (Client client) b (planned destination window o)) own_allocation

  client_sent : (confinement : Option Confinement) (verdict : ℕ) (s : State)
      → let_through confinement (Client client) a (sent_by (Client client) a verdict s) ≡ let_through confinement (Client client) b (sent_by (Client client) b verdict s)
  client_sent confinement verdict s = of (verdict == SENDS) where
    of : (sends : Bool) → let_through confinement (Client client) a (if sends then planned_sending (Client client) a (destination_in s) (window_in s) else None)
        ≡ let_through confinement (Client client) b (if sends then planned_sending (Client client) b (destination_in s) (window_in s) else None)
    of true = planned_alike confinement (destination_in s) (window_in s)
    of false = passes_nothing confinement

module _ (confinement : Option Confinement) (config : Config) (now : ℕ) (client : Addr) (a b : Rows) (are_a : AreWellFormed a) (are_b : AreWellFormed b)
    (alike : LookAlike config.user_slots (Client client) (rows_at now a) (rows_at now b)) where
  abbrev Alike : SystemReply → SystemReply → Type 0
  Alike x y = RepliesAlike client now a x y

  abbrev sends : Rows → Option Sending → SystemReply
  sends rows sent = reply_of_relaying rows (let_through confinement (Client client) (rows_at now rows) sent)

  abbrev passes : Rows → Addr → List ℕ → SystemReply
  passes rows client bytes = from_client config now client rows bytes

  sent_alike : (x y : Option Sending) → let_through confinement (Client client) (rows_at now a) x ≡ let_through confinement (Client client) (rows_at now b) y → Alike (sends a x) (sends b y)
  sent_alike x y same = unchanged-alike config now client a b are_a are_b alike _ _ same

  nothing_alike : Alike (sends a None) (sends b None)
  nothing_alike = sent_alike None None (of confinement) where
    of : (c : Option Confinement) → let_through c (Client client) (rows_at now a) None ≡ let_through c (Client client) (rows_at now b) None
    of None = refl
    of (Some c) = refl

  verdict_alike : (size : ℕ) (r : Run) (verdict : ℕ)
      → Alike (of_verdict (passes a) (sends a) (Client client) (rows_at now a) size r verdict) (of_verdict (passes b) (sends b) (Client client) (rows_at now b) size r verdict)
  verdict_alike size r verdict = of (verdict == PASSES) where
    of : (passing : Bool) → Alike
        (if passing then from_client config now client a (datagram_in size r.state) else sends a (sent_by (Client client) (rows_at now a) verdict r.state))
        (if passing then from_client config now client b (datagram_in size r.state) else sends b (sent_by (Client client) (rows_at now b) verdict r.state))
    of true = from_client-alike config now client a b are_a are_b alike (datagram_in size r.state)
    of false = sent_alike _ _ (client_sent client (rows_at now a) (rows_at now b) (rows_at-well_formed now a are_a) (rows_at-well_formed now b are_b) alike confinement verdict r.state)

  ending_alike : (size : ℕ) (r : Run) (ending : Ending)
      → Alike (of_ending (passes a) (sends a) (Client client) (rows_at now a) size r ending) (of_ending (passes b) (sends b) (Client client) (rows_at now b) size r ending)
  ending_alike size r (runs.Exited verdict) = verdict_alike size r verdict
  ending_alike size r (runs.Stuck reason slot) = nothing_alike
  ending_alike size r runs.Running = nothing_alike

  client_alike : (code : List Insn) (tx bytes : List ℕ)
      → Alike (by_run confinement config now (Client client) a (length bytes) (run_for code tx (Client client) (rows_at now a) bytes))
      (by_run confinement config now (Client client) b (length bytes) (run_for code tx (Client client) (rows_at now b) bytes))
  client_alike code tx bytes =
      subst (λ (r : Run). Alike (by_run confinement config now (Client client) a (length bytes) (run_for code tx (Client client) (rows_at now a) bytes))
      (by_run confinement config now (Client client) b (length bytes) r))
      (client_run client (rows_at now a) (rows_at now b) (rows_at-well_formed now a are_a) (rows_at-well_formed now b are_b) alike code tx bytes)
      (of (run_for code tx (Client client) (rows_at now a) bytes)) where
        of : (r : Run) → Alike (by_run confinement config now (Client client) a (length bytes) r) (by_run confinement config now (Client client) b (length bytes) r)
        of r = ending_alike (length bytes) r r.ending

-- ---- a peer's datagram

module _ (slot : ℕ) (peer : Addr) (a b : Rows) (same : held_in a slot ≡ held_in b slot) where
  peer_run : (code : List Insn) (tx bytes : List ℕ) → run_for code tx (Peer slot peer) a bytes ≡ run_for code tx (Peer slot peer) b bytes
  peer_run code tx bytes =
      ap (λ (o : Option Held). run_over (environment_around (context_of (context_for tx (Peer slot peer))) (held_answer o)) code bytes) same

  peer_sent : (verdict : ℕ) (s : State) → sent_by (Peer slot peer) a verdict s ≡ sent_by (Peer slot peer) b verdict s
  peer_sent verdict s = ap (λ (o : Option Held). if verdict == SENDS
      then (window_in s >>= λ bytes. option_map (λ x. x.client) (option_map (λ held. held.allocation) o) >>= λ client. Some (ToClient client bytes)) else None) same

  peer_through : (confinement : Option Confinement) (x y : Option Sending) → x ≡ y → let_through confinement (Peer slot peer) a x ≡ let_through confinement (Peer slot peer) b y
  peer_through None x y equal = equal
  peer_through (Some confinement) x y equal =
      ap (let_through (Some confinement) (Peer slot peer) a) equal
      ∙ ap (λ (o : Option Held). y >>= λ sending. guard (holds_as confinement.aliases.items (λ name. is_some (option_and_then (permission_of name) o)) peer) >>= λ _. Some sending) same

module _ (confinement : Option Confinement) (config : Config) (now : ℕ) (slot : ℕ) (peer : Addr) (a b : Rows)
    (alike : LookAlike config.user_slots (Peer slot peer) (rows_at now a) (rows_at now b)) where
  at_slot : held_in (rows_at now a) slot ≡ held_in (rows_at now b) slot
  at_slot = peer_slot-alike slot peer (rows_at now a) (rows_at now b) alike

  abbrev peer_sends : Rows → Option Sending → SystemReply
  peer_sends rows sent = reply_of_relaying rows (let_through confinement (Peer slot peer) (rows_at now rows) sent)

  peer_sent_alike : (x y : Option Sending) → x ≡ y → RepliesUnchanged a b (peer_sends a x) (peer_sends b y)
  peer_sent_alike x y equal = record { answer = peer_through slot peer (rows_at now a) (rows_at now b) at_slot confinement x y equal; kept_a = refl; kept_b = refl }

  peer_verdict_alike : (size : ℕ) (r : Run) (verdict : ℕ) → RepliesUnchanged a b
      (of_verdict (λ client bytes. from_client config now client a bytes) (peer_sends a) (Peer slot peer) (rows_at now a) size r verdict)
      (of_verdict (λ client bytes. from_client config now client b bytes) (peer_sends b) (Peer slot peer) (rows_at now b) size r verdict)
  peer_verdict_alike size r verdict = of (verdict == PASSES) where
    of : (passing : Bool) → RepliesUnchanged a b (if passing then peer_sends a None else peer_sends a (sent_by (Peer slot peer) (rows_at now a) verdict r.state))
        (if passing then peer_sends b None else peer_sends b (sent_by (Peer slot peer) (rows_at now b) verdict r.state))
    of true = peer_sent_alike None None refl
    of false = peer_sent_alike _ _ (peer_sent slot peer (rows_at now a) (rows_at now b) at_slot verdict r.state)

  peer_ending_alike : (size : ℕ) (r : Run) (ending : Ending) → RepliesUnchanged a b
      (of_ending (λ client bytes. from_client config now client a bytes) (peer_sends a) (Peer slot peer) (rows_at now a) size r ending)
      (of_ending (λ client bytes. from_client config now client b bytes) (peer_sends b) (Peer slot peer) (rows_at now b) size r ending)
  peer_ending_alike size r (runs.Exited verdict) = peer_verdict_alike size r verdict
  peer_ending_alike size r (runs.Stuck reason slot) = peer_sent_alike None None refl
  peer_ending_alike size r runs.Running = peer_sent_alike None None refl

  abbrev replied : Rows → Bool → ℕ → Run → SystemReply
  replied rows there size r = if there then by_run confinement config now (Peer slot peer) rows size r else no_answer rows

  replied_alike : (there : Bool) (size : ℕ) (r : Run) → RepliesUnchanged a b (replied a there size r) (replied b there size r)
  replied_alike true size r = peer_ending_alike size r r.ending
  replied_alike false size r = record { answer = refl; kept_a = refl; kept_b = refl }

  -- the slot is there in both tables
  there_alike : nat_lt slot (length a.slots) ≡ nat_lt slot (length b.slots)
  there_alike = ap (nat_lt slot) (sym (length-map a.slots (option_and_then (held_at (moment_of a.moment now)))) ∙ alike.count ∙ length-map b.slots (option_and_then (held_at (moment_of b.moment now))))

  peer_alike : (code : List Insn) (tx bytes : List ℕ) → RepliesUnchanged a b
      (replied a (nat_lt slot (length a.slots)) (length bytes) (run_for code tx (Peer slot peer) (rows_at now a) bytes))
      (replied b (nat_lt slot (length b.slots)) (length bytes) (run_for code tx (Peer slot peer) (rows_at now b) bytes))
  peer_alike code tx bytes =
      subst (λ (there : Bool). RepliesUnchanged a b (replied a (nat_lt slot (length a.slots)) (length bytes) (run_for code tx (Peer slot peer) (rows_at now a) bytes))
      (replied b there (length bytes) (run_for code tx (Peer slot peer) (rows_at now b) bytes))) there_alike
      (subst (λ (r : Run). RepliesUnchanged a b (replied a (nat_lt slot (length a.slots)) (length bytes) (run_for code tx (Peer slot peer) (rows_at now a) bytes))
      (replied b (nat_lt slot (length a.slots)) (length bytes) r)) (peer_run slot peer (rows_at now a) (rows_at now b) at_slot code tx bytes)
      (replied_alike (nat_lt slot (length a.slots)) (length bytes) (run_for code tx (Peer slot peer) (rows_at now a) bytes)))

-- ---- the system

pub programs_keep_users_apart : (programs : Programs) → KeepsUsersApart (by_programs programs)
programs_keep_users_apart programs config now tx (Client client) bytes =
    acts_on_own (by_programs programs) config now tx client bytes (λ a b are_a are_b alike.
    client_alike programs.confinement config now client a b are_a are_b alike programs.client tx bytes)
programs_keep_users_apart programs config now tx (Peer slot peer) bytes =
    acts_unchanged (by_programs programs) config now tx slot peer bytes (λ a b alike.
    peer_alike programs.confinement config now slot peer a b alike programs.peer tx bytes)
