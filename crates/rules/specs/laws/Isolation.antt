-- Interface. The system by rules keeps users apart.
use Rattle.std.specs.Prelude.{◌≡◌, ℕ, List, Bool, true, false, ◌==◌, is_some, Option, None, Some, Result, Ok, Err, option_map, refl, if◌then◌else◌}
use Rattle.std.specs.Option.{option_and_then}
use Rattle.std.proofs.Common.{sym, ap, subst, ◌∙◌}
use Rattle.stun.specs.Datagrams.{message_in}
use Rattle.stun.specs.Messages.{Parts, parts_bytes}
use Rattle.stun.specs.declared.registry.ErrorCode.{ErrorCode}
use Rattle.addresses.specs.declared.address.Addr.{Addr}
use Rattle.credentials.specs.Checks.{user_in}
use Rattle.credentials.specs.TimeLimited.{Account}
use Rattle.credentials.specs.declared.checking.AuthError.{AuthError}
use Rattle.control.specs.Control.{Decision, binding, decision, rows_after}
use Rattle.control.specs.Replies.{reply_to}
use Rattle.control.specs.Responding.{check_by, check_of, key_for}
use Rattle.control.specs.declared.config.Config.{Config}
use Rattle.control.specs.declared.reply.Grant.{Grant}
use Rattle.control.specs.declared.request.Request.{Request}
use Rattle.control.specs.declared.request.Request.TheVariants as request
use Rattle.tables.specs.LookUps.{allocation_of, bound_channel, bound_peer, held_in, permission_of}
use Rattle.tables.specs.Rows.{Rows, rows_at}
use Rattle.tables.specs.WellFormed.{AreWellFormed}
use Rattle.tables.specs.laws.WellFormed.{rows_at-well_formed}
use Rattle.tables.specs.declared.allocation.Allocation.{Allocation}
use Rattle.tables.specs.declared.held.Held.{Held}
use Rattle.events.specs.Events.{Sending, ToClient}
use Rattle.events.specs.declared.meta.Source.{Source}
use Rattle.events.specs.declared.meta.Source.TheVariants.{Client, Peer}
use Rattle.basics.specs.Options.{◌>>=◌}
use Rattle.rules.specs.ByRules.{by_rules, control, from_client, message, reply_to_request, reply_with, request_of}
use Rattle.rules.specs.FastPart.{begins_as_stun}
use Rattle.rules.specs.Isolation.{ActsOnItsOwn, HaveSameCounts, KeepsUsersApart, LookAlike, of_client, of_other, own_rows}
use Rattle.rules.specs.Rules.{channel_data, channel_data_from, peer_data, peer_data_to, send, send_from, send_indication, to_peer}
use Rattle.rules.specs.Systems.{System, SystemReply, reply_of_relaying}
use Rattle.rules.specs.laws.OwnChanges.{Both, IsGivenAlike, LeaveOwn, binding-alike, decision-alike}
use Rattle.rules.specs.laws.OwnRows.{allocation_of-alike, only, only-changed, others_live, own-alike, own_live, own_slot, rows_at-again}

-- ---- relaying

-- what follows from a client's allocation
same_after : {A B : Type 0} (o q : Option A) → o ≡ q → (f g : A → Option B) → ((x : A) → o ≡ Some x → f x ≡ g x) → (o >>= f) ≡ (q >>= g)
same_after o q same f g each = of o refl ∙ ap (λ (q : Option _). q >>= g) same where
  of : (p : Option _) → o ≡ p → (p >>= f) ≡ (p >>= g)
  of None is = refl
  of (Some x) is = each x is

module _ {quota : Option ℕ} (client : Addr) (a b : Rows) (are_a : AreWellFormed a) (are_b : AreWellFormed b) (alike : LookAlike quota (Client client) a b) where
  pub held_alike : (x : Allocation) → allocation_of client a ≡ Some x → held_in a x.slot ≡ held_in b x.slot
  held_alike x is = let own = own_slot client a b are_a are_b alike x is in own.in_a ∙ sym own.in_b

  pub channel_data-alike : (datagram : List ℕ) → channel_data_from client a datagram ≡ channel_data_from client b datagram
  channel_data-alike datagram = same_after _ _ (allocation_of-alike client a b alike) _ _ (λ x is.
      ap (λ (o : Option Held). channel_data (λ number. option_and_then (bound_peer number) o) datagram >>= λ pair. to_peer x pair) (held_alike x is))

  pub send-alike : (p : Parts) → send_from client a p ≡ send_from client b p
  send-alike p = same_after _ _ (allocation_of-alike client a b alike) _ _ (λ x is.
      ap (λ (o : Option Held). send (λ to. is_some (option_and_then (permission_of to) o)) p >>= λ pair. to_peer x pair) (held_alike x is))

-- a peer's data depends on what its slot holds
pub peer_data-alike : (slot : ℕ) (peer : Addr) (a b : Rows) (tx content : List ℕ) → held_in a slot ≡ held_in b slot
    → peer_data_to slot peer tx a content ≡ peer_data_to slot peer tx b content
peer_data-alike slot peer a b tx content same =
    ap (λ (o : Option Held). option_map (λ a. a.client) (option_map (λ held. held.allocation) o)
    >>= λ client. option_map (ToClient client) (peer_data (is_some (option_and_then (permission_of peer) o)) (option_and_then (bound_channel peer) o) peer tx content)) same

pub peer_slot-alike : {quota : Option ℕ} (slot : ℕ) (peer : Addr) (a b : Rows) → LookAlike quota (Peer slot peer) a b → held_in a slot ≡ held_in b slot
peer_slot-alike slot peer a b alike = let own = alike.own in cc

-- ---- replies to a client's datagrams

-- the same answer over two tables, and the same own rows afterwards; the rows of others as before
pub record RepliesAlike (client : Addr) (now : ℕ) (before : Rows) (x y : SystemReply) : Type 0 where
  pub answer : x.answer ≡ y.answer
  pub own : only (of_client client) (rows_at now x.rows) ≡ only (of_client client) (rows_at now y.rows)
  pub others : only (of_other client) (rows_at now x.rows) ≡ only (of_other client) (rows_at now before)

module _ (config : Config) (now : ℕ) (client : Addr) (a b : Rows) (are_a : AreWellFormed a) (are_b : AreWellFormed b)
    (alike : LookAlike config.user_slots (Client client) (rows_at now a) (rows_at now b)) where
  abbrev live_a : Rows
  live_a = rows_at now a

  abbrev live_b : Rows
  live_b = rows_at now b

  abbrev Alike : SystemReply → SystemReply → Type 0
  Alike x y = RepliesAlike client now a x y

  -- where no row changes
  pub unchanged-alike : (x y : Option Sending) → x ≡ y → Alike (record { answer = x; rows = a }) (record { answer = y; rows = b })
  unchanged-alike x y same = record { answer = same; own = own-alike client live_a live_b alike; others = refl }

  -- the rows that a decision leaves
  left_own : (o q : Option Rows) → LeaveOwn client live_a o q → only (of_client client) (rows_at now (rows_after a o)) ≡ only (of_client client) (rows_at now (rows_after b q))
  left_own None None leave = own-alike client live_a live_b alike
  left_own None (Some y) leave = absurd leave
  left_own (Some x) None leave = absurd leave
  left_own (Some x) (Some y) leave = only-changed (of_client client) (own_live client) now x y leave.own

  left_others : (o q : Option Rows) → LeaveOwn client live_a o q → only (of_other client) (rows_at now (rows_after a o)) ≡ only (of_other client) live_a
  left_others None None leave = refl
  left_others None (Some y) leave = absurd leave
  left_others (Some x) None leave = absurd leave
  left_others (Some x) (Some y) leave = only-changed (of_other client) (others_live client) now x live_a leave.others ∙ ap (only (of_other client)) (rows_at-again now a)

  decided_alike : (r : Request) (p : Parts) (key : Option (List ℕ)) (d e : Decision) → Both (IsGivenAlike client live_a) d e
      → Alike (reply_with config r client p a (d, key)) (reply_with config r client p b (e, key))
  decided_alike r p key (Ok x) (Ok y) given = record {
    answer = ap (λ (grant : Grant). Some (ToClient client (parts_bytes (reply_to config r client p key (Ok grant))))) given.0;
    own = left_own x.1 y.1 given.1;
    others = left_others x.1 y.1 given.1;
  }
  decided_alike r p key (Ok x) (Err refused) given = absurd given
  decided_alike r p key (Err refused) (Ok y) given = absurd given
  decided_alike r p key (Err refused) (Err other) given =
      unchanged-alike _ _ (ap (λ (e : ErrorCode). Some (ToClient client (parts_bytes (reply_to config r client p key (Err e))))) given)

  -- the credentials are checked alike
  checked_alike : (p : Parts) → check_of config now client p a ≡ check_of config now client p b
  checked_alike p =
      ap (λ (o : Option Allocation). check_by config now (option_map (λ allocation. allocation.user) o) p) (allocation_of-alike client live_a live_b alike)

  request_alike : (p : Parts) (o : Option Request) → Alike (reply_to_request config now client p a o) (reply_to_request config now client p b o)
  request_alike p None = unchanged-alike None None refl
  request_alike p (Some request.Binding) = decided_alike request.Binding p None (binding p) (binding p) (binding-alike client live_a p)
  request_alike p (Some (request.Turn r)) =
      subst (λ (checked : Result Account AuthError). Alike
      (reply_with config (request.Turn r) client p a (decision r (user_in (check_of config now client p a)) config client p live_a, key_for (check_of config now client p a)))
      (reply_with config (request.Turn r) client p b (decision r (user_in checked) config client p live_b, key_for checked)))
      (checked_alike p)
      (of (check_of config now client p a)) where
        of : (checked : Result Account AuthError) → Alike
            (reply_with config (request.Turn r) client p a (decision r (user_in checked) config client p live_a, key_for checked))
            (reply_with config (request.Turn r) client p b (decision r (user_in checked) config client p live_b, key_for checked))
        of checked = decided_alike (request.Turn r) p (key_for checked) _ _
            (decision-alike config client live_a live_b (rows_at-well_formed now a are_a) (rows_at-well_formed now b are_b) alike r (user_in checked) p)

  kind_alike : (p : Parts) (sends : Bool) → Alike (if sends then reply_of_relaying a (send_from client live_a p) else control config now client p a)
      (if sends then reply_of_relaying b (send_from client live_b p) else control config now client p b)
  kind_alike p true = unchanged-alike _ _ (send-alike client live_a live_b (rows_at-well_formed now a are_a) (rows_at-well_formed now b are_b) alike p)
  kind_alike p false = request_alike p (request_of p.kind)

  message_alike : (o : Option Parts) → Alike (message config now client a o) (message config now client b o)
  message_alike None = unchanged-alike None None refl
  message_alike (Some p) = kind_alike p (p.kind == send_indication)

  pub from_client-alike : (bytes : List ℕ) → RepliesAlike client now a (from_client config now client a bytes) (from_client config now client b bytes)
  from_client-alike bytes = of (begins_as_stun bytes) where
    of : (stun : Bool) → Alike (if stun then message config now client a (message_in bytes) else reply_of_relaying a (channel_data_from client live_a bytes))
        (if stun then message config now client b (message_in bytes) else reply_of_relaying b (channel_data_from client live_b bytes))
    of true = message_alike (message_in bytes)
    of false = unchanged-alike _ _ (channel_data-alike client live_a live_b (rows_at-well_formed now a are_a) (rows_at-well_formed now b are_b) alike bytes)

-- ---- the systems

-- a table looks like itself
same_counts : (quota : Option ℕ) (from : Source) (rows : Rows) → HaveSameCounts quota from rows rows
same_counts None from rows = tt
same_counts (Some quota) (Client client) rows = λ owner. refl
same_counts (Some quota) (Peer slot peer) rows = tt

pub looks_like_itself : (quota : Option ℕ) (from : Source) (rows : Rows) → LookAlike quota from rows rows
looks_like_itself quota from rows = record { moment = refl; count = refl; own = refl; next = refl; counts = same_counts quota from rows }

-- a client's datagram, where replies over tables that look alike are alike
pub acts_on_own : (system : System) (config : Config) (now : ℕ) (tx : List ℕ) (client : Addr) (bytes : List ℕ)
    → ((a b : Rows) → AreWellFormed a → AreWellFormed b → LookAlike config.user_slots (Client client) (rows_at now a) (rows_at now b)
    → RepliesAlike client now a (system config now tx (Client client) a bytes) (system config now tx (Client client) b bytes))
    → ActsOnItsOwn system config now tx (Client client) bytes
acts_on_own system config now tx client bytes each = record {
  answer = λ a b are_a are_b alike. (each a b are_a are_b alike).answer;
  own = λ a b are_a are_b alike. ap (λ (rows : Rows). rows.slots) (each a b are_a are_b alike).own;
  others = λ rows are. ap (λ (rows : Rows). rows.slots) (sym (each rows rows are are (looks_like_itself config.user_slots (Client client) (rows_at now rows))).others);
}

-- the same answer over two tables, neither of which changes
pub record RepliesUnchanged (a b : Rows) (x y : SystemReply) : Type 0 where
  pub answer : x.answer ≡ y.answer
  pub kept_a : x.rows ≡ a
  pub kept_b : y.rows ≡ b

-- a peer's datagram, which changes nothing
pub acts_unchanged : (system : System) (config : Config) (now : ℕ) (tx : List ℕ) (slot : ℕ) (peer : Addr) (bytes : List ℕ)
    → ((a b : Rows) → LookAlike config.user_slots (Peer slot peer) (rows_at now a) (rows_at now b)
    → RepliesUnchanged a b (system config now tx (Peer slot peer) a bytes) (system config now tx (Peer slot peer) b bytes))
    → ActsOnItsOwn system config now tx (Peer slot peer) bytes
acts_unchanged system config now tx slot peer bytes each = record {
  answer = λ a b are_a are_b alike. (each a b alike).answer;
  own = λ a b are_a are_b alike. ap own_at (each a b alike).kept_a ∙ alike.own ∙ sym (ap own_at (each a b alike).kept_b);
  others = λ rows are. ap (λ (left : Rows). (rows_at now left).slots) (sym (each rows rows (looks_like_itself config.user_slots (Peer slot peer) (rows_at now rows))).kept_a);
} where
  own_at : Rows → List (Option Held)
  own_at rows = own_rows (Peer slot peer) (rows_at now rows)

pub rules_keep_users_apart : KeepsUsersApart by_rules
rules_keep_users_apart config now tx (Client client) bytes =
    acts_on_own by_rules config now tx client bytes (λ a b are_a are_b alike. from_client-alike config now client a b are_a are_b alike bytes)
rules_keep_users_apart config now tx (Peer slot peer) bytes =
    acts_unchanged by_rules config now tx slot peer bytes (λ a b alike. record {
      answer = peer_data-alike slot peer (rows_at now a) (rows_at now b) tx bytes (peer_slot-alike slot peer (rows_at now a) (rows_at now b) alike);
      kept_a = refl;
      kept_b = refl;
    })
