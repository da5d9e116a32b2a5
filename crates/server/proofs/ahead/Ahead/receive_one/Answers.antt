use Rattle.std.proofs.Common.{◌≡◌, ◌≤◌, ◌+◌, Ok, Some, None, Err, true, false, is_ok, length, take, drop, [], ◌∷◌, ◌++◌, inr, refl, arith, rules, ap, sym, subst, ◌∙◌}
use Rattle.std.proofs.lemmas.Bool.{cond-true}
use Rattle.std.proofs.lemmas.List.{with_items_is}
use Rattle.semantics.specs.declared.limits.TheConstants.{MAX_DATAGRAM}
use Rattle.server.specs.Ahead.{Nothing, Fault}
use Rattle.server.specs.Filling.{waiting_in, stored_datagram, AreWithin}
use Rattle.server.specs.declared.ahead.Stored.{Stored}
use Rattle.server.specs.declared.ahead.BatchEnd.TheVariants as then
use Rattle.server.proofs.Waits.{within_more, within_push, one_more, one_ends, received, datagram_waits, long_waits, one_more_at_most}
use Rattle.server.proofs.ahead.Ahead.receive_one.Goals as goal
use Rattle.server.proofs.ahead.Ahead.receive_one.Goals.{in_default-receive_at-via-in-Ok-Some+else-n-le-MAX_DATAGRAM, in_default-receive_at-via-in_default}

pub invariant_of-self : goal.invariant_of-self
invariant_of-self g c =
    let s : Stored = record { start = c.self.inside.end; n = c.in-Ok-Some.n; from = c.in-Ok-Some.from } in
    let same : length c.receive_at.new.bytes ≡ c.self.inside.bytes.len = c.receive_at.auto.bytes ∙ c.as_mut_slice.ensures.len in
    let is = ap length (with_items_is c.self.inside.bytes c.receive_at.new.bytes same) in
    let ok : is_ok c.push.result ≡ true = c.push.ensures.succeeds (omega (arith, c.if-len-ge-TURNS.false, c.len.ensures, c.self.invariant.few)) in
    let pushed : c.push.new.self.items ≡ c.self.inside.datagrams.items ++ s ∷ [] = c.push.ensures.items ∙ cond-true (is_ok c.push.result) (c.self.inside.datagrams.items ++ s ∷ []) c.self.inside.datagrams.items ok in
    record {
      within = subst (AreWithin (c.self.inside.end + c.in-Ok-Some.n)) (sym pushed)
          (within_push (c.self.inside.end + c.in-Ok-Some.n) c.self.inside.datagrams.items s
          (within_more c.self.inside.end (c.self.inside.end + c.in-Ok-Some.n) c.self.inside.datagrams.items (omega arith) c.self.invariant.within) (omega arith));
      inside = omega (arith, is, same, c.if-len-start-lt-MAX_DATAGRAM.false, c.len-else-len-ge-TURNS.ensures, c.if-n-le-MAX_DATAGRAM.true, c.self.invariant.inside, c.self.inside.bytes.ok.0);
      handed = omega (arith, c.self.invariant.handed, c.push.ensures.lower_bound, c.push.new.self.ok.0, c.self.inside.datagrams.ok.0);
      few = omega (arith, c.self.invariant.few, c.push.ensures.capacity);
    }

pub returns-in-Ok-Some-clause-one : goal.returns-in-Ok-Some-clause-one
returns-in-Ok-Some-clause-one g c =
    let s : Stored = record { start = c.self.inside.end; n = c.in-Ok-Some.n; from = c.in-Ok-Some.from } in
    let same : length c.receive_at.new.bytes ≡ c.self.inside.bytes.len = c.receive_at.auto.bytes ∙ c.as_mut_slice.ensures.len in
    let is = with_items_is c.self.inside.bytes c.receive_at.new.bytes same in
    let front : take c.self.inside.end c.receive_at.new.bytes ≡ take c.self.inside.end c.self.inside.bytes.items = c.receive_at.ensures.front ∙ ap (take c.self.inside.end) c.as_mut_slice.ensures.value in
    let ok : is_ok c.push.result ≡ true = c.push.ensures.succeeds (omega (arith, c.if-len-ge-TURNS.false, c.len.ensures, c.self.invariant.few)) in
    let pushed : c.push.new.self.items ≡ c.self.inside.datagrams.items ++ s ∷ [] = c.push.ensures.items ∙ cond-true (is_ok c.push.result) (c.self.inside.datagrams.items ++ s ∷ []) c.self.inside.datagrams.items ok in
    let answer : c.receive_at.result ≡ Ok (Some (c.in-Ok-Some.n, c.in-Ok-Some.from)) = search rules in
    inr (received c.args.endpoint (g.L.Link.calls c.args.link.now) (g.L.Link.calls c.receive_at.new.link) c.args.self.now c.self.inside.bytes.items c.receive_at.new.bytes c.self.inside.datagrams.items c.self.inside.count c.self.inside.end
    (ap (waiting_in c.self.inside.bytes.items c.self.inside.datagrams.items c.self.inside.count) (sym c.in-Receive.is) ∙ c.self.view_is) front c.self.invariant.within c.self.invariant.handed
    (omega (arith, same, c.if-len-start-lt-MAX_DATAGRAM.false, c.len-else-len-ge-TURNS.ensures, c.self.invariant.inside, c.self.inside.bytes.ok.0)) (Ok (Some (c.in-Ok-Some.n, c.in-Ok-Some.from))) c.receive_at.result c.receive_at.ensures.reported answer _ true
    (stored_datagram c.receive_at.new.bytes s) (datagram_waits c.receive_at.new.bytes c.self.inside.end c.in-Ok-Some.n c.in-Ok-Some.from c.if-n-le-MAX_DATAGRAM.true) refl
    (ap (λ b. waiting_in b c.push.new.self.items c.self.inside.count c.self.inside.then) is
    ∙ ap (λ l. waiting_in c.receive_at.new.bytes l c.self.inside.count c.self.inside.then) pushed
    ∙ ap (waiting_in c.receive_at.new.bytes (c.self.inside.datagrams.items ++ s ∷ []) c.self.inside.count) c.in-Receive.is
    ∙ one_more c.self.inside.end c.self.inside.bytes.items c.receive_at.new.bytes c.self.inside.datagrams.items c.self.inside.count s front c.self.invariant.within c.self.invariant.handed))

pub returns-in-Ok-None-clause-one : goal.returns-in-Ok-None-clause-one
returns-in-Ok-None-clause-one g c =
    let same : length c.receive_at.new.bytes ≡ c.self.inside.bytes.len = c.receive_at.auto.bytes ∙ c.as_mut_slice.ensures.len in
    let is = with_items_is c.self.inside.bytes c.receive_at.new.bytes same in
    let front : take c.self.inside.end c.receive_at.new.bytes ≡ take c.self.inside.end c.self.inside.bytes.items = c.receive_at.ensures.front ∙ ap (take c.self.inside.end) c.as_mut_slice.ensures.value in
    let answer : c.receive_at.result ≡ Ok None = search rules in
    inr (received c.args.endpoint (g.L.Link.calls c.args.link.now) (g.L.Link.calls c.receive_at.new.link) c.args.self.now c.self.inside.bytes.items c.receive_at.new.bytes c.self.inside.datagrams.items c.self.inside.count c.self.inside.end
    (ap (waiting_in c.self.inside.bytes.items c.self.inside.datagrams.items c.self.inside.count) (sym c.in-Receive.is) ∙ c.self.view_is) front c.self.invariant.within c.self.invariant.handed
    (omega (arith, same, c.if-len-start-lt-MAX_DATAGRAM.false, c.len-else-len-ge-TURNS.ensures, c.self.invariant.inside, c.self.inside.bytes.ok.0)) (Ok None) c.receive_at.result c.receive_at.ensures.reported answer _ false Nothing refl refl
    (ap (λ b. waiting_in b c.self.inside.datagrams.items c.self.inside.count then.Nothing) is ∙ one_ends c.self.inside.end c.self.inside.bytes.items c.receive_at.new.bytes c.self.inside.datagrams.items c.self.inside.count then.Nothing Nothing front c.self.invariant.within refl))

pub returns-in_default-receive_at-clause-one : goal.returns-in_default-receive_at-clause-one
returns-in_default-receive_at-clause-one g c =
    let same : length c.receive_at.new.bytes ≡ c.self.inside.bytes.len = c.receive_at.auto.bytes ∙ c.as_mut_slice.ensures.len in
    let is = with_items_is c.self.inside.bytes c.receive_at.new.bytes same in
    let front : take c.self.inside.end c.receive_at.new.bytes ≡ take c.self.inside.end c.self.inside.bytes.items = c.receive_at.ensures.front ∙ ap (take c.self.inside.end) c.as_mut_slice.ensures.value in
    let long : c.self.inside.end + MAX_DATAGRAM ≤ length c.receive_at.new.bytes = omega (arith, same, c.if-len-start-lt-MAX_DATAGRAM.false, c.len-else-len-ge-TURNS.ensures, c.self.invariant.inside, c.self.inside.bytes.ok.0) in
    let now =
    ap (λ b. waiting_in b c.self.inside.datagrams.items c.self.inside.count then.Fault) is
    ∙ one_ends c.self.inside.end c.self.inside.bytes.items c.receive_at.new.bytes c.self.inside.datagrams.items c.self.inside.count then.Fault Fault front c.self.invariant.within refl in
    elim c.in_default-receive_at.branch [
      | in_default-receive_at-via-in-Ok-Some+else-n-le-MAX_DATAGRAM w ↦
          inr (received c.args.endpoint (g.L.Link.calls c.args.link.now) (g.L.Link.calls c.receive_at.new.link) c.args.self.now c.self.inside.bytes.items c.receive_at.new.bytes c.self.inside.datagrams.items c.self.inside.count c.self.inside.end
          (ap (waiting_in c.self.inside.bytes.items c.self.inside.datagrams.items c.self.inside.count) (sym c.in-Receive.is) ∙ c.self.view_is) front c.self.invariant.within c.self.invariant.handed long
          (Ok (Some (w.in-Ok-Some.n, w.in-Ok-Some.from))) c.receive_at.result c.receive_at.ensures.reported (w.in-Ok-Some.is ∙ ap Ok w.in-Ok-Some.field-0-is) _ false Fault (long_waits (take MAX_DATAGRAM (drop c.self.inside.end c.receive_at.new.bytes)) w.in-Ok-Some.n w.in-Ok-Some.from w.if-n-le-MAX_DATAGRAM.false) refl now)
      | in_default-receive_at-via-in_default w ↦
          inr (received c.args.endpoint (g.L.Link.calls c.args.link.now) (g.L.Link.calls c.receive_at.new.link) c.args.self.now c.self.inside.bytes.items c.receive_at.new.bytes c.self.inside.datagrams.items c.self.inside.count c.self.inside.end
          (ap (waiting_in c.self.inside.bytes.items c.self.inside.datagrams.items c.self.inside.count) (sym c.in-Receive.is) ∙ c.self.view_is) front c.self.invariant.within c.self.invariant.handed long
          (Err w.in_default-receive_at.field-0) c.receive_at.result c.receive_at.ensures.reported w.in_default-receive_at.is _ false Fault refl refl now)
    ]

pub returns-in-Ok-Some-clause-more : goal.returns-in-Ok-Some-clause-more
returns-in-Ok-Some-clause-more g c =
    one_more_at_most c.args.endpoint (g.L.Link.calls c.args.link.now) (g.L.Link.calls c.receive_at.new.link) c.args.self.now _ true (returns-in-Ok-Some-clause-one g c)

pub returns-in-Ok-None-clause-more : goal.returns-in-Ok-None-clause-more
returns-in-Ok-None-clause-more g c =
    one_more_at_most c.args.endpoint (g.L.Link.calls c.args.link.now) (g.L.Link.calls c.receive_at.new.link) c.args.self.now _ false (returns-in-Ok-None-clause-one g c)

pub returns-in_default-receive_at-clause-more : goal.returns-in_default-receive_at-clause-more
returns-in_default-receive_at-clause-more g c =
    one_more_at_most c.args.endpoint (g.L.Link.calls c.args.link.now) (g.L.Link.calls c.receive_at.new.link) c.args.self.now _ false (returns-in_default-receive_at-clause-one g c)
