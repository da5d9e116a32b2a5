-- `Builder::start` meets its contract, by hand: the checker makes no proof of what the caller's buffer ends as where the answer holds the builder. A walk of the MIR:
-- the reference goes to `with_header`, and the answer holds it under the name that it had; in a buffer that is too short it is given up at the value that it had.
use Rattle.std.proofs.Common.{◌≡◌, ℕ, ◌≤◌, ◌<◌, List, [], ◌∷◌, length, refl, sym, ap, subst, w8, w16, MutBor}
use Rattle.std.proofs.raw_atomic.Walks.{proved}
use Rattle.std.specs.Borrow.{RestsIfErr}
use Rattle.std.specs.Prelude.{IfOk, OnErr, ⊤}
use Rattle.std.specs.declared.result.Result.TheVariants.{Ok, Err}
use Rattle.std.specs.contracts.result.Result as R
use base.Fml.{Fml, GName, ftrue, flft, fobs, fres}
use base.Logic.{id⊢, ent, emp}
use base.Stored.{coded_list}
use borrow.Follows.Kept.{follows_itself}
use contract.Lifetimes.{Lfts}
use contract.Monad.{fact, fact_i}
use contract.Running.{tables}
use denote.Array.{Array, array_vals, Array-Tells, Array-Typed}
use denote.Builtin.{u8, u16, ArrayOf}
use denote.Enum.Declared.{shape}
use denote.Enum.Enum.{form_of, in_a_row}
use denote.Enum.Row.{tagged_with}
use denote.Exit.{yes, no}
use denote.Follow.{follows, follows_by, such_by}
use denote.FollowSlice.{heres_id}
use denote.Laws.{shows}
use denote.Plain.{uint_vals, uint_Tells, uint_Lawful}
use denote.RattleType.{RattleType, Valss, owns}
use denote.Shadow.{makes_shadow}
use denote.Signature.{plain, named_lft, types_at}
use denote.Slice.{mut_slice_vals, mut_slice_Tells}
use denote.Steps.{nothing, heard, peeks, only}
use denote.Triple.Call.{calls_at}
use denote.Triple.Clauses.{Lasts, lasts}
use denote.Triple.Entry.{on_entry}
use denote.Triple.Spec.{triple_of}
use denote.Triple.Table.{framed}
use denote.Triple.Walked.{Stays, walk_of, stay_dropped, Goes-dropped, Goes-spent_slice, ends_at}
use lib.Dec.{lit<, leb→le, nleb→lt}
use mir.Syntax.{named}
use mir.Val.{Val, WT, vstruct, vnil, of_list}
use seplogic.Ra.Ura.{Ura}
use types.ByLocal.{alloc_all, pass_all, free_all, look_at, look_in_at, get, get_in, sets, sets_last, lands_as, env}
use types.Kit.{‵, raw, ◌⊛◌, some, later, prop, at_ret, Sq, ◌$◌, ◌∵◌, !, qed, by, done, move, keep, drop, use0, use1, use2, rewrite, fpack, split, join, fsplit, fjoin, feq_i, pick, await, suffices, frame}
use types.Logic.{Logic, sem}
use types.Match.{live}
use types.Part.{whole, sub, agg}
use types.Run.{enter, of_opd, lit, bin, addr, stop, fld, hop, from, no_more, and_then, first, branches, exec, returns}
use Rattle.stun.specs.Building.{IsBegun}
use Rattle.stun.specs.contracts.building.Builder as B
use Rattle.stun.specs.contracts.building.Builder.start as f
use Rattle.stun.specs.contracts.building.Builder.with_header as g
use Rattle.stun.specs.contracts.refusal.NoRoom as N
use Rattle.stun.proofs.building.Builder.TheLaws.{lowered, lowers, the_row_laws}
use Rattle.stun.proofs.building.Builder.start.Statement.{statement}
use Rattle.stun.proofs.building.Builder.start.Code as code
use Rattle.stun.proofs.building.Builder.with_header.Met.{met}

-- nothing is left of the parameters
abbrev stayed : Stays f.ended.signature.params f.ended.kept
stayed = (stay_dropped _ no, (stay_dropped _ yes, (stay_dropped _ yes, tt)))

module _ (κs : Lfts 1) where
  abbrev Builder : RattleType
  Builder = B.the_row (named_lft 1 0 tt κs)

  abbrev Answer : RattleType
  Answer = R.the_row Builder N.the_row

  -- what the buffer ends as
  abbrev Rests : MutBor (List ℕ) → Answer.Denot → Fml
  Rests buffer answer = RestsIfErr (Array u8 0) buffer (λ b. b.buffer.ghost_name) answer (λ last. last ≡ buffer.now)

-- the machine values of the answers
abbrev refusal : Val
refusal = live 1 (of_list (vstruct vnil ∷ []))

abbrev acceptance : Val → Val
acceptance v = live 0 (of_list (v ∷ []))

module _ {M : Type 1} {𝓤 : Ura M} (𝓛 : Logic 𝓤) (κs : Lfts 1) where
  open 𝓛 use {A}

  refused : ent 𝓤 (emp 𝓤) (sem 𝓛 ((Answer κs).own_val (Err (record {})) (refusal ∷ [])))
  refused = makes_shadow 𝓛 ((Answer κs).own_val (Err (record {})) (refusal ∷ [])) (λ us. (tt, (λ vss. (tt, ((λ uss. (tt, tt)), tt))))) (vstruct vnil ∷ [], (refl, ((vstruct vnil ∷ [], tt), (refl, ((tt, (refl, tt)), tt)))))

  accepted : (b : (Builder κs).Denot) (v : Val) → ent 𝓤 (sem 𝓛 ((Builder κs).own_val b (v ∷ []))) (sem 𝓛 ((Answer κs).own_val (Ok b) (acceptance v ∷ [])))
  accepted b v =
      let T = R.the_type (Builder κs) N.the_row in
      qed 𝓛 (‵ ((Builder κs).own_val b (v ∷ [])) ∷ []) ∵ nothing ! $ move ! (1 ∷ 0 ∷ []) $ fjoin ! $ feq_i ! (List Val) (v ∷ []) (v ∷ []) refl $ fjoin ! $
      fpack ! (Valss (Builder κs ∷ [])) (in_a_row (Builder κs ∷ []) (owns (Builder κs ∷ []) (b, tt)) (v ∷ [])) (v ∷ [], tt) $
      feq_i ! (List Val) (acceptance v ∷ []) (acceptance v ∷ []) refl $ fjoin ! $
      fpack ! (List Val) (tagged_with (form_of (shape T)) (form_of (shape T)).payload (T.to (Ok b)) (acceptance v ∷ [])) (v ∷ []) $ done !

  -- at a refusal it ends as it was
  rests_as_it_was : (buffer : MutBor (List ℕ)) → ent 𝓤 (A.res buffer.ghost_name ((coded_list u8.coded).code buffer.now)) (sem 𝓛 (Rests κs buffer (Err (record {}))))
  unfolding such_by follows_by
  rests_as_it_was buffer =
      qed 𝓛 (‵ (fres buffer.ghost_name ((coded_list u8.coded).code buffer.now)) ∷ []) ∵
      fpack ! ((s : (List ℕ → List ℕ) × List ℕ) × ((w : List ℕ) → ⊤) × (s.1 ≡ buffer.now)) (λ s. fres buffer.ghost_name ((coded_list u8.coded).code s.0.1)) ((λ w. w, buffer.now), λ w. record {}, refl) $ done !

  -- and else as the builder's reference, which has the same name
  rests_as_built : (buffer : MutBor (List ℕ)) (b : (Builder κs).Denot) → b.buffer.ghost_name ≡ buffer.ghost_name → ent 𝓤 (emp 𝓤) (sem 𝓛 (Rests κs buffer (Ok b)))
  unfolding such_by follows_by
  rests_as_built buffer b same =
      let γ = buffer.ghost_name in let Follows : GName → Fml = λ n. follows (Array u8 0) (Array u8 0) γ n (λ w. w) in
      qed 𝓛 [] ∵ use0 𝓛 (‵ (Follows γ)) (follows_itself 𝓛 (Array u8 0) γ) $ rewrite ! 0 (λ (n : GName). ‵ (Follows n)) (sym same) refl $
      fpack ! ((s : (List ℕ → List ℕ) × List ℕ) × ((w : List ℕ) → s.0 w ≡ w) × ⊤) (λ s. follows (Array u8 0) (Array u8 0) γ b.buffer.ghost_name s.0.0) ((λ w. w, buffer.now), λ w. refl, record {}) $ done !

pub start_spec : {M : Type 1} → statement M
start_spec 𝓤 𝓛 𝓜 𝓡 wired =
    let c = f.clauses 𝓛 𝓜.mem 𝓡.returns in let W = walk_of 𝓛 f.ended stayed c in let 𝓣 = tables 𝓤 𝓛.H 𝓜 𝓡 𝓡.env in
    let G = triple_of 𝓛 g.signature (g.spec 𝓛 𝓜.mem 𝓡.returns) in
    proved 𝓛 f.ended stayed c 𝓜 𝓡
    (Goes-spent_slice 𝓛 1 (0 ∷ []) tt (plain (λ _. u8)), (Goes-dropped 𝓛 1 (plain (λ _. u16)) yes (λ κs x w. refl), (Goes-dropped 𝓛 1 (ArrayOf (plain (λ _. u8)) (λ κs. tt) 12) yes (λ κs x w. refl), tt)))
    f.Key.name code.function (code.unfolded 𝓤 𝓛.H 𝓜 𝓡 wired)
    (λ κs. (mut_slice_vals, (uint_vals w16, (array_vals (uint_vals w8), tt))))
    (λ κs. (mut_slice_Tells (named 0) κs.0 u8, (uint_Tells w16, (Array-Tells u8 (uint_vals w8) (uint_Tells w8) 12, tt))))
    (λ κs qs bounds a _ are.
    let token = flft κs.0 qs.0 in let buffer = a.0 in let kind = a.1.0 in let tx = a.1.1.0 in let room = are.0.0.1 in let twelve = are.1.1.0.1.0.1 in
    let y : W.Ghost = ((κs, qs, bounds, a, (mut_slice_vals buffer, (uint_vals w16 kind, (array_vals (uint_vals w8) tx, tt)))), tt) in
    -- the end, for either answer
    let out : (v : Val) (r : (Answer κs).Denot) → IfOk r (λ b. IsBegun kind tx buffer.now b.buffer.now) → IfOk r (λ b. b.buffer.ghost_name ≡ buffer.ghost_name) → OnErr r (length buffer.now < 20)
    → Sq 𝓛 (‵ ((Answer κs).own_val r (v ∷ [])) ∷ ‵ (Rests κs buffer r) ∷ ‵ token ∷ []) (prop (W.post y v)) = λ v r written same full.
    suffices ! _ (ends_at 𝓛 f.ended stayed c y v r (tt, (tt, (tt, tt))) (tt, (tt, (tt, tt)))) $
    nothing ! $ nothing ! $ fjoin ! $ nothing ! $ fjoin ! $ nothing ! $ fjoin ! $ join ! $ nothing ! $ move ! (3 ∷ 0 ∷ []) $ join ! $ join ! $ frame ! $ frame ! $
    use0 𝓛 (raw (fact 𝓤 _)) (fact_i 𝓤 _ (emp 𝓤) written) $ frame ! $ use0 𝓛 (raw (fact 𝓤 _)) (fact_i 𝓤 _ (emp 𝓤) same) $ frame ! $ by ! (fact_i 𝓤 _ (emp 𝓤) full) in
    qed 𝓛 (raw (on_entry 𝓛 f.signature κs qs a y.0.4) ∷ raw (fact 𝓤 (kind < 0x4000)) ∷ []) ∵ move ! (1 ∷ []) $ heard ! _ (λ small.
    enter ! _ _ _ _ _ $
    alloc_all ! (λ l. pass_all ! refl ((tt, (tt, (record { fits = room.0 }, tt))), ((tt, record { fits = are.1.0.1 }), ((Array-Typed u8 (uint_Lawful 𝓛 w8).typed 12 tx _ are.1.1.0).0, tt))) $
    -- buffer.len() >= HEADER_BYTES
    sets ! (of_opd ! (get_in ! (fld ! refl (stop !)) (sub ! 1 refl (whole !)))) refl (tt, record { fits = room.0 }) $
    sets ! (bin ! (lit ! tt) (get ! refl) tt) refl (tt, tt) $
    first ! $ branches ! (get ! refl)
    -- Ok(Builder::with_header(buffer, kind, tx))
    (λ long. sets ! (addr ! (from ! (fld ! refl (hop ! (look_in_at ! 1 (sub ! 0 refl (whole !))) (stop !))))) refl (tt, tt) $
    sets ! (agg ! (and_then ! (get ! refl) (and_then ! (get_in ! (fld ! refl (stop !)) (sub ! 1 refl (whole !))) (no_more !)))) refl (tt, (tt, (record { fits = room.0 }, tt))) $
    use0 𝓛 (raw (fact 𝓤 (20 ≤ length buffer.now))) (fact_i 𝓤 _ (emp 𝓤) (leb→le 20 (length buffer.now) long)) $ use0 𝓛 (raw (fact 𝓤 (kind < 0x4000))) (fact_i 𝓤 _ (emp 𝓤) small) $ join ! $ move ! (1 ∷ 0 ∷ []) $
    use2 𝓛 (raw (G.pre y)) (id⊢ 𝓤 _) $
    calls_at ! (framed 𝓤 𝓛.H 𝓜 𝓣) G (met 𝓤 𝓛 𝓜 𝓡 (code.calls-stun::building::Builder::with_header 𝓡.env wired)) y
    (and_then ! (get ! refl) (and_then ! (get ! refl) (and_then ! (get ! refl) (no_more !)))) (λ v.
    use1 𝓛 (later (some (λ (b : (Builder κs).Denot). ((‵ token ⊛ ‵ ftrue) ⊛ ‵ ((Builder κs).own_val b (v ∷ []))) ⊛
    some (λ (ws : Lasts g.ended κs a). ‵ (lasts g.ended κs a ws) ⊛ raw (fact 𝓤 (IsBegun kind tx buffer.now b.buffer.now)) ⊛ raw (fact 𝓤 (b.buffer.ghost_name ≡ buffer.ghost_name)))))) (id⊢ 𝓤 _) $
    await ! tt $ pick ! (λ b. split ! $ split ! $ split ! $ move ! (2 ∷ []) $ peeks ! (Builder κs) _ (shows 𝓛 (Builder κs)) b (v ∷ []) (λ is.
    let laws = named_lft 1 0 tt κs in let spelled = (lowers laws).val_is b (v ∷ []) is in
    let typed : WT (lowered b) = subst WT (ap only spelled) (((the_row_laws laws).lawful 𝓛).typed b (v ∷ []) is).0.1 in
    rewrite ! 0 (λ (vs : List Val). ‵ ((Builder κs).own_val b vs)) spelled refl $
    lands_as ! (ap only spelled) refl (tt, typed) $
    sets_last ! (agg ! (and_then ! (lit ! tt) (and_then ! (get ! refl) (no_more !)))) refl (tt, (record { fits = lit< tt }, (typed, tt))) $
    exec ! 𝓣.C 𝓣.Λ (env code.Mir.locals l) code.Mir.t-4 (at_ret _ (W.post y)) $
    sets ! (of_opd ! (get ! refl)) refl (tt, (record { fits = lit< tt }, (typed, tt))) $
    returns ! (look_at ! 0 refl) $ free_all ! refl $
    -- [the builder; the token; an empty list of tokens; what `with_header` ensures]
    move ! (3 ∷ []) $ pick ! (λ ws. split ! $ drop ! $ split ! $ heard ! _ (λ written. heard ! _ (λ same. keep ! (0 ∷ 1 ∷ []) $
    use1 𝓛 (‵ ((Answer κs).own_val (Ok b) (acceptance (lowered b) ∷ []))) (accepted 𝓛 κs b (lowered b)) $ use0 𝓛 (‵ (Rests κs buffer (Ok b))) (rests_as_built 𝓛 κs buffer b same) $ move ! (1 ∷ 0 ∷ []) $
    out (acceptance (lowered b)) (Ok b) written same (record {}))))))))
    -- Err(NoRoom)
    (λ short. sets ! (agg ! (no_more !)) refl (tt, tt) $
    sets_last ! (agg ! (and_then ! (lit ! tt) (and_then ! (get ! refl) (no_more !)))) refl (tt, (record { fits = lit< tt }, (tt, tt))) $
    exec ! 𝓣.C 𝓣.Λ (env code.Mir.locals l) code.Mir.t-4 (at_ret _ (W.post y)) $
    sets ! (of_opd ! (get ! refl)) refl (tt, (record { fits = lit< tt }, (tt, tt))) $
    returns ! (look_at ! 0 refl) $ free_all ! refl $
    use1 𝓛 ((‵ token ⊛ ‵ ftrue) ⊛ ‵ (owns (types_at f.signature.params κs) a y.0.4)) (id⊢ 𝓤 _) $ split ! $ split ! $ keep ! (2 ∷ 0 ∷ []) $
    fsplit ! $ fsplit ! $ drop ! $ fsplit ! $ keep ! (0 ∷ 3 ∷ []) $
    -- [what the reference's name is seen at; the token]
    rewrite ! 0 (λ (bytes : List ℕ). ‵ (fobs buffer.ghost_name ((coded_list u8.coded).code bytes))) (heres_id u8 buffer.now) refl $
    use1 𝓛 (‵ (fres buffer.ghost_name ((coded_list u8.coded).code buffer.now))) (𝓛.names.obs-res buffer.ghost_name ((coded_list u8.coded).code buffer.now)) $
    use1 𝓛 (‵ (Rests κs buffer (Err (record {})))) (rests_as_it_was 𝓛 κs buffer) $ use0 𝓛 (‵ ((Answer κs).own_val (Err (record {})) (refusal ∷ []))) (refused 𝓛 κs) $
    out refusal (Err (record {})) (record {}) (record {}) (nleb→lt 20 (length buffer.now) short)))))
