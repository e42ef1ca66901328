-- A free actor stays free while another moves.
use Rattle.std.proofs.Common.{◌≡◌, ◌≢◌, ◌∙◌, ℕ, zero, suc, ◌<◌, ◌⊎◌, inl, inr, Bool, true, false, not, ◌&&◌, ◌||◌, ◌==◌, List, [], ◌∷◌, map, length, Option, None, Some, slice_get, slice_index_or, refl, sym, ap, subst, arith}
use Rattle.std.specs.Prelude.{is_none}
use Rattle.std.specs.List.{list_all}
use Rattle.std.specs.Option.{option_map}
use Rattle.std.proofs.lemmas.Bool.{and_from, and_parts, cases_eq, eq-eqb}
use Rattle.std.proofs.lemmas.Option.{get_or_from_slice_get, none-some, option_and_then_some, same_Some}
use Rattle.tso_choose.specs.Needs.{is_apart}
use Rattle.tso_compact.specs.Plans.{kind_by, kind_of_move, procedure_in, thread_in}
use Rattle.tso_compact.specs.declared.sort.StepKind.{StepKind}
use Rattle.tso_compact.specs.declared.sort.StepKind.TheVariants as kinds
use Rattle.tso_confluence.proofs.Ground.{IsGround, ground_after, invariant, is_ground, unwritten}
use Rattle.tso_confluence.proofs.Meeting.{same_actor}
use Rattle.tso_confluence.proofs.Shrinking.{futures_shrink}
use Rattle.tso_confluence.specs.Laws.{FreeStaysFree, HasShrunk}
use Rattle.tso_crossing.proofs.AsSteps.{Call, Ends, Goes, IsStep, Kind, Step, Then, drain_kind, kind_of, late_is, lates, moves_end_alike}
use Rattle.tso_crossing.proofs.OwnMoves.{Alike, OwnMoves, alike_refl, own_moves}
use Rattle.tso_crossing.proofs.Past.{calls_past, none_past, opened_not_over, parts_past, thread_past}
use Rattle.tso_crossing.proofs.Stays.{first_step, kept, kept_opening, kept_own, never_first}
use Rattle.tso_crossing.proofs.Unwritten.{IsUnwritten}
use Rattle.tso_crossing.specs.Late.{IsStill}
use Rattle.tso_crossing.specs.Moves.{Extent, late_move, one_part, opening, parts, perform_all}
use Rattle.tso_foot.specs.Ahead.{future_reads, future_writes}
use Rattle.tso_foot.specs.declared.table.ArrayTable.{ArrayTable}
use Rattle.tso_foot.specs.declared.table.Table.{Table}
use Rattle.tso_indep.specs.Reasons.{is_cut, is_done, kind_in}
use Rattle.tso_machine.specs.Activations.{Activation, activation}
use Rattle.tso_machine.specs.Instructions.{next_action}
use Rattle.tso_machine.specs.Programs.{program_of}
use Rattle.tso_model.proofs.Begin.{call_if_some}
use Rattle.tso_model.proofs.Moves.{NextKept}
use Rattle.tso_model.proofs.Persistent.{IsInvariant}
use Rattle.tso_model.proofs.Places.{get_set_same}
use Rattle.tso_model.proofs.Reasons.{DrainOf, drains}
use Rattle.tso_model.proofs.Waits.{is_over_at, kept_by_others, moving_is_not_over}
use Rattle.tso_model.specs.Programs.{Action, Barrier, CallKind, Cut, Fail, Load, Locked, Program, Ret, Silent, Store, calls_of}
use Rattle.tso_model.specs.Prologue.{next_call}
use Rattle.tso_model.specs.Reasons.{IsDone}
use Rattle.tso_model.specs.Reduce.{Has}
use Rattle.tso_model.specs.States.{Buffer, CompactCore, CompactThread, Executing, Halted, Resting, begun_by}
use Rattle.tso_model.specs.States as states
use Rattle.tso_model.specs.Steps.{Drains, Exec, Move, action_move, call_move, core_move, move, perform, step, thread_of}
use Rattle.tso_model.specs.Steps as model
use Rattle.tso_move.proofs.FreeLemmas.{passed}
use Rattle.tso_move.specs.Free.{is_still, passes, passes_below}
use Rattle.tso_move.specs.Own.{extent_of}
use Rattle.tso_prog.specs.declared.client.Client.{Client}
use Rattle.tso_state.proofs.ViewLemmas.{length-threads_view, slice_get-threads_view}
use Rattle.tso_state.specs.Actors as code
use Rattle.tso_state.specs.Actors.{actor_of}
use Rattle.tso_state.specs.Views.{core_view, state_of, thread_view}
use Rattle.tso_state.specs.declared.actor.Actor.{Actor}
use Rattle.tso_state.specs.declared.actor.Actor.TheVariants as actors
use Rattle.tso_state.specs.declared.state.Core.{Core}
use Rattle.tso_state.specs.declared.state.Core.TheVariants.{Idle, Running, Stopped}
use Rattle.tso_state.specs.declared.state.State.{State}
use Rattle.tso_state.specs.declared.state.Thread.{Thread}

-- ---- the parts of an actor's move after another's move

-- the actor has a move again, with the same accesses and entries
record HasAgain {F : Type 0} (p : Program F) (n : Extent) (s : states.State F) (a b : model.Actor) (ms bs : List (Move F)) : Type 0 where
  later : List (Move F)
  mine : parts p n (perform_all s (thread_of b) bs) a ≡ Some later
  alike : Alike later ms

module _ {F : Type 0} (p : Program F) (n : Extent) (W : states.State F → Type 0) (inv : IsInvariant p W) (un : IsUnwritten p n W) (s : states.State F) (w : W s) where
  own_again : (a b : model.Actor) (ms bs : List (Move F)) → (b ≡ a → ⊥) → thread_of b ≡ thread_of a → parts p n s a ≡ Some ms → parts p n s b ≡ Some bs → HasAgain p n s a b ms bs
  own_again (Exec i) (Exec j) ms bs nb same ea eb = absurd (nb (ap Exec same))
  own_again (Drains i) (Drains j) ms bs nb same ea eb = absurd (nb (ap Drains same))
  own_again (Exec i) (Drains j) ms bs nb same ea eb = subst (λ k. HasAgain p n s (Exec i) (Drains k) ms bs) (sym same) (go (drain_kind p n s i bs (subst (λ k. parts p n s (Drains k) ≡ Some bs) same eb)))
    where
      go : IsStep p n s (Drains i) bs → HasAgain p n s (Exec i) (Drains i) ms bs
      go d =
          let o : OwnMoves p n s i ms d.one = own_moves p W inv n s w i ms d.one ea d.moves in
          subst (λ ys. HasAgain p n s (Exec i) (Drains i) ms ys) (sym d.is) (record { later = o.es'; mine = o.exec_after; alike = o.alike })
  own_again (Drains i) (Exec j) ms bs nb same ea eb = subst (λ k. HasAgain p n s (Drains i) (Exec k) ms bs) (sym same) (go (drain_kind p n s i ms ea))
    where
      eb' : parts p n s (Exec i) ≡ Some bs
      eb' = subst (λ k. parts p n s (Exec k) ≡ Some bs) same eb

      go : IsStep p n s (Drains i) ms → HasAgain p n s (Drains i) (Exec i) ms bs
      go d =
          let o : OwnMoves p n s i bs d.one = own_moves p W inv n s w i bs d.one eb' d.moves in
          subst (λ ys. HasAgain p n s (Drains i) (Exec i) ys bs) (sym d.is) (record {
            later = one_part o.d';
            mine = o.drain_after;
            alike = λ x h. elim h [ inl e ↦ (d.one, inl refl, ap (λ (z : Move F). z.access) (sym e) ∙ o.access, ap (λ (z : Move F). z.log) (sym e) ∙ o.log) | inr e ↦ absurd e ];
          })

  again : (a b : model.Actor) (ms bs : List (Move F)) → (b ≡ a → ⊥) → parts p n s a ≡ Some ms → parts p n s b ≡ Some bs → HasAgain p n s a b ms bs
  again a b ms bs nb ea eb = elim (cases_eq (thread_of b) (thread_of a)) [
    | inl same ↦ own_again a b ms bs nb same ea eb
    | inr other ↦ record { later = ms; mine = parts_past p n W un s a b ms bs w other ea eb; alike = alike_refl ms }
  ]

  -- ---- threads that have no move

  -- whose next call a move holds up or lets go, where an actor has a move before and after
  module _ (a : model.Actor) (ma : Move F) (ea : move p s a ≡ Some ma) where
    then_kept : (i : ℕ) (b : Buffer) (k : CallKind) (f : F) (x ma' first : Move F) → slice_get s.threads i ≡ Some (record { core = Resting; buffer = b }) → move p s (Exec i) ≡ Some first
        → move p (perform (perform s i (opening b k f)) i x) a ≡ Some ma' → NextKept p (perform s i (opening b k f)) (perform (perform s i (opening b k f)) i x) i
    then_kept i b k f x ma' first idle begins after = elim (cases_eq i (thread_of a)) [
      | inl same ↦ kept_own p W inv (perform s i (opening b k f)) i x (opened_not_over p s i b k f idle)
          (subst (λ u. is_over_at p (perform (perform s i (opening b k f)) i x) u ≡ false) (sym same) (moving_is_not_over p (perform (perform s i (opening b k f)) i x) a ma' after))
      | inr other ↦ kept_by_others p (perform s i (opening b k f)) i x (never_first p W inv s a (Exec i) ma first w other ea begins)
    ]

    rest_kept : (i : ℕ) (b : Buffer) (k : CallKind) (f : F) (rest : List (Move F)) (ma' first : Move F) → slice_get s.threads i ≡ Some (record { core = Resting; buffer = b }) → next_call p s i ≡ Some k → move p s (Exec i) ≡ Some first
        → Then p n s b f rest → move p (perform_all (perform s i (opening b k f)) i rest) a ≡ Some ma' → NextKept p s (perform_all (perform s i (opening b k f)) i rest) i
    rest_kept i b k f _ ma' first idle may begins (Ends cut) after = kept_opening p W inv s i b k f idle may
    rest_kept i b k f _ ma' first idle may begins (Goes x act) after = λ j ne. then_kept i b k f x ma' first idle begins after j ne ∙ kept_opening p W inv s i b k f idle may j ne

    kind_kept : (b : model.Actor) (bs : List (Move F)) (ma' : Move F) → Kind p n s b bs → move p (perform_all s (thread_of b) bs) a ≡ Some ma' → NextKept p s (perform_all s (thread_of b) bs) (thread_of b)
    kind_kept _ _ ma' (Step b bs y) after =
        let after' : move p (perform s (thread_of b) y.one) a ≡ Some ma' = subst (λ ys. move p (perform_all s (thread_of b) ys) a ≡ Some ma') y.is after in
        subst (λ ys. NextKept p s (perform_all s (thread_of b) ys) (thread_of b)) (sym y.is) (kept p W inv s a b ma y.one ma' w ea y.moves after')
    kind_kept _ _ ma' (Call i bs y) after =
        let calls : move p s (Exec i) ≡ Some (opening y.buffer y.kind (p.start y.kind)) = (let at = y.idle in let may = y.may in rw (at, may) refl) in
        let after' : move p (perform_all (perform s i (opening y.buffer y.kind y.frame)) i y.rest) a ≡ Some ma' = subst (λ ys. move p (perform_all s i ys) a ≡ Some ma') y.is after in
        subst (λ ys. NextKept p s (perform_all s i ys) i) (sym y.is) (rest_kept i y.buffer y.kind y.frame y.rest ma' _ y.idle y.may calls y.next after')

  no_parts_of : (d : model.Actor) (o : Option (List (Move F))) → option_map (perform_all s (thread_of d)) o ≡ None → o ≡ None
  no_parts_of d None e = refl
  no_parts_of d (Some ms) e = absurd (none-some _ (sym e))

  -- a thread without a move has none after b's move, where a has one before and after
  still_again : (a b : model.Actor) (ms bs later : List (Move F)) (j : ℕ) → parts p n s a ≡ Some ms → parts p n s b ≡ Some bs → parts p n (perform_all s (thread_of b) bs) a ≡ Some later
      → IsStill (late_move p n) s j → IsStill (late_move p n) (perform_all s (thread_of b) bs) j
  still_again a b ms bs later j ea eb after still d at =
      let (ma, ema) = first_step p n s a ms ea in
      let (ma', ema') = first_step p n (perform_all s (thread_of b) bs) a later after in
      let next = kind_kept a ma ema b bs ma' (kind_of p n s b bs eb) ema' in
      elim (cases_eq (thread_of b) (thread_of d)) [
        | inl same ↦ absurd (none-some _ (sym (still b (same ∙ at)) ∙ late_is p n s b bs eb))
        | inr other ↦ ap (option_map (perform_all (perform_all s (thread_of b) bs) (thread_of d))) (none_past p n W un s d b bs w other next (no_parts_of d (parts p n s d) (still d at)) eb)
      ]

-- ---- threads that return no more

module _ {F : Type 0} (p : Program F) where
  abbrev DoneAt : states.State F → ℕ → Type 0
  DoneAt s j = (t : CompactThread F) → slice_get s.threads j ≡ Some t → IsDone p (calls_of p j) (begun_by s j) t.core

  -- its core has no move
  call_clash : (b : Buffer) (o : Option CallKind) (m : Move F) → call_move p b o ≡ Some m → (k : CallKind) × (o ≡ Some k)
  call_clash b None m e = absurd (none-some m e)
  call_clash b (Some k) m e = (k, refl)

  core_clash : (s : states.State F) (j : ℕ) (core : CompactCore F) (b : Buffer) (m : Move F) → IsDone p (calls_of p j) (begun_by s j) core → core_move p (next_call p s j) core b ≡ Some m → ⊥
  core_clash s j Resting b m done e = let (k, is) = call_clash b (next_call p s j) m e in none-some k (sym done ∙ call_if_some _ _ k is)
  core_clash s j (Executing f) b m done e = none-some m (ap (action_move b) (sym done) ∙ e)
  core_clash s j Halted b m done e = none-some m e

  exec_clash : (s : states.State F) (j : ℕ) (m : Move F) → DoneAt s j → move p s (Exec j) ≡ Some m → ⊥
  exec_clash s j m done e = option_and_then_some _ (slice_get s.threads j) m e (λ t at is. core_clash s j t.core t.buffer m (done t at) is)

  -- its drain leaves its core as it is
  drain_done : (s : states.State F) (j : ℕ) (m : Move F) → DoneAt s j → DrainOf s j m → DoneAt (perform s j m) j
  drain_done s j m done d t at =
      let after : slice_get (perform s j m).threads j ≡ Some (record { core = d.core; buffer = d.rest }) = rw d.is (get_set_same s.threads j _ _ d.was) in
      let is : record { core = d.core; buffer = d.rest } ≡ t = same_Some _ _ (sym after ∙ at) in
      let begun : begun_by (perform s j m) j ≡ begun_by s j = rw d.is refl in
      subst (λ k. IsDone p (calls_of p j) k t.core) (sym begun) (subst (λ (y : CompactThread F). IsDone p (calls_of p j) (begun_by s j) y.core) is (done _ d.was))

  own_done : (n : Extent) (s : states.State F) (b : model.Actor) (bs : List (Move F)) → DoneAt s (thread_of b) → parts p n s b ≡ Some bs → DoneAt (perform_all s (thread_of b) bs) (thread_of b)
  own_done n s (Exec i) bs done e = let (m, em) = first_step p n s (Exec i) bs e in absurd (exec_clash s i m done em)
  own_done n s (Drains i) bs done e =
      let d : IsStep p n s (Drains i) bs = drain_kind p n s i bs e in
      subst (λ ys. DoneAt (perform_all s i ys) i) (sym d.is) (drain_done s i d.one done (drains p s i d.one d.moves))

  done_again : (n : Extent) (s : states.State F) (b : model.Actor) (bs : List (Move F)) (j : ℕ) → DoneAt s j → parts p n s b ≡ Some bs → DoneAt (perform_all s (thread_of b) bs) j
  done_again n s b bs j done e = elim (cases_eq (thread_of b) j) [
    | inl same ↦ subst (DoneAt (perform_all s (thread_of b) bs)) same (own_done n s b bs (subst (DoneAt s) (sym same) done) e)
    | inr other ↦ (λ t at.
        let begun : begun_by (perform_all s (thread_of b) bs) j ≡ begun_by s j = ap length (calls_past p bs s (thread_of b) j other) in
        subst (λ k. IsDone p (calls_of p j) k t.core) (sym begun) (done t (sym (thread_past p bs s (thread_of b) j other) ∙ at)))
  ]

-- ---- the code's tests

-- thread j as the model sees it is the view of the state's
viewed : (s : State) (j : ℕ) (o : Option Thread) (t : CompactThread Activation) → slice_get s.threads j ≡ o → option_map (thread_view (procedure_in s j)) o ≡ Some t → thread_view (procedure_in s j) (thread_in s j) ≡ t
viewed s j None t at e = absurd (none-some t e)
viewed s j (Some th) t at e = ap (thread_view (procedure_in s j)) (get_or_from_slice_get s.threads j th _ at) ∙ same_Some _ t e

cut : (a : Action Activation) → is_cut a ≡ true → a ≡ Cut
cut Cut h = refl
cut (Silent g) h = absurd (let clash : false ≡ true = h in cc)
cut (Load p k) h = absurd (let clash : false ≡ true = h in cc)
cut (Store p v g) h = absurd (let clash : false ≡ true = h in cc)
cut (Barrier g) h = absurd (let clash : false ≡ true = h in cc)
cut (Locked p new k) h = absurd (let clash : false ≡ true = h in cc)
cut (Ret a) h = absurd (let clash : false ≡ true = h in cc)
cut (Fail n) h = absurd (let clash : false ≡ true = h in cc)

no_call : (o : Option CallKind) → is_none o ≡ true → o ≡ None
no_call None h = refl
no_call (Some k) h = absurd (let clash : false ≡ true = h in cc)

done_there : (c : Client) (s : State) (j : ℕ) (core : Core) → is_done c s j core ≡ true → IsDone (program_of c) (calls_of (program_of c) j) (begun_by (state_of s) j) (core_view (procedure_in s j) core)
done_there c s j Idle h = no_call _ h
done_there c s j (Running frame) h = cut (next_action c (activation (procedure_in s j) frame)) h
done_there c s j Stopped h = record {}

done_back : (c : Client) (s : State) (j : ℕ) (core : Core) → IsDone (program_of c) (calls_of (program_of c) j) (begun_by (state_of s) j) (core_view (procedure_in s j) core) → is_done c s j core ≡ true
done_back c s j Idle h = ap is_none h
done_back c s j (Running frame) h = ap is_cut h
done_back c s j Stopped h = refl

done_at : (c : Client) (s : State) (j : ℕ) → is_done c s j (thread_in s j).core ≡ true → DoneAt (program_of c) (state_of s) j
done_at c s j h t at =
    subst (λ (y : CompactThread Activation). IsDone (program_of c) (calls_of (program_of c) j) (begun_by (state_of s) j) y.core)
    (viewed s j (slice_get s.threads j) t refl (sym (slice_get-threads_view s.history s.threads j) ∙ at)) (done_there c s j (thread_in s j).core h)

thread_there : (s : State) (j : ℕ) → j < length s.threads → slice_get s.threads j ≡ Some (thread_in s j)
thread_there s j lt = go s.threads j lt
  where
    go : (ts : List Thread) (i : ℕ) → i < length ts → slice_get ts i ≡ Some (slice_index_or ts i (record { core = Idle; buffer = [] }))
    go [] i lt = absurd (omega (arith, lt))
    go (x ∷ ts) zero lt = refl
    go (x ∷ ts) (suc i) lt = go ts i (omega (arith, lt))

at_done : (c : Client) (s : State) (j : ℕ) → j < length s.threads → DoneAt (program_of c) (state_of s) j → is_done c s j (thread_in s j).core ≡ true
at_done c s j lt done =
    done_back c s j (thread_in s j).core
    (done (thread_view (procedure_in s j) (thread_in s j)) (slice_get-threads_view s.history s.threads j ∙ ap (option_map (thread_view (procedure_in s j))) (thread_there s j lt)))

-- neither actor has a step: neither has a move
no_step : {X : Type 0} (f : Move Activation → X) (o : Option (Move Activation)) → is_none (option_map kind_of_move o) ≡ true → option_map f o ≡ None
no_step f None h = refl
no_step f (Some m) h = absurd (let clash : false ≡ true = h in cc)

step_none : {X : Type 0} (f : Move Activation → X) (o : Option (Move Activation)) → option_map f o ≡ None → is_none (option_map kind_of_move o) ≡ true
step_none f None h = refl
step_none f (Some m) h = absurd (none-some (f m) (sym h))

still_there : (c : Client) (own : ArrayTable) (s : State) (j : ℕ) → is_still c s j ≡ true → IsStill (late_move (program_of c) (extent_of c own)) (state_of s) j
still_there c own s j h = (moves_end_alike Activation (program_of c) (extent_of c own) (state_of s) j).0 by_steps
  where
    by_steps : IsStill (step (program_of c)) (state_of s) j
    by_steps (Exec i) is = subst (λ n. step (program_of c) (state_of s) (Exec n) ≡ None) (sym is) (no_step _ (move (program_of c) (state_of s) (Exec j)) (and_parts _ _ h).0)
    by_steps (Drains i) is = subst (λ n. step (program_of c) (state_of s) (Drains n) ≡ None) (sym is) (no_step _ (move (program_of c) (state_of s) (Drains j)) (and_parts _ _ h).1)

still_back : (c : Client) (own : ArrayTable) (s : State) (j : ℕ) → IsStill (late_move (program_of c) (extent_of c own)) (state_of s) j → is_still c s j ≡ true
still_back c own s j still =
    let by_steps : IsStill (step (program_of c)) (state_of s) j = (moves_end_alike Activation (program_of c) (extent_of c own) (state_of s) j).1 still in
    and_from (is_none (kind_in c s (actors.Exec j))) (is_none (kind_in c s (actors.Drain j)))
    (step_none (perform (state_of s) j) (move (program_of c) (state_of s) (Exec j)) (by_steps (Exec j) refl))
    (step_none (perform (state_of s) j) (move (program_of c) (state_of s) (Drains j)) (by_steps (Drains j) refl))

-- ---- all threads

not_back : (x y : Bool) → (y ≡ true → x ≡ true) → not x ≡ true → not y ≡ true
not_back x false f h = refl
not_back true true f h = h
not_back false true f h = absurd (let clash : false ≡ true = f refl in cc)

both_not : (x y u v : Bool) → (u ≡ true → x ≡ true) → (v ≡ true → y ≡ true) → (not x && not y) ≡ true → (not u && not v) ≡ true
both_not x y u v f g h = let (a, b) = and_parts (not x) (not y) h in and_from (not u) (not v) (not_back x u f a) (not_back y v g b)

-- a part that needs nobody of a thread needs nobody after a move
apart_stays : (c : Client) (t : Table) (s s' : State) (j : ℕ) → ((place : ℕ) → HasShrunk c t s s' j place) → (is_done c s j (thread_in s j).core ≡ true → is_done c s' j (thread_in s' j).core ≡ true)
    → (kind : StepKind) → is_apart c t s kind j ≡ true → is_apart c t s' kind j ≡ true
apart_stays c t s s' j shrunk done kinds.Local h = refl
apart_stays c t s s' j shrunk done kinds.Return h = refl
apart_stays c t s s' j shrunk done kinds.Call h = done h
apart_stays c t s s' j shrunk done (kinds.Load place) h = not_back (future_writes c t s j place) (future_writes c t s' j place) (shrunk place).writes h
apart_stays c t s s' j shrunk done (kinds.Drain place) h =
    both_not (future_reads c t s j place) (future_writes c t s j place) (future_reads c t s' j place) (future_writes c t s' j place) (shrunk place).reads (shrunk place).writes h
apart_stays c t s s' j shrunk done (kinds.Locked place) h =
    both_not (future_reads c t s j place) (future_writes c t s j place) (future_reads c t s' j place) (future_writes c t s' j place) (shrunk place).reads (shrunk place).writes h

mapped_some : {X Y : Type 0} (f : X → Y) (o : Option X) (y : Y) → option_map f o ≡ Some y → (x : X) × (o ≡ Some x) × (f x ≡ y)
mapped_some f None y e = absurd (none-some y e)
mapped_some f (Some x) y e = (x, refl, same_Some (f x) y e)

all_mapped : (test : StepKind → Bool) (ms : List (Move Activation)) → list_all test (map kind_of_move ms) ≡ true → (m : Move Activation) → Has ms m → test (kind_of_move m) ≡ true
all_mapped test [] h m has = absurd has
all_mapped test (n ∷ rest) h m (inl is) = ap (λ x. test (kind_of_move x)) (sym is) ∙ (and_parts (test (kind_of_move n)) (list_all test (map kind_of_move rest)) h).0
all_mapped test (n ∷ rest) h m (inr has) = all_mapped test rest (and_parts (test (kind_of_move n)) (list_all test (map kind_of_move rest)) h).1 m has

mapped_all : (test : StepKind → Bool) (ms : List (Move Activation)) → ((m : Move Activation) → Has ms m → test (kind_of_move m) ≡ true) → list_all test (map kind_of_move ms) ≡ true
mapped_all test [] each = refl
mapped_all test (n ∷ rest) each = and_from (test (kind_of_move n)) (list_all test (map kind_of_move rest)) (each n (inl refl)) (mapped_all test rest (λ m has. each m (inr has)))

or_cases : (x y : Bool) → (x || y) ≡ true → (x ≡ true) ⊎ (y ≡ true)
or_cases true y h = inl refl
or_cases false y h = inr h

or_first : (x y : Bool) → x ≡ true → (x || y) ≡ true
or_first true y h = refl
or_first false y h = absurd (let clash : false ≡ true = h in cc)

or_second : (x y : Bool) → y ≡ true → (x || y) ≡ true
or_second true y h = refl
or_second false y h = h

all_pass : (c : Client) (t : Table) (s : State) (i : ℕ) (found : List StepKind) (n : ℕ) → ((j : ℕ) → j < n → j ≢ i → passes c t s found j ≡ true) → passes_below c t s i found n ≡ true
all_pass c t s i found zero each = refl
all_pass c t s i found (suc n) each =
    and_from (passes_below c t s i found n) (n == i || passes c t s found n) (all_pass c t s i found n (λ j lt. each j (omega (arith, lt))))
    (elim (cases_eq n i) [ inl same ↦ or_first (n == i) (passes c t s found n) (eq-eqb n i same) | inr other ↦ or_second (n == i) (passes c t s found n) (each n (omega arith) other) ])

thread_same : (a : Actor) → thread_of (actor_of a) ≡ code.thread_of a
thread_same (actors.Exec i) = refl
thread_same (actors.Drain i) = refl

same_kind : (x y : Move Activation) → x.access ≡ y.access → x.log ≡ y.log → kind_of_move x ≡ kind_of_move y
same_kind x y e q = ap (λ access. kind_by access x.log) e ∙ ap (kind_by y.access) q

pub free_stays_free : (c : Client) → FreeStaysFree c
free_stays_free c own t s s' a b h ne free to = record { kinds = map kind_of_move k.later; parts = ap (option_map (map kind_of_move)) there; passes = all_pass c t s' (code.thread_of a) (map kind_of_move k.later) (length s'.threads) each }
  where
    p : Program Activation
    p = program_of c

    n : Extent
    n = extent_of c own

    mine : (ms : List (Move Activation)) × (parts p n (state_of s) (actor_of a) ≡ Some ms) × (map kind_of_move ms ≡ free.kinds)
    mine = mapped_some (map kind_of_move) (parts p n (state_of s) (actor_of a)) free.kinds free.parts

    theirs : (bs : List (Move Activation)) × (parts p n (state_of s) (actor_of b) ≡ Some bs) × (perform_all (state_of s) (thread_of (actor_of b)) bs ≡ state_of s')
    theirs = lates p n (state_of s) (state_of s') (actor_of b) to

    k : HasAgain p n (state_of s) (actor_of a) (actor_of b) mine.0 theirs.0
    k = again p n (IsGround c own t) (invariant c own t s h) (unwritten c own t s h) (state_of s) (is_ground c own t s h) (actor_of a) (actor_of b) mine.0 theirs.0 (λ e. ne (same_actor a b (sym e))) mine.1 theirs.1

    there : parts p n (state_of s') (actor_of a) ≡ Some k.later
    there = subst (λ m. parts p n m (actor_of a) ≡ Some k.later) theirs.2 k.mine

    lengths : length s'.threads ≡ length s.threads
    lengths =
        let g = is_ground c own t s h in
        let g' = ground_after c own t s h (state_of s) (state_of s') (actor_of b) g to in
        sym (length-threads_view s'.history s'.threads) ∙ g'.0.threads ∙ sym g.0.threads ∙ length-threads_view s.history s.threads

    still : (j : ℕ) → is_still c s j ≡ true → is_still c s' j ≡ true
    still j is =
        still_back c own s' j (subst (λ m. IsStill (late_move p n) m j) theirs.2
        (still_again p n (IsGround c own t) (invariant c own t s h) (unwritten c own t s h) (state_of s) (is_ground c own t s h) (actor_of a) (actor_of b) mine.0 theirs.0 k.later j mine.1 theirs.1 k.mine (still_there c own s j is)))

    done : (j : ℕ) → j < length s'.threads → is_done c s j (thread_in s j).core ≡ true → is_done c s' j (thread_in s' j).core ≡ true
    done j lt is = at_done c s' j lt (subst (λ m. DoneAt p m j) theirs.2 (done_again p n (state_of s) (actor_of b) theirs.0 j (done_at c s j is) theirs.1))

    apart : (j : ℕ) → j < length s'.threads → list_all (λ kind. is_apart c t s kind j) free.kinds ≡ true → list_all (λ kind. is_apart c t s' kind j) (map kind_of_move k.later) ≡ true
    apart j lt all = mapped_all (λ kind. is_apart c t s' kind j) k.later (λ m has.
        let (y, at, access, log) = k.alike m has in
        let old : is_apart c t s (kind_of_move y) j ≡ true = all_mapped (λ kind. is_apart c t s kind j) mine.0 (ap (list_all (λ kind. is_apart c t s kind j)) mine.2 ∙ all) y at in
        ap (λ kind. is_apart c t s' kind j) (same_kind m y access log) ∙ apart_stays c t s s' j (λ place. futures_shrink c own t s s' b j place h to) (done j lt) (kind_of_move y) old)

    each : (j : ℕ) → j < length s'.threads → j ≢ code.thread_of a → passes c t s' (map kind_of_move k.later) j ≡ true
    each j lt other =
        let before = passed c t s (code.thread_of a) free.kinds (length s.threads) j free.passes (subst (λ l. j < l) lengths lt) other in
        elim (or_cases (list_all (λ kind. is_apart c t s kind j) free.kinds) (is_still c s j) before) [
          | inl all ↦ or_first (list_all (λ kind. is_apart c t s' kind j) (map kind_of_move k.later)) (is_still c s' j) (apart j lt all)
          | inr is ↦ or_second (list_all (λ kind. is_apart c t s' kind j) (map kind_of_move k.later)) (is_still c s' j) (still j is)
        ]
