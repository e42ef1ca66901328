-- A free actor is a persistent choice of moves; and so are all that have a move.
use Rattle.std.proofs.Common.{◌≡◌, ◌≢◌, ℕ, ◌<◌, List, [], ◌∷◌, length, Option, Some, None, refl, sym, ◌∙◌, ap, subst, inl, inr, length-set, Bool, false}
use Rattle.std.specs.List.{slice_get}
use Rattle.std.specs.Option.{option_map}
use Rattle.std.proofs.lemmas.Bool.{cases_eq}
use Rattle.std.proofs.lemmas.Option.{none-some, same_Some, slice_get_within}
use Rattle.tso_model.specs.Programs.{CallKind, Program}
use Rattle.tso_model.specs.Prologue.{next_call}
use Rattle.tso_model.specs.Reasons.{Future, Holds, IsFuture, Reason}
use Rattle.tso_model.specs.Reduce.{GoesFirst, Has, NoneOf, Persistent, Steps}
use Rattle.tso_model.specs.States.{Buffer, Executing, Log, Resting, State}
use Rattle.tso_model.specs.Steps.{Access, Actor, Drains, Exec, Move, move, perform, thread_of}
use Rattle.tso_model.specs.Strictness.{AtLeast}
use Rattle.tso_model.specs.Table.{table_future}
use Rattle.tso_model.specs.WellFormed.{IsWellFormed}
use Rattle.tso_model.proofs.Moves.{NextKept, at_least_refl, at_least_trans}
use Rattle.tso_model.proofs.Moves as moves
use Rattle.tso_model.proofs.Own.{InRange}
use Rattle.tso_model.proofs.Persistent.{IsInvariant, there}
use Rattle.tso_model.proofs.Places.{get_set_same}
use Rattle.tso_model.proofs.Reasons.{Passes, reason_passes}
use Rattle.tso_model.proofs.Reduce.{StepsLeft, persistent}
use Rattle.tso_model.proofs.Stable.{reason_stays}
use Rattle.tso_model.proofs.Theorems.{tables_hold_futures}
use Rattle.tso_model.proofs.Waits.{is_over_at, kept_by_others, moving_is_not_over}
use Rattle.tso_model.proofs.WellFormed as well_formed
use Rattle.tso_crossing.specs.Free.{ByFar, ByNoReturn, ByOwn, ByReturns, FreeIsPersistent, IsFree, IsInside, IsValid, MayPassThread, PassesAlone, ValidMovesArePersistent, WholeIsPersistent}
use Rattle.tso_crossing.specs.Moves.{Extent, late_move, one_part, opening, parts, perform_all}
use Rattle.tso_crossing.proofs.AsSteps.{Call, Ends, Goes, IsStep, Kind, Step, Then, as_steps, drain_kind, kind_of, lates, late_is, opening_as_steps}
use Rattle.tso_crossing.proofs.OwnMoves.{Alike, OwnMoves, alike_refl, own_moves}
use Rattle.tso_crossing.proofs.Past.{AllPass, all_past, late_simulates, none_past, opened_not_over, parts_past}
use Rattle.tso_crossing.proofs.Unwritten.{IsUnwritten, apart_unwritten}
use Rattle.tso_crossing.specs.Own.{IsApart}
use Rattle.tso_crossing.proofs.Stays.{first_step, holds_as_steps, kept, kept_opening, kept_own, never_first, opening_stays}

module _ {F : Type 0} (p : Program F) (n : Extent) (W : State F → Type 0) (inv : IsInvariant p W) (fu : Future F) (laws : IsFuture p W fu) (chosen : List Actor) where
  -- A CHOSEN ACTOR'S PARTS MAY PASS ANOTHER THREAD'S

  module _ (s : State F) (w : W s) (i : ℕ) (nb : Has chosen (Exec i) → ⊥) (m : Move F) (r : Reason) (b : Buffer) (k : CallKind) (f : F) (idle : slice_get s.threads i ≡ Some (record { core = Resting; buffer = b })) where
    then_passes : (rest : List (Move F)) → W (perform s i (opening b k f)) → Then p n s b f rest → Holds p fu (perform s i (opening b k f)) chosen m.access m.log i r → (x : Move F) → Has rest x → Passes m.access m.log x
    then_passes _ w1 (Ends cut) h x here = absurd here
    then_passes _ w1 (Goes y act) h x here =
        let s1 : State F = perform s i (opening b k f) in
        let at1 : slice_get s1.threads i ≡ Some (record { core = Executing f; buffer = b }) = get_set_same s.threads i _ _ idle in
        let runs : move p s1 (Exec i) ≡ Some y = rw at1 act in
        elim here [
          | inl e ↦ subst (λ z. Passes m.access m.log z) e (reason_passes p W fu laws s1 w1 chosen m.access m.log r (Exec i) y nb runs h)
          | inr e ↦ absurd e
        ]

  module _ (s : State F) (w : W s) (m : Move F) (r : Reason) where
    kind_passes : (b : Actor) (bs : List (Move F)) → Kind p n s b bs → (Has chosen b → ⊥) → Holds p fu s chosen m.access m.log (thread_of b) r → (x : Move F) → Has bs x → Passes m.access m.log x
    kind_passes _ _ (Step b bs y) nb h x here = elim (subst (λ ys. Has ys x) y.is here) [
      | inl e ↦ subst (λ z. Passes m.access m.log z) e (reason_passes p W fu laws s w chosen m.access m.log r b y.one nb y.moves h)
      | inr e ↦ absurd e
    ]
    kind_passes _ _ (Call i bs y) nb h x here =
        let calls : move p s (Exec i) ≡ Some (opening y.buffer y.kind (p.start y.kind)) = (let at = y.idle in let may = y.may in rw (at, may) refl) in
        let first : Passes m.access m.log (opening y.buffer y.kind y.frame) = reason_passes p W fu laws s w chosen m.access m.log r (Exec i) (opening y.buffer y.kind (p.start y.kind)) nb calls h in
        let w1 = holds_as_steps p W inv (Exec i) s _ w (opening_as_steps p n s i y.buffer y.kind y.frame y.idle y.may y.leads) in
        let h1 = opening_stays p W inv fu laws chosen n s w i y.buffer y.kind y.frame y.idle y.may y.leads m.access m.log i nb r h in
        elim (subst (λ ys. Has ys x) y.is here) [
          | inl e ↦ subst (λ z. Passes m.access m.log z) e first
          | inr e ↦ then_passes s w i nb m r y.buffer y.kind y.frame y.idle y.rest w1 y.next h1 x e
        ]

  -- WHOSE NEXT CALL A MOVE HOLDS UP OR LETS GO, WHERE ACTOR a HAS A STEP BEFORE AND AFTER

  module _ (a : Actor) (s : State F) (w : W s) (ma : Move F) (ea : move p s a ≡ Some ma) where
    -- the step after an opening
    then_kept : (i : ℕ) (b : Buffer) (k : CallKind) (f : F) (x ma' first : Move F) → slice_get s.threads i ≡ Some (record { core = Resting; buffer = b }) → move p s (Exec i) ≡ Some first
        → move p (perform (perform s i (opening b k f)) i x) a ≡ Some ma' → NextKept p (perform s i (opening b k f)) (perform (perform s i (opening b k f)) i x) i
    then_kept i b k f x ma' first idle begins after = elim (cases_eq i (thread_of a)) [
      | inl same ↦ kept_own p W inv (perform s i (opening b k f)) i x (opened_not_over p s i b k f idle)
          (subst (λ u. is_over_at p (perform (perform s i (opening b k f)) i x) u ≡ false) (sym same) (moving_is_not_over p (perform (perform s i (opening b k f)) i x) a ma' after))
      | inr other ↦ kept_by_others p (perform s i (opening b k f)) i x (never_first p W inv s a (Exec i) ma first w other ea begins)
    ]

    rest_kept : (i : ℕ) (b : Buffer) (k : CallKind) (f : F) (rest : List (Move F)) (ma' first : Move F) → slice_get s.threads i ≡ Some (record { core = Resting; buffer = b }) → next_call p s i ≡ Some k → move p s (Exec i) ≡ Some first
        → Then p n s b f rest → move p (perform_all (perform s i (opening b k f)) i rest) a ≡ Some ma' → NextKept p s (perform_all (perform s i (opening b k f)) i rest) i
    rest_kept i b k f _ ma' first idle may begins (Ends cut) after = kept_opening p W inv s i b k f idle may
    rest_kept i b k f _ ma' first idle may begins (Goes x act) after = λ j ne. then_kept i b k f x ma' first idle begins after j ne ∙ kept_opening p W inv s i b k f idle may j ne

    kind_kept : (b : Actor) (bs : List (Move F)) (ma' : Move F) → Kind p n s b bs → move p (perform_all s (thread_of b) bs) a ≡ Some ma' → NextKept p s (perform_all s (thread_of b) bs) (thread_of b)
    kind_kept _ _ ma' (Step b bs y) after =
        let after' : move p (perform s (thread_of b) y.one) a ≡ Some ma' = subst (λ ys. move p (perform_all s (thread_of b) ys) a ≡ Some ma') y.is after in
        subst (λ ys. NextKept p s (perform_all s (thread_of b) ys) (thread_of b)) (sym y.is) (kept p W inv s a b ma y.one ma' w ea y.moves after')
    kind_kept _ _ ma' (Call i bs y) after =
        let calls : move p s (Exec i) ≡ Some (opening y.buffer y.kind (p.start y.kind)) = (let at = y.idle in let may = y.may in rw (at, may) refl) in
        let after' : move p (perform_all (perform s i (opening y.buffer y.kind y.frame)) i y.rest) a ≡ Some ma' = subst (λ ys. move p (perform_all s i ys) a ≡ Some ma') y.is after in
        subst (λ ys. NextKept p s (perform_all s i ys) i) (sym y.is) (rest_kept i y.buffer y.kind y.frame y.rest ma' _ y.idle y.may calls y.next after')

  -- A REASON STAYS AFTER AN UNCHOSEN ACTOR'S MOVE

  module _ (a : Actor) (s : State F) (w : W s) (ma : Move F) (ea : move p s a ≡ Some ma) (access : Access) (log : Log) (j : ℕ) (r : Reason) where
    then_stays : (i : ℕ) (b : Buffer) (k : CallKind) (f : F) (rest : List (Move F)) (ma' first : Move F) → (Has chosen (Exec i) → ⊥) → W (perform s i (opening b k f)) → slice_get s.threads i ≡ Some (record { core = Resting; buffer = b }) → move p s (Exec i) ≡ Some first
        → Then p n s b f rest → move p (perform_all (perform s i (opening b k f)) i rest) a ≡ Some ma' → Holds p fu (perform s i (opening b k f)) chosen access log j r → Holds p fu (perform_all (perform s i (opening b k f)) i rest) chosen access log j r
    then_stays i b k f _ ma' first nb w1 idle begins (Ends cut) after h = h
    then_stays i b k f _ ma' first nb w1 idle begins (Goes x act) after h =
        let s1 : State F = perform s i (opening b k f) in
        let at1 : slice_get s1.threads i ≡ Some (record { core = Executing f; buffer = b }) = get_set_same s.threads i _ _ idle in
        let runs : move p s1 (Exec i) ≡ Some x = rw at1 act in
        reason_stays p W fu laws s1 w1 chosen access log r (Exec i) x j nb (then_kept a s w ma ea i b k f x ma' first idle begins after) runs h

    kind_stays : (b : Actor) (bs : List (Move F)) (ma' : Move F) → Kind p n s b bs → (Has chosen b → ⊥) → move p (perform_all s (thread_of b) bs) a ≡ Some ma' → Holds p fu s chosen access log j r → Holds p fu (perform_all s (thread_of b) bs) chosen access log j r
    kind_stays _ _ ma' (Step b bs y) nb after h =
        let after' : move p (perform s (thread_of b) y.one) a ≡ Some ma' = subst (λ ys. move p (perform_all s (thread_of b) ys) a ≡ Some ma') y.is after in
        let stays = reason_stays p W fu laws s w chosen access log r b y.one j nb (kept p W inv s a b ma y.one ma' w ea y.moves after') y.moves h in
        subst (λ ys. Holds p fu (perform_all s (thread_of b) ys) chosen access log j r) (sym y.is) stays
    kind_stays _ _ ma' (Call i bs y) nb after h =
        let calls : move p s (Exec i) ≡ Some (opening y.buffer y.kind (p.start y.kind)) = (let at = y.idle in let may = y.may in rw (at, may) refl) in
        let after' : move p (perform_all (perform s i (opening y.buffer y.kind y.frame)) i y.rest) a ≡ Some ma' = subst (λ ys. move p (perform_all s i ys) a ≡ Some ma') y.is after in
        let w1 = holds_as_steps p W inv (Exec i) s _ w (opening_as_steps p n s i y.buffer y.kind y.frame y.idle y.may y.leads) in
        let h1 = opening_stays p W inv fu laws chosen n s w i y.buffer y.kind y.frame y.idle y.may y.leads access log j nb r h in
        subst (λ ys. Holds p fu (perform_all s i ys) chosen access log j r) (sym y.is)
        (then_stays i y.buffer y.kind y.frame y.rest ma' _ nb w1 y.idle calls y.next after' h1)

-- A MOVE MEETS ANOTHER ACTOR'S

pub record Meets {F : Type 0} (p : Program F) (n : Extent) (s : State F) (a b : Actor) (xs bs : List (Move F)) : Type 0 where
  pub later : List (Move F)
  pub theirs : List (Move F)
  pub mine : parts p n (perform_all s (thread_of b) bs) a ≡ Some later
  pub others : parts p n (perform_all s (thread_of a) xs) b ≡ Some theirs
  pub alike : Alike later xs
  pub meet : AtLeast (perform_all (perform_all s (thread_of a) xs) (thread_of b) theirs) (perform_all (perform_all s (thread_of b) bs) (thread_of a) later)

-- of the same thread
module _ {F : Type 0} (p : Program F) (n : Extent) (W : State F → Type 0) (inv : IsInvariant p W) (s : State F) (w : W s) where
  own_meets : (a b : Actor) (xs bs : List (Move F)) → (b ≡ a → ⊥) → thread_of b ≡ thread_of a → parts p n s a ≡ Some xs → parts p n s b ≡ Some bs → Meets p n s a b xs bs
  own_meets (Exec i) (Exec j) xs bs nb same ea eb = absurd (nb (ap Exec same))
  own_meets (Drains i) (Drains j) xs bs nb same ea eb = absurd (nb (ap Drains same))
  own_meets (Exec i) (Drains j) xs bs nb same ea eb = subst (λ k. Meets p n s (Exec i) (Drains k) xs bs) (sym same) (go (drain_kind p n s i bs (subst (λ k. parts p n s (Drains k) ≡ Some bs) same eb)))
    where
      go : IsStep p n s (Drains i) bs → Meets p n s (Exec i) (Drains i) xs bs
      go d =
          let o : OwnMoves p n s i xs d.one = own_moves p W inv n s w i xs d.one ea d.moves in
          subst (λ ys. Meets p n s (Exec i) (Drains i) xs ys) (sym d.is) (record {
            later = o.es';
            theirs = one_part o.d';
            mine = o.exec_after;
            others = o.drain_after;
            alike = o.alike;
            meet = subst (λ y. AtLeast y (perform_all (perform s i d.one) i o.es')) o.meet (at_least_refl _);
          })
  own_meets (Drains i) (Exec j) xs bs nb same ea eb = subst (λ k. Meets p n s (Drains i) (Exec k) xs bs) (sym same) (go (drain_kind p n s i xs ea))
    where
      eb' : parts p n s (Exec i) ≡ Some bs
      eb' = subst (λ k. parts p n s (Exec k) ≡ Some bs) same eb

      go : IsStep p n s (Drains i) xs → Meets p n s (Drains i) (Exec i) xs bs
      go d =
          let o : OwnMoves p n s i bs d.one = own_moves p W inv n s w i bs d.one eb' d.moves in
          subst (λ ys. Meets p n s (Drains i) (Exec i) ys bs) (sym d.is) (record {
            later = one_part o.d';
            theirs = o.es';
            mine = o.drain_after;
            others = o.exec_after;
            alike = λ x h. elim h [ inl e ↦ (d.one, inl refl, ap (λ (z : Move F). z.access) (sym e) ∙ o.access, ap (λ (z : Move F). z.log) (sym e) ∙ o.log) | inr e ↦ absurd e ];
            meet = subst (λ y. AtLeast (perform_all (perform s i d.one) i o.es') y) o.meet (at_least_refl _);
          })

module _ {F : Type 0} (p : Program F) (n : Extent) (W : State F → Type 0) (inv : IsInvariant p W) (un : IsUnwritten p n W) (fu : Future F) (laws : IsFuture p W fu) (chosen : List Actor) where
  -- what all chosen actors keep until one of them moves
  pub record AllFree (s : State F) : Type 0 where
    pub holds : W s
    pub valid : (a : Actor) → Has chosen a → IsValid p n fu s chosen a

  not_own : (a b : Actor) → Has chosen a → (Has chosen b → ⊥) → b ≡ a → ⊥
  not_own a b h nb e = nb (subst (Has chosen) (sym e) h)

  -- an actor inside has no move
  never_inside : (s : State F) (b : Actor) (bs : List (Move F)) → (Has chosen b → ⊥) → parts p n s b ≡ Some bs → IsInside p n s chosen (thread_of b) → ⊥
  never_inside s b bs nb eb h = elim (h b refl) [ inl has ↦ nb has | inr none ↦ none-some _ (sym none ∙ late_is p n s b bs eb) ]

  meets : (s : State F) (w : W s) (a b : Actor) (ms bs : List (Move F)) → Has chosen a → parts p n s a ≡ Some ms → ((j : ℕ) → j < length s.threads → j ≢ thread_of a → MayPassThread p n fu s chosen ms j)
      → (Has chosen b → ⊥) → parts p n s b ≡ Some bs → Meets p n s a b ms bs
  meets s w a b ms bs ha ea free nb eb = elim (cases_eq (thread_of b) (thread_of a)) [
    | inl same ↦ own_meets p n W inv s w a b ms bs (not_own a b ha nb) same ea eb
    | inr other ↦
        let (mb, emb) = first_step p n s b bs eb in
        let (t, at) = there p s b mb emb in
        let lt = slice_get_within s.threads (thread_of b) t at in
        let pass : AllPass ms bs = λ m y hm hy. elim (free (thread_of b) lt other) [
          | inl inside ↦ absurd (never_inside s b bs nb eb inside)
          | inr why ↦ (let (r, h) = why m hm in kind_passes p n W inv fu laws chosen s w m r b bs (kind_of p n s b bs eb) nb h y hy)
        ] in
        record {
          later = ms;
          theirs = bs;
          mine = parts_past p n W un s a b ms bs w other ea eb;
          others = parts_past p n W un s b a bs ms w (λ e. other (sym e)) eb ea;
          alike = alike_refl ms;
          meet = all_past p (thread_of a) (thread_of b) (λ e. other (sym e)) ms bs s pass;
        }
  ]

  long_past : (ms : List (Move F)) (s : State F) (i : ℕ) → length (perform_all s i ms).threads ≡ length s.threads
  long_past [] s i = refl
  long_past (m ∷ ms) s i = long_past ms (perform s i m) i ∙ length-set s.threads i _

  carried : (s : State F) (j : ℕ) (x y : Access) (l k : Log) (r : Reason) → x ≡ y → l ≡ k → Holds p fu s chosen y k j r → Holds p fu s chosen x l j r
  carried s j x y l k r e q h = rw (e, q) h

  no_parts_of : (s : State F) (d : Actor) (o : Option (List (Move F))) → option_map (perform_all s (thread_of d)) o ≡ None → o ≡ None
  no_parts_of s d None e = refl
  no_parts_of s d (Some ms) e = absurd (none-some _ (sym e))

  -- what is inside stays so
  inside_past : (s : State F) (w : W s) (b : Actor) (bs : List (Move F)) (j : ℕ) → (Has chosen b → ⊥) → parts p n s b ≡ Some bs → NextKept p s (perform_all s (thread_of b) bs) (thread_of b)
      → IsInside p n s chosen j → IsInside p n (perform_all s (thread_of b) bs) chosen j
  inside_past s w b bs j nb eb next h d at = elim (h d at) [
    | inl has ↦ inl has
    | inr none ↦ elim (cases_eq (thread_of b) (thread_of d)) [
      | inl same ↦ absurd (never_inside s b bs nb eb (subst (IsInside p n s chosen) (sym (same ∙ at)) h))
      | inr other ↦ inr (ap (option_map (perform_all (perform_all s (thread_of b) bs) (thread_of d))) (none_past p n W un s d b bs w other next (no_parts_of s d (parts p n s d) none) eb))
    ]
  ]

  valid_past : (s : State F) (w : W s) (a b : Actor) (bs : List (Move F)) → Has chosen a → IsValid p n fu s chosen a → (Has chosen b → ⊥) → parts p n s b ≡ Some bs → IsValid p n fu (perform_all s (thread_of b) bs) chosen a
  valid_past s w a b bs ha (ms, ea, free) nb eb =
      let k : Meets p n s a b ms bs = meets s w a b ms bs ha ea free nb eb in
      let (ma, ema) = first_step p n s a ms ea in
      let (ma', ema') = first_step p n (perform_all s (thread_of b) bs) a k.later k.mine in (
        k.later,
        k.mine,
        λ j lt nj. elim (free j (subst (λ l. j < l) (long_past bs s (thread_of b)) lt) nj) [
          | inl inside ↦ inl (inside_past s w b bs j nb eb (kind_kept p n W inv fu laws chosen a s w ma ema b bs ma' (kind_of p n s b bs eb) ema') inside)
          | inr why ↦ inr (λ m hm.
              let (y, hy, access, log) = k.alike m hm in
              let (r, h) = why y hy in
              (r, carried (perform_all s (thread_of b) bs) j m.access y.access m.log y.log r access log (kind_stays p n W inv fu laws chosen a s w ma ema y.access y.log j r b bs ma' (kind_of p n s b bs eb) nb ema' h)))
        ],
      )

  free_past : (s : State F) (x : AllFree s) (b : Actor) (bs : List (Move F)) → (Has chosen b → ⊥) → parts p n s b ≡ Some bs → AllFree (perform_all s (thread_of b) bs)
  free_past s x b bs nb eb = record {
    holds = holds_as_steps p W inv b s (perform_all s (thread_of b) bs) x.holds (as_steps p n s b bs eb);
    valid = λ a ha. valid_past s x.holds a b bs ha (x.valid a ha) nb eb;
  }

  pass_left : (s x y : State F) (a b : Actor) → AllFree s → Has chosen a → (Has chosen b → ⊥) → late_move p n s b ≡ Some x → late_move p n x a ≡ Some y
      → (s' : State F) × (u : State F) × (late_move p n s a ≡ Some s') × (late_move p n s' b ≡ Some u) × AtLeast u y
  pass_left s x y a b v ha nb e ey =
      let (bs, eb, is) = lates p n s x b e in
      let (ms, ea, free) = v.valid a ha in
      let k : Meets p n s a b ms bs = meets s v.holds a b ms bs ha ea free nb eb in
      let ya : late_move p n (perform_all s (thread_of b) bs) a ≡ Some y = subst (λ z. late_move p n z a ≡ Some y) (sym is) ey in
      let at : perform_all (perform_all s (thread_of b) bs) (thread_of a) k.later ≡ y = same_Some _ _ (sym (late_is p n (perform_all s (thread_of b) bs) a k.later k.mine) ∙ ya) in (
        perform_all s (thread_of a) ms,
        perform_all (perform_all s (thread_of a) ms) (thread_of b) k.theirs,
        late_is p n s a ms ea,
        late_is p n (perform_all s (thread_of a) ms) b k.theirs k.others,
        subst (λ z. AtLeast (perform_all (perform_all s (thread_of a) ms) (thread_of b) k.theirs) z) at k.meet,
      )

  steps_left : StepsLeft (late_move p n) AtLeast AllFree chosen
  steps_left = record {
    same = at_least_refl;
    trans = at_least_trans;
    simulates = late_simulates p n;
    has_step = λ s a x h. let (ms, ea, free) = x.valid a h in (_, late_is p n s a ms ea);
    stays = λ s s' b x nb e. let (bs, eb, is) = lates p n s s' b e in subst (λ y. AllFree y) is (free_past s x b bs nb eb);
    passes = λ s x y a b v h nb e ey. pass_left s x y a b v h nb e ey;
  }

  pub all_free_persistent : (s : State F) → W s → ((a : Actor) → Has chosen a → IsValid p n fu s chosen a) → Persistent (late_move p n) AtLeast s chosen
  all_free_persistent s w valid = persistent (late_move p n) AtLeast AllFree chosen steps_left s (record { holds = w; valid = valid })

-- WHERE STATES ARE WELL-FORMED

in_range : {F : Type 0} (p : Program F) (size : ℕ) (sound : CallKind → F → Bool) (s : State F) → IsWellFormed p size sound s → InRange s
in_range p size sound s w i t at = rw w.memory (w.buffers i t at)

pub valid_moves_are_persistent : (F : Type 0) → ValidMovesArePersistent F
valid_moves_are_persistent F p n size sound rank t u r closed closed_apart s chosen w apart valid =
    let f : Future F = table_future p t in
    let laws : IsFuture p (IsWellFormed p size sound) f = tables_hold_futures F p size sound t closed in
    let g : Future F = table_future p u in
    let Apart : State F → Type 0 = λ x. IsWellFormed p size sound x × IsApart p n g x in
    let un : IsUnwritten p n Apart = apart_unwritten p n size sound rank r g (tables_hold_futures F p size sound u closed_apart) in
    let inv : IsInvariant p Apart = record {
      in_range = λ x v. in_range p size sound x v.0;
      stays = λ x b m v e. un.stays x (perform x (thread_of b) m) b v (moves.step_is p x b m e);
      alone = λ x b c m m' v pro ne eb ec. well_formed.alone p size sound x b c m m' v.0 pro ne eb ec;
    } in
    let later : IsFuture p Apart f = record {
      reads_now = λ x b m q v e h. laws.reads_now x b m q v.0 e h;
      writes_now = λ x b m q v e h. laws.writes_now x b m q v.0 e h;
      reads_shrink = λ x y b j q v e h. laws.reads_shrink x y b j q v.0 e h;
      writes_shrink = λ x y b j q v e h. laws.writes_shrink x y b j q v.0 e h;
    } in
    all_free_persistent p n Apart inv un f later chosen s (w, apart) valid

reason_of : {F : Type 0} (p : Program F) (f : Future F) (s : State F) (a : Actor) (m : Move F) (j : ℕ) → PassesAlone p f s m j → (r : Reason) × Holds p f s (a ∷ []) m.access m.log j r
reason_of p f s a m j (ByNoReturn h) = (Reason.NoReturn, h)
reason_of p f s a m j (ByOwn h) = (Reason.Own, h)
reason_of p f s a m j (ByFar h) = (Reason.Far, h)
reason_of p f s a m j (ByReturns h) = (Reason.Returns, h)

pub free_is_valid : {F : Type 0} (p : Program F) (n : Extent) (f : Future F) (s : State F) (a : Actor) → IsFree p n f s a → (b : Actor) → Has (a ∷ []) b → IsValid p n f s (a ∷ []) b
free_is_valid p n f s a (ms, e, free) b (inr h) = absurd h
free_is_valid p n f s a (ms, e, free) b (inl same) = subst (IsValid p n f s (a ∷ [])) same (
  ms,
  e,
  λ j lt nj. elim (free j lt nj) [ inl still ↦ inl (λ d at. inr (still d at)) | inr why ↦ inr (λ m hm. reason_of p f s a m j (why m hm)) ],
)

pub free_is_persistent : (F : Type 0) → FreeIsPersistent F
free_is_persistent F p n size sound rank t u r closed closed_apart s a w apart free = valid_moves_are_persistent F p n size sound rank t u r closed closed_apart s (a ∷ []) w apart (free_is_valid p n (table_future p t) s a free)

-- ALL THAT HAVE A MOVE

pub whole_is_persistent : (F : Type 0) → WholeIsPersistent F
whole_is_persistent F p n s chosen whole others t none run c h = go others none run
  where
    go : (others : List Actor) → NoneOf chosen others → Steps (late_move p n) s others t → GoesFirst (late_move p n) AtLeast s c others t
    go [] none run = let (s', e) = whole.0 c h in (s', s', s', subst (λ x. late_move p n x c ≡ Some s') run e, e, refl, at_least_refl s')
    go (b ∷ rest) (nb, none) (m, e, run) = absurd (nb (whole.1 b m e))
