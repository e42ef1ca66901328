-- A thread's move and its drain, in either order.
use Rattle.std.proofs.Common.{None, Option, ◌≡◌, ℕ, zero, suc, List, [], ◌∷◌, Some, refl, sym, ◌∙◌, ap, subst, inl, inr, ◌<◌, length, set, true}
use Rattle.std.specs.List.{slice_get}
use Rattle.std.specs.Option.{option_map}
use Rattle.std.proofs.lemmas.List.{set-set}
use Rattle.std.proofs.lemmas.Option.{none-some, same_Some}
use Rattle.tso_model.specs.Programs.{Action, Silent, Load, Store, Barrier, Locked, Ret, Fail, Cut, CallKind, Program}
use Rattle.tso_model.specs.Prologue.{next_call}
use Rattle.tso_model.specs.Reduce.{Has}
use Rattle.tso_model.specs.States.{Buffer, CompactCore, Executing, Resting, Same, State}
use Rattle.tso_model.specs.Steps.{Drains, Exec, Move, Write, action_move, drain_move, move, perform}
use Rattle.tso_model.proofs.Own.{OwnDiamond, own_diamond, state_eq}
use Rattle.tso_model.proofs.Persistent.{IsInvariant, there}
use Rattle.tso_model.proofs.Places.{get_set_same}
use Rattle.tso_model.proofs.Waits.{next_own}
use Rattle.tso_crossing.specs.Moves.{Extent, goes_on, one_part, opened, opened_call, opening, or_stay, parts, perform_all, readable}
use Rattle.tso_crossing.proofs.AsSteps.{Ends, Goes, Then, exec_kind, opening_as_steps}
use Rattle.tso_crossing.proofs.Openings.{begun_parts, cut_parts, drain_parts, exec_parts, readable_drained}
use Rattle.tso_crossing.proofs.Stays.{holds_as_steps}

-- part by part the same access and entry
abbrev pub Alike : {F : Type 0} → List (Move F) → List (Move F) → Type 0
Alike {F} xs ys = (x : Move F) → Has xs x → (y : Move F) × Has ys y × (x.access ≡ y.access) × (x.log ≡ y.log)

pub alike_refl : {F : Type 0} (xs : List (Move F)) → Alike xs xs
alike_refl xs x h = (x, h, refl, refl)

-- the write of a buffer's first entry
abbrev drained : {F : Type 0} → ℕ × ℕ → CompactCore F → Buffer → Move F
drained x c rest = record { access = Write x.0 x.1; after = λ w. record { core = c; buffer = rest }; log = Same }

-- both have moves: each has one after the other, and both orders end alike
pub record OwnMoves {F : Type 0} (p : Program F) (n : Extent) (s : State F) (i : ℕ) (es : List (Move F)) (d : Move F) : Type 0 where
  pub es' : List (Move F)
  pub d' : Move F
  pub exec_after : parts p n (perform s i d) (Exec i) ≡ Some es'
  pub drain_after : parts p n (perform_all s i es) (Drains i) ≡ Some (one_part d')
  pub alike : Alike es' es
  pub access : d'.access ≡ d.access
  pub log : d'.log ≡ d.log
  pub meet : perform_all (perform s i d) i es' ≡ perform (perform_all s i es) i d'

module _ {F : Type 0} (p : Program F) where
  -- an opening that stops before no fence goes as far with less in the buffer
  opened_drained : (r : ℕ → Option ℕ) (x : ℕ × ℕ) (b : Buffer) (n : ℕ) (f : F) → ((g : F) → p.next (opened p r n (x ∷ b) f) ≡ Barrier g → ⊥) → opened p r n b f ≡ opened p r n (x ∷ b) f
  opened_drained r x b zero f nf = refl
  opened_drained r x b (suc n) f nf = go (λ g h. opened_drained r x b n g h) (p.next f) refl nf
    where
      on : ((g : F) → ((h : F) → p.next (opened p r n (x ∷ b) g) ≡ Barrier h → ⊥) → opened p r n b g ≡ opened p r n (x ∷ b) g) → (o : Option F)
          → ((g : F) → p.next (or_stay (opened p r n (x ∷ b)) f o) ≡ Barrier g → ⊥) → or_stay (opened p r n b) f o ≡ or_stay (opened p r n (x ∷ b)) f o
      on further None nf = refl
      on further (Some g) nf = further g nf

      go : ((g : F) → ((h : F) → p.next (opened p r n (x ∷ b) g) ≡ Barrier h → ⊥) → opened p r n b g ≡ opened p r n (x ∷ b) g) → (act : Action F) → p.next f ≡ act
          → ((g : F) → p.next (or_stay (opened p r n (x ∷ b)) f (goes_on r (x ∷ b) act)) ≡ Barrier g → ⊥) → or_stay (opened p r n b) f (goes_on r b act) ≡ or_stay (opened p r n (x ∷ b)) f (goes_on r (x ∷ b) act)
      go further (Silent g) at nf = further g nf
      go further (Load q l) at nf = on further (option_map l (r q)) nf
      go further (Store q v g) at nf = refl
      go further (Barrier g) at nf = absurd (nf g at)
      go further (Locked q new l) at nf = refl
      go further (Ret a) at nf = refl
      go further (Fail y) at nf = refl
      go further Cut at nf = refl

  no_fence : (n : Extent) (s : State F) (x : ℕ × ℕ) (b : Buffer) (f g : F) (rest : List (Move F)) → Then p n s (x ∷ b) f rest → p.next f ≡ Barrier g → ⊥
  no_fence n s x b f g _ (Ends cut) e = cc
  no_fence n s x b f g _ (Goes m act) e = none-some m (sym (ap (action_move (x ∷ b)) e) ∙ act)

module _ {F : Type 0} (p : Program F) (W : State F → Type 0) (inv : IsInvariant p W) (n : Extent) (s : State F) (w : W s) (i : ℕ) where
  -- an opening and a drain end alike
  small : (x : ℕ × ℕ) (rest : Buffer) (k : CallKind) (f : F) → perform (perform s i (drained x Resting rest)) i (opening rest k f) ≡ perform (perform s i (opening (x ∷ rest) k f)) i (drained x (Executing f) rest)
  small x rest k f = state_eq _ _ refl (set-set s.threads i _ _ ∙ sym (set-set s.threads i _ _)) refl

  own_begins : (x : ℕ × ℕ) (rest : Buffer) (k : CallKind) (f : F) (tail : List (Move F)) → slice_get s.threads i ≡ Some (record { core = Resting; buffer = x ∷ rest }) → next_call p s i ≡ Some k → opened_call p n i s.memory (x ∷ rest) k ≡ f
      → Then p n s (x ∷ rest) f tail → opened_call p n i (set s.memory x.0 x.1) rest k ≡ f → OwnMoves p n s i (opening (x ∷ rest) k f ∷ tail) (drained x Resting rest)
  own_begins x rest k f _ at may leads (Ends cut) leads' =
      let d1 : Move F = drained x (Executing f) rest in
      let s1 : State F = perform s i (opening (x ∷ rest) k f) in
      let at1 : slice_get s1.threads i ≡ Some (record { core = Executing f; buffer = x ∷ rest }) = get_set_same s.threads i _ _ at in
      let moves1 : move p s1 (Drains i) ≡ Some d1 = rw at1 refl in
      record {
        es' = opening rest k f ∷ [];
        d' = d1;
        exec_after = cut_parts p n (perform s i (drained x Resting rest)) i rest k f (get_set_same s.threads i _ _ at) (next_own p s i (drained x Resting rest) refl ∙ may) leads' cut;
        drain_after = drain_parts p n s1 i _ d1 at1 moves1;
        alike = λ m h. elim h [ inl e ↦ (opening (x ∷ rest) k f, inl refl, ap (λ (y : Move F). y.access) (sym e), ap (λ (y : Move F). y.log) (sym e)) | inr e ↦ absurd e ];
        access = refl;
        log = refl;
        meet = small x rest k f;
      }
  own_begins x rest k f _ at may leads (Goes m act) leads' =
      let d1 : Move F = drained x (Executing f) rest in
      let s1 : State F = perform s i (opening (x ∷ rest) k f) in
      let at1 : slice_get s1.threads i ≡ Some (record { core = Executing f; buffer = x ∷ rest }) = get_set_same s.threads i _ _ at in
      let runs1 : move p s1 (Exec i) ≡ Some m = rw at1 act in
      let moves1 : move p s1 (Drains i) ≡ Some d1 = rw at1 refl in
      let w1 : W s1 = holds_as_steps p W inv (Exec i) s s1 w (opening_as_steps p n s i (x ∷ rest) k f at may leads) in
      let d : OwnDiamond p s1 i m d1 = own_diamond p s1 i m d1 runs1 moves1 (inv.in_range s1 w1) in
      let at2 : slice_get (perform s1 i d1).threads i ≡ Some (record { core = Executing f; buffer = rest }) = get_set_same s1.threads i _ _ at1 in
      let act2 : action_move rest (p.next f) ≡ Some d.exec' = rw at2 at d.exec_moves in
      let (t, at3) = there p (perform s1 i m) (Drains i) d.drain' d.drain_moves in
      record {
        es' = opening rest k f ∷ d.exec' ∷ [];
        d' = d.drain';
        exec_after = begun_parts p n (perform s i (drained x Resting rest)) i rest k f d.exec' (get_set_same s.threads i _ _ at) (next_own p s i (drained x Resting rest) refl ∙ may) leads' act2;
        drain_after = drain_parts p n (perform s1 i m) i t d.drain' at3 d.drain_moves;
        alike = λ y h. elim h [
          | inl e ↦ (opening (x ∷ rest) k f, inl refl, ap (λ (z : Move F). z.access) (sym e), ap (λ (z : Move F). z.log) (sym e))
          | inr (inl e) ↦ (m, inr (inl refl), ap (λ (z : Move F). z.access) (sym e) ∙ d.exec_access, ap (λ (z : Move F). z.log) (sym e) ∙ d.exec_log)
          | inr (inr e) ↦ absurd e
        ];
        access = d.drain_access;
        log = d.drain_log;
        meet = ap (λ y. perform y i d.exec') (small x rest k f) ∙ d.meet;
      }

  own_call : (b : Buffer) (k : CallKind) (f : F) (tail : List (Move F)) (d : Move F) → slice_get s.threads i ≡ Some (record { core = Resting; buffer = b }) → next_call p s i ≡ Some k → opened_call p n i s.memory b k ≡ f → Then p n s b f tail
      → drain_move Resting b ≡ Some d → OwnMoves p n s i (opening b k f ∷ tail) d
  own_call [] k f tail d at may leads next e = absurd (none-some d e)
  own_call (x ∷ rest) k f tail d at may leads next e =
      let before : ℕ → Option ℕ = readable (n.own i) (x ∷ rest) s.memory in
      let inside : (q : ℕ) → n.own i q ≡ true → x.0 < length s.memory = λ q o. (inv.in_range s w i _ at).0 in
      let as_far : opened p before n.most rest (p.start k) ≡ f = opened_drained p before x rest n.most (p.start k) (λ g q. no_fence p n s x rest f g tail next (ap p.next (sym leads) ∙ q)) ∙ leads in
      let leads' : opened_call p n i (set s.memory x.0 x.1) rest k ≡ f = subst (λ r. opened p r n.most rest (p.start k) ≡ f) (readable_drained (n.own i) x rest s.memory inside) as_far in
      subst (λ y. OwnMoves p n s i (opening (x ∷ rest) k f ∷ tail) y) (same_Some _ d e) (own_begins x rest k f tail at may leads next leads')

  own_run : (b : Buffer) (f : F) (m d : Move F) → slice_get s.threads i ≡ Some (record { core = Executing f; buffer = b }) → action_move b (p.next f) ≡ Some m → drain_move (Executing f) b ≡ Some d → OwnMoves p n s i (one_part m) d
  own_run [] f m d at act e = absurd (none-some d e)
  own_run (x ∷ rest) f m d at act e =
      let d1 : Move F = drained x (Executing f) rest in
      let runs : move p s (Exec i) ≡ Some m = rw at act in
      let drains : move p s (Drains i) ≡ Some d1 = rw at refl in
      let o : OwnDiamond p s i m d1 = own_diamond p s i m d1 runs drains (inv.in_range s w) in
      let at2 : slice_get (perform s i d1).threads i ≡ Some (record { core = Executing f; buffer = rest }) = get_set_same s.threads i _ _ at in
      let act2 : action_move rest (p.next f) ≡ Some o.exec' = rw at2 at o.exec_moves in
      let (t, at3) = there p (perform s i m) (Drains i) o.drain' o.drain_moves in
      let own : OwnMoves p n s i (one_part m) d1 = record {
        es' = one_part o.exec';
        d' = o.drain';
        exec_after = exec_parts p n (perform s i d1) i f rest o.exec' at2 act2;
        drain_after = drain_parts p n (perform s i m) i t o.drain' at3 o.drain_moves;
        alike = λ y h. elim h [ inl q ↦ (m, inl refl, ap (λ (z : Move F). z.access) (sym q) ∙ o.exec_access, ap (λ (z : Move F). z.log) (sym q) ∙ o.exec_log) | inr q ↦ absurd q ];
        access = o.drain_access;
        log = o.drain_log;
        meet = o.meet;
      } in
      subst (λ y. OwnMoves p n s i (one_part m) y) (same_Some _ d e) own

  pub own_moves : (es : List (Move F)) (d : Move F) → parts p n s (Exec i) ≡ Some es → move p s (Drains i) ≡ Some d → OwnMoves p n s i es d
  own_moves es d ee ed = elim (exec_kind p n s i es ee) [
    | inl x ↦ subst (λ ys. OwnMoves p n s i ys d) (sym x.is) (own_run x.buffer x.frame x.one d x.running x.acts (rw x.running at ed))
    | inr x ↦ subst (λ ys. OwnMoves p n s i ys d) (sym x.is) (own_call x.buffer x.kind x.frame x.rest d x.idle x.may x.leads x.next (rw x.idle at ed))
  ]
