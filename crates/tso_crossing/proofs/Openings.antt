-- Openings of calls, and the parts of moves.
use Rattle.std.proofs.Common.{◌≡◌, ℕ, zero, suc, ◌+◌, ◌<◌, ◌==◌, if◌then◌else◌, Bool, true, false, List, length, get_or, set, [], ◌∷◌, Option, Some, None, refl, ◌∙◌, ap, arith}
use Rattle.std.specs.List.{slice_get}
use Rattle.std.specs.Option.{option_map}
use Rattle.std.proofs.lemmas.Grind.{get_or-set_at}
use Rattle.std.proofs.lemmas.List.{get_or-set_other}
use Rattle.std.proofs.lemmas.Option.{none-some, same_Some, option_and_then_some}
use Rattle.tso_model.specs.Programs.{CallKind, Action, Silent, Load, Store, Barrier, Locked, Ret, Fail, Cut, Program}
use Rattle.tso_model.specs.Prologue.{next_call}
use Rattle.tso_model.specs.States.{Same, CompactCore, Resting, Executing, Buffer, CompactThread, State, latest, word_seen}
use Rattle.tso_model.specs.Steps.{Exec, Drains, Move, Nothing, Read, action_move, move, perform}
use Rattle.tso_crossing.specs.Moves.{Extent, call_parts, goes_on, if_own, one_part, opened, opened_call, opening, or_stay, parts, readable}

-- what it may read is what is there
pub readable_is : (own : ℕ → Bool) (b : Buffer) (memory : List ℕ) (q v : ℕ) → readable own b memory q ≡ Some v → word_seen b memory q ≡ v
readable_is own b memory q v e = go (own q) e
  where
    go : (o : Bool) → if_own o (word_seen b memory q) ≡ Some v → word_seen b memory q ≡ v
    go true h = same_Some _ v h
    go false h = absurd (none-some v h)

module _ {F : Type 0} where
  -- a step of an opening
  abbrev pub passing : F → Buffer → Move F
  passing g b = record { access = Nothing; after = λ w. record { core = Executing g; buffer = b }; log = Same }

  -- an instruction that the opening of thread i goes past is a step that does no more
  pub passing_move : (own : ℕ → Bool) (b : Buffer) (s : State F) (i : ℕ) (act : Action F) (g : F) → goes_on (readable own b s.memory) b act ≡ Some g → (m : Move F) × (action_move b act ≡ Some m) × (perform s i m ≡ perform s i (passing g b))
  passing_move own b s i (Silent h) g e = (passing h b, refl, ap (λ f. perform s i (passing f b)) (same_Some h g e))
  passing_move own b s i (Load q k) g e =
      option_and_then_some _ (readable own b s.memory q) g e (λ v is at. (record { access = Read q; after = λ w. record { core = Executing (k (latest b q w)); buffer = b }; log = Same }, refl, ap (λ f. perform s i (passing f b)) (ap k (readable_is own b s.memory q v is) ∙ same_Some _ _ at)))
  passing_move own b s i (Store q v h) g e = absurd (none-some g e)
  passing_move own [] s i (Barrier h) g e = (passing h [], refl, ap (λ f. perform s i (passing f [])) (same_Some h g e))
  passing_move own (x ∷ b) s i (Barrier h) g e = absurd (none-some g e)
  passing_move own b s i (Locked q new k) g e = absurd (none-some g e)
  passing_move own b s i (Ret a) g e = absurd (none-some g e)
  passing_move own b s i (Fail x) g e = absurd (none-some g e)
  passing_move own b s i Cut g e = absurd (none-some g e)

  -- what goes on with an entry in the buffer goes on without it
  pub goes_on_drained : (r : ℕ → Option ℕ) (x : ℕ × ℕ) (b : Buffer) (act : Action F) (g : F) → goes_on r (x ∷ b) act ≡ Some g → goes_on r b act ≡ Some g
  goes_on_drained r x b (Silent h) g e = e
  goes_on_drained r x b (Load q k) g e = e
  goes_on_drained r x b (Store q v h) g e = e
  goes_on_drained r x b (Barrier h) g e = absurd (none-some g e)
  goes_on_drained r x b (Locked q new k) g e = e
  goes_on_drained r x b (Ret a) g e = e
  goes_on_drained r x b (Fail y) g e = e
  goes_on_drained r x b Cut g e = e

  pub some_call_parts : (b : Buffer) (k : CallKind) (f : F) (act : Action F) (m : Move F) → action_move b act ≡ Some m → call_parts b k f act ≡ Some (opening b k f ∷ m ∷ [])
  some_call_parts b k f (Silent h) m e = ap (option_map (λ x. opening b k f ∷ x ∷ [])) e
  some_call_parts b k f (Load q l) m e = ap (option_map (λ x. opening b k f ∷ x ∷ [])) e
  some_call_parts b k f (Store q v h) m e = ap (option_map (λ x. opening b k f ∷ x ∷ [])) e
  some_call_parts b k f (Barrier h) m e = ap (option_map (λ x. opening b k f ∷ x ∷ [])) e
  some_call_parts b k f (Locked q new l) m e = ap (option_map (λ x. opening b k f ∷ x ∷ [])) e
  some_call_parts b k f (Ret a) m e = ap (option_map (λ x. opening b k f ∷ x ∷ [])) e
  some_call_parts b k f (Fail x) m e = ap (option_map (λ x. opening b k f ∷ x ∷ [])) e
  some_call_parts b k f Cut m e = absurd (none-some m e)

-- WHAT OPENINGS MAY READ

if_own_same : (o : Bool) (w v : ℕ) → (o ≡ true → w ≡ v) → if_own o w ≡ if_own o v
if_own_same true w v h = ap Some (h refl)
if_own_same false w v h = refl

-- the memory elsewhere is not looked at
pub readable_same : (own : ℕ → Bool) (b : Buffer) (m m' : List ℕ) → ((q : ℕ) → own q ≡ true → get_or m q 0 ≡ get_or m' q 0) → readable own b m ≡ readable own b m'
readable_same own b m m' h = λ i q. if_own_same (own q) (word_seen b m q) (word_seen b m' q) (λ o. ap (latest b q) (h q o)) i

drained_word : (m : List ℕ) (q w p : ℕ) → q < length m → (if q == p then w else get_or m p 0) ≡ get_or (set m q w) p 0
drained_word m q w p h = grind (arith, get_or-set_at, get_or-set_other)

-- nor is it whether the oldest entry is still buffered
pub readable_drained : (own : ℕ → Bool) (x : ℕ × ℕ) (b : Buffer) (m : List ℕ) → ((q : ℕ) → own q ≡ true → x.0 < length m) → readable own (x ∷ b) m ≡ readable own b (set m x.0 x.1)
readable_drained own x b m h = λ i q. if_own_same (own q) (word_seen (x ∷ b) m q) (word_seen b (set m x.0 x.1) q) (λ o. ap (latest b q) (drained_word m x.0 x.1 q (h q o))) i

module _ {F : Type 0} (p : Program F) where
  -- c instructions of an opening lead from f to g
  abbrev pub Passed : (ℕ → Option ℕ) → Buffer → ℕ → F → F → Type 0
  Passed r b zero f g = f ≡ g
  Passed r b (suc c) f g = (h : F) × Passed r b c f h × (goes_on r b (p.next h) ≡ Some g)

  -- then what is left of it leads on from g
  pub opened_past : (r : ℕ → Option ℕ) (b : Buffer) (c l n : ℕ) (f g : F) → Passed r b c f g → n ≡ c + l → opened p r n b f ≡ opened p r l b g
  opened_past r b zero l n f g q e = let same : n ≡ l = omega (arith, e) in rw (same, q) refl
  opened_past r b (suc c) l n f g (h, q, on) e = opened_past r b c (suc l) n f h q (omega (arith, e)) ∙ ap (or_stay (opened p r l b) h) on

  pub passed_drained : (r : ℕ → Option ℕ) (x : ℕ × ℕ) (b : Buffer) (c : ℕ) (f g : F) → Passed r (x ∷ b) c f g → Passed r b c f g
  passed_drained r x b zero f g q = q
  passed_drained r x b (suc c) f g (h, q, on) = (h, passed_drained r x b c f h q, goes_on_drained r x b (p.next h) g on)

  -- an opening of n instructions at most passes so many
  pub opened_passes : (r : ℕ → Option ℕ) (n : ℕ) (b : Buffer) (f : F) → (c : ℕ) × Passed r b c f (opened p r n b f)
  opened_passes r zero b f = (0, refl)
  opened_passes r (suc n) b f = go (λ g. opened_passes r n b g) (goes_on r b (p.next f)) refl
    where
      earlier : (c : ℕ) (g h : F) → goes_on r b (p.next f) ≡ Some g → Passed r b c g h → Passed r b (suc c) f h
      earlier zero g h on q = (f, refl, on ∙ ap Some q)
      earlier (suc c) g h on (y, q, on') = (y, earlier c g y on q, on')

      go : ((g : F) → (c : ℕ) × Passed r b c g (opened p r n b g)) → (o : Option F) → goes_on r b (p.next f) ≡ o → (c : ℕ) × Passed r b c f (or_stay (opened p r n b) f o)
      go further None on = (0, refl)
      go further (Some g) on = let (c, q) = further g in (suc c, earlier c g (opened p r n b g) on q)

-- MOVES OF ONE PART, AND THOSE THAT BEGIN A CALL

module _ {F : Type 0} (p : Program F) (n : Extent) (s : State F) (i : ℕ) where
  abbrev thread : CompactCore F → Buffer → CompactThread F
  thread c b = record { core = c; buffer = b }

  pub drain_parts : (t : CompactThread F) (m : Move F) → slice_get s.threads i ≡ Some t → move p s (Drains i) ≡ Some m → parts p n s (Drains i) ≡ Some (one_part m)
  drain_parts t m at e = rw at (ap (option_map one_part) (rw at at e))

  pub exec_parts : (f : F) (b : Buffer) (m : Move F) → slice_get s.threads i ≡ Some (thread (Executing f) b) → action_move b (p.next f) ≡ Some m → parts p n s (Exec i) ≡ Some (one_part m)
  exec_parts f b m at e = rw at (ap (option_map one_part) e)

  pub begun_parts : (b : Buffer) (k : CallKind) (f : F) (m : Move F) → slice_get s.threads i ≡ Some (thread Resting b) → next_call p s i ≡ Some k → opened_call p n i s.memory b k ≡ f
      → action_move b (p.next f) ≡ Some m → parts p n s (Exec i) ≡ Some (opening b k f ∷ m ∷ [])
  begun_parts b k f m at call is e = rw (at, call, is) (some_call_parts b k f (p.next f) m e)

  pub cut_parts : (b : Buffer) (k : CallKind) (f : F) → slice_get s.threads i ≡ Some (thread Resting b) → next_call p s i ≡ Some k → opened_call p n i s.memory b k ≡ f
      → p.next f ≡ Cut → parts p n s (Exec i) ≡ Some (one_part (opening b k f))
  cut_parts b k f at call is e = rw (at, call, is, e) refl
