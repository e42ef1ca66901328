-- What a move makes of its own thread: its core, its buffer and its calls.
use Rattle.std.proofs.Common.{◌≡◌, ℕ, ◌<◌, Bool, true, List, [], ◌∷◌, ◌++◌, length, Option, Some, None, refl, sym, ◌∙◌, ap, subst}
use Rattle.std.specs.List.{slice_get}
use Rattle.std.specs.Option.{option_and_then}
use Rattle.std.proofs.lemmas.Option.{none-some, same_Some}
use Rattle.tso_model.specs.Measure.{IsRanked}
use Rattle.tso_model.specs.Programs.{Action, Answer, Barrier, CallKind, Cut, Fail, IsAnswerOf, Load, Locked, Program, Ret, Silent, Store, calls_of}
use Rattle.tso_model.specs.Prologue.{next_call}
use Rattle.tso_model.specs.States.{Answered, Began, Buffer, Called, CompactCore, Resting, Log, Executing, Same, State, Halted, CompactThread, answered, begun_by, begun_call, calls_in, latest, logged}
use Rattle.tso_model.specs.Steps.{Actor, Drains, Exec, Move, Nothing, Write, action_move, call_move, core_move, drain_move, move, thread_of}
use Rattle.tso_model.specs.WellFormed.{AllReturned, CallsFit, IsInLast, Within}
use Rattle.tso_model.proofs.Begin.{call_if_some}
use Rattle.tso_model.proofs.Ordered.{in_same}

within_push : (n : ℕ) (b : Buffer) (place word : ℕ) → Within n b → place < n → Within n (b ++ (place, word) ∷ [])
within_push n [] place word w h = (h, tt)
within_push n (e ∷ b) place word (w, ws) h = (w, within_push n b place word ws h)

-- IN THE LAST CALL

in_last_map : (f g : CallKind → Bool) → ((k : CallKind) → f k ≡ true → g k ≡ true) → (cs : List Called) → IsInLast f cs → IsInLast g cs
in_last_map f g m [] x = absurd x
in_last_map f g m (c ∷ []) (n, h) = (n, m c.kind h)
in_last_map f g m (c ∷ d ∷ cs) (r, x) = (r, in_last_map f g m (d ∷ cs) x)

pub in_last_kind : (f : CallKind → Bool) (cs : List Called) → IsInLast f cs → (k : CallKind) × (f k ≡ true)
in_last_kind f [] x = absurd x
in_last_kind f (c ∷ []) (n, h) = (c.kind, h)
in_last_kind f (c ∷ d ∷ cs) (r, x) = in_last_kind f (d ∷ cs) x

in_last_push : (f : CallKind → Bool) (k : CallKind) (h : List (List Called)) (cs : List Called) → f k ≡ true → AllReturned cs → IsInLast f (cs ++ begun_call k h ∷ [])
in_last_push f k h [] e r = (refl, e)
in_last_push f k h (c ∷ []) e (r, rs) = (r, (refl, e))
in_last_push f k h (c ∷ d ∷ cs) e (r, rs) = (r, in_last_push f k h (d ∷ cs) e rs)

returned_answer : (f : CallKind → Bool) (a : Answer) → ((k : CallKind) → f k ≡ true → IsAnswerOf k a) → (cs : List Called) → IsInLast f cs → AllReturned (answered a cs)
returned_answer f a m [] x = absurd x
returned_answer f a m (c ∷ []) (n, h) = ((a, refl, m c.kind h), tt)
returned_answer f a m (c ∷ d ∷ cs) (r, x) = (r, returned_answer f a m (d ∷ cs) x)

-- thread i, whose core and buffer were c and b and which may begin this call, has c' and b' after a move with this log
pub record Outcome {F : Type 0} (size : ℕ) (sound : CallKind → F → Bool) (call : Option CallKind) (h : List (List Called)) (i : ℕ) (c : CompactCore F) (log : Log) (c' : CompactCore F) (b' : Buffer) : Type 0 where
  pub buffer : Within size b'
  pub fit : CallsFit sound c' (calls_in (logged h i log) i)
  pub begins : (k : CallKind) → log ≡ Began k → (c ≡ Resting) × (call ≡ Some k)

module _ {F : Type 0} (p : Program F) (size : ℕ) (sound : CallKind → F → Bool) (rank : F → ℕ) (r : IsRanked p size sound rank) (call : Option CallKind) (h : List (List Called)) (i : ℕ) (lt : i < length h) (w : ℕ) where
  abbrev OutcomeOf : CompactCore F → Move F → Type 0
  OutcomeOf c m = Outcome size sound call h i c m.log (m.after w).core (m.after w).buffer

  carry : (c : CompactCore F) (m n : Move F) → Some m ≡ Some n → OutcomeOf c m → OutcomeOf c n
  carry c m n e x = subst (OutcomeOf c) (same_Some m n e) x

  abbrev InLast : F → Type 0
  InLast f = IsInLast (λ k. sound k f) (calls_in h i)

  ran : (f g : F) (b : Buffer) → ((k : CallKind) → sound k f ≡ true → sound k g ≡ true) → InLast f → Within size b → Outcome size sound call h i (Executing f) Same (Executing g) b
  ran f g b s x within = record { buffer = within; fit = in_last_map (λ k. sound k f) (λ k. sound k g) s (calls_in h i) x; begins = λ k e. cc }

  of_action : (f : F) (b : Buffer) (act : Action F) (m : Move F) → InLast f → Within size b → p.next f ≡ act → action_move b act ≡ Some m → OutcomeOf (Executing f) m
  of_action f b (Silent g) m x wb n e = carry _ _ m e (ran f g b (λ k s. (r.silent k f g s n).0) x wb)
  of_action f b (Load q l) m x wb n e = carry _ _ m e (ran f (l (latest b q w)) b (λ k s. (r.load k f q l (latest b q w) s n).0) x wb)
  of_action f b (Store q v g) m x wb n e =
      let (k, s) = in_last_kind (λ k. sound k f) (calls_in h i) x in
      carry _ _ m e (ran f g (b ++ (q, v) ∷ []) (λ k s. (r.store k f q v g s n).0) x (within_push size b q v wb (r.store k f q v g s n).2))
  of_action f [] (Barrier g) m x wb n e = carry _ _ m e (ran f g [] (λ k s. (r.barrier k f g s n).0) x wb)
  of_action f (y ∷ b) (Barrier g) m x wb n e = absurd (none-some m e)
  of_action f [] (Locked q new l) m x wb n e = carry _ _ m e (ran f (l w) [] (λ k s. (r.locked k f q new l w s n).0) x wb)
  of_action f (y ∷ b) (Locked q new l) m x wb n e = absurd (none-some m e)
  of_action f b (Ret a) m x wb n e = carry (Executing f) (record { access = Nothing; after = λ v. record { core = Resting; buffer = b }; log = Answered a }) m e (record {
    buffer = wb;
    fit = rw (in_same h i (answered a (calls_in h i)) lt) (returned_answer (λ k. sound k f) a (λ k s. (r.ret k f a s n).0) (calls_in h i) x);
    begins = λ k q. cc;
  })
  of_action f b (Fail v) m x wb n e = carry (Executing f) (record { access = Nothing; after = λ v. record { core = Halted; buffer = b }; log = Same }) m e
      (record { buffer = wb; fit = in_last_map (λ k. sound k f) (λ k. true) (λ k s. refl) (calls_in h i) x; begins = λ k q. cc })
  of_action f b Cut m x wb n e = absurd (none-some m e)

  -- a call that may begin is one of the program's
  of_call : (b : Buffer) (o : Option CallKind) (m : Move F) → ((k : CallKind) → o ≡ Some k → (n : ℕ) × (slice_get (calls_of p i) n ≡ Some k)) → AllReturned (calls_in h i) → Within size b → call ≡ o → call_move p b o ≡ Some m → OutcomeOf Resting m
  of_call b None m its x wb q e = absurd (none-some m e)
  of_call b (Some k) m its x wb q e = carry Resting (record { access = Nothing; after = λ v. record { core = Executing (p.start k); buffer = b }; log = Began k }) m e (record {
    buffer = wb;
    fit = (let (n, at) = its k refl in rw (in_same h i (calls_in h i ++ begun_call k h ∷ []) lt) (in_last_push (λ l. sound l (p.start k)) k h (calls_in h i) (r.starts i n k at) x));
    begins = λ k' is. (refl, (let same : k ≡ k' = cc in q ∙ ap Some same));
  })

  of_core : (c : CompactCore F) (b : Buffer) (m : Move F) → ((k : CallKind) → call ≡ Some k → (n : ℕ) × (slice_get (calls_of p i) n ≡ Some k)) → CallsFit sound c (calls_in h i) → Within size b → core_move p call c b ≡ Some m → OutcomeOf c m
  of_core Resting b m its x wb e = of_call b call m its x wb refl e
  of_core (Executing f) b m its x wb e = of_action f b (p.next f) m x wb refl e
  of_core Halted b m its x wb e = absurd (none-some m e)

  of_drain : (c : CompactCore F) (b : Buffer) (m : Move F) → CallsFit sound c (calls_in h i) → Within size b → drain_move c b ≡ Some m → OutcomeOf c m
  of_drain c [] m x wb e = absurd (none-some m e)
  of_drain c (y ∷ b) m x wb e = carry c (record { access = Write y.0 y.1; after = λ v. record { core = c; buffer = b }; log = Same }) m e (record { buffer = wb.1; fit = x; begins = λ k q. cc })

-- what an actor's move makes of its thread
pub outcome : {F : Type 0} (p : Program F) (size : ℕ) (sound : CallKind → F → Bool) (rank : F → ℕ) → IsRanked p size sound rank → (s : State F) (a : Actor) (t : CompactThread F) (m : Move F) (w : ℕ)
    → thread_of a < length s.history → CallsFit sound t.core (calls_in s.history (thread_of a)) → Within size t.buffer → slice_get s.threads (thread_of a) ≡ Some t → move p s a ≡ Some m
    → Outcome size sound (next_call p s (thread_of a)) s.history (thread_of a) t.core m.log (m.after w).core (m.after w).buffer
outcome {F} p size sound rank r s (Exec i) t m w lt x wb at e =
    let own : core_move p (next_call p s i) t.core t.buffer ≡ Some m = sym (ap (λ (o : Option (CompactThread F)). option_and_then (λ th. core_move p (next_call p s i) th.core th.buffer) o) at) ∙ e in
    of_core p size sound rank r (next_call p s i) s.history i lt w t.core t.buffer m (λ k q. (begun_by s i, call_if_some _ _ k q)) x wb own
outcome {F} p size sound rank r s (Drains i) t m w lt x wb at e =
    let own : drain_move t.core t.buffer ≡ Some m = sym (ap (λ (o : Option (CompactThread F)). option_and_then (λ th. drain_move th.core th.buffer) o) at) ∙ e in
    of_drain p size sound rank r (next_call p s i) s.history i lt w t.core t.buffer m x wb own
