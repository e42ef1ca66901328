-- Each call keeps a table sound.
use Rattle.std.proofs.Common.{◌≡◌, ◌∙◌, ℕ, ◌+◌, ◌<◌, ◌≤◌, ◌^◌, ◌++◌, ◌∷◌, true, List, [], length, length-append, length-set, Some, None, slice_get, refl, sym, ap, subst, arith}
use Rattle.std.proofs.lemmas.List.Sums.{AllPass-from_list_all}
use Rattle.std.proofs.lemmas.Option.{same_Some, slice_get_within}
use Rattle.tso_foot.specs.declared.table.Table.{Table}
use Rattle.tso_parts.proofs.Marked.{of_longer, old_item}
use Rattle.tso_parts.specs.Numbers.{Extends, IsNowhere}
use Rattle.tso_prog.specs.declared.client.Client.{Client}
use Rattle.tso_state.specs.declared.state.State.{State}
use Rattle.tso_table.proofs.RowLemmas.{makes_finish, makes_new, no_calls, of_replaced, open_at, open_pushed, open_set, open_within, replays_on}
use Rattle.tso_table.proofs.StateLemmas.{this_one}
use Rattle.tso_table.specs.Ends.{AreNear, IsEnd, SuccessorsAreThere}
use Rattle.tso_table.specs.Leading.{IsKept, shard_of}
use Rattle.tso_table.specs.OneThread.{Call, Makes, Reply, Rows, are_there, claim, claim_at, filed, finish, intern, is_this, no_rows, placed, taken, with_slot}
use Rattle.tso_table.specs.Sheets.{IsDone, IsKeptIn, IsSound, one_if_open, open_count}
use Rattle.tso_table.specs.declared.kept.Kept.{Kept}
use Rattle.tso_table.specs.declared.slot.Filed.{Filed}
use Rattle.tso_table.specs.declared.slot.Near.{Near}
use Rattle.tso_table.specs.declared.slot.Slot.{Slot}
use Rattle.tso_table.specs.declared.slot.Slot.TheVariants.{Waiting, Claimed, Done}

successors_stay : (c : Client) (k : ℕ) (old new : List State) (s : State) (f : Filed) → Extends old new → SuccessorsAreThere c k old s f → SuccessorsAreThere c k new s f
successors_stay c k old new s f stays h i x n move =
    let at = h i x n move in
    record { after = at.after; step = at.step; at = stays n.place at.after at.at }

-- where the near successors stand at their places, those of the shard stand where their numbers say
pub near_there : (c : Client) (k : ℕ) (states : List State) (s : State) (f : Filed) (near : List Near) → AreNear c k s f near → are_there states near ≡ true → SuccessorsAreThere c k states s f
near_there c k states s f near all there i x n move =
    let h = all.every i x n move in
    let (j, lt, e) = h.among in
    let passes = AllPass-from_list_all (λ (m : Near). is_this m.state (slice_get states m.place)) near there j h.one lt in
    let this : is_this h.one.state (slice_get states h.one.place) ≡ true = subst (λ (m : Near). is_this m.state (slice_get states m.place) ≡ true) e passes in
    record {
      after = h.one.state;
      step = h.is.step;
      at = ap (slice_get states) h.is.place ∙ this_one h.one.state (slice_get states h.one.place) this;
    }

module _ {c : Client} {t : Table} {k : ℕ} where
  pub sound_empty : IsSound c t k no_rows [] 0 0
  sound_empty = record {
    replays = no_calls;
    slots = refl;
    paths = refl;
    kept = λ n p h. absurd (let e : None ≡ Some p.state = h.state in cc);
    here = λ n s e. absurd (let h : None ≡ Some s = e in cc);
    done = λ n s f e _. absurd (let h : None ≡ Some s = e in cc);
    unfinished_is = refl;
    small = omega arith;
  }

  -- a call that leaves the rows
  pub sound_same : {r : Rows} {actors : List (List ℕ)} {n e : ℕ} (call : Call) (reply : Reply) → IsSound c t k r actors n e → Makes r call r reply → IsSound c t k r actors n (e + 1)
  sound_same {r = r} {e = e} call reply h made = record {
    replays = replays_on r r e call reply h.replays made;
    slots = h.slots;
    paths = h.paths;
    kept = h.kept;
    here = h.here;
    done = h.done;
    unfinished_is = h.unfinished_is;
    small = h.small;
  }

  -- a new state at the end
  pub sound_push : {r : Rows} {actors : List (List ℕ)} {n e : ℕ} (p : Kept) → IsSound c t k r actors n e → IsKept c p → shard_of p.state ≡ k → length r.states + 1 < 2 ^ 32 → IsNowhere r.states p.state
      → IsSound c t k (record { states = r.states ++ p.state ∷ []; slots = r.slots ++ Waiting ∷ [] }) (actors ++ p.actors ∷ []) (n + 1) (e + 1)
  sound_push {r = r} {actors = actors} {e = e} p h leads at_home room absent = record {
    replays = replays_on r _ e (intern p.state) (placed (length r.states) true) h.replays (makes_new r p.state absent);
    slots = (let a = length-append r.states (p.state ∷ []) in let b = length-append r.slots (Waiting ∷ []) in let same = h.slots in omega (arith, a, b, same));
    paths = (let a = length-append r.states (p.state ∷ []) in let b = length-append actors (p.actors ∷ []) in let same = h.paths in omega (arith, a, b, same));
    kept = kept;
    here = λ m s at. of_longer r.states p.state s m at (h.here m s) (λ _ same. subst (λ (x : State). shard_of x ≡ k) same at_home);
    done = done;
    unfinished_is = (let a = open_pushed r.slots Waiting in let same = h.unfinished_is in omega (arith, a, same));
    small = (let a = length-append r.states (p.state ∷ []) in omega (arith, a, room));
  }
    where
      kept : (m : ℕ) (q : Kept) → IsKeptIn (r.states ++ p.state ∷ []) (actors ++ p.actors ∷ []) m q → IsKept c q
      kept m q at = of_longer r.states p.state q.state m at.state
          (λ old. of_longer actors p.actors q.actors m at.actors_at
          (λ path. h.kept m q (record { state = old; actors_at = path }))
          (λ last _. absurd (let lt = slice_get_within r.states m q.state old in let same = h.paths in omega (arith, lt, last, same))))
          (λ last is. of_longer actors p.actors q.actors m at.actors_at
          (λ path. absurd (let lt = slice_get_within actors m q.actors path in let same = h.paths in omega (arith, lt, last, same)))
          (λ _ path. let whole : p ≡ q = λ i. record { state = is i; actors = path i } in subst (IsKept c) whole leads))

      done : (m : ℕ) (s : State) (f : Filed) → slice_get (r.states ++ p.state ∷ []) m ≡ Some s → slice_get (r.slots ++ Waiting ∷ []) m ≡ Some (Done f) → IsDone c t k (r.states ++ p.state ∷ []) s f
      done m s f at slot = of_longer r.slots Waiting (Done f) m slot
          (λ old_slot. of_longer r.states p.state s m at
          (λ old. let is = h.done m s f old old_slot in record { end = is.end; successors = successors_stay c k r.states (r.states ++ p.state ∷ []) s f (λ i x e. old_item r.states p.state x i e) is.successors })
          (λ last _. absurd (let lt = slice_get_within r.slots m (Done f) old_slot in let same = h.slots in omega (arith, lt, last, same))))
          (λ _ clash. absurd (let no : Waiting ≡ Done f = clash in cc))

  -- a slot that changes
  sound_set : {r : Rows} {actors : List (List ℕ)} {n e : ℕ} (m place : ℕ) (x y : Slot) (call : Call) (reply : Reply) → IsSound c t k r actors n e → slice_get r.slots place ≡ Some x
      → ((s : State) (f : Filed) → slice_get r.states place ≡ Some s → y ≡ Done f → IsDone c t k r.states s f)
      → m + one_if_open x ≡ n + one_if_open y → Makes r call (with_slot r place y) reply → IsSound c t k (with_slot r place y) actors m (e + 1)
  sound_set {r = r} {e = e} m place x y call reply h at now count made = record {
    replays = replays_on r (with_slot r place y) e call reply h.replays made;
    slots = length-set r.slots place y ∙ h.slots;
    paths = h.paths;
    kept = h.kept;
    here = h.here;
    done = λ i s f here slot. of_replaced r.slots place y i (Done f) slot
        (λ is same. now s f (subst (λ (j : ℕ). slice_get r.states j ≡ Some s) is here) same)
        (λ old. h.done i s f here old);
    unfinished_is = (let a = open_set r.slots place x y at in let same = h.unfinished_is in omega (arith, a, same, count));
    small = h.small;
  }

  -- a state that waits is claimed
  pub sound_claim : {r : Rows} {actors : List (List ℕ)} {n e : ℕ} (place : ℕ) → IsSound c t k r actors n e → slice_get r.slots place ≡ Some Waiting → IsSound c t k (with_slot r place Claimed) actors n (e + 1)
  sound_claim {r = r} {n = n} place h at = sound_set n place Waiting Claimed (claim place) (taken true) h at (λ s f here clash. absurd (let no_way : Claimed ≡ Done f = clash in cc)) refl (ap (claim_at r place) at)

  -- an end is filed
  pub sound_finish : {r : Rows} {actors : List (List ℕ)} {n m e : ℕ} {s : State} {f : Filed} {near : List Near} (place : ℕ) → IsSound c t k r actors n e → slice_get r.slots place ≡ Some Claimed
      → is_this s (slice_get r.states place) ≡ true → are_there r.states near ≡ true → IsEnd c t s f → AreNear c k s f near → m + 1 ≡ n → IsSound c t k (with_slot r place (Done f)) actors m (e + 1)
  sound_finish {r = r} {m = m} {s = s} {f = f} {near = near} place h at this there end close less =
      let standing : slice_get r.states place ≡ Some s = this_one s (slice_get r.states place) this in
      let is_done : IsDone c t k r.states s f = record { end = end; successors = near_there c k r.states s f near close there } in
      sound_set m place Claimed (Done f) (finish place s f near) filed h at
      (λ u g here same.
      let state : s ≡ u = same_Some s u (sym standing ∙ here) in
      let whole : f ≡ g = (let q : Done f ≡ Done g = same in cc) in
      subst (λ (x : State). IsDone c t k r.states x g) state (subst (λ (x : Filed). IsDone c t k r.states s x) whole is_done))
      (omega (arith, less)) (makes_finish r place s f near at this there)

  -- some state is not done
  pub some_open : {r : Rows} {actors : List (List ℕ)} {n e : ℕ} (place : ℕ) → IsSound c t k r actors n e → slice_get r.slots place ≡ Some Claimed → 1 ≤ n
  some_open {r = r} place h at = let a = open_at r.slots place at in let same = h.unfinished_is in omega (arith, a, same)

  pub few_open : {r : Rows} {actors : List (List ℕ)} {n e : ℕ} → IsSound c t k r actors n e → open_count r.slots < 2 ^ 32
  few_open {r = r} h = let a = open_within r.slots in let same = h.slots in let lt = h.small in omega (arith, a, same, lt)
