-- The moves of two free actors lead to one state in either order.
use Rattle.std.proofs.Common.{◌≡◌, ◌≢◌, ◌∙◌, ℕ, zero, suc, ◌≤◌, List, [], ◌∷◌, length, Some, slice_get, refl, sym, ap, subst, inl, inr, arith}
use Rattle.std.specs.List.{AllZip}
use Rattle.std.proofs.lemmas.List.{ext_get_or}
use Rattle.std.proofs.lemmas.Option.{same_Some}
use Rattle.tso_confluence.proofs.Backs.{state_back, state_there}
use Rattle.tso_confluence.proofs.Ground.{IsGround, IsSound, ground_after, is_ground, is_ranked, own_closed}
use Rattle.tso_confluence.specs.Laws.{FreeMovesMeet}
use Rattle.tso_confluence.specs.Stops.{HasOneStop}
use Rattle.tso_crossing.proofs.Free.{free_is_persistent}
use Rattle.tso_crossing.specs.Moves.{late_move}
use Rattle.tso_foot.proofs.WithinLemmas.{closed_is_the_models}
use Rattle.tso_foot.specs.Laws.{arrays_view, table_view}
use Rattle.tso_foot.specs.Within.{is_within}
use Rattle.tso_foot.specs.declared.table.ArrayTable.{ArrayTable}
use Rattle.tso_foot.specs.declared.table.Table.{Table}
use Rattle.tso_machine.specs.Activations.{Activation}
use Rattle.tso_machine.specs.Programs.{program_of}
use Rattle.tso_machine.specs.Soundness.{rank}
use Rattle.tso_model.specs.Reduce.{Has, Persistent}
use Rattle.tso_model.specs.States as states
use Rattle.tso_model.specs.States.{Called, calls_in}
use Rattle.tso_model.specs.Steps as model
use Rattle.tso_model.specs.Strictness.{AtLeast, CalledAtLeast, HistoryAtLeast}
use Rattle.tso_move.proofs.FreeLemmas.{free_is_the_models}
use Rattle.tso_move.specs.Free.{IsFree}
use Rattle.tso_move.specs.Own.{extent_of}
use Rattle.tso_move.specs.Runs.{IsMove}
use Rattle.tso_prog.specs.declared.client.Client.{Client}
use Rattle.tso_state.specs.Actors.{actor_of}
use Rattle.tso_state.specs.Views.{state_of}
use Rattle.tso_state.specs.WellFormed.{word_count}
use Rattle.tso_state.specs.declared.actor.Actor.{Actor}
use Rattle.tso_state.specs.declared.actor.Actor.TheVariants as actors
use Rattle.tso_state.specs.declared.state.State.{State}

-- ---- states of which each is at least as strict as the other

both_ways : (x y : ℕ) → x ≤ y → y ≤ x → x ≡ y
both_ways x y h k = omega (arith, h, k)

abbrev HasWidth : ℕ → List Called → Type 0
HasWidth n cs = (k : ℕ) (c : Called) → slice_get cs k ≡ Some c → length c.seen ≡ n

same_called : (n : ℕ) (x y : Called) → length x.seen ≡ n → length y.seen ≡ n → CalledAtLeast x y → CalledAtLeast y x → x ≡ y
same_called n x y lx ly h k =
    let seen : x.seen ≡ y.seen = ext_get_or 0 x.seen y.seen (lx ∙ sym ly) (λ i lt. both_ways _ _ (k.seen i) (h.seen i)) in
    λ i. record { kind = h.kind i; seen = seen i; answer = h.answer i }

same_calls : (n : ℕ) (xs ys : List Called) → HasWidth n xs → HasWidth n ys → AllZip CalledAtLeast xs ys → AllZip CalledAtLeast ys xs → xs ≡ ys
same_calls n [] [] wx wy h k = refl
same_calls n [] (y ∷ ys) wx wy h k = absurd h
same_calls n (x ∷ xs) [] wx wy h k = absurd h
same_calls n (x ∷ xs) (y ∷ ys) wx wy h k =
    let head = same_called n x y (wx zero x refl) (wy zero y refl) h.0 k.0 in
    let tail = same_calls n xs ys (λ i. wx (suc i)) (λ i. wy (suc i)) h.1 k.1 in
    λ i. head i ∷ tail i

same_histories : (n : ℕ) (xs ys : List (List Called)) → ((i : ℕ) → HasWidth n (calls_in xs i)) → ((i : ℕ) → HasWidth n (calls_in ys i)) → HistoryAtLeast xs ys → HistoryAtLeast ys xs → xs ≡ ys
same_histories n [] [] wx wy h k = refl
same_histories n [] (y ∷ ys) wx wy h k = absurd h
same_histories n (x ∷ xs) [] wx wy h k = absurd h
same_histories n (x ∷ xs) (y ∷ ys) wx wy h k =
    let head = same_calls n x y (wx zero) (wy zero) h.0 k.0 in
    let tail = same_histories n xs ys (λ i. wx (suc i)) (λ i. wy (suc i)) h.1 k.1 in
    λ i. head i ∷ tail i

same_if_both : (c : Client) (t : Table) (u v : states.State Activation) → IsSound c t u → IsSound c t v → AtLeast u v → AtLeast v u → u ≡ v
same_if_both c t u v wu wv h k =
    let history = same_histories (length (program_of c).calls) u.history v.history (λ i n x at. (wu.calls i n x at).width) (λ i n x at. (wv.calls i n x at).width) h.history k.history in
    λ i. record { memory = h.memory i; threads = h.threads i; history = history i }

-- ---- one of two actors goes first

pub same_actor : (a b : Actor) → actor_of a ≡ actor_of b → a ≡ b
same_actor (actors.Exec i) (actors.Exec j) e = let k : i ≡ j = cc in ap actors.Exec k
same_actor (actors.Exec i) (actors.Drain j) e = absurd (let h : model.Exec i ≡ model.Drains j = e in cc)
same_actor (actors.Drain i) (actors.Exec j) e = absurd (let h : model.Drains i ≡ model.Exec j = e in cc)
same_actor (actors.Drain i) (actors.Drain j) e = let k : i ≡ j = cc in ap actors.Drain k

not_one : (a b : Actor) → a ≢ b → Has (actor_of a ∷ []) (actor_of b) → ⊥
not_one a b ne (inl same) = ne (same_actor a b same)
not_one a b ne (inr h) = absurd h

-- where a leads to x and b to y: b's move of x, and a's of y, of which the first leads to a state that is at least as strict
record GoesFirst (c : Client) (own : ArrayTable) (x y : State) (a b : Actor) : Type 0 where
  early : states.State Activation
  late : states.State Activation
  other_moves : late_move (program_of c) (extent_of c own) (state_of x) (actor_of b) ≡ Some early
  moves : late_move (program_of c) (extent_of c own) (state_of y) (actor_of a) ≡ Some late
  stricter : AtLeast early late

goes_first : (c : Client) (own : ArrayTable) (t : Table) (s x y : State) (a b : Actor) → HasOneStop c own t s → a ≢ b → IsFree c own t s a → IsMove c own s a x → IsMove c own s b y → GoesFirst c own x y a b
goes_first c own t s x y a b h ne free to_x to_y =
    let p = program_of c in
    let n = extent_of c own in
    let g = is_ground c own t s h in
    let persistent : Persistent (late_move p n) AtLeast (state_of s) (actor_of a ∷ []) =
    free_is_persistent Activation p n (word_count c) (is_within c t) (rank c) (table_view c t) (arrays_view c own) (is_ranked c own t s h) (closed_is_the_models c t h.closed)
    (own_closed c own t s h) (state_of s) (actor_of a) g.0 g.1 (free_is_the_models c own t s a h.plausible.well_formed free) in
    let (late, first, early, moves, goes, others, stricter) = persistent (actor_of b ∷ []) (state_of y) (not_one a b ne, tt) (state_of y, to_y, refl) (actor_of a) (inl refl) in
    let (next, other, ends) = others in
    let there : first ≡ state_of x = same_Some first (state_of x) (sym goes ∙ to_x) in
    record {
      early = early;
      late = late;
      other_moves = ap (λ m. late_move p n m (actor_of b)) (sym there) ∙ other ∙ ap Some ends;
      moves = moves;
      stricter = stricter;
    }

-- ---- both orders

pub free_moves_meet : (c : Client) → FreeMovesMeet c
free_moves_meet c own t s x y a b h ne free_a free_b to_x to_y =
    let p = program_of c in
    let n = extent_of c own in
    let one = goes_first c own t s x y a b h ne free_a to_x to_y in
    let two = goes_first c own t s y x b a h (λ e. ne (sym e)) free_b to_y to_x in
    let g = is_ground c own t s h in
    let at_x : IsGround c own t (state_of x) = ground_after c own t s h (state_of s) (state_of x) (actor_of a) g to_x in
    let at_y : IsGround c own t (state_of y) = ground_after c own t s h (state_of s) (state_of y) (actor_of b) g to_y in
    let early : IsGround c own t one.early = ground_after c own t s h (state_of x) one.early (actor_of b) at_x one.other_moves in
    let late : IsGround c own t one.late = ground_after c own t s h (state_of y) one.late (actor_of a) at_y one.moves in
    let same_late : two.early ≡ one.late = same_Some two.early one.late (sym two.other_moves ∙ one.moves) in
    let same_early : two.late ≡ one.early = same_Some two.late one.early (sym two.moves ∙ one.other_moves) in
    let back : AtLeast one.late one.early = subst (λ m. AtLeast m one.early) same_late (subst (λ m. AtLeast two.early m) same_early two.stricter) in
    let same : one.early ≡ one.late = same_if_both c t one.early one.late early.0 late.0 one.stricter back in
    let there : state_of (state_back one.early) ≡ one.early = state_there c t one.early early.0 in
    record {
      both = state_back one.early;
      first = one.other_moves ∙ ap Some (sym there);
      second = one.moves ∙ ap Some (sym same ∙ sym there);
    }
