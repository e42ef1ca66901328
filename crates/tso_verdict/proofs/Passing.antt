-- What is counted of states that lie between records.
use Rattle.std.proofs.Common.{◌≡◌, ◌∙◌, ◌++◌, ◌∷◌, ◌<◌, ◌+◌, [], ℕ, List, Option, None, Some, false, true, length, take, refl, sym, ap, subst, slice_get}
use Rattle.std.proofs.lemmas.List.{append_assoc, append-nil, map-append}
use Rattle.std.proofs.lemmas.List.Sums.{fold-append}
use Rattle.std.proofs.lemmas.Option.{none-some}
use Rattle.std.specs.List.{fold}
use Rattle.std.specs.Option.{option_map}
use Rattle.std.specs.Prelude.{Err, IfOk, IsSome, Ok, Result}
use Rattle.tso_cert.specs.Lookup.{tree_states}
use Rattle.tso_cert.specs.Trees.{Tree, fork, records_of}
use Rattle.tso_compact.specs.Laws.{initial_of}
use Rattle.tso_compact.specs.Plans.{HasStep, IsStep}
use Rattle.tso_crossing.proofs.AsSteps.{moves_are_steps}
use Rattle.tso_crossing.specs.Moves.{late_move, parts}
use Rattle.tso_foot.specs.declared.table.ArrayTable.{ArrayTable}
use Rattle.tso_foot.specs.declared.table.Table.{Table}
use Rattle.tso_machine.specs.Activations.{Activation}
use Rattle.tso_machine.specs.Programs.{program_of}
use Rattle.tso_move.proofs.CostLemmas.{moves_cost}
use Rattle.tso_move.specs.Cost.{cost}
use Rattle.tso_move.specs.Free.{IsFree}
use Rattle.tso_move.specs.Own.{extent_of}
use Rattle.tso_move.specs.Parts.{begun_in}
use Rattle.tso_move.specs.Runs.{HasMove, IsMove, StopsAt}
use Rattle.tso_verdict.proofs.Counting.{both, counted_in_turn, take_more}
use Rattle.tso_verdict.specs.Between.{Another, AreBehind, AreBetween, AreBeyond, Between, Both, ByCall, ByStep, Ends, Fit, IsBehind, IsBehindThread, IsBeyond, IsFromFirst, IsGoneOn, IsMovedPast, IsOpened, IsRunPast, IsWayOn, Leads, Moves, NoRecord, NoThread, OneMore, Opens, Rests, Runs, Starts, Stays, Unfit}
use Rattle.tso_verdict.specs.Calls.{refused_in, refused_noted}
use Rattle.tso_verdict.specs.Levels.{most_in}
use Rattle.tso_verdict.specs.Counted.{AreCounted, ArePassed, IsCountedBetween, IsCountedIn, IsToldIn, LeadsOn}
use Rattle.tso_verdict.specs.Marks.{marks_of, state_noted}
use Rattle.tso_verdict.specs.declared.between.Next.{Next}
use Rattle.tso_verdict.specs.declared.coverage.Coverage.{Coverage}
use Rattle.tso_verdict.specs.declared.fact.Facts.{Facts}
use Rattle.tso_flow.specs.declared.location.ProcedureKind.TheVariants as procedures
use Rattle.tso_prog.specs.declared.client.Client.{Client}
use Rattle.tso_rec.specs.Conditions.{IsLeast}
use Rattle.tso_rec.specs.Records.{ends_of}
use Rattle.tso_rec.specs.declared.basis.Grain.{Grain}
use Rattle.tso_rec.specs.declared.basis.Grain.TheVariants.{Steps}
use Rattle.tso_state.specs.Actors.{actor_of}
use Rattle.tso_state.specs.Views.{state_of}
use Rattle.tso_state.specs.WellFormed.{IsWellFormed}
use Rattle.tso_state.specs.declared.actor.Actor.{Actor}
use Rattle.tso_state.specs.declared.actor.Actor.TheVariants.{Exec, Drain}
use Rattle.tso_state.specs.declared.state.State.{State}

pub one_counted : (c : Client) (s : State) (before after : Coverage)
    → after.push.marks ≡ state_noted c procedures.Push before.push.marks s → after.pop.marks ≡ state_noted c procedures.Pop before.pop.marks s
    → after.refused.push ≡ refused_noted procedures.Push before.refused.push s → after.refused.pop ≡ refused_noted procedures.Pop before.refused.pop s
    → after.most_items ≡ before.most_items → AreCounted c before (s ∷ []) [] after
one_counted c s before after push pop push_refused pop_refused most = record { of_push = push; of_pop = pop; push_refused = push_refused; pop_refused = pop_refused; of_most = most }

-- ---- states in turn

pub nothing : (c : Client) (are : List State → Type 0) (v : Coverage) → are [] → ArePassed c are v v
nothing c are v such = record { passed = []; such = such; counted = record { of_push = refl; of_pop = refl; push_refused = refl; pop_refused = refl; of_most = refl } }

pub just : (c : Client) (are : List State → Type 0) (u v : Coverage) (s : State) → are (s ∷ []) → AreCounted c u (s ∷ []) [] v → ArePassed c are u v
just c are u v s such counted = record { passed = s ∷ []; such = such; counted = counted }

pub in_turn : (c : Client) (first second both : List State → Type 0) (u v w : Coverage) → ((xs ys : List State) → first xs → second ys → both (xs ++ ys))
    → ArePassed c first u v → ArePassed c second v w → ArePassed c both u w
in_turn c first second both u v w joined p q = record {
  passed = p.passed ++ q.passed;
  such = joined p.passed q.passed p.such q.such;
  counted = counted_in_turn c u v w p.passed q.passed [] [] p.counted q.counted;
}

pub likewise : (c : Client) (these those : List State → Type 0) (u v : Coverage) → ((xs : List State) → these xs → those xs) → ArePassed c these u v → ArePassed c those u v
likewise c these those u v so p = record { passed = p.passed; such = so p.passed p.such; counted = p.counted }

pub one_first : (c : Client) (rest all : List State → Type 0) (u v w : Coverage) (s : State) → ((xs : List State) → rest xs → all (s ∷ xs)) → AreCounted c u (s ∷ []) [] v → ArePassed c rest v w → ArePassed c all u w
one_first c rest all u v w s joined one q = record {
  passed = s ∷ q.passed;
  such = joined q.passed q.such;
  counted = counted_in_turn c u v w (s ∷ []) q.passed [] [] one q.counted;
}

-- ---- an opening

module _ (c : Client) (own : ArrayTable) (a : Actor) (after : State) where
  abbrev pub opened : State → List State → Type 0
  opened = IsOpened c own a after

  pub opening_on : (begun s s' : State) (u v w : Coverage) → LeadsOn c (opened begun) u (opened s) v → AreCounted c v (s ∷ []) [] w → IsGoneOn c own s a s' → LeadsOn c (opened begun) u (opened s') w
  opening_on begun s s' u v w leads one on x rest = leads x (one_first c (opened s') (opened s) v w x s (λ xs further. Opens s s' xs on.well_formed on.move further) one rest)

pub opening_costs : (c : Client) (own : ArrayTable) (a : Actor) (s s' : State) → IsGoneOn c own s a s' → cost c s' < cost c s
opening_costs c own a s s' on = moves_cost c own s s' a on.well_formed on.move

-- ---- a run

module _ (c : Client) (own : ArrayTable) (t : Table) where
  abbrev pub run : State → List State → Type 0
  run = IsRunPast c own t

  pub run_on : (first s : State) (next : Next) (u v w : Coverage) → LeadsOn c (run first) u (run s) v → IsWayOn c own t s next → ArePassed c (IsMovedPast c own s next.actor next.state) v w → LeadsOn c (run first) u (run next.state) w
  run_on first s next u v w leads on walked x rest =
      leads x (in_turn c (IsMovedPast c own s next.actor next.state) (run next.state) (run s) v w x (λ xs ys p q. Runs s next.state next.actor xs ys on.well_formed on.free on.move p q) walked rest)

  pub run_costs : (s : State) (next : Next) → IsWayOn c own t s next → cost c next.state < cost c s
  run_costs s next on = moves_cost c own s next.state next.actor on.well_formed on.move

  -- ---- records

  pub all_beyond : (xs ys : List State) (ps qs : List State) → AreBeyond c own t xs ps → AreBeyond c own t ys qs → AreBeyond c own t (xs ++ ys) (ps ++ qs)
  all_beyond xs ys ps qs p NoRecord = subst (λ zs. AreBeyond c own t zs (ps ++ [])) (sym (append-nil xs)) (subst (λ zs. AreBeyond c own t xs zs) (sym (append-nil ps)) p)
  all_beyond xs ys ps qs p (Another states passed own_passed s earlier last) =
      subst (λ zs. AreBeyond c own t zs (ps ++ (passed ++ own_passed))) (append_assoc xs states (s ∷ []))
      (subst (λ zs. AreBeyond c own t ((xs ++ states) ++ s ∷ []) zs) (append_assoc ps passed own_passed)
      (Another (xs ++ states) (ps ++ passed) own_passed s (all_beyond xs states ps passed p earlier) last))

-- ---- who moves

the_one : {X : Type 0} (o : Option X) → IsSome o → (x : X) × (o ≡ Some x)
the_one None has = absurd (let clash : false ≡ true = has in cc)
the_one (Some x) has = (x, refl)

-- an actor with a move has a step
pub move_has_step : (c : Client) (own : ArrayTable) (s : State) (a : Actor) → HasMove c own s a → HasStep c s a
move_has_step c own s a has =
    let (m, e) = the_one (late_move (program_of c) (extent_of c own) (state_of s) (actor_of a)) has in
    let (first, rest, one, same, more) = moves_are_steps Activation (program_of c) (extent_of c own) (state_of s) m (actor_of a) e in
    rw one refl

pub is_moved : (c : Client) (own : ArrayTable) (s s' : State) (a : Actor) → IsMove c own s a s' → HasMove c own s a
is_moved c own s s' a e = rw e refl

some_of : {X Y Z : Type 0} (f : X → Y) (g : X → Z) (o : Option X) (y : Y) → option_map f o ≡ Some y → IsSome (option_map g o)
some_of f g None y e = absurd (none-some y e)
some_of f g (Some x) y e = refl

-- so has a free one
pub free_moves : (c : Client) (own : ArrayTable) (t : Table) (s : State) (a : Actor) → IsFree c own t s a → HasMove c own s a
free_moves c own t s a free = some_of _ _ (parts (program_of c) (extent_of c own) (state_of s) (actor_of a)) free.kinds free.parts

-- ---- records, and what lies between them

pub passed_also : (c : Client) (t : Table) (tree : Tree) (own : ArrayTable) (u v : Coverage) → IsLeast c own
    → u.push.marks ≡ marks_of c procedures.Push (tree_states tree) → u.pop.marks ≡ marks_of c procedures.Pop (tree_states tree)
    → u.refused.push ≡ refused_in procedures.Push (tree_states tree) → u.refused.pop ≡ refused_in procedures.Pop (tree_states tree)
    → u.most_items ≡ most_in (ends_of (records_of tree)) → ArePassed c (AreBetween c own t (tree_states tree)) u v → IsCountedBetween c t tree v
passed_also c t tree own u v least push pop push_refused pop_refused most p = record {
  own = own;
  least = least;
  passed = p.passed;
  between = p.such;
  counted = record {
    of_push = both (state_noted c procedures.Push) _ (tree_states tree) p.passed u.push.marks v.push.marks push p.counted.of_push;
    of_pop = both (state_noted c procedures.Pop) _ (tree_states tree) p.passed u.pop.marks v.pop.marks pop p.counted.of_pop;
    push_refused = both (refused_noted procedures.Push) _ (tree_states tree) p.passed u.refused.push v.refused.push push_refused p.counted.push_refused;
    pop_refused = both (refused_noted procedures.Pop) _ (tree_states tree) p.passed u.refused.pop v.refused.pop pop_refused p.counted.pop_refused;
    of_most = p.counted.of_most ∙ most;
  };
}

-- ---- what each part passes

module _ (c : Client) (own : ArrayTable) (t : Table) where
  pub move_of_step : (s after : State) (a : Actor) (u v : Coverage) → begun_in c s a ≡ None → AreCounted c u (after ∷ []) [] v → ArePassed c (IsMovedPast c own s a after) u v
  move_of_step s after a u v none one = just c (IsMovedPast c own s a after) u v after (ByStep none) one

  pub move_of_call : (s begun after : State) (a : Actor) (u v : Coverage) → (begun_in c s a ≡ None → ⊥) → IsStep c s a begun → ArePassed c (IsOpened c own a after begun) u v → ArePassed c (IsMovedPast c own s a after) u v
  move_of_call s begun after a u v begins step p = likewise c (IsOpened c own a after begun) (IsMovedPast c own s a after) u v (λ xs opened. ByCall begun xs begins step opened) p

  pub behind : (s after : State) (a : Actor) (u v w : Coverage) → IsMove c own s a after → ArePassed c (IsMovedPast c own s a after) u v → ArePassed c (IsRunPast c own t after) v w → ArePassed c (IsBehind c own t s a) u w
  behind s after a u v w move p q = in_turn c (IsMovedPast c own s a after) (IsRunPast c own t after) (IsBehind c own t s a) u v w (λ xs ys walked run. Moves after xs ys move walked run) p q

  pub none_behind : (s : State) (a : Actor) (u : Coverage) → (HasMove c own s a → ⊥) → ArePassed c (IsBehind c own t s a) u u
  none_behind s a u none = nothing c (IsBehind c own t s a) u (Rests none)

  pub both_behind : (s : State) (i : ℕ) (u v w : Coverage) → ArePassed c (IsBehind c own t s (Exec i)) u v → ArePassed c (IsBehind c own t s (Drain i)) v w → ArePassed c (IsBehindThread c own t s i) u w
  both_behind s i u v w p q = in_turn c (IsBehind c own t s (Exec i)) (IsBehind c own t s (Drain i)) (IsBehindThread c own t s i) u v w (λ xs ys core buffer. Both xs ys core buffer) p q

  pub no_thread : (s : State) (u : Coverage) → ArePassed c (AreBehind c own t s 0) u u
  no_thread s u = nothing c (AreBehind c own t s 0) u NoThread

  pub one_more : (s : State) (n : ℕ) (u v w : Coverage) → ArePassed c (AreBehind c own t s n) u v → ArePassed c (IsBehindThread c own t s n) v w → ArePassed c (AreBehind c own t s (n + 1)) u w
  one_more s n u v w p q = in_turn c (AreBehind c own t s n) (IsBehindThread c own t s n) (AreBehind c own t s (n + 1)) u v w (λ xs ys before last. OneMore n xs ys before last) p q

  pub unfit : (s : State) (u : Coverage) → (IsWellFormed c s → ⊥) → ArePassed c (IsBeyond c own t s) u u
  unfit s u none = nothing c (IsBeyond c own t s) u (Unfit none)

  pub fit : (s : State) (u v : Coverage) → IsWellFormed c s → ArePassed c (AreBehind c own t s (length s.threads)) u v → ArePassed c (IsBeyond c own t s) u v
  fit s u v well p = likewise c (AreBehind c own t s (length s.threads)) (IsBeyond c own t s) u v (λ xs all. Fit xs well all) p

  pub no_record : (u : Coverage) → ArePassed c (AreBeyond c own t []) u u
  no_record u = nothing c (AreBeyond c own t []) u NoRecord

  pub another : (states : List State) (n : ℕ) (s : State) (u v w : Coverage) → slice_get states n ≡ Some s → ArePassed c (AreBeyond c own t (take n states)) u v → ArePassed c (IsBeyond c own t s) v w
      → ArePassed c (AreBeyond c own t (take (n + 1) states)) u w
  another states n s u v w at p q =
      subst (λ zs. ArePassed c (AreBeyond c own t zs) u w) (sym (take_more states n s at))
      (in_turn c (AreBeyond c own t (take n states)) (IsBeyond c own t s) (AreBeyond c own t (take n states ++ s ∷ [])) u v w (λ xs ys before last. Another (take n states) xs ys s before last) p q)

  pub both_beyond : (left right : Tree) (s : State) (u v w : Coverage) → ArePassed c (AreBeyond c own t (tree_states left)) u v → ArePassed c (AreBeyond c own t (tree_states right)) v w
      → ArePassed c (AreBeyond c own t (tree_states (fork left s right))) u w
  both_beyond left right s u v w p q =
      subst (λ (zs : List State). ArePassed c (AreBeyond c own t zs) u w) (sym (map-append (λ r. r.state) (records_of left) (records_of right)))
      (in_turn c (AreBeyond c own t (tree_states left)) (AreBeyond c own t (tree_states right)) (AreBeyond c own t (tree_states left ++ tree_states right)) u v w
      (λ xs ys before after. all_beyond c own t (tree_states left) (tree_states right) xs ys before after) p q)

  pub from_first : (first : State) (u v w : Coverage) → state_of first ≡ initial_of c → AreCounted c u (first ∷ []) [] v → ArePassed c (IsRunPast c own t first) v w → ArePassed c (IsFromFirst c own t) u w
  from_first first u v w is one p = one_first c (IsRunPast c own t first) (IsFromFirst c own t) u v w first (λ xs run. Starts first xs is run) one p

  pub all_between : (states : List State) (u v w : Coverage) → ArePassed c (IsFromFirst c own t) u v → ArePassed c (AreBeyond c own t states) v w → ArePassed c (AreBetween c own t states) u w
  all_between states u v w p q = in_turn c (IsFromFirst c own t) (AreBeyond c own t states) (AreBetween c own t states) u v w (λ xs ys start beyond. Between xs ys start beyond) p q

-- ---- where they end

pub opening_leads : (c : Client) (own : ArrayTable) (a : Actor) (after begun s : State) (u v w : Coverage) → LeadsOn c (IsOpened c own a after begun) u (IsOpened c own a after s) v → AreCounted c v (s ∷ []) [] w → s ≡ after
    → ArePassed c (IsOpened c own a after begun) u w
opening_leads c own a after begun s u v w leads one there = leads w (just c (IsOpened c own a after s) v w s (Leads s there) one)

pub opening_ends : (c : Client) (own : ArrayTable) (a : Actor) (after begun s : State) (u v w : Coverage) → LeadsOn c (IsOpened c own a after begun) u (IsOpened c own a after s) v → AreCounted c v (s ∷ []) [] w
    → (IsWellFormed c s → HasMove c own s a → ⊥) → ArePassed c (IsOpened c own a after begun) u w
opening_ends c own a after begun s u v w leads one none = leads w (just c (IsOpened c own a after s) v w s (Ends s none) one)

pub run_stops : (c : Client) (own : ArrayTable) (t : Table) (first s : State) (u v : Coverage) → LeadsOn c (IsRunPast c own t first) u (IsRunPast c own t s) v → StopsAt c own t s → ArePassed c (IsRunPast c own t first) u v
run_stops c own t first s u v leads stops = leads v (nothing c (IsRunPast c own t s) v (Stays s stops))

-- ---- of either grain

pub counted_steps : {E : Type 0} (c : Client) (t : Table) (tree : Tree) (r : Result Coverage E)
    → IfOk r (λ v. v.push.marks ≡ marks_of c procedures.Push (tree_states tree)) → IfOk r (λ v. v.pop.marks ≡ marks_of c procedures.Pop (tree_states tree))
    → IfOk r (λ v. v.refused.push ≡ refused_in procedures.Push (tree_states tree)) → IfOk r (λ v. v.refused.pop ≡ refused_in procedures.Pop (tree_states tree))
    → IfOk r (λ v. v.most_items ≡ most_in (ends_of (records_of tree))) → IfOk r (IsCountedIn c Steps t tree)
counted_steps c t tree (Ok v) push pop push_refused pop_refused most = record { of_push = push; of_pop = pop; push_refused = push_refused; pop_refused = pop_refused; of_most = most }
counted_steps c t tree (Err e) push pop push_refused pop_refused most = tt

pub told_in : {E : Type 0} (c : Client) (grain : Grain) (t : Table) (tree : Tree) (v : Coverage) (r : Result Facts E) → IsCountedIn c grain t tree v
    → IfOk r (λ facts. facts.grain ≡ grain) → IfOk r (λ facts. facts.refused ≡ v.refused) → IfOk r (λ facts. facts.most_items ≡ v.most_items) → IfOk r (IsToldIn c grain t tree)
told_in c grain t tree v (Ok facts) counted same refused most = record { coverage = v; counted = counted; of_grain = same; refused = refused; most = most }
told_in c grain t tree v (Err e) counted same refused most = tt
