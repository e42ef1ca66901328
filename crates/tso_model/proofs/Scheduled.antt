-- Labels are a run exactly where their actors take them.
use Rattle.std.proofs.Common.{◌≡◌, List, [], ◌∷◌, map, refl, sym, ◌∙◌, ap, subst, Option, Some, None}
use Rattle.std.specs.Option.{option_map}
use Rattle.std.proofs.lemmas.Option.{none-some, same_Some, option_and_then_some}
use Rattle.tso_model.specs.Labels.{By, Label, Machine, Run, Step}
use Rattle.tso_model.specs.Offers.{Next, actor_of, offer}
use Rattle.tso_model.specs.Programs.{Program}
use Rattle.tso_model.specs.Schedules.{SchedulesAreRuns, Taken, put_first, taken}
use Rattle.tso_model.specs.Steps.{thread_of}
use Rattle.tso_model.proofs.Offered.{offered, offered_step, whose}

map_some : {A B : Type 0} (f : A → B) (o : Option A) (y : B) → option_map f o ≡ Some y → (x : A) × (o ≡ Some x) × (f x ≡ y)
map_some f None y e = absurd (none-some y e)
map_some f (Some x) y e = (x, refl, same_Some (f x) y e)

same_head : (k l : Label) (ks ls : List Label) → ◌≡◌ {A = List Label} (k ∷ ks) (l ∷ ls) → k ≡ l
same_head k l ks ls e = cc

same_tail : (k l : Label) (ks ls : List Label) → ◌≡◌ {A = List Label} (k ∷ ks) (l ∷ ls) → ks ≡ ls
same_tail k l ks ls e = cc

module _ {F : Type 0} (P : Program F) where
  to_taken : (m m' : Machine F) (ls : List Label) → Run P m ls m' → taken P (map actor_of ls) m ≡ Some (record { labels = ls; machine = m' })
  to_taken m m' [] r = ap (λ (n : Machine F). Some (record { labels = []; machine = n })) (sym r)
  to_taken m m' (By i k ∷ ls) (mid, (t, at, rule), rest) =
      rw (offered P m i t at rule, to_taken mid m' ls rest) (ap (λ j. Some (record { labels = By j k ∷ ls; machine = m' })) (whose i k))

  from_taken : (m m' : Machine F) (ls : List Label) → taken P (map actor_of ls) m ≡ Some (record { labels = ls; machine = m' }) → Run P m ls m'
  from_taken m m' [] e = sym (ap (λ (t : Taken F). t.machine) (same_Some _ _ e))
  from_taken m m' (l ∷ ls) e = option_and_then_some _ (offer P m (actor_of l)) _ e (next (λ n h. from_taken n m' ls h))
    where
      rest : ((n : Machine F) → taken P (map actor_of ls) n ≡ Some (record { labels = ls; machine = m' }) → Run P n ls m') → (n : Next F) → offer P m (actor_of l) ≡ Some n → (t : Taken F) → taken P (map actor_of ls) n.machine ≡ Some t
          → put_first (By (thread_of (actor_of l)) n.kind) t ≡ record { labels = l ∷ ls; machine = m' } → Run P m (l ∷ ls) m'
      rest ih n there t is same =
          let labels = ap (λ (x : Taken F). x.labels) same in
          let head = same_head _ l t.labels ls labels in
          let tail = same_tail (By (thread_of (actor_of l)) n.kind) l t.labels ls labels in
          let machine : t.machine ≡ m' = ap (λ (x : Taken F). x.machine) same in
          let whole : t ≡ record { labels = ls; machine = m' } = λ i. record { labels = tail i; machine = machine i } in
          (n.machine, subst (λ k. Step P m k n.machine) head (offered_step P m (actor_of l) n there), ih n.machine (is ∙ ap Some whole))

      next : ((n : Machine F) → taken P (map actor_of ls) n ≡ Some (record { labels = ls; machine = m' }) → Run P n ls m') → (n : Next F) → offer P m (actor_of l) ≡ Some n → option_map (put_first (By (thread_of (actor_of l)) n.kind)) (taken P (map actor_of ls) n.machine) ≡ Some (record { labels = l ∷ ls; machine = m' }) → Run P m (l ∷ ls) m'
      next ih n there is = let x = map_some _ (taken P (map actor_of ls) n.machine) _ is in rest ih n there x.0 x.1 x.2

pub schedules_are_runs : {F : Type 0} → SchedulesAreRuns F
schedules_are_runs P m m' ls = (to_taken P m m' ls, from_taken P m m' ls)
