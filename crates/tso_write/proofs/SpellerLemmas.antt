-- The spelling of a kept state, from those of its parts.
use Rattle.std.proofs.Common.{◌≡◌, ◌∙◌, ℕ, ◌+◌, List, [], ◌∷◌, ◌++◌, length, map, take, Option, Some, None, slice_get, refl, sym, ap, append_assoc}
use Rattle.std.proofs.lemmas.List.{length-map, take_more}
use Rattle.std.proofs.lemmas.Option.{get_or_from_slice_get, slice_get-map, slice_get_within}
use Rattle.std.specs.List.{flat_map}
use Rattle.std.specs.Prelude.{option_map}
use Rattle.tso_code.specs.Fields.{list}
use Rattle.tso_code.specs.Numbers.{number}
use Rattle.tso_code.specs.States.{call, state, thread}
use Rattle.tso_rec.specs.declared.basis.Grain.{Grain}
use Rattle.tso_write.specs.Spelled.{AreSpelled}
use Rattle.tso_write.specs.Spelling.{IsEndedBehind, IsStateBehind}
use Rattle.tso_rec.specs.Spelling.{ending}
use Rattle.tso_rec.specs.declared.record.End.{End}
use Rattle.tso_state.specs.declared.state.State.{State}
use Rattle.tso_keys.proofs.StateLemmas.{kept_at}
use Rattle.tso_keys.specs.Keys.{IsKept, state_at, states_at}
use Rattle.tso_keys.specs.Numbers.{before, values_at}
use Rattle.tso_keys.specs.declared.key.Key.{Key}
use Rattle.tso_keys.specs.declared.parts.Parts.{Parts}

at_first : {X Y : Type 0} (f : X → Y) (o : Option X) (ys : List Y) (xs : List X) → ys ≡ map f xs → before (option_map f o) ys ≡ map f (before o xs)
at_first f None ys xs e = refl
at_first f (Some x) ys xs e = ap (λ l. f x ∷ l) e

-- what is made of each value of a pool is found where the value is
pub made_at : {X Y : Type 0} (f : X → Y) (pool : List X) (ns : List ℕ) → values_at (map f pool) ns ≡ map f (values_at pool ns)
made_at f pool [] = refl
made_at f pool (n ∷ ns) = ap (λ o. before o (values_at (map f pool) ns)) (slice_get-map f pool n) ∙ at_first f (slice_get pool n) (values_at (map f pool) ns) (values_at pool ns) (made_at f pool ns)

all_joined : {X : Type 0} (f : X → List ℕ) (xs : List X) → flat_map (λ bytes. bytes) (map f xs) ≡ flat_map f xs
all_joined f [] = refl
all_joined f (x ∷ xs) = ap (λ l. f x ++ l) (all_joined f xs)

-- the threads with these numbers, spelled as a list
threads_spelled : (pool spelled : _) (ns : List ℕ) → spelled ≡ map thread pool
    → number (length (values_at spelled ns)) ++ flat_map (λ bytes. bytes) (values_at spelled ns) ≡ list thread (values_at pool ns)
threads_spelled pool spelled ns are =
    let found : values_at spelled ns ≡ map thread (values_at pool ns) = ap (λ l. values_at l ns) are ∙ made_at thread pool ns in
    ap (λ l. number (length l) ++ flat_map (λ bytes. bytes) l) found
    ∙ ap (λ n. number n ++ flat_map (λ bytes. bytes) (map thread (values_at pool ns))) (length-map (values_at pool ns) thread)
    ∙ ap (λ l. number (length (values_at pool ns)) ++ l) (all_joined thread (values_at pool ns))

-- memory, threads and history, one behind the other
pub state_behind : (p : Parts) (ks : List Key) (n : ℕ) (k : Key) (memories threads histories : List (List ℕ)) (o a b e : List ℕ) → AreSpelled p ks memories threads histories → slice_get ks n ≡ Some k
    → ((bytes : List ℕ) → slice_get memories k.memory ≡ Some bytes → a ≡ o ++ bytes)
    → b ≡ a ++ (number (length (values_at threads k.threads)) ++ flat_map (λ bytes. bytes) (values_at threads k.threads))
    → ((bytes : List ℕ) → slice_get histories k.history ≡ Some bytes → e ≡ b ++ bytes)
    → IsStateBehind (states_at p ks) n o e
state_behind p ks n k memories threads histories o a b e spelled at first second third =
    let kept : IsKept spelled.kept.0 p k = kept_at spelled.kept.0 p ks n k spelled.kept.1 at in
    let s : State = state_at p k in
    let m : slice_get memories k.memory ≡ Some (list number s.memory) = ap (λ l. slice_get l k.memory) spelled.memories_are ∙ slice_get-map (list number) p.memories k.memory ∙ ap (option_map (list number)) kept.key.memory in
    let h : slice_get histories k.history ≡ Some (list (list call) s.history) = ap (λ l. slice_get l k.history) spelled.histories_are ∙ slice_get-map (list (list call)) p.histories k.history ∙ ap (option_map (list (list call))) kept.key.history in
    let t = threads_spelled p.threads threads k.threads spelled.threads_are in
    record {
      spelled = s;
      at = slice_get-map (state_at p) ks n ∙ ap (option_map (state_at p)) at;
      is =
          third (list (list call) s.history) h
          ∙ ap (λ (w : List ℕ). w ++ list (list call) s.history) (second ∙ ap (λ (w : List ℕ). a ++ w) t ∙ ap (λ (w : List ℕ). w ++ list thread s.threads) (first (list number s.memory) m))
          ∙ append_assoc (o ++ list number s.memory) (list thread s.threads) (list (list call) s.history)
          ∙ append_assoc o (list number s.memory) (list thread s.threads ++ list (list call) s.history);
    }

-- and its end
pub ended_behind : (g : Grain) (states : List State) (n : ℕ) (end : End) (o a e : List ℕ) → IsStateBehind states n o a → e ≡ a ++ ending g end → IsEndedBehind g states n end o e
ended_behind g states n end o a e first second = record {
  spelled = first.spelled;
  at = first.at;
  is = second ∙ ap (λ (w : List ℕ). w ++ ending g end) first.is ∙ append_assoc o (state first.spelled) (ending g end);
}

-- spellings put behind others, and one more of them
pub one_more_put : (more before all new : List (List ℕ)) (n : ℕ) (x : List ℕ) → all ≡ before ++ take n more → slice_get more n ≡ Some x → new ≡ all ++ x ∷ [] → new ≡ before ++ take (n + 1) more
one_more_put more before all new n x so at is =
    let next = take_more more n x (slice_get_within more n x at) ∙ ap (λ y. take n more ++ y ∷ []) (get_or_from_slice_get more n x x at) in
    is ∙ ap (λ l. l ++ x ∷ []) so ∙ append_assoc before (take n more) (x ∷ []) ∙ ap (λ l. before ++ l) (sym next)
