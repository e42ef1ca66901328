-- A thread that is changed and changed back leaves the list of threads as it was.
use Rattle.std.proofs.Common.{◌≡◌, ℕ, zero, suc, ◌<◌, List, [], ◌∷◌, length, Option, Some, None, slice_get, slice_set, slice_index_or, refl, ap, arith, ◌∙◌}
use Rattle.tso_machine.specs.Changes.{thread_before}
use Rattle.tso_machine.specs.Undone.{threads_before}
use Rattle.tso_machine.specs.declared.change.ChangeBack.{ChangeBack}
use Rattle.tso_machine.specs.declared.machine.Thread.{Thread}

behind_first : (x : Thread) (xs : List Thread) (n : ℕ) (b : ChangeBack) (o : Option Thread) → threads_before (x ∷ xs) (suc n) b o ≡ x ∷ threads_before xs n b o
behind_first x xs n b None = refl
behind_first x xs n b (Some t) = refl

pub changed_back : (ts : List Thread) (n : ℕ) (old new : Thread) (b : ChangeBack) → n < length ts → slice_index_or ts n old ≡ old → thread_before new b ≡ old
    → threads_before (slice_set ts n new) n b (slice_get (slice_set ts n new) n) ≡ ts
changed_back [] n old new b there at back = absurd (omega arith)
changed_back (x ∷ xs) zero old new b there at back = let same : thread_before new b ≡ x = cc in ap (λ t. t ∷ xs) same
changed_back (x ∷ xs) (suc n) old new b there at back =
    behind_first x (slice_set xs n new) n b (slice_get (slice_set xs n new) n) ∙ ap (λ l. x ∷ l) (changed_back xs n old new b (omega arith) at back)

pub get_changed : (ts : List Thread) (n : ℕ) (new t : Thread) → slice_get (slice_set ts n new) n ≡ Some t → t ≡ new
get_changed [] n new t e = cc
get_changed (x ∷ xs) zero new t e = cc
get_changed (x ∷ xs) (suc n) new t e = get_changed xs n new t e
