-- Accesses of the memory, in either order.
use Rattle.std.proofs.Common.{◌≡◌, ℕ, List, length, get_or, refl, sym, length-set}
use Rattle.std.proofs.lemmas.List.{get_or-set_other, set_comm}
use Rattle.tso_model.specs.Accesses.{Apart, Reads, Writes}
use Rattle.tso_model.specs.Steps.{Access, Nothing, Read, Update, Write, memory_after, word_read}

pub memory_length : (m : List ℕ) (x : Access) → length (memory_after m x) ≡ length m
memory_length m Nothing = refl
memory_length m (Read p) = refl
memory_length m (Write p v) = length-set m p v
memory_length m (Update p f) = length-set m p _

untouched : (m : List ℕ) (x : Access) (q : ℕ) → (Writes x q → ⊥) → get_or (memory_after m x) q 0 ≡ get_or m q 0
untouched m Nothing q n = refl
untouched m (Read p) q n = refl
untouched m (Write p v) q n = get_or-set_other m p q v 0 (λ e. n (sym e))
untouched m (Update p f) q n = get_or-set_other m p q _ 0 (λ e. n (sym e))

pub word_apart : (m : List ℕ) (x y : Access) → ((q : ℕ) → Writes x q → Reads y q → ⊥) → word_read (memory_after m x) y ≡ word_read m y
word_apart m x Nothing h = refl
word_apart m x (Read p) h = untouched m x p (λ w. h p w refl)
word_apart m x (Write p v) h = refl
word_apart m x (Update p f) h = untouched m x p (λ w. h p w refl)

pub memory_commutes : (m : List ℕ) (x y : Access) → Apart x y → memory_after (memory_after m x) y ≡ memory_after (memory_after m y) x
memory_commutes m Nothing y a = refl
memory_commutes m (Read p) y a = refl
memory_commutes m (Write p v) Nothing a = refl
memory_commutes m (Write p v) (Read q) a = refl
memory_commutes m (Write p v) (Write q w) a = set_comm m p q v w (λ e. a.both q e refl)
memory_commutes m (Write p v) (Update q f) a =
    rw (get_or-set_other m p q v 0 (λ e. a.both q (sym e) refl)) (set_comm m p q v _ (λ e. a.both q e refl))
memory_commutes m (Update p f) Nothing a = refl
memory_commutes m (Update p f) (Read q) a = refl
memory_commutes m (Update p f) (Write q w) a =
    rw (get_or-set_other m q p w 0 (λ e. a.both q e refl)) (set_comm m p q _ w (λ e. a.both q e refl))
memory_commutes m (Update p f) (Update q g) a =
    rw (get_or-set_other m p q (f (get_or m p 0)) 0 (λ e. a.both q (sym e) refl), get_or-set_other m q p (g (get_or m q 0)) 0 (λ e. a.both q e refl))
    (set_comm m p q _ _ (λ e. a.both q e refl))
