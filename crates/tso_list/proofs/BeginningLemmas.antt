-- Beginnings of bytes that are written one part after another.
use Rattle.std.proofs.Common.{◌≡◌, ◌∙◌, ℕ, ◌-◌, List, [], ◌++◌, Option, sym, ap, append_assoc, refl, length, take, drop, take-append-drop}
use Rattle.std.proofs.lemmas.List.{take_rest}
use Rattle.std.proofs.KnownBytes.{Appends-kept, Appends-nil, Appends-trans}
use Rattle.std.specs.Io.KnownBytes.{Appends, Keeps}
use Rattle.tso_list.specs.Beginnings.{AppendsBeginning}

module _ (a b c : Option (List ℕ)) where
  -- the first part went out whole
  pub beginning_of_part : (whole part left : List ℕ) → whole ≡ part ++ left → Appends a b part → AppendsBeginning a b whole
  beginning_of_part whole part left e p = record { taken = part; left = left; split = e; appended = p }

  -- and of the part behind it a beginning
  pub beginning_behind : (whole part next left : List ℕ) → whole ≡ part ++ (next ++ left) → Appends a b part → AppendsBeginning b c next → AppendsBeginning a c whole
  beginning_behind whole part next left e p q = record {
    taken = part ++ q.taken;
    left = q.left ++ left;
    split = e ∙ ap (λ (l : List ℕ). part ++ (l ++ left)) q.split ∙ ap (λ (l : List ℕ). part ++ l) (append_assoc q.taken q.left left) ∙ sym (append_assoc part q.taken (q.left ++ left));
    appended = Appends-trans a b c part q.taken p q.appended;
  }

  -- and of the part behind it nothing
  pub beginning_kept : (whole part left : List ℕ) → whole ≡ part ++ left → Appends a b part → Keeps b c → AppendsBeginning a c whole
  beginning_kept whole part left e p q = record { taken = part; left = left; split = e; appended = Appends-kept a b c part p q }

-- nothing has been written
pub beginning_of_none : (a : Option (List ℕ)) (whole : List ℕ) → AppendsBeginning a a whole
beginning_of_none a whole = record { taken = []; left = whole; split = refl; appended = Appends-nil a }

-- the front of the rest goes out
pub moves_front : (all done rest rest' : List ℕ) (n : ℕ) → all ≡ done ++ rest → rest' ≡ take (length rest - n) (drop n rest) → all ≡ (done ++ take n rest) ++ rest'
moves_front all done rest rest' n e is =
    e ∙ ap (λ (l : List ℕ). done ++ l) (sym (take-append-drop n rest)) ∙ sym (append_assoc done (take n rest) (drop n rest)) ∙ ap (λ (l : List ℕ). (done ++ take n rest) ++ l) (sym (is ∙ take_rest rest n))
