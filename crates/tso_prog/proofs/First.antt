-- Reading lines one after the other meets the first fault.
use Rattle.std.proofs.Common.{◌≡◌, ℕ, ◌≤◌, Bool, true, false, cond, List, [], ◌∷◌, ◌++◌, Option, Some, None, Result, Ok, Err, refl, ap, subst, ◌∙◌, arith, lit≤}
use Rattle.std.specs.Prelude.{find}
use Rattle.std.specs.List.{AllByRecursion}
use Rattle.tso_prog.specs.declared.fault.Code.{Code}
use Rattle.tso_prog.specs.declared.fault.Code.TheVariants.{E01, E02, E03, E04, E05, E06, E07, E08, E09, E10, E11, E12, E13, E14}
use Rattle.tso_prog.specs.declared.fault.Fault.{Fault}
use Rattle.tso_prog.specs.declared.fault.ReadError.{ReadError}
use Rattle.tso_prog.specs.declared.fault.ReadError.TheVariants.{Refused, Memory}
use Rattle.tso_line.specs.Lines.{Line}
use Rattle.tso_prog.specs.Contents.{Content}
use Rattle.tso_prog.specs.Faults.{has, codes, fault_at}
use Rattle.tso_prog.specs.After.{after}
use Rattle.tso_prog.specs.Codes.{code_number}
use Rattle.tso_prog.specs.Program.{Gives, ◌>>=◌, next, fault, Numbered, read_from, content_of, Stands, IsClean, IsFirstFault, ReadsLines}

-- ---- the lowest code of a line

Rising : List Code → Type 0
Rising [] = Unit {0}
Rising (x ∷ xs) = AllByRecursion (λ y. code_number x ≤ code_number y) xs × Rising xs

all_later : (p : Code → Bool) (x : Code) (xs : List Code) → AllByRecursion (λ y. code_number x ≤ code_number y) xs → AllByRecursion (λ y. p y ≡ true → code_number x ≤ code_number y) xs
all_later p x [] h = tt
all_later p x (y ∷ ys) h = (λ _. h.0, all_later p x ys h.1)

found_at : (b : Bool) (p : Code → Bool) (x y : Code) (ys : List Code) → p y ≡ b → AllByRecursion (λ z. code_number y ≤ code_number z) ys
    → (find p ys ≡ Some x → (p x ≡ true) × AllByRecursion (λ z. p z ≡ true → code_number x ≤ code_number z) ys)
    → cond b (Some y) (find p ys) ≡ Some x → (p x ≡ true) × AllByRecursion (λ z. p z ≡ true → code_number x ≤ code_number z) (y ∷ ys)
found_at true p x y ys e up again f =
    let same : y ≡ x = cc in
    subst (λ (z : Code). (p z ≡ true) × AllByRecursion (λ w. p w ≡ true → code_number z ≤ code_number w) (y ∷ ys)) same (e, (λ _. omega arith, all_later p y ys up))
found_at false p x y ys e up again f =
    let r = again f in
    (r.0, (λ h. absurd cc, r.1))

found : (p : Code → Bool) (x : Code) (xs : List Code) → Rising xs → find p xs ≡ Some x → (p x ≡ true) × AllByRecursion (λ y. p y ≡ true → code_number x ≤ code_number y) xs
unfolding Rising
found p x [] up f = absurd cc
found p x (y ∷ ys) up f = found_at (p y) p x y ys refl up.0 (found p x ys up.1) f

none_at : (b : Bool) (p : Code → Bool) (y : Code) (ys : List Code) → p y ≡ b → (find p ys ≡ None → AllByRecursion (λ z. p z ≡ false) ys) → cond b (Some y) (find p ys) ≡ None → AllByRecursion (λ z. p z ≡ false) (y ∷ ys)
none_at true p y ys e again f = absurd cc
none_at false p y ys e again f = (e, again f)

none : (p : Code → Bool) (xs : List Code) → find p xs ≡ None → AllByRecursion (λ y. p y ≡ false) xs
none p [] f = tt
none p (y ∷ ys) f = none_at (p y) p y ys refl (none p ys) f

codes_rise : Rising codes
unfolding Rising
codes_rise = (
  (lit≤ tt, (lit≤ tt, (lit≤ tt, (lit≤ tt, (lit≤ tt, (lit≤ tt, tt)))))),
  (
    (lit≤ tt, (lit≤ tt, (lit≤ tt, (lit≤ tt, (lit≤ tt, tt))))),
    ((lit≤ tt, (lit≤ tt, (lit≤ tt, (lit≤ tt, tt)))), ((lit≤ tt, (lit≤ tt, (lit≤ tt, tt))), ((lit≤ tt, (lit≤ tt, tt)), ((lit≤ tt, tt), (tt, tt))))),
  ),
)

-- a line has no fault where none is found
pub no_fault : (c : Content) (l : Line) → fault_at c l ≡ None → (code : Code) → has c l code ≡ false
unfolding fault_at
no_fault c l f = pick (none (has c l) codes f)
  where
    pick : AllByRecursion (λ y. has c l y ≡ false) codes → (code : Code) → has c l code ≡ false
    pick h E01 = refl
    pick h E02 = refl
    pick h E03 = h.0
    pick h E04 = h.1.0
    pick h E05 = h.1.1.0
    pick h E06 = h.1.1.1.0
    pick h E07 = h.1.1.1.1.0
    pick h E08 = refl
    pick h E09 = h.1.1.1.1.1.0
    pick h E10 = h.1.1.1.1.1.1.0
    pick h E11 = refl
    pick h E12 = refl
    pick h E13 = refl
    pick h E14 = refl

least_of : (p : Code → Bool) (x : Code) → AllByRecursion (λ y. p y ≡ true → code_number x ≤ code_number y) codes → p E01 ≡ false → p E02 ≡ false → p E08 ≡ false → p E11 ≡ false → p E12 ≡ false → p E13 ≡ false → p E14 ≡ false → (code : Code) → p code ≡ true → code_number x ≤ code_number code
least_of p x h e1 e2 e8 e11 e12 e13 e14 E01 t = absurd cc
least_of p x h e1 e2 e8 e11 e12 e13 e14 E02 t = absurd cc
least_of p x h e1 e2 e8 e11 e12 e13 e14 E03 t = h.0 t
least_of p x h e1 e2 e8 e11 e12 e13 e14 E04 t = h.1.0 t
least_of p x h e1 e2 e8 e11 e12 e13 e14 E05 t = h.1.1.0 t
least_of p x h e1 e2 e8 e11 e12 e13 e14 E06 t = h.1.1.1.0 t
least_of p x h e1 e2 e8 e11 e12 e13 e14 E07 t = h.1.1.1.1.0 t
least_of p x h e1 e2 e8 e11 e12 e13 e14 E08 t = absurd cc
least_of p x h e1 e2 e8 e11 e12 e13 e14 E09 t = h.1.1.1.1.1.0 t
least_of p x h e1 e2 e8 e11 e12 e13 e14 E10 t = h.1.1.1.1.1.1.0 t
least_of p x h e1 e2 e8 e11 e12 e13 e14 E11 t = absurd cc
least_of p x h e1 e2 e8 e11 e12 e13 e14 E12 t = absurd cc
least_of p x h e1 e2 e8 e11 e12 e13 e14 E13 t = absurd cc
least_of p x h e1 e2 e8 e11 e12 e13 e14 E14 t = absurd cc

-- the fault that is found is the line's lowest
lowest_fault : (c : Content) (l : Line) (x : Code) → fault_at c l ≡ Some x → (has c l x ≡ true) × ((code : Code) → has c l code ≡ true → code_number x ≤ code_number code)
unfolding fault_at
lowest_fault c l x f =
    let r = found (has c l) x codes codes_rise f in
    (r.0, least_of (has c l) x r.1 refl refl refl refl refl refl refl)

-- ---- the first line

abbrev pub then_content : Content → Numbered → Content
then_content c l = after c l.number l.line

clean_nil : (c : Content) → IsClean c []
clean_nil c [] code number s = absurd (nil_no s.at s.rest s.split)
  where
    nil_no : (x : Numbered) (xs : List Numbered) → [] ≡ x ∷ xs → ⊥
    nil_no x xs e = cc
clean_nil c (b ∷ bs) code number s = absurd (nil_no b (bs ++ s.at ∷ s.rest) s.split)
  where
    nil_no : (x : Numbered) (xs : List Numbered) → [] ≡ x ∷ xs → ⊥
    nil_no x xs e = cc

abbrev first_of : Numbered → List Numbered → Numbered
first_of d [] = d
first_of d (x ∷ xs) = x

abbrev rest_of : List Numbered → List Numbered
rest_of [] = []
rest_of (x ∷ xs) = xs

-- a fault of the first line
at_first : (c : Content) (l : Numbered) (ls : List Numbered) (code : Code) (number : ℕ) → Stands c (l ∷ ls) [] code number → has c l.line code ≡ true
unfolding content_of
at_first c l ls code number s =
    let same : l ≡ s.at = ap (first_of l) s.split in
    ap (λ (x : Numbered). has c x.line code) same ∙ s.has_it

-- a fault behind the first line
behind : (c : Content) (l b : Numbered) (ls bs : List Numbered) (code : Code) (number : ℕ) → Stands c (l ∷ ls) (b ∷ bs) code number → Stands (then_content c l) ls bs code number
unfolding content_of
behind c l b ls bs code number s =
    let same : l ≡ b = ap (first_of l) s.split in
    record {
      at = s.at;
      rest = s.rest;
      split = ap rest_of s.split;
      has_it = ap (λ (x : Numbered). has (content_of bs (then_content c x)) s.at.line code) same ∙ s.has_it;
      numbered_so = s.numbered_so;
    }

pub before_it : (c : Content) (l : Numbered) (ls bs : List Numbered) (code : Code) (number : ℕ) → Stands (then_content c l) ls bs code number → Stands c (l ∷ ls) (l ∷ bs) code number
unfolding content_of
before_it c l ls bs code number s = record { at = s.at; rest = s.rest; split = ap (λ (xs : List Numbered). l ∷ xs) s.split; has_it = s.has_it; numbered_so = s.numbered_so }

clean_cons : (c : Content) (l : Numbered) (ls : List Numbered) → fault_at c l.line ≡ None → IsClean (then_content c l) ls → IsClean c (l ∷ ls)
clean_cons c l ls e clean [] code number s = let t : has c l.line code ≡ false = no_fault c l.line e code in let u : has c l.line code ≡ true = at_first c l ls code number s in absurd cc
clean_cons c l ls e clean (b ∷ bs) code number s = clean bs code number (behind c l b ls bs code number s)

-- ---- all lines

abbrev pub Meets : Content → List Numbered → Result Content Fault → Type 0
Meets c ls (Ok d) = IsClean c ls × (d ≡ content_of ls c)
Meets c ls (Err f) = IsFirstFault c ls f

meets_cons : (c : Content) (l : Numbered) (ls : List Numbered) (r : Result Content Fault) → fault_at c l.line ≡ None → Meets (then_content c l) ls r → Meets c (l ∷ ls) r
unfolding content_of
meets_cons c l ls (Ok d) e m = (clean_cons c l ls e m.0, m.1)
meets_cons c l ls (Err f) e m = record {
  before = l ∷ m.before;
  stands = before_it c l ls m.before f.code f.line m.stands;
  earliest = clean_cons c l m.before e m.earliest;
  lowest = λ code number s. m.lowest code number (behind c l l ls m.before code number s);
}

meets_here : (c : Content) (l : Numbered) (ls : List Numbered) (code : Code) → fault_at c l.line ≡ Some code → IsFirstFault c (l ∷ ls) (fault code l.number)
unfolding content_of
meets_here c l ls code e =
    let low = lowest_fault c l.line code e in
    record {
      before = [];
      stands = record { at = l; rest = ls; split = refl; has_it = low.0; numbered_so = refl };
      earliest = clean_nil c;
      lowest = λ other number s. low.1 other (at_first c l ls other number s);
    }

meets_next : (c : Content) (l : Numbered) (ls : List Numbered) (o : Option Code) → fault_at c l.line ≡ o → Meets (then_content c l) ls (read_from (then_content c l) ls) → Meets c (l ∷ ls) (next c l o >>= λ d. read_from d ls)
meets_next c l ls None e m = meets_cons c l ls (read_from (then_content c l) ls) e m
meets_next c l ls (Some code) e m = meets_here c l ls code e

pub read_meets : (ls : List Numbered) (c : Content) → Meets c ls (read_from c ls)
unfolding read_from content_of
read_meets [] c = (clean_nil c, refl)
read_meets (l ∷ ls) c = meets_next c l ls (fault_at c l.line) refl (read_meets ls (then_content c l))

pub reads_lines : {X : Type 0} (view : X → Content) (r : Result X ReadError) (c : Content) (ls : List Numbered) → Gives view r (read_from c ls) → ReadsLines view r c ls
reads_lines view (Ok x) c ls g = subst (Meets c ls) g (read_meets ls c)
reads_lines view (Err Memory) c ls g = tt
reads_lines view (Err (Refused f)) c ls g = subst (Meets c ls) g (read_meets ls c)
