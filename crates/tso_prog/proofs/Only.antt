-- Lines have one first fault.
use Rattle.std.proofs.Common.{◌≡◌, ℕ, ◌≤◌, List, [], ◌∷◌, ◌++◌, Result, Ok, Err, refl, sym, ap, subst, ◌∙◌, arith}
use Rattle.std.specs.Prelude.{if◌then◌else◌, ◌==◌}
use Rattle.tso_prog.specs.declared.fault.Code.{Code}
use Rattle.tso_prog.specs.declared.fault.Code.TheVariants.{E01, E02, E03, E04, E05, E06, E07, E08, E09, E10, E11, E12, E13, E14}
use Rattle.tso_prog.specs.declared.fault.Fault.{Fault}
use Rattle.tso_prog.specs.declared.fault.ReadError.{ReadError}
use Rattle.tso_prog.specs.declared.fault.ReadError.TheVariants.{Refused, Memory}
use Rattle.tso_prog.specs.Contents.{Content}
use Rattle.tso_prog.specs.Codes.{code_number}
use Rattle.tso_prog.specs.Program.{Numbered, Stands, IsFirstFault, ReadsLines, IsRefused}

-- Two places in one list: the same, or one before the other.
data Places (bs cs : List Numbered) (x y : Numbered) : Type 0 where
  same : bs ≡ cs → x ≡ y → Places bs cs x y
  earlier : (rest : List Numbered) → cs ≡ bs ++ x ∷ rest → Places bs cs x y
  later : (rest : List Numbered) → bs ≡ cs ++ y ∷ rest → Places bs cs x y

abbrev first_or : Numbered → List Numbered → Numbered
first_or d [] = d
first_or d (x ∷ xs) = x

abbrev rest_of : List Numbered → List Numbered
rest_of [] = []
rest_of (x ∷ xs) = xs

places : (bs cs rs ss : List Numbered) (x y : Numbered) → bs ++ x ∷ rs ≡ cs ++ y ∷ ss → Places bs cs x y
places [] [] rs ss x y e = same refl (ap (first_or x) e)
places [] (c ∷ cs) rs ss x y e = earlier cs (ap (λ (z : Numbered). z ∷ cs) (sym (ap (first_or x) e)))
places (b ∷ bs) [] rs ss x y e = later bs (ap (λ (z : Numbered). z ∷ bs) (ap (first_or b) e))
places (b ∷ bs) (c ∷ cs) rs ss x y e = join (places bs cs rs ss x y (ap rest_of e))
  where
    join : Places bs cs x y → Places (b ∷ bs) (c ∷ cs) x y
    join (same p q) = same (λ i. ap (first_or b) e i ∷ p i) q
    join (earlier rest p) = earlier rest (λ i. sym (ap (first_or b) e) i ∷ p i)
    join (later rest p) = later rest (λ i. ap (first_or b) e i ∷ p i)

-- a code by its number
abbrev code_of : ℕ → Code
code_of n =
    (if n == 1 then E01 else
    (if n == 2 then E02 else
    (if n == 3 then E03 else
    (if n == 4 then E04 else
    (if n == 5 then E05 else
    (if n == 6 then E06 else
    (if n == 7 then E07 else
    (if n == 8 then E08 else
    (if n == 9 then E09 else
    (if n == 10 then E10 else
    (if n == 11 then E11 else
    (if n == 12 then E12 else
    (if n == 13 then E13 else
    E14)))))))))))))

back : (a : Code) → code_of (code_number a) ≡ a
back E01 = refl
back E02 = refl
back E03 = refl
back E04 = refl
back E05 = refl
back E06 = refl
back E07 = refl
back E08 = refl
back E09 = refl
back E10 = refl
back E11 = refl
back E12 = refl
back E13 = refl
back E14 = refl

number_one : (a b : Code) → code_number a ≤ code_number b → code_number b ≤ code_number a → a ≡ b
number_one a b p q = let e : code_number a ≡ code_number b = omega arith in sym (back a) ∙ ap code_of e ∙ back b

module _ (c : Content) (lines : List Numbered) (f g : Fault) (s : IsFirstFault c lines f) (t : IsFirstFault c lines g) where
  one_place : Places s.before t.before s.stands.at t.stands.at → f ≡ g
  one_place (same p q) =
      let f_low : code_number f.code ≤ code_number g.code = s.lowest g.code g.line (subst (λ (b : List Numbered). Stands c lines b g.code g.line) (sym p) t.stands) in
      let g_low : code_number g.code ≤ code_number f.code = t.lowest f.code f.line (subst (λ (b : List Numbered). Stands c lines b f.code f.line) p s.stands) in
      let code : f.code ≡ g.code = number_one f.code g.code f_low g_low in
      let line : f.line ≡ g.line = sym s.stands.numbered_so ∙ ap (λ (l : Numbered). l.number) q ∙ t.stands.numbered_so in
      λ i. record { code = code i; line = line i }
  one_place (earlier rest p) = absurd (t.earliest s.before f.code f.line (record { at = s.stands.at; rest = rest; split = p; has_it = s.stands.has_it; numbered_so = s.stands.numbered_so }))
  one_place (later rest p) = absurd (s.earliest t.before g.code g.line (record { at = t.stands.at; rest = rest; split = p; has_it = t.stands.has_it; numbered_so = t.stands.numbered_so }))

  pub one_first : f ≡ g
  one_first = one_place (places s.before t.before s.stands.rest t.stands.rest s.stands.at t.stands.at (sym s.stands.split ∙ t.stands.split))

pub refused_first : {X : Type 0} (view : X → Content) (r : Result X ReadError) (c : Content) (lines : List Numbered) (f : Fault) → ReadsLines view r c lines → IsFirstFault c lines f → IsRefused r f
refused_first view (Ok x) c lines f m s = m.0 s.before f.code f.line s.stands
refused_first view (Err Memory) c lines f m s = tt
refused_first view (Err (Refused g)) c lines f m s = one_first c lines g f m s
