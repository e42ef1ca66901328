-- The first fault of a text is the one that its reading meets.
use Rattle.std.proofs.Common.{◌≡◌, ℕ, ◌<◌, ◌≤◌, Bool, true, false, cond, List, [], ◌∷◌, ◌++◌, length, Option, Some, None, Result, Ok, Err, refl, sym, ap, subst, ◌∙◌, arith}
use Rattle.std.specs.Prelude.{nat_lt}
use Rattle.std.specs.List.{AllByRecursion}
use Rattle.std.proofs.lemmas.Bool.Decides.{leb_tells}
use Rattle.tso_text.specs.Lexing.{first_bad_line, tokens_of}
use Rattle.tso_line.specs.declared.instruction.Instruction.{Instruction}
use Rattle.tso_line.specs.Instructions.{label_of}
use Rattle.tso_line.specs.Lines.{Name}
use Rattle.tso_prog.specs.declared.fault.Code.TheVariants.{E01, E07, E08}
use Rattle.tso_prog.specs.declared.fault.Fault.{Fault}
use Rattle.tso_prog.specs.declared.fault.ReadError.{ReadError}
use Rattle.tso_prog.specs.declared.fault.ReadError.TheVariants.{Refused, Memory}
use Rattle.tso_prog.specs.Clients.{ClientOf}
use Rattle.tso_prog.specs.Contents.{TargetOf, StepOf, BodyOf, Content}
use Rattle.tso_prog.specs.Start.{start}
use Rattle.tso_prog.specs.Program.{Gives, ◌>>=◌, fault, Numbered, lines_of, read_from, content_of, IsClean, IsFirstFault, IsRefused}
use Rattle.tso_prog.specs.Finish.{target_position, jump_to, with_target, labelled_step, labelled, labelled_body, client_or_fault}
use Rattle.tso_prog.specs.Text.{program_of, bytes_or_lines}
use Rattle.tso_prog.specs.Refusals.{is_whole, Loses, IsLost, LosesFirst, LosesNone, FirstOf, too_long, bad_byte, in_line, ends_early, lost_in_push, lost_in_pop, AnswersFirst}
use Rattle.tso_prog.proofs.First.{Meets, read_meets}
use Rattle.tso_prog.proofs.Only.{one_first}

-- ---- labels

-- what the steps of a procedure with these labels become: all are with_target, or the first lost one is the fault
record Lost (labels : List TargetOf) (ss : List StepOf) (f : Fault) : Type 0 where
  before : List StepOf
  at : StepOf
  rest : List StepOf
  split : ss ≡ before ++ at ∷ rest
  found : AllByRecursion (λ s. IsLost labels s → ⊥) before
  lost : IsLost labels at
  is : f ≡ fault E07 at.line

abbrev Ends : List TargetOf → List StepOf → Result (List (Instruction ℕ ℕ)) Fault → Type 0
Ends labels ss (Ok ts) = AllByRecursion (λ s. IsLost labels s → ⊥) ss
Ends labels ss (Err f) = Lost labels ss f

abbrev EndsStep : List TargetOf → StepOf → Option Name → Result (Instruction ℕ ℕ) Fault → Type 0
EndsStep labels s o (Ok t) = Loses labels o → ⊥
EndsStep labels s o (Err f) = Loses labels o × (f ≡ fault E07 s.line)

ends_jump : (labels : List TargetOf) (s : StepOf) (name : Name) (o : Option ℕ) → target_position labels name ≡ o → EndsStep labels s (Some name) (jump_to s o)
ends_jump labels s name None e = (e, refl)
ends_jump labels s name (Some place) e = λ lost. absurd (let g : None ≡ Some place = sym lost ∙ e in cc)

ends_placed : (labels : List TargetOf) (s : StepOf) (o : Option Name) → EndsStep labels s o (with_target labels s o)
ends_placed labels s None = λ lost. lost
ends_placed labels s (Some name) = ends_jump labels s name (target_position labels name) refl

later : (labels : List TargetOf) (s : StepOf) (ss : List StepOf) (f : Fault) → (IsLost labels s → ⊥) → Lost labels ss f → Lost labels (s ∷ ss) f
later labels s ss f h l = record { before = s ∷ l.before; at = l.at; rest = l.rest; split = ap (λ (xs : List StepOf). s ∷ xs) l.split; found = (h, l.found); lost = l.lost; is = l.is }

ends_both : (labels : List TargetOf) (s : StepOf) (ss : List StepOf) (r : Result (Instruction ℕ ℕ) Fault) (q : Result (List (Instruction ℕ ℕ)) Fault) → EndsStep labels s (label_of s.instruction) r → Ends labels ss q → Ends labels (s ∷ ss) (r >>= λ t. q >>= λ ts. Ok (t ∷ ts))
ends_both labels s ss (Ok t) (Ok ts) h again = (h, again)
ends_both labels s ss (Ok t) (Err f) h again = later labels s ss f h again
ends_both labels s ss (Err f) q h again = record { before = []; at = s; rest = ss; split = refl; found = tt; lost = h.0; is = h.1 }

ends : (labels : List TargetOf) (ss : List StepOf) → Ends labels ss (labelled labels ss)
unfolding labelled
ends labels [] = tt
ends labels (s ∷ ss) = ends_both labels s ss (labelled_step labels s) (labelled labels ss) (ends_placed labels s (label_of s.instruction)) (ends labels ss)

loses_first : (b : BodyOf) (f : Fault) → Lost b.labels b.steps f → LosesFirst b f
loses_first b f l = record { before = l.before; at = l.at; rest = l.rest; split = l.split; found = l.found; lost = l.lost; is = l.is }

-- ---- a fault that is answered

abbrev Answers : List ℕ → Result ClientOf Fault → Type 0
Answers text (Ok x) = Unit {0}
Answers text (Err f) = FirstOf text f

module _ (text : List ℕ) (short : length text ≤ 65536) (good : first_bad_line 1 text ≡ None) where
  abbrev the_lines : List Numbered
  the_lines = lines_of text (tokens_of text)

  abbrev whole : Content
  whole = content_of the_lines start

  from_labels : IsClean start the_lines → is_whole whole ≡ true → (r q : Result (List (Instruction ℕ ℕ)) Fault) (make : List (Instruction ℕ ℕ) → List (Instruction ℕ ℕ) → ClientOf) → Ends whole.push.labels whole.push.steps r → Ends whole.pop.labels whole.pop.steps q → Answers text (r >>= λ xs. q >>= λ ys. Ok (make xs ys))
  from_labels clean w (Ok xs) (Ok ys) make a b = tt
  from_labels clean w (Ok xs) (Err f) make a b = lost_in_pop short good clean w a (loses_first whole.pop f b)
  from_labels clean w (Err f) q make a b = lost_in_push short good clean w (loses_first whole.push f a)

  from_end : IsClean start the_lines → Answers text (client_or_fault whole)
  unfolding client_or_fault
  from_end clean = by (is_whole whole) refl
    where
      by : (b : Bool) → is_whole whole ≡ b → Answers text (cond b (labelled_body whole.push >>= λ push. labelled_body whole.pop >>= λ pop. Ok (record {
        capacity = whole.capacity;
        mode = whole.mode;
        arrays = whole.arrays;
        push = push;
        pop = pop;
        prologue = whole.prologue;
        threads = whole.threads;
      })) (Err (fault E08 0)))
      by true w = from_labels clean w (labelled_body whole.push) (labelled_body whole.pop) (λ xs ys. record { capacity = whole.capacity; mode = whole.mode; arrays = whole.arrays; push = xs; pop = ys; prologue = whole.prologue; threads = whole.threads }) (ends whole.push.labels whole.push.steps) (ends whole.pop.labels whole.pop.steps)
      by false w = ends_early short good clean w refl

  from_lines : (r : Result Content Fault) → Meets start the_lines r → Answers text (r >>= λ c. client_or_fault c)
  from_lines (Ok c) m =
      let Q : Content → Type 0 = λ x. Answers text (client_or_fault x) in
      subst Q (sym m.1) (from_end m.0)
  from_lines (Err f) m = in_line short good m

from_bytes : (text : List ℕ) → length text ≤ 65536 → (o : Option ℕ) → first_bad_line 1 text ≡ o → Answers text (bytes_or_lines o text)
from_bytes text short (Some line) e = bad_byte line short e refl
from_bytes text short None e = from_lines text short e (read_from start (lines_of text (tokens_of text))) (read_meets (lines_of text (tokens_of text)) start)

over : (n : ℕ) → nat_lt 65536 n ≡ true → 65536 < n
over n e = grind (arith, leb_tells 65537 n)

not_over : (n : ℕ) → nat_lt 65536 n ≡ false → n ≤ 65536
not_over n e = grind (arith, leb_tells 65537 n)

answers : (text : List ℕ) → Answers text (program_of text)
unfolding program_of
answers text = by (nat_lt 65536 (length text)) refl
  where
    by : (b : Bool) → nat_lt 65536 (length text) ≡ b → Answers text (cond b (Err (fault E01 0)) (bytes_or_lines (first_bad_line 1 text) text))
    by true e = too_long (over (length text) e) refl
    by false e = from_bytes text (not_over (length text) e) (first_bad_line 1 text) refl

pub answers_first : {X : Type 0} (view : X → ClientOf) (text : List ℕ) (r : Result X ReadError) → Gives view r (program_of text) → AnswersFirst r text
answers_first view text (Ok x) g = tt
answers_first view text (Err Memory) g = tt
answers_first view text (Err (Refused f)) g =
    let Q : Result ClientOf Fault → Type 0 = λ x. Answers text x in
    subst Q g (answers text)

-- ---- a text that has a first fault

step_lost : (labels : List TargetOf) (s : StepOf) (o : Option Name) → Loses labels o → with_target labels s o ≡ Err (fault E07 s.line)
step_lost labels s None lost = absurd lost
step_lost labels s (Some name) lost = ap (jump_to s) lost

through : (labels : List TargetOf) (s : StepOf) (f : Fault) (r : Result (Instruction ℕ ℕ) Fault) (q : Result (List (Instruction ℕ ℕ)) Fault) → EndsStep labels s (label_of s.instruction) r → (IsLost labels s → ⊥) → q ≡ Err f → (r >>= λ t. q >>= λ ts. Ok (t ∷ ts)) ≡ Err f
through labels s f (Ok t) q h found e = ap (λ (x : Result (List (Instruction ℕ ℕ)) Fault). x >>= λ ts. Ok (t ∷ ts)) e
through labels s f (Err g) q h found e = absurd (found h.0)

lost_is : (labels : List TargetOf) (before : List StepOf) (at : StepOf) (rest : List StepOf) → AllByRecursion (λ s. IsLost labels s → ⊥) before → IsLost labels at → labelled labels (before ++ at ∷ rest) ≡ Err (fault E07 at.line)
unfolding labelled
lost_is labels [] at rest found lost = ap (λ (r : Result (Instruction ℕ ℕ) Fault). r >>= λ t. labelled labels rest >>= λ ts. Ok (t ∷ ts)) (step_lost labels at (label_of at.instruction) lost)
lost_is labels (b ∷ bs) at rest found lost =
    through labels b (fault E07 at.line) (labelled_step labels b) (labelled labels (bs ++ at ∷ rest)) (ends_placed labels b (label_of b.instruction)) found.0 (lost_is labels bs at rest found.1 lost)

body_lost : (b : BodyOf) (f : Fault) → LosesFirst b f → labelled_body b ≡ Err f
body_lost b f l = ap (labelled b.labels) l.split ∙ lost_is b.labels l.before l.at l.rest l.found l.lost ∙ ap (λ (g : Fault). Err g) (sym l.is)

not_lost : (P : StepOf → Type 0) (before : List StepOf) (at : StepOf) (rest : List StepOf) → AllByRecursion P (before ++ at ∷ rest) → P at
not_lost P [] at rest h = h.0
not_lost P (b ∷ bs) at rest h = not_lost P bs at rest h.1

none_lost : (labels : List TargetOf) (ss : List StepOf) (f : Fault) → AllByRecursion (λ s. IsLost labels s → ⊥) ss → Lost labels ss f → ⊥
none_lost labels ss f h l =
    let Q : List StepOf → Type 0 = λ xs. AllByRecursion (λ s. IsLost labels s → ⊥) xs in
    not_lost (λ s. IsLost labels s → ⊥) l.before l.at l.rest (subst Q l.split h) l.lost

module _ (text : List ℕ) (f : Fault) where
  abbrev lines : List Numbered
  lines = lines_of text (tokens_of text)

  abbrev end_of : Content
  end_of = content_of lines start

  -- clean lines are read to their end
  read_clean : IsClean start lines → (r : Result Content Fault) → Meets start lines r → r ≡ Ok end_of
  read_clean clean (Ok c) m = ap (λ (x : Content). Ok x) m.1
  read_clean clean (Err g) m = absurd (clean m.before g.code g.line m.stands)

  read_first : IsFirstFault start lines f → (r : Result Content Fault) → Meets start lines r → r ≡ Err f
  read_first s (Ok c) m = absurd (m.0 s.before f.code f.line s.stands)
  read_first s (Err g) m = ap (λ (x : Fault). Err x) (one_first start lines g f m s)

  after_bytes : length text ≤ 65536 → first_bad_line 1 text ≡ None → program_of text ≡ (read_from start lines >>= λ c. client_or_fault c)
  unfolding program_of
  after_bytes short good =
      ap (λ (b : Bool). cond b (Err (fault E01 0)) (bytes_or_lines (first_bad_line 1 text) text)) (not_long (length text) short) ∙ ap (λ (o : Option ℕ). bytes_or_lines o text) good
    where
      not_long : (n : ℕ) → n ≤ 65536 → nat_lt 65536 n ≡ false
      not_long n le = grind (arith, leb_tells 65537 n)

  after_lines : length text ≤ 65536 → first_bad_line 1 text ≡ None → IsClean start lines → program_of text ≡ client_or_fault end_of
  after_lines short good clean =
      after_bytes short good ∙ ap (λ (r : Result Content Fault). r >>= λ c. client_or_fault c) (read_clean clean (read_from start lines) (read_meets lines start))

  abbrev made : List (Instruction ℕ ℕ) → List (Instruction ℕ ℕ) → ClientOf
  made xs ys = record { capacity = end_of.capacity; mode = end_of.mode; arrays = end_of.arrays; push = xs; pop = ys; prologue = end_of.prologue; threads = end_of.threads }

  finished_by : (b : Bool) → is_whole end_of ≡ b → client_or_fault end_of ≡ cond b (labelled_body end_of.push >>= λ xs. labelled_body end_of.pop >>= λ ys. Ok (made xs ys)) (Err (fault E08 0))
  unfolding client_or_fault
  finished_by b e = ap (λ (x : Bool). cond x (labelled_body end_of.push >>= λ xs. labelled_body end_of.pop >>= λ ys. Ok (made xs ys)) (Err (fault E08 0))) e

  pop_lost : (r : Result (List (Instruction ℕ ℕ)) Fault) → Ends end_of.push.labels end_of.push.steps r → LosesNone end_of.push → LosesFirst end_of.pop f → (r >>= λ xs. labelled_body end_of.pop >>= λ ys. Ok (made xs ys)) ≡ Err f
  pop_lost (Ok xs) h none lost = ap (λ (q : Result (List (Instruction ℕ ℕ)) Fault). q >>= λ ys. Ok (made xs ys)) (body_lost end_of.pop f lost)
  pop_lost (Err g) h none lost = absurd (none_lost end_of.push.labels end_of.push.steps g none h)

  is_the_fault : FirstOf text f → program_of text ≡ Err f
  unfolding program_of
  is_the_fault (too_long long is) =
      ap (λ (b : Bool). cond b (Err (fault E01 0)) (bytes_or_lines (first_bad_line 1 text) text)) (is_long (length text) long) ∙ ap (λ (g : Fault). Err g) (sym is)
    where
      is_long : (n : ℕ) → 65536 < n → nat_lt 65536 n ≡ true
      is_long n lt = grind (arith, leb_tells 65537 n)
  is_the_fault (bad_byte line short bad is) =
      ap (λ (b : Bool). cond b (Err (fault E01 0)) (bytes_or_lines (first_bad_line 1 text) text)) (not_long (length text) short) ∙ ap (λ (o : Option ℕ). bytes_or_lines o text) bad ∙ ap (λ (g : Fault). Err g) (sym is)
    where
      not_long : (n : ℕ) → n ≤ 65536 → nat_lt 65536 n ≡ false
      not_long n le = grind (arith, leb_tells 65537 n)
  is_the_fault (in_line short good s) =
      after_bytes short good ∙ ap (λ (r : Result Content Fault). r >>= λ c. client_or_fault c) (read_first s (read_from start lines) (read_meets lines start))
  is_the_fault (ends_early short good clean w is) = after_lines short good clean ∙ finished_by false w ∙ ap (λ (g : Fault). Err g) (sym is)
  is_the_fault (lost_in_push short good clean w lost) =
      after_lines short good clean ∙ finished_by true w ∙ ap (λ (r : Result (List (Instruction ℕ ℕ)) Fault). r >>= λ xs. labelled_body end_of.pop >>= λ ys. Ok (made xs ys)) (body_lost end_of.push f lost)
  is_the_fault (lost_in_pop short good clean w none lost) =
      after_lines short good clean ∙ finished_by true w ∙ pop_lost (labelled_body end_of.push) (ends end_of.push.labels end_of.push.steps) none lost

refused_by : {X : Type 0} (view : X → ClientOf) (r : Result X ReadError) (what : Result ClientOf Fault) (f : Fault) → Gives view r what → what ≡ Err f → IsRefused r f
refused_by view (Ok x) what f g e = let h : Ok (view x) ≡ Err f = sym g ∙ e in cc
refused_by view (Err Memory) what f g e = tt
refused_by view (Err (Refused k)) what f g e = let h : Err k ≡ Err f = sym g ∙ e in cc

pub refuses_first : {X : Type 0} (view : X → ClientOf) (text : List ℕ) (r : Result X ReadError) → Gives view r (program_of text) → (f : Fault) → FirstOf text f → IsRefused r f
refuses_first view text r g f h = refused_by view r (program_of text) f g (is_the_fault text f h)
