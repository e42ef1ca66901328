-- Clean lines, one after the other.
use Rattle.std.proofs.Common.{◌≡◌, ℕ, Bool, true, false, not, List, [], ◌∷◌, map, Some, refl, subst}
use Rattle.std.specs.Prelude.{◌&&◌, ◌||◌}
use Rattle.std.proofs.lemmas.Bool.{false_from_ne_true}
use Rattle.tso_line.specs.declared.line.Kind.{Kind}
use Rattle.tso_line.specs.declared.line.Kind.TheVariants.{Capacity, Mode, Array, Push, Pop, End, Target, Instruction as Step, Before, Thread}
use Rattle.tso_line.specs.declared.line.Slip.TheVariants as slips
use Rattle.tso_line.specs.Lines.{Line, misshapen, wrong, capacity, mode, array, push, pop, end, label, instruction, before, thread, kind_of}
use Rattle.tso_prog.specs.declared.draft.Part.{Part}
use Rattle.tso_prog.specs.declared.draft.Part.TheVariants as parts
use Rattle.tso_prog.specs.declared.fault.Code.{Code}
use Rattle.tso_prog.specs.declared.fault.Code.TheVariants.{E03, E04, E05}
use Rattle.tso_prog.specs.Contents.{BodyOf, Content}
use Rattle.tso_prog.specs.Faults.{may_stand, has}
use Rattle.tso_prog.specs.After.{after, with_opened}
use Rattle.tso_prog.specs.Program.{Numbered, content_of, IsClean}
use Rattle.tso_prog.proofs.First.{then_content, before_it}
use Rattle.tso_prog.proofs.Walk.{part_next, Walks}

-- ---- a clean line

pub stands : (b : Bool) → (not b || false) ≡ false → b ≡ true
stands true e = refl
stands false e = absurd cc

pub count_no : (b : Bool) → (b || true) ≡ false → ⊥
count_no true e = cc
count_no false e = cc

pub left : (a b : Bool) → (a && b) ≡ true → a ≡ true
left true b e = refl
left false b e = absurd cc

pub opened_part : (p : Part) (c : Content) (f : BodyOf → BodyOf) → (with_opened p c f).part ≡ c.part
opened_part parts.Pop c f = refl
opened_part parts.Capacity c f = refl
opened_part parts.Mode c f = refl
opened_part parts.Arrays c f = refl
opened_part parts.Push c f = refl
opened_part parts.Between c f = refl
opened_part parts.Prologue c f = refl
opened_part parts.Threads c f = refl

pub record Goes (c : Content) (n : ℕ) (l : Line) : Type 0 where
  pub kind : Kind
  pub kind_is : kind_of l ≡ Some kind
  pub may : may_stand c.part kind ≡ true
  pub next : (after c n l).part ≡ part_next c.part kind

pub goes : (c : Content) (n : ℕ) (l : Line) → has c l E03 ≡ false → has c l E04 ≡ false → has c l E05 ≡ false → Goes c n l
goes c n misshapen e f g = absurd cc
goes c n (wrong kind slips.Count) e f g = absurd (count_no _ e)
goes c n (wrong kind slips.Word) e f g = absurd cc
goes c n (wrong kind slips.Number) e f g = absurd cc
goes c n (capacity k) e f g = record { kind = Capacity; kind_is = refl; may = stands _ e; next = refl }
goes c n (mode m) e f g = record { kind = Mode; kind_is = refl; may = stands _ e; next = refl }
goes c n (array name words) e f g = record { kind = Array; kind_is = refl; may = stands _ e; next = refl }
goes c n push e f g = record { kind = Push; kind_is = refl; may = stands _ e; next = refl }
goes c n pop e f g = record { kind = Pop; kind_is = refl; may = stands _ e; next = refl }
goes c n end e f g = record { kind = End; kind_is = refl; may = left _ _ (stands _ e); next = refl }
goes c n (label name) e f g = record { kind = Target; kind_is = refl; may = stands _ e; next = opened_part c.part c _ }
goes c n (instruction i lacks) e f g = record { kind = Step; kind_is = refl; may = stands _ e; next = opened_part c.part c _ }
goes c n (before calls) e f g = record { kind = Before; kind_is = refl; may = stands _ e; next = refl }
goes c n (thread calls) e f g = record { kind = Thread; kind_is = refl; may = stands _ e; next = refl }

-- ---- clean lines

pub clean_here : (c : Content) (l : Numbered) (ls : List Numbered) → IsClean c (l ∷ ls) → (code : Code) → has c l.line code ≡ false
unfolding content_of
clean_here c l ls clean code = false_from_ne_true _ (λ t. clean [] code l.number (record { at = l; rest = ls; split = refl; has_it = t; numbered_so = refl }))

pub clean_rest : (c : Content) (l : Numbered) (ls : List Numbered) → IsClean c (l ∷ ls) → IsClean (then_content c l) ls
clean_rest c l ls clean = λ before code number s. clean (l ∷ before) code number (before_it c l ls before code number s)

pub record Walk (c : Content) (ls : List Numbered) : Type 0 where
  pub kinds : List Kind
  pub kinds_are : map (λ (l : Numbered). kind_of l.line) ls ≡ map (λ (k : Kind). Some k) kinds
  pub walks : Walks c.part kinds (content_of ls c).part

pub clean_walk : (ls : List Numbered) (c : Content) → IsClean c ls → Walk c ls
unfolding content_of
clean_walk [] c clean = record { kinds = []; kinds_are = refl; walks = refl }
clean_walk (l ∷ ls) c clean =
    let here = clean_here c l ls clean in
    let g = goes c l.number l.line (here E03) (here E04) (here E05) in
    let w = clean_walk ls (then_content c l) (clean_rest c l ls clean) in
    record {
      kinds = g.kind ∷ w.kinds;
      kinds_are = (λ i. g.kind_is i ∷ w.kinds_are i);
      walks = (g.may, subst (λ (p : Part). Walks p w.kinds (content_of ls (then_content c l)).part) g.next w.walks);
    }
