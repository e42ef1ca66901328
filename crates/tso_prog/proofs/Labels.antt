-- Labels, as a procedure keeps them.
use Rattle.std.proofs.Common.{◌≡◌, ℕ, suc, ◌+◌, ◌<◌, ◌≤◌, Bool, true, false, cond, List, [], ◌∷◌, ◌++◌, length, drop, get_or, map, Some, Result, Ok, Err, refl, sym, ap, ◌∙◌, append_assoc, arith, drop-cons}
use Rattle.std.proofs.lemmas.List.{append-nil, drop_all}
use Rattle.std.specs.Prelude.{find}
use Rattle.std.specs.Option.{option_map}
use Rattle.std.specs.Str.{bytes_eq}
use Rattle.tso_prog.specs.declared.named.Target.{Target}
use Rattle.tso_prog.specs.declared.draft.Unresolved.{Unresolved}
use Rattle.tso_line.specs.declared.instruction.Instruction.{Instruction}
use Rattle.tso_line.specs.declared.instruction.Instruction.TheVariants as instructions
use Rattle.tso_line.specs.declared.instruction.Register.TheVariants as registers
use Rattle.tso_line.specs.declared.instruction.Source.TheVariants as sources
use Rattle.tso_prog.specs.declared.fault.Fault.{Fault}
use Rattle.tso_prog.specs.declared.fault.ReadError.{ReadError}
use Rattle.tso_prog.specs.declared.fault.ReadError.TheVariants.{Refused, Memory}
use Rattle.tso_prog.specs.Contents.{TargetOf, StepOf}
use Rattle.tso_prog.specs.Content.{target_view, step_view}
use Rattle.tso_prog.specs.Program.{Fails, ◌>>=◌}
use Rattle.tso_prog.specs.Finish.{target_position, labelled_step, labelled}

pub target_position_is : (labels : List Target) (name : List ℕ) → target_position (map target_view labels) name ≡ option_map (λ l. l.at) (find (λ l. bytes_eq l.name.now name) labels)
target_position_is [] name = refl
target_position_is (l ∷ ls) name = at (bytes_eq l.name.now name) l (target_position_is ls name)
  where
    at : (b : Bool) (l : Target) → target_position (map target_view ls) name ≡ option_map (λ l. l.at) (find (λ l. bytes_eq l.name.now name) ls) → option_map (λ l. l.at) (cond b (Some (target_view l)) (find (λ l. bytes_eq l.name name) (map target_view ls))) ≡ option_map (λ l. l.at) (cond b (Some l) (find (λ l. bytes_eq l.name.now name) ls))
    at true l e = refl
    at false l e = e

-- ---- steps one after the other

abbrev pub with_front : List (Instruction ℕ ℕ) → Result (List (Instruction ℕ ℕ)) Fault → Result (List (Instruction ℕ ℕ)) Fault
with_front front read = read >>= λ ss. Ok (front ++ ss)

regroup : (front : List (Instruction ℕ ℕ)) (s : Instruction ℕ ℕ) (read : Result (List (Instruction ℕ ℕ)) Fault) → with_front front (read >>= λ ss. Ok (s ∷ ss)) ≡ with_front (front ++ s ∷ []) read
regroup front s (Ok ss) = ap (λ (x : List (Instruction ℕ ℕ)). Ok x) (simp append_assoc)
regroup front s (Err f) = refl

-- the step at a place
abbrev pub step_at : List Unresolved → ℕ → Unresolved
step_at steps i = get_or steps i (record { instruction = instructions.Move registers.Rax (sources.Register registers.Rax); line = 0 })

-- the steps from this place on
from : (steps : List Unresolved) (i : ℕ) → i < length steps → map step_view (drop i steps) ≡ step_view (step_at steps i) ∷ map step_view (drop (i + 1) steps)
from steps i lt =
    let n : suc i ≡ i + 1 = omega arith in
    ap (map step_view) (drop-cons steps i _ lt ∙ ap (λ (k : ℕ). step_at steps i ∷ drop k steps) n)

pub step_more : (labels : List TargetOf) (front : List (Instruction ℕ ℕ)) (steps : List Unresolved) (i : ℕ) (t : Instruction ℕ ℕ) (all : Result (List (Instruction ℕ ℕ)) Fault) → i < length steps → labelled_step labels (step_view (step_at steps i)) ≡ Ok t
    → with_front front (labelled labels (map step_view (drop i steps))) ≡ all → with_front (front ++ t ∷ []) (labelled labels (map step_view (drop (i + 1) steps))) ≡ all
unfolding labelled
step_more labels front steps i t all lt is so_far =
    sym (regroup front t (labelled labels (map step_view (drop (i + 1) steps))))
    ∙ sym (ap (λ (r : Result (Instruction ℕ ℕ) Fault). with_front front (r >>= λ t. labelled labels (map step_view (drop (i + 1) steps)) >>= λ ts. Ok (t ∷ ts))) is)
    ∙ sym (ap (λ (ss : List StepOf). with_front front (labelled labels ss)) (from steps i lt)) ∙ so_far

pub step_stop : (e : ReadError) (labels : List TargetOf) (front : List (Instruction ℕ ℕ)) (steps : List Unresolved) (i : ℕ) (all : Result (List (Instruction ℕ ℕ)) Fault) → i < length steps → Fails e (labelled_step labels (step_view (step_at steps i)))
    → with_front front (labelled labels (map step_view (drop i steps))) ≡ all → Fails e all
unfolding labelled
step_stop Memory labels front steps i all lt is so_far = tt
step_stop (Refused f) labels front steps i all lt is so_far =
    sym so_far ∙ ap (λ (ss : List StepOf). with_front front (labelled labels ss)) (from steps i lt)
    ∙ ap (λ (r : Result (Instruction ℕ ℕ) Fault). with_front front (r >>= λ t. labelled labels (map step_view (drop (i + 1) steps)) >>= λ ts. Ok (t ∷ ts))) is

pub steps_end : (labels : List TargetOf) (front : List (Instruction ℕ ℕ)) (steps : List Unresolved) (i : ℕ) (all : Result (List (Instruction ℕ ℕ)) Fault) → length steps ≤ i → with_front front (labelled labels (map step_view (drop i steps))) ≡ all → all ≡ Ok front
unfolding labelled
steps_end labels front steps i all le so_far =
    sym so_far ∙ ap (λ (ss : List Unresolved). with_front front (labelled labels (map step_view ss))) (drop_all i steps le) ∙ ap (λ (x : List (Instruction ℕ ℕ)). Ok x) (append-nil front)
