-- Clean lines walk through the six parts.
use Rattle.std.proofs.Common.{◌≡◌, true, List, [], ◌∷◌, ◌++◌, refl, ap, subst, ◌∙◌}
use Rattle.std.specs.List.{AllByRecursion}
use Rattle.tso_prog.specs.declared.draft.Part.{Part}
use Rattle.tso_prog.specs.declared.draft.Part.TheVariants as parts
use Rattle.tso_line.specs.declared.line.Kind.{Kind}
use Rattle.tso_line.specs.declared.line.Kind.TheVariants.{Capacity, Mode, Array, Push, Pop, End, Target, Instruction, Before, Thread}
use Rattle.tso_prog.specs.Faults.{may_stand}
use Rattle.tso_prog.specs.After.{after_end}
use Rattle.tso_prog.specs.Parts.{IsBodyKind, IsPrologue, SixParts}

-- ---- the parts, by kinds alone

-- the part after a line of this kind
abbrev pub part_next : Part → Kind → Part
part_next p Capacity = parts.Mode
part_next p Mode = parts.Arrays
part_next p Array = p
part_next p Push = parts.Push
part_next p Pop = parts.Pop
part_next p End = after_end p
part_next p Target = p
part_next p Instruction = p
part_next p Before = parts.Threads
part_next p Thread = parts.Threads

abbrev pub Walks : Part → List Kind → Part → Type 0
Walks p [] q = p ≡ q
Walks p (k ∷ ks) q = (may_stand p k ≡ true) × Walks (part_next p k) ks q

threads_walk : (ks : List Kind) → Walks parts.Threads ks parts.Threads → AllByRecursion (λ k. k ≡ Thread) ks
threads_walk [] w = tt
threads_walk (Thread ∷ ks) w = (refl, threads_walk ks w.1)
threads_walk (Capacity ∷ ks) w = absurd (let e = w.0 in cc)
threads_walk (Mode ∷ ks) w = absurd (let e = w.0 in cc)
threads_walk (Array ∷ ks) w = absurd (let e = w.0 in cc)
threads_walk (Push ∷ ks) w = absurd (let e = w.0 in cc)
threads_walk (Pop ∷ ks) w = absurd (let e = w.0 in cc)
threads_walk (Before ∷ ks) w = absurd (let e = w.0 in cc)
threads_walk (End ∷ ks) w = absurd (let e = w.0 in cc)
threads_walk (Target ∷ ks) w = absurd (let e = w.0 in cc)
threads_walk (Instruction ∷ ks) w = absurd (let e = w.0 in cc)

-- perhaps a prologue, and threads
record Tail (ks : List Kind) : Type 0 where
  prologue : List Kind
  threads : List Kind
  split : ks ≡ prologue ++ threads
  prologue_is : IsPrologue prologue
  threads_are : AllByRecursion (λ k. k ≡ Thread) threads

prologue_walk : (ks : List Kind) → Walks parts.Prologue ks parts.Threads → Tail ks
prologue_walk [] w = absurd cc
prologue_walk (Before ∷ ks) w = record { prologue = Before ∷ []; threads = ks; split = refl; prologue_is = refl; threads_are = threads_walk ks w.1 }
prologue_walk (Thread ∷ ks) w = record { prologue = []; threads = Thread ∷ ks; split = refl; prologue_is = tt; threads_are = (refl, threads_walk ks w.1) }
prologue_walk (Capacity ∷ ks) w = absurd (let e = w.0 in cc)
prologue_walk (Mode ∷ ks) w = absurd (let e = w.0 in cc)
prologue_walk (Array ∷ ks) w = absurd (let e = w.0 in cc)
prologue_walk (Push ∷ ks) w = absurd (let e = w.0 in cc)
prologue_walk (Pop ∷ ks) w = absurd (let e = w.0 in cc)
prologue_walk (End ∷ ks) w = absurd (let e = w.0 in cc)
prologue_walk (Target ∷ ks) w = absurd (let e = w.0 in cc)
prologue_walk (Instruction ∷ ks) w = absurd (let e = w.0 in cc)

-- a procedure, its end, and what follows
record Procedure (after_it : List Kind → Type 0) (ks : List Kind) : Type 0 where
  body : List Kind
  rest : List Kind
  split : ks ≡ body ++ End ∷ rest
  body_is : AllByRecursion IsBodyKind body
  rest_is : after_it rest

longer : (P : List Kind → Type 0) (k : Kind) (ks : List Kind) → IsBodyKind k → Procedure P ks → Procedure P (k ∷ ks)
longer P k ks b p = record { body = k ∷ p.body; rest = p.rest; split = ap (λ (x : List Kind). k ∷ x) p.split; body_is = (b, p.body_is); rest_is = p.rest_is }

pop_walk : (ks : List Kind) → Walks parts.Pop ks parts.Threads → Procedure Tail ks
pop_walk [] w = absurd cc
pop_walk (End ∷ ks) w = record { body = []; rest = ks; split = refl; body_is = tt; rest_is = prologue_walk ks w.1 }
pop_walk (Target ∷ ks) w = longer _ Target ks tt (pop_walk ks w.1)
pop_walk (Instruction ∷ ks) w = longer _ Instruction ks tt (pop_walk ks w.1)
pop_walk (Thread ∷ ks) w = absurd (let e = w.0 in cc)
pop_walk (Capacity ∷ ks) w = absurd (let e = w.0 in cc)
pop_walk (Mode ∷ ks) w = absurd (let e = w.0 in cc)
pop_walk (Array ∷ ks) w = absurd (let e = w.0 in cc)
pop_walk (Push ∷ ks) w = absurd (let e = w.0 in cc)
pop_walk (Pop ∷ ks) w = absurd (let e = w.0 in cc)
pop_walk (Before ∷ ks) w = absurd (let e = w.0 in cc)

-- `.pop` and the rest
abbrev Second : List Kind → Type 0
Second ks = (rest : List Kind) × (ks ≡ Pop ∷ rest) × Procedure Tail rest

between_walk : (ks : List Kind) → Walks parts.Between ks parts.Threads → Second ks
between_walk [] w = absurd cc
between_walk (Pop ∷ ks) w = (ks, refl, pop_walk ks w.1)
between_walk (End ∷ ks) w = absurd (let e = w.0 in cc)
between_walk (Target ∷ ks) w = absurd (let e = w.0 in cc)
between_walk (Instruction ∷ ks) w = absurd (let e = w.0 in cc)
between_walk (Thread ∷ ks) w = absurd (let e = w.0 in cc)
between_walk (Capacity ∷ ks) w = absurd (let e = w.0 in cc)
between_walk (Mode ∷ ks) w = absurd (let e = w.0 in cc)
between_walk (Array ∷ ks) w = absurd (let e = w.0 in cc)
between_walk (Push ∷ ks) w = absurd (let e = w.0 in cc)
between_walk (Before ∷ ks) w = absurd (let e = w.0 in cc)

push_walk : (ks : List Kind) → Walks parts.Push ks parts.Threads → Procedure Second ks
push_walk [] w = absurd cc
push_walk (End ∷ ks) w = record { body = []; rest = ks; split = refl; body_is = tt; rest_is = between_walk ks w.1 }
push_walk (Target ∷ ks) w = longer _ Target ks tt (push_walk ks w.1)
push_walk (Instruction ∷ ks) w = longer _ Instruction ks tt (push_walk ks w.1)
push_walk (Thread ∷ ks) w = absurd (let e = w.0 in cc)
push_walk (Capacity ∷ ks) w = absurd (let e = w.0 in cc)
push_walk (Mode ∷ ks) w = absurd (let e = w.0 in cc)
push_walk (Array ∷ ks) w = absurd (let e = w.0 in cc)
push_walk (Push ∷ ks) w = absurd (let e = w.0 in cc)
push_walk (Pop ∷ ks) w = absurd (let e = w.0 in cc)
push_walk (Before ∷ ks) w = absurd (let e = w.0 in cc)

record Arrays (ks : List Kind) : Type 0 where
  arrays : List Kind
  rest : List Kind
  split : ks ≡ arrays ++ Push ∷ rest
  arrays_are : AllByRecursion (λ k. k ≡ Array) arrays
  rest_is : Procedure Second rest

arrays_walk : (ks : List Kind) → Walks parts.Arrays ks parts.Threads → Arrays ks
arrays_walk [] w = absurd cc
arrays_walk (Array ∷ ks) w = let a = arrays_walk ks w.1 in record { arrays = Array ∷ a.arrays; rest = a.rest; split = ap (λ (x : List Kind). Array ∷ x) a.split; arrays_are = (refl, a.arrays_are); rest_is = a.rest_is }
arrays_walk (Push ∷ ks) w = record { arrays = []; rest = ks; split = refl; arrays_are = tt; rest_is = push_walk ks w.1 }
arrays_walk (End ∷ ks) w = absurd (let e = w.0 in cc)
arrays_walk (Target ∷ ks) w = absurd (let e = w.0 in cc)
arrays_walk (Instruction ∷ ks) w = absurd (let e = w.0 in cc)
arrays_walk (Thread ∷ ks) w = absurd (let e = w.0 in cc)
arrays_walk (Capacity ∷ ks) w = absurd (let e = w.0 in cc)
arrays_walk (Mode ∷ ks) w = absurd (let e = w.0 in cc)
arrays_walk (Pop ∷ ks) w = absurd (let e = w.0 in cc)
arrays_walk (Before ∷ ks) w = absurd (let e = w.0 in cc)

second_only : (k : Kind) (p : Part) → may_stand parts.Mode k ≡ true → k ≡ Mode
second_only Mode p e = refl
second_only Capacity p e = absurd cc
second_only Array p e = absurd cc
second_only Push p e = absurd cc
second_only Pop p e = absurd cc
second_only End p e = absurd cc
second_only Target p e = absurd cc
second_only Instruction p e = absurd cc
second_only Before p e = absurd cc
second_only Thread p e = absurd cc

first_only : (k : Kind) → may_stand parts.Capacity k ≡ true → k ≡ Capacity
first_only Capacity e = refl
first_only Mode e = absurd cc
first_only Array e = absurd cc
first_only Push e = absurd cc
first_only Pop e = absurd cc
first_only End e = absurd cc
first_only Target e = absurd cc
first_only Instruction e = absurd cc
first_only Before e = absurd cc
first_only Thread e = absurd cc

mode_walk : (ks : List Kind) → Walks parts.Mode ks parts.Threads → (rest : List Kind) × (ks ≡ Mode ∷ rest) × Arrays rest
mode_walk [] w = absurd cc
mode_walk (k ∷ ks) w =
    let e = second_only k parts.Mode w.0 in
    (ks, ap (λ (x : Kind). x ∷ ks) e, arrays_walk ks (subst (λ (x : Kind). Walks (part_next parts.Mode x) ks parts.Threads) e w.1))

pub six_parts : (ks : List Kind) → Walks parts.Capacity ks parts.Threads → SixParts ks
six_parts [] w = absurd cc
six_parts (k ∷ ks) w =
    let e = first_only k w.0 in
    let m = mode_walk ks (subst (λ (x : Kind). Walks (part_next parts.Capacity x) ks parts.Threads) e w.1) in
    let a = m.2 in
    let p = a.rest_is in
    let s = p.rest_is in
    let q = s.2 in
    let t = q.rest_is in
    let fourth : s.0 ≡ q.body ++ End ∷ (t.prologue ++ t.threads) = q.split ∙ ap (λ (x : List Kind). q.body ++ End ∷ x) t.split in
    let third : p.rest ≡ Pop ∷ (q.body ++ End ∷ (t.prologue ++ t.threads)) = s.1 ∙ ap (λ (x : List Kind). Pop ∷ x) fourth in
    let second : a.rest ≡ p.body ++ End ∷ Pop ∷ (q.body ++ End ∷ (t.prologue ++ t.threads)) = p.split ∙ ap (λ (x : List Kind). p.body ++ End ∷ x) third in
    let first : m.0 ≡ a.arrays ++ Push ∷ (p.body ++ End ∷ Pop ∷ (q.body ++ End ∷ (t.prologue ++ t.threads))) = a.split ∙ ap (λ (x : List Kind). a.arrays ++ Push ∷ x) second in
    record {
      arrays = a.arrays;
      push = p.body;
      pop = q.body;
      prologue = t.prologue;
      threads = t.threads;
      split = (λ i. e i ∷ m.1 i) ∙ ap (λ (x : List Kind). Capacity ∷ Mode ∷ x) first;
      arrays_are = a.arrays_are;
      push_is = p.body_is;
      pop_is = q.body_is;
      prologue_is = t.prologue_is;
      threads_are = t.threads_are;
    }
