-- What clean lines make.
use Rattle.std.proofs.Common.{◌≡◌, ℕ, Bool, true, false, cond, List, [], ◌∷◌, ◌++◌, length, Option, Some, None, Result, Ok, Err, refl, sym, ap, subst, ◌∙◌, append_assoc}
use Rattle.std.specs.Prelude.{◌&&◌, nat_lt, IfOk}
use Rattle.std.specs.List.{flat_map}
use Rattle.std.proofs.lemmas.List.{append-nil}
use Rattle.tso_text.specs.declared.token.Token.{Token}
use Rattle.tso_text.specs.declared.scan.LexError.TheVariants.{TooLong}
use Rattle.tso_text.specs.Lexing.{first_bad_line, tokens_or_bad_line, tokens_or_fault, tokens_of}
use Rattle.tso_line.specs.declared.instruction.CallKind.{CallKind}
use Rattle.tso_line.specs.declared.instruction.Instruction.{Instruction}
use Rattle.tso_line.specs.declared.instruction.Mode.{Mode as QueueMode}
use Rattle.tso_line.specs.declared.line.Kind.TheVariants as kinds
use Rattle.tso_line.specs.declared.line.Slip.TheVariants as slips
use Rattle.tso_line.specs.Lines.{Line, misshapen, wrong, capacity, mode, array, push, pop, end, label, instruction, before, thread}
use Rattle.tso_prog.specs.declared.client.Array.{Array as Words}
use Rattle.tso_prog.specs.declared.draft.Part.{Part}
use Rattle.tso_prog.specs.declared.draft.Part.TheVariants as parts
use Rattle.tso_prog.specs.declared.fault.Code.{Code}
use Rattle.tso_prog.specs.declared.fault.Code.TheVariants.{E01, E03, E04, E05, E08}
use Rattle.tso_prog.specs.declared.fault.Fault.{Fault}
use Rattle.tso_prog.specs.declared.fault.ReadError.{ReadError}
use Rattle.tso_prog.specs.Contents.{BodyOf, Content}
use Rattle.tso_prog.specs.Clients.{ClientOf}
use Rattle.tso_prog.specs.Faults.{may_stand, has}
use Rattle.tso_prog.specs.After.{after, after_end, with_opened}
use Rattle.tso_prog.specs.Start.{start}
use Rattle.tso_prog.specs.Program.{Gives, ◌>>=◌, fault, Numbered, lines_of, read_from, content_of, IsClean}
use Rattle.tso_prog.specs.Finish.{labelled_body, line_numbers, client_or_fault, is_threads}
use Rattle.tso_prog.specs.Parts.{HasParts, HasLines, before_end, behind_end, capacity_in, mode_in, array_in, prologue_in, calls_in, numbers_in}
use Rattle.tso_prog.specs.Text.{program_of, bytes_or_lines}
use Rattle.tso_prog.proofs.First.{then_content, Meets, read_meets}
use Rattle.tso_prog.proofs.Walk.{Walks, six_parts}
use Rattle.tso_prog.proofs.Clean.{stands, count_no, left, opened_part, clean_here, clean_rest, clean_walk}
use Rattle.tso_prog.proofs.Bodies.{bodies, all_known, before_known, behind_known, are_of, numbers_are}

-- ---- what changes no procedure

opened_arrays : (p : Part) (c : Content) (f : BodyOf → BodyOf) → (with_opened p c f).arrays ≡ c.arrays
opened_arrays parts.Capacity c f = refl
opened_arrays parts.Mode c f = refl
opened_arrays parts.Arrays c f = refl
opened_arrays parts.Push c f = refl
opened_arrays parts.Between c f = refl
opened_arrays parts.Pop c f = refl
opened_arrays parts.Prologue c f = refl
opened_arrays parts.Threads c f = refl

opened_threads : (p : Part) (c : Content) (f : BodyOf → BodyOf) → (with_opened p c f).threads ≡ c.threads
opened_threads parts.Capacity c f = refl
opened_threads parts.Mode c f = refl
opened_threads parts.Arrays c f = refl
opened_threads parts.Push c f = refl
opened_threads parts.Between c f = refl
opened_threads parts.Pop c f = refl
opened_threads parts.Prologue c f = refl
opened_threads parts.Threads c f = refl

opened_capacity : (p : Part) (c : Content) (f : BodyOf → BodyOf) → (with_opened p c f).capacity ≡ c.capacity
opened_capacity parts.Capacity c f = refl
opened_capacity parts.Mode c f = refl
opened_capacity parts.Arrays c f = refl
opened_capacity parts.Push c f = refl
opened_capacity parts.Between c f = refl
opened_capacity parts.Pop c f = refl
opened_capacity parts.Prologue c f = refl
opened_capacity parts.Threads c f = refl

opened_mode : (p : Part) (c : Content) (f : BodyOf → BodyOf) → (with_opened p c f).mode ≡ c.mode
opened_mode parts.Capacity c f = refl
opened_mode parts.Mode c f = refl
opened_mode parts.Arrays c f = refl
opened_mode parts.Push c f = refl
opened_mode parts.Between c f = refl
opened_mode parts.Pop c f = refl
opened_mode parts.Prologue c f = refl
opened_mode parts.Threads c f = refl

opened_prologue : (p : Part) (c : Content) (f : BodyOf → BodyOf) → (with_opened p c f).prologue ≡ c.prologue
opened_prologue parts.Capacity c f = refl
opened_prologue parts.Mode c f = refl
opened_prologue parts.Arrays c f = refl
opened_prologue parts.Push c f = refl
opened_prologue parts.Between c f = refl
opened_prologue parts.Pop c f = refl
opened_prologue parts.Prologue c f = refl
opened_prologue parts.Threads c f = refl

-- ---- arrays and threads

after_arrays : (c : Content) (n : ℕ) (l : Line) → (after c n l).arrays ≡ c.arrays ++ array_in l
after_arrays c n misshapen = sym (append-nil c.arrays)
after_arrays c n (wrong kind slip) = sym (append-nil c.arrays)
after_arrays c n (capacity k) = sym (append-nil c.arrays)
after_arrays c n (mode m) = sym (append-nil c.arrays)
after_arrays c n (array name words) = refl
after_arrays c n push = sym (append-nil c.arrays)
after_arrays c n pop = sym (append-nil c.arrays)
after_arrays c n end = sym (append-nil c.arrays)
after_arrays c n (label name) = opened_arrays c.part c _ ∙ sym (append-nil c.arrays)
after_arrays c n (instruction i lacks) = opened_arrays c.part c _ ∙ sym (append-nil c.arrays)
after_arrays c n (before calls) = sym (append-nil c.arrays)
after_arrays c n (thread calls) = sym (append-nil c.arrays)

after_threads : (c : Content) (n : ℕ) (l : Line) → (after c n l).threads ≡ c.threads ++ calls_in l
after_threads c n misshapen = sym (append-nil c.threads)
after_threads c n (wrong kind slip) = sym (append-nil c.threads)
after_threads c n (capacity k) = sym (append-nil c.threads)
after_threads c n (mode m) = sym (append-nil c.threads)
after_threads c n (array name words) = sym (append-nil c.threads)
after_threads c n push = sym (append-nil c.threads)
after_threads c n pop = sym (append-nil c.threads)
after_threads c n end = sym (append-nil c.threads)
after_threads c n (label name) = opened_threads c.part c _ ∙ sym (append-nil c.threads)
after_threads c n (instruction i lacks) = opened_threads c.part c _ ∙ sym (append-nil c.threads)
after_threads c n (before calls) = sym (append-nil c.threads)
after_threads c n (thread calls) = refl

content_arrays : (ls : List Numbered) (c : Content) → (content_of ls c).arrays ≡ c.arrays ++ flat_map (λ l. array_in l.line) ls
unfolding content_of
content_arrays [] c = sym (append-nil c.arrays)
content_arrays (l ∷ ls) c = content_arrays ls (then_content c l) ∙ ap (λ (xs : List Words). xs ++ flat_map (λ l. array_in l.line) ls) (after_arrays c l.number l.line) ∙ append_assoc c.arrays (array_in l.line) _

content_threads : (ls : List Numbered) (c : Content) → (content_of ls c).threads ≡ c.threads ++ flat_map (λ l. calls_in l.line) ls
unfolding content_of
content_threads [] c = sym (append-nil c.threads)
content_threads (l ∷ ls) c = content_threads ls (then_content c l) ∙ ap (λ (xs : List (List CallKind)). xs ++ flat_map (λ l. calls_in l.line) ls) (after_threads c l.number l.line) ∙ append_assoc c.threads (calls_in l.line) _

-- ---- capacity, mode and prologue

-- before these lines there is no prologue
abbrev Early : Part → List CallKind → Type 0
Early parts.Capacity calls = calls ≡ []
Early parts.Mode calls = calls ≡ []
Early parts.Arrays calls = calls ≡ []
Early parts.Push calls = calls ≡ []
Early parts.Between calls = calls ≡ []
Early parts.Pop calls = calls ≡ []
Early parts.Prologue calls = calls ≡ []
Early parts.Threads calls = Unit {0}

early_any : (p : Part) (calls : List CallKind) → calls ≡ [] → Early p calls
early_any parts.Capacity calls e = e
early_any parts.Mode calls e = e
early_any parts.Arrays calls e = e
early_any parts.Push calls e = e
early_any parts.Between calls e = e
early_any parts.Pop calls e = e
early_any parts.Prologue calls e = e
early_any parts.Threads calls e = tt

capacity_early : (p : Part) (calls : List CallKind) → may_stand p kinds.Capacity ≡ true → Early p calls → calls ≡ []
capacity_early parts.Capacity calls e h = h
capacity_early parts.Mode calls e h = h
capacity_early parts.Arrays calls e h = h
capacity_early parts.Push calls e h = h
capacity_early parts.Between calls e h = h
capacity_early parts.Pop calls e h = h
capacity_early parts.Prologue calls e h = h
capacity_early parts.Threads calls e h = absurd cc

mode_early : (p : Part) (calls : List CallKind) → may_stand p kinds.Mode ≡ true → Early p calls → calls ≡ []
mode_early parts.Capacity calls e h = h
mode_early parts.Mode calls e h = h
mode_early parts.Arrays calls e h = h
mode_early parts.Push calls e h = h
mode_early parts.Between calls e h = h
mode_early parts.Pop calls e h = h
mode_early parts.Prologue calls e h = h
mode_early parts.Threads calls e h = absurd cc

push_early : (p : Part) (calls : List CallKind) → may_stand p kinds.Push ≡ true → Early p calls → calls ≡ []
push_early parts.Capacity calls e h = h
push_early parts.Mode calls e h = h
push_early parts.Arrays calls e h = h
push_early parts.Push calls e h = h
push_early parts.Between calls e h = h
push_early parts.Pop calls e h = h
push_early parts.Prologue calls e h = h
push_early parts.Threads calls e h = absurd cc

pop_early : (p : Part) (calls : List CallKind) → may_stand p kinds.Pop ≡ true → Early p calls → calls ≡ []
pop_early parts.Capacity calls e h = h
pop_early parts.Mode calls e h = h
pop_early parts.Arrays calls e h = h
pop_early parts.Push calls e h = h
pop_early parts.Between calls e h = h
pop_early parts.Pop calls e h = h
pop_early parts.Prologue calls e h = h
pop_early parts.Threads calls e h = absurd cc

end_early : (p : Part) (calls : List CallKind) → may_stand p kinds.End ≡ true → Early p calls → calls ≡ []
end_early parts.Capacity calls e h = h
end_early parts.Mode calls e h = h
end_early parts.Arrays calls e h = h
end_early parts.Push calls e h = h
end_early parts.Between calls e h = h
end_early parts.Pop calls e h = h
end_early parts.Prologue calls e h = h
end_early parts.Threads calls e h = absurd cc

before_early : (p : Part) (calls : List CallKind) → may_stand p kinds.Before ≡ true → Early p calls → calls ≡ []
before_early parts.Capacity calls e h = h
before_early parts.Mode calls e h = h
before_early parts.Arrays calls e h = h
before_early parts.Push calls e h = h
before_early parts.Between calls e h = h
before_early parts.Pop calls e h = h
before_early parts.Prologue calls e h = h
before_early parts.Threads calls e h = absurd cc

opened_early : (p : Part) (c : Content) (f : BodyOf → BodyOf) → Early c.part c.prologue → Early (with_opened p c f).part (with_opened p c f).prologue
opened_early parts.Capacity c f h = h
opened_early parts.Mode c f h = h
opened_early parts.Arrays c f h = h
opened_early parts.Push c f h = h
opened_early parts.Between c f h = h
opened_early parts.Pop c f h = h
opened_early parts.Prologue c f h = h
opened_early parts.Threads c f h = h

-- what a line adds to the prologue
after_prologue : (c : Content) (n : ℕ) (l : Line) → has c l E03 ≡ false → Early c.part c.prologue → (Early (after c n l).part (after c n l).prologue) × ((after c n l).prologue ≡ c.prologue ++ prologue_in l)
after_prologue c n misshapen e h = (h, sym (append-nil c.prologue))
after_prologue c n (wrong kind slip) e h = (h, sym (append-nil c.prologue))
after_prologue c n (capacity k) e h = (capacity_early c.part c.prologue (stands _ e) h, sym (append-nil c.prologue))
after_prologue c n (mode m) e h = (mode_early c.part c.prologue (stands _ e) h, sym (append-nil c.prologue))
after_prologue c n (array name words) e h = (h, sym (append-nil c.prologue))
after_prologue c n push e h = (push_early c.part c.prologue (stands _ e) h, sym (append-nil c.prologue))
after_prologue c n pop e h = (pop_early c.part c.prologue (stands _ e) h, sym (append-nil c.prologue))
after_prologue c n end e h = (early_any (after_end c.part) c.prologue (end_early c.part c.prologue (left _ _ (stands _ e)) h), sym (append-nil c.prologue))
after_prologue c n (label name) e h = (opened_early c.part c _ h, opened_prologue c.part c _ ∙ sym (append-nil c.prologue))
after_prologue c n (instruction i lacks) e h = (opened_early c.part c _ h, opened_prologue c.part c _ ∙ sym (append-nil c.prologue))
after_prologue c n (before calls) e h = (tt, ap (λ (x : List CallKind). x ++ calls) (sym (before_early c.part c.prologue (stands _ e) h)))
after_prologue c n (thread calls) e h = (tt, sym (append-nil c.prologue))

content_prologue : (ls : List Numbered) (c : Content) → IsClean c ls → Early c.part c.prologue → (content_of ls c).prologue ≡ c.prologue ++ flat_map (λ l. prologue_in l.line) ls
unfolding content_of
content_prologue [] c clean h = sym (append-nil c.prologue)
content_prologue (l ∷ ls) c clean h =
    let a = after_prologue c l.number l.line (clean_here c l ls clean E03) h in
    content_prologue ls (then_content c l) (clean_rest c l ls clean) a.0 ∙ ap (λ (xs : List CallKind). xs ++ flat_map (λ l. prologue_in l.line) ls) a.1 ∙ append_assoc c.prologue (prologue_in l.line) _

-- the parts behind capacity and mode
abbrev is_late : Part → Bool
is_late parts.Capacity = false
is_late parts.Mode = false
is_late parts.Arrays = true
is_late parts.Push = true
is_late parts.Between = true
is_late parts.Pop = true
is_late parts.Prologue = true
is_late parts.Threads = true

end_late : (p : Part) → is_late (after_end p) ≡ true
end_late parts.Capacity = refl
end_late parts.Mode = refl
end_late parts.Arrays = refl
end_late parts.Push = refl
end_late parts.Between = refl
end_late parts.Pop = refl
end_late parts.Prologue = refl
end_late parts.Threads = refl

no_capacity : (p : Part) → is_late p ≡ true → may_stand p kinds.Capacity ≡ true → ⊥
no_capacity parts.Capacity s e = cc
no_capacity parts.Mode s e = cc
no_capacity parts.Arrays s e = cc
no_capacity parts.Push s e = cc
no_capacity parts.Between s e = cc
no_capacity parts.Pop s e = cc
no_capacity parts.Prologue s e = cc
no_capacity parts.Threads s e = cc

no_mode : (p : Part) → is_late p ≡ true → may_stand p kinds.Mode ≡ true → ⊥
no_mode parts.Capacity s e = cc
no_mode parts.Mode s e = cc
no_mode parts.Arrays s e = cc
no_mode parts.Push s e = cc
no_mode parts.Between s e = cc
no_mode parts.Pop s e = cc
no_mode parts.Prologue s e = cc
no_mode parts.Threads s e = cc

-- a line behind capacity and mode changes neither
record Quiet (c d : Content) (l : Line) : Type 0 where
  late : is_late d.part ≡ true
  capacity_stays : d.capacity ≡ c.capacity
  mode_stays : d.mode ≡ c.mode
  no_capacity : capacity_in l ≡ []
  no_mode : mode_in l ≡ []

quiet : (c : Content) (n : ℕ) (l : Line) → has c l E03 ≡ false → is_late c.part ≡ true → Quiet c (after c n l) l
quiet c n misshapen e s = record { late = s; capacity_stays = refl; mode_stays = refl; no_capacity = refl; no_mode = refl }
quiet c n (wrong kind slip) e s = record { late = s; capacity_stays = refl; mode_stays = refl; no_capacity = refl; no_mode = refl }
quiet c n (capacity k) e s = absurd (no_capacity c.part s (stands _ e))
quiet c n (mode m) e s = absurd (no_mode c.part s (stands _ e))
quiet c n (array name words) e s = record { late = s; capacity_stays = refl; mode_stays = refl; no_capacity = refl; no_mode = refl }
quiet c n push e s = record { late = refl; capacity_stays = refl; mode_stays = refl; no_capacity = refl; no_mode = refl }
quiet c n pop e s = record { late = refl; capacity_stays = refl; mode_stays = refl; no_capacity = refl; no_mode = refl }
quiet c n end e s = record { late = end_late c.part; capacity_stays = refl; mode_stays = refl; no_capacity = refl; no_mode = refl }
quiet c n (label name) e s = record { late = ap is_late (opened_part c.part c _) ∙ s; capacity_stays = opened_capacity c.part c _; mode_stays = opened_mode c.part c _; no_capacity = refl; no_mode = refl }
quiet c n (instruction i lacks) e s = record { late = ap is_late (opened_part c.part c _) ∙ s; capacity_stays = opened_capacity c.part c _; mode_stays = opened_mode c.part c _; no_capacity = refl; no_mode = refl }
quiet c n (before calls) e s = record { late = refl; capacity_stays = refl; mode_stays = refl; no_capacity = refl; no_mode = refl }
quiet c n (thread calls) e s = record { late = refl; capacity_stays = refl; mode_stays = refl; no_capacity = refl; no_mode = refl }

record QuietAll (c d : Content) (ls : List Numbered) : Type 0 where
  capacity_stays : d.capacity ≡ c.capacity
  mode_stays : d.mode ≡ c.mode
  no_capacity : flat_map (λ l. capacity_in l.line) ls ≡ []
  no_mode : flat_map (λ l. mode_in l.line) ls ≡ []

quiet_all : (ls : List Numbered) (c : Content) → IsClean c ls → is_late c.part ≡ true → QuietAll c (content_of ls c) ls
unfolding content_of
quiet_all [] c clean s = record { capacity_stays = refl; mode_stays = refl; no_capacity = refl; no_mode = refl }
quiet_all (l ∷ ls) c clean s =
    let q = quiet c l.number l.line (clean_here c l ls clean E03) s in
    let r = quiet_all ls (then_content c l) (clean_rest c l ls clean) q.late in
    record {
      capacity_stays = r.capacity_stays ∙ q.capacity_stays;
      mode_stays = r.mode_stays ∙ q.mode_stays;
      no_capacity = (λ i. q.no_capacity i ++ r.no_capacity i);
      no_mode = (λ i. q.no_mode i ++ r.no_mode i);
    }

-- what the two first lines are
record IsCapacity (l : Line) : Type 0 where
  value : ℕ
  is : l ≡ capacity value

record IsMode (l : Line) : Type 0 where
  value : QueueMode
  is : l ≡ mode value

-- where only this part's line may stand
first_line : (c : Content) (l : Line) → c.part ≡ parts.Capacity → ((code : Code) → has c l code ≡ false) → IsCapacity l
first_line c misshapen p clean = absurd (let e = clean E03 in cc)
first_line c (wrong kind slips.Count) p clean = absurd (count_no _ (clean E03))
first_line c (wrong kind slips.Word) p clean = absurd (let e = clean E04 in cc)
first_line c (wrong kind slips.Number) p clean = absurd (let e = clean E05 in cc)
first_line c (capacity k) p clean = record { value = k; is = refl }
first_line c (mode m) p clean = absurd (let e : may_stand parts.Capacity kinds.Mode ≡ true = ap (λ (x : Part). may_stand x kinds.Mode) (sym p) ∙ stands _ (clean E03) in cc)
first_line c (array name words) p clean = absurd (let e : may_stand parts.Capacity kinds.Array ≡ true = ap (λ (x : Part). may_stand x kinds.Array) (sym p) ∙ stands _ (clean E03) in cc)
first_line c push p clean = absurd (let e : may_stand parts.Capacity kinds.Push ≡ true = ap (λ (x : Part). may_stand x kinds.Push) (sym p) ∙ stands _ (clean E03) in cc)
first_line c pop p clean = absurd (let e : may_stand parts.Capacity kinds.Pop ≡ true = ap (λ (x : Part). may_stand x kinds.Pop) (sym p) ∙ stands _ (clean E03) in cc)
first_line c end p clean = absurd (let e : may_stand parts.Capacity kinds.End ≡ true = ap (λ (x : Part). may_stand x kinds.End) (sym p) ∙ left _ _ (stands _ (clean E03)) in cc)
first_line c (label name) p clean = absurd (let e : may_stand parts.Capacity kinds.Target ≡ true = ap (λ (x : Part). may_stand x kinds.Target) (sym p) ∙ stands _ (clean E03) in cc)
first_line c (instruction i lacks) p clean = absurd (let e : may_stand parts.Capacity kinds.Instruction ≡ true = ap (λ (x : Part). may_stand x kinds.Instruction) (sym p) ∙ stands _ (clean E03) in cc)
first_line c (before calls) p clean = absurd (let e : may_stand parts.Capacity kinds.Before ≡ true = ap (λ (x : Part). may_stand x kinds.Before) (sym p) ∙ stands _ (clean E03) in cc)
first_line c (thread calls) p clean = absurd (let e : may_stand parts.Capacity kinds.Thread ≡ true = ap (λ (x : Part). may_stand x kinds.Thread) (sym p) ∙ stands _ (clean E03) in cc)

second_line : (c : Content) (l : Line) → c.part ≡ parts.Mode → ((code : Code) → has c l code ≡ false) → IsMode l
second_line c misshapen p clean = absurd (let e = clean E03 in cc)
second_line c (wrong kind slips.Count) p clean = absurd (count_no _ (clean E03))
second_line c (wrong kind slips.Word) p clean = absurd (let e = clean E04 in cc)
second_line c (wrong kind slips.Number) p clean = absurd (let e = clean E05 in cc)
second_line c (capacity k) p clean = absurd (let e : may_stand parts.Mode kinds.Capacity ≡ true = ap (λ (x : Part). may_stand x kinds.Capacity) (sym p) ∙ stands _ (clean E03) in cc)
second_line c (mode m) p clean = record { value = m; is = refl }
second_line c (array name words) p clean = absurd (let e : may_stand parts.Mode kinds.Array ≡ true = ap (λ (x : Part). may_stand x kinds.Array) (sym p) ∙ stands _ (clean E03) in cc)
second_line c push p clean = absurd (let e : may_stand parts.Mode kinds.Push ≡ true = ap (λ (x : Part). may_stand x kinds.Push) (sym p) ∙ stands _ (clean E03) in cc)
second_line c pop p clean = absurd (let e : may_stand parts.Mode kinds.Pop ≡ true = ap (λ (x : Part). may_stand x kinds.Pop) (sym p) ∙ stands _ (clean E03) in cc)
second_line c end p clean = absurd (let e : may_stand parts.Mode kinds.End ≡ true = ap (λ (x : Part). may_stand x kinds.End) (sym p) ∙ left _ _ (stands _ (clean E03)) in cc)
second_line c (label name) p clean = absurd (let e : may_stand parts.Mode kinds.Target ≡ true = ap (λ (x : Part). may_stand x kinds.Target) (sym p) ∙ stands _ (clean E03) in cc)
second_line c (instruction i lacks) p clean = absurd (let e : may_stand parts.Mode kinds.Instruction ≡ true = ap (λ (x : Part). may_stand x kinds.Instruction) (sym p) ∙ stands _ (clean E03) in cc)
second_line c (before calls) p clean = absurd (let e : may_stand parts.Mode kinds.Before ≡ true = ap (λ (x : Part). may_stand x kinds.Before) (sym p) ∙ stands _ (clean E03) in cc)
second_line c (thread calls) p clean = absurd (let e : may_stand parts.Mode kinds.Thread ≡ true = ap (λ (x : Part). may_stand x kinds.Thread) (sym p) ∙ stands _ (clean E03) in cc)

-- the capacity and the mode are those of the one line of each
record Opening (c : Content) (ls : List Numbered) : Type 0 where
  capacity_is : flat_map (λ l. capacity_in l.line) ls ≡ c.capacity ∷ []
  mode_is : flat_map (λ l. mode_in l.line) ls ≡ c.mode ∷ []

opened_by : (l m : Numbered) (ls : List Numbered) (k : ℕ) (q : QueueMode) → l.line ≡ capacity k → m.line ≡ mode q → IsClean (then_content (then_content start l) m) ls → Opening (content_of ls (then_content (then_content start l) m)) (l ∷ m ∷ ls)
opened_by l m ls k q e f clean =
    let d = then_content (then_content start l) m in
    let one : then_content start l ≡ after start l.number (capacity k) = ap (after start l.number) e in
    let two : d ≡ after (after start l.number (capacity k)) m.number (mode q) = (λ i. after (one i) m.number (f i)) in
    let r = quiet_all ls d clean (ap (λ (x : Content). is_late x.part) two) in
    record {
      capacity_is = (λ i. capacity_in (e i) ++ (capacity_in (f i) ++ r.no_capacity i)) ∙ ap (λ (x : ℕ). x ∷ []) (sym (r.capacity_stays ∙ ap (λ (x : Content). x.capacity) two));
      mode_is = (λ i. mode_in (e i) ++ (mode_in (f i) ++ r.no_mode i)) ∙ ap (λ (x : QueueMode). x ∷ []) (sym (r.mode_stays ∙ ap (λ (x : Content). x.mode) two));
    }

opening : (ls : List Numbered) → IsClean start ls → (content_of ls start).part ≡ parts.Threads → Opening (content_of ls start) ls
unfolding content_of
opening [] clean p = absurd cc
opening (l ∷ []) clean p =
    let a = first_line start l.line refl (clean_here start l [] clean) in
    absurd (let e : parts.Mode ≡ parts.Threads = sym (ap (λ (x : Line). (after start l.number x).part) a.is) ∙ p in cc)
opening (l ∷ m ∷ ls) clean p =
    let a = first_line start l.line refl (clean_here start l (m ∷ ls) clean) in
    let rest = clean_rest start l (m ∷ ls) clean in
    let at : (then_content start l).part ≡ parts.Mode = ap (λ (x : Line). (after start l.number x).part) a.is in
    let b = second_line (then_content start l) m.line at (clean_here (then_content start l) m ls rest) in
    opened_by l m ls a.value b.value a.is b.is (clean_rest (then_content start l) m ls rest)

-- ---- the end

threads_part : (p : Part) → is_threads p ≡ true → p ≡ parts.Threads
threads_part parts.Capacity e = absurd cc
threads_part parts.Mode e = absurd cc
threads_part parts.Arrays e = absurd cc
threads_part parts.Push e = absurd cc
threads_part parts.Between e = absurd cc
threads_part parts.Pop e = absurd cc
threads_part parts.Prologue e = absurd cc
threads_part parts.Threads e = refl

abbrev made : Content → List (Instruction ℕ ℕ) → List (Instruction ℕ ℕ) → ClientOf
made c xs ys = record { capacity = c.capacity; mode = c.mode; arrays = c.arrays; push = xs; pop = ys; prologue = c.prologue; threads = c.threads }

record Kept (c : Content) (cl : ClientOf) : Type 0 where
  part : c.part ≡ parts.Threads
  push : List (Instruction ℕ ℕ)
  pop : List (Instruction ℕ ℕ)
  push_is : labelled_body c.push ≡ Ok push
  pop_is : labelled_body c.pop ≡ Ok pop
  is : cl ≡ made c push pop

kept_by : (b : Bool) (c : Content) (cl : ClientOf) (r s : Result (List (Instruction ℕ ℕ)) Fault) → r ≡ labelled_body c.push → s ≡ labelled_body c.pop → (b ≡ true → c.part ≡ parts.Threads) → cond b (r >>= λ xs. s >>= λ ys. Ok (made c xs ys)) (Err (fault E08 0)) ≡ Ok cl → Kept c cl
kept_by true c cl (Ok xs) (Ok ys) r s h e = let same : made c xs ys ≡ cl = cc in record { part = h refl; push = xs; pop = ys; push_is = sym r; pop_is = sym s; is = sym same }
kept_by true c cl (Ok xs) (Err f) r s h e = absurd cc
kept_by true c cl (Err f) q r s h e = absurd cc
kept_by false c cl p q r s h e = absurd cc

kept : (c : Content) (cl : ClientOf) → client_or_fault c ≡ Ok cl → Kept c cl
unfolding client_or_fault
kept c cl e = kept_by (is_threads c.part && nat_lt 0 (length c.threads)) c cl (labelled_body c.push) (labelled_body c.pop) refl refl (λ t. threads_part c.part (left _ _ t)) e

-- ---- the text

of_content : (ls : List Numbered) (cl : ClientOf) → IsClean start ls → Kept (content_of ls start) cl → HasParts ls cl
of_content ls cl clean k =
    let d = content_of ls start in
    let w = clean_walk ls start clean in
    let o = opening ls clean k.part in
    let b = bodies ls start d.arrays clean refl in
    let known = all_known ls start d.arrays clean refl in
    let Q : ClientOf → Type 0 = λ x. HasParts ls x in
    subst Q (sym k.is) (record {
      kinds = w.kinds;
      kinds_are = w.kinds_are;
      parts = six_parts w.kinds (subst (λ (x : Part). Walks parts.Capacity w.kinds x) k.part w.walks);
      capacity = o.capacity_is;
      mode = o.mode_is;
      arrays = content_arrays ls start;
      push = are_of d.arrays (before_end ls) k.push (before_known _ ls known) (ap (λ (x : BodyOf). labelled_body x) (sym b.0) ∙ k.push_is);
      pop = are_of d.arrays (before_end (behind_end ls)) k.pop (before_known _ (behind_end ls) (behind_known _ ls known)) (ap (λ (x : BodyOf). labelled_body x) (sym b.1) ∙ k.pop_is);
      prologue = content_prologue ls start clean refl;
      threads = content_threads ls start;
    })

-- the lines of instructions
lines_are : (ls : List Numbered) → IsClean start ls → (line_numbers (content_of ls start).push ≡ numbers_in (before_end ls)) × (line_numbers (content_of ls start).pop ≡ numbers_in (before_end (behind_end ls)))
lines_are ls clean =
    let d = content_of ls start in
    let b = bodies ls start d.arrays clean refl in
    (ap (λ (x : BodyOf). line_numbers x) b.0 ∙ numbers_are d.arrays (before_end ls), ap (λ (x : BodyOf). line_numbers x) b.1 ∙ numbers_are d.arrays (before_end (behind_end ls)))

of_lines : (ls : List Numbered) (cl : ClientOf) (r : Result Content Fault) → Meets start ls r → (r >>= λ c. client_or_fault c) ≡ Ok cl → HasParts ls cl
of_lines ls cl (Err f) m e = absurd cc
of_lines ls cl (Ok c) m e =
    let Q : Content → Type 0 = λ x. Kept x cl in
    of_content ls cl m.0 (subst Q m.1 (kept c cl e))

of_bytes : (o : Option ℕ) (text : List ℕ) (cl : ClientOf) → bytes_or_lines o text ≡ Ok cl → HasParts (lines_of text (tokens_of text)) cl
of_bytes (Some line) text cl e = absurd cc
of_bytes None text cl e = of_lines (lines_of text (tokens_of text)) cl (read_from start (lines_of text (tokens_of text))) (read_meets (lines_of text (tokens_of text)) start) e

of_length : (b : Bool) (text : List ℕ) (cl : ClientOf) → cond b (Err (fault E01 0)) (bytes_or_lines (first_bad_line 1 text) text) ≡ Ok cl → HasParts (lines_of text (tokens_of text)) cl
of_length true text cl e = absurd cc
of_length false text cl e = of_bytes (first_bad_line 1 text) text cl e

pub has_parts : (text : List ℕ) (cl : ClientOf) → program_of text ≡ Ok cl → HasParts (lines_of text (tokens_of text)) cl
unfolding program_of
has_parts text cl e = of_length (nat_lt 65536 (length text)) text cl e

pub parts_of : {X : Type 0} (view : X → ClientOf) (text : List ℕ) (r : Result X ReadError) → Gives view r (program_of text) → IfOk r (λ x. HasParts (lines_of text (tokens_of text)) (view x))
parts_of view text (Ok x) g = has_parts text (view x) g
parts_of view text (Err e) g = tt

-- ---- the lines of instructions, of a text

-- the tokens of a text that was not refused
lexed_by : (o : Option ℕ) (text : List ℕ) (ts : List Token) → tokens_or_bad_line o text ≡ Ok ts → tokens_of text ≡ ts
lexed_by (Some line) text ts e = absurd cc
lexed_by None text ts e = cc

lexed_if : (b : Bool) (text : List ℕ) (ts : List Token) → cond b (Err TooLong) (tokens_or_bad_line (first_bad_line 1 text) text) ≡ Ok ts → tokens_of text ≡ ts
lexed_if true text ts e = absurd cc
lexed_if false text ts e = lexed_by (first_bad_line 1 text) text ts e

lines_from : (ls : List Numbered) (d : Content) (first second : List ℕ) → IsClean start ls × (d ≡ content_of ls start) → (first ≡ line_numbers d.push) × (second ≡ line_numbers d.pop) → HasLines ls first second
lines_from ls d first second m p =
    let l = lines_are ls m.0 in
    record {
      push_lines = p.0 ∙ ap (λ (x : Content). line_numbers x.push) m.1 ∙ l.0;
      pop_lines = p.1 ∙ ap (λ (x : Content). line_numbers x.pop) m.1 ∙ l.1;
    }

pub lines_of_text : {X E : Type 0} (first second : X → List ℕ) (text : List ℕ) (ts : List Token) (d : Content) (r : Result X E) → tokens_or_fault text ≡ Ok ts → IsClean start (lines_of text ts) × (d ≡ content_of (lines_of text ts) start)
    → IfOk r (λ x. (first x ≡ line_numbers d.push) × (second x ≡ line_numbers d.pop)) → IfOk r (λ x. HasLines (lines_of text (tokens_of text)) (first x) (second x))
lines_of_text first second text ts d (Err e) lexes m p = tt
lines_of_text first second text ts d (Ok x) lexes m p =
    let same : tokens_of text ≡ ts = lexed_if (nat_lt 65536 (length text)) text ts lexes in
    let Q : List Token → Type 0 = λ us. HasLines (lines_of text us) (first x) (second x) in
    subst Q (sym same) (lines_from (lines_of text ts) d (first x) (second x) m p)
