-- The procedures that clean lines make.
use Rattle.std.proofs.Common.{◌≡◌, ℕ, Bool, true, false, cond, List, [], ◌∷◌, ◌++◌, length, map, Option, Some, None, Result, Ok, refl, sym, ap, subst, ◌∙◌, append_assoc}
use Rattle.std.specs.Prelude.{is_some, is_none, option_and_then, unwrap_or}
use Rattle.std.specs.List.{flat_map, list_all}
use Rattle.std.specs.Option.{option_map}
use Rattle.std.proofs.lemmas.Bool.{and_parts, and_from}
use Rattle.std.proofs.lemmas.List.{append-nil, length-append, map-append}
use Rattle.tso_line.specs.declared.instruction.Address.{Address}
use Rattle.tso_line.specs.declared.instruction.CallKind.{CallKind}
use Rattle.tso_line.specs.declared.instruction.Mode.{Mode as QueueMode}
use Rattle.tso_line.specs.declared.instruction.Instruction.{Instruction}
use Rattle.tso_line.specs.declared.instruction.Instruction.TheVariants as instructions
use Rattle.tso_line.specs.declared.line.Kind.TheVariants as kinds
use Rattle.tso_line.specs.declared.line.Slip.TheVariants as slips
use Rattle.tso_line.specs.Instructions.{renamed, address_of}
use Rattle.tso_line.specs.Lines.{Name, Line, misshapen, wrong, capacity, mode, array, push, pop, end, label, instruction, before, thread}
use Rattle.tso_prog.specs.declared.client.Array.{Array as Words}
use Rattle.tso_prog.specs.declared.draft.Part.{Part}
use Rattle.tso_prog.specs.declared.draft.Part.TheVariants as parts
use Rattle.tso_prog.specs.declared.fault.Code.{Code}
use Rattle.tso_prog.specs.declared.fault.Code.TheVariants.{E03, E04, E05, E07}
use Rattle.tso_prog.specs.declared.fault.Fault.{Fault}
use Rattle.tso_prog.specs.Contents.{TargetOf, StepOf, BodyOf, Content}
use Rattle.tso_prog.specs.Faults.{may_stand, has, lacks_at, lacks_array}
use Rattle.tso_prog.specs.After.{after, after_end, with_label, with_step, with_opened, step, numbered}
use Rattle.tso_prog.specs.Program.{Numbered, content_of, IsClean}
use Rattle.tso_prog.specs.Finish.{target_position, jump_to, labelled_step, labelled, line_numbers}
use Rattle.tso_prog.specs.Parts.{is_end, before_end, behind_end, instruction_in, number_in, numbers_in, with_label_in, labels_from, number_of, array_position, array_named, denoted, AreOf}
use Rattle.tso_prog.proofs.First.{then_content}
use Rattle.tso_prog.proofs.Clean.{stands, count_no, left, opened_part, clean_here, clean_rest}
use Rattle.tso_prog.proofs.Placing.{labelled_both}

-- ---- a procedure of its lines

-- the number of the array of this name, or 0
abbrev pub numbering : List Words → Name → ℕ
numbering arrays name = unwrap_or (array_position arrays name) 0

abbrev pub bodied_line : List Words → BodyOf → ℕ → Line → BodyOf
bodied_line arrays b n (label name) = with_label b name
bodied_line arrays b n (instruction i lacks) = with_step b (step n (renamed (numbering arrays) (λ l. l) i))
bodied_line arrays b n _ = b

-- the procedure after these lines
unfoldable pub bodied : List Words → BodyOf → List Numbered → BodyOf
bodied arrays b [] = b
bodied arrays b (l ∷ ls) = bodied arrays (bodied_line arrays b l.number l.line) ls

-- push, and pop, after the lines that follow in this part
abbrev pub push_from : Part → List Words → BodyOf → List Numbered → BodyOf
push_from parts.Capacity arrays b ls = bodied arrays b (before_end ls)
push_from parts.Mode arrays b ls = bodied arrays b (before_end ls)
push_from parts.Arrays arrays b ls = bodied arrays b (before_end ls)
push_from parts.Push arrays b ls = bodied arrays b (before_end ls)
push_from parts.Between arrays b ls = b
push_from parts.Pop arrays b ls = b
push_from parts.Prologue arrays b ls = b
push_from parts.Threads arrays b ls = b

abbrev pub pop_from : Part → List Words → BodyOf → List Numbered → BodyOf
pop_from parts.Capacity arrays b ls = bodied arrays b (before_end (behind_end ls))
pop_from parts.Mode arrays b ls = bodied arrays b (before_end (behind_end ls))
pop_from parts.Arrays arrays b ls = bodied arrays b (before_end (behind_end ls))
pop_from parts.Push arrays b ls = bodied arrays b (before_end (behind_end ls))
pop_from parts.Between arrays b ls = bodied arrays b (before_end ls)
pop_from parts.Pop arrays b ls = bodied arrays b (before_end ls)
pop_from parts.Prologue arrays b ls = b
pop_from parts.Threads arrays b ls = b

abbrev at : ℕ → Line → Numbered
at n line = record { number = n; line = line }

-- ---- one line more

capacity_step : (p : Part) (A : List Words) (n : ℕ) (k : ℕ) (a b : BodyOf) (ls : List Numbered) → may_stand p kinds.Capacity ≡ true → (push_from parts.Mode A a ls ≡ push_from p A a (at n (capacity k) ∷ ls)) × (pop_from parts.Mode A b ls ≡ pop_from p A b (at n (capacity k) ∷ ls))
unfolding bodied before_end behind_end
capacity_step parts.Capacity A n k a b ls e = (refl, refl)
capacity_step parts.Mode A n k a b ls e = absurd cc
capacity_step parts.Arrays A n k a b ls e = absurd cc
capacity_step parts.Push A n k a b ls e = absurd cc
capacity_step parts.Between A n k a b ls e = absurd cc
capacity_step parts.Pop A n k a b ls e = absurd cc
capacity_step parts.Prologue A n k a b ls e = absurd cc
capacity_step parts.Threads A n k a b ls e = absurd cc

mode_step : (p : Part) (A : List Words) (n : ℕ) (m : QueueMode) (a b : BodyOf) (ls : List Numbered) → may_stand p kinds.Mode ≡ true → (push_from parts.Arrays A a ls ≡ push_from p A a (at n (mode m) ∷ ls)) × (pop_from parts.Arrays A b ls ≡ pop_from p A b (at n (mode m) ∷ ls))
unfolding bodied before_end behind_end
mode_step parts.Capacity A n m a b ls e = absurd cc
mode_step parts.Mode A n m a b ls e = (refl, refl)
mode_step parts.Arrays A n m a b ls e = absurd cc
mode_step parts.Push A n m a b ls e = absurd cc
mode_step parts.Between A n m a b ls e = absurd cc
mode_step parts.Pop A n m a b ls e = absurd cc
mode_step parts.Prologue A n m a b ls e = absurd cc
mode_step parts.Threads A n m a b ls e = absurd cc

array_step : (p : Part) (A : List Words) (n : ℕ) (name words : List ℕ) (a b : BodyOf) (ls : List Numbered) → may_stand p kinds.Array ≡ true → (push_from p A a ls ≡ push_from p A a (at n (array name words) ∷ ls)) × (pop_from p A b ls ≡ pop_from p A b (at n (array name words) ∷ ls))
unfolding bodied before_end behind_end
array_step parts.Capacity A n name words a b ls e = absurd cc
array_step parts.Mode A n name words a b ls e = absurd cc
array_step parts.Arrays A n name words a b ls e = (refl, refl)
array_step parts.Push A n name words a b ls e = absurd cc
array_step parts.Between A n name words a b ls e = absurd cc
array_step parts.Pop A n name words a b ls e = absurd cc
array_step parts.Prologue A n name words a b ls e = absurd cc
array_step parts.Threads A n name words a b ls e = absurd cc

push_step : (p : Part) (A : List Words) (n : ℕ) (a b : BodyOf) (ls : List Numbered) → may_stand p kinds.Push ≡ true → (push_from parts.Push A a ls ≡ push_from p A a (at n push ∷ ls)) × (pop_from parts.Push A b ls ≡ pop_from p A b (at n push ∷ ls))
unfolding bodied before_end behind_end
push_step parts.Capacity A n a b ls e = absurd cc
push_step parts.Mode A n a b ls e = absurd cc
push_step parts.Arrays A n a b ls e = (refl, refl)
push_step parts.Push A n a b ls e = absurd cc
push_step parts.Between A n a b ls e = absurd cc
push_step parts.Pop A n a b ls e = absurd cc
push_step parts.Prologue A n a b ls e = absurd cc
push_step parts.Threads A n a b ls e = absurd cc

pop_step : (p : Part) (A : List Words) (n : ℕ) (a b : BodyOf) (ls : List Numbered) → may_stand p kinds.Pop ≡ true → (push_from parts.Pop A a ls ≡ push_from p A a (at n pop ∷ ls)) × (pop_from parts.Pop A b ls ≡ pop_from p A b (at n pop ∷ ls))
unfolding bodied before_end behind_end
pop_step parts.Capacity A n a b ls e = absurd cc
pop_step parts.Mode A n a b ls e = absurd cc
pop_step parts.Arrays A n a b ls e = absurd cc
pop_step parts.Push A n a b ls e = absurd cc
pop_step parts.Between A n a b ls e = (refl, refl)
pop_step parts.Pop A n a b ls e = absurd cc
pop_step parts.Prologue A n a b ls e = absurd cc
pop_step parts.Threads A n a b ls e = absurd cc

end_step : (p : Part) (A : List Words) (n : ℕ) (a b : BodyOf) (ls : List Numbered) → may_stand p kinds.End ≡ true → (push_from (after_end p) A a ls ≡ push_from p A a (at n end ∷ ls)) × (pop_from (after_end p) A b ls ≡ pop_from p A b (at n end ∷ ls))
unfolding bodied before_end behind_end
end_step parts.Capacity A n a b ls e = absurd cc
end_step parts.Mode A n a b ls e = absurd cc
end_step parts.Arrays A n a b ls e = absurd cc
end_step parts.Push A n a b ls e = (refl, refl)
end_step parts.Between A n a b ls e = absurd cc
end_step parts.Pop A n a b ls e = (refl, refl)
end_step parts.Prologue A n a b ls e = absurd cc
end_step parts.Threads A n a b ls e = absurd cc

before_step : (p : Part) (A : List Words) (n : ℕ) (calls : List CallKind) (a b : BodyOf) (ls : List Numbered) → may_stand p kinds.Before ≡ true → (push_from parts.Threads A a ls ≡ push_from p A a (at n (before calls) ∷ ls)) × (pop_from parts.Threads A b ls ≡ pop_from p A b (at n (before calls) ∷ ls))
unfolding bodied before_end behind_end
before_step parts.Capacity A n calls a b ls e = absurd cc
before_step parts.Mode A n calls a b ls e = absurd cc
before_step parts.Arrays A n calls a b ls e = absurd cc
before_step parts.Push A n calls a b ls e = absurd cc
before_step parts.Between A n calls a b ls e = absurd cc
before_step parts.Pop A n calls a b ls e = absurd cc
before_step parts.Prologue A n calls a b ls e = (refl, refl)
before_step parts.Threads A n calls a b ls e = absurd cc

thread_step : (p : Part) (A : List Words) (n : ℕ) (calls : List CallKind) (a b : BodyOf) (ls : List Numbered) → may_stand p kinds.Thread ≡ true → (push_from parts.Threads A a ls ≡ push_from p A a (at n (thread calls) ∷ ls)) × (pop_from parts.Threads A b ls ≡ pop_from p A b (at n (thread calls) ∷ ls))
unfolding bodied before_end behind_end
thread_step parts.Capacity A n calls a b ls e = absurd cc
thread_step parts.Mode A n calls a b ls e = absurd cc
thread_step parts.Arrays A n calls a b ls e = absurd cc
thread_step parts.Push A n calls a b ls e = absurd cc
thread_step parts.Between A n calls a b ls e = absurd cc
thread_step parts.Pop A n calls a b ls e = absurd cc
thread_step parts.Prologue A n calls a b ls e = (refl, refl)
thread_step parts.Threads A n calls a b ls e = (refl, refl)

label_step : (p : Part) (c : Content) (n : ℕ) (name : Name) (ls : List Numbered) → may_stand p kinds.Target ≡ true → (push_from p c.arrays (with_opened p c (λ b. with_label b name)).push ls ≡ push_from p c.arrays c.push (at n (label name) ∷ ls)) × (pop_from p c.arrays (with_opened p c (λ b. with_label b name)).pop ls ≡ pop_from p c.arrays c.pop (at n (label name) ∷ ls))
unfolding bodied before_end behind_end
label_step parts.Capacity c n name ls e = absurd cc
label_step parts.Mode c n name ls e = absurd cc
label_step parts.Arrays c n name ls e = absurd cc
label_step parts.Push c n name ls e = (refl, refl)
label_step parts.Between c n name ls e = absurd cc
label_step parts.Pop c n name ls e = (refl, refl)
label_step parts.Prologue c n name ls e = absurd cc
label_step parts.Threads c n name ls e = absurd cc

instruction_step : (p : Part) (c : Content) (n : ℕ) (i : Instruction Name Name) (lacks : Bool) (ls : List Numbered) → may_stand p kinds.Instruction ≡ true → (push_from p c.arrays (with_opened p c (λ b. with_step b (step n (numbered c i)))).push ls ≡ push_from p c.arrays c.push (at n (instruction i lacks) ∷ ls)) × (pop_from p c.arrays (with_opened p c (λ b. with_step b (step n (numbered c i)))).pop ls ≡ pop_from p c.arrays c.pop (at n (instruction i lacks) ∷ ls))
unfolding bodied before_end behind_end
instruction_step parts.Capacity c n i lacks ls e = absurd cc
instruction_step parts.Mode c n i lacks ls e = absurd cc
instruction_step parts.Arrays c n i lacks ls e = absurd cc
instruction_step parts.Push c n i lacks ls e = (refl, refl)
instruction_step parts.Between c n i lacks ls e = absurd cc
instruction_step parts.Pop c n i lacks ls e = (refl, refl)
instruction_step parts.Prologue c n i lacks ls e = absurd cc
instruction_step parts.Threads c n i lacks ls e = absurd cc

-- ---- after the arrays

abbrev is_settled : Part → Bool
is_settled parts.Capacity = false
is_settled parts.Mode = false
is_settled parts.Arrays = false
is_settled parts.Push = true
is_settled parts.Between = true
is_settled parts.Pop = true
is_settled parts.Prologue = true
is_settled parts.Threads = true

end_settled : (p : Part) → is_settled (after_end p) ≡ true
end_settled parts.Capacity = refl
end_settled parts.Mode = refl
end_settled parts.Arrays = refl
end_settled parts.Push = refl
end_settled parts.Between = refl
end_settled parts.Pop = refl
end_settled parts.Prologue = refl
end_settled parts.Threads = refl

no_capacity : (p : Part) → is_settled p ≡ true → may_stand p kinds.Capacity ≡ true → ⊥
no_capacity parts.Capacity s e = cc
no_capacity parts.Mode s e = cc
no_capacity parts.Arrays s e = cc
no_capacity parts.Push s e = cc
no_capacity parts.Between s e = cc
no_capacity parts.Pop s e = cc
no_capacity parts.Prologue s e = cc
no_capacity parts.Threads s e = cc

no_mode : (p : Part) → is_settled p ≡ true → may_stand p kinds.Mode ≡ true → ⊥
no_mode parts.Capacity s e = cc
no_mode parts.Mode s e = cc
no_mode parts.Arrays s e = cc
no_mode parts.Push s e = cc
no_mode parts.Between s e = cc
no_mode parts.Pop s e = cc
no_mode parts.Prologue s e = cc
no_mode parts.Threads s e = cc

no_array : (p : Part) → is_settled p ≡ true → may_stand p kinds.Array ≡ true → ⊥
no_array parts.Capacity s e = cc
no_array parts.Mode s e = cc
no_array parts.Arrays s e = cc
no_array parts.Push s e = cc
no_array parts.Between s e = cc
no_array parts.Pop s e = cc
no_array parts.Prologue s e = cc
no_array parts.Threads s e = cc

label_settled : (p : Part) → may_stand p kinds.Target ≡ true → is_settled p ≡ true
label_settled parts.Capacity e = absurd cc
label_settled parts.Mode e = absurd cc
label_settled parts.Arrays e = absurd cc
label_settled parts.Push e = refl
label_settled parts.Between e = refl
label_settled parts.Pop e = refl
label_settled parts.Prologue e = refl
label_settled parts.Threads e = refl

instruction_settled : (p : Part) → may_stand p kinds.Instruction ≡ true → is_settled p ≡ true
instruction_settled parts.Capacity e = absurd cc
instruction_settled parts.Mode e = absurd cc
instruction_settled parts.Arrays e = absurd cc
instruction_settled parts.Push e = refl
instruction_settled parts.Between e = refl
instruction_settled parts.Pop e = refl
instruction_settled parts.Prologue e = refl
instruction_settled parts.Threads e = refl

opened_arrays : (p : Part) (c : Content) (f : BodyOf → BodyOf) → (with_opened p c f).arrays ≡ c.arrays
opened_arrays parts.Capacity c f = refl
opened_arrays parts.Mode c f = refl
opened_arrays parts.Arrays c f = refl
opened_arrays parts.Push c f = refl
opened_arrays parts.Between c f = refl
opened_arrays parts.Pop c f = refl
opened_arrays parts.Prologue c f = refl
opened_arrays parts.Threads c f = refl

abbrev Stays : Content → Content → Type 0
Stays c d = (is_settled d.part ≡ true) × (d.arrays ≡ c.arrays)

stays_opened : (c : Content) (f : BodyOf → BodyOf) → is_settled c.part ≡ true → Stays c (with_opened c.part c f)
stays_opened c f s = (ap is_settled (opened_part c.part c f) ∙ s, opened_arrays c.part c f)

stays : (c : Content) (n : ℕ) (l : Line) → has c l E03 ≡ false → is_settled c.part ≡ true → Stays c (after c n l)
stays c n misshapen e s = (s, refl)
stays c n (wrong kind slip) e s = (s, refl)
stays c n (capacity k) e s = absurd (no_capacity c.part s (stands _ e))
stays c n (mode m) e s = absurd (no_mode c.part s (stands _ e))
stays c n (array name words) e s = absurd (no_array c.part s (stands _ e))
stays c n push e s = (refl, refl)
stays c n pop e s = (refl, refl)
stays c n end e s = (end_settled c.part, refl)
stays c n (label name) e s = stays_opened c _ s
stays c n (instruction i lacks) e s = stays_opened c _ s
stays c n (before calls) e s = (refl, refl)
stays c n (thread calls) e s = (refl, refl)

settled : (ls : List Numbered) (c : Content) → IsClean c ls → is_settled c.part ≡ true → (content_of ls c).arrays ≡ c.arrays
unfolding content_of
settled [] c clean s = refl
settled (l ∷ ls) c clean s =
    let t = stays c l.number l.line (clean_here c l ls clean E03) s in
    settled ls (then_content c l) (clean_rest c l ls clean) t.0 ∙ t.1

-- ---- all lines

push_nil : (p : Part) (A : List Words) (b : BodyOf) → b ≡ push_from p A b []
unfolding bodied before_end
push_nil parts.Capacity A b = refl
push_nil parts.Mode A b = refl
push_nil parts.Arrays A b = refl
push_nil parts.Push A b = refl
push_nil parts.Between A b = refl
push_nil parts.Pop A b = refl
push_nil parts.Prologue A b = refl
push_nil parts.Threads A b = refl

pop_nil : (p : Part) (A : List Words) (b : BodyOf) → b ≡ pop_from p A b []
unfolding bodied before_end behind_end
pop_nil parts.Capacity A b = refl
pop_nil parts.Mode A b = refl
pop_nil parts.Arrays A b = refl
pop_nil parts.Push A b = refl
pop_nil parts.Between A b = refl
pop_nil parts.Pop A b = refl
pop_nil parts.Prologue A b = refl
pop_nil parts.Threads A b = refl

abbrev Goes : List Words → Content → Content → Numbered → List Numbered → Type 0
Goes A c d l ls = (push_from d.part A d.push ls ≡ push_from c.part A c.push (l ∷ ls)) × (pop_from d.part A d.pop ls ≡ pop_from c.part A c.pop (l ∷ ls))

-- a line of a procedure, once the arrays are settled
goes_opened : (A : List Words) (c : Content) (f : BodyOf → BodyOf) (l : Numbered) (ls : List Numbered) → A ≡ c.arrays
    → (push_from c.part c.arrays (with_opened c.part c f).push ls ≡ push_from c.part c.arrays c.push (l ∷ ls)) × (pop_from c.part c.arrays (with_opened c.part c f).pop ls ≡ pop_from c.part c.arrays c.pop (l ∷ ls))
    → Goes A c (with_opened c.part c f) l ls
goes_opened A c f l ls same p =
    let d = with_opened c.part c f in
    let Q : List Words → Type 0 = λ B. Goes B c d l ls in
    subst Q (sym same) (ap (λ (x : Part). push_from x c.arrays d.push ls) (opened_part c.part c f) ∙ p.0, ap (λ (x : Part). pop_from x c.arrays d.pop ls) (opened_part c.part c f) ∙ p.1)

goes : (A : List Words) (c : Content) (n : ℕ) (l : Line) (ls : List Numbered) → ((code : Code) → has c l code ≡ false) → (is_settled c.part ≡ true → A ≡ c.arrays) → Goes A c (after c n l) (at n l) ls
goes A c n misshapen ls clean same = absurd (let e = clean E03 in cc)
goes A c n (wrong kind slips.Count) ls clean same = absurd (count_no _ (clean E03))
goes A c n (wrong kind slips.Word) ls clean same = absurd (let e = clean E04 in cc)
goes A c n (wrong kind slips.Number) ls clean same = absurd (let e = clean E05 in cc)
goes A c n (capacity k) ls clean same = capacity_step c.part A n k c.push c.pop ls (stands _ (clean E03))
goes A c n (mode m) ls clean same = mode_step c.part A n m c.push c.pop ls (stands _ (clean E03))
goes A c n (array name words) ls clean same = array_step c.part A n name words c.push c.pop ls (stands _ (clean E03))
goes A c n push ls clean same = push_step c.part A n c.push c.pop ls (stands _ (clean E03))
goes A c n pop ls clean same = pop_step c.part A n c.push c.pop ls (stands _ (clean E03))
goes A c n end ls clean same = end_step c.part A n c.push c.pop ls (left _ _ (stands _ (clean E03)))
goes A c n (label name) ls clean same =
    let may = stands _ (clean E03) in
    goes_opened A c (λ b. with_label b name) (at n (label name)) ls (same (label_settled c.part may)) (label_step c.part c n name ls may)
goes A c n (instruction i lacks) ls clean same =
    let may = stands _ (clean E03) in
    goes_opened A c (λ b. with_step b (step n (numbered c i))) (at n (instruction i lacks)) ls (same (instruction_settled c.part may)) (instruction_step c.part c n i lacks ls may)
goes A c n (before calls) ls clean same = before_step c.part A n calls c.push c.pop ls (stands _ (clean E03))
goes A c n (thread calls) ls clean same = thread_step c.part A n calls c.push c.pop ls (stands _ (clean E03))

-- the procedures that clean lines make
pub bodies : (ls : List Numbered) (c : Content) (A : List Words) → IsClean c ls → A ≡ (content_of ls c).arrays → ((content_of ls c).push ≡ push_from c.part A c.push ls) × ((content_of ls c).pop ≡ pop_from c.part A c.pop ls)
unfolding content_of
bodies [] c A clean same = (push_nil c.part A c.push, pop_nil c.part A c.pop)
bodies (l ∷ ls) c A clean same =
    let g = goes A c l.number l.line ls (clean_here c l ls clean) (λ s. same ∙ settled (l ∷ ls) c clean s) in
    let again = bodies ls (then_content c l) A (clean_rest c l ls clean) same in
    (again.0 ∙ g.0, again.1 ∙ g.1)

-- ---- the arrays that instructions name

abbrev pub is_known : List Words → Line → Bool
is_known A (instruction i lacks) = is_some (number_of (array_position A) (array_named (address_of i)))
is_known A _ = true

known_at : (A : List Words) (c : Content) (o : Option (Address Name)) → A ≡ c.arrays → lacks_at c o ≡ false → is_some (number_of (array_position A) (array_named o)) ≡ true
known_at A c None same e = refl
known_at A c (Some cell) same e = ap (λ (B : List Words). is_some (array_position B cell.array)) same ∙ there (array_position c.arrays cell.array) e
  where
    there : (o : Option ℕ) → is_none o ≡ false → is_some o ≡ true
    there None e = absurd cc
    there (Some k) e = refl

known_line : (A : List Words) (c : Content) (l : Line) → ((code : Code) → has c l code ≡ false) → (is_settled c.part ≡ true → A ≡ c.arrays) → is_known A l ≡ true
unfolding lacks_array
known_line A c misshapen clean same = refl
known_line A c (wrong kind slip) clean same = refl
known_line A c (capacity k) clean same = refl
known_line A c (mode m) clean same = refl
known_line A c (array name words) clean same = refl
known_line A c push clean same = refl
known_line A c pop clean same = refl
known_line A c end clean same = refl
known_line A c (label name) clean same = refl
known_line A c (instruction i lacks) clean same = known_at A c (address_of i) (same (instruction_settled c.part (stands _ (clean E03)))) (clean E07)
known_line A c (before calls) clean same = refl
known_line A c (thread calls) clean same = refl

pub all_known : (ls : List Numbered) (c : Content) (A : List Words) → IsClean c ls → A ≡ (content_of ls c).arrays → list_all (λ l. is_known A l.line) ls ≡ true
unfolding content_of
all_known [] c A clean same = refl
all_known (l ∷ ls) c A clean same =
    and_from (is_known A l.line) (list_all (λ l. is_known A l.line) ls) (known_line A c l.line (clean_here c l ls clean) (λ s. same ∙ settled (l ∷ ls) c clean s)) (all_known ls (then_content c l) A (clean_rest c l ls clean) same)

-- of the lines before an end, and of those behind it
pub before_known : (p : Numbered → Bool) (ls : List Numbered) → list_all p ls ≡ true → list_all p (before_end ls) ≡ true
unfolding before_end
before_known p [] e = refl
before_known p (l ∷ ls) e = ends (is_end l.line) (and_parts (p l) (list_all p ls) e).0 (before_known p ls (and_parts (p l) (list_all p ls) e).1)
  where
    ends : (b : Bool) → p l ≡ true → list_all p (before_end ls) ≡ true → list_all p (cond b [] (l ∷ before_end ls)) ≡ true
    ends true h again = refl
    ends false h again = and_from (p l) (list_all p (before_end ls)) h again

pub behind_known : (p : Numbered → Bool) (ls : List Numbered) → list_all p ls ≡ true → list_all p (behind_end ls) ≡ true
unfolding behind_end
behind_known p [] e = refl
behind_known p (l ∷ ls) e = ends (is_end l.line) (and_parts (p l) (list_all p ls) e).1 (behind_known p ls (and_parts (p l) (list_all p ls) e).1)
  where
    ends : (b : Bool) → list_all p ls ≡ true → list_all p (behind_end ls) ≡ true → list_all p (cond b ls (behind_end ls)) ≡ true
    ends true h again = h
    ends false h again = again

-- ---- labels and instructions of a procedure

abbrev step_in : List Words → ℕ → Line → List StepOf
step_in A n (instruction i lacks) = step n (renamed (numbering A) (λ l. l) i) ∷ []
step_in A n _ = []

abbrev steps_in : List Words → List Numbered → List StepOf
steps_in A ls = flat_map (λ (l : Numbered). step_in A l.number l.line) ls

line_steps : (A : List Words) (b : BodyOf) (n : ℕ) (l : Line) → (bodied_line A b n l).steps ≡ b.steps ++ step_in A n l
line_steps A b n misshapen = sym (append-nil b.steps)
line_steps A b n (wrong kind slip) = sym (append-nil b.steps)
line_steps A b n (capacity k) = sym (append-nil b.steps)
line_steps A b n (mode m) = sym (append-nil b.steps)
line_steps A b n (array name words) = sym (append-nil b.steps)
line_steps A b n push = sym (append-nil b.steps)
line_steps A b n pop = sym (append-nil b.steps)
line_steps A b n end = sym (append-nil b.steps)
line_steps A b n (label name) = sym (append-nil b.steps)
line_steps A b n (instruction i lacks) = refl
line_steps A b n (before calls) = sym (append-nil b.steps)
line_steps A b n (thread calls) = sym (append-nil b.steps)

bodied_steps : (A : List Words) (ls : List Numbered) (b : BodyOf) → (bodied A b ls).steps ≡ b.steps ++ steps_in A ls
unfolding bodied
bodied_steps A [] b = sym (append-nil b.steps)
bodied_steps A (l ∷ ls) b = bodied_steps A ls (bodied_line A b l.number l.line) ∙ ap (λ (xs : List StepOf). xs ++ steps_in A ls) (line_steps A b l.number l.line) ∙ append_assoc b.steps (step_in A l.number l.line) (steps_in A ls)

line_labels : (A : List Words) (b : BodyOf) (n : ℕ) (l : Line) (rest : ℕ → List TargetOf) → (bodied_line A b n l).labels ++ rest (length (bodied_line A b n l).steps) ≡ b.labels ++ with_label_in l (length b.steps) rest
line_labels A b n misshapen rest = refl
line_labels A b n (wrong kind slip) rest = refl
line_labels A b n (capacity k) rest = refl
line_labels A b n (mode m) rest = refl
line_labels A b n (array name words) rest = refl
line_labels A b n push rest = refl
line_labels A b n pop rest = refl
line_labels A b n end rest = refl
line_labels A b n (label name) rest = append_assoc b.labels (record { name = name; at = length b.steps } ∷ []) (rest (length b.steps))
line_labels A b n (instruction i lacks) rest = ap (λ (k : ℕ). b.labels ++ rest k) (length-append b.steps (step n (renamed (numbering A) (λ l. l) i) ∷ []))
line_labels A b n (before calls) rest = refl
line_labels A b n (thread calls) rest = refl

bodied_labels : (A : List Words) (ls : List Numbered) (b : BodyOf) → (bodied A b ls).labels ≡ b.labels ++ labels_from ls (length b.steps)
unfolding bodied labels_from
bodied_labels A [] b = sym (append-nil b.labels)
bodied_labels A (l ∷ ls) b = bodied_labels A ls (bodied_line A b l.number l.line) ∙ line_labels A b l.number l.line (λ k. labels_from ls k)

-- ---- instructions as they are denoted

abbrev made : Instruction ℕ ℕ → Result (Instruction ℕ ℕ) Fault
made x = Ok x

with_array : (o : Option ℕ) (make : ℕ → Instruction ℕ ℕ) (t : Instruction ℕ ℕ) → is_some o ≡ true → made (make (unwrap_or o 0)) ≡ Ok t → option_and_then (λ k. option_map (λ (place : ℕ). make k) (Some 0)) o ≡ Some t
with_array None make t h e = absurd cc
with_array (Some k) make t h e = let f : make k ≡ t = cc in ap (λ (x : Instruction ℕ ℕ). Some x) f

with_target : (o : Option ℕ) (s : StepOf) (make : ℕ → Instruction ℕ ℕ) (t : Instruction ℕ ℕ) → ((place : ℕ) → renamed (λ a. a) (λ _. place) s.instruction ≡ make place) → jump_to s o ≡ Ok t → option_map make o ≡ Some t
with_target None s make t h e = absurd cc
with_target (Some place) s make t h e = let f : renamed (λ a. a) (λ _. place) s.instruction ≡ t = cc in ap (λ (x : Instruction ℕ ℕ). Some x) (sym (h place) ∙ f)

plain : (x t : Instruction ℕ ℕ) → made x ≡ Ok t → Some x ≡ Some t
plain x t e = let f : x ≡ t = cc in ap (λ (x : Instruction ℕ ℕ). Some x) f

denoted_is : (A : List Words) (labels : List TargetOf) (n : ℕ) (i : Instruction Name Name) (t : Instruction ℕ ℕ) → is_some (number_of (array_position A) (array_named (address_of i))) ≡ true → labelled_step labels (step n (renamed (numbering A) (λ l. l) i)) ≡ Ok t → denoted A labels i ≡ Some t
denoted_is A labels n (instructions.Move to from) t h e = plain (instructions.Move to from) t e
denoted_is A labels n (instructions.Load to from) t h e = with_array (array_position A from.array) (λ k. instructions.Load to (record { array = k; index = from.index; offset = from.offset })) t h e
denoted_is A labels n (instructions.Store to from) t h e = with_array (array_position A to.array) (λ k. instructions.Store (record { array = k; index = to.index; offset = to.offset }) from) t h e
denoted_is A labels n (instructions.Compute operation to from) t h e = plain (instructions.Compute operation to from) t e
denoted_is A labels n (instructions.Compare comparison left right) t h e = plain (instructions.Compare comparison left right) t e
denoted_is A labels n (instructions.Increment to) t h e = plain (instructions.Increment to) t e
denoted_is A labels n (instructions.Decrement to) t h e = plain (instructions.Decrement to) t e
denoted_is A labels n (instructions.Jump when target bound) t h e = with_target (target_position labels target) (step n (instructions.Jump when target bound)) (λ place. instructions.Jump when place bound) t (λ place. refl) e
denoted_is A labels n (instructions.Assert condition) t h e = plain (instructions.Assert condition) t e
denoted_is A labels n (instructions.Locked operation cell register) t h e = with_array (array_position A cell.array) (λ k. instructions.Locked operation (record { array = k; index = cell.index; offset = cell.offset }) register) t h e
denoted_is A labels n instructions.Fence t h e = plain instructions.Fence t e
denoted_is A labels n instructions.Nop t h e = plain instructions.Nop t e
denoted_is A labels n instructions.Pause t h e = plain instructions.Pause t e
denoted_is A labels n instructions.Return t h e = plain instructions.Return t e

abbrev named_in : List Numbered → List (Instruction Name Name)
named_in ls = flat_map (λ (l : Numbered). instruction_in l.line) ls

-- one line more of a procedure
denoted_line : (A : List Words) (labels : List TargetOf) (n : ℕ) (l : Line) (ls : List Numbered) (ts : List (Instruction ℕ ℕ)) → is_known A l ≡ true
    → ((us : List (Instruction ℕ ℕ)) → labelled labels (steps_in A ls) ≡ Ok us → map (denoted A labels) (named_in ls) ≡ map (λ i. Some i) us)
    → labelled labels (step_in A n l ++ steps_in A ls) ≡ Ok ts → map (denoted A labels) (instruction_in l ++ named_in ls) ≡ map (λ i. Some i) ts
denoted_line A labels n misshapen ls ts h again e = again ts e
denoted_line A labels n (wrong kind slip) ls ts h again e = again ts e
denoted_line A labels n (capacity k) ls ts h again e = again ts e
denoted_line A labels n (mode m) ls ts h again e = again ts e
denoted_line A labels n (array name words) ls ts h again e = again ts e
denoted_line A labels n push ls ts h again e = again ts e
denoted_line A labels n pop ls ts h again e = again ts e
denoted_line A labels n end ls ts h again e = again ts e
denoted_line A labels n (label name) ls ts h again e = again ts e
denoted_line A labels n (instruction i lacks) ls ts h again e =
    let b = labelled_both labels (step n (renamed (numbering A) (λ l. l) i)) (steps_in A ls) ts e in
    let first = denoted_is A labels n i b.first h b.first_is in
    let rest = again b.others b.others_are in
    (λ j. first j ∷ rest j) ∙ sym (ap (map (λ (i : Instruction ℕ ℕ). Some i)) b.all_are)
denoted_line A labels n (before calls) ls ts h again e = again ts e
denoted_line A labels n (thread calls) ls ts h again e = again ts e

denoted_all : (A : List Words) (labels : List TargetOf) (ls : List Numbered) (ts : List (Instruction ℕ ℕ)) → list_all (λ l. is_known A l.line) ls ≡ true → labelled labels (steps_in A ls) ≡ Ok ts → map (denoted A labels) (named_in ls) ≡ map (λ i. Some i) ts
unfolding labelled
denoted_all A labels [] ts h e = let f : [] ≡ ts = cc in ap (map (λ (i : Instruction ℕ ℕ). Some i)) f
denoted_all A labels (l ∷ ls) ts h e =
    let p = and_parts (is_known A l.line) (list_all (λ l. is_known A l.line) ls) h in
    denoted_line A labels l.number l.line ls ts p.0 (λ us f. denoted_all A labels ls us p.1 f) e

abbrev pub empty : BodyOf
empty = record { labels = []; steps = [] }

-- the instructions of a procedure that these lines make
pub are_of : (A : List Words) (ls : List Numbered) (ts : List (Instruction ℕ ℕ)) → list_all (λ l. is_known A l.line) ls ≡ true → labelled (bodied A empty ls).labels (bodied A empty ls).steps ≡ Ok ts → AreOf A ls ts
are_of A ls ts h e =
    denoted_all A (labels_from ls 0) ls ts h ((λ i. labelled (sym (bodied_labels A ls empty) i) (sym (bodied_steps A ls empty) i)) ∙ e)

-- the lines of its instructions
number_line : (A : List Words) (n : ℕ) (l : Line) → map (λ (s : StepOf). s.line) (step_in A n l) ≡ number_in l n
number_line A n misshapen = refl
number_line A n (wrong kind slip) = refl
number_line A n (capacity k) = refl
number_line A n (mode m) = refl
number_line A n (array name words) = refl
number_line A n push = refl
number_line A n pop = refl
number_line A n end = refl
number_line A n (label name) = refl
number_line A n (instruction i lacks) = refl
number_line A n (before calls) = refl
number_line A n (thread calls) = refl

numbers_of_steps : (A : List Words) (ls : List Numbered) → map (λ (s : StepOf). s.line) (steps_in A ls) ≡ numbers_in ls
numbers_of_steps A [] = refl
numbers_of_steps A (l ∷ ls) = map-append (λ (s : StepOf). s.line) (step_in A l.number l.line) (steps_in A ls) ∙ (λ i. number_line A l.number l.line i ++ numbers_of_steps A ls i)

pub numbers_are : (A : List Words) (ls : List Numbered) → line_numbers (bodied A empty ls) ≡ numbers_in ls
numbers_are A ls = ap (map (λ (s : StepOf). s.line)) (bodied_steps A ls empty) ∙ numbers_of_steps A ls
