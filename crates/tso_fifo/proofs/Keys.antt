-- Configurations with one key can be completed alike.
use Rattle.std.proofs.Common.{◌≡◌, ◌⊎◌, inl, inr, ℕ, zero, suc, ◌+◌, ◌≤◌, Bool, true, false, List, [], ◌∷◌, ◌++◌, length, get_or, set, take, Some, slice_get, refl, sym, ap, ◌∙◌, subst, arith}
use Rattle.std.proofs.Math.Decide.{ℕ_discrete}
use Rattle.std.proofs.lemmas.List.{length-set}
use Rattle.std.proofs.lemmas.Option.{same_Some, slice_get_within, slice_get-get_or}
use Rattle.tso_fifo.specs.Candidates.{AreCandidates}
use Rattle.tso_fifo.specs.Search.{Completes, IsDead, IsDeadKey, IsTaken, Problem, key_of, pops_left, pops_of}
use Rattle.tso_fifo.specs.declared.candidate.Candidate.{Candidate}
use Rattle.tso_fifo.specs.declared.memory.Key.{Key}
use Rattle.tso_fifo.specs.declared.search.Configuration.{Configuration}
use Rattle.tso_line.specs.declared.instruction.CallKind as code
use Rattle.tso_line.specs.declared.instruction.CallKind.TheVariants as kinds
use Rattle.tso_model.specs.Linear.{EachTwo, IsOtherCall, Placed, call_at, placed_calls}
use Rattle.tso_model.specs.Objects.{Mode, QueueSteps, Strict, Weak}
use Rattle.tso_model.specs.Programs.{Answer, CallKind, Done, Pop, Push, Refused, Value}
use Rattle.tso_model.specs.Reduce.{Has}
use Rattle.tso_model.specs.States.{Called}
use Rattle.tso_model.proofs.Places.{get_set_other, get_set_same}
use Rattle.tso_prog.specs.Views.{call_view}

-- WHICH CALLS ARE TAKEN

pub taken_cases : (cs : List Candidate) (taken : List Bool) (i t k : ℕ) (p : Candidate) → slice_get cs i ≡ Some p → IsTaken cs (set taken i true) t k → IsTaken cs taken t k ⊎ ((p.thread ≡ t) × (p.call ≡ k))
taken_cases cs taken i t k p at x = by (ℕ_discrete i x.index)
  where
    by : Dec (i ≡ x.index) → IsTaken cs taken t k ⊎ ((p.thread ≡ t) × (p.call ≡ k))
    by (yes e) =
        let same : p ≡ x.candidate = same_Some p x.candidate (sym at ∙ ap (slice_get cs) e ∙ x.at) in
        inr (ap (λ (q : Candidate). q.thread) same ∙ x.thread, ap (λ (q : Candidate). q.call) same ∙ x.call)
    by (no ne) = inl (record { index = x.index; candidate = x.candidate; at = x.at; thread = x.thread; call = x.call; set = sym (get_set_other taken i x.index true ne) ∙ x.set })

pub taken_more : (cs : List Candidate) (taken : List Bool) (i t k : ℕ) → IsTaken cs taken t k → IsTaken cs (set taken i true) t k
taken_more cs taken i t k x = record { index = x.index; candidate = x.candidate; at = x.at; thread = x.thread; call = x.call; set = by (ℕ_discrete i x.index) }
  where
    by : Dec (i ≡ x.index) → slice_get (set taken i true) x.index ≡ Some true
    by (yes e) = let here = ap (slice_get taken) e ∙ x.set in ap (slice_get (set taken i true)) (sym e) ∙ get_set_same taken i true true here
    by (no ne) = get_set_other taken i x.index true ne ∙ x.set

pub taken_new : (cs : List Candidate) (taken : List Bool) (i : ℕ) (p : Candidate) → slice_get cs i ≡ Some p → length taken ≡ length cs → IsTaken cs (set taken i true) p.thread p.call
taken_new cs taken i p at len =
    let lt = slice_get_within cs i p at in
    record { index = i; candidate = p; at = at; thread = refl; call = refl; set = get_set_same taken i (get_or taken i true) true (slice_get-get_or taken i true (omega (arith, lt, len))) }

pub taken_at : (cs : List Candidate) (taken : List Bool) (t k u l : ℕ) → t ≡ u → k ≡ l → IsTaken cs taken t k → IsTaken cs taken u l
taken_at cs taken t k u l e f x = record { index = x.index; candidate = x.candidate; at = x.at; thread = x.thread ∙ e; call = x.call ∙ f; set = x.set }

-- a candidate that is not taken has its flag down
pub flag_down : (cs : List Candidate) (taken : List Bool) (i : ℕ) (p : Candidate) → slice_get cs i ≡ Some p → length taken ≡ length cs → (IsTaken cs taken p.thread p.call → ⊥) → slice_get taken i ≡ Some false
flag_down cs taken i p at len free = by (get_or taken i true) (slice_get-get_or taken i true (omega (arith, slice_get_within cs i p at, len)))
  where
    by : (b : Bool) → slice_get taken i ≡ Some b → slice_get taken i ≡ Some false
    by true e = absurd (free (record { index = i; candidate = p; at = at; thread = refl; call = refl; set = e }))
    by false e = e

-- HOW MANY ITEMS CAN STILL BE TAKEN

abbrev pop_of : CallKind → ℕ
pop_of (Push v) = 0
pop_of Pop = 1

abbrev pops_in : List (CallKind × Answer) → ℕ
pops_in [] = 0
pops_in (c ∷ cs) = pop_of c.0 + pops_in cs

pops_set : (cs : List Candidate) (taken : List Bool) (i : ℕ) (p : Candidate) → slice_get cs i ≡ Some p → slice_get taken i ≡ Some false → pops_left cs taken ≡ pops_of p.kind false + pops_left cs (set taken i true)
pops_set [] taken i p at e = cc
pops_set (c ∷ cs) [] i p at e = cc
pops_set (c ∷ cs) (b ∷ taken) zero p at e =
    let same = same_Some c p at in
    let down = same_Some b false e in
    let here = ap (λ (x : Bool). pops_of c.kind x) down ∙ ap (λ (x : Candidate). pops_of x.kind false) same in
    let none : pops_of c.kind true ≡ 0 = refl in
    omega (arith, here, none)
pops_set (c ∷ cs) (b ∷ taken) (suc i) p at e = omega (arith, pops_set cs taken i p at e)

pop_same : (k : code.CallKind) → pops_of k false ≡ pop_of (call_view k)
pop_same (kinds.Push v) = refl
pop_same kinds.Pop = refl

pub pops_bound : (cs : List Candidate) (h : List (List Called)) → AreCandidates cs h → (rest : List Placed) (taken : List Bool) → length taken ≡ length cs → EachTwo IsOtherCall rest
    → ((o : Placed) → Has rest o → (c : Called) × (call_at h o.thread o.number ≡ Some c) × (c.kind ≡ o.kind)) → ((o : Placed) → Has rest o → IsTaken cs taken o.thread o.number → ⊥) → pops_in (placed_calls rest) ≤ pops_left cs taken
pops_bound cs h are [] taken len once begun fresh = omega arith
pops_bound cs h are (e ∷ rest) taken len once begun fresh =
    let (c, at, kind) = begun e (inl refl) in
    let (i, p, here, thread, number) = are.all e.thread e.number c at in
    let (d, at', kind', answer) = are.begun i p here in
    let down = flag_down cs taken i p here len (λ x. fresh e (inl refl) (taken_at cs taken p.thread p.call e.thread e.number thread number x)) in
    let same : d ≡ c = same_Some d c (sym at' ∙ ap (λ (v : ℕ). call_at h v p.call) thread ∙ ap (call_at h e.thread) number ∙ at) in
    let counts = pop_same p.kind ∙ ap pop_of (sym kind' ∙ ap (λ (x : Called). x.kind) same ∙ kind) in
    let more = pops_set cs taken i p here down in
    let less = pops_bound cs h are rest (set taken i true) (length-set taken i true ∙ len) once.1 (λ o x. begun o (inr x))
    (λ o x y. elim (taken_cases cs taken i o.thread o.number p here y) [
      | inl old ↦ fresh o (inr x) old
      | inr new ↦ once.0 o x (sym thread ∙ new.0) (sym number ∙ new.1)
    ]) in
    omega (arith, counts, more, less)

-- QUEUES THAT AGREE AS FAR AS ITEMS CAN BE TAKEN

take_push : (r : ℕ) (xs ys zs : List ℕ) → length xs ≡ length ys → take r xs ≡ take r ys → take r (xs ++ zs) ≡ take r (ys ++ zs)
take_push zero xs ys zs len e = refl
take_push (suc r) [] [] zs len e = refl
take_push (suc r) [] (y ∷ ys) zs len e = absurd (omega (arith, len))
take_push (suc r) (x ∷ xs) [] zs len e = absurd (omega (arith, len))
take_push (suc r) (x ∷ xs) (y ∷ ys) zs len e =
    let head : x ≡ y = cc in
    let tail : take r xs ≡ take r ys = cc in
    ap (λ n. n ∷ take r (xs ++ zs)) head ∙ ap (λ l. y ∷ l) (take_push r xs ys zs (omega (arith, len)) tail)

length_push : (xs ys zs : List ℕ) → length xs ≡ length ys → length (xs ++ zs) ≡ length (ys ++ zs)
length_push [] [] zs e = refl
length_push [] (y ∷ ys) zs e = absurd (omega (arith, e))
length_push (x ∷ xs) [] zs e = absurd (omega (arith, e))
length_push (x ∷ xs) (y ∷ ys) zs e = ap suc (length_push xs ys zs (omega (arith, e)))

none_left : (xs ys : List ℕ) → length xs ≡ length ys → xs ≡ [] → ys ≡ []
none_left xs [] len e = refl
none_left xs (y ∷ ys) len e = absurd (omega (arith, len, ap length e))

alike : (mode : Mode) (capacity : ℕ) (cs : List (CallKind × Answer)) (r : ℕ) (xs ys after : List ℕ) → pops_in cs ≤ r → length xs ≡ length ys → take r xs ≡ take r ys → QueueSteps mode capacity xs cs after → (z : List ℕ) × QueueSteps mode capacity ys cs z
alike mode capacity [] r xs ys after le len e steps = (ys, refl)
alike mode capacity ((Push v, Done) ∷ cs) r xs ys after le len e (m, (room, is), steps) =
    let (z, more) = alike mode capacity cs r m (ys ++ v ∷ []) after (omega (arith, le)) (ap length is ∙ length_push xs ys (v ∷ []) len) (ap (take r) is ∙ take_push r xs ys (v ∷ []) len e) steps in
    (z, (ys ++ v ∷ [], (omega (arith, room, len), refl), more))
alike Strict capacity ((Push v, Refused) ∷ cs) r xs ys after le len e (m, (may, is), steps) =
    let (z, more) = alike Strict capacity cs r m ys after (omega (arith, le)) (ap length is ∙ len) (ap (take r) is ∙ e) steps in
    (z, (ys, (sym len ∙ may, refl), more))
alike Weak capacity ((Push v, Refused) ∷ cs) r xs ys after le len e (m, (may, is), steps) =
    let (z, more) = alike Weak capacity cs r m ys after (omega (arith, le)) (ap length is ∙ len) (ap (take r) is ∙ e) steps in
    (z, (ys, (tt, refl), more))
alike mode capacity ((Push v, Value w) ∷ cs) r xs ys after le len e (m, step, steps) = absurd step
alike mode capacity ((Pop, Done) ∷ cs) r xs ys after le len e (m, step, steps) = absurd step
alike Strict capacity ((Pop, Refused) ∷ cs) r xs ys after le len e (m, (may, is), steps) =
    let (z, more) = alike Strict capacity cs r m ys after (omega (arith, le)) (ap length is ∙ len) (ap (take r) is ∙ e) steps in
    (z, (ys, (none_left xs ys len may, refl), more))
alike Weak capacity ((Pop, Refused) ∷ cs) r xs ys after le len e (m, (may, is), steps) =
    let (z, more) = alike Weak capacity cs r m ys after (omega (arith, le)) (ap length is ∙ len) (ap (take r) is ∙ e) steps in
    (z, (ys, (tt, refl), more))
alike mode capacity ((Pop, Value v) ∷ cs) zero xs ys after le len e (m, step, steps) = absurd (omega (arith, le))
alike mode capacity ((Pop, Value v) ∷ cs) (suc r) xs [] after le len e (m, step, steps) = absurd (omega (arith, len, ap length step))
alike mode capacity ((Pop, Value v) ∷ cs) (suc r) xs (y ∷ ys) after le len e (m, step, steps) =
    let same : v ∷ take r m ≡ y ∷ take r ys = sym (ap (take (suc r)) step) ∙ e in
    let head : v ≡ y = cc in
    let tail : take r m ≡ take r ys = cc in
    let (z, more) = alike mode capacity cs r m ys after (omega (arith, le)) (omega (arith, len, ap length step)) tail steps in
    (z, (ys, ap (λ (n : ℕ). n ∷ ys) (sym head), more))

-- what completes one completes the other
same_key : (s : Problem) (at other : Configuration) (rest : List Placed) → AreCandidates s.candidates s.history → length other.taken ≡ length s.candidates → key_of s.candidates other ≡ key_of s.candidates at → Completes s other rest → Completes s at rest
same_key s at other rest are len same all =
    let taken = ap (λ (k : Key). k.taken) same in
    let front = ap (λ (k : Key). k.front) same in
    let count = ap (λ (k : Key). k.len) same in
    let bound = pops_bound s.candidates s.history are rest other.taken len all.once (λ o x. let (c, here, kind, answer) = all.begun o x in (c, here, kind)) all.fresh in
    let agree : take (pops_left s.candidates other.taken) other.items ≡ take (pops_left s.candidates other.taken) at.items = front ∙ ap (λ (b : List Bool). take (pops_left s.candidates b) at.items) (sym taken) in
    record {
      once = all.once;
      begun = all.begun;
      fresh = λ o x y. all.fresh o x (subst (λ (b : List Bool). IsTaken s.candidates b o.thread o.number) (sym taken) y);
      complete = λ t k c a here is. elim (all.complete t k c a here is) [ inl x ↦ inl (subst (λ (b : List Bool). IsTaken s.candidates b t k) taken x) | inr x ↦ inr x ];
      in_order = all.in_order;
      behind = λ o t k x y. all.behind o t k x (subst (λ (b : List Bool). IsTaken s.candidates b t k) (sym taken) y);
      allowed = alike s.mode s.capacity (placed_calls rest) (pops_left s.candidates other.taken) other.items at.items all.allowed.0 bound count agree all.allowed.1;
    }

pub dead_key : (s : Problem) (at : Configuration) → AreCandidates s.candidates s.history → IsDead s at → IsDeadKey s (key_of s.candidates at)
dead_key s at are none = record { dead = λ other len same rest all. none rest (same_key s at other rest are len same all) }
