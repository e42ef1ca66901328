-- What a call and a return change in a history, and in what the model sees of it.
use Rattle.std.proofs.Common.{◌≡◌, ℕ, zero, suc, ◌-◌, ◌<◌, cond, List, [], ◌∷◌, ◌++◌, map, length, replicate, get_or, set, Option, Some, None, is_some, count_by, option_map, slice_get, refl, sym, ap, ◌∙◌, arith}
use Rattle.std.proofs.Common.{◌↔◌, IsTrue, false, nat_lt, Result, Ok, Err, OnOk}
use Rattle.std.proofs.Math.ListN.{get_or-map}
use Rattle.std.proofs.lemmas.Bool.{false≢true}
use Rattle.std.proofs.lemmas.Bool.Decides.{Decides-ltb}
use Rattle.std.proofs.lemmas.Option.{get_or_from_slice_get, same_Some}
use Rattle.std.proofs.lemmas.List.{map-append, map-set}
use Rattle.std.proofs.lemmas.List.Sums.{sum_by-cons}
use Rattle.tso_hist.specs.declared.call.Call.{Call}
use Rattle.tso_hist.specs.Views.{called_view, history_view}
use Rattle.tso_model.specs.Events.{CallOf, ReturnOf, after_event}
use Rattle.tso_model.specs.Linear.{Precedes, call_at}
use Rattle.tso_model.specs.Programs.{CallKind as ModelKind}
use Rattle.tso_model.specs.States.{Called, answered, calls_in, count_answer, returned}
use Rattle.tso_prog.specs.Views.{answer_view, call_view}
use Rattle.tso_prog.specs.declared.answer.Answer.{Answer}
use Rattle.tso_line.specs.declared.instruction.CallKind.{CallKind}

count_same : (o : Option Answer) → cond (is_some o) 1 0 ≡ count_answer (option_map answer_view o)
count_same None = refl
count_same (Some a) = refl

pub returned-view : (cs : List Call) → count_by (λ c. is_some c.answer) cs ≡ returned (map called_view cs)
returned-view [] = refl
returned-view (c ∷ cs) =
    let first = sum_by-cons (λ (x : Call). cond (is_some x.answer) 1 0) c cs in
    let here = count_same c.answer in
    let rest = returned-view cs in
    omega (arith, first, here, rest)

pub first-view : (n : ℕ) (kss : List (List ModelKind)) → length kss ≡ n → history_view (replicate n []) ≡ map (λ ks. []) kss
first-view zero [] e = refl
first-view zero (k ∷ kss) e = absurd (omega (arith, e))
first-view (suc n) [] e = absurd (omega (arith, e))
first-view (suc n) (k ∷ kss) e = ap {B = List (List Called)} (λ r. [] ∷ r) (first-view n kss (omega (arith, e)))

pub calls-view : (h : List (List Call)) (t : ℕ) → calls_in (history_view h) t ≡ map called_view (get_or h t [])
calls-view h t = get_or-map (map called_view) h t []

counted : (h : List (List Call)) → map (λ cs. count_by (λ c. is_some c.answer) cs) h ≡ map returned (history_view h)
counted [] = refl
counted (cs ∷ h) = ap (λ n. n ∷ map (λ xs. count_by (λ c. is_some c.answer) xs) h) (returned-view cs) ∙ ap (λ r. returned (map called_view cs) ∷ r) (counted h)

pub after_call : (h : List (List Call)) (t : ℕ) (kind : CallKind) (seen : List ℕ) → seen ≡ map (λ cs. count_by (λ c. is_some c.answer) cs) h
    → history_view (set h t (get_or h t [] ++ record { kind = kind; seen = seen; answer = None } ∷ [])) ≡ after_event (history_view h) (CallOf t (call_view kind))
after_call h t kind seen e =
    let c : Call = record { kind = kind; seen = seen; answer = None } in
    let counts = e ∙ counted h in
    map-set (map called_view) h t (get_or h t [] ++ c ∷ [])
    ∙ ap (set (history_view h) t) (map-append called_view (get_or h t []) (c ∷ []) ∙ ap (λ (cs : List Called). cs ++ called_view c ∷ []) (sym (calls-view h t)) ∙ ap (λ (s : List ℕ). calls_in (history_view h) t ++ record { kind = call_view kind; seen = s; answer = None } ∷ []) counts)

-- the last of the calls, written in place
answered_cons : (c : Call) (cs : List Call) (y : Call) (a : Answer) → map called_view (set (c ∷ cs) (length cs) (record (get_or (c ∷ cs) (length cs) y) { answer = Some a })) ≡ answered (answer_view a) (map called_view (c ∷ cs))
answered_cons c [] y a = refl
answered_cons c (d ∷ ds) y a = ap {B = List Called} (λ r. called_view c ∷ r) (answered_cons d ds y a)

answered_view : (cs : List Call) (y : Call) (a : Answer) → 0 < length cs → map called_view (set cs (length cs - 1) (record (get_or cs (length cs - 1) y) { answer = Some a })) ≡ answered (answer_view a) (map called_view cs)
answered_view [] y a h = absurd (omega arith)
answered_view (c ∷ cs) y a h = let e : suc (length cs) - 1 ≡ length cs = omega arith in rw e (answered_cons c cs y a)

pub after_return : (h : List (List Call)) (t : ℕ) (cs : List Call) (y : Call) (n : ℕ) (a : Answer) → cs ≡ get_or h t [] → n ≡ length cs → y ≡ get_or cs (n - 1) y → 0 < length cs
    → history_view (set h t (set cs (n - 1) (record y { answer = Some a }))) ≡ after_event (history_view h) (ReturnOf t (answer_view a))
after_return h t cs y n a e len last some =
    let write = ap (λ (z : Call). map called_view (set cs (n - 1) (record z { answer = Some a }))) last
    ∙ ap (λ (k : ℕ). map called_view (set cs (k - 1) (record (get_or cs (k - 1) y) { answer = Some a }))) len
    ∙ answered_view cs y a some in
    map-set (map called_view) h t (set cs (n - 1) (record y { answer = Some a }))
    ∙ ap (set (history_view h) t) (write ∙ ap (λ (c : List Call). answered (answer_view a) (map called_view c)) e ∙ ap (answered (answer_view a)) (sym (calls-view h t)))

-- a call whose counts are known
pub precedes_some : (h : List (List Called)) (t k u j : ℕ) (c : Called) (n : ℕ) → Some c ≡ call_at h u j → Some n ≡ slice_get c.seen t → IsTrue (nat_lt k n) ↔ Precedes h t k u j
precedes_some h t k u j c n at count =
    let is : get_or c.seen t 0 ≡ n = get_or_from_slice_get c.seen t n 0 (sym count) in
    let d = Decides-ltb k n in
    (λ lt. (c, sym at, omega (arith, d.0 lt, is)), λ (x, at', lt). d.1 (let same = ap (λ (y : Called). get_or y.seen t 0) (same_Some x c (sym at' ∙ sym at)) in omega (arith, lt, same, is)))

pub precedes_none : (h : List (List Called)) (t k u j : ℕ) (c : Called) → Some c ≡ call_at h u j → None ≡ slice_get c.seen t → IsTrue false ↔ Precedes h t k u j
precedes_none h t k u j c at count =
    (λ e. absurd (false≢true e), λ (x, at', lt). absurd (let same = ap (λ (y : Called). get_or y.seen t 0) (same_Some x c (sym at' ∙ sym at)) in omega (arith, lt, same, past c.seen t (sym count))))
  where
    past : (xs : List ℕ) (i : ℕ) → slice_get xs i ≡ None → get_or xs i 0 ≡ 0
    past [] i e = refl
    past (x ∷ xs) zero e = cc
    past (x ∷ xs) (suc i) e = past xs i e

pub on_ok : {T E : Type 0} (r : Result T E) (P Q : Type 0) → (P → Q) → OnOk r P → OnOk r Q
on_ok (Ok x) P Q f p = f p
on_ok (Err e) P Q f p = p
