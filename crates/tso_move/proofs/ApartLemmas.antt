-- At first no other thread may still write what a thread's openings may read.
use Rattle.std.proofs.Common.{◌≡◌, ◌≢◌, ◌∙◌, ℕ, zero, suc, ◌-◌, ◌<◌, inl, inr, Bool, true, false, not, ◌||◌, List, [], ◌∷◌, map, length, drop, Option, None, Some, slice_get, refl, sym, ap, arith}
use Rattle.std.specs.Prelude.{bit_or}
use Rattle.std.specs.Option.{option_map}
use Rattle.std.proofs.Math.Dec.{eqb-suc-zero}
use Rattle.std.proofs.lemmas.Bool.{cases_lt, cases_eq}
use Rattle.std.proofs.lemmas.Option.{slice_get-map}
use Rattle.tso_compact.specs.Laws.{initial_of}
use Rattle.tso_foot.proofs.FutureLemmas.{calls_may_write}
use Rattle.tso_foot.proofs.MaskLemmas.{left_place, no_place, right_place}
use Rattle.tso_foot.specs.Futures.{calls_masks}
use Rattle.tso_foot.specs.Laws.{arrays_view}
use Rattle.tso_foot.specs.Masks.{has_place}
use Rattle.tso_foot.specs.declared.table.ArrayTable.{ArrayTable}
use Rattle.tso_line.specs.declared.instruction.CallKind.{CallKind}
use Rattle.tso_machine.proofs.CallLists.{calls_last, calls_of_thread, calls_past}
use Rattle.tso_machine.specs.Activations.{Activation}
use Rattle.tso_machine.specs.Programs.{calls_in, program_of, prologue_number}
use Rattle.tso_model.specs.Programs as model
use Rattle.tso_model.specs.States.{CompactThread, Resting}
use Rattle.tso_model.specs.States.{calls_in as history_calls}
use Rattle.tso_model.specs.Table.{calls_left, some_call, thread_writes}
use Rattle.tso_move.specs.Laws.{InitialIsApart}
use Rattle.tso_move.specs.Own.{written_but, written_by}
use Rattle.tso_prog.specs.Views.{call_view}
use Rattle.tso_prog.specs.declared.client.Array.{Array}
use Rattle.tso_prog.specs.declared.client.Client.{Client}

-- ---- masks

module _ (arrays : List Array) (t : ArrayTable) (prologue : List CallKind) (q : ℕ) where
  -- these calls may write the place's array
  abbrev MayWrite : List CallKind → Type 0
  MayWrite calls = has_place arrays (calls_masks t calls).writes q ≡ true

  in_all : (threads : List (List CallKind)) (i : ℕ) → i < length threads → MayWrite (calls_in threads prologue i) → has_place arrays (written_by t threads) q ≡ true
  in_all [] i lt h = absurd (omega (arith, lt))
  in_all (calls ∷ rest) zero lt h = left_place arrays (calls_masks t calls).writes (written_by t rest) q h
  in_all (calls ∷ rest) (suc i) lt h = right_place arrays (calls_masks t calls).writes (written_by t rest) q (in_all rest i (omega (arith, lt)) h)

  others_after : (calls : List CallKind) (rest : List (List CallKind)) (j : ℕ) → written_but t (suc j) (calls ∷ rest) ≡ bit_or (calls_masks t calls).writes (written_but t j rest)
  others_after calls rest j = let less : suc j - 1 ≡ j = omega arith in rw (eqb-suc-zero j, less) refl

  in_others : (threads : List (List CallKind)) (i j : ℕ) → i < length threads → i ≢ j → MayWrite (calls_in threads prologue i) → has_place arrays (written_but t j threads) q ≡ true
  in_others [] i j lt other h = absurd (omega (arith, lt))
  in_others (calls ∷ rest) zero zero lt other h = absurd (other refl)
  in_others (calls ∷ rest) zero (suc j) lt other h = ap (λ m. has_place arrays m q) (others_after calls rest j) ∙ left_place arrays (calls_masks t calls).writes (written_but t j rest) q h
  in_others (calls ∷ rest) (suc i) zero lt other h = in_all rest i (omega (arith, lt)) h
  in_others (calls ∷ rest) (suc i) (suc j) lt other h =
      ap (λ m. has_place arrays m q) (others_after calls rest j)
      ∙ right_place arrays (calls_masks t calls).writes (written_but t j rest) q (in_others rest i j (omega (arith, lt)) (λ e. other (ap suc e)) h)

  none_write : (calls : List CallKind) → calls ≡ [] → MayWrite calls → ⊥
  none_write calls none h = no_place arrays q (ap (λ ks. has_place arrays (calls_masks t ks).writes q) (sym none) ∙ h)

  no_prologue : (calls : List CallKind) (n : ℕ) → (prologue_number calls n ≡ Some n → ⊥) → calls ≡ []
  no_prologue [] n not_it = refl
  no_prologue (k ∷ ks) n not_it = absurd (not_it refl)

  written : (threads : List (List CallKind)) (i j : ℕ) → i ≢ j → (prologue_number prologue (length threads) ≡ Some i → ⊥) → MayWrite (calls_in threads prologue i) → has_place arrays (written_but t j threads) q ≡ true
  written threads i j other not_prologue h = elim (cases_lt i (length threads)) [
    | inl lt ↦ in_others threads i j lt other h
    | inr ge ↦ elim (cases_eq i (length threads)) [
      | inl same ↦ absurd (none_write (calls_in threads prologue i)
          (ap (calls_in threads prologue) same ∙ calls_last threads prologue ∙ no_prologue prologue (length threads) (λ e. not_prologue (e ∙ ap Some (sym same)))) h)
      | inr past ↦ absurd (none_write (calls_in threads prologue i) (calls_past threads prologue i (omega (arith, ge, past))) h)
    ]
  ]

-- ---- the first state

-- no call has begun
none_begun : (xs : List (List model.CallKind)) (i : ℕ) → length (history_calls (map (λ ks. []) xs) i) ≡ 0
none_begun [] zero = refl
none_begun [] (suc i) = refl
none_begun (x ∷ xs) zero = refl
none_begun (x ∷ xs) (suc i) = none_begun xs i

or_none : (x : Bool) → (x || false) ≡ true → x ≡ true
or_none true h = refl
or_none false h = h

-- an idle thread with nothing buffered writes what its calls to come write
first_writes : (c : Client) (t : ArrayTable) (calls : List model.CallKind) (o : Option (List model.CallKind)) (q : ℕ)
    → thread_writes (program_of c) (arrays_view c t) calls (option_map (λ ks. record { core = Resting; buffer = [] }) o) q ≡ true → some_call (program_of c) (arrays_view c t).writes calls q ≡ true
first_writes c t calls None q h = absurd (let clash : false ≡ true = h in cc)
first_writes c t calls (Some ks) q h = or_none _ h

both : (x : Bool) → not x ≡ true → x ≡ true → ⊥
both true h e = let clash : false ≡ true = h in cc
both false h e = let clash : false ≡ true = e in cc

pub initial_is_apart : (c : Client) → InitialIsApart c
initial_is_apart c t i j q other not_prologue own writes =
    let p = program_of c in
    let idle : List model.CallKind → CompactThread Activation = λ ks. record { core = Resting; buffer = [] } in
    let left : calls_left p (initial_of c) i ≡ map call_view (calls_in c.threads c.prologue i) =
    ap (λ n. drop n (model.calls_of p i)) (none_begun p.calls i) ∙ calls_of_thread c.threads c.prologue i in
    let some = first_writes c t (calls_left p (initial_of c) i) (slice_get p.calls i) q
    (ap (λ o. thread_writes p (arrays_view c t) (calls_left p (initial_of c) i) o q) (sym (slice_get-map idle p.calls i)) ∙ writes) in
    let may = calls_may_write c t (calls_in c.threads c.prologue i) q (ap (λ ks. some_call p (arrays_view c t).writes ks q) (sym left) ∙ some) in
    both (has_place c.arrays (written_but t j c.threads) q) own (written c.arrays t c.prologue q c.threads i j other not_prologue may)
