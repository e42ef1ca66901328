-- That there is a tree of the records of worked states, before one is made.
use Rattle.std.proofs.Common.{◌≡◌, ◌∙◌, ℕ, zero, suc, ◌/◌, ◌<◌, ◌≤◌, ◌⊎◌, inl, inr, Bool, true, false, List, [], ◌∷◌, length, map, take, drop, get_or, refl, sym, ap, subst, arith}
use Rattle.std.proofs.lemmas.Bool.{cases_lt}
use Rattle.std.proofs.lemmas.List.{length-drop, length-take}
use Rattle.tso_cert.specs.Trees.{Tree, fork, leaf}
use Rattle.tso_choose.proofs.NeedLemmas.{nobody}
use Rattle.tso_choose.specs.Choices.{AreChosen, choices_of}
use Rattle.tso_choose.specs.Needs.{is_enabled}
use Rattle.tso_choose.specs.declared.choice.Choice.{Choice}
use Rattle.tso_write.proofs.CuttingLemmas.{all_numbers, both_records, first_high, forked, got, leaf_cut, more_records, no_records, none_over, numbers_high, numbers_low, rising_high, rising_low, searched_well_formed, searched_worked, strictly_rising, tree_of_worked, worked_record}
use Rattle.tso_write.proofs.Sorting.{order_is_there}
use Rattle.tso_write.specs.Cutting.{AreNumbers, AreRecordsOf, AreRising, IsCut, IsEndOf, IsRecordOf}
use Rattle.tso_write.specs.Worked.{AreWorkedOut, HasTree}
use Rattle.tso_write.specs.declared.worked.Worked.{Worked}
use Rattle.tso_fifo.specs.Orders.{HasOrder, kind_of, order_view, placed_in}
use Rattle.tso_fifo.specs.declared.order.Placed.{Placed}
use Rattle.tso_search.specs.declared.ground.Ground.{Ground}
use Rattle.tso_hist.specs.Views.{history_view}
use Rattle.tso_judge.specs.Certified.{CertificatesFit}
use Rattle.tso_rec.specs.Conditions.{IsExplained, IsOver}
use Rattle.tso_model.specs.Linear as model
use Rattle.tso_model.specs.Linear.{IsOrder, call_at}
use Rattle.tso_model.specs.Objects.{Queue}
use Rattle.tso_model.specs.Programs as programs
use Rattle.tso_model.specs.Reduce.{Has}
use Rattle.tso_model.specs.States.{Called}
use Rattle.tso_parts.specs.Numbers.{IsNumbered}
use Rattle.tso_prog.specs.Views.{answer_view, mode_view}
use Rattle.tso_prog.specs.declared.answer.Answer.{Answer}
use Rattle.tso_prog.specs.declared.answer.Answer.TheVariants as answers
use Rattle.tso_prog.specs.declared.client.Client.{Client}
use Rattle.tso_rec.specs.declared.record.End.{End}
use Rattle.tso_rec.specs.declared.record.End.TheVariants.{Choices, Order}
use Rattle.tso_rec.specs.declared.record.Record.{Record}
use Rattle.tso_search.specs.Grounds.{IsGround}
use Rattle.tso_search.specs.Searched.{AreSearched, IsWorked}
use Rattle.tso_search.specs.declared.ground.Ground.TheVariants.{Steps, Crossings}
use Rattle.tso_state.specs.WellFormed.{IsWellFormed}
use Rattle.tso_state.specs.Actors.{thread_of}
use Rattle.tso_state.specs.declared.actor.Actor.{Actor}
use Rattle.tso_state.specs.declared.actor.Actor.TheVariants.{Exec, Drain}
use Rattle.tso_state.specs.declared.state.State.{State}

-- ---- orders of the model, as a record has them

abbrev answer_of : programs.Answer → Answer
answer_of programs.Refused = answers.Refused
answer_of programs.Done = answers.Done
answer_of (programs.Value w) = answers.Value w

answer_again : (a : programs.Answer) → answer_view (answer_of a) ≡ a
answer_again programs.Refused = refl
answer_again programs.Done = refl
answer_again (programs.Value w) = refl

abbrev placed_of : model.Placed → Placed
placed_of p = record { thread = p.thread; call = p.number; answer = answer_of p.answer }

abbrev IsKindIn : List (List Called) → model.Placed → Type 0
IsKindIn h p = kind_of (call_at h p.thread p.number) ≡ p.kind

placed_again : (h : List (List Called)) (p : model.Placed) → IsKindIn h p → placed_in h (placed_of p) ≡ p
placed_again h p kind = λ i. record { thread = p.thread; number = p.number; kind = kind i; answer = answer_again p.answer i }

order_again : (h : List (List Called)) (order : List model.Placed) → ((p : model.Placed) → Has order p → IsKindIn h p) → order_view h (map placed_of order) ≡ order
order_again h [] kinds = refl
order_again h (p ∷ ps) kinds = λ i. placed_again h p (kinds p (inl refl)) i ∷ order_again h ps (λ q has. kinds q (inr has)) i

kind_in : (c : Client) (h : List (List Called)) (order : List model.Placed) → IsOrder (Queue (mode_view c.mode) c.capacity) h order → (p : model.Placed) → Has order p → IsKindIn h p
kind_in c h order is p has = let (call, at, kind, answer) = is.begun p has in ap kind_of at ∙ kind

coded_order : (c : Client) (s : State) → HasOrder c.mode c.capacity s.history → (order : List Placed) × IsExplained c s (Order order)
coded_order c s (order, is) =
    let h = history_view s.history in
    let P : List model.Placed → Type 0 = IsOrder (Queue (mode_view c.mode) c.capacity) h in
    (map placed_of order, subst P (sym (order_again h order (kind_in c h order is))) is)

-- ---- records

-- whether an actor has a step is decided
enabled_or_not : (c : Client) (s : State) (a : Actor) → (is_enabled c s a ≡ true) ⊎ (is_enabled c s a ≡ false)
enabled_or_not c s a = by (is_enabled c s a) refl
  where
    by : (b : Bool) → is_enabled c s a ≡ b → (is_enabled c s a ≡ true) ⊎ (is_enabled c s a ≡ false)
    by true e = inl e
    by false e = inr e

goes_not_over : (c : Client) (s : State) (a : Actor) → is_enabled c s a ≡ true → IsOver c s → ⊥
goes_not_over c s a e over = let clash : true ≡ false = sym e ∙ over a in cc

over_below : (c : Client) (s : State) (n : ℕ) → ((a : Actor) → thread_of a < n → is_enabled c s a ≡ false) ⊎ (IsOver c s → ⊥)
over_below c s zero = inl (λ a lt. absurd (omega (arith, lt)))
over_below c s (suc n) = elim (over_below c s n) [
  | inr not ↦ inr not
  | inl below ↦ elim (enabled_or_not c s (Exec n)) [
    | inl goes ↦ inr (goes_not_over c s (Exec n) goes)
    | inr core ↦ elim (enabled_or_not c s (Drain n)) [
      | inl goes ↦ inr (goes_not_over c s (Drain n) goes)
      | inr buffer ↦ inl (λ a lt. one_more c s n below core buffer a lt)
    ]
  ]
]
  where
    one_more : (c : Client) (s : State) (n : ℕ) → ((a : Actor) → thread_of a < n → is_enabled c s a ≡ false) → is_enabled c s (Exec n) ≡ false → is_enabled c s (Drain n) ≡ false → (a : Actor) → thread_of a < suc n → is_enabled c s a ≡ false
    one_more c s n below core buffer (Exec i) lt = elim (cases_lt i n) [
      | inl less ↦ below (Exec i) less
      | inr ge ↦ subst (λ k. is_enabled c s (Exec k) ≡ false) (let same : n ≡ i = omega (arith, lt, ge) in same) core
    ]
    one_more c s n below core buffer (Drain i) lt = elim (cases_lt i n) [
      | inl less ↦ below (Drain i) less
      | inr ge ↦ subst (λ k. is_enabled c s (Drain k) ≡ false) (let same : n ≡ i = omega (arith, lt, ge) in same) buffer
    ]

over_or_not : (c : Client) (s : State) → IsOver c s ⊎ (IsOver c s → ⊥)
over_or_not c s = elim (over_below c s (length s.threads)) [
  | inr not ↦ inr not
  | inl below ↦ inl (λ a. elim (cases_lt (thread_of a) (length s.threads)) [ inl lt ↦ below a lt | inr ge ↦ nobody c s a ge ])
]

-- a worked state has an end
ended : (c : Client) (g : Ground) (states : List State) (s : State) → IsWorked c g states s → IsOver c s → (e : End) × IsEndOf c g s e
ended c g states s worked over = let order = coded_order c s (worked.explained over) in (Order order.0, (over, order.1))

end_of_worked : (c : Client) (g : Ground) (states : List State) (s : State) → IsWellFormed c s → IsWorked c g states s → (e : End) × IsEndOf c g s e
end_of_worked c (Steps t) states s well worked = by (choices_of c t s worked.kept.set) refl
  where
    chosen : (choices : List Choice) → choices_of c t s worked.kept.set ≡ choices → AreChosen c t s choices
    chosen choices e = record { set = worked.kept.set; is = worked.kept.chosen; all = sym e }

    by : (choices : List Choice) → choices_of c t s worked.kept.set ≡ choices → (e : End) × IsEndOf c (Steps t) s e
    by [] e = ended c (Steps t) states s worked (none_over c t s [] well (chosen [] e) refl)
    by (x ∷ xs) e = (Choices (x ∷ xs), (chosen (x ∷ xs) e, omega arith))
end_of_worked c (Crossings own t) states s well worked = elim (over_or_not c s) [
  | inl over ↦ ended c (Crossings own t) states s worked over
  | inr not ↦ (Choices [], (refl, not))
]

module _ (c : Client) (g : Ground) (states : List State) (searched : AreSearched c g states) (closed : IsGround c g) where
  record_of_worked : (n : ℕ) → n < length states → (r : Record) × IsRecordOf c g states n r
  record_of_worked n lt = got states n lt (λ s at.
      let end = end_of_worked c g states s (searched_well_formed c g states n s searched at) (searched_worked c g states n s searched at) in
      (record { state = s; end = end.0 }, worked_record c g states n s end.0 searched closed at end.1))

  records_of_worked : (ns : List ℕ) → AreNumbers states ns → (rs : List Record) × AreRecordsOf c g states ns rs
  records_of_worked [] all = ([], no_records c g states)
  records_of_worked (n ∷ ns) all =
      let one = record_of_worked n (all 0 n refl) in
      let rest = records_of_worked ns (λ k m at. all (suc k) m at) in
      (one.0 ∷ rest.0, both_records c g states (n ∷ []) ns (one.0 ∷ []) rest.0 (more_records c g states [] [] n one.0 (no_records c g states) one.1) rest.1)

  leaf_of_worked : (ns : List ℕ) → length ns ≤ 64 → AreNumbers states ns → (tree : Tree) × IsCut c g states ns tree
  leaf_of_worked ns few all = let records = records_of_worked ns all in (leaf records.0, leaf_cut c g states ns records.0 few records.1)

  -- of no more than so many numbers
  cut_of_worked : (most : ℕ) (ns : List ℕ) → length ns ≤ most → AreNumbers states ns → AreRising states ns → (tree : Tree) × IsCut c g states ns tree
  cut_of_worked zero ns few all up = leaf_of_worked ns (omega (arith, few)) all
  cut_of_worked (suc most) ns few all up = elim (cases_lt 64 (length ns)) [
    | inl many ↦
        let h = length ns / 2 in
        let low = take h ns in
        let high = drop h ns in
        let short = length-take h ns in
        let rest = length-drop h ns in
        let left = cut_of_worked most low (omega (arith, short, many, few)) (numbers_low states ns low h refl all) (rising_low states ns low h refl up) in
        let right = cut_of_worked most high (omega (arith, rest, many, few)) (numbers_high states ns high h refl all) (rising_high states ns high h refl up) in
        got states (get_or high 0 0) (first_high states ns high h refl many refl all) (λ s at.
        (fork left.0 s right.0, forked c g states ns low high h s left.0 right.0 refl refl many refl up left.1 right.1 at))
    | inr few_here ↦ leaf_of_worked ns few_here all
  ]

pub tree_is_there : (c : Client) (w : Worked) → AreWorkedOut c w → IsNumbered w.store.states → CertificatesFit c → HasTree c w
tree_is_there c w out differ fit =
    let states = w.store.states in
    let (ns, rising) = order_is_there states in
    let numbers = all_numbers states ns rising in
    let up = strictly_rising states ns rising differ in
    let cut = cut_of_worked c w.ground states out.searched out.closed (length ns) ns (omega arith) numbers up in
    record { tree = cut.0; made = tree_of_worked c w ns cut.0 out rising differ fit cut.1 }
