-- Each list of labels, and each text, has one judgement.
use Rattle.std.proofs.Common.{◌≡◌, ◌≢◌, ◌∙◌, ◌⊎◌, ◌+◌, ◌<◌, ◌≤◌, ℕ, zero, suc, Bool, true, false, List, [], ◌∷◌, ◌++◌, length, map, take, slice_get, Option, Some, None, refl, sym, ap, subst, arith, inl, inr}
use Rattle.std.proofs.lemmas.Bool.{cases_order}
use Rattle.std.proofs.lemmas.List.{append_assoc, append-nil, length-append, length_push, map_push}
use Rattle.std.proofs.Math.Seq.{take-append_seam}
use Rattle.std.proofs.lemmas.Option.{none-some, same_Some}
use Rattle.tso_prog.specs.declared.client.Client.{Client}
use Rattle.tso_machine.specs.Activations.{Activation}
use Rattle.tso_machine.specs.Machines.{label_of}
use Rattle.tso_machine.specs.Places.{first_memory}
use Rattle.tso_machine.specs.Programs.{program_of}
use Rattle.tso_machine.specs.Stepping.{IsNoStep}
use Rattle.tso_machine.specs.declared.label.Label.{Label}
use Rattle.tso_model.proofs.Labelled.{run_append}
use Rattle.tso_model.proofs.Offered.{steps_are_offers}
use Rattle.tso_model.specs.Labels as model
use Rattle.std.proofs.Math.Decide.{ℕ_discrete}
use Rattle.std.proofs.Common.{get_or}
use Rattle.tso_model.specs.Labels.{By, Call, Drain, Fault, Fence, Kind, Lock, Machine, Read, Reg, Return, Run, Step, Unlock, Write, first_machine}
use Rattle.tso_model.specs.Offers.{Next, actor_of, offer}
use Rattle.tso_model.specs.Programs.{BadAnswer, Done, FalseAssertion, OutOfRange, Pop, Program, Push, Refused, Value}
use Rattle.tso_trace.specs.declared.fault.TraceFault.{TraceFault}
use Rattle.tso_trace.specs.declared.fault.TraceFault.TheVariants.{NotAStep, NoError, Grammar, Memory}
use Rattle.tso_trace.specs.Grammar.{ended, line_text, IsFirstBadLine, IsReadFault, IsTextOf}
use Rattle.tso_trace.specs.Judged.{IsRefused, IsUnread, ListsAreJudgedOnce, SpellsErrorTrace, TextsAreJudgedOnce}
use Rattle.tso_trace.specs.Runs.{IsErrorTrace, IsFirstNonStep, IsGoodRun, IsRun, IsTraceFault, LeadsTo, has_fault}
use Rattle.tso_trace.proofs.EndLemmas.{goes_on, same_machine}
use Rattle.tso_fifo.proofs.Decided.{orders_are_decided}
use Rattle.tso_model.specs.States.{first_history}
use Rattle.tso_model.specs.Views.{after_labels}
use Rattle.tso_prog.specs.Views.{mode_view}
use Rattle.tso_trace.proofs.GoodLemmas.{faults_err, no_order_errs, order_is_good}
use Rattle.tso_trace.proofs.LawLemmas.{no_fault, reads_back, texts_are_unique}
use Rattle.tso_trace.proofs.ReadLemmas.{IsReadTo, goes_wrong, read_all, read_header, read_line}

-- ---- the first label that is no step

-- a run of the first k labels goes on to each label before
no_step_before : (p : Program Activation) (first : Machine Activation) (ls : List Label) (j k : ℕ) (l : Label) (end m : Machine Activation) → j < k
    → Run p first (map label_of (take k ls)) end → Run p first (map label_of (take j ls)) m → slice_get ls j ≡ Some l → IsNoStep p m (label_of l) → ⊥
no_step_before p first [] j k l end m lt whole part found none = none-some l found
no_step_before p first (h ∷ ls) j zero l end m lt whole part found none = absurd (omega arith)
no_step_before p first (h ∷ ls) zero (suc k) l end m lt whole part found none =
    let Q : Label → Type 0 = λ x. Step p first (label_of x) whole.0 in
    let R : Machine Activation → Type 0 = λ x. Step p x (label_of l) whole.0 in
    none whole.0 (subst R (sym part) (subst Q (same_Some h l found) whole.1))
no_step_before p first (h ∷ ls) (suc j) (suc k) l end m lt whole part found none =
    let Q : Machine Activation → Type 0 = λ x. Run p x (map label_of (take k ls)) end in
    no_step_before p part.0 ls j k l end m (omega arith) (subst Q (same_machine p first (label_of h) whole.0 part.0 whole.1 part.1) whole.2) part.2 found none

-- kinds by numbers
abbrev tag : Kind → ℕ
tag (Call (Push v)) = 0
tag (Call Pop) = 1
tag Reg = 2
tag (Read q v) = 3
tag (Write q v) = 4
tag (Drain q v) = 5
tag Fence = 6
tag Lock = 7
tag Unlock = 8
tag (Return Refused) = 9
tag (Return Done) = 10
tag (Return (Value v)) = 11
tag (Fault OutOfRange) = 12
tag (Fault FalseAssertion) = 13
tag (Fault BadAnswer) = 14

abbrev one : Kind → ℕ
one (Call (Push v)) = v
one (Read q v) = q
one (Write q v) = q
one (Drain q v) = q
one (Return (Value v)) = v
one k = 0

abbrev two : Kind → ℕ
two (Read q v) = v
two (Write q v) = v
two (Drain q v) = v
two k = 0

-- and numbers as kinds
abbrev kind_at : ℕ → ℕ → ℕ → Kind
kind_at t a b =
    get_or (Call (Push a) ∷ Call Pop ∷ Reg ∷ Read a b ∷ Write a b ∷ Drain a b ∷ Fence ∷ Lock ∷ Unlock ∷ Return Refused ∷ Return Done ∷ Return (Value a) ∷ Fault OutOfRange ∷ Fault FalseAssertion ∷ Fault BadAnswer ∷ []) t Reg

again : (k : Kind) → kind_at (tag k) (one k) (two k) ≡ k
again (Call (Push v)) = refl
again (Call Pop) = refl
again Reg = refl
again (Read q v) = refl
again (Write q v) = refl
again (Drain q v) = refl
again Fence = refl
again Lock = refl
again Unlock = refl
again (Return Refused) = refl
again (Return Done) = refl
again (Return (Value v)) = refl
again (Fault OutOfRange) = refl
again (Fault FalseAssertion) = refl
again (Fault BadAnswer) = refl

same_kind : (k k' : Kind) → Dec (k ≡ k')
same_kind k k' = three (ℕ_discrete (tag k) (tag k')) (ℕ_discrete (one k) (one k')) (ℕ_discrete (two k) (two k'))
  where
    three : Dec (tag k ≡ tag k') → Dec (one k ≡ one k') → Dec (two k ≡ two k') → Dec (k ≡ k')
    three (no d) y z = no (λ e. d (ap tag e))
    three (yes x) (no d) z = no (λ e. d (ap one e))
    three (yes x) (yes y) (no d) = no (λ e. d (ap two e))
    three (yes x) (yes y) (yes z) = yes (sym (again k) ∙ (λ i. kind_at (x i) (y i) (z i)) ∙ again k')

offered : (p : Program Activation) (m : Machine Activation) (i : ℕ) (k : Kind) (o : Option (Next Activation)) → offer p m (actor_of (By i k)) ≡ o
    → ((after : Machine Activation) × Step p m (By i k) after) ⊎ IsNoStep p m (By i k)
offered p m i k None e = inr (λ after s. none-some _ (sym e ∙ (steps_are_offers p m i k after).0 s))
offered p m i k (Some n) e = elim (same_kind n.kind k) [
  | yes q ↦ (
      let is : n ≡ record { kind = k; machine = n.machine } = (λ j. record { kind = q j; machine = n.machine }) in
      inl (n.machine, (steps_are_offers p m i k n.machine).1 (e ∙ ap Some is))
      )
  | no d ↦ inr (λ after s. d (ap (λ (x : Next Activation). x.kind) (same_Some _ _ (sym e ∙ (steps_are_offers p m i k after).0 s))))
]

-- a label is a step, or it is none
stepping : (p : Program Activation) (m : Machine Activation) (l : model.Label) → ((after : Machine Activation) × Step p m l after) ⊎ IsNoStep p m l
stepping p m (By i k) = offered p m i k (offer p m (actor_of (By i k))) refl

module _ (c : Client) where
  abbrev first : Machine Activation
  first = first_machine (program_of c) (first_memory c.arrays)

  same_non_step : (labels : List Label) (m n : ℕ) → IsFirstNonStep c labels m → IsFirstNonStep c labels n → m ≡ n
  same_non_step labels m n a b = elim (cases_order a.position b.position) [
    | inl e ↦ a.counted ∙ ap (λ (k : ℕ). k + 1) e ∙ sym b.counted
    | inr (inl lt) ↦ absurd (no_step_before (program_of c) first labels a.position b.position a.label b.machine a.machine lt b.leads.run a.leads.run a.there a.none)
    | inr (inr lt) ↦ absurd (no_step_before (program_of c) first labels b.position a.position b.label a.machine b.machine lt a.leads.run b.leads.run b.there b.none)
  ]

  not_both : (labels : List Label) (n : ℕ) → IsFirstNonStep c labels n → IsRun c labels → ⊥
  not_both labels n a run = goes_on (program_of c) first labels a.position a.label run.machine a.machine run.leads.run a.leads.run a.there a.none

  once : (labels : List Label) (fault other : TraceFault) → IsTraceFault c labels fault → IsTraceFault c labels other → fault ≢ Memory → other ≢ Memory → fault ≡ other
  once labels (NotAStep m) (NotAStep n) a b f g = ap NotAStep (same_non_step labels m n a b)
  once labels (NotAStep m) NoError a b f g = absurd (not_both labels m a b.0)
  once labels NoError (NotAStep n) a b f g = absurd (not_both labels n b a.0)
  once labels NoError NoError a b f g = refl
  once labels Memory other a b f g = absurd (f refl)
  once labels (Grammar line) other a b f g = absurd a
  once labels fault Memory a b f g = absurd (g refl)
  once labels fault (Grammar line) a b f g = absurd b

  -- ---- label by label

  at_seam : (before after : List Label) (l : Label) → slice_get (before ++ l ∷ after) (length before) ≡ Some l
  at_seam [] after l = refl
  at_seam (x ∷ before) after l = at_seam before after l

  steps_from : (before after : List Label) (m : Machine Activation) → LeadsTo c before m → IsRun c (before ++ after) ⊎ ((number : ℕ) × IsFirstNonStep c (before ++ after) number)
  steps_from before [] m led =
      let Q : List Label → Type 0 = λ ls. IsRun c ls in
      inl (subst Q (sym (append-nil before)) (record { machine = m; leads = led }))
  steps_from before (l ∷ after) m led = elim (stepping (program_of c) m (label_of l)) [
    | inl s ↦ (
        let one : Run (program_of c) m (label_of l ∷ []) s.0 = (s.0, s.1, refl) in
        let R : List model.Label → Type 0 = λ ls. Run (program_of c) first ls s.0 in
        let more : LeadsTo c (before ++ l ∷ []) s.0 = record { run = subst R (sym (map_push label_of before l)) (run_append (program_of c) first m s.0 (map label_of before) (label_of l ∷ []) led.run one) } in
        let Q : List Label → Type 0 = λ ls. IsRun c ls ⊎ ((number : ℕ) × IsFirstNonStep c ls number) in
        subst Q (append_assoc before (l ∷ []) after) (steps_from (before ++ l ∷ []) after s.0 more)
        )
    | inr none ↦ (
        let Q : List Label → Type 0 = λ ls. LeadsTo c ls m in
        inr (
          length before + 1,
          record {
            position = length before;
            label = l;
            machine = m;
            there = at_seam before after l;
            counted = refl;
            leads = subst Q (sym (take-append_seam before (l ∷ after))) led;
            none = none;
          },
        )
        )
  ]

  steps : (labels : List Label) → IsRun c labels ⊎ ((number : ℕ) × IsFirstNonStep c labels number)
  steps labels = steps_from [] labels first (record { run = refl })

  -- whether a run is good is decided
  good_or_not : (labels : List Label) (run : IsRun c labels) (faults : Bool) → has_fault labels ≡ faults → IsGoodRun c labels ⊎ (IsGoodRun c labels → ⊥)
  good_or_not labels run true e = inr (faults_err c labels e)
  good_or_not labels run false e =
      let counted = after_labels (first_history (program_of c)) (map label_of labels) in
      elim (orders_are_decided (mode_view c.mode) c.capacity counted) [
        | inl found ↦ inl (order_is_good c labels run counted refl c.capacity refl e found.0 found.1)
        | inr none ↦ inr (no_order_errs c labels run counted refl c.capacity refl none)
      ]

  judged : (labels : List Label) → IsRun c labels ⊎ ((number : ℕ) × IsFirstNonStep c labels number) → IsErrorTrace c labels ⊎ IsRefused c labels
  judged labels (inl run) = elim (good_or_not labels run (has_fault labels) refl) [
    | inl good ↦ inr (NoError, (λ e. cc), (run, good))
    | inr errs ↦ inl (record { run = run; errs = errs })
  ]
  judged labels (inr x) = inr (NotAStep x.0, (λ e. cc), x.1)

  some : (labels : List Label) → IsErrorTrace c labels ⊎ IsRefused c labels
  some labels = judged labels (steps labels)

  pub lists_are_judged_once : ListsAreJudgedOnce c
  lists_are_judged_once = record { some = some; errs = no_fault c; once = once }

  -- ---- texts

  same_labels : (text : List ℕ) (xs ys : List Label) (fault other : TraceFault) → IsTextOf c.arrays text xs → IsTextOf c.arrays text ys → IsTraceFault c xs fault → IsTraceFault c ys other → fault ≢ Memory → other ≢ Memory → fault ≡ other
  same_labels text xs ys fault other is is' a b f g =
      let Q : List Label → Type 0 = λ ls. IsTraceFault c ls other in
      once xs fault other a (subst Q ((texts_are_unique c).labels text ys xs is' is) b) f g

  text_once : (text : List ℕ) (fault other : TraceFault) → IsReadFault c text fault → IsReadFault c text other → fault ≢ Memory → other ≢ Memory → fault ≡ other
  text_once text (Grammar m) (Grammar n) a b f g = ap Grammar ((texts_are_unique c).lines text m n a b)
  text_once text (Grammar m) (NotAStep n) a b f g = absurd ((texts_are_unique c).apart text b.0 m b.1 a)
  text_once text (Grammar m) NoError a b f g = absurd ((texts_are_unique c).apart text b.0 m b.1 a)
  text_once text (NotAStep m) (Grammar n) a b f g = absurd ((texts_are_unique c).apart text a.0 n a.1 b)
  text_once text NoError (Grammar n) a b f g = absurd ((texts_are_unique c).apart text a.0 n a.1 b)
  text_once text (NotAStep m) (NotAStep n) a b f g = same_labels text a.0 b.0 (NotAStep m) (NotAStep n) a.1 b.1 a.2 b.2 f g
  text_once text (NotAStep m) NoError a b f g = same_labels text a.0 b.0 (NotAStep m) NoError a.1 b.1 a.2 b.2 f g
  text_once text NoError (NotAStep n) a b f g = same_labels text a.0 b.0 NoError (NotAStep n) a.1 b.1 a.2 b.2 f g
  text_once text NoError NoError a b f g = refl
  text_once text Memory other a b f g = absurd (f refl)
  text_once text fault Memory a b f g = absurd (g refl)

  -- a text is of the grammar, or has a line that is not
  stuck : (text : List ℕ) → ((labels : List Label) → IsTextOf c.arrays text labels → ⊥) → ((n : ℕ) → IsFirstBadLine c.arrays text n → ⊥)
      → (fuel : ℕ) (rest : List ℕ) (line : ℕ) → length rest ≤ fuel → IsReadTo c.arrays text rest line → ⊥
  stuck text never none fuel [] line le r = let all = read_all c.arrays text [] line r refl in never all.0 all.1
  stuck text never none zero (x ∷ rest) line le r = absurd (omega arith)
  stuck text never none (suc fuel) (x ∷ rest) line le r =
      none line (goes_wrong c.arrays text (x ∷ rest) line r (λ e. cc) (λ has. stuck text never none fuel has.rest (line + 1)
      (omega (arith, ap length has.begins, length-append (ended (line_text c.arrays has.label)) has.rest, length_push (line_text c.arrays has.label) 10))
      (read_line c.arrays text (x ∷ rest) has.rest line has.label r has.proper has.begins)))

  some_grammar : (text : List ℕ) → ((labels : List Label) → IsTextOf c.arrays text labels → ⊥) → ((n : ℕ) → IsFirstBadLine c.arrays text n → ⊥) → ⊥
  some_grammar text never none =
      none 1 (inl (refl, λ has. stuck text never none (length has.rest) has.rest 2 (omega arith) (read_header c.arrays text has.rest has.begins)))

  of_labels : (text : List ℕ) (labels : List Label) → IsTextOf c.arrays text labels → (fault : TraceFault) → fault ≢ Memory → IsTraceFault c labels fault → IsReadFault c text fault
  of_labels text labels is (NotAStep n) other a = (labels, is, a)
  of_labels text labels is NoError other a = (labels, is, a)
  of_labels text labels is (Grammar line) other a = absurd a
  of_labels text labels is Memory other a = absurd (other refl)

  spelled : (text : List ℕ) (labels : List Label) → IsTextOf c.arrays text labels → SpellsErrorTrace c text ⊎ IsUnread c text
  spelled text labels is = elim (some labels) [
    | inl errs ↦ inl (record { labels = labels; spells = is; errs = errs })
    | inr x ↦ inr (x.0, x.1, of_labels text labels is x.0 x.1 x.2)
  ]

  text_some : (text : List ℕ) → (SpellsErrorTrace c text → ⊥) → (IsUnread c text → ⊥) → ⊥
  text_some text never none =
      some_grammar text (λ labels is. elim (spelled text labels is) [ inl s ↦ never s | inr u ↦ none u ]) (λ n bad. none (Grammar n, (λ e. cc), bad))

  pub texts_are_judged_once : TextsAreJudgedOnce c
  texts_are_judged_once = record {
    errs = λ text fault spelled a. reads_back c text spelled.labels fault spelled.spells spelled.errs a;
    once = text_once;
    spelled = spelled;
    some = text_some;
  }
