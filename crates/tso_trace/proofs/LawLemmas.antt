-- The laws of the text of traces, and of walks along them.
use Rattle.std.proofs.Common.{◌≡◌, ◌≢◌, ◌∙◌, ℕ, suc, true, List, [], ◌∷◌, ◌++◌, length, map, take, sym, ap, subst, refl, arith, inl, inr}
use Rattle.std.specs.List.{list_all}
use Rattle.std.proofs.lemmas.Bool.{and_parts}
use Rattle.std.proofs.lemmas.List.{append_assoc, append_cancel_left, append-nil, length-append, length_push}
use Rattle.tso_prog.specs.declared.client.Client.{Client}
use Rattle.tso_machine.specs.Activations.{Activation}
use Rattle.tso_machine.specs.Machines.{label_of, machine_of}
use Rattle.tso_machine.specs.Places.{first_memory}
use Rattle.tso_machine.specs.Programs.{program_of}
use Rattle.tso_machine.specs.declared.label.Label.{Label}
use Rattle.tso_hist.proofs.InTurn.{histories_tell, runs_are_in_turn}
use Rattle.tso_line.specs.declared.instruction.Mode.{Mode}
use Rattle.tso_machine.specs.Programs.{calls_of}
use Rattle.tso_model.specs.Events.{events_of}
use Rattle.tso_model.specs.Labels.{Machine, Run, first_machine}
use Rattle.tso_model.specs.Objects.{Queue}
use Rattle.tso_prog.specs.Views.{mode_view}
use Rattle.tso_model.specs.Programs.{Program}
use Rattle.tso_trace.specs.declared.fault.TraceFault.{TraceFault}
use Rattle.tso_trace.specs.declared.fault.TraceFault.TheVariants.{NotAStep, NoError, Grammar, Memory}
use Rattle.tso_trace.specs.Grammar.{ended, header, is_proper, line_text, lines_text, GoesWrong, HasHeader, HasLine, IsFirstBadLine, IsTextOf}
use Rattle.tso_trace.specs.Laws.{AreTextsUnique, BackIsInverse, LinesAreUnique, PlacesShowOneState, QueueIsTheClients, ReadsBack, RunsAreTold}
use Rattle.tso_trace.specs.Runs.{IsErrorTrace, IsTraceFault, LeadsTo}
use Rattle.tso_trace.proofs.EndLemmas.{goes_on, same_machine}
use Rattle.tso_trace.proofs.SameLemmas.{same_label}
use Rattle.tso_trace.proofs.TextLemmas.{same_first}

pub lines_are_unique : (c : Client) → LinesAreUnique c
lines_are_unique c line a b = same_label c line a b

-- ---- texts

module _ (c : Client) where
  abbrev proper : List Label → Type 0
  proper labels = list_all (is_proper c.arrays) labels ≡ true

  some_bytes : (line rest : List ℕ) → ended line ++ rest ≡ [] → ⊥
  some_bytes line rest e = absurd (omega (arith, ap length e, length-append (ended line) rest, length_push line 10))

  same_lines : (xs ys : List Label) → proper xs → proper ys → lines_text c.arrays xs ≡ lines_text c.arrays ys → xs ≡ ys
  same_lines [] [] p q e = refl
  same_lines [] (y ∷ ys) p q e = absurd (some_bytes _ _ (sym e))
  same_lines (x ∷ xs) [] p q e = absurd (some_bytes _ _ e)
  same_lines (x ∷ xs) (y ∷ ys) p q e =
      let ps = and_parts _ _ p in
      let qs = and_parts _ _ q in
      let first = same_first c x y _ _ ps.0 qs.0 e in
      let rest = same_lines xs ys ps.1 qs.1 first.1 in
      λ i. first.0 i ∷ rest i

  begins : (l : Label) (ls : List Label) (rest all : List ℕ) → is_proper c.arrays l ≡ true → all ≡ lines_text c.arrays (l ∷ ls) ++ rest → HasLine c.arrays all
  begins l ls rest all p e = record { label = l; rest = lines_text c.arrays ls ++ rest; proper = p; begins = e ∙ append_assoc (ended (line_text c.arrays l)) (lines_text c.arrays ls) rest }

  not_whole : (xs ys : List Label) (rest : List ℕ) → proper xs → proper ys → lines_text c.arrays xs ≡ lines_text c.arrays ys ++ rest → rest ≢ [] → (HasLine c.arrays rest → ⊥) → ⊥
  not_whole [] [] rest p q e some wrong = some (sym e)
  not_whole [] (y ∷ ys) rest p q e some wrong = some_bytes _ _ (sym (append_assoc (ended (line_text c.arrays y)) (lines_text c.arrays ys) rest) ∙ sym e)
  not_whole (x ∷ xs) [] rest p q e some wrong = wrong (begins x xs [] rest (and_parts _ _ p).0 (sym e ∙ sym (append-nil _)))
  not_whole (x ∷ xs) (y ∷ ys) rest p q e some wrong =
      let ps = and_parts _ _ p in
      let qs = and_parts _ _ q in
      let first = same_first c x y _ _ ps.0 qs.0 (e ∙ append_assoc (ended (line_text c.arrays y)) (lines_text c.arrays ys) rest) in
      not_whole xs ys rest ps.1 qs.1 first.1 some wrong

  same_count : (xs ys : List Label) (rest rest' : List ℕ) → proper xs → proper ys → lines_text c.arrays xs ++ rest ≡ lines_text c.arrays ys ++ rest'
      → (HasLine c.arrays rest → ⊥) → (HasLine c.arrays rest' → ⊥) → length xs ≡ length ys
  same_count [] [] rest rest' p q e wrong wrong' = refl
  same_count [] (y ∷ ys) rest rest' p q e wrong wrong' = absurd (wrong (begins y ys rest' rest (and_parts _ _ q).0 e))
  same_count (x ∷ xs) [] rest rest' p q e wrong wrong' = absurd (wrong' (begins x xs rest rest' (and_parts _ _ p).0 (sym e)))
  same_count (x ∷ xs) (y ∷ ys) rest rest' p q e wrong wrong' =
      let ps = and_parts _ _ p in
      let qs = and_parts _ _ q in
      let first = same_first c x y _ _ ps.0 qs.0 (sym (append_assoc (ended (line_text c.arrays x)) (lines_text c.arrays xs) rest) ∙ e ∙ append_assoc (ended (line_text c.arrays y)) (lines_text c.arrays ys) rest') in
      ap suc (same_count xs ys rest rest' ps.1 qs.1 first.1 wrong wrong')

  -- a text that goes wrong behind its first line has that line
  abbrev headed : (text : List ℕ) (labels : List Label) → GoesWrong c.arrays text labels → HasHeader text
  headed text labels w = record { rest = lines_text c.arrays labels ++ w.rest; begins = w.begins ∙ append_assoc (ended header) (lines_text c.arrays labels) w.rest }

  same_bad : (text : List ℕ) (xs ys : List Label) → GoesWrong c.arrays text xs → GoesWrong c.arrays text ys → length xs ≡ length ys
  same_bad text xs ys v w =
      let e = sym (headed text xs v).begins ∙ (headed text ys w).begins in
      same_count xs ys v.rest w.rest v.proper w.proper (append_cancel_left (ended header) _ _ e) v.wrong w.wrong

  same_number : (text : List ℕ) (m n : ℕ) → IsFirstBadLine c.arrays text m → IsFirstBadLine c.arrays text n → m ≡ n
  same_number text m n (inl a) (inl b) = a.0 ∙ sym b.0
  same_number text m n (inl a) (inr b) = absurd (a.1 (headed text b.0 b.2))
  same_number text m n (inr a) (inl b) = absurd (b.1 (headed text a.0 a.2))
  same_number text m n (inr a) (inr b) = omega (arith, a.1, b.1, same_bad text a.0 b.0 a.2 b.2)

  apart : (text : List ℕ) (labels : List Label) (n : ℕ) → IsTextOf c.arrays text labels → IsFirstBadLine c.arrays text n → ⊥
  apart text labels n is (inl a) = a.1 (record { rest = lines_text c.arrays labels; begins = is.spelled })
  apart text labels n is (inr a) =
      let w = a.2 in
      not_whole labels a.0 w.rest is.proper w.proper (append_cancel_left (ended header) _ _ (sym is.spelled ∙ (headed text a.0 w).begins)) w.goes_on w.wrong

  pub texts_are_unique : AreTextsUnique c
  texts_are_unique = record {
    labels = λ text xs ys is is'. same_lines xs ys is.proper is'.proper (append_cancel_left (ended header) _ _ (sym is.spelled ∙ is'.spelled));
    lines = same_number;
    apart = apart;
  }

  -- ---- printed and read

  pub no_fault : (labels : List Label) (fault : TraceFault) → IsErrorTrace c labels → IsTraceFault c labels fault → fault ≡ Memory
  no_fault labels (NotAStep number) erring is =
      absurd (goes_on (program_of c) (first_machine (program_of c) (first_memory c.arrays)) labels is.position is.label erring.run.machine is.machine erring.run.leads.run is.leads.run is.there is.none)
  no_fault labels NoError erring is = absurd (erring.errs is.1)
  no_fault labels (Grammar line) erring is = absurd is
  no_fault labels Memory erring is = refl

  told : (text : List ℕ) (labels others : List Label) (fault : TraceFault) → IsTextOf c.arrays text labels → IsErrorTrace c labels → IsTextOf c.arrays text others → IsTraceFault c others fault → fault ≡ Memory
  told text labels others fault is erring is' wrong =
      let Q : List Label → Type 0 = λ ls. IsTraceFault c ls fault in
      no_fault labels fault erring (subst Q (texts_are_unique.labels text others labels is' is) wrong)

  pub reads_back : ReadsBack c
  reads_back text labels (Grammar line) is erring wrong = absurd (apart text labels line is wrong)
  reads_back text labels Memory is erring wrong = refl
  reads_back text labels (NotAStep number) is erring wrong = told text labels wrong.0 (NotAStep number) is erring wrong.1 wrong.2
  reads_back text labels NoError is erring wrong = told text labels wrong.0 NoError is erring wrong.1 wrong.2

-- ---- walks

same_end : (p : Program Activation) (ls : List Label) (m a b : Machine Activation) → Run p m (map label_of ls) a → Run p m (map label_of ls) b → a ≡ b
same_end p [] m a b r s = r ∙ sym s
same_end p (l ∷ ls) m a b r s =
    let Q : Machine Activation → Type 0 = λ x. Run p x (map label_of ls) b in
    same_end p ls r.0 a b r.2 (subst Q (sym (same_machine p m (label_of l) r.0 s.0 r.1 s.1)) s.2)

pub places_show_one_state : PlacesShowOneState
places_show_one_state s t at at' client labels position =
    let end = machine_of s.machine in
    let Q : Client → Type 0 = λ c. LeadsTo c (take s.position s.labels) end in
    let R : List Label → Type 0 = λ ls. LeadsTo t.client (take s.position ls) end in
    let S : ℕ → Type 0 = λ k. LeadsTo t.client (take k t.labels) end in
    same_end (program_of t.client) (take t.position t.labels) (first_machine (program_of t.client) (first_memory t.client.arrays)) end (machine_of t.machine)
    (subst S position (subst R labels (subst Q client at))).run at'.run

pub back_is_inverse : BackIsInverse
back_is_inverse before there back at at' c ls c' ls' moved moved' =
    places_show_one_state back before at' at (c' ∙ c) (ls' ∙ ls) (omega (arith, moved, moved'))

-- ---- the queue, and what histories say

pub queue_is_the_clients : (c : Client) → QueueIsTheClients c
queue_is_the_clients c = record {
  strict = λ e. ap (λ (m : Mode). Queue (mode_view m) c.capacity) e;
  weak = λ e. ap (λ (m : Mode). Queue (mode_view m) c.capacity) e;
  lines = λ lines mode capacity parts m n.
      let same : c.mode ≡ mode = (let e = sym parts.mode ∙ m in cc) in
      let many : c.capacity ≡ capacity = (let e = sym parts.capacity ∙ n in cc) in
      ap (λ (x : Mode). Queue (mode_view x) c.capacity) same ∙ ap (Queue (mode_view mode)) many;
}

pub runs_are_told : (c : Client) → RunsAreTold c
runs_are_told c labels m run =
    let turns = runs_are_in_turn Activation (program_of c) (first_memory c.arrays) labels m run in
    record { turns = turns; tells = λ h is. histories_tell (length (calls_of c)) (events_of labels) h turns is }
