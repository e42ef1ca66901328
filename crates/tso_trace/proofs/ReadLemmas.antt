-- A text, read line by line.
use Rattle.std.proofs.Common.{◌≡◌, ◌≢◌, ◌∙◌, ◌+◌, ◌≤◌, ℕ, true, List, [], ◌∷◌, ◌++◌, length, refl, sym, ap, subst, arith, inr}
use Rattle.std.specs.List.{list_all}
use Rattle.std.proofs.lemmas.Bool.{and_from}
use Rattle.std.proofs.lemmas.List.{append_assoc, append-nil, flat_map_more, length-append, length_push}
use Rattle.std.proofs.lemmas.List.Folds.{list_all-append}
use Rattle.tso_prog.specs.declared.client.Array.{Array}
use Rattle.tso_machine.specs.declared.label.Label.{Label}
use Rattle.tso_trace.specs.Grammar.{ended, header, is_proper, line_text, lines_text, trace_text, HasLine, IsFirstBadLine, IsTextOf, SpellsLabels}

-- the text goes on with the rest behind its first line and those of some labels, and the line of this number comes next
pub record IsReadTo (arrays : List Array) (text rest : List ℕ) (line : ℕ) : Type 0 where
  pub labels : List Label
  pub proper : list_all (is_proper arrays) labels ≡ true
  pub begins : text ≡ trace_text arrays labels ++ rest
  pub counted : line ≡ length labels + 2
  pub room : line + length rest ≤ length text

module _ (arrays : List Array) (text : List ℕ) where
  pub read_header : (rest : List ℕ) → text ≡ ended header ++ rest → IsReadTo arrays text rest 2
  read_header rest e = record {
    labels = [];
    proper = refl;
    begins = e;
    counted = refl;
    room = omega (arith, ap length e, length-append (ended header) rest);
  }

  pub read_line : (rest after : List ℕ) (line : ℕ) (l : Label) → IsReadTo arrays text rest line → is_proper arrays l ≡ true → rest ≡ ended (line_text arrays l) ++ after → IsReadTo arrays text after (line + 1)
  read_line rest after line l r proper e =
      let spelled : Label → List ℕ = λ x. ended (line_text arrays x) in
      let more : lines_text arrays (r.labels ++ l ∷ []) ≡ lines_text arrays r.labels ++ ended (line_text arrays l) = sym (flat_map_more spelled [] r.labels l) in
      let joined : trace_text arrays (r.labels ++ l ∷ []) ≡ trace_text arrays r.labels ++ ended (line_text arrays l) =
      ap (λ (x : List ℕ). ended header ++ x) more ∙ sym (append_assoc (ended header) (lines_text arrays r.labels) (ended (line_text arrays l))) in
      record {
        labels = r.labels ++ l ∷ [];
        proper = list_all-append (is_proper arrays) r.labels (l ∷ []) ∙ and_from _ _ r.proper (and_from _ _ proper refl);
        begins = r.begins ∙ ap (λ (x : List ℕ). trace_text arrays r.labels ++ x) e ∙ sym (append_assoc (trace_text arrays r.labels) (ended (line_text arrays l)) after) ∙ ap (λ (x : List ℕ). x ++ after) (sym joined);
        counted = omega (arith, r.counted, length_push r.labels l);
        room = omega (arith, r.room, ap length e, length-append (ended (line_text arrays l)) after, length_push (line_text arrays l) 10);
      }

  pub read_all : (rest : List ℕ) (line : ℕ) → IsReadTo arrays text rest line → length rest ≡ 0 → (labels : List Label) × IsTextOf arrays text labels
  read_all [] line r none = (r.labels, record { proper = r.proper; spelled = r.begins ∙ append-nil (trace_text arrays r.labels) })
  read_all (x ∷ rest) line r none = absurd (omega arith)

  pub goes_wrong : (rest : List ℕ) (line : ℕ) → IsReadTo arrays text rest line → rest ≢ [] → (HasLine arrays rest → ⊥) → IsFirstBadLine arrays text line
  goes_wrong rest line r some wrong = inr (r.labels, r.counted, record { rest = rest; proper = r.proper; begins = r.begins; goes_on = some; wrong = wrong })

  -- a text of more than the first line has labels
  pub has_labels : text ≢ ended header → (labels : List Label) × IsTextOf arrays text labels → SpellsLabels arrays text
  has_labels more (labels, is) =
      (labels, is, λ e. let Q : List Label → Type 0 = λ ls. text ≡ trace_text arrays ls in more (subst Q e is.spelled))

  -- and where a label goes on behind some there is more than the first line
  pub is_longer : (labels : List Label) (rest : List ℕ) → text ≡ trace_text arrays labels ++ rest → rest ≢ [] → text ≢ ended header
  is_longer labels [] e some = λ is. some refl
  is_longer labels (x ∷ rest) e some = λ is.
      absurd (omega (arith, ap length e, ap length is, length-append (trace_text arrays labels) (x ∷ rest), length-append (ended header) (lines_text arrays labels)))
