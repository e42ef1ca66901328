-- Worked states that are written as a tree, part by part.
use Rattle.std.proofs.Common.{◌≡◌, ◌∙◌, ℕ, List, [], ◌∷◌, ◌++◌, get_or, Option, sym, ap, subst, append_assoc}
use Rattle.std.proofs.KnownBytes.{Appends-nil, Appends-trans}
use Rattle.std.proofs.lemmas.List.{append-nil}
use Rattle.std.specs.Io.KnownBytes.{Appends}
use Rattle.tso_cert.specs.Certificates.{magic, table_of}
use Rattle.tso_cert.specs.Trees.{fork, spelling_of}
use Rattle.tso_code.specs.States.{state}
use Rattle.tso_write.proofs.CuttingLemmas.{tree_of_worked}
use Rattle.tso_write.proofs.Sorting.{order_is_there}
use Rattle.tso_write.proofs.TaskLemmas.{fork_of_halves}
use Rattle.tso_write.specs.Spelling.{InLeft, InRight, IsFront, IsPut, IsPutInPart, IsSpelledCut, IsStateBehind, Nothing, Whole}
use Rattle.tso_write.specs.Tasks.{AreHalvesCut, CanBeCut, Numbered, uncut}
use Rattle.tso_write.specs.Worked.{AreWorkedOut, IsWritten, IsWrittenInPart}
use Rattle.tso_write.specs.declared.worked.Worked.{Worked}
use Rattle.tso_foot.specs.declared.table.Table.{Table}
use Rattle.tso_search.specs.Grounds.{grain_of}
use Rattle.tso_list.proofs.BeginningLemmas.{beginning_behind, beginning_of_none, beginning_of_part}
use Rattle.tso_list.specs.Beginnings.{AppendsBeginning}
use Rattle.tso_parts.specs.Numbers.{IsNumbered}
use Rattle.tso_prog.specs.declared.client.Client.{Client}
use Rattle.tso_judge.specs.Certified.{CertificatesFit}
use Rattle.tso_state.specs.declared.state.State.{State}
use Rattle.tso_keys.specs.Orders.{IsRising}

-- ---- slabs

pub slab_begun : (u : Numbered) (a b : Option (List ℕ)) (bytes slice : List ℕ) → slice ≡ bytes → IsSpelledCut u bytes → AppendsBeginning a b slice → IsPutInPart u a b
slab_begun u a b bytes slice same is out = record { front = spelling_of (grain_of u.ground) is.tree; begun = Whole u is.tree is.cut; appended = subst (AppendsBeginning a b) (same ∙ is.spelled) out }

pub slab_put : (u : Numbered) (a b : Option (List ℕ)) (bytes slice : List ℕ) → slice ≡ bytes → IsSpelledCut u bytes → Appends a b slice → IsPut u a b
slab_put u a b bytes slice same is out = record { tree = is.tree; cut = is.cut; appended = subst (Appends a b) (same ∙ is.spelled) out }

-- ---- a fork, part by part

-- the states of a half are those of the whole
of_whole : (u left right : Numbered) (bytes : List ℕ) → AreHalvesCut u left right → IsStateBehind right.states (get_or right.numbers 0 0) [] bytes → IsStateBehind u.states (get_or right.numbers 0 0) [] bytes
of_whole u left right bytes halves is =
    let P : List State → Type 0 = λ states. IsStateBehind states (get_or right.numbers 0 0) [] bytes in
    subst P (ap (λ (x : Numbered). x.states) halves.right_is) is

module _ (u left right : Numbered) (halves : AreHalvesCut u left right) (a b : Option (List ℕ)) where
  -- a beginning of the fork's byte went out
  pub byte_begun : (byte : List ℕ) → byte ≡ 1 ∷ [] → AppendsBeginning a b byte → IsPutInPart u a b
  byte_begun byte is out = record { front = 1 ∷ []; begun = InLeft u left right [] halves (Nothing left); appended = subst (AppendsBeginning a b) is out }

  module _ (byte : List ℕ) (byte_is : byte ≡ 1 ∷ []) (byte_put : Appends a b byte) (c : Option (List ℕ)) where
    begun_put : Appends a b (1 ∷ [])
    begun_put = subst (Appends a b) byte_is byte_put

    -- its left half went out in part
    pub part_of_left : IsPutInPart left b c → IsPutInPart u a c
    part_of_left part = record {
      front = 1 ∷ part.front;
      begun = InLeft u left right part.front halves part.begun;
      appended = beginning_behind a b c (1 ∷ part.front) (1 ∷ []) part.front [] (ap (λ (l : List ℕ). 1 ∷ l) (sym (append-nil part.front))) begun_put part.appended;
    }

    module _ (first : IsPut left b c) where
      abbrev L : List ℕ
      L = spelling_of (grain_of u.ground) first.tree

      low : spelling_of (grain_of left.ground) first.tree ≡ L
      low = ap (λ (x : Numbered). spelling_of (grain_of x.ground) first.tree) halves.left_is

      half_put : Appends a c (1 ∷ L)
      half_put = Appends-trans a b c (1 ∷ []) L begun_put (subst (Appends b c) low first.appended)

      -- its left half, and no more
      pub part_before_state : IsPutInPart u a c
      part_before_state = record {
        front = 1 ∷ L;
        begun = InLeft u left right L halves (subst (IsFront left) low (Whole left first.tree first.cut));
        appended = beginning_of_part a c c (1 ∷ L) (1 ∷ L) [] (sym (append-nil (1 ∷ L))) half_put;
      }

      module _ (d : Option (List ℕ)) (bytes slice : List ℕ) (state_is : IsStateBehind right.states (get_or right.numbers 0 0) [] bytes) (same : slice ≡ bytes) where
        middle : IsStateBehind u.states (get_or right.numbers 0 0) [] bytes
        middle = of_whole u left right bytes halves state_is

        abbrev S : List ℕ
        S = state middle.spelled

        -- its left half, and a beginning of its state
        pub part_of_state : AppendsBeginning c d slice → IsPutInPart u a d
        part_of_state out = record {
          front = 1 ∷ (L ++ (S ++ []));
          begun = InRight u left right first.tree middle.spelled [] halves first.cut middle.at (Nothing right);
          appended = beginning_behind a c d (1 ∷ (L ++ (S ++ []))) (1 ∷ L) slice [] (ap (λ (w : List ℕ). 1 ∷ (L ++ (w ++ []))) (sym (same ∙ middle.is))) half_put out;
        }

        module _ (out : Appends c d slice) (e : Option (List ℕ)) where
          state_put : Appends a d (1 ∷ (L ++ S))
          state_put = let P : List ℕ → Type 0 = λ w. Appends a d (1 ∷ (L ++ w)) in subst P (same ∙ middle.is) (Appends-trans a c d (1 ∷ L) slice half_put out)

          -- its left half and its state, and its right half in part
          pub part_of_right : IsPutInPart right d e → IsPutInPart u a e
          part_of_right part = record {
            front = 1 ∷ (L ++ (S ++ part.front));
            begun = InRight u left right first.tree middle.spelled part.front halves first.cut middle.at part.begun;
            appended =
                beginning_behind a d e (1 ∷ (L ++ (S ++ part.front))) (1 ∷ (L ++ S)) part.front []
                (ap (λ (w : List ℕ). 1 ∷ w) (sym (append_assoc L S part.front) ∙ ap (λ (w : List ℕ). (L ++ S) ++ w) (sym (append-nil part.front)))) state_put part.appended;
          }

          -- all of it
          pub put_fork : CanBeCut u → IsPut right d e → IsPut u a e
          put_fork ready second =
              let high : spelling_of (grain_of right.ground) second.tree ≡ spelling_of (grain_of u.ground) second.tree = ap (λ (x : Numbered). spelling_of (grain_of x.ground) second.tree) halves.right_is in
              record {
                tree = fork first.tree middle.spelled second.tree;
                cut = fork_of_halves u left right first.tree second.tree middle.spelled ready halves first.cut second.cut middle.at;
                appended =
                    subst (Appends a e) (ap (λ (w : List ℕ). 1 ∷ w) (append_assoc L S (spelling_of (grain_of u.ground) second.tree)))
                    (Appends-trans a d e (1 ∷ (L ++ S)) (spelling_of (grain_of u.ground) second.tree) state_put (subst (Appends d e) high second.appended));
              }

-- ---- the whole tree

pub part_of_nothing : (u : Numbered) (a : Option (List ℕ)) → IsPutInPart u a a
part_of_nothing u a = record { front = []; begun = Nothing u; appended = beginning_of_none a [] }

-- ---- the whole

module _ (c : Client) (w : Worked) (t : Table) where
  abbrev all_of : List ℕ → Numbered
  all_of ns = uncut c w.ground w.store.states ns

  pub written : (a b d : Option (List ℕ)) (front slice items ns : List ℕ) → AreWorkedOut c w → IsRising w.store.states items → IsNumbered w.store.states → CertificatesFit c → front ≡ magic (grain_of w.ground) ++ table_of (grain_of w.ground) t → slice ≡ front
      → ns ≡ items → Appends a b slice → IsPut (all_of ns) b d → IsWritten c w t a d
  written a b d front slice items ns out rising differ fit is same these first put = record {
    tree = put.tree;
    made = tree_of_worked c w ns put.tree out (subst (IsRising w.store.states) (sym these) rising) differ fit put.cut;
    appended =
        subst (Appends a d) (append_assoc (magic (grain_of w.ground)) (table_of (grain_of w.ground) t) (spelling_of (grain_of w.ground) put.tree))
        (Appends-trans a b d (magic (grain_of w.ground) ++ table_of (grain_of w.ground) t) (spelling_of (grain_of w.ground) put.tree) (subst (Appends a b) (same ∙ is) first) put.appended);
  }

  pub written_none : (a : Option (List ℕ)) → IsWrittenInPart c w t a a
  written_none a =
      let (ns, rising) = order_is_there w.store.states in
      record { numbers = ns; rising = rising; front = []; begun = Nothing (all_of ns); appended = beginning_of_none a (magic (grain_of w.ground) ++ (table_of (grain_of w.ground) t ++ [])) }

  pub written_front : (a b : Option (List ℕ)) (front slice items : List ℕ) → IsRising w.store.states items → front ≡ magic (grain_of w.ground) ++ table_of (grain_of w.ground) t → slice ≡ front → AppendsBeginning a b slice → IsWrittenInPart c w t a b
  written_front a b front slice items rising is same out = record {
    numbers = items;
    rising = rising;
    front = [];
    begun = Nothing (all_of items);
    appended =
        beginning_behind a a b (magic (grain_of w.ground) ++ (table_of (grain_of w.ground) t ++ [])) [] slice [] (sym (append_assoc (magic (grain_of w.ground)) (table_of (grain_of w.ground) t) []) ∙ ap (λ (l : List ℕ). l ++ []) (sym (same ∙ is))) (Appends-nil a) out;
  }

  pub written_part : (a b d : Option (List ℕ)) (front slice items ns : List ℕ) → IsRising w.store.states items → front ≡ magic (grain_of w.ground) ++ table_of (grain_of w.ground) t → slice ≡ front → ns ≡ items → Appends a b slice
      → IsPutInPart (all_of ns) b d → IsWrittenInPart c w t a d
  written_part a b d front slice items ns rising is same these out part = record {
    numbers = ns;
    rising = subst (IsRising w.store.states) (sym these) rising;
    front = part.front;
    begun = part.begun;
    appended =
        beginning_behind a b d (magic (grain_of w.ground) ++ (table_of (grain_of w.ground) t ++ part.front)) slice part.front []
        (sym (append_assoc (magic (grain_of w.ground)) (table_of (grain_of w.ground) t) part.front) ∙ ap (λ (l : List ℕ). l ++ part.front) (sym (same ∙ is)) ∙ ap (λ (l : List ℕ). slice ++ l) (sym (append-nil part.front))) out part.appended;
  }
