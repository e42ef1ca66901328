-- Worked states that are spelled as the records of a tree.
use Rattle.std.proofs.Common.{◌≡◌, ◌∙◌, ℕ, ◌+◌, ◌/◌, ◌<◌, ◌≤◌, List, [], ◌∷◌, ◌++◌, length, take, drop, get_or, Some, slice_get, refl, sym, ap, subst, append_assoc, arith}
use Rattle.std.proofs.lemmas.List.{append-nil, flat_map_more, length-drop}
use Rattle.std.specs.List.{flat_map}
use Rattle.tso_cert.specs.Trees.{fork, leaf, spelling_of}
use Rattle.tso_code.specs.Numbers.{number}
use Rattle.tso_code.specs.States.{state}
use Rattle.tso_write.proofs.CuttingLemmas.{all_numbers, leaf_cut, leaf_more, no_records, strictly_rising, worked_record}
use Rattle.tso_write.proofs.TaskLemmas.{cut_in_two, fork_of_halves}
use Rattle.tso_write.specs.Cutting.{AreRecordsOf, IsEndAt, IsRecordOf}
use Rattle.tso_write.specs.Spelling.{AreSpelledBehind, CanBeSpelled, IsEndedBehind, IsRecordBehind, IsSpelledBehind, IsSpelledCut, IsStateBehind}
use Rattle.tso_write.specs.Tasks.{AreHalvesCut, CanBeCut, Numbered, uncut}
use Rattle.tso_write.specs.Worked.{AreWorkedOut}
use Rattle.tso_write.specs.declared.worked.Worked.{Worked}
use Rattle.tso_search.specs.Grounds.{IsGround, grain_of}
use Rattle.tso_search.specs.declared.ground.Ground.{Ground}
use Rattle.tso_parts.specs.Numbers.{IsNumbered}
use Rattle.tso_prog.specs.declared.client.Client.{Client}
use Rattle.tso_rec.specs.Spelling.{a_record}
use Rattle.tso_rec.specs.declared.record.End.{End}
use Rattle.tso_rec.specs.declared.record.Record.{Record}
use Rattle.tso_search.specs.Searched.{AreSearched}
use Rattle.tso_state.specs.declared.state.State.{State}
use Rattle.tso_keys.specs.Orders.{IsRising}

-- ---- leaves

pub none_spelled : (u : Numbered) (o : List ℕ) → AreSpelledBehind u 0 o o
none_spelled u o = record { records = []; are = no_records u.client u.ground u.states; is = sym (append-nil o) }

-- one more record
pub one_more_spelled : (u : Numbered) (k : ℕ) (o now after : List ℕ) (r : Record) → AreSpelledBehind u k o now → k < length u.numbers → IsRecordOf u.client u.ground u.states (get_or u.numbers k 0) r
    → after ≡ now ++ a_record (grain_of u.ground) r → AreSpelledBehind u (k + 1) o after
one_more_spelled u k o now after r all lt one is = record {
  records = all.records ++ r ∷ [];
  are = leaf_more u.client u.ground u.states u.numbers k all.records (all.records ++ r ∷ []) r all.are lt one refl;
  is = is ∙ ap (λ (w : List ℕ). w ++ a_record (grain_of u.ground) r) all.is ∙ flat_map_more (a_record (grain_of u.ground)) o all.records r;
}

all_taken : (ns : List ℕ) → take (length ns) ns ≡ ns
all_taken [] = refl
all_taken (n ∷ ns) = ap (λ (l : List ℕ). n ∷ l) (all_taken ns)

pub leaf_behind : (u : Numbered) (o a b e : List ℕ) → length u.numbers ≤ 64 → a ≡ o ++ 0 ∷ [] → b ≡ a ++ number (length u.numbers) → AreSpelledBehind u (length u.numbers) b e → IsSpelledBehind u o e
leaf_behind u o a b e few one count all = record {
  tree = leaf all.records;
  cut = leaf_cut u.client u.ground u.states u.numbers all.records few are;
  spelled =
      all.is ∙ ap (λ (w : List ℕ). w ++ flat_map (a_record (grain_of u.ground)) all.records) (count ∙ ap (λ (w : List ℕ). w ++ number (length u.numbers)) one)
      ∙ append_assoc (o ++ 0 ∷ []) (number (length u.numbers)) (flat_map (a_record (grain_of u.ground)) all.records)
      ∙ append_assoc o (0 ∷ []) (number (length u.numbers) ++ flat_map (a_record (grain_of u.ground)) all.records)
      ∙ ap (λ (k : ℕ). o ++ (0 ∷ (number k ++ flat_map (a_record (grain_of u.ground)) all.records))) (sym are.count);
}
  where
    are : AreRecordsOf u.client u.ground u.states u.numbers all.records
    are = let P : List ℕ → Type 0 = λ ns. AreRecordsOf u.client u.ground u.states ns all.records in subst P (all_taken u.numbers) all.are

-- ---- forks

pub fork_behind : (u left right : Numbered) (o a b d e : List ℕ) → CanBeCut u → AreHalvesCut u left right → a ≡ o ++ 1 ∷ [] → IsSpelledBehind left a b → IsStateBehind u.states (get_or right.numbers 0 0) b d
    → IsSpelledBehind right d e → IsSpelledBehind u o e
fork_behind u left right o a b d e ready halves one first middle second =
    let L = spelling_of (grain_of left.ground) first.tree in
    let S = state middle.spelled in
    let R = spelling_of (grain_of right.ground) second.tree in
    let low : L ≡ spelling_of (grain_of u.ground) first.tree = ap (λ (x : Numbered). spelling_of (grain_of x.ground) first.tree) halves.left_is in
    let high : R ≡ spelling_of (grain_of u.ground) second.tree = ap (λ (x : Numbered). spelling_of (grain_of x.ground) second.tree) halves.right_is in
    record {
      tree = fork first.tree middle.spelled second.tree;
      cut = fork_of_halves u left right first.tree second.tree middle.spelled ready halves first.cut second.cut middle.at;
      spelled =
          second.spelled ∙ ap (λ (w : List ℕ). w ++ R) (middle.is ∙ ap (λ (w : List ℕ). w ++ S) (first.spelled ∙ ap (λ (w : List ℕ). w ++ L) one))
          ∙ append_assoc ((o ++ 1 ∷ []) ++ L) S R
          ∙ append_assoc (o ++ 1 ∷ []) L (S ++ R)
          ∙ append_assoc o (1 ∷ []) (L ++ (S ++ R))
          ∙ (λ i. o ++ (1 ∷ (low i ++ (S ++ high i))));
    }

-- where nothing was there before
pub spelled_alone : (u : Numbered) (o bytes : List ℕ) → o ≡ [] → IsSpelledBehind u o bytes → IsSpelledCut u bytes
spelled_alone u o bytes none is = record { tree = is.tree; cut = is.cut; spelled = is.spelled ∙ ap (λ (w : List ℕ). w ++ spelling_of (grain_of u.ground) is.tree) none }

pub state_alone : (states : List State) (n : ℕ) (o bytes : List ℕ) → o ≡ [] → IsStateBehind states n o bytes → IsStateBehind states n [] bytes
state_alone states n o bytes none is = let P : List ℕ → Type 0 = λ l. IsStateBehind states n l bytes in subst P none is

-- ---- records

-- the record of a worked state, put together of its state and its end
pub record_behind : (c : Client) (g : Ground) (states spelled : List State) (n : ℕ) (end : End) (o e : List ℕ) → AreSearched c g states → IsGround c g → spelled ≡ states → IsEndAt c g states n end
    → IsEndedBehind (grain_of g) spelled n end o e → IsRecordBehind (uncut c g states []) n o e
record_behind c g states spelled n end o e searched closed same ends put =
    let at : slice_get states n ≡ Some put.spelled = ap (λ (l : List State). slice_get l n) (sym same) ∙ put.at in
    record { spelled = record { state = put.spelled; end = end }; valid = worked_record c g states n put.spelled end searched closed at (ends put.spelled at); is = put.is }

-- ---- halves

pub some_left : {X : Type 0} (xs all : List X) (m : ℕ) → xs ≡ drop m all → m < length all → 0 < length xs
some_left xs all m is more = let same = ap length is in let long = length-drop m all in omega (arith, same, long, more)

-- states cut in two
pub spelled_in_two : (c kept : Client) (g : Ground) (states spelled : List State) (ns low high : List ℕ) → 64 < length ns → low ≡ take (length ns / 2) ns → high ≡ drop (length ns / 2) ns → CanBeSpelled (uncut c g states ns) kept spelled
    → AreHalvesCut (uncut c g states ns) (uncut c g states low) (uncut c g states high) × CanBeSpelled (uncut c g states low) kept spelled × CanBeSpelled (uncut c g states high) kept spelled
spelled_in_two c kept g states spelled ns low high many front rest ready =
    let cut = cut_in_two c g states ns low high many front rest ready.cut in
    (cut.0, record { client = ready.client; cut = cut.1; same = ready.same }, record { client = ready.client; cut = cut.2; same = ready.same })

-- a state of these is one of those that are spelled
pub state_of_same : (states spelled : List State) (n : ℕ) (o e : List ℕ) → spelled ≡ states → IsStateBehind spelled n o e → IsStateBehind states n o e
state_of_same states spelled n o e same is = let P : List State → Type 0 = λ l. IsStateBehind l n o e in subst P same is

pub number_of_same : (states spelled : List State) (n : ℕ) → spelled ≡ states → n < length states → n < length spelled
number_of_same states spelled n same lt = let P : List State → Type 0 = λ l. n < length l in subst P (sym same) lt

-- worked states can be spelled
pub worked_ready : (c : Client) (w : Worked) (spelled : List State) (ns : List ℕ) → AreWorkedOut c w → IsRising w.store.states ns → IsNumbered w.store.states → spelled ≡ w.store.states
    → CanBeSpelled (uncut c w.ground w.store.states ns) w.store.client spelled
worked_ready c w spelled ns out rising differ same = record {
  client = out.client;
  cut = record { searched = out.searched; closed = out.closed; numbers = all_numbers w.store.states ns rising; rising = strictly_rising w.store.states ns rising differ };
  same = same;
}
