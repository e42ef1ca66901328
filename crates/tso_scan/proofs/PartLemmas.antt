-- Texts that lie in several parts.
use Rattle.std.proofs.Common.{◌≡◌, ◌∙◌, ℕ, ◌-◌, ◌≤◌, List, [], ◌∷◌, ◌++◌, Some, Ok, refl, sym, ap, append_assoc, arith, drop, get_or, length, take}
use Rattle.std.proofs.lemmas.List.{take-append-drop, take_all}
use Rattle.tso_cert.proofs.FrontCode.{front_again, front_take}
use Rattle.tso_cert.proofs.TreeCode.{tree_again, tree_take}
use Rattle.tso_cert.specs.Certificates.{front, front_at, magic, tree_at}
use Rattle.tso_cert.specs.Trees.{Tree, record_count, spelling_of}
use Rattle.tso_code.proofs.StateCodes.{state_code}
use Rattle.tso_code.specs.States.{state, state_at}
use Rattle.tso_rec.specs.declared.basis.Basis.{Basis}
use Rattle.tso_rec.specs.declared.basis.Grain.TheVariants.{Steps}
use Rattle.tso_scan.specs.Halves.{IsEnd}
use Rattle.tso_scan.specs.Parts.{text_of}
use Rattle.tso_state.specs.declared.state.State.{State}

-- ---- texts

-- parts behind some parts are the text behind that of the first ones
pub text_apart : (first : List ℕ) (before : List (List ℕ)) (second : List ℕ) (more : List (List ℕ)) → text_of first (before ++ second ∷ more) ≡ text_of first before ++ text_of second more
text_apart first [] second more = refl
text_apart first (b ∷ before) second more =
    ap (λ (w : List ℕ). first ++ w) (text_apart b before second more) ∙ sym (append_assoc first (text_of b before) (text_of second more))

-- what stands before a text stands before its first part
pub text_behind : (front first : List ℕ) (more : List (List ℕ)) → text_of (front ++ first) more ≡ front ++ text_of first more
text_behind front first [] = refl
text_behind front first (second ∷ more) = append_assoc front first (text_of second more)

-- the last part ends the text
pub last_ends : (first : List ℕ) (before : List (List ℕ)) (last : List ℕ) → IsEnd (text_of first (before ++ last ∷ [])) last
last_ends first before last = record { front = text_of first before; is = text_apart first before last [] }

-- an end of an end is an end
pub end_of_end : (bytes end last : List ℕ) → IsEnd bytes end → IsEnd end last → IsEnd bytes last
end_of_end bytes end last one two = record {
  front = one.front ++ two.front;
  is = one.is ∙ ap (λ (w : List ℕ). one.front ++ w) two.is ∙ sym (append_assoc one.front two.front last);
}

-- some parts, the one behind them and those behind that
pub parted : (behind : List ℕ) (all before from : List (List ℕ)) (n : ℕ) (second : List ℕ) (more : List (List ℕ)) → before ≡ take n all → from ≡ drop n all → from ≡ second ∷ more → text_of behind all ≡ text_of behind before ++ text_of second more
parted behind all before from n second more front back is =
    let f = sym front in
    let b = sym back ∙ is in
    let whole : all ≡ before ++ second ∷ more = sym (take-append-drop n all) ∙ (λ i. f i ++ b i) in
    ap (text_of behind) whole ∙ text_apart behind before second more

-- one part more is put behind what was put together
pub one_more : (all part : List ℕ) (parts rest : List (List ℕ)) → parts ≡ part ∷ rest → text_of (all ++ part) rest ≡ text_of all parts
one_more all part parts [] is = sym (ap (text_of all) is)
one_more all part parts (next ∷ rest) is = append_assoc all part (text_of next rest) ∙ sym (ap (text_of all) is)

-- a byte and what is behind it
pub front_byte : (b : ℕ) (bytes : List ℕ) → 1 ≤ length bytes → get_or bytes 0 0 ≡ b → bytes ≡ b ∷ take (length bytes - 1) (drop 1 bytes)
front_byte b [] le e = absurd (omega (arith, le))
front_byte b (c ∷ rest) le e = let all = take_all (length (c ∷ rest) - 1) rest (omega arith) in rw all (ap (λ (n : ℕ). n ∷ rest) e)

-- ---- what is read of the front

-- a tree is read whatever stands behind it
pub tree_before : (depth room left : ℕ) (bytes rest more : List ℕ) (t : Tree) → tree_at Steps depth room bytes ≡ Ok (t, left, rest) → tree_at Steps depth room (bytes ++ more) ≡ Ok (t, left, rest ++ more)
tree_before depth room left bytes rest more t reads =
    let took = tree_take Steps depth room bytes (t, left, rest) reads in
    let count = took.3 in
    let enough : record_count t ≤ room = omega (arith, count) in
    let same : room - record_count t ≡ left = omega (arith, count) in
    let whole : bytes ++ more ≡ spelling_of Steps t ++ (rest ++ more) = ap (λ (w : List ℕ). w ++ more) took.0 ∙ append_assoc (spelling_of Steps t) rest more in
    ap (tree_at Steps depth room) whole ∙ tree_again Steps depth room t (rest ++ more) took.1 took.2 enough ∙ ap (λ (n : ℕ). Ok (t, n, rest ++ more)) same

-- so is a state
pub state_before : (bytes rest more : List ℕ) (s : State) → state_at bytes ≡ Some (s, rest) → state_at (bytes ++ more) ≡ Some (s, rest ++ more)
state_before bytes rest more s reads =
    let took = state_code.takes bytes (s, rest) reads in
    ap state_at (ap (λ (w : List ℕ). w ++ more) took.0 ∙ append_assoc (state s) rest more) ∙ state_code.again s (rest ++ more) took.1

-- so is the table with what stands before it
front_before : (bytes rest more : List ℕ) (b : Basis) → front_at bytes ≡ Ok (b, rest) → front_at (bytes ++ more) ≡ Ok (b, rest ++ more)
front_before bytes rest more b reads =
    let took = front_take bytes (b, rest) reads in
    ap front_at (ap (λ (w : List ℕ). w ++ more) took.0 ∙ apart (magic b.grain) (front b) rest more) ∙ front_again b (rest ++ more) took.1
  where
    apart : (s t u more : List ℕ) → (s ++ (t ++ u)) ++ more ≡ s ++ (t ++ (u ++ more))
    apart s t u more = simp append_assoc

pub front_of_text : (first rest : List ℕ) (more : List (List ℕ)) (b : Basis) → front_at first ≡ Ok (b, rest) → front_at (text_of first more) ≡ Ok (b, text_of rest more)
front_of_text first rest [] b reads = reads
front_of_text first rest (second ∷ more) b reads = front_before first rest (text_of second more) b reads
