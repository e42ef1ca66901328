-- Trees that are read by themselves, and forks of them.
use Rattle.std.proofs.Common.{Bool, Box, Global, None, Option, ◌≡◌, ◌∙◌, ℕ, ◌+◌, ◌-◌, ◌<◌, ◌≤◌, List, [], ◌∷◌, ◌++◌, drop, length, Some, Ok, false, refl, sym, ap, append_assoc, arith, slice_get, subst, take, true}
use Rattle.std.specs.Prelude.{IfSome, IsTrue}
use Rattle.std.proofs.lemmas.List.{length-append, length-drop, map-append, nil_from_length, take-append-drop, take_all}
use Rattle.tso_cert.proofs.Opening.{opens_fork}
use Rattle.tso_cert.proofs.TreeCode.{tree_again, tree_take}
use Rattle.tso_cert.specs.Certificates.{fork_at, tree_at}
use Rattle.tso_cert.specs.Lookup.{tree_states}
use Rattle.tso_rec.specs.declared.basis.Grain.TheVariants.{Steps}
use Rattle.tso_state.specs.Rising.{IsRising}
use Rattle.tso_cert.specs.Trees.{Tree, fork, record_count, records_of, spelling_of}
use Rattle.tso_code.proofs.StateCodes.{state_code}
use Rattle.tso_code.specs.States.{state, state_at}
use Rattle.tso_foot.specs.declared.table.Table.{Table}
use Rattle.tso_prog.specs.declared.client.Client.{Client}
use Rattle.tso_rec.specs.Records.{ends_of}
use Rattle.tso_rec.specs.declared.record.End.{End}
use Rattle.tso_rec.specs.declared.record.Record.{Record}
use Rattle.tso_scan.proofs.PartLemmas.{state_before, text_behind, tree_before}
use Rattle.tso_scan.proofs.TreeLemmas.{first_behind}
use Rattle.tso_scan.specs.Halves.{AreApart, AreBehind, AreGrafted, AreHalvesOf, AreWithin, IsEnd, IsForkOf, IsForkShape, IsHalfOf, IsOfWhole, IsSeam, IsStored, IsTreeRead, IsTwig, Meet, Stretch, are_some, is_apart, stretch_at, stretch_of}
use Rattle.tso_scan.specs.Parts.{text_of}
use Rattle.tso_scan.specs.Scanned.{IsScannedBehind, IsShapeOf, scanned_states}
use Rattle.tso_scan.specs.declared.halves.Half.{Half}
use Rattle.tso_scan.specs.declared.halves.Records.{Records}
use Rattle.tso_scan.specs.declared.halves.Twig.{Twig}
use Rattle.tso_scan.specs.declared.halves.Unread.{Unread}
use Rattle.tso_scan.specs.declared.whole.Whole.{Whole}
use Rattle.tso_scan.specs.declared.scanned.Scanned.{Scanned}
use Rattle.tso_scan.specs.declared.shape.Shape.{Shape}
use Rattle.tso_scan.specs.declared.shape.Shape.TheViews.{Fork}
use Rattle.tso_scan.specs.declared.states.Scan.{Scan}
use Rattle.tso_state.specs.declared.state.State.{State}
use Rattle.tso_store.specs.Gathering.{Gathering}

-- ---- halves

-- behind the byte of a fork
opens_behind : (depth room : ℕ) (behind : List ℕ) → (depth ≡ 0 → ⊥) → tree_at Steps depth room (1 ∷ behind) ≡ fork_at (tree_at Steps (depth - 1)) room behind
opens_behind depth room behind deep =
    let all : take (length (1 ∷ behind) - 1) behind ≡ behind = take_all (length (1 ∷ behind) - 1) behind (omega arith) in
    opens_fork Steps depth room (1 ∷ behind) (omega arith) refl deep ∙ ap (fork_at (tree_at Steps (depth - 1)) room) all

-- where parts lie behind the bytes or not, the halves are those of the fork at the front
pub halves_of : (u : Unread) (behind : List ℕ) (halves : Unread × Unread) → (u.depth ≡ 0 → ⊥) → u.bytes.now ≡ 1 ∷ behind → u.more.now ≡ [] → AreWithin u behind halves → AreHalvesOf (is_apart u) (stretch_at u) (stretch_at halves.0) (stretch_at halves.1)
halves_of u behind halves deep front none are =
    let one : (stretch_at halves.0).bytes ≡ behind = ap (λ (s : Stretch). s.bytes) are.left in
    let two : (stretch_at halves.1).bytes ≡ are.second = ap (λ (s : Stretch). s.bytes) are.right in
    record {
      deep = deep;
      behind = behind;
      fork = ap (λ (l : List (List ℕ)). text_of u.bytes.now l) none ∙ front;
      left_is = are.left ∙ ap (stretch_of u.checked.now.client (u.depth - 1) u.room) (sym one);
      right_is = are.right ∙ ap (stretch_of u.checked.now.client (u.depth - 1) u.room) (sym two);
      are = rw none (one, rw two are.ends);
    }

pub halves_apart : (u : Unread) (behind : List ℕ) (halves : Unread × Unread) → (u.depth ≡ 0 → ⊥) → u.bytes.now ≡ 1 ∷ behind → is_apart u ≡ true → AreApart u behind halves → AreHalvesOf (is_apart u) (stretch_at u) (stretch_at halves.0) (stretch_at halves.1)
halves_apart u behind halves deep front some are =
    let one : (stretch_at halves.0).bytes ≡ are.first = ap (λ (s : Stretch). s.bytes) are.left in
    let two : (stretch_at halves.1).bytes ≡ are.second = ap (λ (s : Stretch). s.bytes) are.right in
    record {
      deep = deep;
      behind = text_of behind u.more.now;
      fork = ap (λ (l : List ℕ). text_of l u.more.now) front ∙ text_behind (1 ∷ []) behind u.more.now;
      left_is = are.left ∙ ap (stretch_of u.checked.now.client (u.depth - 1) u.room) (sym one);
      right_is = are.right ∙ ap (stretch_of u.checked.now.client (u.depth - 1) u.room) (sym two);
      are = rw some (are.are ∙ (λ i. sym one i ++ sym two i));
    }

-- what the lengths of patterns tell
pub no_parts : (parts : List (List ℕ)) → length parts < 1 → parts ≡ []
no_parts [] less = refl
no_parts (part ∷ parts) less = absurd (omega (arith, less))

pub some_parts : (parts : List (List ℕ)) → 1 ≤ length parts → are_some parts ≡ true
some_parts [] less = absurd (omega (arith, less))
some_parts (part ∷ parts) less = refl

pub if_within : (u : Unread) (behind : List ℕ) (o : Option (Unread × Unread)) → (u.depth ≡ 0 → ⊥) → u.bytes.now ≡ 1 ∷ behind → u.more.now ≡ [] → IfSome o (AreWithin u behind) → IfSome o (λ h. AreHalvesOf (is_apart u) (stretch_at u) (stretch_at h.0) (stretch_at h.1) × Unit {0} × Unit {0})
if_within u behind None deep front none are = tt
if_within u behind (Some halves) deep front none are = (halves_of u behind halves deep front none are, tt, tt)

pub if_apart : (u : Unread) (behind : List ℕ) (o : Option (Unread × Unread)) → (u.depth ≡ 0 → ⊥) → u.bytes.now ≡ 1 ∷ behind → is_apart u ≡ true → IfSome o (AreApart u behind) → IfSome o (λ h. AreHalvesOf (is_apart u) (stretch_at u) (stretch_at h.0) (stretch_at h.1) × Unit {0} × Unit {0})
if_apart u behind None deep front some are = tt
if_apart u behind (Some halves) deep front some are = (halves_apart u behind halves deep front some are, tt, tt)

-- ---- ends of bytes

pub end_from : (bytes end : List ℕ) (n : ℕ) → end ≡ drop n bytes → IsEnd bytes end
end_from bytes end n is = record { front = take n bytes; is = sym (take-append-drop n bytes) ∙ ap (λ l. take n bytes ++ l) (sym is) }

pub end_long : (bytes end : List ℕ) (count : ℕ) → count ≤ length bytes → end ≡ drop (length bytes - count) bytes → length end ≡ count
end_long bytes end count le is = ap length is ∙ length-drop (length bytes - count) bytes ∙ omega (arith, le)

same_fronts : (xs ys a b : List ℕ) → length a ≡ length b → xs ++ a ≡ ys ++ b → a ≡ b
same_fronts [] [] a b long e = e
same_fronts [] (y ∷ ys) a b long e = absurd (let n = ap length e in let m = length-append ys b in omega (arith, long, n, m))
same_fronts (x ∷ xs) [] a b long e = absurd (let n = ap length e in let m = length-append xs a in omega (arith, long, n, m))
same_fronts (x ∷ xs) (y ∷ ys) a b long e = let t : xs ++ a ≡ ys ++ b = cc in same_fronts xs ys a b long t

-- two ends of some bytes that are as long are the same
pub same_ends : (bytes a b : List ℕ) → IsEnd bytes a → IsEnd bytes b → length a ≡ length b → a ≡ b
same_ends bytes a b one two long = same_fronts one.front two.front a b long (sym one.is ∙ two.is)

-- ---- a tree that is read

pub half_read : (c : Client) (begun scan : Scan) (depth room : ℕ) (bytes : List ℕ) (t : Twig) (h : Half) → scanned_states begun ≡ [] → begun.ends ≡ [] → IsHalfOf c scan t h → IsTwig c begun scan depth room bytes t → IsTreeRead (stretch_of c depth room bytes) h
half_read c begun scan depth room bytes t h no_states no_ends half is = record {
  tree = is.is.tree;
  rest = is.rest;
  behind = half.behind ∙ is.behind;
  reads = is.is.reads ∙ ap (λ n. Ok (is.is.tree, n, is.rest)) (sym half.room);
  client = half.client;
  states = half.states ∙ is.is.more.states ∙ ap (λ (l : List State). l ++ tree_states is.is.tree) no_states;
  rises = half.rises;
  ends = half.ends ∙ is.is.more.ends ∙ ap (λ (l : List End). l ++ ends_of (records_of is.is.tree)) no_ends;
  shape = let S : Shape → Type 0 = λ x. IsShapeOf x is.is.tree in subst S (sym half.shape) is.is.shape;
  forks = is.is.forks;
}

-- ---- forks

pub forks_shape : (one two : Box Shape Global) (a b : Shape) → one.value ≡ a → two.value ≡ b → IsForkShape a b (Fork one two)
forks_shape one two a b p q = λ left right s first second.
    let L : Shape → Type 0 = λ x. IsShapeOf x left in
    let R : Shape → Type 0 = λ x. IsShapeOf x right in
    (subst L (sym p) first, subst R (sym q) second)

fork_reads : (depth room middle left : ℕ) (bytes after_left after_state rest : List ℕ) (one two : Tree) (s : State) → tree_at Steps depth room bytes ≡ Ok (one, middle, after_left) → state_at after_left ≡ Some (s, after_state) → tree_at Steps depth middle after_state ≡ Ok (two, left, rest)
    → fork_at (tree_at Steps depth) room bytes ≡ Ok (fork one s two, left, rest)
fork_reads depth room middle left bytes after_left after_state rest one two s a b c = rw (a, b, c) refl

-- what was read with more room is read with less, if it has enough
less_room : (depth all first second room : ℕ) (bytes rest : List ℕ) (t : Tree) → tree_at Steps depth all bytes ≡ Ok (t, second, rest) → first ≡ room + (all - second) → tree_at Steps depth first bytes ≡ Ok (t, room, rest)
less_room depth all first second room bytes rest t reads fits =
    let took = tree_take Steps depth all bytes (t, second, rest) reads in
    let count = took.3 in
    let enough : record_count t ≤ first = omega (arith, count, fits) in
    let left : first - record_count t ≡ room = omega (arith, count, fits) in
    ap (tree_at Steps depth first) took.0 ∙ tree_again Steps depth first t rest took.1 took.2 enough ∙ ap (λ n. Ok (t, n, rest)) left

-- the bytes behind a fork's state are those of the second half
meets : (bytes end right rest after : List ℕ) (t : Tree) (s : State) → bytes ≡ spelling_of Steps t ++ rest → end ≡ rest → state_at end ≡ Some (s, after) → IsEnd bytes right → length after ≡ length right → after ≡ right
meets bytes end right rest after t s spelled same reads behind long =
    let takes = (state_code.takes end (s, after) reads).0 in
    let whole : bytes ≡ (spelling_of Steps t ++ state s) ++ after = spelled ∙ ap (λ l. spelling_of Steps t ++ l) (sym same ∙ takes) ∙ sym (append_assoc (spelling_of Steps t) (state s) after) in
    same_ends bytes after right (record { front = spelling_of Steps t ++ state s; is = whole }) behind long

-- behind a fork's byte its left half is read, its state, and the bytes of its right half are left
record AreReadTo (depth room middle : ℕ) (bytes right : List ℕ) (one : Tree) (s : State) : Type 0 where
  after : List ℕ
  left : tree_at Steps depth room bytes ≡ Ok (one, middle, after)
  state : state_at after ≡ Some (s, right)

read_to : (apart : Bool) (depth room middle : ℕ) (behind left right rest end after : List ℕ) (one : Tree) (s : State) → AreBehind apart behind left right → tree_at Steps depth room left ≡ Ok (one, middle, rest) → IsEnd left end → length end ≡ length rest → state_at end ≡ Some (s, after) → Meet apart after right
    → AreReadTo depth room middle behind right one s
read_to false depth room middle behind left right rest end after one s are reads ends long reads_state meet =
    let took = tree_take Steps depth room left (one, middle, rest) reads in
    let end_is : end ≡ rest = same_ends left end rest ends (record { front = spelling_of Steps one; is = took.0 }) long in
    let right_ends : IsEnd left right = record { front = are.1.front; is = are.0 ∙ are.1.is } in
    let same : after ≡ right = meets left end right rest after one s took.0 end_is reads_state right_ends meet in
    record {
      after = rest;
      left = ap (tree_at Steps depth room) (sym are.0) ∙ reads;
      state = ap state_at (sym end_is) ∙ reads_state ∙ ap (λ (w : List ℕ). Some (s, w)) same;
    }
read_to true depth room middle behind left right rest end after one s are reads ends long reads_state meet =
    let took = tree_take Steps depth room left (one, middle, rest) reads in
    let end_is : end ≡ rest = same_ends left end rest ends (record { front = spelling_of Steps one; is = took.0 }) long in
    let alone : state_at rest ≡ Some (s, []) = ap state_at (sym end_is) ∙ reads_state ∙ ap (λ (w : List ℕ). Some (s, w)) meet in
    record {
      after = rest ++ right;
      left = ap (tree_at Steps depth room) are ∙ tree_before depth room middle left rest right one reads;
      state = state_before rest [] right s alone;
    }

-- the tree of a fork whose halves were read by themselves
forked_tree : (apart : Bool) (whole left right : Stretch) (first second : Half) (room : ℕ) (middle : State) (halves : AreHalvesOf apart whole left right) (one : IsTreeRead left first) (two : IsTreeRead right second) → IsSeam apart left right first.records second.records middle room
    → tree_at Steps whole.depth whole.room whole.bytes ≡ Ok (fork one.tree middle two.tree, room, two.rest)
forked_tree apart whole left right first second room middle halves one two seam =
    let d = whole.depth - 1 in
    let reads_left : tree_at Steps d whole.room left.bytes ≡ Ok (one.tree, first.records.room, one.rest) =
    sym (ap (λ (s : Stretch). tree_at Steps s.depth s.room left.bytes) halves.left_is) ∙ one.reads in
    let reads_right : tree_at Steps d whole.room right.bytes ≡ Ok (two.tree, second.records.room, two.rest) =
    sym (ap (λ (s : Stretch). tree_at Steps s.depth s.room right.bytes) halves.right_is) ∙ two.reads in
    let all : right.room ≡ whole.room = ap (λ (s : Stretch). s.room) halves.right_is in
    let to = read_to apart d whole.room first.records.room halves.behind left.bytes right.bytes one.rest seam.end seam.rest one.tree middle halves.are reads_left seam.ends (seam.long ∙ one.behind) seam.reads seam.meet in
    let fits : first.records.room ≡ room + (whole.room - second.records.room) = seam.fits.is ∙ ap (λ n. room + (n - second.records.room)) all in
    let reads_rest : tree_at Steps d first.records.room right.bytes ≡ Ok (two.tree, room, two.rest) = less_room d whole.room first.records.room second.records.room room right.bytes two.rest two.tree reads_right fits in
    let reads_fork = fork_reads d whole.room first.records.room room halves.behind to.after right.bytes two.rest one.tree two.tree middle to.left to.state reads_rest in
    ap (tree_at Steps whole.depth whole.room) halves.fork ∙ opens_behind whole.depth whole.room halves.behind halves.deep ∙ reads_fork

-- a fork of two trees that were read by themselves
pub forked : (apart : Bool) (whole left right : Stretch) (first second h : Half) (new : Gathering) (room : ℕ) → AreHalvesOf apart whole left right → IsTreeRead left first → IsTreeRead right second → AreGrafted apart left right first.records second first.states new room
    → (h.states ≡ new) × IsForkOf first.records second.records room h.records → (IsTrue h.rises → IsRising new.states) → IsTreeRead whole h
forked apart whole left right first second h new room halves one two graft (same, is) rises =
    let c_left : left.client ≡ whole.client = ap (λ (s : Stretch). s.client) halves.left_is in
    let both : new.states ≡ tree_states one.tree ++ tree_states two.tree = graft.taken.states ∙ (λ i. one.states i ++ two.states i) in
    let many : length first.states.states ≡ length (tree_states one.tree) = ap length one.states in
    let begins : slice_get (tree_states two.tree) 0 ≡ Some graft.middle =
    sym (first_behind (tree_states one.tree) (tree_states two.tree) (length first.states.states) many) ∙ ap (λ l. slice_get l (length first.states.states)) (sym both) ∙ graft.taken.at in
    let a : tree_states (fork one.tree graft.middle two.tree) ≡ tree_states one.tree ++ tree_states two.tree = map-append (λ (r : Record). r.state) (records_of one.tree) (records_of two.tree) in
    let b : ends_of (records_of (fork one.tree graft.middle two.tree)) ≡ ends_of (records_of one.tree) ++ ends_of (records_of two.tree) = map-append (λ (r : Record). r.end) (records_of one.tree) (records_of two.tree) in
    record {
      tree = fork one.tree graft.middle two.tree;
      rest = two.rest;
      behind = is.behind ∙ two.behind;
      reads = forked_tree apart whole left right first second room graft.middle halves one two graft.seam ∙ ap (λ n. Ok (fork one.tree graft.middle two.tree, n, two.rest)) (sym is.room_is);
      client = ap (λ (x : Gathering). x.client) same ∙ graft.client ∙ one.client ∙ c_left;
      states = ap (λ (x : Gathering). x.states) same ∙ both ∙ sym a;
      rises = λ e. subst (λ (x : Gathering). IsRising x.states) (sym same) (rises e);
      ends = is.ends ∙ (λ i. one.ends i ++ two.ends i) ∙ sym b;
      shape = is.shape one.tree two.tree graft.middle one.shape two.shape;
      forks = (one.forks, two.forks, begins);
    }

-- ---- whole trees

pub tree_learned : (c : Client) (bytes : List ℕ) (t : Table) (h : Half) (w : Whole) (s : Scanned) → w.records.behind ≡ 0 → IsTreeRead (stretch_of c 64 4194304 bytes) h → IsStored h w → IsOfWhole t w s → IsScannedBehind c t bytes s
tree_learned c bytes t h w s none is stored learnt =
    let nothing : is.rest ≡ [] = nil_from_length is.rest (sym is.behind ∙ ap (λ (r : Records). r.behind) (sym stored.records) ∙ none) in
    record {
      table = learnt.table;
      tree = is.tree;
      left = h.records.room;
      reads = is.reads ∙ ap (λ (l : List ℕ). Ok (is.tree, h.records.room, l)) nothing;
      scanned = record {
        client = learnt.client ∙ stored.client ∙ is.client;
        states = learnt.states ∙ stored.states ∙ is.states;
        rising = subst IsRising (sym learnt.states) stored.rising;
        ends = learnt.ends ∙ ap (λ (r : Records). r.ends) stored.records ∙ is.ends;
        shape = let S : Shape → Type 0 = λ x. IsShapeOf x is.tree in subst S (sym (learnt.shape ∙ ap (λ (r : Records). r.shape) stored.records)) is.shape;
        forks = is.forks;
      };
    }
