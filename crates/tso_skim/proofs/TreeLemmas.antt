-- Passing over a tree is passing over its parts, and a certificate is one where its tree goes to the end.
use Rattle.std.proofs.Common.{◌≡◌, ◌==◌, ℕ, List, Option, Some, None, Result, Ok, Err, Bool, true, false, refl, ap, ◌∙◌, length, if◌then◌else◌}
use Rattle.tso_cert.specs.Certificates.{◌>>=◌, Branch, certificate_at, field, fork_at, front_at, tree_at}
use Rattle.tso_cert.specs.Trees.{Tree, leaf, fork}
use Rattle.tso_cert.specs.declared.fault.Fault.{Fault}
use Rattle.tso_cert.specs.declared.fault.Fault.TheVariants.{K01}
use Rattle.tso_code.specs.States.{state_at}
use Rattle.tso_rec.specs.declared.basis.Basis.{Basis}
use Rattle.tso_rec.specs.declared.record.Record.{Record}
use Rattle.tso_skim.specs.Skips.{after, fault_in, fault_in_tree, without_tree}
use Rattle.tso_state.specs.declared.state.State.{State}

-- ---- trees

-- what comes behind a tree that was passed over
abbrev pub then_tree : Result (ℕ × List ℕ) Fault → (ℕ → List ℕ → Result (ℕ × List ℕ) Fault) → Result (ℕ × List ℕ) Fault
then_tree (Ok x) f = f x.0 x.1
then_tree (Err fault) f = Err fault

-- what comes behind a field that was passed over
abbrev pub then_field : Option (List ℕ) → (List ℕ → Result (ℕ × List ℕ) Fault) → Result (ℕ × List ℕ) Fault
then_field (Some rest) f = f rest
then_field None f = Err K01

behind_right : (b : Branch) (left : Tree) (s : State) → without_tree (b >>= λ right. Ok (fork left s right.0, right.1, right.2)) ≡ without_tree b
behind_right (Ok x) left s = refl
behind_right (Err fault) left s = refl

behind_state : (o : Option (State × List ℕ)) (deeper : ℕ → List ℕ → Branch) (left : Tree) (room : ℕ)
    → without_tree (field o >>= λ s. (deeper room s.1 >>= λ right. Ok (fork left s.0 right.0, right.1, right.2))) ≡ then_field (after o) (λ rest. without_tree (deeper room rest))
behind_state (Some s) deeper left room = behind_right (deeper room s.1) left s.0
behind_state None deeper left room = refl

behind_left : (b : Branch) (deeper : ℕ → List ℕ → Branch)
    → without_tree (b >>= λ left. (field (state_at left.2) >>= λ s. (deeper left.1 s.1 >>= λ right. Ok (fork left.0 s.0 right.0, right.1, right.2))))
    ≡ then_tree (without_tree b) (λ room rest. then_field (after (state_at rest)) (λ last. without_tree (deeper room last)))
behind_left (Ok left) deeper = behind_state (state_at left.2) deeper left.0 left.1
behind_left (Err fault) deeper = refl

pub behind_fork : (deeper : ℕ → List ℕ → Branch) (room : ℕ) (bytes : List ℕ)
    → without_tree (fork_at deeper room bytes) ≡ then_tree (without_tree (deeper room bytes)) (λ room rest. then_field (after (state_at rest)) (λ last. without_tree (deeper room last)))
behind_fork deeper room bytes = behind_left (deeper room bytes) deeper

pub behind_records : (o : Option (List Record × List ℕ)) (room : ℕ)
    → without_tree (field o >>= λ records. Ok (leaf records.0, room, records.1)) ≡ then_field (after o) (λ rest. Ok (room, rest))
behind_records (Some records) room = refl
behind_records None room = refl

-- ---- certificates

same_fault : {X : Type 0} (b : Bool) (x : X) → fault_in (if b then Ok x else Err K01) ≡ (if b then None else Some K01)
same_fault true x = refl
same_fault false x = refl

-- nothing comes behind the tree
abbrev ended : Basis → Tree × ℕ × List ℕ → Result (Basis × Tree) Fault
ended b c = if length c.2 == 0 then Ok (b, c.0) else Err K01

behind_tree : (tree : Branch) (b : Basis) → fault_in (tree >>= ended b) ≡ fault_in_tree (without_tree tree)
behind_tree (Ok x) b = same_fault (length x.2 == 0) (b, x.0)
behind_tree (Err fault) b = refl

-- behind the table comes the tree
abbrev tree_behind : Basis × List ℕ → Result (Basis × Tree) Fault
tree_behind b = tree_at b.0.grain 64 4194304 b.1 >>= ended b.0

pub behind_front : (bytes : List ℕ) (b : Basis) (rest : List ℕ) → front_at bytes ≡ Ok (b, rest) → fault_in (certificate_at bytes) ≡ fault_in_tree (without_tree (tree_at b.grain 64 4194304 rest))
unfolding certificate_at
behind_front bytes b rest front = ap (λ (r : Result (Basis × List ℕ) Fault). fault_in (r >>= tree_behind)) front ∙ behind_tree (tree_at b.grain 64 4194304 rest) b

pub without_front : (bytes : List ℕ) (fault : Fault) → front_at bytes ≡ Err fault → fault_in (certificate_at bytes) ≡ Some fault
unfolding certificate_at
without_front bytes fault front = ap (λ (r : Result (Basis × List ℕ) Fault). fault_in (r >>= tree_behind)) front
