-- The good runs of a client answer for those of each client that it covers.
use Rattle.std.proofs.Common.{◌≡◌, ℕ, ◌≤◌, List, subst, arith, inl, inr}
use Rattle.tso_client.proofs.Looser.{looser_objects_serve, weak_queues_are_looser}
use Rattle.tso_client.proofs.Placed.{programs_follow}
use Rattle.tso_client.proofs.Theorems.{covered_runs_are_good}
use Rattle.tso_client.specs.Clients.{IsNoStricter}
use Rattle.tso_client.specs.Goodness.{AllRunsAreGood, IsLooser}
use Rattle.tso_client.specs.Served.{GoodnessGoesDown, VerifiedServes}
use Rattle.tso_line.specs.declared.instruction.Mode.{Mode}
use Rattle.tso_machine.specs.Places.{first_memory}
use Rattle.tso_machine.specs.Programs.{program_of}
use Rattle.tso_model.specs.Objects.{Object, Queue}
use Rattle.tso_prog.specs.Views.{mode_view}
use Rattle.tso_prog.specs.declared.client.Array.{Array}

-- a queue of the one mode allows what one of the other and of as much room does
looser : (small large : Mode) (room capacity : ℕ) → IsNoStricter small large → capacity ≡ room → IsLooser (Queue (mode_view large) capacity) (Queue (mode_view small) room)
looser small large room capacity (inl same) e = rw (same, e) (λ calls allowed. allowed)
looser small large room capacity (inr weak) e = let no_more : capacity ≤ room = omega (arith, e) in rw weak (weak_queues_are_looser (mode_view large) capacity room no_more)

pub goodness_goes_down : GoodnessGoesDown
goodness_goes_down small large (s, placed) good ls m run =
    let queue : Object = Queue (mode_view large.mode) large.capacity in
    let From : List Array → Type 0 = λ arrays. AllRunsAreGood (program_of large) (first_memory arrays) queue in
    let here = covered_runs_are_good (program_of small) (program_of large) (programs_follow small large (s, placed)) (first_memory small.arrays) queue (subst From s.arrays good) in
    looser_objects_serve queue (Queue (mode_view small.mode) small.capacity) (looser small.mode large.mode small.capacity large.capacity s.mode s.capacity) ls (here ls m run)

pub verified_serves : VerifiedServes
verified_serves bytes v small covered = goodness_goes_down small v.verified covered v.good
