-- Trees of records that several threads cut by halves, put together.
use Rattle.std.proofs.Common.{◌≡◌, ◌∙◌, ℕ, ◌/◌, ◌<◌, List, length, take, drop, get_or, Some, slice_get, refl, sym, ap, subst}
use Rattle.tso_cert.specs.Trees.{Tree, fork}
use Rattle.tso_search.specs.declared.ground.Ground.{Ground}
use Rattle.tso_prog.specs.declared.client.Client.{Client}
use Rattle.tso_state.specs.declared.state.State.{State}
use Rattle.tso_write.proofs.CuttingLemmas.{first_high, forked, numbers_high, numbers_low, rising_high, rising_low}
use Rattle.tso_write.specs.Tasks.{AreHalvesCut, CanBeCut, IsCutOf, Numbered, uncut}

-- the numbers of the right half
back : (whole left right : Numbered) → AreHalvesCut whole left right → right.numbers ≡ drop (length whole.numbers / 2) whole.numbers
back whole left right halves = ap (λ (u : Numbered). u.numbers) halves.right_is

-- the first of them is that of a state
pub first_right : (whole left right : Numbered) → CanBeCut whole → AreHalvesCut whole left right → get_or right.numbers 0 0 < length whole.states
first_right whole left right ready halves = first_high whole.states whole.numbers right.numbers (length whole.numbers / 2) (back whole left right halves) halves.many refl ready.numbers

pub fork_of_halves : (whole left right : Numbered) (one two : Tree) (s : State) → CanBeCut whole → AreHalvesCut whole left right → IsCutOf left one → IsCutOf right two
    → slice_get whole.states (get_or right.numbers 0 0) ≡ Some s → IsCutOf whole (fork one s two)
fork_of_halves whole left right one two s ready halves first second at =
    let h = length whole.numbers / 2 in
    let low = take h whole.numbers in
    let high = drop h whole.numbers in
    let P : Numbered → Type 0 = λ u. IsCutOf u one in
    let Q : Numbered → Type 0 = λ u. IsCutOf u two in
    let here : slice_get whole.states (get_or high 0 0) ≡ Some s = ap (λ (ns : List ℕ). slice_get whole.states (get_or ns 0 0)) (sym (back whole left right halves)) ∙ at in
    forked whole.client whole.ground whole.states whole.numbers low high h s one two refl refl halves.many refl ready.rising (subst P halves.left_is first) (subst Q halves.right_is second) here

-- numbers cut in two
pub cut_in_two : (c : Client) (g : Ground) (states : List State) (ns low high : List ℕ) → 64 < length ns → low ≡ take (length ns / 2) ns → high ≡ drop (length ns / 2) ns → CanBeCut (uncut c g states ns)
    → AreHalvesCut (uncut c g states ns) (uncut c g states low) (uncut c g states high) × CanBeCut (uncut c g states low) × CanBeCut (uncut c g states high)
cut_in_two c g states ns low high many front rest ready = (
  record { many = many; left_is = ap (uncut c g states) front; right_is = ap (uncut c g states) rest },
  record { searched = ready.searched; closed = ready.closed; numbers = numbers_low states ns low (length ns / 2) front ready.numbers; rising = rising_low states ns low (length ns / 2) front ready.rising },
  record { searched = ready.searched; closed = ready.closed; numbers = numbers_high states ns high (length ns / 2) rest ready.numbers; rising = rising_high states ns high (length ns / 2) rest ready.rising },
)
