-- That the derived `==` of frames is exact.
use Rattle.std.specs.Prelude.{ℕ, List}
use Rattle.std.proofs.Common.{rules}
use Rattle.std.proofs.lemmas.Bool.Decides.{Decides-eqb}
use Rattle.tso_list.specs.Same.{IsExact, same_two, same_three}
use Rattle.tso_machine.specs.contracts.frame.FramePartialEq.TheImpl as frame_impl
use Rattle.tso_word.specs.declared.Flags.{Flags}
use Rattle.tso_word.specs.contracts.FlagsPartialEq.TheImpl as flags_impl
use lib.Pointwise.{pointwise_decides}

flags_exact : IsExact flags_impl.eq-value.it
flags_exact a b = search rules

pub frame_exact : IsExact frame_impl.eq-value.it
frame_exact a b =
    same_two _ _ (Decides-eqb a.pc b.pc)
    (same_three {S = List ℕ × Flags × List ℕ} {s = (a.registers, a.flags, a.taken)} {s' = (b.registers, b.flags, b.taken)} _ _ _
    (pointwise_decides Decides-eqb a.registers b.registers) (flags_exact a.flags b.flags) (pointwise_decides Decides-eqb a.taken b.taken)
    (λ p q r i. (p i, q i, r i)) (λ e i. (e i).0) (λ e i. (e i).1) (λ e i. (e i).2))
    (λ p q i. record { pc = p i; registers = (q i).0; flags = (q i).1; taken = (q i).2 }) (λ e i. (e i).pc) (λ e i. ((e i).registers, (e i).flags, (e i).taken))
