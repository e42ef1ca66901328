-- That `==` of ends is exact.
use Rattle.std.specs.Prelude.{◌≡◌}
use Rattle.std.proofs.Common.{ap, rules}
use Rattle.std.proofs.lemmas.Bool.{false≢true}
use Rattle.std.proofs.lemmas.Bool.Decides.{Decides-eqb}
use Rattle.tso_choose.specs.contracts.choice.ChoiceExact.TheImpl.Laws.{exact-law as choice_exact}
use Rattle.tso_fifo.specs.contracts.order.PlacedPartialEq.TheImpl as placed_impl
use Rattle.tso_list.specs.Same.{IsExact, same_three}
use Rattle.tso_rec.specs.contracts.record.EndPartialEq.TheImpl as end_impl
use Rattle.tso_rec.specs.declared.record.End.TheVariants.{Choices, Order}
use lib.Pointwise.{pointwise_decides}

pub placed_exact : IsExact placed_impl.eq-value.it
placed_exact a b = same_three _ _ _ (Decides-eqb a.thread b.thread) (Decides-eqb a.call b.call) (Prim.search rules)
    (λ p q r i. record { thread = p i; call = q i; answer = r i }) (λ e i. (e i).thread) (λ e i. (e i).call) (λ e i. (e i).answer)

pub end_exact : IsExact end_impl.eq-value.it
end_exact (Choices a) (Choices b) = (λ h. ap Choices ((pointwise_decides choice_exact a b).0 h), λ e. (pointwise_decides choice_exact a b).1 (let k : a ≡ b = cc in k))
end_exact (Choices a) (Order b) = (λ h. absurd (false≢true h), λ e. cc)
end_exact (Order a) (Choices b) = (λ h. absurd (false≢true h), λ e. cc)
end_exact (Order a) (Order b) = (λ h. ap Order ((pointwise_decides placed_exact a b).0 h), λ e. (pointwise_decides placed_exact a b).1 (let k : a ≡ b = cc in k))
