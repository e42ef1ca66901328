-- That `==` of actors is exact, and their order that of their numbers.
use Rattle.std.specs.Prelude.{◌≡◌, refl}
use Rattle.std.proofs.Common.{ap}
use Rattle.std.proofs.lemmas.Bool.{and_parts, and_from, false≢true}
use Rattle.std.proofs.lemmas.Bool.Decides.{Decides-eqb}
use Rattle.tso_list.specs.Same.{IsExact}
use Rattle.tso_state.specs.declared.actor.Actor.TheVariants.{Exec, Drain}
use Rattle.tso_state.specs.contracts.actor.ActorPartialEq.TheImpl as actor_impl

pub actor_exact : IsExact actor_impl.eq-value.it
actor_exact (Exec i) (Exec j) = (λ h. ap Exec ((Decides-eqb i j).0 (and_parts _ _ h).0), λ e. and_from _ _ ((Decides-eqb i j).1 (let k : i ≡ j = cc in k)) refl)
actor_exact (Exec i) (Drain j) = (λ h. absurd (false≢true (and_parts _ _ h).1), λ e. cc)
actor_exact (Drain i) (Exec j) = (λ h. absurd (false≢true (and_parts _ _ h).1), λ e. cc)
actor_exact (Drain i) (Drain j) = (λ h. ap Drain ((Decides-eqb i j).0 (and_parts _ _ h).0), λ e. and_from _ _ ((Decides-eqb i j).1 (let k : i ≡ j = cc in k)) refl)
