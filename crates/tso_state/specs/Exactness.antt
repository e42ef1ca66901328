-- That `==` of cores and of actors is exact.
use Rattle.std.specs.Prelude.{◌≡◌, refl}
use Rattle.std.proofs.Common.{ap}
use Rattle.std.proofs.lemmas.Bool.{false≢true}
use Rattle.tso_list.specs.Same.{IsExact}
use Rattle.tso_machine.specs.Exactness.{frame_exact}
use Rattle.tso_state.specs.declared.state.Core.TheVariants.{Idle, Running, Stopped}
use Rattle.tso_state.specs.contracts.state.CorePartialEq.TheImpl as core_impl

pub core_exact : IsExact core_impl.eq-value.it
core_exact Idle Idle = (λ h. refl, λ e. refl)
core_exact Idle (Running g) = (λ h. absurd (false≢true h), λ e. cc)
core_exact Idle Stopped = (λ h. absurd (false≢true h), λ e. cc)
core_exact (Running f) Idle = (λ h. absurd (false≢true h), λ e. cc)
core_exact (Running f) (Running g) = (λ h. ap Running ((frame_exact f g).0 h), λ e. (frame_exact f g).1 (let k : f ≡ g = cc in k))
core_exact (Running f) Stopped = (λ h. absurd (false≢true h), λ e. cc)
core_exact Stopped Idle = (λ h. absurd (false≢true h), λ e. cc)
core_exact Stopped (Running g) = (λ h. absurd (false≢true h), λ e. cc)
core_exact Stopped Stopped = (λ h. refl, λ e. refl)
