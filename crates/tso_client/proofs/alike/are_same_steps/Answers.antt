use Rattle.std.proofs.Common.{refl}
use Rattle.std.proofs.lemmas.Bool.{false≢true}
use Rattle.std.proofs.lemmas.Bool.Decides.{Decides-eqb}
use Rattle.std.proofs.lemmas.Slice.Eq.{slice_eq-Decides}
use Rattle.tso_line.specs.declared.instruction.Instruction.TheVariants as the
use Rattle.tso_list.specs.Same.{same_option, same_two, same_three}
use Rattle.tso_client.proofs.Exactness.{address_exact, comparison_exact, condition_exact, locked_exact, operation_exact, register_exact, same_one, source_exact}
use Rattle.tso_client.proofs.alike.are_same_steps.Goals as goal

pub returns : goal.returns
returns c = slice_eq-Decides (elim [
  | the.Move x y ↦ elim [ the.Move u v ↦ same_two _ _ (register_exact x u) (source_exact y v) (λ p q i. the.Move (p i) (q i)) (λ e. cc) (λ e. cc) | _ ↦ (λ h. absurd (false≢true h), λ e. cc) ]
  | the.Load x y ↦ elim [ the.Load u v ↦ same_two _ _ (register_exact x u) (address_exact y v) (λ p q i. the.Load (p i) (q i)) (λ e. cc) (λ e. cc) | _ ↦ (λ h. absurd (false≢true h), λ e. cc) ]
  | the.Store x y ↦ elim [ the.Store u v ↦ same_two _ _ (address_exact x u) (source_exact y v) (λ p q i. the.Store (p i) (q i)) (λ e. cc) (λ e. cc) | _ ↦ (λ h. absurd (false≢true h), λ e. cc) ]
  | the.Compute x y z ↦ elim [ the.Compute u v w ↦ same_three _ _ _ (operation_exact x u) (register_exact y v) (source_exact z w) (λ p q r i. the.Compute (p i) (q i) (r i)) (λ e. cc) (λ e. cc) (λ e. cc) | _ ↦ (λ h. absurd (false≢true h), λ e. cc) ]
  | the.Compare x y z ↦ elim [ the.Compare u v w ↦ same_three _ _ _ (comparison_exact x u) (register_exact y v) (source_exact z w) (λ p q r i. the.Compare (p i) (q i) (r i)) (λ e. cc) (λ e. cc) (λ e. cc) | _ ↦ (λ h. absurd (false≢true h), λ e. cc) ]
  | the.Increment x ↦ elim [ the.Increment u ↦ same_one _ (register_exact x u) (λ p i. the.Increment (p i)) (λ e. cc) | _ ↦ (λ h. absurd (false≢true h), λ e. cc) ]
  | the.Decrement x ↦ elim [ the.Decrement u ↦ same_one _ (register_exact x u) (λ p i. the.Decrement (p i)) (λ e. cc) | _ ↦ (λ h. absurd (false≢true h), λ e. cc) ]
  | the.Jump x y z ↦ elim [ the.Jump u v w ↦ same_three _ _ _ (same_option condition_exact x u) (Decides-eqb y v) (same_option Decides-eqb z w) (λ p q r i. the.Jump (p i) (q i) (r i)) (λ e. cc) (λ e. cc) (λ e. cc) | _ ↦ (λ h. absurd (false≢true h), λ e. cc) ]
  | the.Assert x ↦ elim [ the.Assert u ↦ same_one _ (condition_exact x u) (λ p i. the.Assert (p i)) (λ e. cc) | _ ↦ (λ h. absurd (false≢true h), λ e. cc) ]
  | the.Locked x y z ↦ elim [ the.Locked u v w ↦ same_three _ _ _ (locked_exact x u) (address_exact y v) (register_exact z w) (λ p q r i. the.Locked (p i) (q i) (r i)) (λ e. cc) (λ e. cc) (λ e. cc) | _ ↦ (λ h. absurd (false≢true h), λ e. cc) ]
  | the.Fence ↦ elim [ the.Fence ↦ (λ h. refl, λ e. refl) | _ ↦ (λ h. absurd (false≢true h), λ e. cc) ]
  | the.Nop ↦ elim [ the.Nop ↦ (λ h. refl, λ e. refl) | _ ↦ (λ h. absurd (false≢true h), λ e. cc) ]
  | the.Pause ↦ elim [ the.Pause ↦ (λ h. refl, λ e. refl) | _ ↦ (λ h. absurd (false≢true h), λ e. cc) ]
  | the.Return ↦ elim [ the.Return ↦ (λ h. refl, λ e. refl) | _ ↦ (λ h. absurd (false≢true h), λ e. cc) ]
]) _ _ _ c.eq.ensures
