-- `==` compares the places of two registers in their declaration.
use Rattle.std.proofs.Common.{◌≡◌, ℕ, refl, ap, ◌∙◌}
use lib.Dec.{eqb}
use denote.Enum.Declared.{tag_of}
use Rattle.tso_line.specs.declared.instruction.Register.{Register}
use Rattle.tso_line.specs.declared.instruction.Register.TheVariants.{Rax, Rbx, Rcx, Rdx, Rsi, Rdi, Rbp, R8, R9, R10, R11, R12, R13, R14, R15}
use Rattle.tso_line.specs.contracts.instruction.Register.{the_type}
use Rattle.tso_flow.specs.Accesses.{register_number, is_same}
use Rattle.tso_flow.proofs.access.is_same.Goals as goal

numbered : (r : Register) → tag_of the_type r ≡ register_number r
numbered Rax = refl
numbered Rbx = refl
numbered Rcx = refl
numbered Rdx = refl
numbered Rsi = refl
numbered Rdi = refl
numbered Rbp = refl
numbered R8 = refl
numbered R9 = refl
numbered R10 = refl
numbered R11 = refl
numbered R12 = refl
numbered R13 = refl
numbered R14 = refl
numbered R15 = refl

pub returns : goal.returns
unfolding is_same
returns c =
    c.eq.ensures ∙ (ap (λ (n : ℕ). eqb n (tag_of the_type c.args.b)) (numbered c.args.a) ∙ ap (λ (n : ℕ). eqb (register_number c.args.a) n) (numbered c.args.b))
