-- What kind of thing an action is: what it has to do with memory, with its own buffer and with its call.
use Rattle.std.specs.Prelude.{ℕ, nat_lt, not, Bool, true, Option, None, Some}
use Rattle.tso_machine.specs.Activations.{Activation}
use Rattle.tso_machine.specs.declared.kinds.ActionKind.{ActionKind}
use Rattle.tso_machine.specs.declared.kinds.ActionKind.TheVariants as kinds
use Rattle.tso_model.specs.Programs.{Action, Silent, Load, Store, Barrier, Locked, Ret, Fail, Cut}

abbrev pub kind_of_action : Action Activation → ActionKind
kind_of_action (Silent a) = kinds.Local
kind_of_action (Load place after) = kinds.Load place
kind_of_action (Store place word a) = kinds.Local
kind_of_action (Barrier a) = kinds.Barrier
kind_of_action (Locked place new after) = kinds.Locked place
kind_of_action (Ret answer) = kinds.Return
kind_of_action (Fail fault) = kinds.Local
kind_of_action Cut = kinds.Cut

-- a back jump that was taken so often is at its bound; so is one that has no count
abbrev pub is_spent : ℕ → Option ℕ → Bool
is_spent bound None = true
is_spent bound (Some count) = not (nat_lt count bound)
