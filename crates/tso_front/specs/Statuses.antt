-- The status with which a program ends.
use Rattle.std.specs.Prelude.{ℕ}
use Rattle.tso_front.specs.declared.failure.Failure.{Failure}
use Rattle.tso_front.specs.declared.failure.Failure.TheVariants.{Usage, NotText, Program, Trace, Limit, CannotRead, CannotWrite, CannotPrint, Memory}

-- where it does not succeed
abbrev pub status_of : Failure → ℕ
status_of (Program fault) = 2
status_of (Trace fault) = 3
status_of Limit = 4
status_of Memory = 5
status_of (CannotRead path) = 6
status_of (CannotWrite path) = 6
status_of CannotPrint = 6
status_of (Usage text) = 64
status_of NotText = 64
