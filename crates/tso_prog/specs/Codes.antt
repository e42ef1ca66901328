-- The codes of refusals: their numbers, by which they are ordered, and how a refusal is printed.
use Rattle.std.specs.Prelude.{ℕ, ◌/◌, ◌%◌, List, ◌++◌, codes, decimal}
use Rattle.tso_prog.specs.declared.fault.Code.{Code}
use Rattle.tso_prog.specs.declared.fault.Code.TheVariants as refusals
use Rattle.tso_prog.specs.declared.fault.Fault.{Fault}

abbrev pub code_number : Code → ℕ
code_number refusals.E01 = 1
code_number refusals.E02 = 2
code_number refusals.E03 = 3
code_number refusals.E04 = 4
code_number refusals.E05 = 5
code_number refusals.E06 = 6
code_number refusals.E07 = 7
code_number refusals.E08 = 8
code_number refusals.E09 = 9
code_number refusals.E10 = 10
code_number refusals.E11 = 11
code_number refusals.E12 = 12
code_number refusals.E13 = 13
code_number refusals.E14 = 14

-- E and the number in two digits
abbrev pub code_text : Code → List ℕ
code_text code = codes "E" ++ (decimal (code_number code / 10) ++ decimal (code_number code % 10))

-- the code, and where it stands
abbrev pub fault_text : Fault → List ℕ
fault_text f = code_text f.code ++ (codes " line " ++ decimal f.line)
