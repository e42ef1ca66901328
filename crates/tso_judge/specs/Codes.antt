-- The codes of refused certificates: their numbers, by which they are ordered, and how they are printed.
use Rattle.std.specs.Prelude.{ℕ, ◌/◌, ◌%◌, List, ◌++◌, codes, decimal}
use Rattle.tso_judge.specs.declared.code.Code.{Code}
use Rattle.tso_judge.specs.declared.code.Code.TheVariants as faults

abbrev pub code_number : Code → ℕ
code_number faults.K01 = 1
code_number faults.K02 = 2
code_number faults.K03 = 3
code_number faults.K04 = 4
code_number faults.K05 = 5
code_number faults.K06 = 6
code_number faults.K07 = 7
code_number faults.K08 = 8
code_number faults.K09 = 9
code_number faults.K10 = 10
code_number faults.K11 = 11
code_number faults.K12 = 12

-- K and the number in two digits
abbrev pub code_text : Code → List ℕ
code_text code = codes "K" ++ (decimal (code_number code / 10) ++ decimal (code_number code % 10))
