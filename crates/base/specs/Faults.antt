-- The numbers of the faults.
use Rattle.std.specs.Prelude.{ℕ}
use Rattle.base.specs.declared.Fault.{Fault}
use Rattle.base.specs.declared.Fault.TheVariants.{NoWord, NotAllowed, Undeclared, Repeated, NotWanted, LabelRepeated, NoCycle, WrongReturn, OverLimit, Contradicts}

-- the number that stands for a fault in an answer
abbrev pub fault_number : Fault → ℕ
fault_number NoWord = 1
fault_number NotAllowed = 2
fault_number Undeclared = 3
fault_number Repeated = 4
fault_number NotWanted = 5
fault_number LabelRepeated = 6
fault_number NoCycle = 7
fault_number WrongReturn = 8
fault_number OverLimit = 9
fault_number Contradicts = 45
