-- Why no buffer is built: number and name.
use Rattle.std.specs.Prelude.{ℕ, List, codes}
use Rattle.fb_build.specs.declared.faults.BuildFault.{BuildFault}
use Rattle.fb_build.specs.declared.faults.BuildFault.TheVariants.{TooBig, Memory}

-- the number of the rule, which no other fault has, and the name of the variant
abbrev pub row_of : BuildFault → ℕ × List ℕ
row_of TooBig = (40, codes "TooBig")
row_of Memory = (41, codes "Memory")

abbrev pub number_of : BuildFault → ℕ
number_of f = (row_of f).0

abbrev pub name_of : BuildFault → List ℕ
name_of f = (row_of f).1
