-- The faults of a JSON text: number, name and place.
use Rattle.std.specs.Prelude.{ℕ, List, Option, None, Some, codes}
use Rattle.fb_json.specs.declared.faults.Place.{Place}
use Rattle.fb_json.specs.declared.faults.JsonFault.{JsonFault}
use Rattle.fb_json.specs.declared.faults.JsonFault.TheVariants.{WrongShape, NotWhole, OutOfRange, UnknownName}
use Rattle.fb_json.specs.declared.faults.JsonFault.TheVariants.{UnknownMember, MissingMember, MissingRequired}
use Rattle.fb_json.specs.declared.faults.JsonFault.TheVariants.{UnionMismatch, TooDeep, TooManyCells, Memory}

-- the number of the rule, which no other fault has, and the name of the variant
abbrev pub row_of : JsonFault → ℕ × List ℕ
row_of (WrongShape at) = (70, codes "WrongShape")
row_of (NotWhole at) = (71, codes "NotWhole")
row_of (OutOfRange at) = (72, codes "OutOfRange")
row_of (UnknownName at) = (73, codes "UnknownName")
row_of (UnknownMember at) = (74, codes "UnknownMember")
row_of (MissingMember at) = (75, codes "MissingMember")
row_of (MissingRequired at) = (76, codes "MissingRequired")
row_of (UnionMismatch at) = (77, codes "UnionMismatch")
row_of (TooDeep at) = (78, codes "TooDeep")
row_of (TooManyCells at) = (79, codes "TooManyCells")
row_of Memory = (80, codes "Memory")

abbrev pub number_of : JsonFault → ℕ
number_of f = (row_of f).0

abbrev pub name_of : JsonFault → List ℕ
name_of f = (row_of f).1

-- where the rule is broken; running out of memory has no place
abbrev pub place_of : JsonFault → Option Place
place_of (WrongShape at) = Some at
place_of (NotWhole at) = Some at
place_of (OutOfRange at) = Some at
place_of (UnknownName at) = Some at
place_of (UnknownMember at) = Some at
place_of (MissingMember at) = Some at
place_of (MissingRequired at) = Some at
place_of (UnionMismatch at) = Some at
place_of (TooDeep at) = Some at
place_of (TooManyCells at) = Some at
place_of Memory = None
