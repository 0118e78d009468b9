-- The faults of texts and of writing: number, name, and what they say.
use Rattle.std.specs.Prelude.{ℕ, List, Option, None, Some, codes}
use Rattle.fb_json.specs.declared.faults.Place.{Place}
use Rattle.fb_text.specs.declared.faults.TextFault.{TextFault}
use Rattle.fb_text.specs.declared.faults.TextFault.TheVariants.{NoMemberName as TextNoMemberName, Memory}
use Rattle.fb_text.specs.declared.faults.WriteFault.{WriteFault}
use Rattle.fb_text.specs.declared.faults.WriteFault.TheVariants.{NoMemberName, WriteFailed}

-- the number of the rule, which no other fault has, and the name of the variant
abbrev pub row_of : WriteFault → ℕ × List ℕ
row_of (NoMemberName at) = (81, codes "NoMemberName")
row_of (WriteFailed n) = (82, codes "WriteFailed")

abbrev pub number_of : WriteFault → ℕ
number_of f = (row_of f).0

abbrev pub name_of : WriteFault → List ℕ
name_of f = (row_of f).1

abbrev pub place_of : WriteFault → Option Place
place_of (NoMemberName at) = Some at
place_of (WriteFailed n) = None

abbrev pub written_of : WriteFault → Option ℕ
written_of (NoMemberName at) = None
written_of (WriteFailed n) = Some n

-- the same of why a value has no text
abbrev pub text_row_of : TextFault → ℕ × List ℕ
text_row_of (TextNoMemberName at) = (81, codes "NoMemberName")
text_row_of Memory = (84, codes "Memory")

abbrev pub text_number_of : TextFault → ℕ
text_number_of f = (text_row_of f).0

abbrev pub text_name_of : TextFault → List ℕ
text_name_of f = (text_row_of f).1

abbrev pub text_place_of : TextFault → Option Place
text_place_of (TextNoMemberName at) = Some at
text_place_of Memory = None
