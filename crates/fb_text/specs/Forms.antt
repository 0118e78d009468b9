-- The text of a number in the form of its kind.
use Rattle.std.specs.Prelude.{ℤ, pos, List, ℕ, codes, if◌then◌else◌}
use Rattle.std.specs.Fmt.{signed_decimal}
use Rattle.std.specs.Option.{option_map_or}
use Rattle.std.specs.Ordering.{int_eq}
use Rattle.fb_schema.specs.Schema.{body_at}
use Rattle.fb_schema.specs.Found.{name_numbered}
use Rattle.fb_text.specs.Texts.{flags_text, in_quotes}
use Rattle.fb_text.specs.declared.numbers.NumberForm.{NumberForm}
use Rattle.fb_text.specs.declared.numbers.NumberForm.TheVariants.{Boolean, Name, Flags, Digits}

abbrev pub form_text : NumberForm → ℤ → List ℕ
form_text Boolean n = if int_eq n (pos 0) then codes "false" else codes "true"
form_text (Name names) n =
    option_map_or in_quotes (name_numbered (body_at names.schema.now names.enumeration.0) n) (signed_decimal n)
form_text (Flags names) n = flags_text (body_at names.schema.now names.enumeration.0) n
form_text Digits n = signed_decimal n
