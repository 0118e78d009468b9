-- Which number a text names in an enum: that of a value; with `bit_flags` a text names flags, one blank between two,
-- and they are joined by or.
-- From the FlatBuffers documentation, "JSON parsing" and "Writing a schema": Enums, Attributes (`bit_flags`).
use Rattle.std.specs.Prelude.{ℕ, ◌==◌, List, [], ◌∷◌, Bool, false, Option, Some, ℤ, pos, if◌then◌else◌}
use Rattle.std.specs.Int.{int_bit_or, w128}
use Rattle.std.specs.Option.{option_and_then}
use Rattle.fb_schema.specs.Schema.{Name, DeclaredBody, enum_body, DeclaredSchema, body_at}
use Rattle.fb_schema.specs.Paths.{number_by_path}

abbrev pub blank : ℕ
blank = 32

-- a byte in front of the first of some words
abbrev pub with_byte : ℕ → List Name → List Name
with_byte c [] = (c ∷ []) ∷ []
with_byte c (w ∷ ws) = (c ∷ w) ∷ ws

-- what stands between a text's blanks: one word more than there are blanks
unfoldable pub words : List ℕ → List Name
words [] = [] ∷ []
words (c ∷ cs) = if c == blank then [] ∷ words cs else with_byte c (words cs)

-- the flags so far and those of some words, if each word names one
abbrev pub flags_named : (Name → Option ℤ) → ℤ → List Name → Option ℤ
flags_named flag so_far [] = Some so_far
flags_named flag so_far (w ∷ ws) = option_and_then (λ n. flags_named flag (int_bit_or w128 so_far n) ws) (flag w)

abbrev pub has_flags : DeclaredBody → Bool
has_flags (enum_body base flags values) = flags
has_flags _ = false

-- the number that a text names
unfoldable pub number_told : DeclaredSchema → ℕ → List ℕ → Option ℤ
number_told S e text = if has_flags (body_at S e) then flags_named (number_by_path S e) (pos 0) (words text)
    else number_by_path S e text
