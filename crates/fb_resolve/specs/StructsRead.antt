-- The fields and the alignment of a struct as it is declared.
-- From the FlatBuffers documentation, "Writing a schema": Structs, Attributes (`force_align`);
-- "FlatBuffer Internals": Structs.
use Rattle.std.specs.Prelude.{ℕ, ◌+◌, false, List, [], ◌∷◌, map, Option, None, Some, ℤ, pos, negsuc, slice_index}
use Rattle.std.specs.Prelude.{if◌then◌else◌}
use Rattle.std.specs.Option.{option_map_or, unwrap_or, option_and_then}
use Rattle.fb_syntax.specs.declared.declarations.FieldType.{FieldType}
use Rattle.fb_syntax.specs.declared.declarations.FieldType.TheVariants.{One}
use Rattle.fb_schema.specs.Schema.{DeclaredField}
use Rattle.fb_schema.specs.Alignments.{base_size, greatest_in}
use Rattle.fb_resolve.specs.Outline.{TypeRead}
use Rattle.fb_resolve.specs.ResolvedFields.{ResolvedField, ResolvedTable}
use Rattle.fb_resolve.specs.ResolvedType.{ResolvedType}
use Rattle.fb_resolve.specs.declared.resolved.ResolvedDecl.{ResolvedDecl}
use Rattle.fb_resolve.specs.declared.resolved.ResolvedDecl.TheVariants as resolved
use Rattle.fb_resolve.specs.Attributes.{is_alignment}
use Rattle.fb_resolve.specs.EnumValues.{underlying_at}
use Rattle.fb_resolve.specs.SlotsRead.{shape_of}
use Rattle.fb_schema.specs.declared.kinds.Kind.TheVariants.{Scalar, Enum, Struct}
use Rattle.fb_resolve.specs.declared.meanings.Meaning.{Meaning}
use Rattle.fb_resolve.specs.declared.meanings.Meaning.TheVariants.{Known}

-- The alignment that a field of a struct needs, where these are the alignments of the types before
-- it; 0 for a type at fault.
abbrev pub align_by : List TypeRead → List ℕ → FieldType → Meaning → ℕ
align_by types lower (One n) (Known (Scalar base)) = base_size base
align_by types lower (One n) (Known (Enum e)) = option_map_or base_size (underlying_at types e.0) 0
align_by types lower (One n) (Known (Struct t)) = slice_index lower t.0
align_by types lower _ _ = 0

unfoldable pub align_in : List TypeRead → List ℕ → ResolvedField → ℕ
align_in types lower r = align_by types lower r.field.kind r.meaning

unfoldable pub natural_align : List TypeRead → List ℕ → List ResolvedField → ℕ
natural_align types lower rs = greatest_in (map (align_in types lower) rs)

abbrev pub alignment_in : ℕ → ℤ → Option ℕ
alignment_in least (pos n) = if is_alignment least (pos n) then Some n else None
alignment_in least (negsuc n) = None

-- the alignment that the integer of a `force_align` names, if that is a right one
unfoldable pub forced_align : ℕ → Option ℤ → Option ℕ
forced_align least number = option_and_then (alignment_in least) number

abbrev pub natural_of_declaration : List TypeRead → List ℕ → ResolvedDecl → ℕ
natural_of_declaration types lower (resolved.Struct s) = natural_align types lower s.fields
natural_of_declaration types lower _ = 0

-- the natural alignment of a type, 0 of what is no struct
abbrev pub natural_of_type : List TypeRead → List ℕ → ResolvedType → ℕ
natural_of_type types lower r = natural_of_declaration types lower r.declaration

-- the alignment of a struct with these types before it
abbrev pub align_of_struct : List TypeRead → List ℕ → ResolvedTable → ℕ
align_of_struct types lower s = let natural = natural_align types lower s.fields in
    unwrap_or (forced_align natural s.force_align) natural

abbrev pub align_of_declaration : List TypeRead → List ℕ → ResolvedDecl → ℕ
align_of_declaration types lower (resolved.Struct s) = align_of_struct types lower s
align_of_declaration types lower _ = 0

-- the alignment of a type, 0 of what is no struct
unfoldable pub align_of_type : List TypeRead → List ℕ → ResolvedType → ℕ
align_of_type types lower r = align_of_declaration types lower r.declaration

-- a field of a struct, with its number
abbrev pub part_read : ResolvedField → ℕ → DeclaredField
part_read r k = record {
  name = r.field.name.bytes;
  shape = shape_of r.field.kind r.meaning;
  default = pos 0;
  optional = false;
  required = false;
  deprecated = false;
  slot = k;
}

-- the fields of a struct, with their numbers from this one on
unfoldable pub parts_from : ℕ → List ResolvedField → List DeclaredField
parts_from k [] = []
parts_from k (r ∷ rs) = part_read r k ∷ parts_from (k + 1) rs
