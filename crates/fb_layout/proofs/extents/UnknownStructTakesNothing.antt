-- What is known of a kind is what it takes: a struct that isn't known takes nothing.
use Rattle.std.proofs.Common.{◌≡◌, ℕ, zero, suc, [], ◌∷◌, map, Option, None, Some, slice_get, slice_index_or, refl, sym}
use Rattle.std.proofs.Common.{ap, ◌∙◌}
use Rattle.std.specs.Option.{option_map_or, unwrap_or}
use Rattle.fb_schema.specs.Schema.{DeclaredSchema}
use Rattle.fb_layout.specs.Laid.{StructLayout, no_struct, StoredKind, scalar_kind, struct_kind, table_kind, union_kind}
use Rattle.fb_layout.specs.Laid.{code_kind, text_kind, size_of, align_of}
use Rattle.fb_layout.specs.Known.{Known, extent_in, extent_of, layout_known}

-- the struct of a number
pub struct_known : (known : Known) (s : ℕ)
    → slice_index_or (map (λ k. unwrap_or k no_struct) known) s no_struct
    ≡ unwrap_or (unwrap_or (slice_get known s) (Some no_struct)) no_struct
struct_known [] s = refl
struct_known (k ∷ ks) zero = refl
struct_known (k ∷ ks) (suc s) = struct_known ks s

align_in : (sizes : Option StructLayout)
    → option_map_or (λ e. e.align) (extent_in sizes) 1 ≡ (unwrap_or sizes no_struct).align
align_in None = refl
align_in (Some s) = refl

pub align_known : (S : DeclaredSchema) (known : Known) (kind : StoredKind)
    → option_map_or (λ e. e.align) (extent_of known kind) 1 ≡ align_of (layout_known S known) kind
align_known S known (scalar_kind base) = refl
align_known S known (struct_kind s) = align_in (unwrap_or (slice_get known s) (Some no_struct))
    ∙ ap (λ (r : StructLayout). r.align) (sym (struct_known known s))
align_known S known (table_kind t) = refl
align_known S known (union_kind u) = refl
align_known S known (code_kind u) = refl
align_known S known text_kind = refl

size_in : (sizes : Option StructLayout)
    → option_map_or (λ e. e.size) (extent_in sizes) 0 ≡ (unwrap_or sizes no_struct).size
size_in None = refl
size_in (Some s) = refl

pub size_known : (S : DeclaredSchema) (known : Known) (kind : StoredKind)
    → option_map_or (λ e. e.size) (extent_of known kind) 0 ≡ size_of (layout_known S known) kind
size_known S known (scalar_kind base) = refl
size_known S known (struct_kind s) = size_in (unwrap_or (slice_get known s) (Some no_struct))
    ∙ ap (λ (r : StructLayout). r.size) (sym (struct_known known s))
size_known S known (table_kind t) = refl
size_known S known (union_kind u) = refl
size_known S known (code_kind u) = refl
size_known S known text_kind = refl
