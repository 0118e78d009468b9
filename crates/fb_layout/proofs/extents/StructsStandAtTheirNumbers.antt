-- What is found at a number among the structs so far is what is known there.
use Rattle.std.proofs.Common.{◌≡◌, ℕ, Bor, List, length, get_or, Option, Some, slice_get, is_some, nat_lt, ap, sym, ◌∙◌}
use Rattle.std.specs.Option.{option_copied, option_map, unwrap_or, IfSome}
use Rattle.std.proofs.lemmas.Option.{slice_get-map}
use Rattle.fb_schema.proofs.Got.{got}
use Rattle.fb_layout.specs.declared.extents.StructSizes.{StructSizes}
use Rattle.fb_layout.specs.Laid.{StructLayout, no_struct}
use Rattle.fb_layout.specs.Known.{sizes_seen, structs_seen}

-- what is known of a struct: one past the end is none
abbrev pub known_of : Option (Bor (Option StructSizes)) → Option StructLayout
known_of o = unwrap_or (option_map (option_map sizes_seen) (option_copied o)) (Some no_struct)

pub known_there : (structs : List (Option StructSizes)) (s : ℕ) (o : Option (Bor (Option StructSizes)))
    → is_some o ≡ nat_lt s (length structs) → IfSome o (λ x. x.now ≡ get_or structs s x.now)
    → known_of o ≡ unwrap_or (slice_get (structs_seen structs) s) (Some no_struct)
known_there structs s o found at =
    ap (λ (k : Option (Option StructSizes)). unwrap_or (option_map (option_map sizes_seen) k) (Some no_struct))
    (got structs s o found at)
    ∙ ap (λ (k : Option (Option StructLayout)). unwrap_or k (Some no_struct))
    (sym (slice_get-map (option_map sizes_seen) structs s))
