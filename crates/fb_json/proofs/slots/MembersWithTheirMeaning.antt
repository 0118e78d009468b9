-- A look-up by name gives the member that is found, with its meaning.
use Rattle.std.proofs.Common.{◌≡◌, Bool, Option, Some, option_map, Ordering, Equal, nat_cmp, refl}
use Rattle.std.specs.Ordering.{match_ordering}
use Rattle.std.specs.Cmp.Lexicographic.{slice_cmp}
use Rattle.serde_json.specs.Data.{Data, Members, no_members, member}
use Rattle.serde_json.specs.Find.{get_member}
use Rattle.fb_schema.specs.Schema.{Name}
use Rattle.fb_layout.specs.Laid.{LaidSchema}
use Rattle.fb_json.specs.Meant.{Meaner, meant, look}

-- a member, and what it gives
abbrev pub with_meaning : LaidSchema → Bool → Data → Data × Meaner
with_meaning L unknown d = (d, meant L unknown d)

picked : (L : LaidSchema) (unknown : Bool) (o : Ordering) (d : Data) (rest : Option Data)
    (more : Option (Data × Meaner)) → more ≡ option_map (with_meaning L unknown) rest
    → match_ordering o more (Some (with_meaning L unknown d)) more
    ≡ option_map (with_meaning L unknown) (match_ordering o rest (Some d) rest)
picked L unknown Equal d rest more h = refl
picked L unknown _ d rest more h = h

pub looked : (L : LaidSchema) (unknown : Bool) (ms : Members) (k : Name)
    → look L unknown ms k ≡ option_map (with_meaning L unknown) (get_member k ms)
looked L unknown no_members k = refl
looked L unknown (member l d ms) k = picked L unknown (slice_cmp nat_cmp k l) d (get_member k ms) (look L unknown ms k)
    (looked L unknown ms k)
