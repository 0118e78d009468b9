-- A table has as many slots as fields were read for them.
use Rattle.std.proofs.Common.{◌≡◌, ◌∙◌, ℕ, List, length, map, ap, sym}
use Rattle.std.proofs.lemmas.List.{length-map}
use Rattle.fb_schema.specs.Schema.{body_at, slots_in}
use Rattle.fb_schema.specs.Seen.{field_seen}
use Rattle.fb_schema.specs.declared.types.FieldInfo.{FieldInfo}
use Rattle.fb_layout.specs.Laid.{LaidSchema, slot_of, slots_of}
use Rattle.fb_layout.specs.Seen.{slots_seen}

pub seen_long : (L : LaidSchema) (fs : List FieldInfo) → length (slots_seen L fs) ≡ length fs
seen_long L fs = length-map (map field_seen fs) (slot_of L.schema) ∙ length-map fs field_seen

pub slots_long : (L : LaidSchema) (t : ℕ) (fs : List FieldInfo) → map field_seen fs ≡ slots_in (body_at L.schema t)
    → length (slots_of L t) ≡ length fs
slots_long L t fs seen = ap (λ gs. length (map (slot_of L.schema) gs)) (sym seen) ∙ seen_long L fs
