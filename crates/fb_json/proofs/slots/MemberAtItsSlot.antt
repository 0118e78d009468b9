-- What is at a slot is what a look-up of the slot's name finds.
use Rattle.std.proofs.Common.{◌≡◌, ◌∙◌, ℕ, ◌<◌, List, Bool, Option, None, Some, Bor, length, option_map, slice_get}
use Rattle.std.proofs.Common.{map, get_or, ap, sym, refl}
use Rattle.std.proofs.lemmas.Option.{slice_get-map}
use Rattle.serde_json.specs.declared.value.Value.{Value}
use Rattle.serde_json.specs.Data.{Members}
use Rattle.serde_json.specs.Find.{get_member}
use Rattle.fb_schema.specs.declared.types.FieldInfo.{FieldInfo}
use Rattle.fb_schema.specs.Schema.{Name, DeclaredField}
use Rattle.fb_schema.specs.Seen.{field_seen}
use Rattle.fb_layout.specs.Laid.{LaidSchema}
use Rattle.fb_json.specs.Meant.{look}
use Rattle.fb_json.specs.SlotMembers.{AreMembersOf, looked_up, tree_seen}
use Rattle.fb_json.proofs.slots.OneSlotOrFieldMore.{slot_at}
use Rattle.fb_json.proofs.slots.MembersWithTheirMeaning.{looked}
use Rattle.fb_json.proofs.slots.MembersWithTheirMeaning.{with_meaning}

meaning_of : (L : LaidSchema) (unknown : Bool) (r : Option (Bor Value))
    → option_map (with_meaning L unknown) (tree_seen r) ≡ looked_up L unknown r
meaning_of L unknown None = refl
meaning_of L unknown (Some t) = refl

pub looked_up_by : (L : LaidSchema) (unknown : Bool) (ms : Members) (name : Name) (r : Option (Bor Value))
    → get_member name ms ≡ tree_seen r → look L unknown ms name ≡ looked_up L unknown r
looked_up_by L unknown ms name r found =
    looked L unknown ms name ∙ (ap (option_map (with_meaning L unknown)) found ∙ meaning_of L unknown r)

module _ (trees : List (Option (Bor Value))) (fs : List DeclaredField) (ms : Members)
    (are : AreMembersOf trees fs ms) (k : ℕ) (f : DeclaredField) (slot : slice_get fs k ≡ Some f)
    (r : Option (Bor Value)) where
  pub member_at : slice_get trees k ≡ Some r → get_member f.name ms ≡ tree_seen r
  member_at there =
      let seen : Some (tree_seen r) ≡ Some (get_member f.name ms) =
      sym (slice_get-map tree_seen trees k ∙ ap (option_map tree_seen) there) ∙ are.each k f slot in
      let same : tree_seen r ≡ get_member f.name ms = cc in
      sym same

  pub looked_up_at : (L : LaidSchema) (unknown : Bool) → slice_get trees k ≡ Some r
      → look L unknown ms f.name ≡ looked_up L unknown r
  looked_up_at L unknown there = looked_up_by L unknown ms f.name r (member_at there)

-- the same in a loop over the slots
pub looked_up_in : (trees : List (Option (Bor Value))) (slots : List FieldInfo) (ms : Members)
    → AreMembersOf trees (map field_seen slots) ms → (k : ℕ) (slot : FieldInfo) → k < length slots
    → slot ≡ get_or slots k slot → (r : Option (Bor Value)) → slice_get trees k ≡ Some r
    → (L : LaidSchema) (unknown : Bool) → look L unknown ms (field_seen slot).name ≡ looked_up L unknown r
looked_up_in trees slots ms are k slot within is r there L unknown =
    looked_up_at trees (map field_seen slots) ms are k (field_seen slot) (slot_at slots k slot within is) r L unknown
    there
