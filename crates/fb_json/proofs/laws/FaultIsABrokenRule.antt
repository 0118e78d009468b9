-- A fault of a tree is a rule that it breaks.
use Rattle.std.proofs.Common.{◌≡◌, ◌∙◌, ◌⊎◌, inl, inr, ℕ, zero, suc, ◌+◌, ◌||◌, List, [], ◌∷◌, Bool, true, false}
use Rattle.std.proofs.Common.{Option, Some, None, option_map, slice_get, Ok, Err, if◌then◌else◌, Less, Equal, Greater}
use Rattle.std.proofs.Common.{refl, ap, subst, arith}
use Rattle.std.proofs.lemmas.Option.{same_Some}
use Rattle.std.specs.Ordering.{nat_cmp, match_ordering}
use Rattle.std.specs.Cmp.Lexicographic.{slice_cmp}
use Rattle.serde_json.specs.Data.{Data, null, boolean, number, string, array, object, Items, no_items, item, Members}
use Rattle.serde_json.specs.Data.{no_members, member}
use Rattle.serde_json.specs.Find.{get_member, get_item}
use Rattle.fb_schema.specs.declared.kinds.Base.TheVariants.{Bool as Boolean}
use Rattle.fb_schema.specs.declared.kinds.TypeId.{TypeId}
use Rattle.fb_schema.specs.declared.kinds.Kind.{Kind}
use Rattle.fb_schema.specs.declared.kinds.Kind.TheVariants.{Scalar, Enum, Struct, Table, Union, Code, Text}
use Rattle.fb_schema.specs.declared.kinds.Shape.{Shape}
use Rattle.fb_schema.specs.declared.kinds.Shape.TheVariants.{One, Many}
use Rattle.fb_schema.specs.Schema.{Name, DeclaredField, body_at, slots_in, parts_in as fields_of_struct}
use Rattle.fb_layout.specs.Laid.{LaidSchema}
use Rattle.fb_value.specs.Datum.{Datum}
use Rattle.fb_json.specs.declared.faults.Place.{Place}
use Rattle.fb_json.specs.declared.faults.JsonFault.{JsonFault}
use Rattle.fb_json.specs.declared.faults.JsonFault.TheVariants.{WrongShape, UnknownMember, MissingMember, TooDeep}
use Rattle.fb_json.specs.Outcome.{Counted, spent}
use Rattle.fb_json.specs.Meant.{Meaner, type_place, slot_place, names_known, if_known, present, code_in, code_after}
use Rattle.fb_json.specs.Meant.{used_meant, entry_meant, slots_meant, table_meant, part_meant, parts_meant}
use Rattle.fb_json.specs.Meant.{struct_meant, object_meant, vector_meant, meant, items_meant, look}
use Rattle.fb_json.specs.Meant.{count as items_count}
use Rattle.fb_json.specs.Means.{member_called, CodeAt}
use Rattle.fb_json.specs.Breaks.{may_be, ToldBreaks, ToldBehind, EntryBreaks, slots_at, parts_at, IsSlot, Breaks}
use Rattle.fb_json.specs.Breaks.{unknown_in_table, unknown_in_struct, in_code, in_entry, in_slot, in_member}
use Rattle.fb_json.specs.Breaks.{missing_part, in_part, in_element}
use Rattle.fb_json.specs.Laws.{IsLimit}
use Rattle.fb_json.proofs.laws.EachStepOfABindSucceeds.{bind_err}
use Rattle.fb_json.proofs.slots.LookUpFindsMembers.{found_in}
use Rattle.fb_json.proofs.laws.ComputedEntryIsMeant.{present_is, code_ok}
use Rattle.fb_json.proofs.laws.FaultOfALeafIsABrokenRule.{err_inj, no_err, Refused, wrong, spent_limit, own}
use Rattle.fb_json.proofs.laws.FaultOfALeafIsABrokenRule.{leaf_broken, BrokenAt}
use Rattle.fb_json.proofs.laws.FaultOfAnEntryIsABrokenRule.{Inner, Entry, used_broken, told_at}
use Rattle.fb_json.proofs.slots.MembersWithTheirMeaning.{looked}
use Rattle.fb_json.proofs.slots.MembersWithTheirMeaning.{with_meaning}

module _ (L : LaidSchema) (unknown : Bool) (ms : Members) (broken : (k : Name) (t : Data) → get_member k ms ≡ Some t
    → BrokenAt L unknown t) where
  -- a code that is wrong, at a slot in use
  abbrev WrongCode : DeclaredField → Place → JsonFault → Type 0
  WrongCode s at f = (u : TypeId) × (t : Data) × (s.shape ≡ One (Code u)) × (get_member s.name ms ≡ Some t)
      × ToldBreaks L.schema u.0 t at f

  code_by : (s : DeclaredField) (at : Place) (before : ℕ) (deprecated : Bool) (shape : Shape) (f : JsonFault)
      → s.shape ≡ shape → code_after L.schema (look L unknown ms) at before deprecated s.name shape ≡ Err f
      → (deprecated ≡ false) × WrongCode s at f
  unfolding code_after
  code_by s at before false (One (Code u)) f is h =
      let P : Option (Data × Meaner) → Type 0 = λ o. code_in L.schema u.0 at o ≡ Err f in
      let got = told_at L unknown (get_member s.name ms) u.0 at f (subst P (looked L unknown ms s.name) h) in
      (refl, (u, got.0, is, got.1, got.2))
  code_by s at before true shape f is h = absurd (no_err before f h)
  code_by s at before false _ f is h = absurd (no_err before f h)

  abbrev EntryAt : DeclaredField → ℕ → Place → JsonFault → Type 0
  EntryAt s c at f = Entry L unknown s c (member_called s.name ms) s.shape at f

  entry_by : (s : DeclaredField) (at : Place) (c levels left : ℕ) (deprecated : Bool) (f : JsonFault)
      → ◌≡◌ {A = Counted (Option Datum)}
      (if deprecated then Ok (None, left) else used_meant L s c (present (look L unknown ms s.name)) at levels left
      s.shape) (Err f) → (deprecated ≡ false) × EntryAt s c at f
  entry_by s at c levels left true f h = absurd (no_err _ f h)
  entry_by s at c levels left false f h =
      let is : present (look L unknown ms s.name) ≡ option_map (meant L unknown) (member_called s.name ms) =
      ap present (looked L unknown ms s.name) ∙ present_is L unknown (get_member s.name ms) in
      let P : Option Meaner → Type 0 = λ m. used_meant L s c m at levels left s.shape ≡ Err f in (
        refl,
        used_broken L unknown s c (member_called s.name ms) at levels left s.shape f refl
            (λ t has. broken s.name t (found_in (get_member s.name ms) t has)) (subst P is h),
      )

  entry_broken : (s : DeclaredField) (at : Place) (c levels left : ℕ) (f : JsonFault)
      → entry_meant L (look L unknown ms) s at c levels left ≡ Err f → (s.deprecated ≡ false) × EntryAt s c at f
  unfolding entry_meant
  entry_broken s at c levels left f h = entry_by s at c levels left s.deprecated f h

  -- the slot at fault among these, which begin at slot k behind the code that was told
  pub record SlotFault (id k before : ℕ) (fs : List DeclaredField) (f : JsonFault) : Type 0 where
    pub index : ℕ
    pub slot : DeclaredField
    pub stands : slice_get fs index ≡ Some slot
    pub used : slot.deprecated ≡ false
    pub why : WrongCode slot (slot_place id (k + index)) f
        ⊎ ((c : ℕ) × ToldBehind L.schema ms before fs index c
        × (EntryBreaks L slot c (member_called slot.name ms) (slot_place id (k + index)) f
        ⊎ Inner L unknown slot.shape c (member_called slot.name ms) (slot_place id (k + index)) f))

  first_at : (id k before c : ℕ) (s : DeclaredField) (fs : List DeclaredField) (f : JsonFault) → s.deprecated ≡ false
      → CodeAt L.schema ms s s.deprecated s.shape before c → EntryAt s c (slot_place id k) f
      → IsLimit f ⊎ SlotFault id k before (s ∷ fs) f
  first_at id k before c s fs f used told (inl limit) = inl limit
  first_at id k before c s fs f used told (inr why) =
      let same : k ≡ k + 0 = omega arith in
      let P : ℕ → Type 0 = λ n. EntryBreaks L s c (member_called s.name ms) (slot_place id n) f
      ⊎ Inner L unknown s.shape c (member_called s.name ms) (slot_place id n) f in
      inr (record { index = 0; slot = s; stands = refl; used = used; why = inr (c, told, subst P same why) })

  later_at : (id k before c : ℕ) (s : DeclaredField) (fs : List DeclaredField) (f : JsonFault)
      → CodeAt L.schema ms s s.deprecated s.shape before c → IsLimit f ⊎ SlotFault id (k + 1) c fs f
      → IsLimit f ⊎ SlotFault id k before (s ∷ fs) f
  later_at id k before c s fs f told (inl limit) = inl limit
  later_at id k before c s fs f told (inr at) =
      let same : (k + 1) + at.index ≡ k + suc at.index = omega arith in
      let W : ℕ → Type 0 = λ n. WrongCode at.slot (slot_place id n) f
      ⊎ ((b : ℕ) × ToldBehind L.schema ms before (s ∷ fs) (suc at.index) b
      × (EntryBreaks L at.slot b (member_called at.slot.name ms) (slot_place id n) f
      ⊎ Inner L unknown at.slot.shape b (member_called at.slot.name ms) (slot_place id n) f)) in
      let why : W ((k + 1) + at.index) =
      elim at.why as (λ _. W ((k + 1) + at.index)) [ inl code ↦ inl code | inr x ↦ inr (x.0, (c, told, x.1), x.2) ]
      in
      inr (record { index = suc at.index; slot = at.slot; stands = at.stands; used = at.used; why = subst W same why })

  slots_broken : (fs : List DeclaredField) (id k before levels left : ℕ) (f : JsonFault)
      → slots_meant L (look L unknown ms) id fs k before levels left ≡ Err f → IsLimit f ⊎ SlotFault id k before fs f
  unfolding slots_meant
  slots_broken [] id k before levels left f h = absurd (no_err _ f h)
  slots_broken (s ∷ fs) id k before levels left f h =
      elim (bind_err (code_after L.schema (look L unknown ms) (slot_place id k) before s.deprecated s.name s.shape) _ f
      h) as (λ _. IsLimit f ⊎ SlotFault id k before (s ∷ fs) f) [
        | inl e ↦
            let got = code_by s (slot_place id k) before s.deprecated s.shape f refl e in
            let same : k ≡ k + 0 = omega arith in
            let P : ℕ → Type 0 = λ n. WrongCode s (slot_place id n) f in
            inr (record { index = 0; slot = s; stands = refl; used = got.0; why = inl (subst P same got.1) })
        | inr x ↦
            let told = code_ok L unknown ms s (slot_place id k) before x.0 s.deprecated s.shape x.1 in
            elim (bind_err (entry_meant L (look L unknown ms) s (slot_place id k) x.0 levels left) _ f x.2) as
            (λ _. IsLimit f ⊎ SlotFault id k before (s ∷ fs) f) [
              | inl e ↦ let got = entry_broken s (slot_place id k) x.0 levels left f e in
                  first_at id k before x.0 s fs f got.0 told got.1
              | inr y ↦
                  elim (bind_err (slots_meant L (look L unknown ms) id fs (k + 1) x.0 levels y.0.1) _ f y.2) as
                  (λ _. IsLimit f ⊎ SlotFault id k before (s ∷ fs) f) [
                    | inl e ↦ later_at id k before x.0 s fs f told (slots_broken fs id (k + 1) x.0 levels y.0.1 f e)
                    | inr z ↦ absurd (no_err _ f z.2)
                  ]
            ]
      ]

  both_false : (b c : Bool) → (b || c) ≡ false → (b ≡ false) × (c ≡ false)
  both_false false c h = (refl, h)
  both_false true c h = cc

  unknown_by : (b : Bool) (at : Place) (f : JsonFault) → if_known b at ≡ Err f → (b ≡ false) × (UnknownMember at ≡ f)
  unknown_by true at f h = absurd (no_err _ f h)
  unknown_by false at f h = (refl, err_inj {A = Unit {0}} (UnknownMember at) f h)

  slot_broken : (id : TypeId) (at : Place) (f : JsonFault) → IsLimit f ⊎ SlotFault id.0 0 0 (slots_at L id) f
      → Refused L unknown (object ms) (One (Table id)) at f
  slot_broken id at f (inl limit) = inl limit
  slot_broken id at f (inr found) =
      let same : 0 + found.index ≡ found.index = omega arith in
      let slot : IsSlot L id found.index found.slot = record { stands = found.stands; used = found.used } in
      let W : ℕ → Type 0 = λ n. WrongCode found.slot (slot_place id.0 n) f
      ⊎ ((b : ℕ) × ToldBehind L.schema ms 0 (slots_at L id) found.index b
      × (EntryBreaks L found.slot b (member_called found.slot.name ms) (slot_place id.0 n) f
      ⊎ Inner L unknown found.slot.shape b (member_called found.slot.name ms) (slot_place id.0 n) f)) in
      elim (subst W same found.why) as (λ _. Refused L unknown (object ms) (One (Table id)) at f) [
        | inl code ↦ inr (in_code ms id at found.index found.slot code.0 code.1 f slot code.2 code.3 code.4)
        | inr x ↦ elim x.2 as (λ _. Refused L unknown (object ms) (One (Table id)) at f) [
          | inl entry ↦ inr (in_entry ms id at found.index found.slot x.0 f slot x.1 entry)
          | inr inner ↦ elim inner as (λ _. Refused L unknown (object ms) (One (Table id)) at f) [
            | inl y ↦ inr (in_slot ms id at found.index found.slot y.0 f slot y.2 y.1 y.3)
            | inr y ↦ inr (in_member ms id at found.index found.slot y.0 x.0 y.1 y.2 f slot y.3 x.1 y.4 y.5 y.6)
          ]
        ]
      ]

  table_broken : (id : TypeId) (at : Place) (levels left : ℕ) (f : JsonFault)
      → table_meant L unknown ms (look L unknown ms) id.0 at levels left ≡ Err f
      → Refused L unknown (object ms) (One (Table id)) at f
  unfolding table_meant
  table_broken id at zero left f h = inl (subst IsLimit (err_inj {A = Datum × ℕ} (TooDeep at) f h) tt)
  table_broken id at (suc levels) left f h =
      elim (bind_err (spent 1 at left) _ f h) as (λ _. Refused L unknown (object ms) (One (Table id)) at f) [
        | inl e ↦ inl (spent_limit 1 at left f e)
        | inr x ↦
            elim (bind_err (if_known (unknown || names_known (body_at L.schema id.0) ms) (type_place id.0)) _ f x.2) as
            (λ _. Refused L unknown (object ms) (One (Table id)) at f) [
              | inl e ↦
                  let got = unknown_by _ (type_place id.0) f e in
                  let both = both_false unknown _ got.0 in
                  inr (subst (Breaks L unknown (object ms) (One (Table id)) at) got.1
                  (unknown_in_table ms id at both.0 both.1))
              | inr y ↦
                  elim (bind_err (slots_meant L (look L unknown ms) id.0 (slots_in (body_at L.schema id.0)) 0 0 levels
                  x.0) _ f y.2) as (λ _. Refused L unknown (object ms) (One (Table id)) at f) [
                    | inl e ↦ slot_broken id at f
                        (slots_broken (slots_in (body_at L.schema id.0)) id.0 0 0 levels x.0 f e)
                    | inr z ↦ absurd (no_err _ f z.2)
                  ]
            ]
      ]

  -- the field at fault among these, which begin at field k
  abbrev PartWhy : ℕ → DeclaredField → JsonFault → ℕ → Type 0
  PartWhy s p f n = ((get_member p.name ms ≡ None) × (MissingMember (slot_place s n) ≡ f))
      ⊎ ((t : Data) × (get_member p.name ms ≡ Some t) × Breaks L unknown t p.shape (slot_place s n) f)

  pub record PartFault (s k : ℕ) (fs : List DeclaredField) (f : JsonFault) : Type 0 where
    pub index : ℕ
    pub part : DeclaredField
    pub stands : slice_get fs index ≡ Some part
    pub why : PartWhy s part f (k + index)

  part_by : (s k : ℕ) (p : DeclaredField) (o : Option Data) (levels left : ℕ) (f : JsonFault) → get_member p.name ms ≡ o
      → part_meant (option_map (with_meaning L unknown) o) p.shape (slot_place s k) levels left ≡ Err f
      → IsLimit f ⊎ PartWhy s p f k
  part_by s k p None levels left f is h = inr (inl (is, err_inj {A = Datum × ℕ} (MissingMember (slot_place s k)) f h))
  part_by s k p (Some t) levels left f is h =
      elim (broken p.name t is p.shape (slot_place s k) levels left f h) as (λ _. IsLimit f ⊎ PartWhy s p f k)
      [ inl limit ↦ inl limit | inr e ↦ inr (inr (t, is, e)) ]

  parts_broken : (fs : List DeclaredField) (s k levels left : ℕ) (f : JsonFault)
      → parts_meant (look L unknown ms) s fs k levels left ≡ Err f → IsLimit f ⊎ PartFault s k fs f
  unfolding parts_meant
  parts_broken [] s k levels left f h = absurd (no_err _ f h)
  parts_broken (p ∷ fs) s k levels left f h =
      elim (bind_err (part_meant (look L unknown ms p.name) p.shape (slot_place s k) levels left) _ f h) as
      (λ _. IsLimit f ⊎ PartFault s k (p ∷ fs) f) [
        | inl e ↦
            let P : Option (Data × Meaner) → Type 0 = λ o. part_meant o p.shape (slot_place s k) levels left ≡ Err f in
            let same : k ≡ k + 0 = omega arith in
            elim (part_by s k p (get_member p.name ms) levels left f refl (subst P (looked L unknown ms p.name) e)) as
            (λ _. IsLimit f ⊎ PartFault s k (p ∷ fs) f) [
              | inl limit ↦ inl limit
              | inr why ↦ inr (record { index = 0; part = p; stands = refl; why = subst (PartWhy s p f) same why })
            ]
        | inr x ↦
            elim (bind_err (parts_meant (look L unknown ms) s fs (k + 1) levels x.0.1) _ f x.2) as
            (λ _. IsLimit f ⊎ PartFault s k (p ∷ fs) f) [
              | inl e ↦
                  elim (parts_broken fs s (k + 1) levels x.0.1 f e) as (λ _. IsLimit f ⊎ PartFault s k (p ∷ fs) f) [
                    | inl limit ↦ inl limit
                    | inr at ↦
                        let same : (k + 1) + at.index ≡ k + suc at.index = omega arith in
                        inr (record {
                          index = suc at.index;
                          part = at.part;
                          stands = at.stands;
                          why = subst (PartWhy s at.part f) same at.why;
                        })
                  ]
              | inr z ↦ absurd (no_err _ f z.2)
            ]
      ]

  part_broken : (id : TypeId) (at : Place) (f : JsonFault) → IsLimit f ⊎ PartFault id.0 0 (parts_at L id) f
      → Refused L unknown (object ms) (One (Struct id)) at f
  part_broken id at f (inl limit) = inl limit
  part_broken id at f (inr found) =
      let same : 0 + found.index ≡ found.index = omega arith in
      elim (subst (PartWhy id.0 found.part f) same found.why) as
      (λ _. Refused L unknown (object ms) (One (Struct id)) at f) [
        | inl x ↦ inr (subst (Breaks L unknown (object ms) (One (Struct id)) at) x.1
            (missing_part ms id at found.index found.part found.stands x.0))
        | inr x ↦ inr (in_part ms id at found.index found.part x.0 f found.stands x.1 x.2)
      ]

  struct_broken : (id : TypeId) (at : Place) (levels left : ℕ) (f : JsonFault)
      → struct_meant L unknown ms (look L unknown ms) id.0 levels left ≡ Err f
      → Refused L unknown (object ms) (One (Struct id)) at f
  unfolding struct_meant
  struct_broken id at levels left f h =
      elim (bind_err (if_known (unknown || names_known (body_at L.schema id.0) ms) (type_place id.0)) _ f h) as
      (λ _. Refused L unknown (object ms) (One (Struct id)) at f) [
        | inl e ↦
            let got = unknown_by _ (type_place id.0) f e in
            let both = both_false unknown _ got.0 in
            inr (subst (Breaks L unknown (object ms) (One (Struct id)) at) got.1
            (unknown_in_struct ms id at both.0 both.1))
        | inr y ↦
            elim (bind_err (parts_meant (look L unknown ms) id.0 (fields_of_struct (body_at L.schema id.0)) 0 levels
            left) _ f y.2) as (λ _. Refused L unknown (object ms) (One (Struct id)) at f) [
              | inl e ↦ part_broken id at f (parts_broken (fields_of_struct (body_at L.schema id.0)) id.0 0 levels left
                  f e)
              | inr z ↦ absurd (no_err _ f z.2)
            ]
      ]

  wrong_object : (shape : Shape) (at : Place) (f : JsonFault) → may_be (object ms) shape ≡ false
      → ◌≡◌ {A = Counted Datum} (Err (WrongShape at)) (Err f) → Refused L unknown (object ms) shape at f
  wrong_object shape at f never h =
      own L unknown (object ms) shape at f (wrong L.schema at _ (object ms) shape f never h)

  object_broken : (shape : Shape) (at : Place) (levels left : ℕ) (f : JsonFault)
      → object_meant L unknown ms (look L unknown ms) shape at levels left ≡ Err f
      → Refused L unknown (object ms) shape at f
  unfolding object_meant
  object_broken (One (Table id)) at levels left f h = table_broken id at levels left f h
  object_broken (One (Struct s)) at levels left f h = struct_broken s at levels left f h
  object_broken (One (Scalar Boolean)) at levels left f h = wrong_object (One (Scalar Boolean)) at f refl h
  object_broken (One (Scalar b)) at levels left f h = wrong_object (One (Scalar b)) at f refl h
  object_broken (One (Enum b)) at levels left f h = wrong_object (One (Enum b)) at f refl h
  object_broken (One (Union b)) at levels left f h = wrong_object (One (Union b)) at f refl h
  object_broken (One (Code b)) at levels left f h = wrong_object (One (Code b)) at f refl h
  object_broken (One Text) at levels left f h = wrong_object (One Text) at f refl h
  object_broken (Many kind) at levels left f h = wrong_object (Many kind) at f refl h

-- ---- trees

abbrev ItemFault : LaidSchema → Bool → Items → Kind → Place → JsonFault → Type 0
ItemFault L unknown ts kind at f =
    IsLimit f ⊎ ((i : ℕ) × (t : Data) × (get_item i ts ≡ Some t) × Breaks L unknown t (One kind) at f)

item_broken : (L : LaidSchema) (unknown : Bool) (ts : Items) (kind : Kind) (at : Place) (f : JsonFault)
    → ItemFault L unknown ts kind at f → Refused L unknown (array ts) (Many kind) at f
item_broken L unknown ts kind at f (inl limit) = inl limit
item_broken L unknown ts kind at f (inr x) = inr (in_element ts kind at x.0 x.1 f x.2 x.3)

wrong_list : (L : LaidSchema) (unknown : Bool) (ts : Items) (shape : Shape) (at : Place) (f : JsonFault)
    → may_be (array ts) shape ≡ false → ◌≡◌ {A = Counted Datum} (Err (WrongShape at)) (Err f)
    → Refused L unknown (array ts) shape at f
wrong_list L unknown ts shape at f never h =
    own L unknown (array ts) shape at f (wrong L.schema at _ (array ts) shape f never h)

vector_broken : (L : LaidSchema) (unknown : Bool) (ts : Items) (shape : Shape) (at : Place) (levels left : ℕ)
    (f : JsonFault) → ((kind : Kind) (l : ℕ) → items_meant L unknown ts kind at levels l ≡ Err f
    → ItemFault L unknown ts kind at f) → vector_meant (items_meant L unknown ts) (items_count ts) shape at levels left
    ≡ Err f → Refused L unknown (array ts) shape at f
unfolding vector_meant
vector_broken L unknown ts (Many kind) at levels left f each h =
    elim (bind_err (spent (1 + items_count ts) at left) _ f h) as (λ _. Refused L unknown (array ts) (Many kind) at f) [
      | inl e ↦ inl (spent_limit (1 + items_count ts) at left f e)
      | inr x ↦
          elim (bind_err (items_meant L unknown ts kind at levels x.0) _ f x.2) as
          (λ _. Refused L unknown (array ts) (Many kind) at f) [
            | inl e ↦ item_broken L unknown ts kind at f (each kind x.0 e)
            | inr z ↦ absurd (no_err _ f z.2)
          ]
    ]
vector_broken L unknown ts (One (Table b)) at levels left f each h = wrong_list L unknown ts (One (Table b)) at f refl h
vector_broken L unknown ts (One (Struct b)) at levels left f each h =
    wrong_list L unknown ts (One (Struct b)) at f refl h
vector_broken L unknown ts (One (Scalar Boolean)) at levels left f each h =
    wrong_list L unknown ts (One (Scalar Boolean)) at f refl h
vector_broken L unknown ts (One (Scalar b)) at levels left f each h =
    wrong_list L unknown ts (One (Scalar b)) at f refl h
vector_broken L unknown ts (One (Enum b)) at levels left f each h = wrong_list L unknown ts (One (Enum b)) at f refl h
vector_broken L unknown ts (One (Union b)) at levels left f each h = wrong_list L unknown ts (One (Union b)) at f refl h
vector_broken L unknown ts (One (Code b)) at levels left f each h = wrong_list L unknown ts (One (Code b)) at f refl h
vector_broken L unknown ts (One Text) at levels left f each h = wrong_list L unknown ts (One Text) at f refl h

mutual
  pub broken : (L : LaidSchema) (unknown : Bool) (t : Data) → BrokenAt L unknown t
  broken L unknown null shape at levels left f h =
      leaf_broken L unknown null shape at left f ((λ s. refl), (λ s. refl), (λ s. refl), (λ s. refl), (λ k. refl)) h
  broken L unknown (boolean b) shape at levels left f h =
      leaf_broken L unknown (boolean b) shape at left f (
        (λ s. refl),
        (λ s. refl),
        (λ s. refl),
        (λ s. refl),
        (λ k. refl),
      ) h
  broken L unknown (number x) shape at levels left f h =
      leaf_broken L unknown (number x) shape at left f ((λ s. refl), (λ s. refl), (λ s. refl), (λ s. refl), (λ k. refl))
      h
  broken L unknown (string s) shape at levels left f h =
      leaf_broken L unknown (string s) shape at left f ((λ s. refl), (λ s. refl), (λ s. refl), (λ s. refl), (λ k. refl))
      h
  broken L unknown (array ts) shape at levels left f h =
      vector_broken L unknown ts shape at levels left f (λ kind l g. items_broken L unknown ts kind at levels l f g) h
  broken L unknown (object ms) shape at levels left f h =
      object_broken L unknown ms (λ k t found. member_is_broken L unknown ms k t found) shape at levels left f h

  items_broken : (L : LaidSchema) (unknown : Bool) (ts : Items) (kind : Kind) (at : Place) (levels left : ℕ)
      (f : JsonFault) → items_meant L unknown ts kind at levels left ≡ Err f → ItemFault L unknown ts kind at f
  items_broken L unknown no_items kind at levels left f h = absurd (no_err _ f h)
  items_broken L unknown (item t ts) kind at levels left f h =
      elim (bind_err (meant L unknown t (One kind) at levels left) _ f h) as
      (λ _. ItemFault L unknown (item t ts) kind at f) [
        | inl e ↦ elim (broken L unknown t (One kind) at levels left f e) as
            (λ _. ItemFault L unknown (item t ts) kind at f) [ inl limit ↦ inl limit | inr b ↦ inr (0, t, refl, b) ]
        | inr x ↦
            elim (bind_err (items_meant L unknown ts kind at levels x.0.1) _ f x.2) as
            (λ _. ItemFault L unknown (item t ts) kind at f) [
              | inl e ↦ elim (items_broken L unknown ts kind at levels x.0.1 f e) as
                  (λ _. ItemFault L unknown (item t ts) kind at f)
                  [ inl limit ↦ inl limit | inr b ↦ inr (suc b.0, b.1, b.2, b.3) ]
              | inr z ↦ absurd (no_err _ f z.2)
            ]
      ]

  member_is_broken : (L : LaidSchema) (unknown : Bool) (ms : Members) (k : Name) (t : Data) → get_member k ms ≡ Some t
      → BrokenAt L unknown t
  member_is_broken L unknown no_members k t found = cc
  member_is_broken L unknown (member l d ms) k t found =
      elim (slice_cmp nat_cmp k l) as (λ o. match_ordering o (get_member k ms) (Some d) (get_member k ms) ≡ Some t
      → BrokenAt L unknown t) [
        | Less ↦ λ h. member_is_broken L unknown ms k t h
        | Equal ↦ λ h. subst (BrokenAt L unknown) (same_Some d t h) (broken L unknown d)
        | Greater ↦ λ h. member_is_broken L unknown ms k t h
      ] found
