-- A table's slots and a struct's fields agree with those of the new schema, one by one.
use Rattle.std.proofs.Common.{◌≡◌, ℕ, zero, suc, ◌<◌, true, false, IsTrue, List, [], ◌∷◌, map, slice_get, Option, None}
use Rattle.std.proofs.Common.{Some, refl, ap, ◌∙◌}
use Rattle.serde_json.specs.Data.{Members}
use Rattle.serde_json.specs.Find.{get_member}
use Rattle.fb_schema.specs.Schema.{Name, DeclaredField, DeclaredBody, table_body, struct_body, body_at, slots_in}
use Rattle.fb_schema.specs.Schema.{parts_in, is_table, is_struct}
use Rattle.fb_schema.specs.Found.{fields_in}
use Rattle.fb_schema.specs.WellDeclared.{IsPart, IsBody}
use Rattle.fb_layout.specs.Laid.{LaidSchema, slot_of}
use Rattle.fb_layout.specs.WellMade.{IsWellMade}
use Rattle.fb_json.specs.Meant.{names_known}
use Rattle.fb_conform.specs.declared.breaches.Breach.TheVariants.{SlotGone, NewRequired, FieldTypeChanged}
use Rattle.fb_conform.specs.declared.breaches.Breach.TheVariants.{StructChanged}
use Rattle.fb_conform.specs.ByName.{SameFields}
use Rattle.fb_conform.specs.Conforms.{Conforms}
use Rattle.fb_conform.specs.Names.{slot_named, KeepsNames}
use Rattle.fb_conform.specs.Twins.{SlotTwins, to_new}
use Rattle.fb_conform.proofs.laws.BodiesOfOneKindAgree.{still_table, struct_kept, first_same}
use Rattle.fb_conform.proofs.laws.ConformingLayoutsAgree.{twins, within, same_kind, slot_stays}
use Rattle.fb_conform.proofs.laws.DeclaredShapesByTheirNewNumbers.{id, to_shape, shape_renumbered}
use Rattle.fb_conform.proofs.laws.EachBodyIsDeclared.{is_body, slots_shaped, AllParts, parts_known, part_shape}
use Rattle.fb_conform.proofs.laws.EachBodyIsDeclared.{codes_first}
use Rattle.fb_conform.proofs.laws.LastSlotIsNoCode.{EndsWhole, slots_end_whole}
use Rattle.fb_conform.proofs.laws.LayoutsAgree.{CodesFirst, types_in}
use Rattle.fb_conform.proofs.laws.MembersNameTheSameSlots.{same_member, none_of_deprecated, none_of_new}
use Rattle.fb_conform.proofs.laws.SlotsMeanTheCarriedEntries.{AreNewSlots, SlotAgrees}

-- a table's slots are its fields, and so are a struct's
pub fields_of_table : (body : DeclaredBody) → IsTrue (is_table body) → fields_in body ≡ slots_in body
fields_of_table (table_body fs) is = refl
fields_of_table _ is = absurd cc

pub fields_of_struct : (body : DeclaredBody) → IsTrue (is_struct body) → fields_in body ≡ parts_in body
fields_of_struct (struct_body fs force) is = refl
fields_of_struct _ is = absurd cc

module _ (A B : LaidSchema) where
  abbrev pub SlotsAgree : Members → List DeclaredField → List DeclaredField → Type 0
  SlotsAgree ms [] gs = AreNewSlots B.schema ms gs
  SlotsAgree ms (f ∷ fs) (g ∷ gs) = SlotAgrees A B ms f g × SlotsAgree ms fs gs
  SlotsAgree ms (f ∷ fs) [] = ⊥

  pub slots_agree_from : (ms : Members) (fs gs : List DeclaredField)
      → ((k : ℕ) (f : DeclaredField) → slice_get fs k ≡ Some f → (g : DeclaredField) × (slice_get gs k ≡ Some g))
      → ((k : ℕ) (f g : DeclaredField) → slice_get fs k ≡ Some f → slice_get gs k ≡ Some g → SlotAgrees A B ms f g)
      → ((k : ℕ) (g : DeclaredField) → slice_get fs k ≡ None → slice_get gs k ≡ Some g
      → (get_member g.name ms ≡ None) × ((slot_of B.schema g).required ≡ false)) → SlotsAgree ms fs gs
  slots_agree_from ms [] [] there both added = tt
  slots_agree_from ms [] (g ∷ gs) there both added =
      let h = added zero g refl refl in (
        record { member = h.0; free = h.1 },
        slots_agree_from ms [] gs (λ k f e. let bad : None ≡ Some f = e in absurd cc)
            (λ k f h e i. let bad : None ≡ Some f = e in absurd cc) (λ k h e i. added (suc k) h refl i),
      )
  slots_agree_from ms (f ∷ fs) [] there both added =
      let h = there zero f refl in let bad : None ≡ Some h.0 = h.1 in absurd cc
  slots_agree_from ms (f ∷ fs) (g ∷ gs) there both added = (
    both zero f g refl refl,
    slots_agree_from ms fs gs (λ k h e. there (suc k) h e) (λ k h i e j. both (suc k) h i e j)
        (λ k h e i. added (suc k) h e i),
  )

  -- a struct's field and the new one in its place
  pub record PartAgrees (ms : Members) (s : ℕ) (f g : DeclaredField) : Type 0 where
    pub member : get_member g.name ms ≡ get_member f.name ms
    pub part : IsPart A.schema s f.shape
    pub shape : g.shape ≡ to_shape (to_new A B) f.shape

  abbrev pub PartsAgree : Members → ℕ → List DeclaredField → List DeclaredField → Type 0
  PartsAgree ms s [] [] = Unit {0}
  PartsAgree ms s (f ∷ fs) (g ∷ gs) = PartAgrees ms s f g × PartsAgree ms s fs gs
  PartsAgree ms s _ _ = ⊥

module _ (A B : LaidSchema) (old : IsWellMade A) (new : IsWellMade B) (conforms : Conforms A B)
    (keeps : KeepsNames A B) where
  abbrev to : ℕ → ℕ
  to t = to_new A B t

  pub old_body : (t : ℕ) → t < types_in A → IsBody A.schema t (body_at A.schema t)
  old_body t known = is_body A.schema old.declared t known

  new_body : (t : ℕ) → t < types_in A → IsBody B.schema (to t) (body_at B.schema (to t))
  new_body t known = is_body B.schema new.declared (to t) (within A B old new conforms t known)

  abbrev Kept : ℕ → Type 0
  Kept t = (k j : ℕ) (name : Name) → slot_named (body_at A.schema t) name ≡ Some k
      → slot_named (body_at B.schema (to t)) name ≡ Some j → j ≡ k

  kept : (t : ℕ) → t < types_in A → Kept t
  kept t known k j name one two = keeps t (to t) k j name (twins A B old new conforms t known) one two

  -- ---- tables

  module _ (t : ℕ) (known : t < types_in A) (table : IsTrue (is_table (body_at A.schema t))) (ms : Members)
      (all : names_known (body_at A.schema t) ms ≡ true) (stay : names_known (body_at B.schema (to t)) ms ≡ true) where
    abbrev x : DeclaredBody
    x = body_at A.schema t

    abbrev y : DeclaredBody
    y = body_at B.schema (to t)

    new_table : IsTrue (is_table y)
    new_table = still_table x y (same_kind A B old new conforms t known) table

    as_field : (k : ℕ) (o : Option DeclaredField) → slice_get (slots_in x) k ≡ o → slice_get (fields_in x) k ≡ o
    as_field k o e = ap (λ (fs : List DeclaredField). slice_get fs k) (fields_of_table x table) ∙ e

    as_new_field : (k : ℕ) (o : Option DeclaredField) → slice_get (slots_in y) k ≡ o → slice_get (fields_in y) k ≡ o
    as_new_field k o e = ap (λ (fs : List DeclaredField). slice_get fs k) (fields_of_table y new_table) ∙ e

    slot_agrees : (k : ℕ) (f g : DeclaredField) → slice_get (slots_in x) k ≡ Some f → slice_get (slots_in y) k ≡ Some g
        → SlotAgrees A B ms f g
    slot_agrees k f g was is =
        let first = slots_shaped A.schema t x (old_body t known) k f was in
        let second = slots_shaped B.schema (to t) y (new_body t known) k g is in
        let pair : SlotTwins A.schema B.schema t k f g =
        record { type = to t; twins = twins A B old new conforms t known; old = was; new = is } in
        let stays = slot_stays A B old new conforms t k f g known pair first second in
        record {
          member = same_member A.schema B.schema t (to t) x y (old_body t known) (new_body t known) (kept t known) ms
              all stay k f g (as_field k (Some f) was) (as_new_field k (Some g) is);
          none_of_deprecated = none_of_deprecated A.schema B.schema t (to t) x y (old_body t known) (new_body t known)
              (kept t known) ms all stay k f g (as_field k (Some f) was) (as_new_field k (Some g) is);
          known = first;
          shape = shape_renumbered A B old new conforms f.shape g.shape first second
              (conforms (FieldTypeChanged (id t) k) f g pair);
          if_absent = stays.absent;
          required = stays.required;
          in_use = stays.in_use;
        }

    pub slots_agree : SlotsAgree A B ms (slots_in x) (slots_in y)
    slots_agree =
        slots_agree_from A B ms (slots_in x) (slots_in y)
        (λ k f e. conforms (SlotGone (id t) k) (to t) f (twins A B old new conforms t known) new_table e)
        slot_agrees
        (λ k g none is. (
          none_of_new A.schema B.schema t (to t) x y (old_body t known) (new_body t known) (kept t known) ms all stay k
              g (as_field k None none) (as_new_field k (Some g) is),
          conforms (NewRequired (id t) k) (to t) g (twins A B old new conforms t known) table none is,
        ))

    pub slots_whole : EndsWhole (slots_in x)
    slots_whole = slots_end_whole A.schema t x (old_body t known)

    pub new_codes : CodesFirst None (map (slot_of B.schema) (slots_in y))
    new_codes = codes_first B.schema (to t) y (new_body t known)

  -- ---- structs

  module _ (s : ℕ) (known : s < types_in A) (struct : IsTrue (is_struct (body_at A.schema s))) (ms : Members)
      (all : names_known (body_at A.schema s) ms ≡ true) (stay : names_known (body_at B.schema (to s)) ms ≡ true) where
    struct_same : IsTrue (is_struct (body_at B.schema (to s)))
        × SameFields A.schema B.schema (parts_in (body_at A.schema s)) (parts_in (body_at B.schema (to s)))
    struct_same =
        let h = struct_kept A B s (to s) (body_at A.schema s) (body_at B.schema (to s)) struct
        (same_kind A B old new conforms s known)
        (conforms (StructChanged (id s)) (to s) (twins A B old new conforms s known)) in
        (h.0, h.1)

    -- the fields in one place have one member
    part_member : (k : ℕ) (f g : DeclaredField) → slice_get (parts_in (body_at A.schema s)) k ≡ Some f
        → slice_get (parts_in (body_at B.schema (to s))) k ≡ Some g → get_member g.name ms ≡ get_member f.name ms
    part_member k f g was is =
        same_member A.schema B.schema s (to s) (body_at A.schema s) (body_at B.schema (to s)) (old_body s known)
        (new_body s known) (kept s known) ms all stay k f g
        (ap (λ (fs : List DeclaredField). slice_get fs k) (fields_of_struct (body_at A.schema s) struct) ∙ was)
        (ap (λ (fs : List DeclaredField). slice_get fs k) (fields_of_struct (body_at B.schema (to s)) struct_same.0)
        ∙ is)

    parts_from : (fs gs : List DeclaredField)
        → ((k : ℕ) (f g : DeclaredField) → slice_get fs k ≡ Some f → slice_get gs k ≡ Some g
        → get_member g.name ms ≡ get_member f.name ms)
        → AllParts A.schema s fs → AllParts B.schema (to s) gs → SameFields A.schema B.schema fs gs
        → PartsAgree A B ms s fs gs
    parts_from [] [] members known_old known_new same = tt
    parts_from [] (g ∷ gs) members known_old known_new same = absurd cc
    parts_from (f ∷ fs) [] members known_old known_new same = absurd cc
    parts_from (f ∷ fs) (g ∷ gs) members known_old known_new same =
        let both = first_same _ _ _ _ same in (
          record {
            member = members zero f g refl refl;
            part = known_old.0;
            shape = shape_renumbered A B old new conforms f.shape g.shape (part_shape A.schema s f.shape known_old.0)
                (part_shape B.schema (to s) g.shape known_new.0) both.0;
          },
          parts_from fs gs (λ k h i e j. members (suc k) h i e j) known_old.1 known_new.1 both.1,
        )

    pub parts_agree : PartsAgree A B ms s (parts_in (body_at A.schema s)) (parts_in (body_at B.schema (to s)))
    parts_agree =
        parts_from (parts_in (body_at A.schema s)) (parts_in (body_at B.schema (to s))) part_member
        (parts_known A.schema s (body_at A.schema s) (old_body s known))
        (parts_known B.schema (to s) (body_at B.schema (to s)) (new_body s known)) struct_same.1
