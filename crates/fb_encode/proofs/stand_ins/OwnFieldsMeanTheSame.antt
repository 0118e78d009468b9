-- An object with a struct's own fields alone means the same as the whole one; and so does one with an unknown member, if
-- the whole one has one that is a fault.
use Rattle.std.proofs.Common.{◌≡◌, ◌∙◌, ◌+◌, ◌<◌, ◌||◌, ◌∷◌, [], ℕ, suc, List, Bool, true, false, Option, None, Some}
use Rattle.std.proofs.Common.{Result, Ok, is_err, option_map, slice_get, refl, sym, ap}
use Rattle.serde_json.specs.Data.{Data, Members, object}
use Rattle.serde_json.specs.Find.{get_member}
use Rattle.fb_schema.specs.declared.kinds.Kind.TheVariants.{Struct}
use Rattle.fb_schema.specs.declared.kinds.Shape.{Shape}
use Rattle.fb_schema.specs.declared.kinds.Shape.TheVariants.{One}
use Rattle.fb_schema.specs.declared.kinds.TypeId.{TypeId}
use Rattle.fb_schema.specs.Schema.{DeclaredField, body_at, parts_in as fields_of_struct}
use Rattle.fb_layout.specs.Laid.{LaidSchema}
use Rattle.fb_value.specs.Datum.{a_struct}
use Rattle.fb_value.specs.View.{parts_in}
use Rattle.fb_json.specs.declared.faults.JsonFault.{JsonFault}
use Rattle.fb_json.specs.declared.faults.Place.{Place}
use Rattle.fb_json.specs.Leaves.{code_told}
use Rattle.fb_json.specs.Meant.{Look, if_known, look, names_known, object_meant, part_meant, parts_meant}
use Rattle.fb_json.specs.Meant.{slot_place, struct_meant, type_place}
use Rattle.fb_json.specs.Outcome.{◌>>=◌}
use Rattle.fb_encode.specs.StandIns.{AreAlike}
use Rattle.fb_encode.proofs.stand_ins.FieldsArePut.{AreFieldsPut, AreFoundAlike}
use Rattle.fb_encode.proofs.stand_ins.SlotIsNotedByItsStandIn.{bind_same}
use Rattle.fb_json.proofs.slots.MembersWithTheirMeaning.{looked}
use Rattle.fb_json.proofs.slots.MembersWithTheirMeaning.{with_meaning}

-- ---- the parts

abbrev PartsAlike : Look → Look → DeclaredField → Type 0
PartsAlike seen bare f = (at : Place) (levels left : ℕ)
    → part_meant (seen f.name) f.shape at levels left ≡ part_meant (bare f.name) f.shape at levels left

parts_same : (seen bare : Look) (s : ℕ) (fs : List DeclaredField)
    → ((j : ℕ) (f : DeclaredField) → slice_get fs j ≡ Some f → PartsAlike seen bare f) → (k levels left : ℕ)
    → parts_meant seen s fs k levels left ≡ parts_meant bare s fs k levels left
unfolding parts_meant
parts_same seen bare s [] each k levels left = refl
parts_same seen bare s (f ∷ fs) each k levels left =
    bind_same _ _ _ _ (each 0 f refl (slot_place s k) levels left)
    (λ x. ap (λ r. r >>= λ xs. Ok (x.0 ∷ xs.0, xs.1))
    (parts_same seen bare s fs (λ j g there. each (suc j) g there) (k + 1) levels x.1))

part_same : (L : LaidSchema) (unknown : Bool) (shape : Shape) (o p : Option Data)
    → AreFoundAlike L unknown shape o p → (at : Place) (levels left : ℕ)
    → part_meant (option_map (with_meaning L unknown) o) shape at levels left
    ≡ part_meant (option_map (with_meaning L unknown) p) shape at levels left
part_same L unknown shape None None alike at levels left = refl
part_same L unknown shape (Some t) (Some d) alike at levels left = alike.value at levels left
part_same L unknown shape None (Some d) alike at levels left = absurd alike
part_same L unknown shape (Some t) None alike at levels left = absurd alike

module _ (L : LaidSchema) (unknown : Bool) (s : TypeId) (ms ns : Members) where
  part_by : (f : DeclaredField) → AreFoundAlike L unknown f.shape (get_member f.name ms) (get_member f.name ns)
      → PartsAlike (look L unknown ms) (look L unknown ns) f
  part_by f alike at levels left =
      ap (λ o. part_meant o f.shape at levels left) (looked L unknown ms f.name)
      ∙ (part_same L unknown f.shape (get_member f.name ms) (get_member f.name ns) alike at levels left
      ∙ sym (ap (λ o. part_meant o f.shape at levels left) (looked L unknown ns f.name)))

  -- ---- the struct

  abbrev StructsSame : Type 0
  StructsSame = (levels left : ℕ) → struct_meant L unknown ms (look L unknown ms) s.0 levels left
      ≡ struct_meant L unknown ns (look L unknown ns) s.0 levels left

  objects_alike : StructsSame → AreAlike L unknown (One (Struct s)) (object ms) (object ns)
  unfolding object_meant code_told
  objects_alike same = record {
    absent = refl;
    value = λ at levels left. same levels left;
    code = λ u at is. refl;
    member = λ u table at levels left is. absurd cc;
  }

  fields_same : unknown || names_known (body_at L.schema s.0) ms ≡ unknown || names_known (body_at L.schema s.0) ns
      → ((j : ℕ) (f : DeclaredField) → slice_get (fields_of_struct (body_at L.schema s.0)) j ≡ Some f
      → AreFoundAlike L unknown f.shape (get_member f.name ms) (get_member f.name ns)) → StructsSame
  unfolding struct_meant
  fields_same known each levels left =
      bind_same _ _ _ _ (ap (λ b. if_known b (type_place s.0)) known)
      (λ u. ap (λ r. r >>= λ xs. Ok (a_struct (parts_in xs.0), xs.1))
      (parts_same (look L unknown ms) (look L unknown ns) s.0 (fields_of_struct (body_at L.schema s.0))
      (λ j f there. part_by f (each j f there)) 0 levels left))

  unknown_same : unknown || names_known (body_at L.schema s.0) ms ≡ false
      → unknown || names_known (body_at L.schema s.0) ns ≡ false → StructsSame
  unfolding struct_meant
  unknown_same first second levels left = rw (first, second) refl

-- ---- whether all names are known

or_true : (b c : Bool) → c ≡ true → b || c ≡ true
or_true true c is = refl
or_true false c is = is

or_false : (b c d : Bool) → b || c ≡ false → d ≡ false → b || d ≡ false
or_false true c d none is = absurd cc
or_false false c d none is = is

known_by : (b : Bool) (at : Place) → is_err (if_known b at) ≡ false → b ≡ true
known_by true at ok = refl
known_by false at ok = absurd cc

unknown_by : (b : Bool) (at : Place) → is_err (if_known b at) ≡ true → b ≡ false
unknown_by true at err = absurd cc
unknown_by false at err = refl

module _ (L : LaidSchema) (unknown : Bool) (s : TypeId) (ms : Members) (known : Result (Unit {0}) JsonFault)
    (is : known ≡ if_known (unknown || names_known (body_at L.schema s.0) ms) (type_place s.0)) where
  pub own_fields_alike : is_err known ≡ false → (ns : Members) (k : ℕ) → AreFieldsPut L unknown s.0 ms ns k
      → ((j : ℕ) (f : DeclaredField) → slice_get (fields_of_struct (body_at L.schema s.0)) j ≡ Some f → j < k)
      → AreAlike L unknown (One (Struct s)) (object ms) (object ns)
  own_fields_alike ok ns k put all =
      objects_alike L unknown s ms ns (fields_same L unknown s ms ns
      (known_by _ (type_place s.0) (sym (ap is_err is) ∙ ok) ∙ sym (or_true unknown _ put.own))
      (λ j f there. put.alike j f there (all j f there)))

  pub unknown_alike : is_err known ≡ true → (ns : Members) → names_known (body_at L.schema s.0) ns ≡ false
      → AreAlike L unknown (One (Struct s)) (object ms) (object ns)
  unknown_alike err ns none =
      let first = unknown_by _ (type_place s.0) (sym (ap is_err is) ∙ err) in
      objects_alike L unknown s ms ns (unknown_same L unknown s ms ns first (or_false unknown _ _ first none))
