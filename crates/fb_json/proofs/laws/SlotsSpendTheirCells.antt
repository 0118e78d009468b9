-- What slots, fields and members spend, and a fault of the limits in them.
use Rattle.std.proofs.Common.{◌≡◌, ◌∙◌, inl, inr, ℕ, zero, suc, ◌+◌, ◌<◌, ◌||◌, List, [], ◌∷◌, Bool, true, false}
use Rattle.std.proofs.Common.{Option, Some, None, option_map, Ok, Err, if◌then◌else◌, refl, sym, ap, subst, arith, max}
use Rattle.serde_json.specs.Data.{Data, object, Members}
use Rattle.serde_json.specs.Find.{get_member}
use Rattle.fb_schema.specs.declared.kinds.TypeId.{TypeId}
use Rattle.fb_schema.specs.declared.kinds.Kind.TheVariants.{Struct, Table, Code}
use Rattle.fb_schema.specs.declared.kinds.Shape.{Shape}
use Rattle.fb_schema.specs.declared.kinds.Shape.TheVariants.{One}
use Rattle.fb_schema.specs.Schema.{DeclaredField, body_at, slots_in, parts_in as fields_of_struct}
use Rattle.fb_layout.specs.Laid.{LaidSchema}
use Rattle.fb_value.specs.Datum.{Datum}
use Rattle.fb_json.specs.declared.faults.Place.{Place}
use Rattle.fb_json.specs.declared.faults.JsonFault.{JsonFault}
use Rattle.fb_json.specs.declared.faults.JsonFault.TheVariants.{UnknownMember, MissingMember, TooDeep}
use Rattle.fb_json.specs.Outcome.{Counted, spent}
use Rattle.fb_json.specs.Meant.{Meaner, type_place, slot_place, names_known, if_known, present, code_in, code_after}
use Rattle.fb_json.specs.Meant.{used_meant, entry_meant, slots_meant, table_meant, part_meant, parts_meant}
use Rattle.fb_json.specs.Meant.{struct_meant, object_meant, meant, look}
use Rattle.fb_json.specs.Means.{member_called}
use Rattle.fb_json.specs.Laws.{Over}
use Rattle.fb_json.specs.TreeCounts.{cells_measure, depth_measure, slot_count, slots_count, parts_count, counter}
use Rattle.fb_json.specs.TreeCounts.{tree_cells, tree_depth}
use Rattle.fb_json.proofs.laws.EachStepOfABindSucceeds.{rest_ok, bind_err, bind_ok, spent_ok}
use Rattle.fb_json.proofs.slots.LookUpFindsMembers.{found_in}
use Rattle.fb_json.proofs.laws.ComputedEntryIsMeant.{present_is, code_ok}
use Rattle.fb_json.proofs.laws.FaultOfALeafIsABrokenRule.{err_inj, no_err, told_broken}
use Rattle.fb_json.proofs.laws.LeavesSpendTheirCells.{over_map, over_wrong, told_over, spent_over, count_of, counter_is}
use Rattle.fb_json.proofs.laws.LeavesSpendTheirCells.{called_count, behind_is}
use Rattle.fb_json.proofs.laws.EntriesSpendTheirCells.{used_spent, used_limit, Spends, Limits}
use Rattle.fb_json.proofs.slots.MembersWithTheirMeaning.{looked}
use Rattle.fb_json.proofs.slots.MembersWithTheirMeaning.{with_meaning}

module _ (L : LaidSchema) (unknown : Bool) (ms : Members) where
  pub seen : (s : DeclaredField)
      → present (look L unknown ms s.name) ≡ option_map (meant L unknown) (member_called s.name ms)
  seen s = ap present (looked L unknown ms s.name) ∙ present_is L unknown (get_member s.name ms)

  abbrev pub many_in : ℕ → DeclaredField → Bool → ℕ
  many_in c s deprecated = slot_count L (counter L cells_measure ms) c s.name deprecated s.shape

  abbrev pub deep_in : ℕ → DeclaredField → Bool → ℕ
  deep_in c s deprecated = slot_count L (counter L depth_measure ms) c s.name deprecated s.shape

  pub entry_spent_if : Spends L unknown ms
      → (s : DeclaredField) (at : Place) (c levels left : ℕ) (deprecated : Bool) (e : Option Datum × ℕ)
      → ◌≡◌ {A = Counted (Option Datum)}
      (if deprecated then Ok (None, left) else used_meant L s c (present (look L unknown ms s.name)) at levels left
      s.shape) (Ok e) → e.1 + many_in c s deprecated ≡ left
  entry_spent_if spends s at c levels left true e h = let same = rest_ok _ e h in
      omega arith
  entry_spent_if spends s at c levels left false e h =
      let P : Option Meaner → Type 0 = λ m. used_meant L s c m at levels left s.shape ≡ Ok e in
      used_spent L unknown (member_called s.name ms) s.name (counter L depth_measure ms) (counter L cells_measure ms)
      (called_count L depth_measure ms s.name) (called_count L cells_measure ms s.name) s c at levels left s.shape e
      (λ t has. spends s.name t (found_in (get_member s.name ms) t has)) (subst P (seen s) h)

  pub entry_spent : Spends L unknown ms → (s : DeclaredField) (at : Place) (c levels left : ℕ) (e : Option Datum × ℕ)
      → entry_meant L (look L unknown ms) s at c levels left ≡ Ok e → e.1 + many_in c s s.deprecated ≡ left
  unfolding entry_meant
  entry_spent spends s at c levels left e h = entry_spent_if spends s at c levels left s.deprecated e h

  pub entry_limit_if : Limits L unknown ms
      → (s : DeclaredField) (at : Place) (c levels left : ℕ) (deprecated : Bool) (f : JsonFault)
      → ◌≡◌ {A = Counted (Option Datum)}
      (if deprecated then Ok (None, left) else used_meant L s c (present (look L unknown ms s.name)) at levels left
      s.shape) (Err f) → Over (deep_in c s deprecated) (many_in c s deprecated) levels left f
  entry_limit_if limits s at c levels left true f h = absurd (no_err _ f h)
  entry_limit_if limits s at c levels left false f h =
      let P : Option Meaner → Type 0 = λ m. used_meant L s c m at levels left s.shape ≡ Err f in
      used_limit L unknown (member_called s.name ms) s.name (counter L depth_measure ms) (counter L cells_measure ms)
      (called_count L depth_measure ms s.name) (called_count L cells_measure ms s.name) s c at levels left s.shape f
      (λ t has. limits s.name t (found_in (get_member s.name ms) t has)) (subst P (seen s) h)

  pub entry_limit : Limits L unknown ms → (s : DeclaredField) (at : Place) (c levels left : ℕ) (f : JsonFault)
      → entry_meant L (look L unknown ms) s at c levels left ≡ Err f
      → Over (deep_in c s s.deprecated) (many_in c s s.deprecated) levels left f
  unfolding entry_meant
  entry_limit limits s at c levels left f h = entry_limit_if limits s at c levels left s.deprecated f h

  pub told_in : (o : Option Data) (u : ℕ) (at : Place) (d c levels left : ℕ) (f : JsonFault)
      → code_in L.schema u at (option_map (with_meaning L unknown) o) ≡ Err f → Over d c levels left f
  told_in None u at d c levels left f h = absurd (no_err 0 f h)
  told_in (Some t) u at d c levels left f h =
      told_over L.schema u t at d c levels left f (told_broken L.schema u at t f h)

  pub code_over : (s : DeclaredField) (at : Place) (before : ℕ) (deprecated : Bool) (shape : Shape)
      (d c levels left : ℕ) (f : JsonFault)
      → code_after L.schema (look L unknown ms) at before deprecated s.name shape ≡ Err f → Over d c levels left f
  unfolding code_after
  code_over s at before false (One (Code u)) d c levels left f h =
      let P : Option (Data × Meaner) → Type 0 = λ o. code_in L.schema u.0 at o ≡ Err f in
      told_in (get_member s.name ms) u.0 at d c levels left f (subst P (looked L unknown ms s.name) h)
  code_over s at before true shape d c levels left f h = absurd (no_err before f h)
  code_over s at before false _ d c levels left f h = absurd (no_err before f h)

  -- ---- slots

  abbrev pub many_from : ℕ → List DeclaredField → ℕ
  many_from c fs = slots_count L cells_measure ms (counter L cells_measure ms) c fs

  abbrev pub deep_from : ℕ → List DeclaredField → ℕ
  deep_from c fs = slots_count L depth_measure ms (counter L depth_measure ms) c fs

  pub slots_spent : Spends L unknown ms
      → (fs : List DeclaredField) (id k before levels left : ℕ) (es : List (Option Datum) × ℕ)
      → slots_meant L (look L unknown ms) id fs k before levels left ≡ Ok es → es.1 + many_from before fs ≡ left
  unfolding slots_meant
  slots_spent spends [] id k before levels left es h = let same = rest_ok _ es h in omega arith
  slots_spent spends (s ∷ fs) id k before levels left es h =
      let told = bind_ok (code_after L.schema (look L unknown ms) (slot_place id k) before s.deprecated s.name s.shape)
      _ es h in
      let given = bind_ok (entry_meant L (look L unknown ms) s (slot_place id k) told.0 levels left) _ es told.2 in
      let later = bind_ok (slots_meant L (look L unknown ms) id fs (k + 1) told.0 levels given.0.1) _ es given.2 in
      let same = rest_ok _ es later.2 in
      let one = entry_spent spends s (slot_place id k) told.0 levels left given.0 given.1 in
      let rest = slots_spent spends fs id (k + 1) told.0 levels given.0.1 later.0 later.1 in
      let behind = behind_is L unknown ms s before told.0 s.deprecated s.shape
      (code_ok L unknown ms s (slot_place id k) before told.0 s.deprecated s.shape told.1) in
      let P : ℕ → Type 0 = λ c. es.1 + (many_in c s s.deprecated + many_from c fs) ≡ left in
      let sum : P told.0 = omega arith in
      subst P (sym behind) sum

  pub slots_limit : Spends L unknown ms → Limits L unknown ms
      → (fs : List DeclaredField) (id k before levels left : ℕ) (f : JsonFault)
      → slots_meant L (look L unknown ms) id fs k before levels left ≡ Err f
      → Over (deep_from before fs) (many_from before fs) levels left f
  unfolding slots_meant
  slots_limit spends limits [] id k before levels left f h = absurd (no_err _ f h)
  slots_limit spends limits (s ∷ fs) id k before levels left f h =
      elim (bind_err (code_after L.schema (look L unknown ms) (slot_place id k) before s.deprecated s.name s.shape) _ f
      h) as (λ _. Over (deep_from before (s ∷ fs)) (many_from before (s ∷ fs)) levels left f) [
        | inl e ↦ code_over s (slot_place id k) before s.deprecated s.shape _ _ levels left f e
        | inr x ↦
            let behind = behind_is L unknown ms s before x.0 s.deprecated s.shape
            (code_ok L unknown ms s (slot_place id k) before x.0 s.deprecated s.shape x.1) in
            let P : ℕ → Type 0 =
            λ c. Over (max (deep_in c s s.deprecated) (deep_from c fs)) (many_in c s s.deprecated + many_from c fs)
            levels left f in
            let there : P x.0 =
            elim (bind_err (entry_meant L (look L unknown ms) s (slot_place id k) x.0 levels left) _ f x.2) as
            (λ _. P x.0) [
              | inl e ↦ over_map (deep_in x.0 s s.deprecated) _ (many_in x.0 s s.deprecated) _ levels levels left left f
                  (λ l. omega arith) (λ l. omega arith) (entry_limit limits s (slot_place id k) x.0 levels left f e)
              | inr y ↦
                  let one = entry_spent spends s (slot_place id k) x.0 levels left y.0 y.1 in
                  elim (bind_err (slots_meant L (look L unknown ms) id fs (k + 1) x.0 levels y.0.1) _ f y.2) as
                  (λ _. P x.0) [
                    | inl e ↦ over_map (deep_from x.0 fs) _ (many_from x.0 fs) _ levels levels y.0.1 left f
                        (λ l. omega arith) (λ l. omega arith)
                        (slots_limit spends limits fs id (k + 1) x.0 levels y.0.1 f e)
                    | inr z ↦ absurd (no_err _ f z.2)
                  ]
            ] in
            subst P (sym behind) there
      ]

  -- ---- structs

  abbrev pub many_parts : List DeclaredField → ℕ
  many_parts fs = parts_count cells_measure (counter L cells_measure ms) fs

  abbrev pub deep_parts : List DeclaredField → ℕ
  deep_parts fs = parts_count depth_measure (counter L depth_measure ms) fs

  pub part_spent : Spends L unknown ms
      → (o : Option Data) (s : DeclaredField) (at : Place) (levels left : ℕ) (p : Datum × ℕ) → get_member s.name ms ≡ o
      → part_meant (option_map (with_meaning L unknown) o) s.shape at levels left ≡ Ok p
      → p.1 + counter L cells_measure ms s.name s.shape ≡ left
  part_spent spends None s at levels left p is h = cc
  part_spent spends (Some t) s at levels left p is h =
      let sum = spends s.name t is s.shape at levels left p h in
      let counts : counter L cells_measure ms s.name s.shape ≡ tree_cells L t s.shape =
      counter_is L cells_measure ms s.name s.shape ∙ ap (λ (x : Option Data). count_of L cells_measure x s.shape)
      is in
      omega arith

  pub part_limit : Limits L unknown ms
      → (o : Option Data) (s : DeclaredField) (at : Place) (levels left : ℕ) (f : JsonFault) → get_member s.name ms ≡ o
      → part_meant (option_map (with_meaning L unknown) o) s.shape at levels left ≡ Err f
      → Over (counter L depth_measure ms s.name s.shape) (counter L cells_measure ms s.name s.shape) levels left f
  part_limit limits None s at levels left f is h =
      subst (Over _ _ levels left) (err_inj {A = Datum × ℕ} (MissingMember at) f h) tt
  part_limit limits (Some t) s at levels left f is h =
      let counts : counter L cells_measure ms s.name s.shape ≡ tree_cells L t s.shape =
      counter_is L cells_measure ms s.name s.shape ∙ ap (λ (x : Option Data). count_of L cells_measure x s.shape)
      is in
      let levels_of : counter L depth_measure ms s.name s.shape ≡ tree_depth L t s.shape =
      counter_is L depth_measure ms s.name s.shape ∙ ap (λ (x : Option Data). count_of L depth_measure x s.shape)
      is in
      over_map _ _ _ _ levels levels left left f (λ l. omega arith) (λ l. omega arith)
      (limits s.name t is s.shape at levels left f h)

  pub parts_spent : Spends L unknown ms → (fs : List DeclaredField) (id k levels left : ℕ) (xs : List Datum × ℕ)
      → parts_meant (look L unknown ms) id fs k levels left ≡ Ok xs → xs.1 + many_parts fs ≡ left
  unfolding parts_meant
  parts_spent spends [] id k levels left xs h = let same = rest_ok _ xs h in
      omega arith
  parts_spent spends (s ∷ fs) id k levels left xs h =
      let given = bind_ok (part_meant (look L unknown ms s.name) s.shape (slot_place id k) levels left) _ xs h in
      let later = bind_ok (parts_meant (look L unknown ms) id fs (k + 1) levels given.0.1) _ xs given.2 in
      let same = rest_ok _ xs later.2 in
      let P : Option (Data × Meaner) → Type 0 = λ o. part_meant o s.shape (slot_place id k) levels left ≡ Ok given.0 in
      let one = part_spent spends (get_member s.name ms) s (slot_place id k) levels left given.0 refl
      (subst P (looked L unknown ms s.name) given.1) in
      let rest = parts_spent spends fs id (k + 1) levels given.0.1 later.0 later.1 in
      omega arith

  pub parts_limit : Spends L unknown ms → Limits L unknown ms
      → (fs : List DeclaredField) (id k levels left : ℕ) (f : JsonFault)
      → parts_meant (look L unknown ms) id fs k levels left ≡ Err f → Over (deep_parts fs) (many_parts fs) levels left f
  unfolding parts_meant
  parts_limit spends limits [] id k levels left f h = absurd (no_err _ f h)
  parts_limit spends limits (s ∷ fs) id k levels left f h =
      elim (bind_err (part_meant (look L unknown ms s.name) s.shape (slot_place id k) levels left) _ f h) as
      (λ _. Over (deep_parts (s ∷ fs)) (many_parts (s ∷ fs)) levels left f) [
        | inl e ↦
            let P : Option (Data × Meaner) → Type 0 = λ o. part_meant o s.shape (slot_place id k) levels left ≡ Err f in
            over_map _ _ _ _ levels levels left left f (λ l. omega arith) (λ l. omega arith)
            (part_limit limits (get_member s.name ms) s (slot_place id k) levels left f refl
            (subst P (looked L unknown ms s.name) e))
        | inr x ↦
            let P : Option (Data × Meaner) → Type 0 = λ o. part_meant o s.shape (slot_place id k) levels left
            ≡ Ok x.0 in
            let one = part_spent spends (get_member s.name ms) s (slot_place id k) levels left x.0 refl
            (subst P (looked L unknown ms s.name) x.1) in
            elim (bind_err (parts_meant (look L unknown ms) id fs (k + 1) levels x.0.1) _ f x.2) as
            (λ _. Over (deep_parts (s ∷ fs)) (many_parts (s ∷ fs)) levels left f) [
              | inl e ↦ over_map (deep_parts fs) _ (many_parts fs) _ levels levels x.0.1 left f (λ l. omega arith)
                  (λ l. omega arith) (parts_limit spends limits fs id (k + 1) levels x.0.1 f e)
              | inr z ↦ absurd (no_err _ f z.2)
            ]
      ]

  -- ---- objects

  pub known_over : (b : Bool) (at : Place) (d c levels left : ℕ) (f : JsonFault) → if_known b at ≡ Err f
      → Over d c levels left f
  known_over true at d c levels left f h = absurd (no_err _ f h)
  known_over false at d c levels left f h = subst (Over d c levels left) (err_inj {A = Unit {0}} (UnknownMember at) f h)
      tt

  pub object_spent : Spends L unknown ms → (shape : Shape) (at : Place) (levels left : ℕ) (p : Datum × ℕ)
      → object_meant L unknown ms (look L unknown ms) shape at levels left ≡ Ok p
      → p.1 + tree_cells L (object ms) shape ≡ left
  unfolding object_meant table_meant struct_meant
  object_spent spends (One (Table id)) at (suc levels) left p h =
      let paid = bind_ok (spent 1 at left) _ p h in
      let known = bind_ok (if_known (unknown || names_known (body_at L.schema id.0) ms) (type_place id.0)) _ p paid.2 in
      let given = bind_ok (slots_meant L (look L unknown ms) id.0 (slots_in (body_at L.schema id.0)) 0 0 levels paid.0)
      _ p known.2 in
      let same = rest_ok _ p given.2 in
      let one = spent_ok 1 at left paid.0 paid.1 in
      let rest = slots_spent spends (slots_in (body_at L.schema id.0)) id.0 0 0 levels paid.0 given.0 given.1 in
      omega arith
  object_spent spends (One (Struct id)) at levels left p h =
      let known = bind_ok (if_known (unknown || names_known (body_at L.schema id.0) ms) (type_place id.0)) _ p h in
      let given = bind_ok (parts_meant (look L unknown ms) id.0 (fields_of_struct (body_at L.schema id.0)) 0 levels
      left) _ p known.2 in
      let same = rest_ok _ p given.2 in
      let rest = parts_spent spends (fields_of_struct (body_at L.schema id.0)) id.0 0 levels left given.0 given.1 in
      omega arith
  object_spent spends _ at _ left p h = cc

  pub table_limit : Spends L unknown ms → Limits L unknown ms
      → (id : TypeId) (at : Place) (levels left : ℕ) (f : JsonFault)
      → table_meant L unknown ms (look L unknown ms) id.0 at levels left ≡ Err f
      → Over (tree_depth L (object ms) (One (Table id))) (tree_cells L (object ms) (One (Table id))) levels left f
  unfolding table_meant
  table_limit spends limits id at zero left f h =
      let deep : 0 < tree_depth L (object ms) (One (Table id)) = omega arith in
      subst (Over (tree_depth L (object ms) (One (Table id))) (tree_cells L (object ms) (One (Table id))) 0 left)
      (err_inj {A = Datum × ℕ} (TooDeep at) f h) deep
  table_limit spends limits id at (suc levels) left f h =
      elim (bind_err (spent 1 at left) _ f h) as
      (λ _. Over (tree_depth L (object ms) (One (Table id))) (tree_cells L (object ms) (One (Table id)))
      (suc levels) left f) [
        | inl e ↦ spent_over 1 left _ _ (suc levels) at f (omega arith) e
        | inr x ↦
            let one = spent_ok 1 at left x.0 x.1 in
            elim (bind_err (if_known (unknown || names_known (body_at L.schema id.0) ms) (type_place id.0)) _ f x.2) as
            (λ _. Over (tree_depth L (object ms) (One (Table id))) (tree_cells L (object ms) (One (Table id)))
            (suc levels) left f) [
              | inl e ↦ known_over _ (type_place id.0) _ _ (suc levels) left f e
              | inr y ↦
                  elim (bind_err (slots_meant L (look L unknown ms) id.0 (slots_in (body_at L.schema id.0)) 0 0 levels
                  x.0) _ f y.2) as (λ _. Over (tree_depth L (object ms) (One (Table id)))
                  (tree_cells L (object ms) (One (Table id))) (suc levels) left f) [
                    | inl e ↦ over_map (deep_from 0 (slots_in (body_at L.schema id.0))) _
                        (many_from 0 (slots_in (body_at L.schema id.0))) _ levels (suc levels) x.0 left f
                        (λ l. omega arith) (λ l. omega arith)
                        (slots_limit spends limits (slots_in (body_at L.schema id.0)) id.0 0 0 levels x.0 f e)
                    | inr z ↦ absurd (no_err _ f z.2)
                  ]
            ]
      ]

  pub struct_limit : Spends L unknown ms → Limits L unknown ms
      → (id : TypeId) (at : Place) (levels left : ℕ) (f : JsonFault)
      → struct_meant L unknown ms (look L unknown ms) id.0 levels left ≡ Err f
      → Over (tree_depth L (object ms) (One (Struct id))) (tree_cells L (object ms) (One (Struct id))) levels left f
  unfolding struct_meant
  struct_limit spends limits id at levels left f h =
      elim (bind_err (if_known (unknown || names_known (body_at L.schema id.0) ms) (type_place id.0)) _ f h) as
      (λ _. Over (tree_depth L (object ms) (One (Struct id))) (tree_cells L (object ms) (One (Struct id))) levels
      left f) [
        | inl e ↦ known_over _ (type_place id.0) _ _ levels left f e
        | inr y ↦
            elim (bind_err (parts_meant (look L unknown ms) id.0 (fields_of_struct (body_at L.schema id.0)) 0 levels
            left) _ f y.2) as (λ _. Over (tree_depth L (object ms) (One (Struct id)))
            (tree_cells L (object ms) (One (Struct id))) levels left f) [
              | inl e ↦ parts_limit spends limits (fields_of_struct (body_at L.schema id.0)) id.0 0 levels left f e
              | inr z ↦ absurd (no_err _ f z.2)
            ]
      ]

  pub object_limit : Spends L unknown ms → Limits L unknown ms
      → (shape : Shape) (at : Place) (levels left : ℕ) (f : JsonFault)
      → object_meant L unknown ms (look L unknown ms) shape at levels left ≡ Err f
      → Over (tree_depth L (object ms) shape) (tree_cells L (object ms) shape) levels left f
  unfolding object_meant
  object_limit spends limits (One (Table id)) at levels left f h = table_limit spends limits id at levels left f h
  object_limit spends limits (One (Struct id)) at levels left f h = struct_limit spends limits id at levels left f h
  object_limit spends limits _ at levels left f h = over_wrong {A = Datum × ℕ} _ _ levels left at f h
