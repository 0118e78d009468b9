-- A schema that conforms agrees.
use Rattle.std.proofs.Common.{◌≡◌, ℕ, zero, suc, ◌+◌, ◌<◌, ◌||◌, Bool, true, false, IsTrue, List, [], ◌∷◌, map, Some, ℤ}
use Rattle.std.proofs.Common.{refl, sym, ap, ◌∙◌, arith}
use Rattle.std.specs.Option.{unwrap_or}
use Rattle.fb_schema.specs.declared.kinds.TypeId.{TypeId}
use Rattle.fb_schema.specs.declared.kinds.Kind as declared_kind
use Rattle.fb_schema.specs.declared.kinds.Kind.TheVariants.{Scalar, Enum, Struct as Fixed, Table, Union, Code, Text}
use Rattle.fb_schema.specs.declared.kinds.Shape as declared_shape
use Rattle.fb_schema.specs.declared.kinds.Shape.TheVariants.{One, Many}
use Rattle.fb_schema.specs.Schema.{DeclaredField, body_at, slots_in, parts_in, base_in, is_struct}
use Rattle.fb_schema.specs.Found.{name_at}
use Rattle.fb_layout.specs.Laid.{LaidSchema, StoredKind, scalar_kind, struct_kind, table_kind, union_kind, code_kind}
use Rattle.fb_layout.specs.Laid.{one_of, vector_of, stored_kind, stored_shape, default_of, slot_of, slots_of, kind_in}
use Rattle.fb_layout.specs.Laid.{parts_of, struct_at, size_of, align_of, member_by_code}
use Rattle.fb_conform.specs.declared.breaches.Breach.TheVariants.{RootChanged, IdentifierChanged, TypeGone, KindChanged}
use Rattle.fb_conform.specs.declared.breaches.Breach.TheVariants.{StructChanged, SlotGone, FieldTypeChanged}
use Rattle.fb_conform.specs.declared.breaches.Breach.TheVariants.{DefaultChanged, RequiredChanged, DeprecatedTakenBack}
use Rattle.fb_conform.specs.declared.breaches.Breach.TheVariants.{NewRequired, EnumChanged, UnionChanged}
use Rattle.fb_conform.specs.Twins.{SameName, Twins, SlotTwins, to_new}
use Rattle.fb_conform.specs.Conforms.{SameKind, is_number, Conforms}
use Rattle.fb_conform.specs.ByName.{SameShape, SameFields, named_type, kind_by_name, shape_by_name}
use Rattle.fb_conform.proofs.laws.OldTypesByTheirNewNumbers.{moved_kind, moved_shape, KnownKind, KnownKinds, KnownShape}
use Rattle.fb_schema.specs.WellDeclared.{KindNames, IsShape, IsPart}
use Rattle.fb_layout.specs.Sizes.{IsLeastMultiple}
use Rattle.fb_layout.specs.WellMade.{StandInOrder, IsWellMade}
use Rattle.fb_conform.proofs.twins.TypesAreFoundByTheirNames.{named_twin, twin_within}
use Rattle.fb_conform.proofs.laws.EachBodyIsDeclared.{is_body, slots_shaped, AllParts, parts_known, part_shape}
use Rattle.fb_conform.proofs.laws.EachBodyIsDeclared.{members_known}
use Rattle.fb_conform.proofs.laws.LayoutsAgree.{SlotStays, Grown, StructStays, types_in, Agrees}
use Rattle.fb_conform.proofs.laws.BodiesOfOneKindAgree.{least_same, base_same, sort_of_body, same_sort, table_sort}
use Rattle.fb_conform.proofs.laws.BodiesOfOneKindAgree.{struct_sort, enum_sort, union_sort, still_table, was_table}
use Rattle.fb_conform.proofs.laws.BodiesOfOneKindAgree.{has_slot, struct_kept, no_struct_kept, members_same, grown_from}
use Rattle.fb_conform.proofs.laws.BodiesOfOneKindAgree.{is_scalar, never, number_stored, scalar_moved}
use Rattle.fb_conform.proofs.laws.BodiesOfOneKindAgree.{kind_in_moved, name_same, code_same, basic_same, one_same}
use Rattle.fb_conform.proofs.laws.BodiesOfOneKindAgree.{vector_same, first_same}
use Rattle.fb_layout.proofs.slots.SlotsFollowTheirFields.{number_shape}

module _ (A B : LaidSchema) (old : IsWellMade A) (new : IsWellMade B) (conforms : Conforms A B) where
  pub twins : (t : ℕ) → t < types_in A → Twins A.schema B.schema t (to_new A B t)
  twins t known =
      let h = conforms (TypeGone (record { 0 = t })) known in
      let same : to_new A B t ≡ h.0 = ap (λ o. unwrap_or o 0) h.1 in
      rw same h.1

  pub within : (t : ℕ) → t < types_in A → to_new A B t < types_in B
  within t known = twin_within A.schema B.schema t (to_new A B t) (twins t known)

  -- the type of that name
  pub named : (t u : ℕ) → u < types_in B → SameName A.schema B.schema t u → u ≡ to_new A B t
  named t u known same = sym (ap (λ o. unwrap_or o 0) (named_twin A.schema B.schema new.declared t u known same))

  pub same_kind : (t : ℕ) → t < types_in A → SameKind (body_at A.schema t) (body_at B.schema (to_new A B t))
  same_kind t known = conforms (KindChanged (record { 0 = t })) (to_new A B t) (twins t known)

  -- named types of one name are of one kind
  one_sort : (t u : ℕ) → t < types_in A → u < types_in B
      → named_type (name_at A.schema t) ≡ named_type (name_at B.schema u)
      → sort_of_body (body_at B.schema u) ≡ sort_of_body (body_at A.schema t)
  one_sort t u known there same =
      ap (λ z. sort_of_body (body_at B.schema z)) (named t u there (name_same _ _ same))
      ∙ same_sort (body_at A.schema t) (body_at B.schema (to_new A B t)) (same_kind t known)

  pub base_moved : (t : ℕ) → t < types_in A → base_in (body_at B.schema (to_new A B t)) ≡ base_in (body_at A.schema t)
  base_moved t known =
      base_same _ _ (same_kind t known) (conforms (EnumChanged (record { 0 = t })) (to_new A B t) (twins t known))

  clash : (m n j k : ℕ) → m ≡ n → m ≡ j → n ≡ k → (j ≡ k → ⊥) → ⊥
  clash m n j k e first second apart = apart (sym first ∙ e ∙ second)

  pub kind_moved : (k l : declared_kind.Kind) → KindNames A.schema k → KindNames B.schema l
      → kind_by_name A.schema k ≡ kind_by_name B.schema l
      → stored_kind B.schema l ≡ moved_kind (to_new A B) (stored_kind A.schema k)
  kind_moved (Scalar b) (Scalar c) known there same = ap scalar_kind (sym (basic_same b c same))
  kind_moved (Enum t) (Enum u) known there same =
      ap scalar_kind (ap (λ z. base_in (body_at B.schema z)) (named t.0 u.0 there.0 (name_same _ _ same))
      ∙ base_moved t.0 known.0)
  kind_moved (Fixed t) (Fixed u) known there same = ap struct_kind (named t.0 u.0 there.0 (name_same _ _ same))
  kind_moved (Table t) (Table u) known there same = ap table_kind (named t.0 u.0 there.0 (name_same _ _ same))
  kind_moved (Union t) (Union u) known there same = ap union_kind (named t.0 u.0 there.0 (name_same _ _ same))
  kind_moved (Code t) (Code u) known there same = ap code_kind (named t.0 u.0 there.0 (code_same _ _ same))
  kind_moved Text Text known there same = refl
  kind_moved (Enum t) (Fixed u) known there same =
      absurd (clash _ _ _ _ (one_sort t.0 u.0 known.0 there.0 same) (struct_sort _ there.1) (enum_sort _ known.1)
      (λ e. cc))
  kind_moved (Enum t) (Table u) known there same =
      absurd (clash _ _ _ _ (one_sort t.0 u.0 known.0 there.0 same) (table_sort _ there.1) (enum_sort _ known.1)
      (λ e. cc))
  kind_moved (Enum t) (Union u) known there same =
      absurd (clash _ _ _ _ (one_sort t.0 u.0 known.0 there.0 same) (union_sort _ there.1) (enum_sort _ known.1)
      (λ e. cc))
  kind_moved (Fixed t) (Enum u) known there same =
      absurd (clash _ _ _ _ (one_sort t.0 u.0 known.0 there.0 same) (enum_sort _ there.1) (struct_sort _ known.1)
      (λ e. cc))
  kind_moved (Fixed t) (Table u) known there same =
      absurd (clash _ _ _ _ (one_sort t.0 u.0 known.0 there.0 same) (table_sort _ there.1) (struct_sort _ known.1)
      (λ e. cc))
  kind_moved (Fixed t) (Union u) known there same =
      absurd (clash _ _ _ _ (one_sort t.0 u.0 known.0 there.0 same) (union_sort _ there.1) (struct_sort _ known.1)
      (λ e. cc))
  kind_moved (Table t) (Enum u) known there same =
      absurd (clash _ _ _ _ (one_sort t.0 u.0 known.0 there.0 same) (enum_sort _ there.1) (table_sort _ known.1)
      (λ e. cc))
  kind_moved (Table t) (Fixed u) known there same =
      absurd (clash _ _ _ _ (one_sort t.0 u.0 known.0 there.0 same) (struct_sort _ there.1) (table_sort _ known.1)
      (λ e. cc))
  kind_moved (Table t) (Union u) known there same =
      absurd (clash _ _ _ _ (one_sort t.0 u.0 known.0 there.0 same) (union_sort _ there.1) (table_sort _ known.1)
      (λ e. cc))
  kind_moved (Union t) (Enum u) known there same =
      absurd (clash _ _ _ _ (one_sort t.0 u.0 known.0 there.0 same) (enum_sort _ there.1) (union_sort _ known.1)
      (λ e. cc))
  kind_moved (Union t) (Fixed u) known there same =
      absurd (clash _ _ _ _ (one_sort t.0 u.0 known.0 there.0 same) (struct_sort _ there.1) (union_sort _ known.1)
      (λ e. cc))
  kind_moved (Union t) (Table u) known there same =
      absurd (clash _ _ _ _ (one_sort t.0 u.0 known.0 there.0 same) (table_sort _ there.1) (union_sort _ known.1)
      (λ e. cc))
  kind_moved _ _ known there same = cc

  shape_moved : (s z : declared_shape.Shape) → IsShape A.schema s → IsShape B.schema z → SameShape A.schema B.schema s z
      → stored_shape B.schema z ≡ moved_shape (to_new A B) (stored_shape A.schema s)
  shape_moved (One k) (One l) known there same = ap one_of (kind_moved k l known there (one_same _ _ same))
  shape_moved (Many k) (Many l) known there same = ap vector_of (kind_moved k l known.0 there.0 (vector_same _ _ same))
  shape_moved (One k) (Many l) known there same = cc
  shape_moved (Many k) (One l) known there same = cc

  -- a number's slot stays one
  pub number_kept : (s z : declared_shape.Shape) → IsShape A.schema s → IsShape B.schema z
      → SameShape A.schema B.schema s z → is_number s ≡ true → is_number z ≡ true
  number_kept s z known there same is =
      sym (number_stored B.schema z) ∙ ap is_scalar (shape_moved s z known there same)
      ∙ scalar_moved (to_new A B) (stored_shape A.schema s) ∙ number_stored A.schema s ∙ is

  kind_known : (k : declared_kind.Kind) → KindNames A.schema k → KnownKind (types_in A) (stored_kind A.schema k)
  kind_known (Scalar b) known = tt
  kind_known (Enum t) known = tt
  kind_known Text known = tt
  kind_known _ known = known.0

  shape_known : (s : declared_shape.Shape) → IsShape A.schema s → KnownShape (types_in A) (stored_shape A.schema s)
  shape_known (One k) known = kind_known k known
  shape_known (Many k) known = kind_known k known.0

  default_moved : (s : declared_shape.Shape) (x y : Bool) (m n : ℤ) → (is_number s ≡ true → (n ≡ m) × (y ≡ x))
      → default_of y n (moved_shape (to_new A B) (stored_shape A.schema s)) ≡ default_of x m (stored_shape A.schema s)
  unfolding is_scalar
  default_moved (One (Scalar b)) x y m n same = rw ((same refl).0, (same refl).1) refl
  default_moved (One (Enum t)) x y m n same = rw ((same refl).0, (same refl).1) refl
  default_moved _ x y m n same = never y n _ refl ∙ sym (never x m _ refl)

  still_in_use : (x y : Bool) → (x ≡ true → y ≡ true) → y ≡ false → x ≡ false
  still_in_use true y h e = let g : y ≡ true = h refl in cc
  still_in_use false y h e = refl

  pub slot_stays : (t k : ℕ) (d e : DeclaredField) → t < types_in A → SlotTwins A.schema B.schema t k d e
      → IsShape A.schema d.shape → IsShape B.schema e.shape
      → SlotStays (to_new A B) (types_in A) (slot_of A.schema d) (slot_of B.schema e)
  slot_stays t k d e known pair first second =
      let id : TypeId = record { 0 = t } in
      let shape = shape_moved d.shape e.shape first second (conforms (FieldTypeChanged id k) d e pair) in
      let used : e.deprecated ≡ false → d.deprecated ≡ false =
      λ h. still_in_use d.deprecated e.deprecated (conforms (DeprecatedTakenBack id k) d e pair) h in
      record {
        shape = shape;
        known = shape_known d.shape first;
        absent = λ h. rw (h, used h, shape)
            (default_moved d.shape d.optional e.optional d.default e.default
            (λ is. conforms (DefaultChanged id k) d e pair is
            (number_kept d.shape e.shape first second (conforms (FieldTypeChanged id k) d e pair) is)));
        required = conforms (RequiredChanged id k) d e pair;
        in_use = used;
        number = λ n h. number_shape (d.deprecated || d.optional) d.default n (stored_shape A.schema d.shape) h;
        left = λ h. rw h refl;
        gone = λ h. rw h refl;
      }

  slots_grown : (t : ℕ) → t < types_in A → Grown (to_new A B) (types_in A) (slots_of A t) (slots_of B (to_new A B t))
  slots_grown t known =
      let id : TypeId = record { 0 = t } in
      let u = to_new A B t in
      let both = twins t known in
      let kind = same_kind t known in
      grown_from A.schema B.schema (to_new A B) (types_in A) (slots_in (body_at A.schema t))
      (slots_in (body_at B.schema u))
      (λ k d h. conforms (SlotGone id k) u d both
      (still_table (body_at A.schema t) (body_at B.schema u) kind (has_slot (body_at A.schema t) k d h)) h)
      (λ k d e h i. slot_stays t k d e known (record { type = u; twins = both; old = h; new = i })
      (slots_shaped A.schema t (body_at A.schema t) (is_body A.schema old.declared t known) k d h)
      (slots_shaped B.schema u (body_at B.schema u) (is_body B.schema new.declared u (within t known)) k e i))
      (λ k e h i. conforms (NewRequired id k) u e both
      (was_table (body_at A.schema t) (body_at B.schema u) kind (has_slot (body_at B.schema u) k e i)) h i)

  pub members_moved : (u c t : ℕ) → u < types_in A → member_by_code A u c ≡ Some t
      → (t < types_in A) × (member_by_code B (to_new A B u) c ≡ Some (to_new A B t))
  members_moved u c t known e =
      let h = members_same A.schema B.schema (body_at A.schema u) (body_at B.schema (to_new A B u)) c t
      (same_kind u known) (conforms (UnionChanged (record { 0 = u })) (to_new A B u) (twins u known)) e in
      let there : h.0 < types_in B = members_known B.schema (to_new A B u) (body_at B.schema (to_new A B u))
      (is_body B.schema new.declared (to_new A B u) (within u known)) c h.0 h.1 in (
        members_known A.schema u (body_at A.schema u) (is_body A.schema old.declared u known) c t e,
        h.1 ∙ ap Some (named t h.0 there h.2),
      )

  -- kinds that take as much under the new schema
  Sized : List StoredKind → Type 0
  Sized [] = Unit {0}
  Sized (k ∷ ks) = (size_of B (moved_kind (to_new A B) k) ≡ size_of A k)
      × (align_of B (moved_kind (to_new A B) k) ≡ align_of A k) × Sized ks

  laid_same : (from : ℕ) (ks : List StoredKind) (os qs : List ℕ) (last end : ℕ) → Sized ks
      → StandInOrder A from ks os last → StandInOrder B from (map (moved_kind (to_new A B)) ks) qs end
      → (qs ≡ os) × (end ≡ last)
  unfolding Sized
  laid_same from [] [] [] last end sized first second = (refl, sym second ∙ first)
  laid_same from (k ∷ ks) (o ∷ os) (q ∷ qs) last end sized first second =
      let here : q ≡ o = least_same _ _ _ _ first.0 (rw (← sized.1) second.0) in
      let after : q + size_of B (moved_kind (to_new A B) k) ≡ o + size_of A k = rw (here, sized.0) refl in
      let rest = laid_same (o + size_of A k) ks os qs last end sized.2 first.1
      (rw (← after) second.1) in
      (rw (here, rest.0) refl, rest.1)
  laid_same from [] (o ∷ os) qs last end sized first second = absurd first
  laid_same from (k ∷ ks) [] qs last end sized first second = absurd first
  laid_same from [] [] (q ∷ qs) last end sized first second = absurd second
  laid_same from (k ∷ ks) (o ∷ os) [] last end sized first second = absurd second

  parts_kinds : (n s : ℕ) (fs gs : List DeclaredField) → AllParts A.schema n fs → AllParts B.schema s gs
      → SameFields A.schema B.schema fs gs
      → map (λ f. kind_in (stored_shape B.schema f.shape)) gs
      ≡ map (moved_kind (to_new A B)) (map (λ f. kind_in (stored_shape A.schema f.shape)) fs)
  parts_kinds n s [] [] first second same = refl
  parts_kinds n s (f ∷ fs) (g ∷ gs) first second same =
      let both = first_same (shape_by_name A.schema f.shape) (shape_by_name B.schema g.shape)
      (map (λ f. shape_by_name A.schema f.shape) fs) (map (λ g. shape_by_name B.schema g.shape) gs) same in
      let here = shape_moved f.shape g.shape (part_shape A.schema n f.shape first.0)
      (part_shape B.schema s g.shape second.0) both.0 in
      let kind : kind_in (stored_shape B.schema g.shape)
      ≡ moved_kind (to_new A B) (kind_in (stored_shape A.schema f.shape)) =
      ap kind_in here ∙ kind_in_moved (to_new A B) (stored_shape A.schema f.shape) in
      rw (kind, parts_kinds n s fs gs first.1 second.1 both.1) refl
  parts_kinds n s [] (g ∷ gs) first second same = cc
  parts_kinds n s (f ∷ fs) [] first second same = cc

  kinds_known : (n : ℕ) (fs : List DeclaredField) → AllParts A.schema n fs
      → KnownKinds (types_in A) (map (λ f. kind_in (stored_shape A.schema f.shape)) fs)
  kinds_known n [] known = tt
  kinds_known n (f ∷ fs) known = (part_kind_known f.shape known.0, kinds_known n fs known.1)
    where
      part_kind_known : (s : declared_shape.Shape) → IsPart A.schema n s
          → KnownKind (types_in A) (kind_in (stored_shape A.schema s))
      part_kind_known (One (Scalar b)) k = tt
      part_kind_known (One (Enum t)) k = tt
      part_kind_known (One (Fixed t)) k = k.1.0
      part_kind_known _ k = absurd k

  Alike : ℕ → Type 0
  Alike s = ((struct_at B (to_new A B s)).size ≡ (struct_at A s).size)
      × ((struct_at B (to_new A B s)).align ≡ (struct_at A s).align)

  parts_sized : (n : ℕ) (fs : List DeclaredField) → AllParts A.schema n fs
      → ((t : ℕ) → t < n → t < types_in A → Alike t) → Sized (map (λ f. kind_in (stored_shape A.schema f.shape)) fs)
  unfolding Sized Alike
  parts_sized n [] known lower = tt
  parts_sized n (f ∷ fs) known lower = by_shape f.shape known.0 (parts_sized n fs known.1 lower)
    where
      by_shape : (s : declared_shape.Shape) → IsPart A.schema n s
          → Sized (map (λ f. kind_in (stored_shape A.schema f.shape)) fs)
          → Sized (kind_in (stored_shape A.schema s) ∷ map (λ f. kind_in (stored_shape A.schema f.shape)) fs)
      by_shape (One (Scalar b)) k rest = (refl, refl, rest)
      by_shape (One (Enum t)) k rest = (refl, refl, rest)
      by_shape (One (Fixed t)) k rest = let h = lower t.0 k.0 k.1.0 in (h.0, h.1, rest)
      by_shape _ k rest = absurd k

  -- a struct takes what it took
  struct_from : (s : ℕ) → s < types_in A → ((t : ℕ) → t < s → t < types_in A → Alike t)
      → IsTrue (is_struct (body_at A.schema s)) → StructStays A B (to_new A B) (types_in A) s (to_new A B s)
  struct_from s known lower is =
      let u = to_new A B s in
      let x = body_at A.schema s in
      let y = body_at B.schema u in
      let kept = struct_kept A B s u x y is (same_kind s known)
      (conforms (StructChanged (record { 0 = s })) u (twins s known)) in
      let first = old.sized.structs s is in
      let second = new.sized.structs u kept.0 in
      let parts = parts_known A.schema s x (is_body A.schema old.declared s known) in
      let kinds : parts_of B u ≡ map (moved_kind (to_new A B)) (parts_of A s) =
      parts_kinds s u (parts_in x) (parts_in y) parts
      (parts_known B.schema u y (is_body B.schema new.declared u (within s known))) kept.1 in
      let sized = parts_sized s (parts_in x) parts lower in
      let same = laid_same 0 (parts_of A s) (struct_at A s).offsets (struct_at B u).offsets first.end second.end sized
      first.fields (rw (← kinds) second.fields) in
      let size_in : IsLeastMultiple (struct_at A s).align first.end (struct_at B u).size =
      rw (← kept.2) (rw (← same.1) second.sized) in
      record {
        size = least_same _ _ _ _ first.sized size_in;
        align = kept.2;
        offsets = same.0;
        kinds = kinds;
        known = kinds_known s (parts_in x) parts;
      }

  -- what is no struct takes nothing of its own
  none_from : (s : ℕ) → s < types_in A → is_struct (body_at A.schema s) ≡ false
      → StructStays A B (to_new A B) (types_in A) s (to_new A B s)
  none_from s known is =
      let u = to_new A B s in
      let kept = no_struct_kept (body_at A.schema s) (body_at B.schema u) is (same_kind s known) in
      let same : struct_at B u ≡ struct_at A s = new.sized.others u kept.0 ∙ sym (old.sized.others s is) in
      let none : parts_of A s ≡ [] = ap (λ fs. map (λ f. kind_in (stored_shape A.schema f.shape)) fs) kept.1 in
      let none_too : parts_of B u ≡ [] = ap (λ fs. map (λ f. kind_in (stored_shape B.schema f.shape)) fs) kept.2 in
      record {
        size = ap (λ r. r.size) same;
        align = ap (λ r. r.align) same;
        offsets = ap (λ r. r.offsets) same;
        kinds = none_too ∙ ap (map (moved_kind (to_new A B))) (sym none);
        known = rw none tt;
      }

  struct_either : (s : ℕ) → s < types_in A → ((t : ℕ) → t < s → t < types_in A → Alike t) → (c : Bool)
      → is_struct (body_at A.schema s) ≡ c → StructStays A B (to_new A B) (types_in A) s (to_new A B s)
  struct_either s known lower true is = struct_from s known lower is
  struct_either s known lower false is = none_from s known is

  struct_stays : (fuel s : ℕ) → s < fuel → s < types_in A → StructStays A B (to_new A B) (types_in A) s (to_new A B s)
  unfolding Alike
  struct_stays zero s h known = absurd (omega arith)
  struct_stays (suc fuel) s h known =
      struct_either s known (λ t less inside. let below = struct_stays fuel t (omega arith) inside in
      (below.size, below.align)) (is_struct (body_at A.schema s)) refl

  pub agrees : Agrees A B
  agrees = record {
    root = named A.schema.root B.schema.root new.declared.root.0 (conforms RootChanged);
    root_known = old.declared.root.0;
    identifier = conforms IdentifierChanged;
    slots = λ t known. slots_grown t known;
    structs = λ s known. struct_stays (suc s) s (omega arith) known;
    members = λ u c t known e. members_moved u c t known e;
  }
