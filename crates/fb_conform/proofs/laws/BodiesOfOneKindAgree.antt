-- What two bodies, kinds and slots share, part by part.
use Rattle.std.proofs.Common.{◌≡◌, ℕ, zero, suc, ◌≤◌, Bool, true, false, IsTrue, List, [], ◌∷◌, map, Option, None, Some}
use Rattle.std.proofs.Common.{slice_get, ℤ, refl, arith}
use Rattle.fb_schema.specs.declared.kinds.Base.{Base}
use Rattle.fb_schema.specs.declared.kinds.Kind.TheVariants.{Scalar}
use Rattle.fb_schema.specs.declared.kinds.Shape as declared_shape
use Rattle.fb_schema.specs.declared.kinds.Shape.TheVariants.{One}
use Rattle.fb_schema.specs.Schema.{Name, DeclaredField, DeclaredBody, table_body, struct_body, enum_body, union_body}
use Rattle.fb_schema.specs.Schema.{DeclaredSchema, slots_in, parts_in, base_in, is_table, is_struct, is_enum, is_union}
use Rattle.fb_schema.specs.Found.{member_coded}
use Rattle.fb_layout.specs.Laid.{LaidSchema, scalar_kind}
use Rattle.fb_layout.specs.Laid.{StoredShape, one_of, vector_of, stored_shape, default_of, slot_of, kind_in, struct_at}
use Rattle.fb_conform.specs.Twins.{SameName}
use Rattle.fb_conform.specs.Conforms.{SameKind, SameStruct, KeepsValues, KeepsMembers, is_number, is_required}
use Rattle.fb_conform.specs.ByName.{SameFields, KindByName, basic_type, named_type, code_type, ShapeByName, one_by_name}
use Rattle.fb_conform.specs.ByName.{vector_by_name}
use Rattle.fb_conform.proofs.laws.OldTypesByTheirNewNumbers.{moved_kind, moved_shape}
use Rattle.fb_layout.specs.Sizes.{IsLeastMultiple}
use Rattle.fb_conform.proofs.laws.LayoutsAgree.{SlotStays, Grown}

-- numbers that are least are the same
pub least_same : (a n m o : ℕ) → IsLeastMultiple a n m → IsLeastMultiple a n o → o ≡ m
least_same a n m o first second =
    let below : o ≤ m = rw first.multiple.1 (second.least first.multiple.0 (rw (← first.multiple.1) first.above)) in
    let above : m ≤ o = rw second.multiple.1 (first.least second.multiple.0 (rw (← second.multiple.1) second.above)) in
    omega arith

pub base_same : (x y : DeclaredBody) → SameKind x y → KeepsValues x y → base_in y ≡ base_in x
base_same (table_body fs) (table_body gs) same keeps = refl
base_same (struct_body fs m) (struct_body gs n) same keeps = refl
base_same (enum_body b flags values) (enum_body c marks others) same keeps = keeps.0
base_same (union_body ms) (union_body ns) same keeps = refl
base_same _ _ same keeps = absurd same

-- what the bodies of two types of one kind share
pub sort_of_body : DeclaredBody → ℕ
sort_of_body (table_body fs) = 0
sort_of_body (struct_body fs m) = 1
sort_of_body (enum_body b flags values) = 2
sort_of_body (union_body ms) = 3

pub same_sort : (x y : DeclaredBody) → SameKind x y → sort_of_body y ≡ sort_of_body x
unfolding sort_of_body
same_sort (table_body fs) (table_body gs) same = refl
same_sort (struct_body fs m) (struct_body gs n) same = refl
same_sort (enum_body b flags values) (enum_body c marks others) same = refl
same_sort (union_body ms) (union_body ns) same = refl
same_sort _ _ same = absurd same

pub table_sort : (x : DeclaredBody) → IsTrue (is_table x) → sort_of_body x ≡ 0
unfolding sort_of_body
table_sort (table_body fs) h = refl
table_sort _ h = cc

pub struct_sort : (x : DeclaredBody) → IsTrue (is_struct x) → sort_of_body x ≡ 1
unfolding sort_of_body
struct_sort (struct_body fs m) h = refl
struct_sort _ h = cc

pub enum_sort : (x : DeclaredBody) → IsTrue (is_enum x) → sort_of_body x ≡ 2
unfolding sort_of_body
enum_sort (enum_body b flags values) h = refl
enum_sort _ h = cc

pub union_sort : (x : DeclaredBody) → IsTrue (is_union x) → sort_of_body x ≡ 3
unfolding sort_of_body
union_sort (union_body ms) h = refl
union_sort _ h = cc

pub still_table : (x y : DeclaredBody) → SameKind x y → IsTrue (is_table x) → IsTrue (is_table y)
still_table (table_body fs) (table_body gs) same h = h
still_table (table_body fs) _ same h = absurd same
still_table _ y same h = cc

pub was_table : (x y : DeclaredBody) → SameKind x y → IsTrue (is_table y) → IsTrue (is_table x)
was_table (table_body fs) y same h = refl
was_table (struct_body fs m) (struct_body gs n) same h = cc
was_table (enum_body b flags values) (enum_body c marks others) same h = cc
was_table (union_body ms) (union_body ns) same h = cc
was_table _ _ same h = absurd same

pub has_slot : (x : DeclaredBody) (k : ℕ) (f : DeclaredField) → slice_get (slots_in x) k ≡ Some f → IsTrue (is_table x)
has_slot (table_body fs) k f e = refl
has_slot _ k f e = cc

pub struct_kept : (A B : LaidSchema) (t u : ℕ) (x y : DeclaredBody) → IsTrue (is_struct x) → SameKind x y
    → SameStruct A B t u x y
    → IsTrue (is_struct y) × SameFields A.schema B.schema (parts_in x) (parts_in y)
    × ((struct_at B u).align ≡ (struct_at A t).align)
struct_kept A B t u (struct_body fs m) (struct_body gs n) h same keeps = (refl, keeps.0, keeps.1)
struct_kept A B t u (struct_body fs m) _ h same keeps = absurd same
struct_kept A B t u _ y h same keeps = cc

-- what is no struct stays none, and has no fields
pub no_struct_kept : (x y : DeclaredBody) → is_struct x ≡ false → SameKind x y
    → (is_struct y ≡ false) × (parts_in x ≡ []) × (parts_in y ≡ [])
no_struct_kept (table_body fs) (table_body gs) e same = (refl, refl, refl)
no_struct_kept (enum_body b flags values) (enum_body c marks others) e same = (refl, refl, refl)
no_struct_kept (union_body ms) (union_body ns) e same = (refl, refl, refl)
no_struct_kept (struct_body fs m) y e same = cc
no_struct_kept _ _ e same = absurd same

pub members_same : (S T : DeclaredSchema) (x y : DeclaredBody) (c t : ℕ) → SameKind x y → KeepsMembers S T x y
    → member_coded x c ≡ Some t → (u : ℕ) × (member_coded y c ≡ Some u) × SameName S T t u
members_same S T (union_body ms) (union_body ns) c t same keeps e = keeps c t e
members_same S T (union_body ms) _ c t same keeps e = absurd same
members_same S T _ y (suc c) t same keeps e = cc
members_same S T _ y zero t same keeps e = cc

-- slots of two tables, once each pair is known
pub grown_from : (S T : DeclaredSchema) (to : ℕ → ℕ) (n : ℕ) (ds es : List DeclaredField)
    → ((k : ℕ) (d : DeclaredField) → slice_get ds k ≡ Some d → (e : DeclaredField) × (slice_get es k ≡ Some e))
    → ((k : ℕ) (d e : DeclaredField) → slice_get ds k ≡ Some d → slice_get es k ≡ Some e
    → SlotStays to n (slot_of S d) (slot_of T e))
    → ((k : ℕ) (e : DeclaredField) → slice_get ds k ≡ None → slice_get es k ≡ Some e → is_required e ≡ false)
    → Grown to n (map (slot_of S) ds) (map (slot_of T) es)
grown_from S T to n [] [] there both added = tt
grown_from S T to n [] (e ∷ es) there both added = (
  added 0 e refl refl,
  grown_from S T to n [] es (λ k d h. let bad : None ≡ Some d = h in cc)
      (λ k d e h i. let bad : None ≡ Some d = h in cc) (λ k e h i. added (suc k) e refl i),
)
grown_from S T to n (d ∷ ds) [] there both added = let h = there 0 d refl in let bad : None ≡ Some h.0 = h.1 in cc
grown_from S T to n (d ∷ ds) (e ∷ es) there both added = (
  both 0 d e refl refl,
  grown_from S T to n ds es (λ k d h. there (suc k) d h) (λ k d e h i. both (suc k) d e h i)
      (λ k e h i. added (suc k) e h i),
)

unfoldable pub is_scalar : StoredShape → Bool
is_scalar (one_of (scalar_kind base)) = true
is_scalar _ = false

pub never : (gone : Bool) (n : ℤ) (s : StoredShape) → is_scalar s ≡ false → default_of gone n s ≡ None
unfolding is_scalar
never false n (one_of (scalar_kind base)) e = cc
never _ n _ e = refl

pub number_stored : (S : DeclaredSchema) (z : declared_shape.Shape) → is_scalar (stored_shape S z) ≡ is_number z
unfolding is_scalar
number_stored S (One (Scalar b)) = refl
number_stored S _ = refl

pub scalar_moved : (to : ℕ → ℕ) (s : StoredShape) → is_scalar (moved_shape to s) ≡ is_scalar s
unfolding is_scalar
scalar_moved to (one_of (scalar_kind base)) = refl
scalar_moved to _ = refl

pub kind_in_moved : (to : ℕ → ℕ) (s : StoredShape) → kind_in (moved_shape to s) ≡ moved_kind to (kind_in s)
kind_in_moved to (one_of kind) = refl
kind_in_moved to (vector_of kind) = refl

pub name_same : (x y : Option Name) → named_type x ≡ named_type y → x ≡ y
name_same x y e = cc

pub code_same : (x y : Option Name) → code_type x ≡ code_type y → x ≡ y
code_same x y e = cc

pub basic_same : (x y : Base) → basic_type x ≡ basic_type y → x ≡ y
basic_same x y e = cc

pub one_same : (x y : KindByName) → one_by_name x ≡ one_by_name y → x ≡ y
one_same x y e = cc

pub vector_same : (x y : KindByName) → vector_by_name x ≡ vector_by_name y → x ≡ y
vector_same x y e = cc

pub first_same : (x y : ShapeByName) (xs ys : List ShapeByName) → x ∷ xs ≡ y ∷ ys → (x ≡ y) × (xs ≡ ys)
first_same x y xs ys e = (cc, cc)
