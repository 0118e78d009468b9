-- What leaves and codes spend, and a fault of the limits in them.
use Rattle.std.proofs.Common.{◌≡◌, ◌∙◌, inl, inr, ℕ, ◌+◌, ◌≤◌, ◌<◌, length, Bool, true, false, Option, Some, None}
use Rattle.std.proofs.Common.{Result, Ok, Err, nat_lt, if◌then◌else◌, Ordering, Equal, refl, sym}
use Rattle.std.proofs.Common.{subst, arith}
use Rattle.std.specs.Ordering.{nat_cmp, match_ordering}
use Rattle.std.specs.Cmp.Lexicographic.{slice_cmp}
use Rattle.serde_json.specs.Data.{Data, null, boolean, number, string, array, object, Members, no_members, member}
use Rattle.serde_json.specs.Find.{get_member}
use Rattle.fb_schema.specs.declared.kinds.Base.{Base}
use Rattle.fb_schema.specs.declared.kinds.TypeId.{TypeId}
use Rattle.fb_schema.specs.declared.kinds.Kind.TheVariants.{Scalar, Enum, Code, Text}
use Rattle.fb_schema.specs.declared.kinds.Shape.{Shape}
use Rattle.fb_schema.specs.declared.kinds.Shape.TheVariants.{One}
use Rattle.fb_schema.specs.Schema.{Name, DeclaredField, DeclaredSchema}
use Rattle.fb_layout.specs.Laid.{LaidSchema}
use Rattle.fb_value.specs.Datum.{Datum}
use Rattle.fb_json.specs.declared.faults.Place.{Place}
use Rattle.fb_json.specs.declared.faults.JsonFault.{JsonFault}
use Rattle.fb_json.specs.declared.faults.JsonFault.TheVariants.{WrongShape, TooDeep, TooManyCells}
use Rattle.fb_json.specs.Outcome.{spent}
use Rattle.fb_json.specs.Leaves.{scalar_meant, enum_meant, text_meant, leaf_meant}
use Rattle.fb_json.specs.Meant.{type_place, meant}
use Rattle.fb_json.specs.Means.{unless_null, member_called, CodeAt}
use Rattle.std.proofs.lemmas.Bool.Decides.{nat_tests}
use Rattle.fb_json.specs.Breaks.{OwnBreaks, ToldBreaks}
use Rattle.fb_json.specs.Laws.{Over}
use Rattle.fb_json.specs.TreeCounts.{Measure, code_of, code_behind, counted, counter, tree_cells, tree_depth}
use Rattle.fb_json.proofs.laws.EachStepOfABindSucceeds.{rest_ok, bind_err, bind_ok, spent_ok}
use Rattle.fb_json.proofs.laws.MeantLeafIsComputed.{told_full}
use Rattle.fb_json.proofs.laws.FaultOfALeafIsABrokenRule.{err_inj, no_err, scalar_broken, enum_broken}
use Rattle.fb_json.specs.Means.{CodeMeans}

-- ---- faults

pub over_map : (d d2 c c2 levels levels2 left left2 : ℕ) (f : JsonFault) → (levels < d → levels2 < d2)
    → (left < c → left2 < c2) → Over d c levels left f → Over d2 c2 levels2 left2 f
over_map d d2 c c2 levels levels2 left left2 (TooDeep at) deep many h = deep h
over_map d d2 c c2 levels levels2 left left2 (TooManyCells at) deep many h = many h
over_map d d2 c c2 levels levels2 left left2 _ deep many h = tt

pub over_wrong : {A : Type 0} (d c levels left : ℕ) (at : Place) (f : JsonFault)
    → ◌≡◌ {A = Result A JsonFault} (Err (WrongShape at)) (Err f) → Over d c levels left f
over_wrong {A} d c levels left at f h = subst (Over d c levels left) (err_inj {A = A} (WrongShape at) f h) tt

pub own_over : (S : DeclaredSchema) (t : Data) (shape : Shape) (at : Place) (d c levels left : ℕ) (f : JsonFault)
    → OwnBreaks S t shape at f → Over d c levels left f
own_over S t shape at d c levels left (TooDeep p) h = absurd h
own_over S t shape at d c levels left (TooManyCells p) h = absurd h
own_over S t shape at d c levels left _ h = tt

pub told_over : (S : DeclaredSchema) (u : ℕ) (t : Data) (at : Place) (d c levels left : ℕ) (f : JsonFault)
    → ToldBreaks S u t at f → Over d c levels left f
told_over S u null at d c levels left (TooDeep p) h = absurd h
told_over S u (boolean b) at d c levels left (TooDeep p) h = absurd h
told_over S u (number x) at d c levels left (TooDeep p) h = absurd h
told_over S u (string s) at d c levels left (TooDeep p) h = absurd h
told_over S u (array ts) at d c levels left (TooDeep p) h = absurd h
told_over S u (object ms) at d c levels left (TooDeep p) h = absurd h
told_over S u null at d c levels left (TooManyCells p) h = absurd h
told_over S u (boolean b) at d c levels left (TooManyCells p) h = absurd h
told_over S u (number x) at d c levels left (TooManyCells p) h = absurd h
told_over S u (string s) at d c levels left (TooManyCells p) h = absurd h
told_over S u (array ts) at d c levels left (TooManyCells p) h = absurd h
told_over S u (object ms) at d c levels left (TooManyCells p) h = absurd h
told_over S u t at d c levels left _ h = tt

pub spent_by : (b : Bool) (n m left d c levels : ℕ) (at : Place) (f : JsonFault) → nat_lt left n ≡ b → n ≤ c
    → ◌≡◌ {A = Result ℕ JsonFault} (if b then Err (TooManyCells at) else Ok m) (Err f) → Over d c levels left f
spent_by true n m left d c levels at f is most h =
    let much : left < c = grind (arith, nat_tests) in
    subst (Over d c levels left) (err_inj {A = ℕ} (TooManyCells at) f h) much
spent_by false n m left d c levels at f is most h = absurd (no_err m f h)

pub spent_over : (n left d c levels : ℕ) (at : Place) (f : JsonFault) → n ≤ c → spent n at left ≡ Err f
    → Over d c levels left f
spent_over n left d c levels at f most h = spent_by (nat_lt left n) n _ left d c levels at f refl most h

-- ---- what a look-up counts

module _ (L : LaidSchema) (m : Measure) where
  abbrev pub count_of : Option Data → Shape → ℕ
  count_of None shape = 0
  count_of (Some t) shape = counted L m t shape

  pub picked_count : (o : Ordering) (d : Data) (rest : Option Data) (more : ℕ) (shape : Shape)
      → more ≡ count_of rest shape
      → match_ordering o more (counted L m d shape) more ≡ count_of (match_ordering o rest (Some d) rest) shape
  picked_count Equal d rest more shape h = refl
  picked_count _ d rest more shape h = h

  pub counter_is : (ms : Members) (k : Name) (shape : Shape) → counter L m ms k shape ≡ count_of (get_member k ms) shape
  counter_is no_members k shape = refl
  counter_is (member l d ms) k shape = picked_count (slice_cmp nat_cmp k l) d (get_member k ms) (counter L m ms k shape)
      shape (counter_is ms k shape)

  pub null_count : (o : Option Data) (shape : Shape) → count_of o shape ≡ count_of (unless_null o) shape
  null_count None shape = refl
  null_count (Some null) shape = refl
  null_count (Some (boolean b)) shape = refl
  null_count (Some (number x)) shape = refl
  null_count (Some (string s)) shape = refl
  null_count (Some (array ts)) shape = refl
  null_count (Some (object ms)) shape = refl

  pub called_count : (ms : Members) (k : Name) (shape : Shape)
      → counter L m ms k shape ≡ count_of (member_called k ms) shape
  called_count ms k shape = counter_is ms k shape ∙ null_count (get_member k ms) shape

-- ---- codes

module _ (L : LaidSchema) (unknown : Bool) where
  pub code_of_is : (u c : ℕ) (o : Option Data) → CodeMeans L.schema u o c → code_of L.schema u o ≡ c
  code_of_is u c None h = sym h
  code_of_is u c (Some t) h = rw (told_full L.schema u c t (type_place u) h) refl

  pub behind_is : (ms : Members) (s : DeclaredField) (before c : ℕ) (deprecated : Bool) (shape : Shape)
      → CodeAt L.schema ms s deprecated shape before c → code_behind L.schema ms before s.name deprecated shape ≡ c
  behind_is ms s before c false (One (Code u)) h = code_of_is u.0 c (get_member s.name ms) h
  behind_is ms s before c true shape h = sym h
  behind_is ms s before c false _ h = sym h

  abbrev pub SpentAt : Data → Type 0
  SpentAt t = (shape : Shape) (at : Place) (levels left : ℕ) (p : Datum × ℕ) → meant L unknown t shape at levels left
      ≡ Ok p → p.1 + tree_cells L t shape ≡ left

  abbrev pub LimitAt : Data → Type 0
  LimitAt t = (shape : Shape) (at : Place) (levels left : ℕ) (f : JsonFault) → meant L unknown t shape at levels left
      ≡ Err f → Over (tree_depth L t shape) (tree_cells L t shape) levels left f

  -- ---- leaves

  pub text_spent : (t : Data) (at : Place) (left : ℕ) (p : Datum × ℕ) → text_meant t at left ≡ Ok p
      → p.1 + tree_cells L t (One Text) ≡ left
  unfolding text_meant
  text_spent (string s) at left p h =
      let got = bind_ok (spent (1 + length s) at left) _ p h in
      let same = rest_ok _ p got.2 in
      let sum = spent_ok (1 + length s) at left got.0 got.1 in
      omega arith
  text_spent _ at left p h = cc

  pub text_limit : (t : Data) (at : Place) (levels left : ℕ) (f : JsonFault) → text_meant t at left ≡ Err f
      → Over (tree_depth L t (One Text)) (tree_cells L t (One Text)) levels left f
  unfolding text_meant
  text_limit (string s) at levels left f h =
      elim (bind_err (spent (1 + length s) at left) _ f h) as (λ _. Over 0 (1 + length s) levels left f) [
        | inl e ↦ spent_over (1 + length s) left 0 (1 + length s) levels at f (omega arith) e
        | inr x ↦
            absurd (no_err _ f x.2)
      ]
  text_limit (array ts) at levels left f h = over_wrong {A = Datum × ℕ} _ _ levels left at f h
  text_limit (object ms) at levels left f h = over_wrong {A = Datum × ℕ} _ _ levels left at f h
  text_limit _ at levels left f h = over_wrong {A = Datum × ℕ} 0 0 levels left at f h

  -- what counts nothing but as a text
  abbrev pub IsLeaf : Data → Type 0
  IsLeaf t = ((base : Base) → tree_cells L t (One (Scalar base)) ≡ 0)
      × ((e : TypeId) → tree_cells L t (One (Enum e)) ≡ 0)

  pub leaf_spent : (t : Data) (shape : Shape) (at : Place) (left : ℕ) (p : Datum × ℕ) → IsLeaf t
      → leaf_meant L.schema t shape at left ≡ Ok p → p.1 + tree_cells L t shape ≡ left
  unfolding leaf_meant
  leaf_spent t (One (Scalar base)) at left p leaf h =
      let got = bind_ok (scalar_meant base t at) _ p h in
      let same = rest_ok _ p got.2 in
      let none = leaf.0 base in
      omega arith
  leaf_spent t (One (Enum id)) at left p leaf h =
      let got = bind_ok (enum_meant L.schema id.0 t at) _ p h in
      let same = rest_ok _ p got.2 in
      let none = leaf.1 id in
      omega arith
  leaf_spent t (One Text) at left p leaf h = text_spent t at left p h
  leaf_spent t _ at left p leaf h = cc

  pub leaf_limit : (t : Data) (shape : Shape) (at : Place) (levels left : ℕ) (f : JsonFault)
      → leaf_meant L.schema t shape at left ≡ Err f → Over (tree_depth L t shape) (tree_cells L t shape) levels left f
  unfolding leaf_meant
  leaf_limit t (One (Scalar base)) at levels left f h =
      elim (bind_err (scalar_meant base t at) _ f h) as
      (λ _. Over (tree_depth L t (One (Scalar base))) (tree_cells L t (One (Scalar base))) levels left f) [
        | inl e ↦ own_over L.schema t (One (Scalar base)) at _ _ levels left f (scalar_broken L.schema at base t f e)
        | inr x ↦ absurd (no_err _ f x.2)
      ]
  leaf_limit t (One (Enum id)) at levels left f h =
      elim (bind_err (enum_meant L.schema id.0 t at) _ f h) as
      (λ _. Over (tree_depth L t (One (Enum id))) (tree_cells L t (One (Enum id))) levels left f) [
        | inl e ↦ own_over L.schema t (One (Enum id)) at _ _ levels left f (enum_broken L.schema at id t f e)
        | inr x ↦ absurd (no_err _ f x.2)
      ]
  leaf_limit t (One Text) at levels left f h = text_limit t at levels left f h
  leaf_limit t _ at levels left f h = over_wrong {A = Datum × ℕ} _ _ levels left at f h
