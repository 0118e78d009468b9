-- A fault of the limits comes only where a tree is over them.
use Rattle.std.proofs.Common.{◌≡◌, inl, inr, ℕ, ◌+◌, List, Bool, Some, Ok, Err, Less, Equal, Greater, refl, subst}
use Rattle.std.proofs.Common.{arith}
use Rattle.std.proofs.lemmas.Option.{same_Some}
use Rattle.std.specs.Ordering.{nat_cmp, match_ordering}
use Rattle.std.specs.Cmp.Lexicographic.{slice_cmp}
use Rattle.serde_json.specs.Data.{Data, null, boolean, number, string, array, object, Items, no_items, item, Members}
use Rattle.serde_json.specs.Data.{no_members, member}
use Rattle.serde_json.specs.Find.{get_member}
use Rattle.fb_schema.specs.declared.kinds.Kind.{Kind}
use Rattle.fb_schema.specs.declared.kinds.Shape.{Shape}
use Rattle.fb_schema.specs.declared.kinds.Shape.TheVariants.{One, Many}
use Rattle.fb_layout.specs.Laid.{LaidSchema}
use Rattle.fb_value.specs.Datum.{Datum}
use Rattle.fb_json.specs.declared.faults.Place.{Place}
use Rattle.fb_json.specs.declared.faults.JsonFault.{JsonFault}
use Rattle.fb_json.specs.Outcome.{spent}
use Rattle.fb_json.specs.Meant.{vector_meant, meant, items_meant, count as items_count}
use Rattle.fb_json.specs.Laws.{Over}
use Rattle.fb_json.specs.TreeCounts.{cells_measure, depth_measure, items_counted, tree_cells, tree_depth}
use Rattle.fb_json.proofs.laws.EachStepOfABindSucceeds.{rest_ok, bind_err, bind_ok, spent_ok}
use Rattle.fb_json.proofs.laws.FaultOfALeafIsABrokenRule.{no_err}
use Rattle.fb_json.proofs.laws.LeavesSpendTheirCells.{over_map, over_wrong, spent_over, SpentAt, LimitAt, leaf_spent}
use Rattle.fb_json.proofs.laws.LeavesSpendTheirCells.{leaf_limit}
use Rattle.fb_json.proofs.laws.EntriesSpendTheirCells.{Spends, Limits}
use Rattle.fb_json.proofs.laws.SlotsSpendTheirCells.{object_spent, object_limit}

-- ---- lists

vector_spent : (L : LaidSchema) (unknown : Bool) (ts : Items) (shape : Shape) (at : Place) (levels left : ℕ)
    (p : Datum × ℕ) → ((kind : Kind) (l : ℕ) (xs : List Datum × ℕ) → items_meant L unknown ts kind at levels l ≡ Ok xs
    → xs.1 + items_counted L cells_measure ts kind ≡ l)
    → vector_meant (items_meant L unknown ts) (items_count ts) shape at levels left ≡ Ok p
    → p.1 + tree_cells L (array ts) shape ≡ left
unfolding vector_meant
vector_spent L unknown ts (Many kind) at levels left p each h =
    let paid = bind_ok (spent (1 + items_count ts) at left) _ p h in
    let given = bind_ok (items_meant L unknown ts kind at levels paid.0) _ p paid.2 in
    let same = rest_ok _ p given.2 in
    let one = spent_ok (1 + items_count ts) at left paid.0 paid.1 in
    let rest = each kind paid.0 given.0 given.1 in
    omega arith
vector_spent L unknown ts (One kind) at levels left p each h = cc

vector_limit : (L : LaidSchema) (unknown : Bool) (ts : Items) (shape : Shape) (at : Place) (levels left : ℕ)
    (f : JsonFault) → ((kind : Kind) (l : ℕ) → items_meant L unknown ts kind at levels l ≡ Err f
    → Over (items_counted L depth_measure ts kind) (items_counted L cells_measure ts kind) levels l f)
    → vector_meant (items_meant L unknown ts) (items_count ts) shape at levels left ≡ Err f
    → Over (tree_depth L (array ts) shape) (tree_cells L (array ts) shape) levels left f
unfolding vector_meant
vector_limit L unknown ts (Many kind) at levels left f each h =
    elim (bind_err (spent (1 + items_count ts) at left) _ f h) as
    (λ _. Over (tree_depth L (array ts) (Many kind)) (tree_cells L (array ts) (Many kind)) levels left f) [
      | inl e ↦ spent_over (1 + items_count ts) left _ _ levels at f (omega arith) e
      | inr x ↦
          let one = spent_ok (1 + items_count ts) at left x.0 x.1 in
          elim (bind_err (items_meant L unknown ts kind at levels x.0) _ f x.2) as
          (λ _. Over (tree_depth L (array ts) (Many kind)) (tree_cells L (array ts) (Many kind)) levels left f) [
            | inl e ↦ over_map _ _ (items_counted L cells_measure ts kind) _ levels levels x.0 left f (λ l. l)
                (λ l. omega arith) (each kind x.0 e)
            | inr z ↦ absurd (no_err _ f z.2)
          ]
    ]
vector_limit L unknown ts (One kind) at levels left f each h = over_wrong {A = Datum × ℕ} _ _ levels left at f h

mutual
  pub spends : (L : LaidSchema) (unknown : Bool) (t : Data) → SpentAt L unknown t
  spends L unknown null shape at levels left p h = leaf_spent L unknown null shape at left p ((λ b. refl), (λ e. refl))
      h
  spends L unknown (boolean b) shape at levels left p h =
      leaf_spent L unknown (boolean b) shape at left p ((λ b. refl), (λ e. refl)) h
  spends L unknown (number x) shape at levels left p h =
      leaf_spent L unknown (number x) shape at left p ((λ b. refl), (λ e. refl)) h
  spends L unknown (string s) shape at levels left p h =
      leaf_spent L unknown (string s) shape at left p ((λ b. refl), (λ e. refl)) h
  spends L unknown (array ts) shape at levels left p h =
      vector_spent L unknown ts shape at levels left p (λ kind l xs g. items_spend L unknown ts kind at levels l xs g) h
  spends L unknown (object ms) shape at levels left p h =
      object_spent L unknown ms (λ k t found. member_spends L unknown ms k t found) shape at levels left p h

  items_spend : (L : LaidSchema) (unknown : Bool) (ts : Items) (kind : Kind) (at : Place) (levels left : ℕ)
      (xs : List Datum × ℕ) → items_meant L unknown ts kind at levels left ≡ Ok xs
      → xs.1 + items_counted L cells_measure ts kind ≡ left
  items_spend L unknown no_items kind at levels left xs h = let same = rest_ok _ xs h in omega arith
  items_spend L unknown (item t ts) kind at levels left xs h =
      let given = bind_ok (meant L unknown t (One kind) at levels left) _ xs h in
      let later = bind_ok (items_meant L unknown ts kind at levels given.0.1) _ xs given.2 in
      let same = rest_ok _ xs later.2 in
      let one = spends L unknown t (One kind) at levels left given.0 given.1 in
      let rest = items_spend L unknown ts kind at levels given.0.1 later.0 later.1 in
      omega arith

  member_spends : (L : LaidSchema) (unknown : Bool) (ms : Members) → Spends L unknown ms
  member_spends L unknown no_members k t found = cc
  member_spends L unknown (member l d ms) k t found =
      elim (slice_cmp nat_cmp k l) as (λ o. match_ordering o (get_member k ms) (Some d) (get_member k ms) ≡ Some t
      → SpentAt L unknown t) [
        | Less ↦ λ h. member_spends L unknown ms k t h
        | Equal ↦ λ h. subst (SpentAt L unknown) (same_Some d t h) (spends L unknown d)
        | Greater ↦ λ h. member_spends L unknown ms k t h
      ] found

mutual
  pub limited : (L : LaidSchema) (unknown : Bool) (t : Data) → LimitAt L unknown t
  limited L unknown null shape at levels left f h = leaf_limit L unknown null shape at levels left f h
  limited L unknown (boolean b) shape at levels left f h = leaf_limit L unknown (boolean b) shape at levels left f h
  limited L unknown (number x) shape at levels left f h = leaf_limit L unknown (number x) shape at levels left f h
  limited L unknown (string s) shape at levels left f h = leaf_limit L unknown (string s) shape at levels left f h
  limited L unknown (array ts) shape at levels left f h =
      vector_limit L unknown ts shape at levels left f (λ kind l g. items_limit L unknown ts kind at levels l f g) h
  limited L unknown (object ms) shape at levels left f h =
      object_limit L unknown ms (λ k t found. member_spends L unknown ms k t found)
      (λ k t found. member_limits L unknown ms k t found) shape at levels left f h

  items_limit : (L : LaidSchema) (unknown : Bool) (ts : Items) (kind : Kind) (at : Place) (levels left : ℕ)
      (f : JsonFault) → items_meant L unknown ts kind at levels left ≡ Err f
      → Over (items_counted L depth_measure ts kind) (items_counted L cells_measure ts kind) levels left f
  items_limit L unknown no_items kind at levels left f h = absurd (no_err _ f h)
  items_limit L unknown (item t ts) kind at levels left f h =
      elim (bind_err (meant L unknown t (One kind) at levels left) _ f h) as
      (λ _. Over (items_counted L depth_measure (item t ts) kind) (items_counted L cells_measure (item t ts) kind)
      levels left f) [
        | inl e ↦ over_map (tree_depth L t (One kind)) _ (tree_cells L t (One kind)) _ levels levels left left f
            (λ l. omega arith) (λ l. omega arith) (limited L unknown t (One kind) at levels left f e)
        | inr x ↦
            let one = spends L unknown t (One kind) at levels left x.0 x.1 in
            elim (bind_err (items_meant L unknown ts kind at levels x.0.1) _ f x.2) as
            (λ _. Over (items_counted L depth_measure (item t ts) kind)
            (items_counted L cells_measure (item t ts) kind) levels left f) [
              | inl e ↦ over_map (items_counted L depth_measure ts kind) _ (items_counted L cells_measure ts kind) _
                  levels levels x.0.1 left f (λ l. omega arith) (λ l. omega arith)
                  (items_limit L unknown ts kind at levels x.0.1 f e)
              | inr z ↦ absurd (no_err _ f z.2)
            ]
      ]

  member_limits : (L : LaidSchema) (unknown : Bool) (ms : Members) → Limits L unknown ms
  member_limits L unknown no_members k t found = cc
  member_limits L unknown (member l d ms) k t found =
      elim (slice_cmp nat_cmp k l) as (λ o. match_ordering o (get_member k ms) (Some d) (get_member k ms) ≡ Some t
      → LimitAt L unknown t) [
        | Less ↦ λ h. member_limits L unknown ms k t h
        | Equal ↦ λ h. subst (LimitAt L unknown) (same_Some d t h) (limited L unknown d)
        | Greater ↦ λ h. member_limits L unknown ms k t h
      ] found
