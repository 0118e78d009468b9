-- What was found through a view is within the buffer.
use Rattle.std.proofs.Common.{◌≡◌, ℕ, ◌+◌, ◌*◌, ◌≤◌, true, nat_le, length}
use Rattle.std.proofs.Common.{Some, arith}
use Rattle.std.proofs.Math.Logic.{∥∥₁_elim}
use Rattle.std.proofs.lemmas.Bool.{leb-true, and_parts}
use Rattle.std.proofs.lemmas.Bool.Decides.{nat_tests}
use Rattle.std.proofs.lemmas.Grind.{merely}
use Rattle.std.proofs.lemmas.Str.{is_utf8-from_IsUtf8}
use Rattle.std.specs.Str.{is_utf8}
use Rattle.fb_schema.specs.declared.kinds.Base.{Base}
use Rattle.fb_schema.specs.declared.kinds.Kind.{Kind}
use Rattle.fb_schema.specs.declared.kinds.TypeId.{TypeId}
use Rattle.fb_schema.specs.Alignments.{base_size}
use Rattle.fb_layout.specs.Laid.{LaidSchema, StoredKind, scalar_kind, struct_kind, struct_at}
use Rattle.fb_layout.specs.Laid.{stored_kind, size_of}
use Rattle.fb_value.specs.Datum.{Datum, a_text, a_vector, Parts}
use Rattle.fb_value.specs.Datum.{count}
use Rattle.fb_value.specs.Num.{Bytes, num, part_of}
use Rattle.fb_value.specs.Places.{Target, table_part, member_part, text_part, vector_part, ref_place, part_place}
use Rattle.fb_value.specs.Places.{inline_place}
use Rattle.fb_value.specs.Rules.{Keeps, fault_by}
use Rattle.fb_value.specs.Lies.{Lies, LiesItems}
use Rattle.fb_value.proofs.rules.RulesHoldOneByOne.{rule_held}
use Rattle.fb_value.proofs.reached.CellsAreThoseReached.{text_length}
use Rattle.fb_value.proofs.held.NumbersAreInTheirRange.{utf8_whole}
use Rattle.fb_read.specs.declared.stored.Stored.{Stored}
use Rattle.fb_read.specs.Stored.{StoredAs, text_place_of, table_place_of, member_place_of}
use Rattle.fb_read.specs.Stored.{vector_place_of, struct_place_of, number_place_of}
use Rattle.fb_read.specs.Stored.{IsTextBehind}
use Rattle.fb_read.specs.Views.{entry_of}
use Rattle.fb_read.proofs.view.ViewHasAVtable.{sure_of}
use Rattle.fb_read.proofs.view.AccessorsReadTheEntry.{text_is, table_is, member_is, number_is}
use Rattle.fb_read.proofs.view.AccessorsReadTheEntry.{table_found, member_found}
use Rattle.fb_read.proofs.view.AccessorsReadTheEntry.{struct_is}
use Rattle.fb_read.proofs.view.AccessorsReadTheEntry.{vector_is, vector_found}

-- ---- what is sure of a view

-- what follows from what is there is there
pub there_too : {P Q : Type 0} → ∥ P ∥₁ → (P → Q) → ∥ Q ∥₁
there_too there f = ∥∥₁_elim there (hlevel) (λ p. merely (f p))

pub ref_within : (L : LaidSchema) (b : Bytes) (X : Target) (q : ℕ) → Keeps L b (ref_place X) q
    → nat_le (q + 4) (length b) ≡ true
unfolding fault_by
ref_within L b X q e = (rule_held _ _ _ (rule_held _ _ _ e).1).0

inline_within : (L : LaidSchema) (b : Bytes) (kind : StoredKind) (q : ℕ) → Keeps L b (inline_place kind) q
    → nat_le (q + size_of L kind) (length b) ≡ true
unfolding fault_by
inline_within L b kind q e = (rule_held _ _ _ (rule_held _ _ _ e).1).0

text_keeps : (L : LaidSchema) (b : Bytes) (q : ℕ) (d : Datum) → Lies L b (part_place text_part) q d
    → Keeps L b (part_place text_part) q
text_keeps L b q (a_text bytes) lies = lies.0
text_keeps L b q _ lies = absurd lies

text_counted : (L : LaidSchema) (b : Bytes) (q : ℕ) → Keeps L b (part_place text_part) q
    → (nat_le (q + 4) (length b) ≡ true) × (nat_le ((q + 4) + num b q 4) (length b) ≡ true)
unfolding fault_by
text_counted L b q e = and_parts _ _ (rule_held _ _ _ (rule_held _ _ _ e).1).0

text_valid : (L : LaidSchema) (b : Bytes) (q : ℕ) → Keeps L b (part_place text_part) q
    → is_utf8 (part_of b (q + 4) (num b q 4)) ≡ true
unfolding fault_by
text_valid L b q keeps =
    let valid = (rule_held _ _ _ (rule_held _ _ _ (rule_held _ _ _ (rule_held _ _ _ keeps).1).1).1).0 in
    let long = text_length L b q keeps in
    is_utf8-from_IsUtf8 (part_of b (q + 4) (num b q 4))
    (utf8_whole (part_of b (q + 4) (num b q 4)) (grind (arith, nat_tests)))

-- a text that lies behind a reference is within the bytes
pub text_behind_sure : (L : LaidSchema) (b : Bytes) (q : ℕ)
    → ∥ ((d : Datum) × Keeps L b (ref_place text_part) q × Lies L b (part_place text_part) (q + num b q 4) d) ∥₁
    → IsTextBehind b q
text_behind_sure L b q there = record {
  reference = leb-true _ _ (sure_of _ there (λ found. ref_within L b text_part q found.1));
  count = leb-true _ _
      (sure_of _ there (λ found. (text_counted L b (q + num b q 4)
      (text_keeps L b (q + num b q 4) found.0 found.2)).0));
  within = leb-true _ _
      (sure_of _ there (λ found. (text_counted L b (q + num b q 4)
      (text_keeps L b (q + num b q 4) found.0 found.2)).1));
  valid = sure_of _ there (λ found. text_valid L b (q + num b q 4) (text_keeps L b (q + num b q 4) found.0 found.2));
}

pub vector_keeps : (L : LaidSchema) (b : Bytes) (kind : StoredKind) (q : ℕ) (d : Datum)
    → Lies L b (part_place (vector_part kind)) q d → Keeps L b (part_place (vector_part kind)) q
vector_keeps L b kind q (a_vector ds) lies = lies.0
vector_keeps L b kind q _ lies = absurd lies

vector_counted : (L : LaidSchema) (b : Bytes) (kind : StoredKind) (q : ℕ) → Keeps L b (part_place (vector_part kind)) q
    → (nat_le (q + 4) (length b) ≡ true) × (nat_le ((q + 4) + num b q 4 * size_of L kind) (length b) ≡ true)
unfolding fault_by
vector_counted L b kind q e = and_parts _ _ (rule_held _ _ _ (rule_held _ _ _ e).1).0

module _ (L : LaidSchema) (b : Bytes) (t p k : ℕ) (s : Stored)
    (there : ∥ ((d : Datum) × Lies L b (part_place (table_part t)) p d) ∥₁) (known : (d : Datum)
    → Lies L b (part_place (table_part t)) p d → StoredAs L b s (entry_of d k)) where
  -- a text that was found is within the bytes
  pub text_sure : (q : ℕ) → text_place_of s ≡ Some q → IsTextBehind b q
  text_sure q e = text_behind_sure L b q (there_too there (λ found. let has =
      rw (text_is s q e) at (known found.0 found.1) in (has.0, has.2.0, has.2.1)))

  -- a struct is
  pub struct_sure : (x : TypeId) (q : ℕ) → struct_place_of s ≡ Some (x, q) → q + (struct_at L x.0).size ≤ length b
  struct_sure x q e =
      leb-true _ _ (sure_of _ there (λ found. inline_within L b (struct_kind x.0) q
      (rw (struct_is s x q e) at (known found.0 found.1)).2.0))

  vector_there : (kind : Kind) (q : ℕ) → vector_place_of s ≡ Some (kind, q)
      → ∥ ((d : Datum) × Keeps L b (ref_place (vector_part (stored_kind L.schema kind))) q
      × Lies L b (part_place (vector_part (stored_kind L.schema kind))) (q + num b q 4) d) ∥₁
  vector_there kind q e = there_too there (λ found. let has = rw (vector_is s kind q e) at (known found.0 found.1) in
      (has.0, has.2.0, has.2.1))

  -- so are a vector's reference, its count and its elements
  pub vector_sure : (kind : Kind) (q : ℕ) → vector_place_of s ≡ Some (kind, q) → q + 4 ≤ length b
  vector_sure kind q e =
      leb-true _ _ (sure_of _ (vector_there kind q e) (λ found.
      ref_within L b (vector_part (stored_kind L.schema kind)) q found.1))

  pub count_sure : (kind : Kind) (q : ℕ) → vector_place_of s ≡ Some (kind, q) → (q + num b q 4) + 4 ≤ length b
  count_sure kind q e =
      leb-true _ _ (sure_of _ (vector_there kind q e) (λ found.
      (vector_counted L b (stored_kind L.schema kind) (q + num b q 4)
      (vector_keeps L b (stored_kind L.schema kind) (q + num b q 4) found.0 found.2)).0))

  pub items_sure : (kind : Kind) (q : ℕ) → vector_place_of s ≡ Some (kind, q)
      → ((q + num b q 4) + 4) + num b (q + num b q 4) 4 * size_of L (stored_kind L.schema kind) ≤ length b
  items_sure kind q e =
      leb-true _ _ (sure_of _ (vector_there kind q e) (λ found.
      (vector_counted L b (stored_kind L.schema kind) (q + num b q 4)
      (vector_keeps L b (stored_kind L.schema kind) (q + num b q 4) found.0 found.2)).1))

  pub items_lie : (kind : Kind) (q : ℕ) → vector_place_of s ≡ Some (kind, q)
      → ∥ ((ds : Parts) × (count ds ≡ num b (q + num b q 4) 4)
      × LiesItems L b (stored_kind L.schema kind) ((q + num b q 4) + 4) ds) ∥₁
  items_lie kind q e = there_too there (λ found. let has =
      vector_found L b s kind q (entry_of found.0 k) e (known found.0 found.1) in (has.0, has.2, has.3))

  pub table_sure : (x : TypeId) (q : ℕ) → table_place_of s ≡ Some (x, q) → q + 4 ≤ length b
  table_sure x q e =
      leb-true _ _ (sure_of _ there (λ found. ref_within L b (table_part x.0) q
      (rw (table_is s x q e) at (known found.0 found.1)).2.0))

  pub table_lies : (x : TypeId) (q : ℕ) → table_place_of s ≡ Some (x, q)
      → ∥ ((d : Datum) × Lies L b (part_place (table_part x.0)) (q + num b q 4) d) ∥₁
  table_lies x q e = there_too there (λ found. let has =
      table_found L b s x q (entry_of found.0 k) e (known found.0 found.1) in (has.0, has.2))

  pub member_sure : (c : ℕ) (x : TypeId) (q : ℕ) → member_place_of s ≡ Some (c, x, q) → q + 4 ≤ length b
  member_sure c x q e =
      leb-true _ _ (sure_of _ there (λ found. ref_within L b (member_part c x.0) q
      (rw (member_is s c x q e) at (known found.0 found.1)).2.0))

  pub member_lies : (c : ℕ) (x : TypeId) (q : ℕ) → member_place_of s ≡ Some (c, x, q)
      → ∥ ((d : Datum) × Lies L b (part_place (table_part x.0)) (q + num b q 4) d) ∥₁
  member_lies c x q e = there_too there (λ found. let has =
      member_found L b s c x q (entry_of found.0 k) e (known found.0 found.1) in (has.0, has.2))

  pub number_sure : (base : Base) (q : ℕ) → number_place_of s ≡ Some (base, q) → q + base_size base ≤ length b
  number_sure base q e =
      leb-true _ _ (sure_of _ there (λ found. inline_within L b (scalar_kind base) q
      (rw (number_is s base q e) at (known found.0 found.1)).2.0))
