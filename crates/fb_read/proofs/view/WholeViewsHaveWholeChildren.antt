-- What stands in a value whose unions are all of known codes is of known codes too.
use Rattle.std.proofs.Common.{◌≡◌, ℕ, zero, suc, ◌+◌, ◌*◌, ◌<◌, true, Some, subst}
use Rattle.std.proofs.lemmas.Bool.{and_parts}
use Rattle.fb_schema.specs.declared.kinds.Kind.{Kind}
use Rattle.fb_schema.specs.declared.kinds.TypeId.{TypeId}
use Rattle.fb_layout.specs.Laid.{LaidSchema, StoredKind, stored_kind, size_of}
use Rattle.fb_value.specs.Counts.{is_whole, parts_whole, entries_whole}
use Rattle.fb_value.specs.Datum.{Datum, a_vector, a_table, a_member, Parts, no_parts, more_parts, count}
use Rattle.fb_value.specs.Datum.{SlotEntries, no_entries, absent_entry, present_entry}
use Rattle.fb_value.specs.Num.{Bytes, num}
use Rattle.fb_value.specs.Nth.{nth_entry, nth_part}
use Rattle.fb_value.specs.Places.{table_part, vector_part, part_place}
use Rattle.fb_value.specs.Lies.{Lies, LiesItems}
use Rattle.fb_value.proofs.held.LyingValueIsComputed.{one_value}
use Rattle.fb_read.specs.declared.stored.Stored.{Stored}
use Rattle.fb_read.specs.Kinds.{table_wanted}
use Rattle.fb_read.specs.Stored.{StoredAs, table_place_of, member_place_of, vector_place_of}
use Rattle.fb_read.specs.Views.{entry_of}
use Rattle.fb_read.proofs.entry.EntryIsWhatWasFound.{table_told, member_told}
use Rattle.fb_read.proofs.placed.PartsLieInTheirPlaces.{item_table}
use Rattle.fb_read.proofs.view.AccessorsReadTheEntry.{table_found, member_found, vector_is}
use Rattle.fb_read.proofs.view.ViewHasAVtable.{sure_of}
use Rattle.fb_read.proofs.view.ViewsAreWithinTheBuffer.{vector_keeps}

nth_entry_whole : (es : SlotEntries) (k : ℕ) (e : Datum) → entries_whole es ≡ true → nth_entry es k ≡ Some e
    → is_whole e ≡ true
nth_entry_whole no_entries k e whole is = cc
nth_entry_whole (absent_entry es) zero e whole is = cc
nth_entry_whole (absent_entry es) (suc k) e whole is = nth_entry_whole es k e whole is
nth_entry_whole (present_entry d es) zero e whole is =
    let same : d ≡ e = cc in
    rw (← same) (and_parts (is_whole d) (entries_whole es) whole).0
nth_entry_whole (present_entry d es) (suc k) e whole is =
    nth_entry_whole es k e (and_parts (is_whole d) (entries_whole es) whole).1 is

entry_whole : (d : Datum) (k : ℕ) (e : Datum) → is_whole d ≡ true → entry_of d k ≡ Some e → is_whole e ≡ true
entry_whole (a_table type es) k e whole is = nth_entry_whole es k e whole is
entry_whole _ k e whole is = cc

part_whole : (ds : Parts) (i : ℕ) (e : Datum) → parts_whole ds ≡ true → nth_part ds i ≡ Some e → is_whole e ≡ true
part_whole no_parts i e whole is = cc
part_whole (more_parts d ds) zero e whole is =
    let same : d ≡ e = cc in
    rw (← same) (and_parts (is_whole d) (parts_whole ds) whole).0
part_whole (more_parts d ds) (suc i) e whole is =
    part_whole ds i e (and_parts (is_whole d) (parts_whole ds) whole).1 is

module _ (L : LaidSchema) (b : Bytes) (t p k : ℕ) (s : Stored)
    (there : ∥ ((d : Datum) × Lies L b (part_place (table_part t)) p d) ∥₁) (known : (d : Datum)
    → Lies L b (part_place (table_part t)) p d → StoredAs L b s (entry_of d k)) (whole : (d : Datum)
    → Lies L b (part_place (table_part t)) p d → is_whole d ≡ true) where
  -- the table in a slot
  pub table_whole : (x : TypeId) (q : ℕ) → table_place_of s ≡ Some (x, q) → (e : Datum)
      → Lies L b (part_place (table_part x.0)) (q + num b q 4) e → is_whole e ≡ true
  table_whole x q is e lies = sure_of _ there (λ found.
      (let has = table_found L b s x q (entry_of found.0 k) is (known found.0 found.1) in
      let same = one_value L b (part_place (table_part x.0)) (q + num b q 4) has.0 e has.2 lies in
      rw (← same) (entry_whole found.0 k has.0 (whole found.0 found.1)
      (table_told (entry_of found.0 k) has.0 has.1))))

  -- the member in a union's slot
  pub member_whole : (c : ℕ) (x : TypeId) (q : ℕ) → member_place_of s ≡ Some (c, x, q) → (e : Datum)
      → Lies L b (part_place (table_part x.0)) (q + num b q 4) e → is_whole e ≡ true
  member_whole c x q is e lies = sure_of _ there (λ found.
      (let has = member_found L b s c x q (entry_of found.0 k) is (known found.0 found.1) in
      let same = one_value L b (part_place (table_part x.0)) (q + num b q 4) has.0 e has.2 lies in
      rw (← same) (entry_whole found.0 k (a_member c has.0) (whole found.0 found.1)
      (member_told (entry_of found.0 k) c has.0 has.1))))

  -- the elements of the vector in a slot
  pub vector_whole : (kind : Kind) (q : ℕ) → vector_place_of s ≡ Some (kind, q) → (ds : Parts)
      → (count ds ≡ num b (q + num b q 4) 4)
      × LiesItems L b (stored_kind L.schema kind) ((q + num b q 4) + 4) ds → parts_whole ds ≡ true
  vector_whole kind q is ds lies = sure_of _ there (λ found.
      (let has = rw (vector_is s kind q is) at (known found.0 found.1) in
      let keeps = vector_keeps L b (stored_kind L.schema kind) (q + num b q 4) has.0 has.2.1 in
      let same : has.0 ≡ a_vector ds =
      one_value L b (part_place (vector_part (stored_kind L.schema kind))) (q + num b q 4) has.0 (a_vector ds)
      has.2.1 (keeps, lies.0, lies.1) in
      subst (λ (e : Datum). is_whole e ≡ true) same (entry_whole found.0 k has.0 (whole found.0 found.1) has.1)))

-- the table that an element is
pub item_whole : (L : LaidSchema) (b : Bytes) (kind : StoredKind) (p n i : ℕ) → i < n
    → ∥ ((ds : Parts) × (count ds ≡ n) × LiesItems L b kind p ds) ∥₁
    → ((ds : Parts) → (count ds ≡ n) × LiesItems L b kind p ds → parts_whole ds ≡ true) → (t : ℕ)
    → table_wanted kind ≡ Some t → (e : Datum)
    → Lies L b (part_place (table_part t)) ((p + i * size_of L kind) + num b (p + i * size_of L kind) 4) e
    → is_whole e ≡ true
item_whole L b kind p n i less there whole t wanted e lies = sure_of _ there (λ found.
    (let item = item_table L b kind p n i less found.0 t (found.1, found.2) wanted in
    let same = one_value L b (part_place (table_part t)) _ item.0 e item.2 lies in
    rw (← same) (part_whole found.0 i item.0 (whole found.0 (found.1, found.2))
    (table_told (nth_part found.0 i) item.0 item.1))))
