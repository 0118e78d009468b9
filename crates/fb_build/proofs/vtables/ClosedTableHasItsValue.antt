-- A table that was laid, with a vtable that stands in the tail.
use Rattle.std.proofs.Common.{◌≡◌, ℕ, zero, suc, ◌+◌, ◌-◌, ◌*◌, ◌^◌, ◌<◌, ◌≤◌, ◌⊎◌, inl, inr, ◌++◌, true, List, [], ◌∷◌}
use Rattle.std.proofs.Common.{length, slice_get, slice_index, Option, Some, refl, ap, sym, ◌∙◌, arith}
use Rattle.std.proofs.Common.{append_assoc, length-append}
use Rattle.std.proofs.lemmas.Bool.{and_from, eqb-true}
use Rattle.byteorder.specs.Endian.{little_bytes}
use Rattle.fb_layout.specs.Laid.{LaidSchema, Slot, slots_of}
use Rattle.fb_value.specs.Datum.{Datum, a_table}
use Rattle.fb_value.specs.View.{entries_in}
use Rattle.fb_value.specs.Num.{Bytes, num, divides}
use Rattle.fb_value.specs.Places.{part_place, table_part, vtable, slot_number}
use Rattle.fb_value.specs.EachTable.{IsOldTable}
use Rattle.fb_value.specs.Tails.{from_end}
use Rattle.fb_build.specs.Tails.{TailSeen, Grows, LaidInTail}
use Rattle.fb_layout.specs.Sizes.{ceil4}
use Rattle.fb_build.specs.Fields.{EntriesEnd, AreKnown, stored_in, fields_size}
use Rattle.fb_build.specs.Filled.{AreFilled}
use Rattle.fb_build.specs.TableBytes.{offset_from, offset_bytes, vtable_bytes, VtableEnd}
use Rattle.fb_build.specs.Vtables.{TellsItsLength}
use Rattle.fb_build.proofs.numbers.NumberReadsBack.{num_behind, num_standing}
use Rattle.fb_build.proofs.vtables.TableLeadsToItsVtable.{vtable_is, vtable_inside, vtable_good, slot_there, slot_past}
use Rattle.fb_build.proofs.vtables.TableLeadsToItsVtable.{table_lies}
use Rattle.fb_build.proofs.fields.FieldHasItsValue.{entries_grown, entry_under}
use Rattle.fb_build.proofs.fields.UnionValueHasItsCode.{members_coded}
use Rattle.fb_build.proofs.tables.TableHasItsFields.{SlotKnown, all_lie, p}
use Rattle.fb_build.proofs.vtables.EndsAreWithinTheTable.{ends_under, unused_end}
use Rattle.fb_build.proofs.tables.TableHasNoSlack.{TableRead, table_tight}
use Rattle.fb_value.specs.Entries.{EntryFits}
use Rattle.fb_build.specs.Paired.{ArePaired}
use Rattle.std.proofs.lemmas.Bool.{cases_lt}
use Rattle.fb_value.proofs.numbers.BytesSumToTheirNumber.{num_first}

-- what an offset reads as
offset_read : (c u k : ℕ) (ends : List ℕ) (rest : Bytes) → u ≤ length ends → k < u
    → offset_from c (slice_index ends k) < 256 ^ 2
    → num (offset_bytes c u ends ++ rest) (2 * k) 2 ≡ offset_from c (slice_index ends k)
offset_read c zero k ends rest within low fits = absurd (omega (arith, low))
offset_read c (suc u) k [] rest within low fits = absurd (omega (arith, within))
offset_read c (suc u) zero (e ∷ ends) rest within low fits =
    num_first 2 (offset_from c e) (offset_bytes c u ends ++ rest) fits
offset_read c (suc u) (suc k) (e ∷ ends) rest within low fits =
    let at : 2 * suc k ≡ 2 + 2 * k = omega arith in
    rw at (num_behind (little_bytes 2 (offset_from c e)) (offset_bytes c u ends ++ rest) (2 * k) 2
    ∙ offset_read c u k ends rest (omega (arith, within)) (omega (arith, low)) fits)

offsets_long : (c u : ℕ) (ends : List ℕ) → u ≤ length ends → length (offset_bytes c u ends) ≡ 2 * u
offsets_long c zero ends within = refl
offsets_long c (suc u) [] within = absurd (omega (arith, within))
offsets_long c (suc u) (e ∷ ends) within = omega (arith, offsets_long c u ends (omega (arith, within)))

pub vtable_long : (c size u : ℕ) (ends : List ℕ) → u ≤ length ends → length (vtable_bytes c size u ends) ≡ 4 + 2 * u
vtable_long c size u ends within = omega (arith, offsets_long c u ends within)

pub vtable_told : (c size u : ℕ) (ends : List ℕ) → u ≤ length ends → u ≤ 32765
    → TellsItsLength (vtable_bytes c size u ends)
vtable_told c size u ends within few rest =
    let parts = append_assoc (little_bytes 2 (4 + 2 * u)) (little_bytes 2 size ++ offset_bytes c u ends) rest in
    ap (λ b. num b 0 2) parts ∙ num_first 2 (4 + 2 * u) ((little_bytes 2 size ++ offset_bytes c u ends) ++ rest)
    (omega (arith, few)) ∙ sym (vtable_long c size u ends within)

module _ (L : LaidSchema) (low c size u : ℕ) (o n : TailSeen) (ends : List ℕ) (g : Grows o n)
    (behind : length o.bytes < c) (within : c ≤ length n.bytes) (four : divides 4 c ≡ true)
    (most : divides 4 n.most ≡ true) (two : divides 2 n.most ≡ true)
    (short : length n.bytes < 2 ^ 31) (v : VtableEnd n.bytes c (vtable_bytes c size u ends)) (used : u ≤ length ends)
    (few : u ≤ 32765) (rest : (k : ℕ) → u ≤ k → slice_index ends k ≡ 0)
    (fits : (k : ℕ) → offset_from c (slice_index ends k) < 256 ^ 2) where
  s : Bytes
  s = n.bytes

  low_place : length s - c < 2 ^ 31
  unfolding s
  low_place = omega (arith, short)

  low_vtable : length s - v.at < 2 ^ 31
  unfolding s
  low_vtable = omega (arith, short)

  size_reads : num s (length s - v.at) 2 ≡ 4 + 2 * u
  unfolding s
  size_reads =
      let at : (length s - v.at) + 0 ≡ length s - v.at = omega arith in
      let read = num_standing s v.at (vtable_bytes c size u ends) v.stands 0 2 in
      rw at at (read ∙ num_first 2 (4 + 2 * u) _ (omega (arith, few)))

  second_reads : size < 256 ^ 2 → num s ((length s - v.at) + 2) 2 ≡ size
  unfolding s
  second_reads low_size =
      num_standing s v.at (vtable_bytes c size u ends) v.stands 2 2
      ∙ num_behind (little_bytes 2 (4 + 2 * u)) (little_bytes 2 size ++ (offset_bytes c u ends ++ v.stands.behind)) 0 2
      ∙ num_first 2 size (offset_bytes c u ends ++ v.stands.behind) low_size

  pub vtable_at : vtable n.bytes (length n.bytes - c) ≡ length n.bytes - v.at
  unfolding s
  vtable_at = vtable_is (from_end s n.most) s (length s - c) (length s - v.at) u low_place low_vtable v.way size_reads

  offset_reads : (k : ℕ) → k < u → num s ((length s - v.at) + (4 + 2 * k)) 2 ≡ offset_from c (slice_index ends k)
  unfolding s
  offset_reads k under =
      num_standing s v.at (vtable_bytes c size u ends) v.stands (4 + 2 * k) 2
      ∙ num_behind (little_bytes 2 (4 + 2 * u) ++ little_bytes 2 size) (offset_bytes c u ends ++ v.stands.behind)
      (2 * k) 2
      ∙ offset_read c u k ends v.stands.behind used under (fits k)

  slots_read : (k : ℕ) → slot_number s (length s - c) k ≡ offset_from c (slice_index ends k)
  unfolding s
  slots_read k = by_case (cases_lt k u)
    where
      by_case : (k < u) ⊎ (u ≤ k) → slot_number s (length s - c) k ≡ offset_from c (slice_index ends k)
      by_case (inl under) = slot_there (from_end s n.most) s (length s - c) (length s - v.at) u low_place low_vtable
          v.way size_reads k under ∙ offset_reads k under
      by_case (inr past) = slot_past (from_end s n.most) s (length s - c) (length s - v.at) u low_place low_vtable v.way
          size_reads k past ∙ sym (ap (offset_from c) (rest k past))

  -- what the table and its vtable read
  pub table_read : size < 256 ^ 2 → TableRead n.bytes (length n.bytes - c) c size u ends
  unfolding s
  table_read low_size = record {
    inside = vtable_inside (from_end s n.most) s (length s - c) (length s - v.at) u low_place low_vtable v.way
        size_reads;
    first = rw vtable_at size_reads;
    second = rw vtable_at (second_reads low_size);
    each = λ k under. rw vtable_at (offset_reads k under);
    slots = slots_read;
  }

  pub table_end : (t : ℕ) (xs : List (Option Datum)) → length ends ≡ length (slots_of L t)
      → length (slots_of L t) ≡ length xs → ArePaired (slots_of L t)
      → ((k : ℕ) (f : Slot) (x : Option Datum) → slice_get (slots_of L t) k ≡ Some f → slice_get xs k ≡ Some x
      → EntryFits L f x)
      → AreKnown L (slots_of L t) (stored_in (slots_of L t) xs)
      → EntriesEnd L low o.most o.bytes (λ k f. true) (slots_of L t) (stored_in (slots_of L t) xs) ends
      → size < 256 ^ 2 → ((k : ℕ) → k + 1 ≡ u → 0 < slice_index ends k)
      → size ≡ 4 + ceil4 (fields_size L (slots_of L t) (stored_in (slots_of L t) xs)) → size + low ≡ c
      → AreFilled L low (length o.bytes) (λ k f. true) (slots_of L t) (stored_in (slots_of L t) xs) ends
      → length o.bytes + 4 ≤ c → ((e : ℕ) → length o.bytes < e → e + 4 ≤ c
      → slice_index n.bytes (length n.bytes - e) ≡ 0)
      → LaidInTail L n.most n.bytes (part_place (table_part t)) c (a_table t (entries_in xs))
  unfolding s p
  table_end t xs each long paired fit known state low_size last sized whole filled before_it zeros =
      let now = entries_grown L low o n (λ k f. true) (slots_of L t) (stored_in (slots_of L t) xs) ends g state in
      let slot : (k : ℕ) (f : Slot) (x : Option Datum) → slice_get (slots_of L t) k ≡ Some f
      → slice_get (stored_in (slots_of L t) xs) k ≡ Some x
      → SlotKnown L low n.most s c within k f x (slice_index ends k) =
      λ k f x fk xk. record {
        simple = (known.each k f x fk xk).0;
        fits = (known.each k f x fk xk).1;
        state = now k f x fk xk;
        under = omega (arith, behind, entry_under L low o.most o.bytes f x (slice_index ends k) (state k f x fk xk));
        number = slots_read k;
      } in
      let entries = all_lie L low n.most s c within (slots_of L t) xs ends long paired fit slot in
      let back : length s - (length s - c) ≡ c = omega (arith, within) in
      let far : length s - (length s - v.at) ≡ v.at = omega (arith, v.stands.within) in
      let aligned : from_end s n.most 4 (length s - c) ≡ true = and_from _ _ (rw back four) most in
      let even : from_end s n.most 2 (length s - v.at) ≡ true = and_from _ _ (rw far v.even) two in
      let room : (length s - v.at) + (4 + 2 * u) ≤ length s =
      (let whole = length-append (vtable_bytes c size u ends) v.stands.behind in
      omega (arith, v.stands.at, v.stands.within, whole, vtable_long c size u ends used)) in
      let good = vtable_good (from_end s n.most) s (length s - c) (length s - v.at) u low_place low_vtable v.way
      size_reads even room in
      let inside : (length s - c) + 4 ≤ length s = omega (arith, within, behind, eqb-true _ _ four) in
      let old : IsOldTable L s t (length s - c) = λ k out. slots_read k
      ∙ ap (offset_from c) (unused_end L low o.most o.bytes (slots_of L t) (stored_in (slots_of L t) xs) ends known
      each state k out) in
      let lies = table_lies L (from_end s n.most) s t (length s - c) (entries_in xs) aligned inside good entries.kept
      entries.lie in
      let below : (k : ℕ) → slice_index ends k < c =
      λ k. omega (
        arith,
        behind,
        ends_under L low o.most o.bytes (slots_of L t) (stored_in (slots_of L t) xs) ends
            known each state k,
      ) in
      let members = members_coded L low n.most s c within (slots_of L t) xs ends long paired fit slot in
      let tight = table_tight L t low n.most c size u (length o.bytes) s (stored_in (slots_of L t) xs) ends within
      (table_read low_size) known now below last sized whole filled before_it zeros members in
      record {
        lies = record { within = within; lies = lies };
        old = (old, entries.old);
        tight = (tight, entries.tight);
        inline = entries.inline;
      }
