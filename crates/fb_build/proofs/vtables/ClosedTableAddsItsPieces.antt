-- A table that is closed adds itself to what is made, and its vtable where it is the first to have it.
use Rattle.std.proofs.Common.{◌≡◌, ℕ, ◌+◌, ◌-◌, ◌<◌, ◌≤◌, ◌++◌, max, List, [], ◌∷◌, length, replicate, slice_get}
use Rattle.std.proofs.Common.{slice_index, Some, ap, sym, ◌∙◌, arith, append_assoc, length-append}
use Rattle.std.proofs.lemmas.List.{length-replicate}
use Rattle.byteorder.specs.Endian.{little_bytes}
use Rattle.byteorder.specs.Numbers.{length-bytes_low_first}
use Rattle.fb_layout.specs.Laid.{LaidSchema}
use Rattle.fb_value.specs.Num.{Bytes, num}
use Rattle.fb_value.specs.Places.{table_part, vtable}
use Rattle.fb_build.specs.Pieces.{part_size, part_align}
use Rattle.fb_build.specs.Tails.{TailSeen}
use Rattle.fb_build.specs.Made.{StaysInFront, Adds, FieldsFront, OldVtable, NewVtable}
use Rattle.fb_build.proofs.vtables.TableAndVtableAddThemselves.{old_laid, new_laid}
use Rattle.fb_build.proofs.vtables.VtableIsLaidOnce.{last_place}

-- what is laid of a table, from the zeros before its fields to its first number
pub record IsClosed (L : LaidSchema) (a o n : TailSeen) (t start align place k : ℕ) (pd : Bytes) : Type 0 where
  pub front : FieldsFront a o start align
  pub padded : pd ≡ replicate k 0 ++ o.bytes
  pub most : n.most ≡ max o.most 4
  pub least : 4 ≤ align
  pub here : place ≡ length pd + 4
  pub size : part_size L n.bytes (table_part t) (length n.bytes - place) ≡ place - start
  pub own : max 4 (part_align L n.bytes (table_part t) (length n.bytes - place)) ≡ align
  pub stay : StaysInFront L n.bytes (record { target = table_part t; at = length n.bytes - place })

module _ (L : LaidSchema) (a o n : TailSeen) (t start align at_place k : ℕ) (pd : Bytes)
    (h : IsClosed L a o n t start align at_place k pd) where
  inline : ℕ → Bytes
  inline number = little_bytes 4 number ++ (replicate k 0 ++ h.front.fields)

  padded_long : length pd ≡ k + (length h.front.fields + (h.front.zeros + length a.bytes))
  padded_long =
      let whole = ap length h.padded in
      let two = length-append (replicate k 0) o.bytes in
      let zeros : length (replicate {A = ℕ} k 0) ≡ k = length-replicate k 0 in
      let laid = ap length h.front.laid in
      let three = length-append h.front.fields (replicate h.front.zeros 0 ++ a.bytes) in
      let four = length-append (replicate h.front.zeros 0) a.bytes in
      let more : length (replicate {A = ℕ} h.front.zeros 0) ≡ h.front.zeros = length-replicate h.front.zeros 0 in
      omega (arith, whole, two, zeros, laid, three, four, more)

  inline_long : (number : ℕ) → length (inline number) ≡ at_place - start
  unfolding inline
  inline_long number =
      let whole = length-append (little_bytes 4 number) (replicate k 0 ++ h.front.fields) in
      let first = length-bytes_low_first 0 4 number in
      let two = length-append (replicate k 0) h.front.fields in
      let zeros : length (replicate {A = ℕ} k 0) ≡ k = length-replicate k 0 in
      omega (arith, whole, first, two, zeros, h.here, h.front.begin, padded_long)

  behind : (number : ℕ) → little_bytes 4 number ++ pd ≡ inline number ++ (replicate h.front.zeros 0 ++ a.bytes)
  unfolding inline
  behind number =
      let rest = replicate h.front.zeros 0 ++ a.bytes in
      ap (λ z. little_bytes 4 number ++ z) (h.padded ∙ ap (λ z. replicate k 0 ++ z) h.front.laid
      ∙ sym (append_assoc (replicate k 0) h.front.fields rest))
      ∙ sym (append_assoc (little_bytes 4 number) (replicate k 0 ++ h.front.fields) rest)

  widest : n.most ≡ max a.most align
  widest = omega (arith, h.most, h.front.most, h.least)

  few : h.front.zeros < n.most
  few = omega (arith, h.front.under, widest)

  same_most : n.most ≡ max a.most (max 4 (part_align L n.bytes (table_part t) (length n.bytes - at_place)))
  same_most = rw h.own widest

  pub old_closed : (known : List Bytes) (before after : List ℕ) (vt : Bytes)
      → OldVtable known before after pd n.bytes vt
      → ((key : ℕ) → slice_get known key ≡ Some vt
      → vtable n.bytes (length n.bytes - at_place) ≡ length n.bytes - slice_index after key)
      → Adds L a before n after (record { target = table_part t; at = length n.bytes - at_place } ∷ [])
  old_closed known before after vt old at =
      let long = ap length old.bytes in
      let two = length-append (little_bytes 4 old.number) pd in
      let first = length-bytes_low_first 0 4 old.number in
      let zero : length n.bytes - at_place ≡ 0 = omega (arith, long, two, first, h.here) in
      let position = rw (zero, old.places) at (at old.key old.is) in
      let size = h.size ∙ sym (inline_long old.number) in
      let size0 = rw zero at size in
      let most0 = rw zero at same_most in
      let stay = h.stay in
      let stay0 = rw zero at stay in
      rw (zero, old.places) (old_laid L a n t h.front.zeros (inline old.number) few before old.key (old.bytes
      ∙ behind old.number) size0 most0 stay0 position old.some)

  pub new_closed : (known : List Bytes) (before after : List ℕ) (vt : Bytes)
      → NewVtable known before after pd n.bytes vt
      → ((key : ℕ) → slice_get known key ≡ Some vt
      → vtable n.bytes (length n.bytes - at_place) ≡ length n.bytes - slice_index after key)
      → 0 < length vt → num n.bytes (vtable n.bytes (length n.bytes - at_place)) 2 ≡ length vt
      → Adds L a before n after (record { target = table_part t; at = length n.bytes - at_place } ∷ [])
  new_closed known before after vt new at some first =
      let long = ap length new.bytes in
      let two = length-append vt (little_bytes 4 (length vt) ++ pd) in
      let three = length-append (little_bytes 4 (length vt)) pd in
      let four = length-bytes_low_first 0 4 (length vt) in
      let at_vtable : length n.bytes - at_place ≡ length vt = omega (arith, long, two, three, four, h.here) in
      let own : slice_index after (length before) ≡ length n.bytes =
      ap (λ ps. slice_index ps (length before)) new.places ∙ last_place before (length n.bytes) in
      let zero : length n.bytes - slice_index after (length before) ≡ 0 = omega (arith, own) in
      let position : vtable n.bytes (length n.bytes - at_place) ≡ 0 = at (length before) new.is ∙ zero in
      let count : num n.bytes 0 2 ≡ length vt = ap (λ q. num n.bytes q 2) (sym position) ∙ first in
      let place0 = rw at_vtable at position in
      let size = h.size ∙ sym (inline_long (length vt)) in
      let size0 = rw at_vtable at size in
      let most0 = rw at_vtable at same_most in
      let stay = h.stay in
      let stay0 = rw at_vtable at stay in
      rw (at_vtable, new.places) (new_laid L a n t h.front.zeros (inline (length vt)) few before vt (new.bytes
      ∙ ap (λ z. vt ++ z) (behind (length vt))) some count size0 most0 stay0 place0)
