-- A table is whole once its first number is laid, and its vtable where that is new.
use Rattle.std.proofs.Common.{◌≡◌, ℕ, ◌+◌, ◌-◌, ◌*◌, ◌%◌, ◌^◌, ◌<◌, ◌≤◌, ◌++◌, inl, inr, true, max, List, [], ◌∷◌}
use Rattle.std.proofs.Common.{length}
use Rattle.std.proofs.Common.{replicate, slice_get, slice_index, Option, Some, refl, ap, sym, ◌∙◌, arith}
use Rattle.std.proofs.lemmas.Bool.{eq-eqb}
use Rattle.fb_layout.specs.Laid.{LaidSchema, Slot, slots_of}
use Rattle.fb_value.specs.Datum.{Datum, a_table}
use Rattle.fb_value.specs.Num.{Bytes, divides}
use Rattle.fb_value.specs.Places.{part_place, table_part, vtable}
use Rattle.fb_value.specs.Tails.{from_end}
use Rattle.fb_value.specs.View.{entries_in}
use Rattle.fb_value.proofs.tails.TailsAreKeptInFront.{through}
use Rattle.fb_tape.specs.Vtables.{table_size}
use Rattle.fb_build.specs.CoveredTails.{parts_in_tail}
use Rattle.fb_build.specs.Fields.{stored_in, stored_align}
use Rattle.fb_build.specs.Made.{Adds, FieldsFront, named_fields, ends_parts}
use Rattle.fb_build.specs.NumberedVtables.{come, IsVtableInTurn, IsVtableLaid, IsTableOpen, IsTableClosed}
use Rattle.fb_build.specs.TableBytes.{VtableEnd, vtable_bytes, offset_from}
use Rattle.fb_build.specs.Tails.{TailSeen, Grows, LaidInTail}
use Rattle.fb_build.proofs.covered.PartsStayAsLaid.{table_stays}
use Rattle.fb_build.proofs.tables.TableHasNoSlack.{zeros_stay, laid_size, laid_align, TableRead}
use Rattle.fb_build.proofs.tables.TableLeadsToItsTargets.{table_leads}
use Rattle.fb_build.proofs.tail.WhatIsLaidStaysLaid.{then_grows, grown_long}
use Rattle.fb_build.proofs.taped.VtableOfTheEnds.{IsVtableOf, slots_used, vtable_told_by}
use Rattle.fb_build.proofs.taped.VtablesComeInTurn.{come_different}
use Rattle.fb_build.proofs.vtables.ClosedTableAddsItsPieces.{IsClosed, old_closed, new_closed}
use Rattle.fb_build.proofs.vtables.ClosedTableHasItsValue.{vtable_told, vtable_long, vtable_at, table_read, table_end}
use Rattle.fb_build.proofs.vtables.EndsAreWithinTheTable.{ends_under, ends_high, offset_small}
use Rattle.fb_build.proofs.vtables.VtableIsLaidOnce.{shared_grown}

-- From o to p zeros were laid, and from there to n the first number and the vtable.
pub record IsClosing (number zeros place : ℕ) (vtable : Bytes) (before after : List ℕ) (o p n : TailSeen)
    : Type 0 where
  pub padded : p.bytes ≡ replicate zeros 0 ++ o.bytes
  pub pad_free : p.free + zeros ≡ o.free
  pub under : zeros < 4
  pub multiple : (length p.bytes + 0) % 4 ≡ 0
  pub pad_most : p.most ≡ max o.most 4
  pub wide : divides 4 p.most ≡ true
  pub pad_grows : Grows o p
  pub place_is : place ≡ length p.bytes + 4
  pub within : place ≤ length n.bytes
  pub most : n.most ≡ p.most
  pub grows : Grows p n
  pub short : length n.bytes < 2 ^ 31
  pub laid : (vtables : List Bytes) → IsVtableInTurn vtables before number vtable p.bytes
      → IsVtableLaid vtables number vtable before after p.bytes n.bytes place

module _ (L : LaidSchema) (vtables : List Bytes) (t : ℕ) (entries : List (Option Datum)) (start : ℕ)
    (targets before after : List ℕ) (number zeros place : ℕ) (vt : Bytes) (o p n : TailSeen)
    (c : IsClosing number zeros place vt before after o p n)
    (w : IsTableOpen L vtables t entries start targets before number vt o) where
  abbrev fs : List Slot
  fs = slots_of L t

  abbrev xs : List (Option Datum)
  xs = stored_in (slots_of L t) entries

  abbrev ends : List ℕ
  ends = w.laid.ends

  abbrev size : ℕ
  size = table_size L (slots_of L t) (stored_in (slots_of L t) entries)

  abbrev used : ℕ
  used = slots_used L (slots_of L t) (stored_in (slots_of L t) entries)

  padded_long : length p.bytes ≡ length o.bytes + zeros
  padded_long = omega (arith, grown_long o p c.pad_grows, c.pad_free)

  sized : place ≡ start + size
  sized = omega (arith, padded_long, c.under, c.multiple, w.laid.laid.whole, w.laid.laid.size, c.place_is)

  grown : Grows o n
  grown = then_grows _ _ _ c.pad_grows c.grows

  behind : length o.bytes < place
  behind = omega (arith, padded_long, c.place_is)

  under : (k : ℕ) → slice_index ends k ≤ length o.bytes
  under = ends_under L start o.most o.bytes fs xs ends w.known.known w.laid.laid.slots.each w.laid.laid.slots.state

  below : (k : ℕ) → slice_index ends k < place
  below k = omega (arith, behind, under k)

  told : IsVtableOf L fs xs place ends used
  told = vtable_told_by L fs xs start place o.most o.bytes ends sized w.laid.laid.slots.state w.laid.laid.slots.counted
      w.known.known.long w.laid.laid.slots.each below

  few : used ≤ 32765
  few = omega (arith, told.within, w.laid.laid.slots.each, w.few)

  vtable_is : vt ≡ vtable_bytes place size used ends
  vtable_is = w.vtable_is ∙ told.is

  long : length vt ≡ 4 + 2 * used
  long = ap length vtable_is ∙ vtable_long place size used ends told.within

  fits : (k : ℕ) → offset_from place (slice_index ends k) < 256 ^ 2
  fits k = offset_small place (slice_index ends k) start (ends_high L start o.most o.bytes fs xs ends w.known.known
      w.laid.laid.slots.each w.laid.laid.slots.state k)
      (omega (arith, padded_long, c.under, c.place_is, w.narrow))

  low_size : size < 256 ^ 2
  low_size = omega (arith, padded_long, c.under, c.place_is, w.narrow, sized)

  four : divides 4 place ≡ true
  four = eq-eqb _ _ (omega (arith, c.multiple, c.place_is))

  most : divides 4 n.most ≡ true
  most = rw c.most c.wide

  two : divides 2 n.most ≡ true
  two = through 2 4 n.most refl most

  in_turn : IsVtableInTurn vtables before number vt p.bytes
  in_turn = record {
    shared = shared_grown _ _ o p c.pad_grows w.shared;
    is = w.is;
    turn = w.turn;
    told = rw vtable_is (vtable_told place size used ends told.within few);
    even = omega (arith, long);
    four = omega (arith, c.multiple);
  }

  now : IsVtableLaid vtables number vt before after p.bytes n.bytes place
  now = c.laid vtables in_turn

  leads_at : (key : ℕ) → slice_get (come vtables after) key ≡ Some vt → key ≡ number
  leads_at key is = come_different vtables (length after) w.different key number vt is now.key

  stands : VtableEnd n.bytes place vt
  stands =
      let stood = now.shared.stand number vt now.key in
      record { at = slice_index after number; stands = stood.1; even = stood.2; way = now.leads }

  stands_told : VtableEnd n.bytes place (vtable_bytes place size used ends)
  stands_told = rw (← vtable_is) stands

  read : TableRead n.bytes (length n.bytes - place) place size used ends
  read = table_read L start place size used o n ends grown behind c.within four most two c.short stands_told told.within
      few told.rest fits low_size

  lies : LaidInTail L n.most n.bytes (part_place (table_part t)) place (a_table t (entries_in entries))
  lies = table_end L start place size used o n ends grown behind c.within four most two c.short stands_told told.within
      few told.rest fits t entries w.laid.laid.slots.each w.known.long w.known.paired w.known.fits w.known.known
      w.laid.laid.slots.state low_size told.last refl (omega (arith, sized)) w.laid.laid.slots.filled
      (omega (arith, padded_long, c.place_is))
      (λ e over low. zeros_stay p n o.bytes zeros e c.padded c.grows over (omega (arith, low, c.place_is)))

  whole_leads : parts_in_tail L n.bytes (table_part t) place (a_table t (entries_in entries))
      ≡ record { target = table_part t; at = length n.bytes - place } ∷ ends_parts L n.bytes (named_fields fs xs)
      targets
  whole_leads = table_leads L start place size used o n ends grown behind c.within read t entries targets w.known.long
      w.known.paired w.known.fits w.known.known w.laid.laid.slots.state w.laid.leads

  vtable_place : (key : ℕ) → slice_get (come vtables after) key ≡ Some vt
      → vtable n.bytes (length n.bytes - place) ≡ length n.bytes - slice_index after key
  unfolding stands_told stands
  vtable_place key is =
      rw (leads_at key is)
      (vtable_at L start place size used o n ends grown behind c.within four most two c.short stands_told
      told.within few
      told.rest fits)

  closed : (a : TailSeen) → FieldsFront a o start (max 4 (stored_align L fs xs))
      → IsClosed L a o n t start (max 4 (stored_align L fs xs)) place zeros p.bytes
  closed a front = record {
    front = front;
    padded = c.padded;
    most = c.most ∙ c.pad_most;
    least = omega arith;
    here = c.place_is;
    size = laid_size L n.bytes t (length n.bytes - place) place size used ends read ∙ omega (arith, sized);
    own = ap (λ i. max 4 i) (laid_align L start o.most place o.bytes n.bytes t (length n.bytes - place) size used
        xs ends
        w.known.known.long w.laid.laid.slots.state below read);
    stay = table_stays (from_end n.bytes n.most) L n.bytes t (length n.bytes - place) lies.lies.lies.0;
  }

  whole_adds : (a : TailSeen) → FieldsFront a o start (max 4 (stored_align L fs xs))
      → Adds L a before n after (record { target = table_part t; at = length n.bytes - place } ∷ [])
  whole_adds a front = elim now.laid [
    | inl old ↦ old_closed L a o n t start (max 4 (stored_align L fs xs)) place zeros p.bytes (closed a front)
        (come vtables after) before after vt old vtable_place
    | inr new ↦ new_closed L a o n t start (max 4 (stored_align L fs xs)) place zeros p.bytes (closed a front)
        (come vtables after) before after vt new vtable_place (omega (arith, long)) (read.first ∙ sym long)
  ]

  pub table_closed : IsTableClosed L vtables t entries start targets before after place o n
  table_closed = record { lies = lies; adds = whole_adds; leads = whole_leads; shared = now.shared }
