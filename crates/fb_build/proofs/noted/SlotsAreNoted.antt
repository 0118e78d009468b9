-- One slot more of a table is noted.
use Rattle.std.proofs.Common.{◌≡◌, ◌+◌, ◌-◌, ◌++◌, ◌∙◌, ℕ, zero, suc, Bool, true, false, List, [], ◌∷◌, length}
use Rattle.std.proofs.Common.{pos}
use Rattle.std.proofs.Common.{slice_get, Option, None, Some, refl, sym, ap, arith}
use Rattle.std.proofs.lemmas.List.{append_assoc, append-nil}
use Rattle.fb_schema.specs.declared.kinds.Base.TheVariants.{U8}
use Rattle.fb_layout.specs.Laid.{LaidSchema, Slot, StoredShape, one_of, vector_of, scalar_kind, struct_kind, table_kind}
use Rattle.fb_layout.specs.Laid.{union_kind, code_kind, text_kind}
use Rattle.fb_value.specs.Datum.{Datum, a_number, a_text, a_vector, a_struct, a_table, a_member, an_unknown}
use Rattle.fb_value.specs.Entries.{EntryFits, entry_room}
use Rattle.fb_value.specs.Fits.{Fits}
use Rattle.fb_value.specs.Room.{entries_room}
use Rattle.fb_value.specs.View.{entries_in}
use Rattle.fb_tape.specs.NamedParts.{entry_apart, entries_apart, as_list}
use Rattle.fb_tape.specs.OpenFields.{OpenField, IsOpenIf, IsInlineField, AreOpen, reference_field}
use Rattle.fb_build.specs.Fields.{is_stored, stored_here, stored_in, code_in, next_code}
use Rattle.fb_build.specs.Noted.{AreFieldsOf}
use Rattle.fb_build.specs.Paired.{ArePaired}
use Rattle.fb_build.proofs.tables.CodeSlotHasNoEntry.{no_code_entry, code_stored}

-- ---- one entry more

pub no_apart : (fs : List Slot) → entries_apart fs [] ≡ []
no_apart [] = refl
no_apart (f ∷ fs) = refl

pub apart_more : (fs : List Slot) (xs : List (Option Datum)) (f : Slot) (x : Option Datum)
    → slice_get fs (length xs) ≡ Some f
    → entries_apart fs (xs ++ (x ∷ [])) ≡ entries_apart fs xs ++ as_list (entry_apart f x)
apart_more [] xs f x at = cc
apart_more (g ∷ fs) [] f x at =
    let same : g ≡ f = cc in rw (same, no_apart fs) (append-nil (as_list (entry_apart f x)))
apart_more (g ∷ fs) (y ∷ xs) f x at =
    ap (λ ps. as_list (entry_apart g y) ++ ps) (apart_more fs xs f x at)
    ∙ sym (append_assoc (as_list (entry_apart g y)) (entries_apart fs xs) (as_list (entry_apart f x)))

pub no_room : (L : LaidSchema) (fs : List Slot) → entries_room L fs (entries_in []) ≡ 0
no_room L [] = refl
no_room L (f ∷ fs) = refl

room_first : (L : LaidSchema) (f : Slot) (x : Option Datum) (fs : List Slot) (xs : List (Option Datum))
    → entries_room L (f ∷ fs) (entries_in (x ∷ xs)) ≡ entry_room L f x + entries_room L fs (entries_in xs)
room_first L f None fs xs = omega arith
room_first L f (Some d) fs xs = refl

pub room_more : (L : LaidSchema) (fs : List Slot) (xs : List (Option Datum)) (f : Slot) (x : Option Datum)
    → slice_get fs (length xs) ≡ Some f
    → entries_room L fs (entries_in (xs ++ (x ∷ []))) ≡ entries_room L fs (entries_in xs) + entry_room L f x
room_more L [] xs f x at = cc
room_more L (g ∷ fs) [] f x at =
    let same : g ≡ f = cc in
    let rest : entry_room L g x + entries_room L fs (entries_in [])
    ≡ entries_room L (g ∷ fs) (entries_in []) + entry_room L g x =
    omega (arith, no_room L fs, no_room L (g ∷ fs)) in
    room_first L g x fs []
    ∙ rw (← same) rest
room_more L (g ∷ fs) (y ∷ xs) f x at =
    let rest = room_more L fs xs f x at in
    omega (arith, rest, room_first L g y fs xs, room_first L g y fs (xs ++ (x ∷ [])))

-- ---- its fields

-- An entry that is no union's member doesn't change what the slot before it stores.
next_code_more : (shape : StoredShape) (xs : List (Option Datum)) (y x : Option Datum) → code_in x ≡ None
    → stored_here shape (next_code (xs ++ (x ∷ []))) y
    ≡ stored_here shape (next_code xs) y
next_code_more shape [] y x none = rw none refl
next_code_more shape (z ∷ xs) y x none = refl

-- what holds of the fields behind holds of more of them
open_then : (L : LaidSchema) (k : ℕ) (f : Slot) (y : Option Datum) (opens own : List OpenField)
    (P Q : List OpenField → Type 0) → (t : Bool)
    → ((behind : List OpenField) → P behind → Q (behind ++ own)) → IsOpenIf t L k f y opens P
    → IsOpenIf t L k f y (opens ++ own) Q
open_then L k f y opens own P Q true more h = record {
  field = h.field;
  behind = h.behind ++ own;
  value = h.value;
  opens_are = ap (λ os. os ++ own) h.opens_are;
  slot_is = h.slot_is;
  align_is = h.align_is;
  value_is = h.value_is;
  noted = h.noted;
  rest = more h.behind h.rest;
}
open_then L k f y opens own P Q false more h = more opens h

plain_first : (L : LaidSchema) (k : ℕ) (f : Slot) (y : Option Datum) (own : List OpenField)
    (fs : List Slot) → (t : Bool) → IsOpenIf t L k f y own (λ behind. behind ≡ [])
    → IsOpenIf t L k f y own (λ behind. AreOpen L (suc k) fs (stored_in fs []) behind)
plain_first L k f y own [] true h = h
plain_first L k f y own (g ∷ fs) true h = h
plain_first L k f y own [] false h = h
plain_first L k f y own (g ∷ fs) false h = h

plain_more : (L : LaidSchema) (k : ℕ) (fs : List Slot) (xs : List (Option Datum)) (f : Slot) (x : Option Datum)
    (opens own : List OpenField) → slice_get fs (length xs) ≡ Some f → code_in x ≡ None
    → AreOpen L k fs (stored_in fs xs) opens
    → IsOpenIf (is_stored f (stored_here f.shape None x)) L (k + length xs) f (stored_here f.shape None x) own
    (λ behind. behind ≡ [])
    → AreOpen L k fs (stored_in fs (xs ++ (x ∷ []))) (opens ++ own)
plain_more L k [] xs f x opens own at none are h = cc
plain_more L k (g ∷ fs) [] f x opens own at none are h =
    let same : g ≡ f = cc in
    let empty : opens ≡ [] = are in
    let here : k + 0 ≡ k = omega arith in
    rw (empty, same) (plain_first L k f (stored_here f.shape None x) own fs (is_stored f (stored_here f.shape None x))
    (rw here at h))
plain_more L k (g ∷ fs) (y ∷ xs) f x opens own at none are h =
    let next : k + suc (length xs) ≡ suc k + length xs = omega arith in
    let stays = next_code_more g.shape xs y x none in
    rw stays (open_then L k g _ opens own (λ behind. AreOpen L (suc k) fs (stored_in fs xs) behind)
    (λ behind. AreOpen L (suc k) fs (stored_in fs (xs ++ (x ∷ []))) behind) _
    (λ behind rest. plain_more L (suc k) fs xs f x behind own at none rest (rw next at h)) are)

-- ---- a member comes with its code, which the slot before stores

pub empty_open : (L : LaidSchema) (k : ℕ) (fs : List Slot) → AreOpen L k fs [] []
empty_open L k [] = refl
empty_open L k (f ∷ fs) = refl

pub none_stored : (fs : List Slot) → stored_in fs [] ≡ []
none_stored [] = refl
none_stored (f ∷ fs) = refl

next_code_behind : (ys : List (Option Datum)) (y x : Option Datum)
    → next_code ((ys ++ (y ∷ [])) ++ (x ∷ [])) ≡ next_code (ys ++ (y ∷ []))
next_code_behind [] y x = refl
next_code_behind (z ∷ ys) y x = refl

member_more : (L : LaidSchema) (k : ℕ) (fs : List Slot) (ys : List (Option Datum)) (y : Option Datum) (g f : Slot)
    (u v c : ℕ) (d : Datum) (opens : List OpenField) (code : OpenField) → slice_get fs (length ys) ≡ Some g
    → slice_get fs (suc (length ys)) ≡ Some f → g.shape ≡ one_of (code_kind u) → f.shape ≡ one_of (union_kind v)
    → is_stored g (Some (a_number (pos c))) ≡ true
    → IsInlineField L (k + length ys) (scalar_kind U8) (a_number (pos c)) code
    → AreOpen L k fs (stored_in fs (ys ++ (y ∷ []))) opens
    → AreOpen L k fs (stored_in fs ((ys ++ (y ∷ [])) ++ (Some (a_member c d) ∷ [])))
    (opens ++ (code ∷ reference_field (suc (k + length ys)) ∷ []))
member_more L k [] ys y g f u v c d opens code gk fk coded value stored inline are = cc
member_more L k (h ∷ []) [] y g f u v c d opens code gk fk coded value stored inline are = cc
member_more L k (h ∷ h2 ∷ fs) [] y g f u v c d opens code gk fk coded value stored inline are =
    let g_is : h ≡ g = cc in
    let f_is : h2 ≡ f = cc in
    let here : k + 0 ≡ k = omega arith in
    let own = rw here at inline in
    let empty : opens ≡ [] = rw (g_is, coded) at are in
    rw (g_is, f_is, coded, value, empty, here) (rw stored (record {
      field = code;
      behind = reference_field (suc k) ∷ [];
      value = a_number (pos c);
      opens_are = refl;
      slot_is = own.slot_is;
      align_is = own.align_is;
      value_is = refl;
      noted = rw own.note_is (refl, refl, own.inline);
      rest = record {
        field = reference_field (suc k);
        behind = [];
        value = a_member c d;
        opens_are = refl;
        slot_is = refl;
        align_is = refl;
        value_is = refl;
        noted = (refl, refl);
        rest = rw (none_stored fs) (empty_open L (suc (suc k)) fs);
      };
    }))
member_more L k (h ∷ fs) (z ∷ ys) y g f u v c d opens code gk fk coded value stored inline are =
    let next : k + suc (length ys) ≡ suc k + length ys = omega arith in
    let stays = next_code_behind ys y (Some (a_member c d)) in
    rw (stays, next) (open_then L k h _ opens _ (λ behind. AreOpen L (suc k) fs (stored_in fs (ys ++ (y ∷ []))) behind)
    (λ behind. AreOpen L (suc k) fs (stored_in fs ((ys ++ (y ∷ [])) ++ (Some (a_member c d) ∷ []))) behind) _
    (λ behind rest. member_more L (suc k) fs ys y g f u v c d behind code gk fk coded value stored (rw next at inline)
    rest) are)

-- the last of some entries
last_of : (xs : List (Option Datum)) (j : ℕ) → length xs ≡ suc j
    → (ys : List (Option Datum)) × (y : Option Datum) × (xs ≡ ys ++ (y ∷ [])) × (length ys ≡ j)
    × (slice_get xs j ≡ Some y)
last_of [] j is = absurd (omega (arith, is))
last_of (x ∷ []) zero is = ([], x, refl, refl, refl)
last_of (x ∷ []) (suc j) is = absurd (omega (arith, is))
last_of (x ∷ x2 ∷ xs) zero is = absurd (omega (arith, is))
last_of (x ∷ x2 ∷ xs) (suc j) is =
    let rest = last_of (x2 ∷ xs) j (omega (arith, is)) in
    (x ∷ rest.0, rest.1, ap (λ zs. x ∷ zs) rest.2, ap suc rest.3, rest.4)

stored_same : (L : LaidSchema) (shape : StoredShape) (d : Datum) → Fits L shape d
    → stored_here shape None (Some d) ≡ Some d
stored_same L (one_of (code_kind u)) d fits = absurd (no_code_entry L u d fits)
stored_same L _ d fits = refl

absent_same : (shape : StoredShape) → stored_here shape None None ≡ None
absent_same (one_of (scalar_kind b)) = refl
absent_same (one_of (struct_kind t)) = refl
absent_same (one_of (table_kind t)) = refl
absent_same (one_of (union_kind u)) = refl
absent_same (one_of (code_kind u)) = refl
absent_same (one_of text_kind) = refl
absent_same (vector_of kind) = refl

union_of : (L : LaidSchema) (shape : StoredShape) (c : ℕ) (d : Datum) → Fits L shape (a_member c d)
    → (u : ℕ) × (shape ≡ one_of (union_kind u))
union_of L (one_of (union_kind u)) c d fits = (u, refl)
union_of L _ c d fits = absurd fits

-- a code is stored, whichever it is
code_kept : (L : LaidSchema) (g : Slot) (u c : ℕ) (y : Option Datum) → g.shape ≡ one_of (code_kind u)
    → EntryFits L g y → is_stored g (Some (a_number (pos c))) ≡ true
code_kept L g u c None shape fits = code_stored g c fits.1
code_kept L g u c (Some d) shape fits = absurd (no_code_entry L u d (rw shape at fits.1))

-- the same where no slot is in front
member_open : (L : LaidSchema) (fs : List Slot) (ys : List (Option Datum)) (y : Option Datum) (g f : Slot)
    (n u v c : ℕ) (d : Datum) (opens own : List OpenField) (code : OpenField) → n ≡ suc (length ys)
    → slice_get fs (length ys) ≡ Some g → slice_get fs n ≡ Some f → g.shape ≡ one_of (code_kind u)
    → f.shape ≡ one_of (union_kind v) → is_stored g (Some (a_number (pos c))) ≡ true
    → own ≡ code ∷ reference_field n ∷ []
    → IsInlineField L (n - 1) (scalar_kind U8) (a_number (pos c)) code
    → AreOpen L 0 fs (stored_in fs (ys ++ (y ∷ []))) opens
    → AreOpen L 0 fs (stored_in fs ((ys ++ (y ∷ [])) ++ (Some (a_member c d) ∷ []))) (opens ++ own)
member_open L fs ys y g f n u v c d opens own code long gk fk coded value stored own_is inline are =
    let before : n - 1 ≡ 0 + length ys = omega (arith, long) in
    let last : suc (0 + length ys) ≡ n = omega (arith, long) in
    let behind = rw long at fk in
    let field = rw before at inline in
    let more = member_more L 0 fs ys y g f u v c d opens code gk behind coded value stored field are in
    rw own_is (rw (← last) more)

module _ (L : LaidSchema) (fs : List Slot) (xs : List (Option Datum)) (f : Slot) (opens own : List OpenField)
    (at : slice_get fs (length xs) ≡ Some f) (are : AreOpen L 0 fs (stored_in fs xs) opens) where
  plain_open : (x : Option Datum) → code_in x ≡ None → stored_here f.shape None x ≡ x
      → IsOpenIf (is_stored f x) L (length xs) f x own (λ behind. behind ≡ [])
      → AreOpen L 0 fs (stored_in fs (xs ++ (x ∷ []))) (opens ++ own)
  plain_open x none same h =
      let zero : 0 + length xs ≡ length xs = omega arith in
      plain_more L 0 fs xs f x opens own at none are (rw (same, zero) h)

  -- The entries so far, with one more, store the fields so far with those of that entry.
  pub open_more : (x : Option Datum) → ArePaired fs → ((k : ℕ) (g : Slot) (y : Option Datum)
      → slice_get fs k ≡ Some g → slice_get xs k ≡ Some y → EntryFits L g y) → EntryFits L f x
      → AreFieldsOf L (length xs) f x own → AreOpen L 0 fs (stored_in fs (xs ++ (x ∷ []))) (opens ++ own)
  open_more None paired fits own_fits h = plain_open None refl (absent_same f.shape) h
  open_more (Some (a_number n)) paired fits own_fits h =
      plain_open (Some (a_number n)) refl (stored_same L f.shape (a_number n) own_fits.1) h
  open_more (Some (a_text b)) paired fits own_fits h =
      plain_open (Some (a_text b)) refl (stored_same L f.shape (a_text b) own_fits.1) h
  open_more (Some (a_vector ds)) paired fits own_fits h =
      plain_open (Some (a_vector ds)) refl (stored_same L f.shape (a_vector ds) own_fits.1) h
  open_more (Some (a_struct ds)) paired fits own_fits h =
      plain_open (Some (a_struct ds)) refl (stored_same L f.shape (a_struct ds) own_fits.1) h
  open_more (Some (a_table t es)) paired fits own_fits h =
      plain_open (Some (a_table t es)) refl (stored_same L f.shape (a_table t es) own_fits.1) h
  open_more (Some (an_unknown c)) paired fits own_fits h =
      plain_open (Some (an_unknown c)) refl (stored_same L f.shape (an_unknown c) own_fits.1) h
  open_more (Some (a_member c d)) paired fits own_fits h =
      let union = union_of L f.shape c d own_fits.1 in
      let led = paired.led (length xs) f union.0 at union.1 in
      let last = last_of xs led.0 led.2 in
      let stored = code_kept L led.1 union.0 c last.1 led.4 (fits led.0 led.1 last.1 led.3 last.4) in
      let long : length xs ≡ suc (length last.0) = omega (arith, led.2, last.3) in
      let coded = rw (← last.3) at led.3 in
      let so_far = rw last.2 at are in
      rw last.2 (member_open L fs last.0 last.1 led.1 f (length xs) union.0 union.0 c d opens own h.0
      long coded at led.4 union.1 stored h.1 h.2 so_far)
