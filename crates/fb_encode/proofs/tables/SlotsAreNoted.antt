-- The slots of a table are noted one after the other.
use Rattle.std.proofs.Common.{◌≡◌, ◌+◌, ◌≤◌, ◌<◌, ◌++◌, ◌∷◌, [], ◌∙◌, ℕ, zero, suc, List, Option, None, Some, Ok}
use Rattle.std.proofs.Common.{Err}
use Rattle.std.proofs.Common.{length, map, drop, get_or, slice_get, Bor, Bool, true, refl, sym, ap, arith}
use Rattle.std.proofs.Math.Seq.{drop-append_seam}
use Rattle.std.proofs.lemmas.List.{append_assoc, append-nil}
use Rattle.std.proofs.lemmas.Option.{slice_get-map}
use Rattle.serde_json.specs.declared.value.Value.{Value as Json}
use Rattle.serde_json.specs.Data.{Members}
use Rattle.fb_schema.specs.declared.types.FieldInfo.{FieldInfo}
use Rattle.fb_schema.specs.Schema.{DeclaredField, body_at, slots_in}
use Rattle.fb_schema.specs.Seen.{field_seen}
use Rattle.fb_layout.specs.Laid.{LaidSchema, Slot, one_of, slot_of, slots_of, table_kind}
use Rattle.fb_layout.specs.WellMade.{IsWellMade}
use Rattle.fb_value.specs.Counts.{entries_whole}
use Rattle.fb_value.specs.Datum.{Datum, a_table}
use Rattle.fb_value.specs.Entries.{EntryFits}
use Rattle.fb_value.specs.Fits.{EntriesFit}
use Rattle.fb_value.specs.Places.{table_part}
use Rattle.fb_value.specs.Room.{entries_room, table_room}
use Rattle.fb_value.specs.UpTo.{at_most_usize}
use Rattle.fb_value.specs.View.{entries_in}
use Rattle.fb_tape.specs.NamedParts.{NamedPart, entries_apart}
use Rattle.fb_tape.specs.OpenFields.{IsOpenTable, OpenField}
use Rattle.fb_tape.specs.Tapes.{Taped, Waits}
use Rattle.fb_json.specs.declared.faults.JsonFault.{JsonFault}
use Rattle.fb_json.specs.declared.faults.JsonFault.TheVariants.{TooDeep, TooManyCells}
use Rattle.fb_json.specs.declared.faults.Place.{Place}
use Rattle.fb_json.specs.Meant.{Look, code_after, entry_meant, slot_place, slots_meant, table_meant}
use Rattle.fb_json.specs.Outcome.{Counted}
use Rattle.fb_json.specs.SlotMembers.{looked_up, tree_seen}
use Rattle.fb_json.proofs.slots.OneSlotOrFieldMore.{after, slots_end, slots_next, slots_ungiven}
use Rattle.fb_json.proofs.slots.OneSlotOrFieldMore.{slots_untold}
use Rattle.fb_build.specs.OneByOne.{EachEntryFits}
use Rattle.fb_build.specs.Fields.{stored_in}
use Rattle.fb_build.specs.Noted.{AddsParts, AddsSlots}
use Rattle.fb_build.specs.Paired.{ArePaired}
use Rattle.fb_build.specs.Parts.{EntryWhole}
use Rattle.fb_build.proofs.fields.EntriesAreKnown.{known_in}
use Rattle.fb_build.proofs.noted.OneMoreFits.{all_fit, fits_more, long_more}
use Rattle.fb_build.proofs.noted.PartsAreAdded.{adds_none, adds_same, adds_then}
use Rattle.fb_build.proofs.noted.SlotsAreNoted.{apart_more, empty_open, no_apart, no_room, none_stored, open_more}
use Rattle.fb_build.proofs.noted.SlotsAreNoted.{room_more}
use Rattle.fb_encode.specs.TreesNoted.{IsEntryNoted, IsNoted, entry_given}

-- The first k slots are noted. Behind them the code was told last, and so many cells of `whole` are left.
pub record AreSlotsNoted (L : LaidSchema) (look : Look) (t : ℕ) (slots : List FieldInfo) (k code levels whole left : ℕ)
    (a b : Taped) (before now : List OpenField) : Type 0 where
  pub entries : List (Option Datum)
  pub gives : slots_meant L look t (map field_seen slots) 0 0 levels whole
      ≡ after entries (slots_meant L look t (map field_seen (drop k slots)) k code levels left)
  pub count : length entries ≡ k
  pub fits : EachEntryFits L (slots_of L t) entries
  pub adds : AddsParts a b (entries_apart (slots_of L t) entries) (entries_room L (slots_of L t) (entries_in entries))
  pub opens : AddsSlots L (slots_of L t) (stored_in (slots_of L t) entries) before now

after_none : {A : Type 0} (r : Counted (List A)) → r ≡ after [] r
after_none (Ok x) = refl
after_none (Err e) = refl

pub none_noted : (L : LaidSchema) (look : Look) (t : ℕ) (slots : List FieldInfo) (levels whole : ℕ) (a : Taped)
    (before : List OpenField) → a.unfinished ≡ []
    → AreSlotsNoted L look t slots 0 0 levels whole whole a a before before
none_noted L look t slots levels whole a before finished =
    let fs = slots_of L t in
    record {
      entries = [];
      gives = after_none (slots_meant L look t (map field_seen slots) 0 0 levels whole);
      count = refl;
      fits = λ k f x fk none. cc;
      adds = adds_same a a [] _ 0 _ (sym (no_apart fs)) (sym (no_room L fs)) (adds_none a finished);
      opens = ([], sym (append-nil before), rw (none_stored fs) (empty_open L 0 fs));
    }

-- where what is declared of a slot is among the layout's
pub slot_there : (L : LaidSchema) (t : ℕ) (slots : List FieldInfo) (k : ℕ) (f : FieldInfo)
    → map field_seen slots ≡ slots_in (body_at L.schema t)
    → slice_get (map field_seen slots) k ≡ Some (field_seen f)
    → slice_get (slots_of L t) k ≡ Some (slot_of L.schema (field_seen f))
slot_there L t slots k f are at =
    slice_get-map (slot_of L.schema) (slots_in (body_at L.schema t)) k
    ∙ (rw (← are, at) refl)

module _ (L : LaidSchema) (look : Look) (t : ℕ) (slots : List FieldInfo) (k : ℕ) (f : FieldInfo)
    (within : k < length slots) (is : f ≡ get_or slots k f)
    (code levels whole left : ℕ) (a b : Taped) (before now : List OpenField)
    (inv : AreSlotsNoted L look t slots k code levels whole left a b before now) where
  pub next_noted : slice_get (slots_of L t) k ≡ Some (slot_of L.schema (field_seen f)) → ArePaired (slots_of L t)
      → (c : Taped) (later : List OpenField) (told rest : ℕ)
      → code_after L.schema look (slot_place t k) code f.deprecated (field_seen f).name f.shape ≡ Ok told
      → IsEntryNoted L k (slot_of L.schema (field_seen f))
      (entry_meant L look (field_seen f) (slot_place t k) told levels left) b c now later rest
      → AreSlotsNoted L look t slots (k + 1) told levels whole rest a c before later
  next_noted at paired c later told rest code_is e =
      let fs = slots_of L t in
      let xs = inv.entries in
      let s = slot_of L.schema (field_seen f) in
      let x = e.entry in
      let here : slice_get fs (length xs) ≡ Some s = rw inv.count at in
      record {
        entries = xs ++ (x ∷ []);
        gives = inv.gives ∙ slots_next L look t slots k f within is xs code levels left told rest x code_is e.given_is;
        count = omega (arith, long_more xs x, inv.count);
        fits = fits_more L fs xs s x here (only_one s x e.fits e.whole) inv.fits;
        adds = adds_same a c _ _ _ _ (sym (apart_more fs xs s x here)) (sym (room_more L fs xs s x here))
            (adds_then a b c _ _ _ _ inv.adds e.adds);
        opens = (
          inv.opens.0 ++ e.fields.0,
          e.fields.1 ∙ ap (λ os. os ++ e.fields.0) inv.opens.1 ∙ append_assoc before inv.opens.0 e.fields.0,
          open_more L fs xs s inv.opens.0 e.fields.0 here inv.opens.2 x paired
              (λ j g y gj yj. (inv.fits j g y gj yj).0) e.fits (rw inv.count e.fields.2),
        );
      }
    where
      only_one : (s : Slot) (x : Option Datum) → EntryFits L s x → EntryWhole x → EachEntryFits L (s ∷ []) (x ∷ [])
      only_one s x fits whole zero g y gk yk =
          let s_is : s ≡ g = cc in let x_is : x ≡ y = cc in rw (← s_is, ← x_is) (fits, whole)
      only_one s x fits whole (suc j) g y gk yk = cc

  pub untold : (e : JsonFault)
      → code_after L.schema look (slot_place t k) code f.deprecated (field_seen f).name f.shape ≡ Err e
      → slots_meant L look t (map field_seen slots) 0 0 levels whole ≡ Err e
  untold e told = inv.gives ∙ slots_untold L look t slots k f within is inv.entries code levels left e told

  pub ungiven : (told : ℕ) (e : JsonFault)
      → code_after L.schema look (slot_place t k) code f.deprecated (field_seen f).name f.shape ≡ Ok told
      → entry_meant L look (field_seen f) (slot_place t k) told levels left ≡ Err e
      → slots_meant L look t (map field_seen slots) 0 0 levels whole ≡ Err e
  ungiven told e code_is given =
      inv.gives ∙ slots_ungiven L look t slots k f within is inv.entries code levels left told e code_is given

-- an entry by the tree that is at its slot
pub entry_by : (L : LaidSchema) (unknown : Bool) (look : Look) (f : DeclaredField) (r : Option (Bor Json)) (at : Place)
    (code levels left : ℕ) → look f.name ≡ looked_up L unknown r
    → entry_meant L look f at code levels left ≡ entry_given L unknown f (tree_seen r) at code levels left
unfolding entry_meant
entry_by L unknown look f None at code levels left found = rw found refl
entry_by L unknown look f (Some r) at code levels left found = rw found refl

-- ---- all slots

module _ (L : LaidSchema) (look : Look) (t : ℕ) (slots : List FieldInfo) (k code levels whole left : ℕ)
    (a b : Taped) (before now : List OpenField) (past : length slots ≤ k)
    (inv : AreSlotsNoted L look t slots k code levels whole left a b before now) where
  pub all_given : slots_meant L look t (map field_seen slots) 0 0 levels whole ≡ Ok (inv.entries, left)
  all_given = inv.gives ∙ slots_end L look t slots k inv.entries code levels left past

  module _ (made : IsWellMade L) (long : length (slots_of L t) ≡ k) where
    all_fitting : EntriesFit L (slots_of L t) (entries_in inv.entries) × (entries_whole (entries_in inv.entries) ≡ true)
    all_fitting = all_fit L (slots_of L t) inv.entries (omega (arith, long, inv.count)) inv.fits

    -- the fields that they store are those of a table
    pub open_table : IsOpenTable L t (drop (length before) now) inv.entries
    open_table =
        let own : drop (length before) now ≡ inv.opens.0 =
        rw inv.opens.1 (drop-append_seam before inv.opens.0) in
        rw own (record {
          fits = all_fitting.0;
          whole = all_fitting.1;
          known = (known_in L t inv.entries made all_fitting.0 all_fitting.1).known;
          stored = inv.opens.2;
        })

    -- the table waits in place of what its references name
    pub table_noted : (given : Counted Datum) → given ≡ Ok (a_table t (entries_in inv.entries), left) → (c : Taped)
        (M : LaidSchema) → M ≡ L
        → ((others : List NamedPart) (xs : List (Option Datum)) → IsOpenTable M t (drop (length before) now) xs
        → Waits b (others ++ entries_apart (slots_of M t) xs)
        → Waits c (others ++ (record { target = table_part t; value = a_table t (entries_in xs) } ∷ [])))
        → c.room ≡ at_most_usize (b.room + table_room L t) → c.unfinished ≡ [] → c.layout ≡ b.layout
        → IsNoted L (one_of (table_kind t)) given a c left
    table_noted given is c M laid closed room finished same = record {
      value = a_table t (entries_in inv.entries);
      given_is = is;
      fits = (refl, all_fitting.0);
      whole = all_fitting.1;
      adds = record {
        waits = λ others w. (rw laid at (closed others inv.entries)) open_table (inv.adds.waits others w);
        sum = omega (arith, inv.adds.sum, room);
        layout = same ∙ inv.adds.layout;
        whole = finished;
      };
    }

-- ---- the head of a table

pub too_deep : (L : LaidSchema) (unknown : Bool) (ms : Members) (look : Look) (t : ℕ) (at : Place) (levels left : ℕ)
    → levels ≡ 0 → table_meant L unknown ms look t at levels left ≡ Err (TooDeep at)
unfolding table_meant
too_deep L unknown ms look t at zero left is = refl
too_deep L unknown ms look t at (suc levels) left is = absurd (omega (arith, is))

pub no_cell : (L : LaidSchema) (unknown : Bool) (ms : Members) (look : Look) (t : ℕ) (at : Place) (levels left : ℕ)
    → 0 < levels → left ≡ 0 → table_meant L unknown ms look t at levels left ≡ Err (TooManyCells at)
unfolding table_meant
no_cell L unknown ms look t at zero left some is = absurd (omega (arith, some))
no_cell L unknown ms look t at (suc levels) left some is = rw is refl
