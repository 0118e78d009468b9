-- What an entry is, by what was found of it.
use Rattle.std.proofs.Common.{◌≡◌, ◌≤◌, ◌∷◌, [], ℕ, zero, suc, ◌<◌, length, map, drop, slice_get, Bool, true}
use Rattle.std.proofs.Common.{false, nat_le, List, Option, None, Some, ℤ, refl, ap, arith}
use Rattle.std.proofs.lemmas.Bool.{leb-true}
use Rattle.std.proofs.lemmas.Bool.Decides.{nat_tests}
use Rattle.fb_schema.specs.Seen.{field_seen}
use Rattle.fb_schema.specs.declared.types.FieldInfo.{FieldInfo}
use Rattle.fb_schema.specs.Schema.{DeclaredSchema}
use Rattle.fb_layout.specs.Laid.{LaidSchema, Slot, slot_of, slots_of, StoredKind, scalar_kind, struct_kind}
use Rattle.fb_value.specs.Datum.{Datum, a_number, a_text, a_vector, a_struct, a_table, a_member, Parts}
use Rattle.fb_value.specs.Num.{Bytes}
use Rattle.fb_value.specs.Places.{slot_number, part_place, table_part}
use Rattle.fb_value.specs.Lies.{LiesInline, Lies}
use Rattle.fb_value.specs.Nth.{nth_entry}
use Rattle.fb_value.proofs.held.EachPartLiesInItsPlace.{entry_lies_shown}
use Rattle.fb_read.specs.Kinds.{base_wanted, structure_wanted}
use Rattle.fb_read.specs.Stored.{number_entry}
use Rattle.fb_read.specs.Views.{entry_of, number_in, text_in, table_in, struct_in, vector_in, member_in}
use Rattle.fb_read.proofs.places.AbsentSlotNamesNoPlace.{unset_place}
use Rattle.fb_read.proofs.stored.StoredIsTheEntry.{absent_stored}
use Rattle.fb_read.proofs.placed.StructFieldsRankLower.{rank}

pub number_told : (o : Option Datum) (n : ℤ) → number_in o ≡ Some n → o ≡ Some (a_number n)
number_told (Some (a_number m)) n e = let is : m ≡ n = cc in rw is refl
number_told None n e = cc
number_told (Some _) n e = cc

pub text_told : (o : Option Datum) (t : List ℕ) → text_in o ≡ Some t → o ≡ Some (a_text t)
text_told (Some (a_text m)) t e = let is : m ≡ t = cc in rw is refl
text_told None t e = cc
text_told (Some _) t e = cc

pub table_told : (o : Option Datum) (d : Datum) → table_in o ≡ Some d → o ≡ Some d
table_told (Some (a_table t es)) d e = e
table_told None d e = cc
table_told (Some _) d e = cc

pub struct_told : (o : Option Datum) (ds : Parts) → struct_in o ≡ Some ds → o ≡ Some (a_struct ds)
struct_told (Some (a_struct es)) ds e = let is : es ≡ ds = cc in rw is refl
struct_told None ds e = cc
struct_told (Some _) ds e = cc

pub vector_told : (o : Option Datum) (ds : Parts) → vector_in o ≡ Some ds → o ≡ Some (a_vector ds)
vector_told (Some (a_vector es)) ds e = let is : es ≡ ds = cc in rw is refl
vector_told None ds e = cc
vector_told (Some _) ds e = cc

pub member_told : (o : Option Datum) (c : ℕ) (d : Datum) → member_in o ≡ Some (c, d) → o ≡ Some (a_member c d)
member_told (Some (a_member k x)) c d e = let same : (k, x) ≡ (c, d) = cc in
    ap (λ (y : ℕ × Datum). Some (a_member y.0 y.1)) same
member_told None c d e = cc
member_told (Some _) c d e = cc

-- Numbers and structs alone stand in their place.
pub nothing_inline : (L : LaidSchema) (b : Bytes) (kind : StoredKind) (q : ℕ) (d : Datum) → base_wanted kind ≡ None
    → structure_wanted kind ≡ None → LiesInline L b kind q d → ⊥
nothing_inline L b (scalar_kind x) q d none e lies = cc
nothing_inline L b (struct_kind s) q d none e lies = cc
nothing_inline L b _ q _ none e lies = lies

-- a struct in a struct has a lower number
pub rank_told : (kind : StoredKind) (s t : ℕ) → structure_wanted kind ≡ Some t → rank kind ≤ s → t < s
rank_told (struct_kind x) s t e low = let is : x ≡ t = cc in omega (arith, is, low)
rank_told _ s t e low = cc

-- ---- slots that the vtable has no number for

pub past_none : (xs : List Slot) (k : ℕ) → length xs ≤ k → slice_get xs k ≡ None
past_none [] k past = refl
past_none (x ∷ xs) zero past = absurd (omega arith)
past_none (x ∷ xs) (suc k) past = past_none xs k (omega arith)

pub entry_unset : (L : LaidSchema) (b : Bytes) (t p : ℕ) (d : Datum) (k : ℕ) (s : Slot)
    → Lies L b (part_place (table_part t)) p d → slice_get (slots_of L t) k ≡ Some s → slot_number b p k ≡ 0
    → entry_of d k ≡ number_entry s.if_absent
entry_unset L b t p (a_table type es) k s lies there none =
    absent_stored L b s s.if_absent (nth_entry es k) refl
    (rw (unset_place L b p k (drop (suc k) (slots_of L t)) s none) at
    (entry_lies_shown L b p (slots_of L t) es k s lies.2 there))
entry_unset L b t p _ k s lies there none = absurd lies

slots_mapped : (S : DeclaredSchema) (xs : List FieldInfo) → length (map (slot_of S) (map field_seen xs)) ≡ length xs
slots_mapped S [] = refl
slots_mapped S (x ∷ xs) = rw (slots_mapped S xs) refl

-- a slot behind those that the vtable has numbers for
pub entry_behind : (L : LaidSchema) (b : Bytes) (t p n m k : ℕ) (d : Datum) (s : Slot)
    → (n < m → (j : ℕ) → n ≤ j → slot_number b p j ≡ 0) → length (slots_of L t) ≡ m → n ≤ k
    → Lies L b (part_place (table_part t)) p d → slice_get (slots_of L t) k ≡ Some s
    → entry_of d k ≡ number_entry s.if_absent
entry_behind L b t p n m k d s unset long past lies there = by_case (nat_le m k) refl
  where
    by_case : (c : Bool) → nat_le m k ≡ c → entry_of d k ≡ number_entry s.if_absent
    by_case true e = let behind : m ≤ k = leb-true _ _ e in let none =
        past_none (slots_of L t) k (omega (arith, long, behind)) in cc
    by_case false e = let before : k < m = grind (arith, nat_tests) in
        entry_unset L b t p d k s lies there (unset (omega (arith, before, past)) k past)
