-- What is made so far while a buffer is laid from its end: parts and vtables, each once, and few zeros between them.
use Rattle.std.specs.Prelude.{ℕ, zero, suc, ◌+◌, ◌-◌, ◌*◌, ◌≡◌, ◌≤◌, ◌<◌, ◌++◌, Bool, true, false, cond, ◌==◌, max}
use Rattle.std.specs.Prelude.{List, [], ◌∷◌, length, replicate, map, drop, slice_get, slice_index, Option}
use Rattle.std.specs.Prelude.{None, Some, option_map}
use Rattle.std.specs.List.{All, sum_by}
use Rattle.byteorder.specs.Endian.{little_bytes}
use Rattle.fb_layout.specs.Laid.{LaidSchema, Slot, StoredKind, StoredShape, one_of, size_of}
use Rattle.fb_value.specs.Datum.{Datum}
use Rattle.fb_value.specs.Num.{Bytes, num}
use Rattle.fb_value.specs.Places.{Target}
pub use Rattle.fb_tape.specs.NamedParts.{NamedPart}
use Rattle.fb_build.specs.Pieces.{PartAt, part_size, part_align, greatest_align, vtable_of, is_among, tables_vtables}
use Rattle.fb_build.specs.CoveredTails.{part_further, parts_in_tail}
use Rattle.fb_build.specs.CoveredSteps.{MadeInTail}
use Rattle.fb_build.specs.Fields.{is_stored, target_for}
use Rattle.fb_build.specs.Tails.{TailSeen}

-- Whatever is laid in front of a tail, a part of it is as great, has its vtable and is aligned as before, further on.
pub record StaysInFront (L : LaidSchema) (s : Bytes) (x : PartAt) : Type 0 where
  pub size : (front : Bytes) → part_size L (front ++ s) x.target (length front + x.at) ≡ part_size L s x.target x.at
  pub vtable : (front : Bytes) → vtable_of (front ++ s) x.target (length front + x.at)
      ≡ option_map (λ q. length front + q) (vtable_of s x.target x.at)
  pub align : (front : Bytes) → part_align L (front ++ s) x.target (length front + x.at) ≡ part_align L s x.target x.at

-- where vtables stand that were laid at these end-counts; 0 is for one that isn't laid
abbrev pub laid_at : Bytes → List ℕ → List ℕ
laid_at s [] = []
laid_at s (zero ∷ ends) = laid_at s ends
laid_at s (suc e ∷ ends) = (length s - suc e) ∷ laid_at s ends

-- how often a number is among others
abbrev pub times_among : ℕ → List ℕ → ℕ
times_among q ns = sum_by (λ n. cond (q == n) 1 0) ns

-- A tail is made of some parts and of the vtables that were laid at these end-counts: those of its tables and no
-- others.
pub record IsMade (L : LaidSchema) (o : TailSeen) (places : List ℕ) (xs : List PartAt) : Type 0 where
  pub within : (i : ℕ) → slice_index places i ≤ length o.bytes
  pub stay : All (StaysInFront L o.bytes) xs
  pub made : MadeInTail L o.bytes o.most xs (laid_at o.bytes places)
  pub served : (q : ℕ) → is_among q (laid_at o.bytes places) ≡ is_among q (tables_vtables o.bytes xs)
  pub once : (q : ℕ) → times_among q (laid_at o.bytes places) ≤ 1
  pub widest : o.most ≡ greatest_align L o.bytes xs

-- From one tail to a later one these parts were laid in front, and the vtables that they are the first to have.
abbrev pub Adds : LaidSchema → TailSeen → List ℕ → TailSeen → List ℕ → List PartAt → Type 0
Adds L a before b after ys = (xs : List PartAt) → IsMade L a before xs
    → IsMade L b after (ys ++ map (part_further (length b.bytes - length a.bytes)) xs)

-- The reference at an end-count leads to another.
pub record LeadsEnd (s : Bytes) (e target : ℕ) : Type 0 where
  pub from : e ≤ length s
  pub to : target ≤ length s
  pub way : (length s - e) + num s (length s - e) 4 ≡ length s - target

-- where a reference stands
abbrev pub LeadsTo : Bytes → Option Target → ℕ → ℕ → Type 0
LeadsTo s None e target = Unit {0}
LeadsTo s (Some X) e target = LeadsEnd s e target

-- The references of a vector whose elements begin at an end-count lead where each element's part was laid.
abbrev pub ItemsLead : LaidSchema → Bytes → ℕ → StoredKind → List Datum → List ℕ → Type 0
ItemsLead L s behind kind ds targets =
    (k : ℕ) (d : Datum) → slice_get ds k ≡ Some d
    → LeadsTo s (target_for (one_of kind) d) (behind + (length ds - k) * size_of L kind) (slice_index targets k)

abbrev pub named_of : StoredShape → Datum → Option NamedPart
named_of shape d = option_map (λ X. record { target = X; value = d }) (target_for shape d)

abbrev pub named_items : StoredKind → List Datum → List (Option NamedPart)
named_items kind ds = map (named_of (one_of kind)) ds

abbrev pub parts_at : LaidSchema → Bytes → Option NamedPart → ℕ → List PartAt
parts_at L s None e = []
parts_at L s (Some x) e = parts_in_tail L s x.target e x.value

-- the parts of all that lie at some end-counts
abbrev pub ends_parts : LaidSchema → Bytes → List (Option NamedPart) → List ℕ → List PartAt
ends_parts L s [] ends = []
ends_parts L s (x ∷ xs) ends = parts_at L s x (slice_index ends 0) ++ ends_parts L s xs (drop 1 ends)

abbrev pub named_stored : Slot → Option Datum → Option NamedPart
named_stored f None = None
named_stored f (Some d) = named_of f.shape d

abbrev pub named_fields : List Slot → List (Option Datum) → List (Option NamedPart)
named_fields (f ∷ fs) (x ∷ xs) = named_stored f x ∷ named_fields fs xs
named_fields _ _ = []

-- The end-count of a slot: once its field is laid, its reference leads where its part was laid; before, it is that
-- part's.
abbrev pub FieldLeads : Bytes → Bool → Slot → Option Datum → ℕ → ℕ → Type 0
FieldLeads s false f x target e = e ≡ target
FieldLeads s true f None target e = Unit {0}
FieldLeads s true f (Some d) target e = is_stored f (Some d) ≡ true → LeadsTo s (target_for f.shape d) e target

abbrev pub FieldsLead : Bytes → (ℕ → Slot → Bool) → List Slot → List (Option Datum) → List ℕ → List ℕ → Type 0
FieldsLead s laid fs xs targets ends =
    (k : ℕ) (f : Slot) (x : Option Datum) → slice_get fs k ≡ Some f → slice_get xs k ≡ Some x
    → FieldLeads s (laid k f) f x (slice_index targets k) (slice_index ends k)

-- From one tail to a later one, zeros up to a multiple and a table's fields were laid.
pub record FieldsFront (a b : TailSeen) (start align : ℕ) : Type 0 where
  pub fields : Bytes
  pub zeros : ℕ
  pub laid : b.bytes ≡ fields ++ (replicate zeros 0 ++ a.bytes)
  pub begin : start ≡ zeros + length a.bytes
  pub under : zeros < align
  pub most : b.most ≡ max a.most align

-- The first number of a table was laid, for a vtable that was laid before.
pub record OldVtable (known : List Bytes) (before after : List ℕ) (old new vtable : Bytes) : Type 0 where
  pub key : ℕ
  pub number : ℕ
  pub is : slice_get known key ≡ Some vtable
  pub some : 0 < slice_index before key
  pub places : after ≡ before
  pub bytes : new ≡ little_bytes 4 number ++ old

-- It was laid, and its vtable in front, whose place was noted.
pub record NewVtable (known : List Bytes) (before after : List ℕ) (old new vtable : Bytes) : Type 0 where
  pub is : slice_get known (length before) ≡ Some vtable
  pub places : after ≡ before ++ (length new ∷ [])
  pub bytes : new ≡ vtable ++ (little_bytes 4 (length vtable) ++ old)

-- after the root's reference
abbrev pub identifier_bytes : Option (List ℕ) → Bytes
identifier_bytes None = []
identifier_bytes (Some id) = id

-- From one tail to a later one the identifier was laid, if there is one, and few zeros after it.
pub record HeaderFront (identifier : Option (List ℕ)) (a b : TailSeen) : Type 0 where
  pub zeros : ℕ
  pub under : zeros < a.most
  pub bytes : b.bytes ≡ identifier_bytes identifier ++ (replicate zeros 0 ++ a.bytes)
