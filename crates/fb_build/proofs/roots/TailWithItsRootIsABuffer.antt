-- A tail whose root's reference was laid last is a buffer.
use Rattle.std.proofs.Common.{◌≡◌, ℕ, ◌-◌, ◌≤◌, ◌++◌, Bool, true, false, List, Option, None, Some, if◌then◌else◌}
use Rattle.std.proofs.Common.{length, take, drop, refl, ap, ◌∙◌, arith, length-append}
use Rattle.std.proofs.lemmas.Bool.{le-leb}
use Rattle.std.proofs.lemmas.Slice.Eq.{bytes_eq-Decides}
use Rattle.std.proofs.Math.Seq.{take-append_seam, drop-append_seam}
use Rattle.fb_layout.specs.Laid.{LaidSchema}
use Rattle.fb_value.specs.Bounds.{Bounds, most_bytes}
use Rattle.fb_value.specs.Counts.{cells, depth}
use Rattle.fb_value.specs.Datum.{Datum}
use Rattle.fb_value.specs.Num.{Bytes, divides}
use Rattle.fb_value.specs.Places.{Target, part_place, ref_place, table_part}
use Rattle.fb_value.specs.Rules.{first_failing}
use Rattle.fb_value.specs.Lies.{LiesAt}
use Rattle.fb_value.specs.Holds.{Holds, header_fault, checked_identifier}
use Rattle.fb_value.specs.Tails.{LiesInTail}
use Rattle.fb_value.specs.OldSlots.{OnlyOld}
use Rattle.fb_value.proofs.reached.EachTableIsReached.{only_old_shown}
use Rattle.fb_value.proofs.tails.TailsAreKeptInFront.{whole_shown}
use Rattle.fb_build.specs.Tails.{TailSeen, Grows, LaidInTail}
use Rattle.fb_build.proofs.tail.WhatIsLaidStaysLaid.{laid_grown}
use Rattle.fb_build.specs.Ends.{BeginsWith}
use Rattle.fb_build.specs.Made.{identifier_bytes}
use Rattle.fb_build.specs.Roots.{IsIdentified}

pub identified_behind : (front s id b : Bytes) → b ≡ front ++ s → length front ≡ 4 → length id ≡ 4 → BeginsWith id s
    → IsIdentified b id
identified_behind front s id b e four long begins =
    let whole : b ≡ front ++ (id ++ begins.0) = e ∙ ap (λ x. front ++ x) begins.1 in
    let parts = length-append front (id ++ begins.0) in
    let inner = length-append id begins.0 in
    let all = ap length whole in
    let behind : drop 4 (front ++ (id ++ begins.0)) ≡ id ++ begins.0 =
    rw (← four) (drop-append_seam front (id ++ begins.0)) in
    let first : take 4 (id ++ begins.0) ≡ id =
    rw (← long) (take-append_seam id begins.0) in
    (omega (arith, parts, inner, all, four, long), ap (λ x. take 4 (drop 4 x)) whole ∙ ap (take 4) behind ∙ first)

header_holds : (b : Bytes) (o : Option (List ℕ)) → 4 ≤ length b → length b ≤ most_bytes
    → ((id : Bytes) → o ≡ Some id → IsIdentified b id) → header_fault b o ≡ None
unfolding header_fault first_failing
header_holds b None low high identified = rw (le-leb _ _ low, le-leb _ _ high) refl
header_holds b (Some id) low high identified =
    let own = identified id refl in
    rw (le-leb _ _ own.0, le-leb _ _ high, (bytes_eq-Decides (take 4 (drop 4 b)) id).1 own.1) refl

pub checked : (L : LaidSchema) (b : Bytes) (raw : Bool)
    → ((id : Bytes) → L.schema.identifier ≡ Some id → IsIdentified b id)
    → (id : Bytes) → checked_identifier L raw ≡ Some id → IsIdentified b id
checked L b raw identified id e = by_raw raw e
  where
    by_raw : (r : Bool) → (if r then None else L.schema.identifier) ≡ Some id → IsIdentified b id
    by_raw true e = cc
    by_raw false e = identified id e

-- the root's table, and the reference to it that is laid last
pub root_laid : (L : LaidSchema) (a b c : TailSeen) (t e : ℕ) (d : Datum) → t ≡ L.schema.root → Grows a b
    → LaidInTail L a.most a.bytes (part_place (table_part t)) e d
    → ((X : Target) → LaidInTail L b.most b.bytes (part_place X) e d
    → LaidInTail L c.most c.bytes (ref_place X) (length c.bytes) d)
    → LaidInTail L c.most c.bytes (ref_place (table_part L.schema.root)) (length c.bytes) d
root_laid L a b c t e d root g laid last =
    rw root at (last (table_part t) (laid_grown L a b (part_place (table_part t)) e d g laid))

-- a value that lies in front of nothing lies in the whole
pub whole_lies : (L : LaidSchema) (m : ℕ) (b : Bytes) (v : Datum) → divides m (length b) ≡ true
    → LiesInTail L m b (ref_place (table_part L.schema.root)) (length b) v
    → LiesAt L b (ref_place (table_part L.schema.root)) 0 v
whole_lies L m b v whole lies =
    let front : length b - length b ≡ 0 = omega arith in
    rw (← front) (whole_shown L m b (ref_place (table_part L.schema.root)) (length b) v whole lies)

pub whole_holds : (L : LaidSchema) (m : ℕ) (b : Bytes) (v : Datum) (most : Bounds) (raw : Bool)
    → ((id : Bytes) → L.schema.identifier ≡ Some id → IsIdentified b id) → 4 ≤ length b → length b ≤ most_bytes
    → divides m (length b) ≡ true
    → LiesInTail L m b (ref_place (table_part L.schema.root)) (length b) v → depth v ≤ most.depth → cells v ≤ most.cells
    → Holds L most raw b v
whole_holds L m b v most raw identified low high whole lies deep small = record {
  header = header_holds b (checked_identifier L raw) low high (checked L b raw identified);
  lies = whole_lies L m b v whole lies;
  deep = deep;
  small = small;
}

pub whole_old : (L : LaidSchema) (m : ℕ) (b : Bytes) (v : Datum) → divides m (length b) ≡ true
    → LaidInTail L m b (ref_place (table_part L.schema.root)) (length b) v → OnlyOld L b
whole_old L m b v whole laid =
    let front : length b - length b ≡ 0 = omega arith in
    only_old_shown L b 0 v (whole_lies L m b v whole laid.lies)
    (rw front at laid.old)

-- an identifier has four bytes at most
pub identifier_short : (o : Option (List ℕ)) → ((id : List ℕ) → o ≡ Some id → length id ≡ 4)
    → length (identifier_bytes o) ≤ 4
identifier_short None four = omega arith
identifier_short (Some id) four = let long = four id refl in omega (arith, long)
