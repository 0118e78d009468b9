-- A buffer with its length laid before it is a size-prefixed buffer.
use Rattle.std.proofs.Common.{◌≡◌, ℕ, ◌+◌, ◌-◌, ◌≤◌, ◌++◌, Bool, true, Option, None, Some, length, take}
use Rattle.std.proofs.Common.{drop}
use Rattle.std.proofs.Common.{refl, ap, ◌∙◌, subst, arith, length-append}
use Rattle.std.proofs.lemmas.Bool.{le-leb}
use Rattle.std.proofs.lemmas.Slice.Eq.{bytes_eq-Decides}
use Rattle.std.proofs.Math.Seq.{drop-append-add, drop-append_seam}
use Rattle.byteorder.specs.Endian.{little_bytes}
use Rattle.fb_layout.specs.Laid.{LaidSchema}
use Rattle.fb_value.specs.Bounds.{Bounds, most_bytes}
use Rattle.fb_value.specs.Counts.{cells, depth}
use Rattle.fb_value.specs.Datum.{Datum}
use Rattle.fb_value.specs.Num.{Bytes, num, divides}
use Rattle.fb_value.specs.Places.{ref_place, table_part}
use Rattle.fb_value.specs.Rules.{first_failing}
use Rattle.fb_value.specs.Lies.{LiesAt}
use Rattle.fb_value.specs.Holds.{HoldsFramed, prefixed_fault, checked_identifier}
use Rattle.fb_value.specs.OldSlots.{OnlyOldBehind}
use Rattle.fb_value.proofs.reached.EachTableIsReached.{only_old_shown}
use Rattle.fb_value.proofs.tails.TailsAreKeptInFront.{front_shown, old_shown, whole_shown}
use Rattle.fb_build.specs.Tails.{LaidInTail}
use Rattle.fb_build.specs.Roots.{IsIdentified}
use Rattle.fb_build.proofs.roots.TailWithItsRootIsABuffer.{checked}
use Rattle.fb_value.proofs.numbers.BytesSumToTheirNumber.{num_first}

-- a size prefix, and the buffer whose length it is
pub record IsPrefixed (s b : Bytes) : Type 0 where
  pub bytes : b ≡ little_bytes 4 (length s) ++ s
  pub least : 4 ≤ length s
  pub short : length b ≤ most_bytes

four_long : (n : ℕ) → length (little_bytes 4 n) ≡ 4
four_long n = refl

module _ (s b : Bytes) (h : IsPrefixed s b) where
  pub prefixed_long : length b ≡ 4 + length s
  prefixed_long =
      ap length h.bytes ∙ length-append (little_bytes 4 (length s)) s ∙ ap (λ n. n + length s) (four_long (length s))

  prefixed_number : num b 0 4 ≡ length s
  prefixed_number = ap (λ x. num x 0 4) h.bytes ∙ num_first 4 (length s) s (omega (arith, prefixed_long, h.short))

  pub prefixed_behind : drop 4 b ≡ s
  prefixed_behind = ap (λ x. drop 4 x) h.bytes ∙ subst (λ (n : ℕ). drop n (little_bytes 4 (length s) ++ s) ≡ s)
      (four_long (length s)) (drop-append_seam (little_bytes 4 (length s)) s)

  identified_on : (id : Bytes) → IsIdentified s id → take 4 (drop 8 b) ≡ id
  identified_on id own =
      let on : drop 8 b ≡ drop 4 s = ap (λ x. drop 8 x) h.bytes
      ∙ rw (← (four_long (length s))) (drop-append-add (little_bytes 4 (length s)) s 4) in
      ap (take 4) on ∙ own.1

  prefixed_header : (o : Option Bytes) → ((id : Bytes) → o ≡ Some id → IsIdentified s id) → prefixed_fault b o ≡ None
  unfolding prefixed_fault first_failing
  prefixed_header None identified = rw (
    le-leb 4 (length b) (omega (arith, prefixed_long)),
    le-leb (4 + num b 0 4) (length b) (omega (arith, prefixed_long, prefixed_number)),
    le-leb (length b) (4 + num b 0 4) (omega (arith, prefixed_long, prefixed_number)),
    le-leb 8 (length b) (omega (arith, prefixed_long, h.least)),
    le-leb _ _ h.short,
  ) refl
  prefixed_header (Some id) identified =
      let own = identified id refl in
      rw (
        le-leb 4 (length b) (omega (arith, prefixed_long)),
        le-leb (4 + num b 0 4) (length b) (omega (arith, prefixed_long, prefixed_number)),
        le-leb (length b) (4 + num b 0 4) (omega (arith, prefixed_long, prefixed_number)),
        le-leb 12 (length b) (omega (arith, prefixed_long, own.0)),
        le-leb _ _ h.short,
        (bytes_eq-Decides (take 4 (drop 8 b)) id).1 (identified_on id own),
      ) refl

module _ (L : LaidSchema) (m : ℕ) (s b : Bytes) (v : Datum) (h : IsPrefixed s b)
    (whole : divides m (length s + 4) ≡ true)
    (laid : LaidInTail L m s (ref_place (table_part L.schema.root)) (length s) v) where
  behind : length (little_bytes 4 (length s) ++ s) - length s ≡ 4
  behind =
      let long = prefixed_long s b h in
      let same = ap length h.bytes in
      omega (arith, long, same)

  pub prefixed_lies : LiesAt L b (ref_place (table_part L.schema.root)) 4 v
  prefixed_lies =
      let X = ref_place (table_part L.schema.root) in
      let front = little_bytes 4 (length s) in
      let all : divides m (length (front ++ s)) ≡ true = subst (λ (n : ℕ). divides m n ≡ true)
      (omega (arith, prefixed_long s b h, ap length h.bytes)) whole in
      rw h.bytes (rw behind at (whole_shown L m (front ++ s) X (length s) v all
      (front_shown L m front s X (length s) v laid.lies)))

  pub prefixed_old : OnlyOldBehind 4 L b
  prefixed_old =
      let X = ref_place (table_part L.schema.root) in
      let front = little_bytes 4 (length s) in
      let old = old_shown L m front s X (length s) v laid.lies laid.old in
      only_old_shown L b 4 v prefixed_lies (rw h.bytes (rw behind at old))

  pub prefixed_holds : (most : Bounds) (raw : Bool)
      → ((id : Bytes) → L.schema.identifier ≡ Some id → IsIdentified s id) → depth v ≤ most.depth
      → cells v ≤ most.cells → HoldsFramed true L most raw b v
  prefixed_holds most raw identified deep small = record {
    header = prefixed_header s b h (checked_identifier L raw) (checked L s raw identified);
    lies = prefixed_lies;
    deep = deep;
    small = small;
  }
