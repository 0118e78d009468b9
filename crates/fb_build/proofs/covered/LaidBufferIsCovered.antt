-- A buffer is covered once its header is laid in front of what was made of its value.
use Rattle.std.proofs.Common.{◌≡◌, ℕ, zero, suc, ◌+◌, ◌-◌, ◌<◌, ◌≤◌, ◌++◌, inl, inr, Bool, true, false, cond, ◌==◌}
use Rattle.std.proofs.Common.{◌||◌, max, List, [], ◌∷◌, length, replicate, take, drop, map, slice_index, Option, None}
use Rattle.std.proofs.Common.{Some, refl, ap, sym, ◌∙◌, arith, append_assoc, length-append}
use Rattle.std.proofs.lemmas.Bool.{false≢true, or_cases, eqb-true, eq-eqb}
use Rattle.std.proofs.lemmas.List.Sums.{sum_by-cons}
use Rattle.std.proofs.Math.Seq.{drop-append_seam, take-append_seam}
use Rattle.fb_layout.specs.Laid.{LaidSchema}
use Rattle.fb_value.specs.Datum.{Datum}
use Rattle.fb_value.specs.Num.{Bytes, num}
use Rattle.fb_value.specs.Places.{table_part, part_place}
use Rattle.fb_build.specs.Vtables.{StandsEnd}
use Rattle.fb_build.specs.Tails.{TailSeen, LaidInTail}
use Rattle.fb_tape.specs.KnownVtables.{EachHasOneNumber}
use Rattle.fb_build.specs.Vtables.{AreLaid, TellsItsLength}
use Rattle.fb_build.specs.Pieces.{PartAt, reached, reached_parts, greatest_align, is_among, tables_vtables}
use Rattle.fb_build.specs.Pieces.{whole_header, header_piece, header_size}
use Rattle.fb_build.specs.Covered.{Chunk, piece_chunk, zeros_chunk, pieces_among, vtable_at, EqualVtablesAreOne}
use Rattle.fb_build.specs.Covered.{IsCoveredBy}
use Rattle.fb_build.specs.CoveredTails.{part_further, parts_in_tail}
use Rattle.fb_build.specs.CoveredSteps.{AreDistinct, ChunksOfTail}
use Rattle.fb_build.specs.Made.{laid_at, times_among, IsMade, LeadsEnd, identifier_bytes, HeaderFront}
use Rattle.fb_build.proofs.numbers.NumberReadsBack.{num_behind}
use Rattle.fb_build.proofs.covered.ReachedVtablesAreInside.{reached_front_shown}
use Rattle.fb_build.proofs.covered.TightTailIsCovered.{covered_shown}
use Rattle.fb_build.proofs.covered.HeaderCompletesTheBuffer.{whole_shown}
use Rattle.fb_build.proofs.covered.PartsInFrontAreAdded.{greatest_stay}
use Rattle.fb_build.proofs.covered.PartAddsItself.{front_joined}
use Rattle.fb_tape.proofs.stored.SizesOfWhatIsStored.{got}

-- ---- each vtable once

one_not : (t r : Bool) (n : ℕ) → ◌≡◌ {A = ℕ} (cond t 1 0 + n) 0 → (n ≡ 0 → r ≡ false) → (t || r) ≡ false
one_not true r n none rest = absurd (omega (arith, none))
one_not false r n none rest = rest (omega (arith, none))

not_among : (q : ℕ) (ns : List ℕ) → times_among q ns ≡ 0 → is_among q ns ≡ false
not_among q [] none = refl
not_among q (n ∷ ns) none =
    let e = sum_by-cons (λ m. cond (q == m) 1 0) n ns in
    one_not (q == n) (is_among q ns) (times_among q ns) (sym e ∙ none) (not_among q ns)

pub distinct_once : (ns : List ℕ) → ((q : ℕ) → times_among q ns ≤ 1) → AreDistinct ns
distinct_once [] once = tt
distinct_once (n ∷ ns) once =
    let own = once n in
    let e = sum_by-cons (λ m. cond (n == m) 1 0) n ns in
    let same : (n == n) ≡ true = eq-eqb n n refl in
    let one : ◌≡◌ {A = ℕ} (cond (n == n) 1 0) 1 = rw same refl in (
      not_among n ns (omega (arith, own, one, e)),
      distinct_once ns (λ q. let all = once q in
          let d = sum_by-cons (λ m. cond (q == m) 1 0) n ns in omega (arith, all, d)),
    )

laid_from : (s : Bytes) (places : List ℕ) (q : ℕ) → is_among q (laid_at s places) ≡ true
    → (i : ℕ) × (0 < slice_index places i) × (q ≡ length s - slice_index places i) × (i < length places)
laid_from s [] q h = absurd (false≢true h)
laid_from s (zero ∷ places) q h = let rest = laid_from s places q h in
    (suc rest.0, rest.1, rest.2, omega (arith, rest.3))
laid_from s (suc e ∷ places) q h =
    elim (or_cases (q == (length s - suc e)) (is_among q (laid_at s places)) h) [
      | inl same ↦ (0, omega arith, eqb-true q (length s - suc e) same, omega arith)
      | inr more ↦ (let rest = laid_from s places q more in (suc rest.0, rest.1, rest.2, omega (arith, rest.3)))
    ]

vtable_stood : (s : Bytes) (e : ℕ) (vt : Bytes) → StandsEnd s e vt → TellsItsLength vt → vtable_at s (length s - e) ≡ vt
vtable_stood s e vt h told =
    let whole = ap length h.split in
    let parts = length-append h.before (vt ++ h.behind) in
    let at : length s - e ≡ length h.before = omega (arith, whole, parts, h.at) in
    let first : length h.before + 0 ≡ length h.before = omega arith in
    let rest : drop (length h.before) s ≡ vt ++ h.behind =
    ap (λ b. drop (length h.before) b) h.split ∙ drop-append_seam h.before (vt ++ h.behind) in
    let number : num s (length h.before) 2 ≡ length vt =
    ap (λ b. num b (length h.before) 2) h.split ∙ ap (λ i. num (h.before ++ (vt ++ h.behind)) i 2) (sym first)
    ∙ num_behind h.before (vt ++ h.behind) 0 2 ∙ told h.behind in
    rw at (ap (λ n. take n (drop (length h.before) s)) number ∙ ap (λ b. take (length vt) b) rest
    ∙ take-append_seam vt h.behind)

pub one_place : (s : Bytes) (known : List Bytes) (places ns : List ℕ) → AreLaid known places s → EachHasOneNumber known
    → ((q : ℕ) → is_among q (laid_at s places) ≡ is_among q ns) → EqualVtablesAreOne s ns
one_place s known places ns shared different served q r here there same =
    let x = laid_from s places q (served q ∙ here) in
    let y = laid_from s places r (served r ∙ there) in
    let v = got known x.0 (omega (arith, shared.each, x.3)) in
    let w = got known y.0 (omega (arith, shared.each, y.3)) in
    let vs = shared.stand x.0 v.0 v.1 in
    let ws = shared.stand y.0 w.0 w.1 in
    let first : vtable_at s q ≡ v.0 = ap (vtable_at s) x.2 ∙ vtable_stood s (slice_index places x.0) v.0 vs.1 vs.3 in
    let second : vtable_at s r ≡ w.0 = ap (vtable_at s) y.2 ∙ vtable_stood s (slice_index places y.0) w.0 ws.1 ws.3 in
    let equal : w.0 ≡ v.0 = sym second ∙ sym same ∙ first in
    let key : x.0 ≡ y.0 = different x.0 y.0 v.0 v.1 (w.1 ∙ ap (λ (b : Bytes). Some b) equal) in
    x.2 ∙ ap (λ i. length s - slice_index places i) key ∙ sym y.2

-- ---- the whole buffer

header_long : (o : Option (List ℕ)) (four : Bytes) → length four ≡ 4 → ((id : Bytes) → o ≡ Some id → length id ≡ 4)
    → length (four ++ identifier_bytes o) ≡ header_size o
header_long None four long short = let parts = length-append four [] in omega (arith, parts, long)
header_long (Some id) four long short = let parts = length-append four id in let own = short id refl in
    omega (arith, parts, long, own)

-- what a buffer's bytes are, and what is known of them
pub record IsWhole (L : LaidSchema) (o d : TailSeen) (b : Bytes) (e : ℕ) (v : Datum) (known : List Bytes)
    (places : List ℕ) : Type 0 where
  pub laid : LaidInTail L o.most o.bytes (part_place (table_part L.schema.root)) e v
  pub made : IsMade L o places (parts_in_tail L o.bytes (table_part L.schema.root) e v)
  pub shared : AreLaid known places o.bytes
  pub different : EachHasOneNumber known
  pub header : HeaderFront L.schema.identifier o d
  pub identified : (id : Bytes) → L.schema.identifier ≡ Some id → length id ≡ 4
  pub four : Bytes
  pub four_long : length four ≡ 4
  pub bytes : b ≡ four ++ d.bytes
  pub leads : LeadsEnd b (length b) e

module _ (L : LaidSchema) (o d : TailSeen) (b : Bytes) (e : ℕ) (v : Datum) (known : List Bytes) (places : List ℕ)
    (h : IsWhole L o d b e v known places) where
  own : Bytes
  own = h.four ++ identifier_bytes L.schema.identifier

  front : Bytes
  front = own ++ (replicate h.header.zeros 0 ++ [])

  joined : b ≡ front ++ o.bytes
  unfolding own front
  joined =
      h.bytes ∙ ap (λ z. h.four ++ z) h.header.bytes
      ∙ sym (append_assoc h.four (identifier_bytes L.schema.identifier) (replicate h.header.zeros 0 ++ o.bytes))
      ∙ front_joined (h.four ++ identifier_bytes L.schema.identifier) o.bytes h.header.zeros

  fs : List Chunk
  fs = piece_chunk whole_header own ∷ zeros_chunk h.header.zeros ∷ []

  are : ChunksOfTail front o.most fs
  unfolding own front fs
  are = record { joined = refl; runs = (h.header.under, refl, tt); first = refl }

  header : pieces_among 0 fs ≡ header_piece L ∷ []
  unfolding own fs
  header = ap (λ n. record { kind = whole_header; at = 0; size = n } ∷ [])
      (header_long L.schema.identifier h.four h.four_long h.identified)

  xs : List PartAt
  xs = parts_in_tail L o.bytes (table_part L.schema.root) e v

  root : num (front ++ o.bytes) 0 4 ≡ length (front ++ o.bytes) - e
  root =
      let zero : length b - length b ≡ 0 = omega arith in
      let way = rw zero at h.leads.way in
      let number : num b 0 4 ≡ length b - e = omega (arith, way) in
      rw joined at number

  greatest : greatest_align L (front ++ o.bytes) (reached_parts L (front ++ o.bytes) v) ≡ o.most
  unfolding xs
  greatest =
      let c = front ++ o.bytes in
      let kept = reached_front_shown L o.most front o.bytes (table_part L.schema.root) e v h.laid.lies in
      let at : 0 + num c 0 4 ≡ length c - e = omega (arith, root) in
      let parts : reached_parts L c v ≡ map (part_further (length front)) xs =
      ap (λ q. reached L c (table_part L.schema.root) q v) at ∙ kept.parts in
      ap (λ ps. greatest_align L c ps) parts ∙ ap (λ n. max 4 n) (greatest_stay L front o.bytes xs h.made.stay)
      ∙ sym h.made.widest

  pub covered_buffer : IsCoveredBy L b v
  unfolding xs
  covered_buffer =
      let s = o.bytes in
      let made = whole_shown L o.most o.most front s fs e v (laid_at s places) h.laid.lies h.made.made
      (distinct_once (laid_at s places) h.made.once) h.made.served are header root (omega (arith, greatest)) in
      let one = one_place s known places (tables_vtables s xs) h.shared h.different h.made.served in
      let all : IsCoveredBy L (front ++ s) v =
      covered_shown L o.most front s e v h.laid.lies h.laid.tight h.laid.inline one root made in
      rw joined all

  pub greatest_buffer : greatest_align L b (reached_parts L b v) ≡ o.most
  greatest_buffer = rw joined greatest
