-- The fields of a struct, one behind the other with zeros between them.
use Rattle.std.proofs.Common.{◌≡◌, ℕ, ◌+◌, ◌-◌, ◌<◌, ◌≤◌, inl, inr, ◌++◌, true, false, List, [], ◌∷◌}
use Rattle.std.proofs.Common.{length, replicate, slice_index, refl, ap, sym, ◌∙◌, arith, append_assoc}
use Rattle.std.proofs.Common.{length-append}
use Rattle.std.proofs.lemmas.Bool.{false≢true, and_from, or_parts, le-leb, lt-ltb, cases_lt, or_from}
use Rattle.std.proofs.lemmas.List.{get_or-append_right, get_or_append_left, get_or-append-add, get_or-replicate}
use Rattle.std.proofs.lemmas.List.{length-replicate}
use Rattle.fb_layout.specs.Laid.{LaidSchema, StoredKind, struct_kind, parts_of, struct_at, size_of}
use Rattle.fb_value.specs.Datum.{Datum, a_struct}
use Rattle.fb_value.specs.Lies.{LiesInline, LiesParts}
use Rattle.fb_value.specs.Num.{Bytes}
use Rattle.fb_value.specs.View.{parts_in}
use Rattle.fb_value.proofs.tails.SameBytesHoldTheSameFurtherOn.{inline_lies}
use Rattle.fb_tape.specs.InlineBytes.{IsTightInline, EachInlineIn, EachFieldIn, is_in_part, AreInlineBytes}
use Rattle.fb_tape.specs.Taken.{is_within}
use Rattle.fb_tape.proofs.inline_bytes.SameBytesAreTightFurtherOn.{inline_moved}

-- The first fields of a struct stand in its first bytes, whatever is behind them.
pub record FirstFieldsStand (L : LaidSchema) (kinds : List StoredKind) (os : List ℕ) (ds : List Datum) (own : Bytes)
    : Type 0 where
  pub lies : (behind : Bytes) → LiesParts L (own ++ behind) kinds os 0 (parts_in ds)
  pub tight : (behind : Bytes) → EachFieldIn L (IsTightInline L (own ++ behind)) kinds os 0 (parts_in ds)
  pub padded : (i : ℕ) → i < length own → is_in_part L kinds os i ≡ false → slice_index own i ≡ 0

-- ---- one field more

lies_more : (L : LaidSchema) (b : Bytes) (kind : StoredKind) (o : ℕ) (d : Datum) → LiesInline L b kind (0 + o) d
    → (kinds : List StoredKind) (os : List ℕ) (ds : List Datum) → length os ≡ length kinds
    → LiesParts L b kinds os 0 (parts_in ds)
    → LiesParts L b (kinds ++ (kind ∷ [])) (os ++ (o ∷ [])) 0 (parts_in (ds ++ (d ∷ [])))
lies_more L b kind o d own [] [] [] e h = (own, tt)
lies_more L b kind o d own [] [] (x ∷ ds) e h = absurd h
lies_more L b kind o d own [] (p ∷ os) ds e h = absurd (omega (arith, e))
lies_more L b kind o d own (k ∷ kinds) [] ds e h = absurd h
lies_more L b kind o d own (k ∷ kinds) (p ∷ os) [] e h = absurd h
lies_more L b kind o d own (k ∷ kinds) (p ∷ os) (x ∷ ds) e h =
    (h.0, lies_more L b kind o d own kinds os ds (omega (arith, e)) h.1)

tight_more : (L : LaidSchema) (P : StoredKind → ℕ → Type 0) (kind : StoredKind) (o : ℕ) (d : Datum)
    → EachInlineIn L P kind (0 + o) d → (kinds : List StoredKind) (os : List ℕ) (ds : List Datum)
    → length os ≡ length kinds → length ds ≡ length kinds → EachFieldIn L P kinds os 0 (parts_in ds)
    → EachFieldIn L P (kinds ++ (kind ∷ [])) (os ++ (o ∷ [])) 0 (parts_in (ds ++ (d ∷ [])))
tight_more L P kind o d own [] [] [] e f h = (own, tt)
tight_more L P kind o d own [] [] (x ∷ ds) e f h = absurd (omega (arith, f))
tight_more L P kind o d own [] (p ∷ os) ds e f h = absurd (omega (arith, e))
tight_more L P kind o d own (k ∷ kinds) [] ds e f h = absurd (omega (arith, e))
tight_more L P kind o d own (k ∷ kinds) (p ∷ os) [] e f h = absurd (omega (arith, f))
tight_more L P kind o d own (k ∷ kinds) (p ∷ os) (x ∷ ds) e f h =
    (h.0, tight_more L P kind o d own kinds os ds (omega (arith, e)) (omega (arith, f)) h.1)

-- a byte of no field is of none of those before, nor of the last
free_before : (L : LaidSchema) (kind : StoredKind) (o i : ℕ) (kinds : List StoredKind) (os : List ℕ)
    → length os ≡ length kinds → is_in_part L (kinds ++ (kind ∷ [])) (os ++ (o ∷ [])) i ≡ false
    → (is_in_part L kinds os i ≡ false) × (is_within o (size_of L kind) i ≡ false)
free_before L kind o i [] [] e h = (refl, (or_parts _ _ h).0)
free_before L kind o i [] (p ∷ os) e h = absurd (omega (arith, e))
free_before L kind o i (k ∷ kinds) [] e h = absurd (omega (arith, e))
free_before L kind o i (k ∷ kinds) (p ∷ os) e h =
    let less : length os ≡ length kinds = omega (arith, e) in
    let parts = or_parts _ _ h in
    let rest = free_before L kind o i kinds os less parts.1 in
    (or_from _ _ parts.0 rest.0, rest.1)

-- some zeros, whatever is before them
zeros_read : (own : Bytes) (n i : ℕ) → length own ≤ i → i < length own + n
    → slice_index (own ++ replicate n 0) i ≡ 0
zeros_read own n i low under =
    get_or-append_right own (replicate n 0) (length own) i 0 refl low
    ∙ get_or-replicate n (i - length own) 0 0 (omega (arith, low, under))

padded_read : (L : LaidSchema) (kinds : List StoredKind) (os : List ℕ) (ds : List Datum) (own : Bytes)
    → FirstFieldsStand L kinds os ds own → (n i : ℕ) → i < length own + n → is_in_part L kinds os i ≡ false
    → slice_index (own ++ replicate n 0) i ≡ 0
padded_read L kinds os ds own h n i low free =
    elim (cases_lt i (length own)) [
      | inl under ↦ get_or_append_left own (replicate n 0) 0 i under ∙ h.padded i under free
      | inr past ↦ zeros_read own n i past low
    ]

module _ (L : LaidSchema) (kinds : List StoredKind) (os : List ℕ) (ds : List Datum) (own : Bytes) (kind : StoredKind)
    (o : ℕ) (d : Datum) (field : Bytes) (e : length os ≡ length kinds) (f : length ds ≡ length kinds)
    (low : length own ≤ o) (inline : AreInlineBytes L kind d field) (h : FirstFieldsStand L kinds os ds own) where
  abbrev front : Bytes
  front = own ++ replicate (o - length own) 0

  abbrev whole : Bytes → Bytes
  whole behind = (front ++ field) ++ behind

  begins : length front ≡ o
  begins = length-append own (replicate (o - length own) 0)
      ∙ ap (λ n. length own + n) (length-replicate (o - length own) 0) ∙ omega (arith, low)

  apart : (behind : Bytes) → front ++ (field ++ behind) ≡ whole behind
  apart behind = sym (append_assoc front field behind)

  own_apart : (behind : Bytes) → own ++ (replicate (o - length own) 0 ++ (field ++ behind)) ≡ whole behind
  own_apart behind = sym (append_assoc own (replicate (o - length own) 0) (field ++ behind)) ∙ apart behind

  moved : (behind : Bytes) (i : ℕ) → slice_index (front ++ (field ++ behind)) (length front + i)
      ≡ slice_index (field ++ behind) i
  moved behind i = get_or-append-add front (field ++ behind) i 0

  field_lies : (behind : Bytes) → LiesInline L (whole behind) kind (0 + o) d
  field_lies behind =
      let long : length front + length (field ++ behind) ≤ length (front ++ (field ++ behind)) =
      let all = length-append front (field ++ behind) in omega (arith, all) in
      let lies = inline_lies L (λ a q. true) (λ a q. true) (field ++ behind) (front ++ (field ++ behind)) (length front)
      long (moved behind) (λ a q under is. refl) kind 0 d (inline.lies behind) in
      let at : length front + 0 ≡ 0 + o = omega (arith, begins) in
      rw (← (apart behind)) (rw (← at) lies)

  field_tight : (behind : Bytes) → EachInlineIn L (IsTightInline L (whole behind)) kind (0 + o) d
  field_tight behind =
      let tight = inline_moved L (field ++ behind) (front ++ (field ++ behind)) (length front) (moved behind) kind 0 d
      (inline.tight behind) in
      let at : length front + 0 ≡ 0 + o = omega (arith, begins) in
      rw (← (apart behind)) (rw (← at) tight)

  padded_more : (i : ℕ) → i < length (front ++ field) → is_in_part L (kinds ++ (kind ∷ [])) (os ++ (o ∷ [])) i ≡ false
      → slice_index (front ++ field) i ≡ 0
  padded_more i under free =
      let parts = free_before L kind o i kinds os e free in
      let all = length-append front field in
      elim (cases_lt i o) [
        | inl before ↦
            get_or_append_left front field 0 i (omega (arith, begins, before))
            ∙ padded_read L kinds os ds own h (o - length own) i (omega (arith, before, low)) parts.0
        | inr past ↦
            let taken : is_within o (size_of L kind) i ≡ true =
            and_from _ _ (le-leb _ _ past) (lt-ltb _ _ (omega (arith, under, all, begins, inline.long))) in
            absurd (false≢true (sym parts.1 ∙ taken))
      ]

  pub one_field_more : FirstFieldsStand L (kinds ++ (kind ∷ [])) (os ++ (o ∷ [])) (ds ++ (d ∷ [])) (front ++ field)
  one_field_more = record {
    lies = λ behind. lies_more L (whole behind) kind o d (field_lies behind) kinds os ds e
        (rw (← (own_apart behind)) (h.lies (replicate (o - length own) 0 ++ (field ++ behind))));
    tight = λ behind. tight_more L (IsTightInline L (whole behind)) kind o d (field_tight behind) kinds os ds e f
        (rw (← (own_apart behind)) (h.tight (replicate (o - length own) 0 ++ (field ++ behind))));
    padded = padded_more;
  }

-- ---- all fields

pub struct_stands : (L : LaidSchema) (s : ℕ) (ds : List Datum) (own : Bytes) → length own ≤ (struct_at L s).size
    → FirstFieldsStand L (parts_of L s) (struct_at L s).offsets ds own
    → AreInlineBytes L (struct_kind s) (a_struct (parts_in ds))
    (own ++ replicate ((struct_at L s).size - length own) 0)
struct_stands L s ds own low h =
    let n : ℕ = (struct_at L s).size - length own in
    let zeros : Bytes = replicate n 0 in
    let long : length (own ++ zeros) ≡ (struct_at L s).size =
    length-append own zeros ∙ ap (λ k. length own + k) (length-replicate n 0) ∙ omega (arith, low) in
    let apart = λ (behind : Bytes). sym (append_assoc own zeros behind) in
    record {
      long = long;
      lies = λ behind. rw (← (apart behind)) (h.lies (zeros ++ behind));
      tight = λ behind. (
        λ i under free. ap (λ j. slice_index ((own ++ zeros) ++ behind) j) (omega arith)
            ∙ get_or_append_left (own ++ zeros) behind 0 i (omega (arith, long, under))
            ∙ padded_read L (parts_of L s) (struct_at L s).offsets ds own h n i (omega (arith, low, under)) free,
        rw (← (apart behind)) (h.tight (zeros ++ behind)),
      );
    }
