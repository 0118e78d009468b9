-- The way from the outermost struct down to one that stands in it, and one step more or less.
use Rattle.std.proofs.Common.{◌≡◌, ℕ, zero, suc, ◌+◌, ◌<◌, ◌≤◌, ◌++◌, List, [], drop, Bool, true}
use Rattle.std.proofs.Common.{Option, slice_index, refl, sym, ap, ◌∙◌, append_assoc, append-nil, arith}
use Rattle.fb_schema.specs.declared.kinds.TypeId.{TypeId}
use Rattle.fb_schema.specs.Schema.{body_at, parts_in}
use Rattle.fb_layout.specs.Laid.{LaidSchema, struct_at}
use Rattle.fb_layout.specs.WellMade.{IsWellMade}
use Rattle.fb_value.specs.Datum.{Parts}
use Rattle.fb_read.specs.Tails.{parts_from}
use Rattle.fb_text.specs.Indents.{deeper}
use Rattle.fb_text.specs.Texts.{inside, parts_text}
use Rattle.fb_text.specs.Nested.{HasStruct, fields_text, StandsIn}
use Rattle.fb_text.proofs.indents.LevelsAddUp.{inside_deeper}
use Rattle.fb_text.proofs.nested.FieldHasItsBytes.{is_filled, ends_within}

module _ (L : LaidSchema) (defaults : Bool) where
  -- the outermost stands in itself
  pub outermost_stands : (indent : Option (List ℕ)) (t : TypeId) (ds : Parts)
      → StandsIn L defaults indent t ds 0 0 t ds []
  outermost_stands indent t ds = (refl, refl, refl, refl)

  -- one step down
  pub stands_deeper : (indent : Option (List ℕ)) (t : TypeId) (ds : Parts) (depth at : ℕ) (u : TypeId) (es : Parts)
      (behind : List ℕ) (k : ℕ) (s : TypeId) (inner : Parts) → StandsIn L defaults indent t ds depth at u es behind
      → HasStruct L u es k s inner
      → StandsIn L defaults indent t ds (suc depth) (at + slice_index (struct_at L u.0).offsets k) s inner
      (fields_text L defaults indent u es depth (suc k) true ++ behind)
  stands_deeper indent t ds zero at u es behind k s inner stands has =
      let (begin, type, parts, none) = stands in (
        k,
        s,
        inner,
        0,
        [],
        rw (type, parts) has,
        (refl, refl, refl, refl),
        rw type (omega (arith, begin)),
        rw (type, parts, none) (append-nil (fields_text L defaults indent u es 0 (suc k) true)),
      )
  stands_deeper indent t ds (suc depth) at u es behind k s inner stands has =
      let (j, v, ms, more, text, child, rest, begin, whole) = stands in
      let tail = fields_text L defaults indent t ds 0 (suc j) true in
      let own = fields_text L defaults (inside indent) u es depth (suc k) true in (
        j,
        v,
        ms,
        more + slice_index (struct_at L u.0).offsets k,
        own ++ text,
        child,
        stands_deeper (inside indent) v ms depth more u es text k s inner rest has,
        omega (arith, begin),
        ap (λ (l : List ℕ). own ++ l) whole ∙ sym (append_assoc own text tail),
      )

  -- a level's text is the same from wherever it is told
  level_text : (indent : Option (List ℕ)) (t : TypeId) (ds : Parts) (depth k : ℕ)
      → fields_text L defaults (deeper depth indent) t ds 0 k true ≡ fields_text L defaults indent t ds depth k true
  level_text indent t ds depth k =
      ap (λ (inner : Option (List ℕ)). parts_text L defaults inner (deeper depth indent) true
      (drop k (parts_in (body_at L.schema t.0))) (parts_from k ds)) (inside_deeper depth indent)

  module _ (made : IsWellMade L) where
    -- it begins within the outermost
    pub begins_within : (indent : Option (List ℕ)) (t : TypeId) (ds : Parts) (depth at : ℕ) (u : TypeId) (es : Parts)
        (behind : List ℕ) → StandsIn L defaults indent t ds depth at u es behind → 1 ≤ (struct_at L t.0).size
        → at < (struct_at L t.0).size
    begins_within indent t ds zero at u es behind stands some = omega (arith, stands.0, some)
    begins_within indent t ds (suc depth) at u es behind stands some =
        let (j, v, ms, more, text, child, rest, begin, whole) = stands in
        let below = begins_within (inside indent) v ms depth more u es text rest (is_filled L made t ds j v ms child) in
        let ends = ends_within L made t ds j v ms child in
        omega (arith, below, ends, begin)

    -- so few bytes behind it that they fit 32 bits
    pub few_bytes : (indent : Option (List ℕ)) (t : TypeId) (ds : Parts) (depth at : ℕ) (u : TypeId) (es : Parts)
        (behind : List ℕ) → StandsIn L defaults indent t ds (suc depth) at u es behind → at ≤ 65535
    few_bytes indent t ds depth at u es behind stands =
        let (j, v, ms, more, text, child, rest, begin, whole) = stands in
        let below = begins_within (inside indent) v ms depth more u es text rest (is_filled L made t ds j v ms child) in
        let ends = ends_within L made t ds j v ms child in
        let small = made.small t.0 in
        omega (arith, below, ends, begin, small)

-- A struct on the way to one that stands so many structs below it.
pub record OnTheWay (L : LaidSchema) (defaults : Bool) (indent : Option (List ℕ)) (t : TypeId) (ds : Parts)
    (P : Parts → Type 0)
    (depth at : ℕ) (v : TypeId) (left byte : ℕ) (u : TypeId) (es : Parts) (behind : List ℕ) : Type 0 where
  pub parts : Parts
  pub more : ℕ
  pub text : List ℕ
  pub rest : List ℕ
  pub shown : P parts
  pub above : StandsIn L defaults indent t ds depth at v parts rest
  pub below : StandsIn L defaults (deeper depth indent) v parts left more u es text
  pub begin : byte ≡ at + more
  pub whole : behind ≡ text ++ rest

module _ (L : LaidSchema) (defaults : Bool) (indent : Option (List ℕ)) (t : TypeId) (ds : Parts) (byte : ℕ) (u : TypeId)
    (es : Parts) (behind : List ℕ) where
  pub way_begins : (P : Parts → Type 0) (at left : ℕ) → P ds → at ≡ 0
      → StandsIn L defaults indent t ds left byte u es behind
      → OnTheWay L defaults indent t ds P 0 at t left byte u es behind
  way_begins P at left shown first stands = record {
    parts = ds;
    more = byte;
    text = behind;
    rest = [];
    shown = shown;
    above = (first, refl, refl, refl);
    below = stands;
    begin = omega (arith, first);
    whole = sym (append-nil behind);
  }

  -- one step on, to the struct in the field that has the byte
  pub way_goes_on : (made : IsWellMade L) (P Q : Parts → Type 0) (depth at : ℕ) (v : TypeId) (left next : ℕ)
      (s : TypeId) (w : OnTheWay L defaults indent t ds P depth at v (suc left) byte u es behind)
      → ((k : ℕ) (x : TypeId) (inner : Parts) (more : ℕ) → HasStruct L v w.parts k x inner
      → more < (struct_at L x.0).size → byte ≡ at + (slice_index (struct_at L v.0).offsets k + more)
      → (s ≡ x) × Q inner × (next ≡ at + slice_index (struct_at L v.0).offsets k))
      → OnTheWay L defaults indent t ds Q (suc depth) next s left byte u es behind
  way_goes_on made P Q depth at v left next s w known =
      let (k, x, inner, more, text, child, rest, begin, whole) = w.below in
      let less = begins_within L defaults made _ x inner left more u es text rest
      (is_filled L made v w.parts k x inner child) in
      let (type, shown, place) = known k x inner more child less (omega (arith, w.begin, begin)) in
      let deeper = stands_deeper L defaults indent t ds depth at v w.parts w.rest k x inner w.above child in
      let own = fields_text L defaults indent v w.parts depth (suc k) true in
      record {
        parts = inner;
        more = more;
        text = text;
        rest = own ++ w.rest;
        shown = shown;
        above = rw (type, place) deeper;
        below = rw type (rw (← (inside_deeper depth indent)) rest);
        begin = omega (arith, w.begin, begin, place);
        whole = w.whole ∙ (ap (λ (l : List ℕ). l ++ w.rest)
            (whole ∙ ap (λ (l : List ℕ). text ++ l) (level_text L defaults indent v w.parts depth (suc k)))
            ∙ append_assoc text own w.rest);
      }

  -- where one step is left, the struct is the parent
  pub way_ends : (made : IsWellMade L) (P : Parts → Type 0) (depth at : ℕ) (v : TypeId)
      (w : OnTheWay L defaults indent t ds P depth at v 1 byte u es behind)
      → (k : ℕ) × HasStruct L v w.parts k u es × (byte ≡ at + slice_index (struct_at L v.0).offsets k)
      × (behind ≡ fields_text L defaults indent v w.parts depth (suc k) true ++ w.rest)
  way_ends made P depth at v w =
      let (k, x, inner, more, text, child, rest, begin, whole) = w.below in
      let (none, type, parts, empty) = rest in
      let own = fields_text L defaults indent v w.parts depth (suc k) true in (
        k,
        rw (← type) (rw (← parts) child),
        omega (arith, w.begin, begin, none),
        w.whole ∙ ap (λ (l : List ℕ). l ++ w.rest)
            (whole ∙ (ap (λ (l : List ℕ). l ++ fields_text L defaults (deeper depth indent) v w.parts 0 (suc k) true)
            empty ∙ level_text L defaults indent v w.parts depth (suc k))),
      )
