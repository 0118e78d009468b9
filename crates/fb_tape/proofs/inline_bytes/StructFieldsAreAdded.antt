-- The fields of a struct are added one by one.
use Rattle.std.proofs.Common.{◌≡◌, ℕ, zero, suc, ◌+◌, ◌-◌, ◌<◌, ◌≤◌, ◌++◌, List, [], ◌∷◌, length, map, take}
use Rattle.std.proofs.Common.{replicate, get_or, slice_get, slice_index, Some, ap, sym, ◌∙◌, arith, append_assoc}
use Rattle.std.proofs.Common.{length-append, add-one}
use Rattle.std.proofs.lemmas.List.{length-map, length-take-le, length-replicate, take_all}
use Rattle.fb_layout.specs.Laid.{LaidSchema, StoredKind, struct_kind, parts_of, struct_at, size_of}
use Rattle.fb_value.specs.Datum.{a_struct}
use Rattle.fb_value.specs.Num.{Bytes}
use Rattle.fb_value.specs.View.{view, parts_view}
use Rattle.fb_value.specs.declared.values.Value.{Value}
use Rattle.fb_tape.specs.InlineBytes.{AddsInline, OnlyAdds}
use Rattle.fb_tape.proofs.inline_bytes.FieldsStandInTheirStruct.{FirstFieldsStand, one_field_more}
use Rattle.fb_tape.proofs.inline_bytes.FieldsStandInTheirStruct.{struct_stands}
use Rattle.fb_tape.proofs.inline_bytes.StructsAreKnown.{StructKnown, begin_at, index_at, index_or, index_past}

-- The first k fields were added behind others.
pub record AddsFields (L : LaidSchema) (s k : ℕ) (items : List Value) (before after : Bytes) : Type 0 where
  pub own : Bytes
  pub after_is : after ≡ before ++ own
  pub ends : length own ≤ begin_at L s k
  pub stand : FirstFieldsStand L (take k (parts_of L s)) (take k (struct_at L s).offsets) (take k (map view items)) own

-- how far they reach
pub added_within : (L : LaidSchema) (s k : ℕ) (items : List Value) (before now : Bytes)
    → AddsFields L s k items before now → length now - length before ≤ begin_at L s k
added_within L s k items before now h =
    let long = ap length h.after_is ∙ length-append before h.own in omega (arith, long, h.ends)

pub fields_only : (L : LaidSchema) (s k : ℕ) (items : List Value) (before now : Bytes)
    → AddsFields L s k items before now → OnlyAdds before now
fields_only L s k items before now h = (h.own, h.after_is)

take_one_more : {A : Type 0} (xs : List A) (k : ℕ) (x : A) → slice_get xs k ≡ Some x
    → take (k + 1) xs ≡ take k xs ++ (x ∷ [])
take_one_more [] k x e = cc
take_one_more (y ∷ xs) zero x e = let same : y ≡ x = cc in ap (λ z. z ∷ []) same
take_one_more (y ∷ xs) (suc k) x e =
    let next : suc k + 1 ≡ suc (k + 1) = omega arith in
    rw next (ap (λ zs. y ∷ zs) (take_one_more xs k x e))

value_at : (items : List Value) (k : ℕ) (v : Value) → k < length items → v ≡ get_or items k v
    → slice_get (map view items) k ≡ Some (view v)
value_at [] k v low is = absurd (omega (arith, low))
value_at (w ∷ items) zero v low is = ap (λ x. Some (view x)) (sym is)
value_at (w ∷ items) (suc k) v low is = value_at items k v (omega (arith, low)) is

module _ (L : LaidSchema) (s n k : ℕ) (items : List Value) (known : StructKnown L s n items) (low : k < n)
    (kind : StoredKind) (at : slice_get (parts_of L s) k ≡ Some kind) where
  -- where field k begins
  pub offset_is : slice_index (struct_at L s).offsets k ≡ begin_at L s k
  offset_is = sym (index_or (struct_at L s).offsets k (struct_at L s).size (omega (arith, known.offsets, low)))

  pub one_added : (v : Value) (m : ℕ) (before now padded after : Bytes) → v ≡ get_or items k v
      → AddsFields L s k items before now → padded ≡ now ++ replicate m 0
      → m ≡ slice_index (struct_at L s).offsets k - (length now - length before)
      → AddsInline L kind (view v) padded after → AddsFields L s (k + 1) items before after
  one_added v m before now padded after is h zeros many added =
      let o : ℕ = slice_index (struct_at L s).offsets k in
      let under : length h.own ≤ o = rw offset_is h.ends in
      let gap : length now - length before ≡ length h.own =
      let long = ap length h.after_is ∙ length-append before h.own in omega (arith, long) in
      let front : Bytes = h.own ++ replicate (o - length h.own) 0 in
      let kinds_long : length (take k (parts_of L s)) ≡ k =
      length-take-le k (parts_of L s) (omega (arith, known.many, low)) in
      let offsets_long : length (take k (struct_at L s).offsets) ≡ k =
      length-take-le k (struct_at L s).offsets (omega (arith, known.offsets, low)) in
      let values : length (map view items) ≡ n = length-map items view ∙ known.long in
      let values_long : length (take k (map view items)) ≡ k =
      length-take-le k (map view items) (omega (arith, values, low)) in
      let stand = one_field_more L (take k (parts_of L s)) (take k (struct_at L s).offsets) (take k (map view items))
      h.own kind o (view v) added.0 (offsets_long ∙ sym kinds_long) (values_long ∙ sym kinds_long) under added.2
      h.stand in
      let ended : length (front ++ added.0) ≡ o + size_of L kind =
      let all = length-append front added.0 in
      let all2 = length-append h.own (replicate (o - length h.own) 0) in
      let all3 = length-replicate {A = ℕ} (o - length h.own) 0 in
      omega (arith, all, all2, all3, under, added.2.long) in
      record {
        own = front ++ added.0;
        after_is = added.1 ∙ ap (λ (b : Bytes). b ++ added.0) (zeros ∙ rw (many, gap, h.after_is)
            (append_assoc before h.own (replicate (o - length h.own) 0))) ∙ append_assoc before front added.0;
        ends = rw ended (rw add-one (known.apart k kind at));
        stand = rw (
          take_one_more (parts_of L s) k kind at,
          take_one_more (struct_at L s).offsets k o
              (index_at (struct_at L s).offsets k (omega (arith, known.offsets, low))),
          take_one_more (map view items) k (view v) (value_at items k v (omega (arith, known.long, low)) is),
        ) stand;
      }

pub all_added : (L : LaidSchema) (s n : ℕ) (items : List Value) → StructKnown L s n items
    → (m : ℕ) (before now after : Bytes) → AddsFields L s n items before now → after ≡ now ++ replicate m 0
    → m ≡ (struct_at L s).size - (length now - length before)
    → AddsInline L (struct_kind s) (a_struct (parts_view items)) before after
all_added L s n items known m before now after h zeros many =
    let gap : length now - length before ≡ length h.own =
    let long = ap length h.after_is ∙ length-append before h.own in omega (arith, long) in
    let ends : length h.own ≤ (struct_at L s).size =
    rw (index_past (struct_at L s).offsets n (struct_at L s).size (omega (arith, known.offsets))) at h.ends in
    let kinds : take n (parts_of L s) ≡ parts_of L s = take_all n (parts_of L s) (omega (arith, known.many)) in
    let offsets : take n (struct_at L s).offsets ≡ (struct_at L s).offsets =
    take_all n (struct_at L s).offsets (omega (arith, known.offsets)) in
    let long : length (map view items) ≤ n =
    let same = length-map items view in omega (arith, same, known.long) in
    let values : take n (map view items) ≡ map view items = take_all n (map view items) long in (
      h.own ++ replicate ((struct_at L s).size - length h.own) 0,
      zeros
          ∙ rw (many, gap, h.after_is) (append_assoc before h.own (replicate ((struct_at L s).size - length h.own) 0)),
      struct_stands L s (map view items) h.own ends (rw (kinds, offsets, values) at h.stand),
    )
