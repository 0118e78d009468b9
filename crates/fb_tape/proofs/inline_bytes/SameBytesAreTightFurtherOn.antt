-- Numbers and structs that have no slack have none where the same bytes stand further on.
use Rattle.std.proofs.Common.{◌≡◌, ℕ, ◌+◌, List, ◌∷◌, slice_index, ap, sym, ◌∙◌, subst, arith}
use Rattle.fb_layout.specs.Laid.{LaidSchema, StoredKind, scalar_kind, struct_kind, parts_of, struct_at}
use Rattle.fb_value.specs.Datum.{Datum, a_struct, Parts, more_parts}
use Rattle.fb_value.specs.Num.{Bytes}
use Rattle.fb_value.proofs.tails.SameBytesReadTheSameFurtherOn.{number_moved}
use Rattle.fb_tape.specs.InlineBytes.{IsBit, PadsStructWithZeros, IsTightInline, EachInlineIn, EachFieldIn}

module _ (L : LaidSchema) (b c : Bytes) (k : ℕ) (bytes : (i : ℕ) → slice_index c (k + i) ≡ slice_index b i) where
  still_padded : (s p : ℕ) → PadsStructWithZeros L b s p → PadsStructWithZeros L c s (k + p)
  still_padded s p h i low free = ap (λ j. slice_index c j) (omega arith) ∙ bytes (p + i) ∙ h i low free

  still_tight : (kind : StoredKind) (p : ℕ) → IsTightInline L b kind p → IsTightInline L c kind (k + p)
  still_tight (scalar_kind base) p h = subst (IsBit base) (sym (number_moved b c k bytes p 1)) h
  still_tight (struct_kind s) p h = still_padded s p h
  still_tight _ p h = tt

  mutual
    pub inline_moved : (kind : StoredKind) (p : ℕ) (d : Datum) → EachInlineIn L (IsTightInline L b) kind p d
        → EachInlineIn L (IsTightInline L c) kind (k + p) d
    inline_moved (scalar_kind base) p d h = still_tight (scalar_kind base) p h
    inline_moved (struct_kind s) p (a_struct ds) h =
        (still_tight (struct_kind s) p h.0, fields_moved (parts_of L s) (struct_at L s).offsets p ds h.1)
    inline_moved _ p _ h = tt

    fields_moved : (kinds : List StoredKind) (os : List ℕ) (p : ℕ) (ds : Parts)
        → EachFieldIn L (IsTightInline L b) kinds os p ds → EachFieldIn L (IsTightInline L c) kinds os (k + p) ds
    fields_moved (kind ∷ kinds) (o ∷ os) p (more_parts d ds) h =
        let at : k + (p + o) ≡ (k + p) + o = omega arith in (
          rw (← at) (inline_moved kind (p + o) d h.0),
          fields_moved kinds os p ds h.1,
        )
    fields_moved _ _ p _ h = tt
