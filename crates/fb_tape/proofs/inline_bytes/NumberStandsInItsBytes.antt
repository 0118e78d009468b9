-- A number's bytes hold it.
use Rattle.std.proofs.Common.{◌≡◌, ℕ, ◌^◌, ◌<◌, ◌++◌, length, take, if◌then◌else◌, ℤ, Result, Ok, Err}
use Rattle.std.proofs.Common.{OnOk, is_ok, refl, ap, sym, ◌∙◌, subst}
use Rattle.byteorder.specs.Endian.{little_bytes}
use Rattle.fb_schema.specs.declared.kinds.Base.{Base}
use Rattle.fb_schema.specs.declared.kinds.Base.TheVariants as the_base
use Rattle.fb_schema.specs.Alignments.{base_size}
use Rattle.fb_layout.specs.Laid.{LaidSchema, scalar_kind}
use Rattle.fb_value.specs.Datum.{a_number}
use Rattle.fb_value.specs.Num.{Bytes, num, scalar_of}
use Rattle.fb_tape.specs.InlineBytes.{IsBit, AreInlineBytes, AddsInline}
use Rattle.fb_value.proofs.numbers.BytesSumToTheirNumber.{num_first}

-- A `bool` has one byte; what has more is none.
bit_first : (base : Base) (x : ℕ) (rest : Bytes) → x < 256 ^ base_size base → IsBit base x
    → IsBit base (num (little_bytes (base_size base) x ++ rest) 0 1)
bit_first the_base.Bool x rest fits h = subst (IsBit the_base.Bool) (sym (num_first 1 x rest fits)) h
bit_first the_base.I8 x rest fits h = tt
bit_first the_base.U8 x rest fits h = tt
bit_first the_base.I16 x rest fits h = tt
bit_first the_base.U16 x rest fits h = tt
bit_first the_base.I32 x rest fits h = tt
bit_first the_base.U32 x rest fits h = tt
bit_first the_base.I64 x rest fits h = tt
bit_first the_base.U64 x rest fits h = tt

bytes_long : (base : Base) (x : ℕ) → length (little_bytes (base_size base) x) ≡ base_size base
bytes_long the_base.Bool x = refl
bytes_long the_base.I8 x = refl
bytes_long the_base.U8 x = refl
bytes_long the_base.I16 x = refl
bytes_long the_base.U16 x = refl
bytes_long the_base.I32 x = refl
bytes_long the_base.U32 x = refl
bytes_long the_base.I64 x = refl
bytes_long the_base.U64 x = refl

pub number_stands : (L : LaidSchema) (base : Base) (number : ℤ) (bits : ℕ) → bits < 256 ^ base_size base
    → number ≡ scalar_of base bits → IsBit base bits
    → AreInlineBytes L (scalar_kind base) (a_number number) (little_bytes (base_size base) bits)
number_stands L base number bits fits means bit = record {
  long = bytes_long base bits;
  lies = λ behind. means ∙ ap (scalar_of base) (sym (num_first (base_size base) bits behind fits));
  tight = λ behind. bit_first base bits behind fits bit;
}

first_bytes : (base : Base) (bits : ℕ) → take (base_size base) (little_bytes 8 bits)
    ≡ little_bytes (base_size base) bits
first_bytes the_base.Bool bits = refl
first_bytes the_base.I8 bits = refl
first_bytes the_base.U8 bits = refl
first_bytes the_base.I16 bits = refl
first_bytes the_base.U16 bits = refl
first_bytes the_base.I32 bits = refl
first_bytes the_base.U32 bits = refl
first_bytes the_base.I64 bits = refl
first_bytes the_base.U64 bits = refl

-- The first of the eight bytes of its bits were added.
pub number_added : {T E : Type 0} (r : Result T E) (L : LaidSchema) (base : Base) (number : ℤ) (bits size : ℕ)
    (before all after : Bytes) → bits < 256 ^ base_size base → number ≡ scalar_of base bits → IsBit base bits
    → all ≡ little_bytes 8 bits → size ≡ base_size base
    → after ≡ (if is_ok r then before ++ take size all else before)
    → OnOk r (AddsInline L (scalar_kind base) (a_number number) before after)
number_added (Ok x) L base number bits size before all after fits means bit is sized e = (
  little_bytes (base_size base) bits,
  e ∙ ap (λ (own : Bytes). before ++ own) (rw (is, sized) (first_bytes base bits)),
  number_stands L base number bits fits means bit,
)
number_added (Err x) L base number bits size before all after fits means bit is sized e = tt
