-- The body of an enum with no fault: its values have different names and numbers of its type, with `bit_flags` one bit
-- each.
use Rattle.std.proofs.Common.{◌≡◌, ◌≢◌, ℕ, ◌*◌, ◌^◌, ◌<◌, ◌||◌, Bool, true, false, List, [], take, get_or, All}
use Rattle.std.proofs.Common.{AllPairs, Option, None, Some, is_none, refl, ap, sym, ◌∙◌, arith, if◌then◌else◌, ⊎_elim}
use Rattle.std.proofs.Common.{true≢false}
use Rattle.std.specs.Prelude.{ℤ, pos, negsuc}
use Rattle.std.specs.Ordering.{int_eq}
use Rattle.std.specs.Str.{bytes_eq}
use Rattle.std.proofs.lemmas.Bool.{not-false, ltb-true, cases_order}
use Rattle.std.proofs.lemmas.Bool.Decides.{Decides-int_eq}
use Rattle.std.proofs.lemmas.Cmp.{nat_list_eq_equiv, int_eq_equiv}
use Rattle.std.proofs.lemmas.Int.{ints}
use Rattle.std.proofs.lemmas.List.Elements.{All-map}
use Rattle.std.proofs.lemmas.Nat.{pow_below}
use Rattle.std.proofs.lemmas.Option.{slice_get-get_or}
use Rattle.std.proofs.lemmas.Slice.Eq.{bytes_eq-Decides}
use Rattle.fb_syntax.specs.declared.declarations.AttributeValue.{AttributeValue}
use Rattle.fb_schema.specs.declared.kinds.Base.{Base}
use Rattle.fb_schema.specs.declared.kinds.Base.TheVariants.{Bool as Boolean, U8, U16, U32, U64}
use Rattle.fb_schema.specs.declared.kinds.Kind.TheVariants.{Scalar}
use Rattle.fb_schema.specs.Schema.{Name}
use Rattle.fb_schema.specs.Alignments.{base_size}
use Rattle.fb_schema.specs.WellDeclared.{InRange, is_unsigned, IsFlag, IsEnumBody}
use Rattle.fb_declare.specs.declared.faults.SchemaFault.TheVariants.{DuplicateName, BadEnumValue, Unsupported}
use Rattle.fb_resolve.specs.declared.meanings.Meaning.{Meaning}
use Rattle.fb_resolve.specs.declared.meanings.Meaning.TheVariants.{Known, Unknown}
use Rattle.fb_syntax.specs.declared.attributes.BuiltInAttribute.TheVariants.{BitFlags}
use Rattle.fb_declare.specs.declared.attribute_faults.AttributeHost.TheVariants as hosts
use Rattle.fb_resolve.specs.ResolvedFields.{ResolvedValue, ResolvedEnum}
use Rattle.fb_declare.specs.AttributeFaults.{may_stand, metadata_faults}
use Rattle.fb_resolve.specs.EnumValues.{name_of_value, integer_type, has_flags, value_number, may_be_written}
use Rattle.fb_resolve.specs.EnumValues.{base_or_ubyte, value_over, values_over}
use Rattle.fb_declare.specs.FaultRows.{when, faults_in_turn}
use Rattle.fb_declare.specs.EnumFaults.{underlying_faults, is_out_of_range, value_faults, host_of_enum, enum_faults}
use Rattle.fb_resolve.specs.RepeatedNames.{is_again}
use Rattle.fb_declare.proofs.FaultFree.{either-none, keys_distinct, keys_apart, pairs_map, both_none, three_none}
use Rattle.fb_declare.proofs.FaultFree.{none_behind, when-none, noted_stands}
use Rattle.fb_schema.proofs.NumbersInRange.{held_in_range}

-- no enum is one of `bool`
not_boolean : (m : Meaning) → base_or_ubyte (integer_type m) ≢ Boolean
not_boolean (Known (Scalar Boolean)) e = grind arith
not_boolean (Known (Scalar base)) e = grind arith
not_boolean m e = grind arith

-- the type under an enum is an integer type
integer_under : (m : Meaning) (at : ℕ) → underlying_faults m at ≡ [] → is_none (integer_type m) ≡ false
integer_under Unknown at h = absurd (grind arith)
integer_under m at h = when-none (is_none (integer_type m)) (Unsupported at) h

-- flags stand on unsigned types alone
flags_unsigned : (b : Bool) (value : Option AttributeValue)
    → may_stand (if b then hosts.Enum else hosts.SignedEnum) BitFlags value ≡ true → b ≡ true
flags_unsigned true value h = refl
flags_unsigned false value h = absurd (true≢false (sym h))

-- a bit of an unsigned type is in its range
bit_in_range : (base : Base) (k : ℕ) → is_unsigned base ≡ true → k < 8 * base_size base → InRange base (pos (2 ^ k))
bit_in_range U8 k unsigned h = (omega (arith, ints), omega (arith, ints, pow_below k 8 h))
bit_in_range U16 k unsigned h = (omega (arith, ints), omega (arith, ints, pow_below k 16 h))
bit_in_range U32 k unsigned h = (omega (arith, ints), omega (arith, ints, pow_below k 32 h))
bit_in_range U64 k unsigned h = (omega (arith, ints), omega (arith, ints, pow_below k 64 h))
bit_in_range _ k unsigned h = absurd (true≢false (sym unsigned))

-- what a right number of an enum gives
abbrev pub NumberKept : Base → Bool → ℤ → Type 0
NumberKept base flags n = InRange base n × (flags ≡ true → IsFlag base n)

-- a number that may be written gives one in range, which with flags is a bit's
number_kept : (base : Base) (flags : Bool) (n : ℤ) → (flags ≡ true → is_unsigned base ≡ true)
    → may_be_written base flags n ≡ true → NumberKept base flags (value_number base flags n)
number_kept base true (pos k) unsigned h = rw h (
  (bit_in_range base k (unsigned refl) (ltb-true k (8 * base_size base) h)),
  (λ e. (k, ltb-true k (8 * base_size base) h, refl)),
)
number_kept base true (negsuc k) unsigned h = absurd (true≢false (sym h))
number_kept base false n unsigned h = (held_in_range base n h, λ e. absurd (true≢false (sym e)))

-- a bit is known by its power of two
pow_same : (j k : ℕ) → 2 ^ j ≡ 2 ^ k → j ≡ k
pow_same j k e = ⊎_elim (λ same. same) (λ unlike. absurd
    (⊎_elim (λ l. omega (arith, pow_below j k l)) (λ l. omega (arith, pow_below k j l)) unlike)) (cases_order j k)

-- different numbers that may be written give different numbers
numbers_apart : (base : Base) (flags : Bool) (n m : ℤ) → may_be_written base flags n ≡ true
    → may_be_written base flags m ≡ true → value_number base flags n ≡ value_number base flags m → n ≡ m
numbers_apart base true (pos j) (pos k) g h e = let same : pos (2 ^ j) ≡ pos (2 ^ k) = rw (g, h) at e in
    ap pos (pow_same j k (grind (arith, same)))
numbers_apart base true (negsuc j) (pos k) g h e = absurd (true≢false (sym g))
numbers_apart base true n (negsuc k) g h e = absurd (true≢false (sym h))
numbers_apart base false n m g h e = e

-- what is known of a value with no fault, behind others
record IsValueRight (base : Base) (flags : Bool) (before : List ResolvedValue) (v : ResolvedValue) : Type 0 where
  pub name : is_again bytes_eq name_of_value before v ≡ false
  pub written : may_be_written base flags v.number ≡ true
  pub number : is_again int_eq (λ w. w.number) before v ≡ false

value_right : (base : Base) (flags : Bool) (before : List ResolvedValue) (v : ResolvedValue)
    → value_faults (Some base) flags before v ≡ [] → IsValueRight base flags before v
value_right base flags before v h =
    let named = is_again bytes_eq name_of_value before v in
    let again = is_again int_eq (λ w. w.number) before v in
    let wrong = is_out_of_range (Some base) flags v.number in
    let at = v.value.name.at in
    let parts = both_none (when named (DuplicateName at)) (when (wrong || again) (BadEnumValue at)) h in
    let right = either-none wrong again (BadEnumValue at) parts.1 in
    record {
      name = when-none named (DuplicateName at) parts.0;
      written =
          not-false (may_be_written base flags v.number) right.0;
      number = right.1;
    }

-- the values of an enum over an integer type with no fault in them
module _ (base : Base) (flags : Bool) (vs : List ResolvedValue)
    (none : faults_in_turn (value_faults (Some base) flags) vs ≡ []) where
  written : All (λ v. may_be_written base flags v.number ≡ true) vs
  written k d within = (value_right base flags (take k vs) (get_or vs k d)
      (none_behind (value_faults (Some base) flags) [] vs none k (get_or vs k d)
      (slice_get-get_or vs k d within))).written

  -- no two values have one name
  names_differ : AllPairs (λ v w. v.value.name.bytes ≢ w.value.name.bytes) vs
  names_differ = keys_apart bytes_eq-Decides (λ v. v.value.name.bytes) vs
      (keys_distinct nat_list_eq_equiv (λ v. v.value.name.bytes) (value_faults (Some base) flags)
      (λ before v h. (value_right base flags before v h).name) vs none)

  -- nor one number
  numbers_differ : AllPairs (λ v w. value_number base flags v.number ≢ value_number base flags w.number) vs
  numbers_differ i j d before within e =
      keys_apart Decides-int_eq (λ v. v.number) vs (keys_distinct int_eq_equiv (λ v. v.number)
      (value_faults (Some base) flags) (λ before v h. (value_right base flags before v h).number) vs none) i j d
      before within
      (numbers_apart base flags (get_or vs i d).number (get_or vs j d).number (written i d (omega arith))
      (written j d within) e)

  -- the values are a right body
  values_kept : base ≢ Boolean → (flags ≡ true → is_unsigned base ≡ true)
      → IsEnumBody base flags (values_over (Some base) flags vs)
  values_kept integers unsigned =
      let kept : All (λ v. NumberKept base flags (value_number base flags v.number)) vs =
      λ k d within. number_kept base flags (get_or vs k d).number unsigned (written k d within) in
      record {
        integers = integers;
        names = pairs_map (λ a b. a.0 ≢ b.0) (value_over base flags) vs names_differ;
        numbers = pairs_map (λ a b. a.1 ≢ b.1) (value_over base flags) vs numbers_differ;
        ranges = All-map (λ v. InRange base v.1) (value_over base flags) vs (λ k d within. (kept k d within).0);
        bits = λ is. (
          unsigned is,
          All-map (λ v. IsFlag base v.1) (value_over base flags) vs
              (λ k d within. (kept k d within).1 is),
        );
      }

-- an enum over a type with no fault in its parts
over_kept : (declared : Name → Bool) (under : Option Base) (e : ResolvedEnum) → e.bit_flags ≡ has_flags e.declared
    → base_or_ubyte under ≢ Boolean
    → is_none under ≡ false → metadata_faults declared (host_of_enum under) e.declared.attributes ≡ []
    → faults_in_turn (value_faults under e.bit_flags) e.values ≡ []
    → (under ≡ Some (base_or_ubyte under)) × IsEnumBody (base_or_ubyte under) e.bit_flags
    (values_over under e.bit_flags e.values)
over_kept declared None e read integers some metadata values = absurd (true≢false some)
over_kept declared (Some base) e read integers some metadata values =
    let unsigned = λ (is : e.bit_flags ≡ true).
    let stands = noted_stands declared (host_of_enum (Some base)) e.declared.attributes metadata BitFlags
    (sym read ∙ is) in flags_unsigned (is_unsigned base) stands.0.value stands.1 in
    (refl, values_kept base e.bit_flags e.values values integers unsigned)

-- an enum with no fault is over an integer type, and has a right body
pub enum_kept : (declared : Name → Bool) (e : ResolvedEnum) → e.bit_flags ≡ has_flags e.declared
    → enum_faults declared e ≡ [] → let base = integer_type e.underlying in
    (base ≡ Some (base_or_ubyte base)) × IsEnumBody (base_or_ubyte base) e.bit_flags
    (values_over base e.bit_flags e.values)
enum_kept declared e read h =
    let base = integer_type e.underlying in
    let right = three_none (underlying_faults e.underlying e.declared.underlying.at)
    (metadata_faults declared (host_of_enum base) e.declared.attributes)
    (faults_in_turn (value_faults base e.bit_flags) e.values) h in
    over_kept declared base e read (not_boolean e.underlying)
    (integer_under e.underlying e.declared.underlying.at right.0) right.1 right.2
