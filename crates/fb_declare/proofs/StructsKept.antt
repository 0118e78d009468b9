-- Structs where no type is at fault: the body of one has some plain fields of different names, in order, of scalars,
-- enums and structs before it,
-- and its alignment is the same as it is declared and as the schema has it.
use Rattle.std.proofs.Common.{◌≡◌, ◌≢◌, ℕ, zero, suc, ◌+◌, ◌^◌, ◌<◌, ◌≤◌, ◌==◌, nat_le, Bool, true, false, List, []}
use Rattle.std.proofs.Common.{◌∷◌, length, get_or, AllPairs, Option, None, Some, refl, ap, sym, subst, ◌∙◌, arith}
use Rattle.std.proofs.Common.{true≢false, take, drop, ◌++◌, ◌&&◌, map, cond, IsTrue}
use Rattle.std.specs.Prelude.{ℤ, pos, slice_get, negsuc, slice_index}
use Rattle.std.specs.List.{flat_map, list_any, range_with_len, All}
use Rattle.std.specs.Option.{ForSome, option_and_then, option_map_or, unwrap_or}
use Rattle.std.proofs.lemmas.Bool.{and_parts, eqb-true, leb-true, leb-false, le-leb, false≢true}
use Rattle.std.proofs.lemmas.List.{get_or-map, get_or_append_left, get_or_push, length_push, length-take-le}
use Rattle.std.proofs.lemmas.List.{take-append-drop}
use Rattle.std.proofs.lemmas.List.Folds.{Any-from_list_any}
use Rattle.std.proofs.lemmas.List.FromFn.{get_or-range_with_len}
use Rattle.std.proofs.lemmas.Map.Made.{AllPairs-from_IsDistinct}
use Rattle.std.proofs.lemmas.Option.{none-some, same_Some, get_or_from_slice_get, slice_get_within}
use Rattle.std.proofs.lemmas.Slice.Eq.{bytes_eq-Decides}
use Rattle.fb_syntax.specs.declared.declarations.FieldType.{FieldType}
use Rattle.fb_syntax.specs.declared.declarations.FieldType.TheVariants.{One, Many}
use Rattle.fb_schema.specs.declared.kinds.Kind.TheVariants.{Scalar, Enum, Struct}
use Rattle.fb_schema.specs.Schema.{Name, DeclaredField, DeclaredSchema, DeclaredBody, struct_body, body_at, parts_in}
use Rattle.fb_schema.specs.Schema.{force_align_in, is_struct}
use Rattle.fb_schema.specs.WellDeclared.{IsPart, IsForceAlign, IsStructBody, names_of}
use Rattle.fb_declare.specs.declared.faults.SchemaFault.TheVariants.{EmptyStruct, IncompleteStruct}
use Rattle.fb_declare.specs.declared.field_faults.FieldHost.TheVariants as fields
use Rattle.fb_resolve.specs.declared.meanings.Meaning.{Meaning}
use Rattle.fb_resolve.specs.declared.meanings.Meaning.TheVariants.{Known}
use Rattle.fb_declare.specs.declared.attribute_faults.AttributeHost.TheVariants as hosts
use Rattle.fb_resolve.specs.Outline.{TypeRead, Outline}
use Rattle.fb_resolve.specs.ResolvedFields.{ResolvedField, ResolvedTable}
use Rattle.fb_resolve.specs.Attributes.{is_alignment, attribute_called, integer_value_in, number_called}
use Rattle.fb_declare.specs.AttributeFaults.{metadata_faults, may_stand}
use Rattle.fb_resolve.specs.SlotsRead.{shape_of}
use Rattle.fb_resolve.specs.StructsRead.{natural_align, forced_align, part_read, parts_from, align_by, align_in}
use Rattle.fb_resolve.specs.StructsRead.{alignment_in, align_of_declaration, align_of_type}
use Rattle.fb_declare.specs.FaultRows.{when, faults_in_turn, use_faults, misplaced_type, field_type}
use Rattle.fb_declare.specs.TypeFaults.{names_of_field, field_behind, struct_faults, declaration_faults, aligns_from}
use Rattle.fb_declare.specs.TypeFaults.{type_behind, declared_in}
use Rattle.fb_declare.proofs.FaultFree.{both_none, three_none, when-none, IsFieldRight, fields_right, all_at, either}
use Rattle.fb_declare.proofs.FaultFree.{fields_distinct, called_stands}
use Rattle.fb_declare.proofs.TypesKept.{MeansIn, IsRead, IsReadIn, read_in, aligns_before, resolved_at, body_at_by}
use Rattle.fb_declare.proofs.TypesKept.{enums_kept}
use Rattle.std.proofs.lemmas.List.Elements.{All-head, All-tail}
use Rattle.std.proofs.lemmas.List.Sums.{fold-append, fold_push}
use Rattle.fb_syntax.specs.Attributes.{AttributeRead}
use Rattle.fb_syntax.specs.declared.declarations.AttributeValue.{AttributeValue}
use Rattle.fb_syntax.specs.declared.declarations.AttributeValue.TheVariants.{Integer}
use Rattle.fb_schema.specs.Alignments.{base_size, greatest_in, part_align, AreAligned}
use Rattle.fb_syntax.specs.declared.attributes.BuiltInAttribute.TheVariants.{ForceAlign}
use Rattle.fb_resolve.specs.declared.resolved.ResolvedDecl.{ResolvedDecl}
use Rattle.fb_resolve.specs.declared.resolved.ResolvedDecl.TheVariants as resolved
use Rattle.fb_resolve.specs.ResolvedType.{ResolvedType}
use Rattle.fb_resolve.specs.Resolved.{resolved_declaration, resolved_type, resolved_types}
use Rattle.fb_declare.specs.Declares.{HasBody, Gives}
use Rattle.fb_declare.proofs.Least.{taken}

-- the alignments that may be forced
abbrev pub alignments : List ℕ
alignments = 1 ∷ 2 ∷ 4 ∷ 8 ∷ 16 ∷ 32 ∷ 64 ∷ 128 ∷ 256 ∷ []

-- an alignment is a power of two that isn't below the least
pub alignment_right : (least n : ℕ) → is_alignment least (pos n) ≡ true → IsForceAlign n × (least ≤ n)
alignment_right least n h =
    let split = and_parts (list_any (λ a. a == n) alignments) (nat_le least n) h in
    let found = Any-from_list_any (λ a. a == n) alignments split.0 in
    let k : ℕ = found.0 in
    let a : ℕ = found.1 in
    let within : k < 9 = found.2 in
    -- each is a power of two by its place
    let power : get_or alignments k a ≡ 2 ^ k = get_or-map (λ j. 2 ^ j) (range_with_len 0 9) k 0 a within
    ∙ ap (λ j. 2 ^ j) (get_or-range_with_len 0 9 k 0 within ∙ omega arith) in
    ((k, omega arith, sym (eqb-true a n found.4) ∙ sym found.3 ∙ power), leb-true least n split.1)

-- a right `force_align` is a power of two
forced_aligned : (least : ℕ) (number : Option ℤ) → ForSome (forced_align least number) IsForceAlign
unfolding forced_align
forced_aligned least (Some (pos n)) = either (λ o. ForSome o IsForceAlign) (is_alignment least (pos n)) (Some n) None
    (λ is a e. subst IsForceAlign (same_Some n a e) (alignment_right least n is).0) (λ a e. absurd (none-some a e))
forced_aligned least _ = λ a e. absurd (none-some a e)

-- a field of a struct with no fault is of a scalar, an enum or a lower struct
pub part_right : (S : DeclaredSchema) (t : ℕ) (kind : FieldType) (m : Meaning) → MeansIn S m
    → field_type (fields.Struct t) kind m ≡ [] → IsPart S t (shape_of kind m)
part_right S t (One n) (Known (Scalar base)) means h = tt
part_right S t (One n) (Known (Enum e)) means h = means.0
part_right S t (One n) (Known (Struct s)) means h =
    (leb-false t s.0 (when-none (nat_le t s.0) (IncompleteStruct n.at) h), means.0)
part_right S t (Many at n) m means h = absurd
    (grind (arith, (both_none (use_faults m n.at) (misplaced_type (fields.Struct t) (Many at n) m) h).1))
part_right S t _ _ means h = absurd (grind (arith, h))

-- what is read of a part
part_at : (n : ℕ) (fs : List ResolvedField) (k : ℕ) (p : DeclaredField) → slice_get (parts_from n fs) k ≡ Some p
    → (f : ResolvedField) × (slice_get fs k ≡ Some f) × (p ≡ part_read f (n + k))
unfolding parts_from
part_at n [] k p e = absurd (none-some p e)
part_at n (f ∷ fs) zero p e = let same : part_read f n ≡ p = cc in let sum : n ≡ n + 0 = omega arith in
    (f, refl, sym same ∙ ap (part_read f) sum)
part_at n (f ∷ fs) (suc k) p e = let rest = part_at (n + 1) fs k p e in let sum : n + 1 + k ≡ n + suc k = omega arith in
    (rest.0, rest.1, rest.2 ∙ ap (part_read rest.0) sum)

-- the parts have the names of the fields
names_of_parts : (struct n : ℕ) (fs : List ResolvedField)
    → flat_map (names_of_field (fields.Struct struct)) fs ≡ names_of (parts_from n fs)
unfolding parts_from
names_of_parts struct n [] = refl
names_of_parts struct n (f ∷ fs) = ap (λ names. f.field.name.bytes ∷ names) (names_of_parts struct (n + 1) fs)

-- where there are fields there are parts
some_parts : (fs : List ResolvedField) → (length fs == 0) ≡ false → 0 < length (parts_from 0 fs)
unfolding parts_from
some_parts [] h = absurd (true≢false h)
some_parts (f ∷ fs) h = omega arith

-- a struct with no fault has none in its attributes and its fields, and some of these
struct_right : (types : List TypeRead) (declared : Name → Bool) (lower : List ℕ) (s : ResolvedTable)
    → struct_faults types declared lower s ≡ []
    → (metadata_faults declared (hosts.Struct (natural_align types lower s.fields)) s.declared.attributes ≡ [])
    × (when (length s.fields == 0) (EmptyStruct s.declared.name.at) ≡ [])
    × (faults_in_turn (field_behind declared (fields.Struct (length lower))) s.fields ≡ [])
struct_right types declared lower s h = three_none
    (metadata_faults declared (hosts.Struct (natural_align types lower s.fields)) s.declared.attributes)
    (when (length s.fields == 0) (EmptyStruct s.declared.name.at))
    (faults_in_turn (field_behind declared (fields.Struct (length lower))) s.fields) h

-- a struct with no fault has a right body
pub struct_kept : (types : List TypeRead) (S : DeclaredSchema) (declared : Name → Bool) (lower : List ℕ)
    (s : ResolvedTable) → All (IsRead types S) s.fields → struct_faults types declared lower s ≡ []
    → IsStructBody S (length lower) (parts_from 0 s.fields) (forced_align 0 s.force_align)
struct_kept types S declared lower s read h =
    let host = fields.Struct (length lower) in
    let right = struct_right types declared lower s h in
    record {
      some = some_parts s.fields (when-none (length s.fields == 0) (EmptyStruct s.declared.name.at) right.1);
      aligned = forced_aligned 0 s.force_align;
      slots = λ k p e. let f = part_at 0 s.fields k p e in ap (λ q. q.slot) f.2 ∙ omega arith;
      names = subst (AllPairs (λ a b. a ≢ b)) (names_of_parts (length lower) 0 s.fields)
          (AllPairs-from_IsDistinct bytes_eq-Decides (flat_map (names_of_field host) s.fields)
          (fields_distinct declared host s.fields right.2));
      parts = λ k p e.
          let x = part_at 0 s.fields k p e in
          let f = x.0 in
          let own = all_at (IsFieldRight declared host) s.fields
          (fields_right declared host s.fields right.2) k f x.1 in
          rw x.2 (
            part_right S (length lower) f.field.kind f.meaning
                (all_at (IsRead types S) s.fields read k f x.1).means own.type,
            (refl, refl, refl, refl),
          );
    }

-- ---- the alignments of types, each behind those of the types before it

module _ (types : List TypeRead) where
  -- one more
  pub aligns-more : (rs : List ResolvedType) (i : ℕ) (r : ResolvedType) → i < length rs → r ≡ get_or rs i r
      → aligns_from types [] (take (i + 1) rs) ≡ aligns_from types [] (take i rs)
      ++ align_of_type types (aligns_from types [] (take i rs)) r ∷ []
  aligns-more rs i r h e = ap (aligns_from types []) (taken rs i r h e)
      ∙ fold_push (λ lower q. lower ++ align_of_type types lower q ∷ []) [] (take i rs) r

  length-aligns : (lower : List ℕ) (rs : List ResolvedType)
      → length (aligns_from types lower rs) ≡ length lower + length rs
  length-aligns lower [] = omega arith
  length-aligns lower (r ∷ rs) = let rest = length-aligns (lower ++ align_of_type types lower r ∷ []) rs in
      omega (arith, length_push lower (align_of_type types lower r))

  -- the types before one are as many as its number
  pub length-before : (rs : List ResolvedType) (t : ℕ) → t < length rs → length (aligns_from types [] (take t rs)) ≡ t
  length-before rs t within = let taken = length-take-le t rs (omega arith) in
      omega (arith, length-aligns [] (take t rs))

  -- the alignments before a type are kept
  aligns-front : (lower : List ℕ) (rs : List ResolvedType) (j : ℕ) → j < length lower
      → slice_index (aligns_from types lower rs) j ≡ slice_index lower j
  aligns-front lower [] j within = refl
  aligns-front lower (r ∷ rs) j within =
      aligns-front (lower ++ align_of_type types lower r ∷ []) rs j
      (omega (arith, length_push lower (align_of_type types lower r)))
      ∙ get_or_append_left lower (align_of_type types lower r ∷ []) 0 j within

  -- those before a type among those of all
  pub aligns-below : (rs : List ResolvedType) (t j : ℕ) → j < length (aligns_from types [] (take t rs))
      → slice_index (aligns_from types [] rs) j ≡ slice_index (aligns_from types [] (take t rs)) j
  aligns-below rs t j within = ap (λ xs. slice_index (aligns_from types [] xs) j) (sym (take-append-drop t rs))
      ∙ ap (λ all. slice_index all j) (fold-append (λ lower q. lower ++ align_of_type types lower q ∷ []) [] (take t rs)
      (drop t rs)) ∙ aligns-front (aligns_from types [] (take t rs)) (drop t rs) j within

  -- the alignment of a type among those of all
  pub aligns-at : (rs : List ResolvedType) (t : ℕ) (r : ResolvedType) → slice_get rs t ≡ Some r
      → slice_index (aligns_from types [] rs) t ≡ align_of_type types (aligns_from types [] (take t rs)) r
  aligns-at rs t r e =
      let before = aligns_from types [] (take t rs) in
      let own = align_of_type types before r in
      let within = slice_get_within rs t r e in
      let more = aligns-more rs t r within (sym (get_or_from_slice_get rs t r r e)) in
      let many = length-before rs t within in
      aligns-below rs (t + 1) t (omega (arith, ap length more, length_push before own))
      ∙ ap (λ all. slice_index all t) more ∙ get_or_push before own 0 t many

-- ---- `force_align`

-- a right `force_align` is the same from 0 on, and isn't below the natural alignment
record IsForced (natural : ℕ) (number : Option ℤ) : Type 0 where
  pub same : forced_align natural number ≡ forced_align 0 number
  pub enough : ForSome (forced_align 0 number) (λ a. natural ≤ a)

number_forced : (natural : ℕ) (n : ℤ) → is_alignment natural n ≡ true → IsForced natural (Some n)
unfolding forced_align
number_forced natural (pos n) h =
    let split = and_parts (list_any (λ a. a == n) alignments) (nat_le natural n) h in
    let first : alignment_in 0 (pos n) ≡ Some n =
    ap (λ b. cond b (Some n) None) (ap (λ b. b && nat_le 0 n) split.0 ∙ le-leb 0 n (omega arith)) in
    record {
      same = ap (λ b. cond b (Some n) None) h
          ∙ sym first;
      enough = λ a is. rw (← (same_Some n a (sym first ∙ is))) (alignment_right natural n h).1;
    }
number_forced natural (negsuc n) h = absurd (false≢true h)

-- what the value of an attribute that may stand forces
value_forced : (natural : ℕ) (value : Option AttributeValue) → may_stand (hosts.Struct natural) ForceAlign value ≡ true
    → IsForced natural (integer_value_in value)
value_forced natural (Some (Integer m)) h = number_forced natural m.value h
value_forced natural value h = absurd (false≢true h)

attribute_forced : (natural : ℕ) (called : Option AttributeRead)
    → ((a : AttributeRead) → called ≡ Some a → may_stand (hosts.Struct natural) ForceAlign a.value ≡ true)
    → IsForced natural (option_and_then (λ a. integer_value_in a.value) called)
unfolding forced_align
attribute_forced natural None stands = record { same = refl; enough = λ a is. absurd (none-some a is) }
attribute_forced natural (Some a) stands = value_forced natural a.value (stands a refl)

-- ---- the structs

module _ (o : Outline) (S : DeclaredSchema) (gives : Gives o S)
    (none : faults_in_turn (type_behind o.types (declared_in o)) (resolved_types o.types) ≡ []) where
  -- the alignments of all types
  abbrev pub aligns : List ℕ
  aligns = aligns_from o.types [] (resolved_types o.types)

  -- the structs behind types of these alignments
  module _ (lower : List ℕ) (below : (j : ℕ) → j < length lower → slice_index aligns j ≡ slice_index lower j) where
    abbrev IsRight : ResolvedField → Type 0
    IsRight f = IsFieldRight (declared_in o) (fields.Struct (length lower)) f

    -- a struct's field has its size in the schema as it is declared
    part_size : (kind : FieldType) (m : Meaning) → MeansIn S m → field_type (fields.Struct (length lower)) kind m ≡ []
        → part_align S aligns (shape_of kind m) ≡ align_by o.types lower kind m
    part_size (One n) (Known (Scalar base)) means h = refl
    part_size (One n) (Known (Enum e)) means h = sym
        (ap (λ b. option_map_or base_size b 0) (enums_kept o S gives none e.0 means.0).0)
    part_size (One n) (Known (Struct s)) means h =
        below s.0 (part_right S (length lower) (One n) (Known (Struct s)) means h).0
    part_size _ _ means h = refl

    part_sizes : (k : ℕ) (fs : List ResolvedField) → All (IsRead o.types S) fs → All IsRight fs
        → map (λ f. part_align S aligns f.shape) (parts_from k fs) ≡ map (align_in o.types lower) fs
    unfolding parts_from align_in
    part_sizes k [] read right = refl
    part_sizes k (f ∷ fs) read right =
        let size = part_size f.field.kind f.meaning (All-head (IsRead o.types S) f fs read).means
        (All-head IsRight f fs right).type in
        let sizes = part_sizes (k + 1) fs (All-tail (IsRead o.types S) f fs read) (All-tail IsRight f fs right) in
        λ i. size i ∷ sizes i

    -- a struct's body has this alignment, by its fields and its `force_align`
    abbrev IsAligned : ℕ → DeclaredBody → Type 0
    IsAligned align body = let natural = greatest_in (map (λ f. part_align S aligns f.shape) (parts_in body)) in
        ForSome (force_align_in body) (λ a. natural ≤ a) × (align ≡ unwrap_or (force_align_in body) natural)

    struct_aligned : (d : ResolvedDecl) (body : DeclaredBody) → HasBody d body → IsTrue (is_struct body)
        → IsReadIn o.types S d → declaration_faults o.types (declared_in o) lower d ≡ []
        → IsAligned (align_of_declaration o.types lower d) body
    unfolding natural_align number_called
    struct_aligned (resolved.Struct s) (struct_body parts force) h is read free =
        let right = struct_right o.types (declared_in o) lower s free in
        let natural = natural_align o.types lower s.fields in
        let sizes = part_sizes 0 s.fields read.0 (fields_right (declared_in o)
        (fields.Struct (length lower)) s.fields right.2) in
        let own : greatest_in (map (λ f. part_align S aligns f.shape) parts) ≡ natural =
        ap (λ ps. greatest_in (map (λ f. part_align S aligns f.shape) ps)) h.0 ∙ ap greatest_in sizes in
        let stands = called_stands (declared_in o) (hosts.Struct natural) s.declared.attributes right.0 ForceAlign in
        let forced = subst (IsForced natural) (sym read.1)
        (attribute_forced natural (attribute_called ForceAlign s.declared.attributes) stands) in (
          λ a e. rw own (forced.enough a (sym h.1 ∙ e)),
          λ i. unwrap_or ((forced.same ∙ sym h.1) i) (sym own i),
        )
    struct_aligned d (struct_body parts force) h is read free = absurd h
    struct_aligned d body h is read free = absurd (false≢true is)

  aligned_at : (s : ℕ) → IsTrue (is_struct (body_at S s))
      → IsAligned (aligns_before o.types s) (aligns-below o.types (resolved_types o.types) s) (slice_index aligns s)
      (body_at S s)
  unfolding align_of_type
  aligned_at s is =
      let x = body_at_by o S gives none is_struct s refl is in
      let lower = aligns_before o.types s in
      let below = aligns-below o.types (resolved_types o.types) s in
      rw (aligns-at o.types (resolved_types o.types) s (resolved_type o.types x.read)
      (resolved_at o.types s x.read x.at))
      (struct_aligned lower below (resolved_declaration o.types x.read.scope x.read.declaration) (body_at S s) x.has is
      (read_in o S gives x.read.scope x.read.declaration) x.right)

  -- The structs are aligned as they are declared.
  pub are_aligned : AreAligned S aligns
  are_aligned = record { forced = λ s is. (aligned_at s is).0; each = λ s is. (aligned_at s is).1 }
