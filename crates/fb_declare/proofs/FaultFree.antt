-- What an empty list of faults says of its parts: of attributes, that each known one may stand where it does, and of
-- names, that they differ.
use Rattle.std.proofs.Common.{◌≡◌, ◌++◌, ◌||◌, ℕ, zero, suc, Bool, true, false, List, [], ◌∷◌, take, get_or, refl, ap}
use Rattle.std.proofs.Common.{sym, subst, ◌∙◌, append_assoc, Option, Some, if◌then◌else◌, not, ◌≢◌, ◌<◌, length}
use Rattle.std.proofs.Common.{map, AllPairs, arith}
use Rattle.std.specs.List.{flat_map, slice_get, All, position_or_len, IsDistinct}
use Rattle.std.specs.Str.{bytes_eq}
use Rattle.std.proofs.lemmas.Bool.{or_parts, not-false}
use Rattle.std.proofs.lemmas.List.{append-nil, flat_map_more, map_push, get_or-map, length-map}
use Rattle.std.proofs.lemmas.Option.{none-some, same_Some, get_or_from_slice_get, slice_get_within, slice_get-get_or}
use Rattle.fb_schema.specs.Schema.{Name}
use Rattle.fb_resolve.specs.Outline.{TypeRead, name_of_type, word_of}
use Rattle.fb_resolve.specs.ResolvedFields.{ResolvedField}
use Rattle.fb_resolve.specs.ResolvedType.{ResolvedType}
use Rattle.fb_resolve.specs.BasicTypes.{is_reserved}
use Rattle.fb_declare.specs.declared.faults.SchemaFault.{SchemaFault}
use Rattle.fb_declare.specs.declared.faults.SchemaFault.TheVariants.{DuplicateName, BadAttribute, Unsupported}
use Rattle.fb_declare.specs.declared.field_faults.FieldHost.{FieldHost}
use Rattle.fb_declare.specs.AttributeFaults.{metadata_faults, is_force_align_of_field, may_stand}
use Rattle.fb_declare.specs.AttributeFaults.{faults_by_name, attribute_behind}
use Rattle.fb_declare.specs.FaultRows.{when, faults_behind, faults_in_turn, name_again, field_type, bad_default}
use Rattle.fb_declare.specs.FaultRows.{is_among}
use Rattle.fb_resolve.specs.RepeatedNames.{is_again}
use Rattle.fb_declare.specs.TypeFaults.{names_of_field, attribute_host, given_in, field_faults, field_behind}
use Rattle.fb_declare.specs.TypeFaults.{declaration_faults, aligns_from, type_behind}
use Rattle.std.proofs.lemmas.List.Folds.{find_at}
use Rattle.std.proofs.lemmas.List.Sums.{passes_at_first}
use Rattle.fb_syntax.specs.Attributes.{AttributeRead, built_in_attribute, is_same}
use Rattle.fb_syntax.specs.declared.attributes.BuiltInAttribute.{BuiltInAttribute}
use Rattle.fb_declare.specs.declared.attribute_faults.AttributeHost.{AttributeHost}
use Rattle.fb_resolve.specs.Attributes.{attribute_called, has_attribute, is_left_out}
use Rattle.std.specs.Bool.{Decides}
use Rattle.std.specs.Cmp.{IsEquivalence}
use Rattle.std.proofs.lemmas.Cmp.{nat_list_eq_equiv}
use Rattle.std.proofs.lemmas.Map.Keys.{IsDistinct-push}
use Rattle.std.proofs.lemmas.Map.Made.{AllPairs-from_IsDistinct}
use Rattle.fb_schema.proofs.SomeOrNone.{some_of}

-- of joined lists that are empty, each is
pub both_none : {X : Type 0} (xs ys : List X) → xs ++ ys ≡ [] → (xs ≡ []) × (ys ≡ [])
both_none [] ys h = (refl, h)
both_none (x ∷ xs) ys h = (cc, cc)

pub three_none : {X : Type 0} (a b c : List X) → a ++ b ++ c ≡ [] → (a ≡ []) × (b ≡ []) × (c ≡ [])
three_none a b c h = let ab = both_none (a ++ b) c h in let first = both_none a b ab.0 in (first.0, first.1, ab.1)

-- a rule that tells no fault doesn't fail
pub when-none : (b : Bool) (fault : SchemaFault) → when b fault ≡ [] → b ≡ false
when-none true fault h = cc
when-none false fault h = refl

-- a rule of two parts
pub either-none : (a b : Bool) (fault : SchemaFault) → when (a || b) fault ≡ [] → (a ≡ false) × (b ≡ false)
either-none a b fault h = or_parts a b (when-none (a || b) fault h)

-- what is empty for all together is empty for each
pub none_behind : {X : Type 0} (rule : List X → X → List SchemaFault) (before xs : List X)
    → faults_behind rule before xs ≡ []
    → (k : ℕ) (x : X) → slice_get xs k ≡ Some x → rule (before ++ take k xs) x ≡ []
none_behind rule before [] h k x e = absurd (none-some x e)
none_behind rule before (y ∷ xs) h zero x e =
    ap (λ b. rule b x) (append-nil before) ∙ rw (← (same_Some y x e))
    (both_none (rule before y) (faults_behind rule (before ++ y ∷ []) xs) h).0
none_behind rule before (y ∷ xs) h (suc k) x e =
    ap (λ b. rule b x) (sym (append_assoc before (y ∷ []) (take k xs)))
    ∙ none_behind rule (before ++ y ∷ []) xs (both_none (rule before y) (faults_behind rule (before ++ y ∷ []) xs) h).1
    k x e

-- what is empty where a field has no fault
pub record IsFieldRight (declared : Name → Bool) (host : FieldHost) (f : ResolvedField) : Type 0 where
  pub type : field_type host f.field.kind f.meaning ≡ []
  pub metadata : metadata_faults declared (attribute_host host f.field.kind f.meaning) f.field.attributes ≡ []

pub fields_right : (declared : Name → Bool) (host : FieldHost) (fs : List ResolvedField)
    → faults_in_turn (field_behind declared host) fs ≡ [] → All (IsFieldRight declared host) fs
fields_right declared host fs h k d within =
    let f = get_or fs k d in
    let names = faults_behind (name_again f.field.name.at) (flat_map (names_of_field host) (take k fs))
    (names_of_field host f) in
    let none = none_behind (field_behind declared host) [] fs h k f (slice_get-get_or fs k d within) in
    let parts = three_none (field_type host f.field.kind f.meaning)
    (bad_default f.field.default (given_in host f.given))
    (metadata_faults declared (attribute_host host f.field.kind f.meaning) f.field.attributes)
    (both_none names (field_faults declared host f) none).1 in
    record { type = parts.0; metadata = parts.2 }

-- a type with no fault has another full name than those before it, and none in its declaration by their alignments
pub type_right : (types : List TypeRead) (declared : Name → Bool) (before : List ResolvedType) (r : ResolvedType)
    → type_behind types declared before r ≡ []
    → (is_again bytes_eq (λ q. name_of_type q.read) before r ≡ false)
    × (declaration_faults types declared (aligns_from types [] before) r.declaration ≡ [])
type_right types declared before r h =
    let name = word_of r.read.declaration in
    let again = is_again bytes_eq (λ q. name_of_type q.read) before r in
    let parts = both_none (when (again || is_reserved name.bytes) (DuplicateName name.at))
    (declaration_faults types declared (aligns_from types [] before) r.declaration) h in
    ((either-none again (is_reserved name.bytes) (DuplicateName name.at) parts.0).0, parts.1)

-- what holds of each element holds of the one at a place
pub all_at : {X : Type 0} (P : X → Type 0) (xs : List X) → All P xs → (k : ℕ) (x : X) → slice_get xs k ≡ Some x → P x
all_at P xs all k x e = subst P (get_or_from_slice_get xs k x x e) (all k x (slice_get_within xs k x e))

-- what holds of both choices holds of the one that is made
pub either : {X : Type 0} (P : X → Type 0) (b : Bool) (x y : X) → (b ≡ true → P x) → P y → P (if b then x else y)
either P true x y p q = p refl
either P false x y p q = q

-- a built-in attribute that is the same as another is that
known_same : (k : BuiltInAttribute) (o : Option BuiltInAttribute) → is_same k o ≡ true → o ≡ Some k
known_same k o h = grind (arith, h)

module _ (declared : Name → Bool) (host : AttributeHost) (attributes : List AttributeRead)
    (none : metadata_faults declared host attributes ≡ []) (k : BuiltInAttribute) where
  -- an attribute that is a built-in one may stand as such
  stands_at : (i : ℕ) (a : AttributeRead) → slice_get attributes i ≡ Some a
      → is_same k (built_in_attribute a.name.bytes) ≡ true → may_stand host k a.value ≡ true
  stands_at i a at same =
      let again = is_again bytes_eq (λ b. b.name.bytes) (take i attributes) a in
      let built_in = built_in_attribute a.name.bytes in
      let known : built_in ≡ Some k = known_same k built_in same in
      let named = faults_by_name declared host again a built_in in
      let right = either (λ fs. fs ≡ [] → named ≡ [])
      (is_left_out a.name.bytes || is_force_align_of_field host built_in) (Unsupported a.name.at ∷ []) named
      (λ is e. cc) (λ e. e)
      (none_behind (attribute_behind declared host) [] attributes none i a at) in
      not-false (may_stand host k a.value) (either-none (not (may_stand host k a.value)) again (BadAttribute a.name.at)
      (rw known at right)).0

  -- the first that is a built-in one may stand
  pub called_stands : (a : AttributeRead) → attribute_called k attributes ≡ Some a → may_stand host k a.value ≡ true
  called_stands a called =
      let p : AttributeRead → Bool = λ b. is_same k (built_in_attribute b.name.bytes) in
      let i : ℕ = position_or_len p attributes in
      let at : slice_get attributes i ≡ Some a = sym (find_at p attributes) ∙ called in
      stands_at i a at (ap p (sym (get_or_from_slice_get attributes i a a at))
      ∙ passes_at_first p attributes a (slice_get_within attributes i a at))

  -- if there is one, some such attribute may stand
  pub noted_stands : has_attribute k attributes ≡ true → (a : AttributeRead) × (may_stand host k a.value ≡ true)
  noted_stands has = let found = some_of (attribute_called k attributes) has in
      (found.0, called_stands found.0 found.1)

-- what each element with no fault keeps holds in the end
kept_behind : {X : Type 0} (rule : List X → X → List SchemaFault) (P : List X → Type 0)
    → ((before : List X) (x : X) → rule before x ≡ [] → P before → P (before ++ x ∷ []))
    → (before xs : List X) → faults_behind rule before xs ≡ [] → P before → P (before ++ xs)
kept_behind rule P step before [] h p = subst P (sym (append-nil before)) p
kept_behind rule P step before (x ∷ xs) h p =
    let parts = both_none (rule before x) (faults_behind rule (before ++ x ∷ []) xs) h in
    subst P (append_assoc before (x ∷ []) xs) (kept_behind rule P step (before ++ x ∷ []) xs parts.1
    (step before x parts.0 p))

-- keys of which none is there again are distinct
pub keys_distinct : {X K : Type 0} {eq : K → K → Bool} → IsEquivalence eq
    → (key : X → K) (rule : List X → X → List SchemaFault)
    → ((before : List X) (x : X) → rule before x ≡ [] → is_again eq key before x ≡ false) → (xs : List X)
    → faults_in_turn rule xs ≡ [] → IsDistinct eq (map key xs)
unfolding IsDistinct
keys_distinct {eq = eq} laws key rule new xs h = kept_behind rule (λ ys. IsDistinct eq (map key ys))
    (λ before x none differ. subst (IsDistinct eq) (sym (map_push key before x))
    (IsDistinct-push laws (map key before) (key x) differ (new before x none))) [] xs h tt

-- the names of fields with no fault are distinct
pub fields_distinct : (declared : Name → Bool) (host : FieldHost) (fs : List ResolvedField)
    → faults_in_turn (field_behind declared host) fs ≡ [] → IsDistinct bytes_eq (flat_map (names_of_field host) fs)
unfolding IsDistinct
fields_distinct declared host fs h = let names = names_of_field host in
    kept_behind (field_behind declared host) (λ gs. IsDistinct bytes_eq (flat_map names gs))
    (λ before f none differ.
    let at = f.field.name.at in
    let met = flat_map names before in
    subst (IsDistinct bytes_eq) (flat_map_more names [] before f)
    (kept_behind (name_again at) (IsDistinct bytes_eq)
    (λ ns n new apart. IsDistinct-push nat_list_eq_equiv ns n apart
    (when-none (is_among n ns) (DuplicateName at) new)) met (names f)
    (both_none (faults_behind (name_again at) met (names f)) (field_faults declared host f) none).0 differ)) [] fs h tt

-- what has distinct keys differs by them
pub keys_apart : {X K : Type 0} {eq : K → K → Bool} → ((a b : K) → Decides (eq a b) (a ≡ b))
    → (key : X → K) (xs : List X) → IsDistinct eq (map key xs) → AllPairs (λ a b. key a ≢ key b) xs
keys_apart same key xs distinct i j d before within =
    rw (← get_or-map key xs i d (key d) (omega arith), ← get_or-map key xs j d (key d) within)
    (AllPairs-from_IsDistinct same (map key xs) distinct i j (key d) before (omega (arith, length-map xs key)))

-- a list of what differs differs
pub pairs_map : {X K : Type 0} (Apart : K → K → Type 0) (key : X → K) (xs : List X)
    → AllPairs (λ a b. Apart (key a) (key b)) xs → AllPairs Apart (map key xs)
pairs_map Apart key [] apart i j d before within = absurd (omega arith)
pairs_map Apart key (x ∷ xs) apart i j d before within =
    let inside : j < length (x ∷ xs) = omega (arith, length-map (x ∷ xs) key) in
    rw (get_or-map key (x ∷ xs) i x d (omega arith), get_or-map key (x ∷ xs) j x d inside) (apart i j x before inside)
