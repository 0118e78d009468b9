-- The numbers of a table's required slots.
use Rattle.std.proofs.Common.{◌≡◌, ℕ, suc, ◌+◌, Bool, true, false, not, ◌&&◌, cond, List, [], ◌∷◌}
use Rattle.std.proofs.Common.{length, map, filter, Option, None, Some, slice_get, refl, ap, sym, ◌∙◌, arith}
use Rattle.std.specs.List.{range_with_len}
use Rattle.std.proofs.lemmas.List.{length-map}
use Rattle.fb_schema.specs.Schema.{DeclaredField, DeclaredBody, table_body, struct_body, enum_body, union_body}
use Rattle.fb_schema.specs.Schema.{DeclaredType, DeclaredSchema, body_in, body_at, slots_in}
use Rattle.fb_schema.specs.WellDeclared.{IsBody, IsDeclared}
use Rattle.fb_layout.specs.Laid.{LaidSchema, Slot, slot_of, slots_of}
use Rattle.fb_layout.specs.Required.{is_required, required_slots, required_numbers, HaveSmallNumbers}
use Rattle.fb_layout.specs.WellMade.{IsWellMade}
use Rattle.std.proofs.lemmas.Option.{slice_get_within}

-- the required ones among slots that are numbered from k on
abbrev pub required_from : ℕ → List Slot → List ℕ
required_from k [] = []
required_from k (f ∷ fs) = cond f.required (k ∷ required_from (suc k) fs) (required_from (suc k) fs)

-- each field has its slot's number, from k on
HaveNumbers : ℕ → List DeclaredField → Type 0
HaveNumbers k fs = (i : ℕ) (f : DeclaredField) → slice_get fs i ≡ Some f → f.slot ≡ k + i

kept_or_not : (b : Bool) (f : DeclaredField) (k : ℕ) (fs : List DeclaredField) (rest : List ℕ) → f.slot ≡ k
    → map (λ f. f.slot) fs ≡ rest → map (λ f. f.slot) (cond b (f ∷ fs) fs) ≡ cond b (k ∷ rest) rest
kept_or_not true f k fs rest number e = rw (number, e) refl
kept_or_not false f k fs rest number e = e

numbers_from : (S : DeclaredSchema) (k : ℕ) (fs : List DeclaredField) → HaveNumbers k fs
    → required_numbers fs ≡ required_from k (map (slot_of S) fs)
unfolding HaveNumbers
numbers_from S k [] have = refl
numbers_from S k (f ∷ fs) have =
    let rest = numbers_from S (suc k) fs (λ i g e. have (suc i) g e ∙ omega arith) in
    let own : f.slot ≡ k = have 0 f refl ∙ omega arith in
    kept_or_not (f.required && not f.deprecated) f k (filter (λ f. f.required && not f.deprecated) fs)
    (required_from (suc k) (map (slot_of S) fs)) own rest

-- the same numbers, found by looking at each number
looked_at : (all fs : List Slot) (k : ℕ) → ((i : ℕ) → slice_get all (k + i) ≡ slice_get fs i)
    → filter (λ i. is_required (slice_get all i)) (range_with_len k (length fs)) ≡ required_from k fs
looked_at all [] k same = refl
looked_at all (f ∷ fs) k same =
    let here : slice_get all k ≡ Some f = ap (slice_get all) (let zero_more : k ≡ k + 0 = omega arith in zero_more)
    ∙ same 0 in
    let one : k + 1 ≡ suc k = omega arith in
    let rest = looked_at all fs (suc k) (λ i. ap (slice_get all) (let next : suc k + i ≡ k + suc i = omega arith in
    next) ∙ same (suc i)) in
    rw (here, one, rest) refl

-- The list of the definition, slot by slot.
pub required_in_order : (L : LaidSchema) (t : ℕ) → required_slots L t ≡ required_from 0 (slots_of L t)
required_in_order L t =
    looked_at (slots_of L t) (slots_of L t) 0 (λ i. ap (slice_get (slots_of L t)) (let none : 0 + i ≡ i = omega arith in
    none))

slots_numbered : (S : DeclaredSchema) (t : ℕ) (body : DeclaredBody) → IsBody S t body → HaveNumbers 0 (slots_in body)
unfolding HaveNumbers
slots_numbered S t (table_body fs) is k f e = is.slots k f e ∙ omega arith
slots_numbered S t (struct_body fs a) is k f e = cc
slots_numbered S t (enum_body b flags vs) is k f e = cc
slots_numbered S t (union_body ms) is k f e = cc

type_numbered : (S : DeclaredSchema) → IsDeclared S → (t : ℕ) (o : Option DeclaredType) → slice_get S.types t ≡ o
    → HaveNumbers 0 (slots_in (body_in o))
unfolding HaveNumbers
type_numbered S declared t None at k f e = cc
type_numbered S declared t (Some type) at k f e = slots_numbered S t type.body (declared.bodies t type at) k f e

-- A declared table's fields have the numbers of the definition.
pub numbers_required : (L : LaidSchema) → IsDeclared L.schema → (t : ℕ)
    → required_numbers (slots_in (body_at L.schema t)) ≡ required_slots L t
numbers_required L declared t =
    numbers_from L.schema 0 (slots_in (body_at L.schema t))
    (type_numbered L.schema declared t (slice_get L.schema.types t) refl) ∙ sym (required_in_order L t)

-- ---- one list of numbers for each type

-- ---- the numbers fit 16 bits

pub small_numbers : (L : LaidSchema) → IsWellMade L → (t : ℕ) → HaveSmallNumbers (slots_in (body_at L.schema t))
unfolding HaveNumbers
small_numbers L made t k f e =
    let number = type_numbered L.schema made.declared t (slice_get L.schema.types t) refl k f e in
    let low = slice_get_within (slots_in (body_at L.schema t)) k f e in
    let many : length (slots_of L t) ≡ length (slots_in (body_at L.schema t)) =
    length-map (slots_in (body_at L.schema t)) (slot_of L.schema) in
    let few = (made.tables t).few in
    omega (arith, number, low, many, few)
