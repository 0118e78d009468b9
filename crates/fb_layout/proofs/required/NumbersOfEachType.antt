-- The numbers of one type more.
use Rattle.std.proofs.Common.{◌≡◌, ◌⊎◌, inl, inr, ℕ, zero, suc, ◌+◌, ◌-◌, ◌<◌, ◌≤◌, List, [], ◌∷◌, ◌++◌, length, map}
use Rattle.std.proofs.Common.{drop, get_or, slice_get, Option, None, Some, refl, ap, sym, ◌∙◌, arith, length-append}
use Rattle.std.proofs.Common.{length-drop, take}
use Rattle.std.proofs.lemmas.List.{take-append-le, drop-append-le, take_all, get_or_append_left}
use Rattle.std.proofs.lemmas.Option.{slice_get_within, slice_get_past}
use Rattle.std.proofs.Math.Seq.{drop-append_seam, get_or-append_seam}
use Rattle.fb_schema.proofs.LastEntry.{entry_of, entry_kept, entry_last}
use Rattle.fb_schema.specs.declared.types.TypeInfo.{TypeInfo}
use Rattle.fb_schema.specs.Schema.{DeclaredType, body_in, slots_in}
use Rattle.fb_schema.specs.Seen.{type_seen}
use Rattle.fb_schema.proofs.Distinct.{keys_more}
use Rattle.fb_layout.specs.Required.{required_numbers}
use Rattle.fb_layout.specs.RequiredHeld.{start_of, AreOfType, HaveNumbers}

some_type : {X : Type 0} (xs : List X) (t : ℕ) → slice_get xs t ≡ None → length xs ≤ t
some_type [] t none = omega arith
some_type (x ∷ xs) zero none = absurd cc
some_type (x ∷ xs) (suc t) none = let rest = some_type xs t none in omega (arith, rest)

start_kept : (ends : List ℕ) (end t : ℕ) → t ≤ length ends → start_of (ends ++ end ∷ []) t ≡ start_of ends t
start_kept ends end zero low = refl
start_kept ends end (suc t) low = get_or_append_left ends (end ∷ []) 0 t (omega (arith, low))

still_of_type : (numbers more ends own : List ℕ) (end t : ℕ) → AreOfType numbers ends t own
    → AreOfType (numbers ++ more) (ends ++ end ∷ []) t own
still_of_type numbers more ends own end t was =
    let start = start_of ends t in
    let low = slice_get_within ends t was.end was.at in
    let begun : start_of (ends ++ end ∷ []) t ≡ start = start_kept ends end t (omega (arith, low)) in
    let same : take (was.end - start) (drop start (numbers ++ more)) ≡ take (was.end - start) (drop start numbers) =
    ap (take (was.end - start)) (drop-append-le start numbers more (omega (arith, was.ordered, was.within)))
    ∙ take-append-le (was.end - start) (drop start numbers) more
    (omega (arith, was.ordered, was.within, length-drop start numbers)) in
    record {
      end = was.end;
      at = entry_kept ends end was.end t was.at;
      ordered = rw begun was.ordered;
      within = omega (arith, was.within, length-append numbers more);
      are = rw begun (same ∙ was.are);
    }

now_of_type : (numbers more ends : List ℕ) → start_of ends (length ends) ≡ length numbers
    → AreOfType (numbers ++ more) (ends ++ length (numbers ++ more) ∷ []) (length ends) more
now_of_type numbers more ends total =
    let end = length (numbers ++ more) in
    let long = length-append numbers more in
    let begun : start_of (ends ++ end ∷ []) (length ends) ≡ length numbers =
    start_kept ends end (length ends) (omega arith) ∙ total in
    let size : end - length numbers ≡ length more = omega (arith, long) in
    record {
      end = end;
      at = entry_last ends end;
      ordered = rw begun (omega (arith, long));
      within = omega arith;
      are = rw (begun, size) (ap (take (length more)) (drop-append_seam numbers more)
          ∙ take_all (length more) more (omega arith));
    }

pub total_more : (ends : List ℕ) (end : ℕ) → start_of (ends ++ end ∷ []) (length (ends ++ end ∷ [])) ≡ end
total_more ends end =
    let count : length (ends ++ end ∷ []) ≡ suc (length ends) = omega (arith, length-append ends (end ∷ [])) in
    rw count (get_or-append_seam ends end [] 0)

pub type_more : (types : List TypeInfo) (i : ℕ) (info : TypeInfo) (numbers more ends : List ℕ) → i < length types
    → info ≡ get_or types i info → start_of ends (length ends) ≡ length numbers
    → HaveNumbers numbers ends (map type_seen (take i types))
    → more ≡ required_numbers (slots_in (type_seen info).body)
    → HaveNumbers (numbers ++ more) (ends ++ length (numbers ++ more) ∷ []) (map type_seen (take (i + 1) types))
type_more types i info numbers more ends within there total so_far own = rw types_more (record {
  each = omega (
    arith,
    so_far.each,
    length-append ends (length (numbers ++ more) ∷ []),
    length-append seen (type_seen info ∷ []),
  );
  of_type = λ t type at. by t type (entry_of seen (type_seen info) type t at);
})
  where
    seen : List DeclaredType
    seen = map type_seen (take i types)

    types_more : map type_seen (take (i + 1) types) ≡ seen ++ type_seen info ∷ []
    types_more = keys_more type_seen types i info within
        ∙ ap (λ (t : TypeInfo). seen ++ type_seen t ∷ []) (sym there)

    by : (t : ℕ) (type : DeclaredType) → (slice_get seen t ≡ Some type) ⊎ ((t ≡ length seen) × (type_seen info ≡ type))
        → AreOfType (numbers ++ more) (ends ++ length (numbers ++ more) ∷ []) t (required_numbers (slots_in type.body))
    by t type (inl before) = still_of_type numbers more ends (required_numbers (slots_in type.body))
        (length (numbers ++ more)) t (so_far.of_type t type before)
    by t type (inr is) =
        let number : t ≡ length ends = is.0 ∙ sym so_far.each in
        rw (number, ← is.1, ← own) (now_of_type numbers more ends total)

-- the numbers of the type that ends there
pub record IsOwn (numbers ends : List ℕ) (types : List DeclaredType) (t end : ℕ) : Type 0 where
  pub ordered : start_of ends t ≤ end
  pub within : end ≤ length numbers
  pub are : take (end - start_of ends t) (drop (start_of ends t) numbers)
      ≡ required_numbers (slots_in (body_in (slice_get types t)))

pub own : (numbers ends : List ℕ) (types : List DeclaredType) → HaveNumbers numbers ends types → (t end : ℕ)
    → slice_get ends t ≡ Some end → IsOwn numbers ends types t end
own numbers ends types have t end at = by (slice_get types t) refl
  where
    inside : t < length types
    inside = omega (arith, have.each, slice_get_within ends t end at)

    by : (o : Option DeclaredType) → slice_get types t ≡ o → IsOwn numbers ends types t end
    by None none = absurd (omega (arith, inside, some_type types t none))
    by (Some type) there =
        let its = have.of_type t type there in
        let same : its.end ≡ end = (let e : Some its.end ≡ Some end = sym its.at ∙ at in cc) in
        record {
          ordered = rw (← same) its.ordered;
          within = rw (← same) its.within;
          are = rw (there, ← same) its.are;
        }

-- a type that isn't there has none
pub own_none : (numbers ends : List ℕ) (types : List DeclaredType) → HaveNumbers numbers ends types → (t : ℕ)
    → slice_get ends t ≡ None → [] ≡ required_numbers (slots_in (body_in (slice_get types t)))
own_none numbers ends types have t none =
    let past = some_type ends t none in
    rw (slice_get_past types t (omega (arith, have.each, past))) refl
