-- What an array gives, and that its vector is noted.
use Rattle.std.proofs.Common.{◌≡◌, ◌∙◌, ◌+◌, ◌-◌, ◌≤◌, ◌<◌, ℕ, Bool, true, false, List, Some, Result, Ok, Err, IfErr}
use Rattle.std.proofs.Common.{length}
use Rattle.std.proofs.Common.{nat_lt, refl, arith}
use Rattle.std.proofs.lemmas.Bool.Decides.{nat_tests}
use Rattle.serde_json.specs.declared.value.Value.{Value as Json}
use Rattle.serde_json.specs.Data.{Data}
use Rattle.serde_json.specs.Find.{as_array}
use Rattle.serde_json.specs.View.{items_view}
use Rattle.fb_schema.specs.declared.kinds.Kind.{Kind}
use Rattle.fb_schema.specs.declared.kinds.Shape.TheVariants.{Many}
use Rattle.fb_layout.specs.Laid.{LaidSchema}
use Rattle.fb_value.specs.Datum.{Datum, a_vector}
use Rattle.fb_value.specs.View.{parts_in}
use Rattle.fb_json.specs.declared.faults.JsonFault.{JsonFault}
use Rattle.fb_json.specs.declared.faults.JsonFault.TheVariants.{TooManyCells}
use Rattle.fb_json.specs.declared.faults.Place.{Place}
use Rattle.fb_json.specs.Meant.{count, items_meant, meant, vector_meant}
use Rattle.fb_json.specs.Outcome.{◌>>=◌, Counted, Fails}
use Rattle.fb_json.proofs.slots.OneSlotOrFieldMore.{counted, fails_by}
use Rattle.fb_encode.proofs.parts.TreesByTheirKind.{vector_by}
use Rattle.fb_encode.specs.TreesNoted.{vector_given}

pub bound : (r : Counted (List Datum)) → (r >>= λ xs. Ok (a_vector (parts_in xs.0), xs.1)) ≡ vector_given r
bound (Ok xs) = refl
bound (Err e) = refl

pub vector_refused : (r : Counted (List Datum)) (f : JsonFault) → Fails f r → Fails f (vector_given r)
vector_refused r f h = fails_by f r (vector_given r) (λ e. rw e refl) h

pub if_err_then : {A : Type 0} (r : Result A JsonFault) (P Q : JsonFault → Type 0) → ((f : JsonFault) → P f → Q f)
    → IfErr r P → IfErr r Q
if_err_then (Ok x) P Q then h = tt
if_err_then (Err f) P Q then h = then f h

module _ (L : LaidSchema) (unknown : Bool) (at : Place) (levels left : ℕ) (kind : Kind) (t : Data)
    (elements : List Json) (is : Some (items_view elements) ≡ as_array t) where
  -- there are cells for it
  pub array_given : (n : ℕ) → n ≡ length elements → n < left → meant L unknown t (Many kind) at levels left
      ≡ vector_given (items_meant L unknown (items_view elements) kind at levels (left - 1 - n))
  unfolding vector_meant
  array_given n long low =
      let enough : nat_lt left (1 + count (items_view elements)) ≡ false =
      rw counted (grind (arith, nat_tests, long, low)) in
      let rest : left - (1 + count (items_view elements)) ≡ left - 1 - n =
      omega (arith, counted elements, long) in
      vector_by L unknown at levels left kind t (items_view elements) is
      ∙ (rw (enough, rest) (bound (items_meant L unknown (items_view elements) kind at levels (left - 1 - n))))

  pub array_refused : (n : ℕ) → n ≡ length elements → left ≤ n
      → meant L unknown t (Many kind) at levels left ≡ Err (TooManyCells at)
  unfolding vector_meant
  array_refused n long over =
      let few : nat_lt left (1 + count (items_view elements)) ≡ true =
      rw counted (grind (arith, nat_tests, long, over)) in
      vector_by L unknown at levels left kind t (items_view elements) is ∙ (rw few refl)
