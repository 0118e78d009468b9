-- Where the references of a vector lead while its elements are laid, from the last to the first.
use Rattle.std.proofs.Common.{◌≡◌, ℕ, ◌+◌, ◌-◌, ◌*◌, ◌<◌, ◌≤◌, ◌⊎◌, inl, inr, List, length, slice_get, slice_index}
use Rattle.std.proofs.Common.{Some, ap, sym, ◌∙◌, arith}
use Rattle.std.proofs.lemmas.Bool.{cases_eq}
use Rattle.fb_layout.specs.Laid.{LaidSchema, StoredKind, one_of, size_of}
use Rattle.fb_value.specs.Datum.{Datum}
use Rattle.fb_value.specs.Num.{Bytes}
use Rattle.fb_build.specs.Tails.{TailSeen, Grows}
use Rattle.fb_build.specs.Fields.{target_for}
use Rattle.fb_build.specs.Made.{LeadsTo}
use Rattle.fb_build.proofs.covered.ReferenceLeadsThereFurtherOn.{leads_grown}
use Rattle.fb_build.proofs.fields.SlotStoresItsEntry.{same_some}

-- those of the elements from one on
abbrev pub LeadFrom : LaidSchema → Bytes → ℕ → ℕ → StoredKind → List Datum → List ℕ → Type 0
LeadFrom L s behind from kind ds targets =
    (k : ℕ) (d : Datum) → from ≤ k → slice_get ds k ≡ Some d
    → LeadsTo s (target_for (one_of kind) d) (behind + (length ds - k) * size_of L kind) (slice_index targets k)

pub lead_none : (L : LaidSchema) (s : Bytes) (behind n : ℕ) (kind : StoredKind) (ds : List Datum) (targets : List ℕ)
    → ((k : ℕ) (d : Datum) → slice_get ds k ≡ Some d → k < n) → LeadFrom L s behind n kind ds targets
lead_none L s behind n kind ds targets under k d low is = let past = under k d is in absurd (omega (arith, low, past))

-- one element more in front
pub lead_one : (L : LaidSchema) (a b : TailSeen) (behind i : ℕ) (kind : StoredKind) (ds : List Datum) (targets : List ℕ)
    (d : Datum) → Grows a b → slice_get ds i ≡ Some d → length b.bytes ≡ behind + (length ds - i) * size_of L kind
    → LeadsTo b.bytes (target_for (one_of kind) d) (length b.bytes) (slice_index targets i)
    → LeadFrom L a.bytes behind (i + 1) kind ds targets → LeadFrom L b.bytes behind i kind ds targets
lead_one L a b behind i kind ds targets d g is long now before k e low at = by_case (cases_eq k i)
  where
    by_case : (k ≡ i) ⊎ (k ≡ i → ⊥)
        → LeadsTo b.bytes (target_for (one_of kind) e) (behind + (length ds - k) * size_of L kind)
        (slice_index targets k)
    by_case (inl same) =
        let own : e ≡ d = same_some (slice_get ds i) e d (rw same at at) is in
        rw (same, own, ← long) now
    by_case (inr ne) = leads_grown a b (target_for (one_of kind) e) (behind + (length ds - k) * size_of L kind)
        (slice_index targets k) g (before k e (omega (arith, low, ne)) at)

pub times_split : (k n z : ℕ) → k ≤ n → (n - k) * z + k * z ≡ n * z
times_split k n z h =
    let split : n ≡ (n - k) + k = omega (arith, h) in
    let more : ((n - k) + k) * z ≡ (n - k) * z + k * z = omega arith in
    sym more ∙ sym (ap (λ i. i * z) split)
