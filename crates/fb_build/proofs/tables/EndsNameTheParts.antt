-- The parts of what was laid for slots or elements.
use Rattle.std.proofs.Common.{◌≡◌, ℕ, suc, ◌+◌, ◌-◌, ◌*◌, ◌≤◌, ◌++◌, List, [], ◌∷◌, length, map, drop}
use Rattle.std.proofs.Common.{slice_get, slice_index, Option, None, Some, true, refl, ap, sym}
use Rattle.std.proofs.Common.{arith, length-append}
use Rattle.std.proofs.lemmas.List.{map-append}
use Rattle.fb_layout.specs.Laid.{LaidSchema, StoredKind, scalar_kind, struct_kind, table_kind}
use Rattle.fb_layout.specs.Laid.{text_kind, one_of, size_of}
use Rattle.fb_value.specs.Datum.{Datum}
use Rattle.fb_value.specs.Num.{Bytes}
use Rattle.fb_value.specs.Places.{text_part, table_part, part_place, target_of}
use Rattle.fb_value.specs.Tails.{LiesInTail}
use Rattle.fb_value.specs.View.{parts_in}
use Rattle.fb_build.specs.Tails.{TailSeen, Grows}
use Rattle.fb_build.specs.Fields.{IsElement, is_reference, target_for}
use Rattle.fb_build.specs.Pieces.{reached, reached_element, reached_items}
use Rattle.fb_build.specs.CoveredTails.{part_further}
use Rattle.fb_build.specs.Made.{LeadsTo, NamedPart, named_of, named_items, parts_at, ends_parts}
use Rattle.fb_build.proofs.covered.ReachedVtablesAreInside.{reached_front_shown}

-- each part lies at its end-count
abbrev pub AreThere : LaidSchema → ℕ → Bytes → List (Option NamedPart) → List ℕ → Type 0
AreThere L m s xs ends = (k : ℕ) (x : NamedPart) → slice_get xs k ≡ Some (Some x)
    → LiesInTail L m s (part_place x.target) (slice_index ends k) x.value

pub long_front : (a b : TailSeen) (g : Grows a b) → length b.bytes - length a.bytes ≡ length g.front
long_front a b g = let e = ap length g.grown in let parts = length-append g.front a.bytes in omega (arith, e, parts)

pub first_dropped : (ends : List ℕ) (k : ℕ) → slice_index (drop 1 ends) k ≡ slice_index ends (suc k)
first_dropped [] k = refl
first_dropped (e ∷ ends) k = refl

one_moved : (L : LaidSchema) (m : ℕ) (front s : Bytes) (x : Option NamedPart) (e : ℕ)
    → ((y : NamedPart) → x ≡ Some y → LiesInTail L m s (part_place y.target) e y.value)
    → parts_at L (front ++ s) x e ≡ map (part_further (length front)) (parts_at L s x e)
one_moved L m front s None e there = refl
one_moved L m front s (Some y) e there = (reached_front_shown L m front s y.target e y.value (there y refl)).parts

all_moved : (L : LaidSchema) (m : ℕ) (front s : Bytes) (xs : List (Option NamedPart)) (ends : List ℕ)
    → AreThere L m s xs ends → ends_parts L (front ++ s) xs ends
    ≡ map (part_further (length front)) (ends_parts L s xs ends)
all_moved L m front s [] ends there = refl
all_moved L m front s (x ∷ xs) ends there =
    let one = one_moved L m front s x (slice_index ends 0)
    (λ y is. there 0 y (ap (λ (o : Option NamedPart). Some o) is)) in
    let rest = all_moved L m front s xs (drop 1 ends) (λ k y is. rw (first_dropped ends k) (there (suc k) y is)) in
    rw (one, rest) (sym (map-append (part_further (length front)) (parts_at L s x (slice_index ends 0))
    (ends_parts L s xs (drop 1 ends))))

pub ends_moved : (L : LaidSchema) (a b : TailSeen) (xs : List (Option NamedPart)) (ends : List ℕ) → Grows a b
    → AreThere L a.most a.bytes xs ends
    → ends_parts L b.bytes xs ends ≡ map (part_further (length b.bytes - length a.bytes)) (ends_parts L a.bytes xs ends)
ends_moved L a b xs ends g there = rw (long_front a b g, g.grown) (all_moved L a.most g.front a.bytes xs ends there)

-- ---- the elements of a vector

element_reached : (L : LaidSchema) (s : Bytes) (kind : StoredKind) (d : Datum) (q t : ℕ) → IsElement L kind
    → q ≤ length s → LeadsTo s (target_for (one_of kind) d) (length s - q) t
    → reached_element s (target_of kind) q (λ X p. reached L s X p d) ≡ parts_at L s (named_of (one_of kind) d) t
element_reached L s (scalar_kind b) d q t el under leads = refl
element_reached L s (struct_kind b) d q t el under leads = refl
element_reached L s text_kind d q t el under leads =
    let back : length s - (length s - q) ≡ q = omega (arith, under) in let way = rw back at leads.way in
    ap (λ p. reached L s text_part p d) way
element_reached L s (table_kind u) d q t el under leads =
    let back : length s - (length s - q) ≡ q = omega (arith, under) in let way = rw back at leads.way in
    ap (λ p. reached L s (table_part u) p d) way
element_reached L s _ d q t el under leads = absurd el

-- the references of elements that begin at a position
abbrev pub LeadAt : LaidSchema → Bytes → ℕ → StoredKind → List Datum → List ℕ → Type 0
LeadAt L s p kind ds targets = (k : ℕ) (d : Datum) → slice_get ds k ≡ Some d
    → (p + k * size_of L kind ≤ length s)
    × LeadsTo s (target_for (one_of kind) d) (length s - (p + k * size_of L kind)) (slice_index targets k)

pub items_reached : (L : LaidSchema) (s : Bytes) (kind : StoredKind) (p : ℕ) (ds : List Datum) (targets : List ℕ)
    → IsElement L kind → LeadAt L s p kind ds targets
    → reached_items L s kind p (parts_in ds) ≡ ends_parts L s (named_items kind ds) targets
items_reached L s kind p [] targets el leads = refl
items_reached L s kind p (d ∷ ds) targets el leads =
    let z = size_of L kind in
    let first : p + 0 * z ≡ p = omega arith in
    let now = leads 0 d refl in
    let here = rw first at now in
    let one = element_reached L s kind d p (slice_index targets 0) el here.0 here.1 in
    let rest = items_reached L s kind (p + z) ds (drop 1 targets) el
    (λ k e is. let at : p + suc k * z ≡ (p + z) + k * z = omega arith in
    rw (first_dropped targets k, ← at) (leads (suc k) e is)) in
    rw (one, rest) refl

-- numbers and structs reach nothing
inline_reached : (L : LaidSchema) (s : Bytes) (kind : StoredKind) (p : ℕ) (ds : List Datum) → target_of kind ≡ None
    → reached_items L s kind p (parts_in ds) ≡ []
inline_reached L s kind p [] none = refl
inline_reached L s kind p (d ∷ ds) none =
    rw none (inline_reached L s kind (p + size_of L kind) ds none)

pub none_reached : (L : LaidSchema) (s : Bytes) (kind : StoredKind) (p : ℕ) (ds : List Datum) → IsElement L kind
    → (is_reference (one_of kind) ≡ true → length ds ≡ 0) → reached_items L s kind p (parts_in ds) ≡ []
none_reached L s (scalar_kind b) p ds el none = inline_reached L s (scalar_kind b) p ds refl
none_reached L s (struct_kind b) p ds el none = inline_reached L s (struct_kind b) p ds refl
none_reached L s text_kind p [] el none = refl
none_reached L s text_kind p (d ∷ ds) el none = absurd (omega (arith, none refl))
none_reached L s (table_kind u) p [] el none = refl
none_reached L s (table_kind u) p (d ∷ ds) el none = absurd (omega (arith, none refl))
none_reached L s _ p ds el none = absurd el
