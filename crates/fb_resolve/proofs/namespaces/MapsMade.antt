-- Maps made from other maps, one level of forks at a time.
use Rattle.std.proofs.Common.{ℕ, zero, suc, ◌≡◌, ◌≢◌, ◌-◌, ◌/◌, ◌%◌, ◌==◌, ◌∙◌, List, Bool, Some, length, get_or}
use Rattle.std.proofs.Common.{slice_get, unwrap_or, if◌then◌else◌, true, false, refl, sym, ap, arith}
use Rattle.std.proofs.lemmas.Option.{slice_get_within, slice_get_read}
use Rattle.std.proofs.lemmas.Bool.Decides.{nat_tests}
use Rattle.fb_resolve.specs.declared.namespaces.maps.Fork.{Fork}
use Rattle.fb_resolve.specs.Maps.{empty_fork, side, with_side, leaf_in, leaf_or, IsMapIn, KeepsForks}
use Rattle.fb_resolve.proofs.namespaces.MapsKept.{kept-map, kept-leaf, side-map, empty-leaf}

-- a map's first fork, where it has levels
pub record IsForkOf (forks : List Fork) (levels place : ℕ) (fork : Fork) : Type 0 where
  pub above : levels ≢ 0
  pub there : slice_get forks place ≡ Some fork
  pub zeros : IsMapIn forks (levels - 1) fork.zero
  pub ones : IsMapIn forks (levels - 1) fork.one

lower : (levels : ℕ) → levels ≢ 0 → levels ≡ suc (levels - 1)
lower levels above = omega arith

pub fork-of-map : (forks : List Fork) (levels place : ℕ) (fork : Fork) → levels ≢ 0 → IsMapIn forks levels place
    → fork ≡ get_or forks place fork → IsForkOf forks levels place fork
fork-of-map forks levels place fork above map read =
    let deep : IsMapIn forks (suc (levels - 1)) place = rw (lower levels above) at map in
    let there = slice_get_read forks (length forks) place fork refl deep.0 read in
    let sides = rw there at deep in
    record { above = above; there = there; zeros = sides.1; ones = sides.2 }

pub map-of-fork : {forks : List Fork} {levels place : ℕ} {fork : Fork} → IsForkOf forks levels place fork
    → IsMapIn forks levels place
map-of-fork {forks = forks} {levels = levels} {place = place} {fork = fork} f =
    let deep : IsMapIn forks (suc (levels - 1)) place =
    rw f.there (slice_get_within forks place fork f.there, f.zeros, f.ones) in
    rw (lower levels f.above) deep

pub side-of-fork : {forks : List Fork} {levels place : ℕ} {fork : Fork} → IsForkOf forks levels place fork
    → (key : ℕ) → IsMapIn forks (levels - 1) (side fork key)
side-of-fork {forks = forks} {levels = levels} {fork = fork} f key = side-map forks (levels - 1) fork key f.zeros f.ones

pub leaf-of-fork : {forks : List Fork} {levels place : ℕ} {fork : Fork} → IsForkOf forks levels place fork
    → (key : ℕ) → leaf_in forks levels place key ≡ leaf_in forks (levels - 1) (side fork key) (key / 2)
leaf-of-fork {forks = forks} {levels = levels} {place = place} f key =
    ap (λ n. leaf_in forks n place key) (lower levels f.above)
    ∙ ap (λ o. leaf_in forks (levels - 1) (side (unwrap_or o empty_fork) key) (key / 2)) f.there

with-map : (P : ℕ → Type 0) (fork : Fork) (b : Bool) (other : ℕ) → P fork.zero → P fork.one → P other
    → P (if b then record fork { zero = other } else record fork { one = other }).zero
    × P (if b then record fork { zero = other } else record fork { one = other }).one
with-map P fork true other zeros ones made = (made, ones)
with-map P fork false other zeros ones made = (zeros, made)

-- a fork with another side makes a map
pub inserted-fork : {old : List Fork} {levels place : ℕ} {fork : Fork} → IsForkOf old levels place fork
    → (mid new : List Fork) → KeepsForks old mid → KeepsForks mid new
    → (key other made : ℕ) → IsMapIn mid (levels - 1) other → (put : Fork) → put ≡ with_side fork key other
    → slice_get new made ≡ Some put → IsForkOf new levels made put
inserted-fork {old = old} {levels = levels} {fork = fork} f mid new first second key other made map put e there =
    let below = levels - 1 in
    let kept : KeepsForks old new = λ p g h. second p g (first p g h) in
    let sides = with-map (IsMapIn new below) fork (key % 2 == 0) other (kept-map old new kept below fork.zero f.zeros)
    (kept-map old new kept below fork.one f.ones) (kept-map mid new second below other map) in
    record {
      above = f.above;
      there = there;
      zeros = rw e sides.0;
      ones = rw e sides.1;
    }

-- two keys are the same where their lowest bits and all others are
same-key : (k key : ℕ)
    → (k == key) ≡ (if k % 2 == 0 then (if key % 2 == 0 then k / 2 == key / 2 else false)
    else (if key % 2 == 0 then false else k / 2 == key / 2))
same-key k key = grind (arith, nat_tests)

with-leaf : (new old : ℕ → ℕ) (fork : Fork) (other leaf : ℕ) (b at same half : Bool)
    → same ≡ (if at then (if b then half else false) else (if b then false else half))
    → new fork.zero ≡ old fork.zero → new fork.one ≡ old fork.one
    → new other ≡ (if half then leaf else old (if b then fork.zero else fork.one))
    → (let made = if b then record fork { zero = other } else record fork { one = other } in
    new (if at then made.zero else made.one) ≡ (if same then leaf else old (if at then fork.zero else fork.one)))
with-leaf new old fork other leaf true true same half e zeros ones made = rw e made
with-leaf new old fork other leaf true false same half e zeros ones made = rw e ones
with-leaf new old fork other leaf false true same half e zeros ones made = rw e zeros
with-leaf new old fork other leaf false false same half e zeros ones made = rw e made

-- and the map has the entry of that side, and else what it had
pub inserted-leaf : {old new : List Fork} {levels place made : ℕ} {fork put : Fork}
    → IsForkOf old levels place fork → IsForkOf new levels made put
    → (mid : List Fork) → KeepsForks old mid → KeepsForks mid new → (key other leaf : ℕ)
    → IsMapIn mid (levels - 1) other → put ≡ with_side fork key other
    → ((k : ℕ) → leaf_in mid (levels - 1) other k
    ≡ (if k == key / 2 then leaf else leaf_in old (levels - 1) (side fork key) k))
    → (k : ℕ) → leaf_in new levels made k ≡ (if k == key then leaf else leaf_in old levels place k)
inserted-leaf {old = old} {new = new} {levels = levels} {fork = fork}
    f g mid first second key other leaf map e side_leaf k =
    let below = levels - 1 in
    let kept : KeepsForks old new = λ p f h. second p f (first p f h) in
    rw (leaf-of-fork g k, leaf-of-fork f k, e)
    (with-leaf (λ p. leaf_in new below p (k / 2)) (λ p. leaf_in old below p (k / 2)) fork other leaf
    (key % 2 == 0) (k % 2 == 0) (k == key) (k / 2 == key / 2)
    (same-key k key)
    (kept-leaf old new kept below fork.zero (k / 2) f.zeros)
    (kept-leaf old new kept below fork.one (k / 2) f.ones)
    (kept-leaf mid new second below other (k / 2) map ∙ side_leaf (k / 2)))

leaf_or-none : (n : ℕ) → leaf_or n 0 ≡ n
leaf_or-none zero = refl
leaf_or-none (suc n) = refl

-- over no map there is nothing else
pub overlay-none : (forks : List Fork) → slice_get forks 0 ≡ Some empty_fork → (levels inner k : ℕ)
    → leaf_in forks levels inner k ≡ leaf_or (leaf_in forks levels inner k) (leaf_in forks levels 0 k)
overlay-none forks empty levels inner k =
    rw (empty-leaf forks empty levels k) (sym (leaf_or-none (leaf_in forks levels inner k)))

-- and no map over a map is that map
pub none-overlay : (forks : List Fork) → slice_get forks 0 ≡ Some empty_fork → (levels outer k : ℕ)
    → leaf_in forks levels outer k ≡ leaf_or (leaf_in forks levels 0 k) (leaf_in forks levels outer k)
none-overlay forks empty levels outer k = rw (empty-leaf forks empty levels k) refl

-- below the lowest fork a value hides the other
pub overlay-values : (forks : List Fork) (inner outer k : ℕ) → inner ≢ 0
    → leaf_in forks 0 inner k ≡ leaf_or (leaf_in forks 0 inner k) (leaf_in forks 0 outer k)
overlay-values forks zero outer k some = absurd (some refl)
overlay-values forks (suc n) outer k some =
    elim (k == 0) as (λ b. (if b then suc n else 0) ≡ leaf_or (if b then suc n else 0) (if b then outer else 0))
    [ true ↦ refl | false ↦ refl ]

overlay-side : (new old : ℕ → ℕ) (made above under : Fork) (b : Bool)
    → new made.zero ≡ leaf_or (old above.zero) (old under.zero)
    → new made.one ≡ leaf_or (old above.one) (old under.one)
    → new (if b then made.zero else made.one)
    ≡ leaf_or (old (if b then above.zero else above.one)) (old (if b then under.zero else under.one))
overlay-side new old made above under true zeros ones = zeros
overlay-side new old made above under false zeros ones = ones

-- a fork of two sides makes a map
pub overlay-fork : {levels z o made : ℕ} → levels ≢ 0 → (mid last new : List Fork) → KeepsForks mid last
    → KeepsForks last new
    → IsMapIn mid (levels - 1) z → IsMapIn last (levels - 1) o
    → slice_get new made ≡ Some (record { zero = z; one = o })
    → IsForkOf new levels made (record { zero = z; one = o })
overlay-fork {levels = levels} {z = z} {o = o} above mid last new first second zeros ones there = record {
  above = above;
  there = there;
  zeros = kept-map mid new (λ p f h. second p f (first p f h)) (levels - 1) z zeros;
  ones = kept-map last new second (levels - 1) o ones;
}

-- a fork over a fork has its sides over the other's sides
pub overlay-leaf : {old new : List Fork} {levels inner outer made : ℕ} {above under fork : Fork}
    → IsForkOf old levels inner above → IsForkOf old levels outer under → IsForkOf new levels made fork
    → (mid last : List Fork) → KeepsForks old mid → KeepsForks mid last → KeepsForks last new
    → IsMapIn mid (levels - 1) fork.zero → IsMapIn last (levels - 1) fork.one
    → ((k : ℕ) → leaf_in mid (levels - 1) fork.zero k
    ≡ leaf_or (leaf_in old (levels - 1) above.zero k) (leaf_in old (levels - 1) under.zero k))
    → ((k : ℕ) → leaf_in last (levels - 1) fork.one k
    ≡ leaf_or (leaf_in mid (levels - 1) above.one k) (leaf_in mid (levels - 1) under.one k))
    → (k : ℕ) → leaf_in new levels made k ≡ leaf_or (leaf_in old levels inner k) (leaf_in old levels outer k)
overlay-leaf {old = old} {new = new} {levels = levels} {inner = inner} {above = above} {under = under} {fork = fork}
    f g made mid last first second third zero_map one_map zeros ones k =
    let below = levels - 1 in
    let half = k / 2 in
    let kept : KeepsForks mid new = λ p f h. third p f (second p f h) in
    rw (leaf-of-fork made k, leaf-of-fork f k, leaf-of-fork g k)
    (overlay-side (λ p. leaf_in new below p half) (λ p. leaf_in old below p half) fork above under (k % 2 == 0)
    (kept-leaf mid new kept below fork.zero half zero_map ∙ zeros half)
    (kept-leaf last new third below fork.one half one_map ∙ ones half
    ∙ rw (kept-leaf old mid first below above.one half f.ones, kept-leaf old mid first below under.one half g.ones)
    refl))
