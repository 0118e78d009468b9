-- What the fields take that pass a test: before a slot, those of greater alignments and those of its own before it.
use Rattle.std.proofs.Common.{◌≡◌, ℕ, zero, suc, ◌+◌, ◌≤◌, ◌==◌, ◌&&◌, Bool, true, false, if◌then◌else◌, nat_lt}
use Rattle.std.proofs.Common.{nat_le, List, [], ◌∷◌, take, slice_get, Option, Some, refl, ap, arith}
use Rattle.std.proofs.lemmas.Bool.{lt-ltb}
use Rattle.std.proofs.lemmas.Bool.Decides.{nat_tests}
use Rattle.fb_layout.specs.Laid.{LaidSchema, Slot}
use Rattle.fb_layout.specs.Widths.{inline_size, inline_align}
use Rattle.fb_value.specs.Datum.{Datum}
use Rattle.fb_build.specs.Fields.{is_stored, size_if_at, size_at, size_above, fields_size}
use Rattle.fb_build.specs.FieldOrder.{before, SameOfStored}

-- what the slots from k on take that are stored and pass a test
abbrev pub size_from : LaidSchema → (ℕ → Slot → Bool) → ℕ → List Slot → List (Option Datum) → ℕ
size_from L laid k (f ∷ fs) (x ∷ xs) =
    (if is_stored f x && laid k f then inline_size L f.shape else 0) + size_from L laid (suc k) fs xs
size_from L laid k _ _ = 0

one_same : (s p q : Bool) (z : ℕ) → (s ≡ true → p ≡ q) → (if s && p then z else 0) ≡ (if s && q then z else 0)
one_same true p q z h = ap (λ (b : Bool). if b then z else 0) (h refl)
one_same false p q z h = refl

-- tests that say the same
same_from : (L : LaidSchema) (t u : ℕ → Slot → Bool) (k : ℕ) (fs : List Slot) (xs : List (Option Datum))
    → ((i : ℕ) (f : Slot) (x : Option Datum) → slice_get fs i ≡ Some f → slice_get xs i ≡ Some x
    → is_stored f x ≡ true → t (k + i) f ≡ u (k + i) f) → size_from L t k fs xs ≡ size_from L u k fs xs
same_from L t u k [] xs same = refl
same_from L t u k (f ∷ fs) [] same = refl
same_from L t u k (f ∷ fs) (x ∷ xs) same =
    let here : k + 0 ≡ k = omega arith in
    let own = one_same (is_stored f x) (t k f) (u k f) (inline_size L f.shape)
    (λ is. rw (← here) (same 0 f x refl refl is)) in
    let rest = same_from L t u (suc k) fs xs
    (λ i g y gi yi is. let e : k + suc i ≡ suc k + i = omega arith in
    rw (← e) (same (suc i) g y gi yi is)) in
    omega (arith, own, rest)

pub size_retested : (L : LaidSchema) (t u : ℕ → Slot → Bool) (fs : List Slot) (xs : List (Option Datum))
    → SameOfStored t u fs xs → size_from L t 0 fs xs ≡ size_from L u 0 fs xs
size_retested L t u fs xs same = same_from L t u 0 fs xs
    (λ i f x fi xi is. let e : i ≡ 0 + i = omega arith in rw (← e) (same i f x fi xi is))

one_all : (s : Bool) (z : ℕ) → (if s && true then z else 0) ≡ (if s then z else 0)
one_all true z = refl
one_all false z = refl

pub size_all : (L : LaidSchema) (k : ℕ) (fs : List Slot) (xs : List (Option Datum))
    → size_from L (λ k f. true) k fs xs ≡ fields_size L fs xs
size_all L k [] xs = refl
size_all L k (f ∷ fs) [] = refl
size_all L k (f ∷ fs) (x ∷ xs) =
    omega (arith, one_all (is_stored f x) (inline_size L f.shape), size_all L (suc k) fs xs)

one_none : (s : Bool) (z : ℕ) → (if s && false then z else 0) ≡ 0
one_none true z = refl
one_none false z = refl

pub size_none : (L : LaidSchema) (k : ℕ) (fs : List Slot) (xs : List (Option Datum))
    → size_from L (λ k f. false) k fs xs ≡ 0
size_none L k [] xs = refl
size_none L k (f ∷ fs) [] = refl
size_none L k (f ∷ fs) (x ∷ xs) =
    omega (arith, one_none (is_stored f x) (inline_size L f.shape), size_none L (suc k) fs xs)

one_part : (s p : Bool) (z : ℕ) → (if s && p then z else 0) ≤ (if s then z else 0)
one_part true true z = omega arith
one_part true false z = omega arith
one_part false p z = omega arith

pub size_part : (L : LaidSchema) (t : ℕ → Slot → Bool) (k : ℕ) (fs : List Slot) (xs : List (Option Datum))
    → size_from L t k fs xs ≤ fields_size L fs xs
size_part L t k [] xs = omega arith
size_part L t k (f ∷ fs) [] = omega arith
size_part L t k (f ∷ fs) (x ∷ xs) =
    omega (arith, one_part (is_stored f x) (t k f) (inline_size L f.shape), size_part L t (suc k) fs xs)

-- ---- before a slot

not_less : (m k : ℕ) → m ≤ k → nat_lt k m ≡ false
not_less m k low = grind (arith, nat_tests)

size_past : (L : LaidSchema) (a m k : ℕ) (fs : List Slot) (xs : List (Option Datum)) → m ≤ k
    → size_from L (before L a m) k fs xs ≡ size_above L a fs xs
size_past L a m k [] xs low = refl
size_past L a m k (f ∷ fs) [] low = refl
size_past L a m k (f ∷ fs) (x ∷ xs) low =
    let own : (if is_stored f x && before L a m k f then inline_size L f.shape else 0)
    ≡ (if is_stored f x && nat_lt a (inline_align L f.shape) then inline_size L f.shape else 0) =
    rw (not_less m k low) refl in
    omega (arith, own, size_past L a m (suc k) fs xs (omega (arith, low)))

-- at an alignment, and above it
two_tests : (a n z : ℕ) → (if nat_le a n then z else 0) ≡ (if nat_lt a n then z else 0) + (if (n == a) then z else 0)
two_tests a n z = by_test (nat_lt a n) refl (n == a) refl (nat_le a n) refl
  where
    by_test : (l : Bool) → nat_lt a n ≡ l → (e : Bool) → (n == a) ≡ e → (u : Bool) → nat_le a n ≡ u
        → (if u then z else 0) ≡ (if l then z else 0) + (if e then z else 0)
    by_test true p true q u r = absurd (grind (arith, nat_tests))
    by_test true p false q true r = omega arith
    by_test true p false q false r = absurd (grind (arith, nat_tests))
    by_test false p true q true r = omega arith
    by_test false p true q false r = absurd (grind (arith, nat_tests))
    by_test false p false q true r = absurd (grind (arith, nat_tests))
    by_test false p false q false r = refl

one_from : (s : Bool) (a n z : ℕ) → (if s && nat_le a n then z else 0)
    ≡ (if s && nat_lt a n then z else 0) + (if s && (n == a) then z else 0)
one_from true a n z = two_tests a n z
one_from false a n z = refl

size_up_to : (L : LaidSchema) (a k n : ℕ) (fs : List Slot) (xs : List (Option Datum))
    → size_from L (before L a (k + n)) k fs xs ≡ size_above L a fs xs + size_at L a (take n fs) (take n xs)
size_up_to L a k zero fs xs = omega (arith, size_past L a (k + 0) k fs xs (omega arith))
size_up_to L a k (suc n) [] xs = omega arith
size_up_to L a k (suc n) (f ∷ fs) [] = omega arith
size_up_to L a k (suc n) (f ∷ fs) (x ∷ xs) =
    let yes : nat_lt k (k + suc n) ≡ true = lt-ltb k (k + suc n) (omega arith) in
    let own : (if is_stored f x && before L a (k + suc n) k f then inline_size L f.shape else 0)
    ≡ (if is_stored f x && nat_lt a (inline_align L f.shape) then inline_size L f.shape else 0)
    + size_if_at L a f x =
    rw yes (one_from (is_stored f x) a (inline_align L f.shape) (inline_size L f.shape)) in
    let e : suc k + n ≡ k + suc n = omega arith in
    let rest : size_from L (before L a (k + suc n)) (suc k) fs xs
    ≡ size_above L a fs xs + size_at L a (take n fs) (take n xs) =
    rw (← e) (size_up_to L a (suc k) n fs xs) in
    omega (arith, own, rest)

pub size_before : (L : LaidSchema) (a k : ℕ) (fs : List Slot) (xs : List (Option Datum))
    → size_from L (before L a k) 0 fs xs ≡ size_above L a fs xs + size_at L a (take k fs) (take k xs)
size_before L a k fs xs =
    let e : 0 + k ≡ k = omega arith in
    rw e at (size_up_to L a 0 k fs xs)
