-- A part that is laid waits in the place of those that it refers to.
use Rattle.std.proofs.Common.{◌≡◌, ℕ, zero, suc, ◌-◌, ◌≤◌, ◌++◌, true, List, [], ◌∷◌, length, map}
use Rattle.std.proofs.Common.{slice_get, slice_index, Some, refl, ap, sym, ◌∙◌, arith, append_assoc, append-nil}
use Rattle.std.proofs.Common.{length-append}
use Rattle.std.proofs.lemmas.List.Sorted.{IsPermutation-append_comm, IsPermutation-append_left}
use Rattle.fb_layout.specs.Laid.{LaidSchema}
use Rattle.fb_layout.specs.Widths.{greatest}
use Rattle.fb_value.specs.Num.{Bytes, divides}
use Rattle.fb_value.specs.Places.{part_place}
use Rattle.fb_tape.specs.NamedParts.{NamedPart}
use Rattle.fb_build.specs.CoveredTails.{part_further, parts_in_tail}
use Rattle.fb_build.specs.Made.{Adds, IsMade, ends_parts, parts_at}
use Rattle.fb_build.specs.NumberedVtables.{AreLaidInTurn}
use Rattle.fb_build.specs.Pieces.{PartAt}
use Rattle.fb_build.specs.Tails.{TailSeen, Grows, LaidInTail}
use Rattle.fb_build.specs.Waiting.{AreWaiting, all_of}
use Rattle.fb_build.proofs.covered.PartsInFrontAreAdded.{made_permuted}
use Rattle.fb_build.proofs.tables.EndsNameTheParts.{AreThere, ends_moved}
use Rattle.fb_build.proofs.tail.WhatIsLaidStaysLaid.{laid_grown}

all_there : (ps : List NamedPart) (k : ℕ) (x : NamedPart) → slice_get (all_of ps) k ≡ Some (Some x)
    → slice_get ps k ≡ Some x
all_there [] k x is = cc
all_there (p ∷ ps) zero x is = let same : p ≡ x = cc in ap (λ z. Some z) same
all_there (p ∷ ps) (suc k) x is = all_there ps k x is

pub parts_split : (L : LaidSchema) (s : Bytes) (ps qs : List NamedPart) (ends others : List ℕ)
    → length ends ≡ length ps
    → ends_parts L s (all_of (ps ++ qs)) (ends ++ others)
    ≡ ends_parts L s (all_of ps) ends ++ ends_parts L s (all_of qs) others
parts_split L s [] qs [] others long = refl
parts_split L s [] qs (e ∷ ends) others long = absurd (omega (arith, long))
parts_split L s (p ∷ ps) qs [] others long = absurd (omega (arith, long))
parts_split L s (p ∷ ps) qs (e ∷ ends) others long =
    ap (λ zs. parts_at L s (Some p) e ++ zs) (parts_split L s ps qs ends others (omega (arith, long)))
    ∙ sym (append_assoc (parts_at L s (Some p) e) (ends_parts L s (all_of ps) ends) (ends_parts L s (all_of qs) others))

-- what holds of each part that waited, and of the new one
each_waits : (P : NamedPart → ℕ → Type 0) (others taken : List NamedPart) (part : NamedPart) (ends_o ends_t : List ℕ)
    (e : ℕ) → length ends_o ≡ length others
    → ((k : ℕ) (x : NamedPart) → slice_get (others ++ taken) k ≡ Some x → P x (slice_index (ends_o ++ ends_t) k))
    → P part e → (k : ℕ) (x : NamedPart) → slice_get (others ++ (part ∷ [])) k ≡ Some x
    → P x (slice_index (ends_o ++ (e ∷ [])) k)
each_waits P [] taken part [] ends_t e long h now zero x is = let same : part ≡ x = cc in rw (← same) now
each_waits P [] taken part [] ends_t e long h now (suc k) x is = cc
each_waits P [] taken part (q ∷ ends_o) ends_t e long h now k x is = absurd (omega (arith, long))
each_waits P (o ∷ others) taken part [] ends_t e long h now k x is = absurd (omega (arith, long))
each_waits P (o ∷ others) taken part (q ∷ ends_o) ends_t e long h now zero x is = h zero x is
each_waits P (o ∷ others) taken part (q ∷ ends_o) ends_t e long h now (suc k) x is =
    each_waits P others taken part ends_o ends_t e (omega (arith, long)) (λ j y at. h (suc j) y at) now k x is

-- What is made stays so where the parts in front come behind the next ones.
made_first : (L : LaidSchema) (o : TailSeen) (places : List ℕ) (ys xs zs : List PartAt)
    → IsMade L o places (ys ++ (xs ++ zs)) → IsMade L o places ((xs ++ ys) ++ zs)
made_first L o places ys xs zs made =
    let joined : ys ++ (xs ++ zs) ≡ (ys ++ xs) ++ zs = sym (append_assoc ys xs zs) in
    made_permuted L o places ((ys ++ xs) ++ zs) ((xs ++ ys) ++ zs)
    (IsPermutation-append_left zs (ys ++ xs) (xs ++ ys) (IsPermutation-append_comm ys xs))
    (rw (← joined) made)

-- what is asked of what is laid
pub record IsLaidNow (L : LaidSchema) (vtables : List Bytes) (taken : List NamedPart) (part : NamedPart)
    (ends_t before after : List ℕ) (e : ℕ) (a b : TailSeen) : Type 0 where
  pub grows : Grows a b
  pub shared : AreLaidInTurn vtables after b.bytes
  pub four : divides 4 b.most ≡ true
  pub bound : b.most ≤ greatest L
  pub lies : LaidInTail L b.most b.bytes (part_place part.target) e part.value
  pub own : List PartAt
  pub adds : Adds L a before b after own
  pub whole : parts_in_tail L b.bytes part.target e part.value ≡ own ++ ends_parts L b.bytes (all_of taken) ends_t

module _ (L : LaidSchema) (vtables : List Bytes) (others taken : List NamedPart) (part : NamedPart)
    (ends_o ends_t before after : List ℕ) (e : ℕ) (a b : TailSeen) (long : length ends_o ≡ length others)
    (h : AreWaiting L vtables (others ++ taken) (ends_o ++ ends_t) before a)
    (now : IsLaidNow L vtables taken part ends_t before after e a b) where
  abbrev first : List PartAt
  first = ends_parts L b.bytes (all_of others) ends_o

  abbrev rest : List PartAt
  rest = ends_parts L b.bytes (all_of taken) ends_t

  there : AreThere L a.most a.bytes (all_of (others ++ taken)) (ends_o ++ ends_t)
  there k x is = (h.lie k x (all_there (others ++ taken) k x is)).lies

  moved : map (part_further (length b.bytes - length a.bytes))
      (ends_parts L a.bytes (all_of (others ++ taken)) (ends_o ++ ends_t)) ≡ first ++ rest
  moved = sym (ends_moved L a b (all_of (others ++ taken)) (ends_o ++ ends_t) now.grows there)
      ∙ parts_split L b.bytes others taken ends_o ends_t long

  laid : IsMade L b after (now.own ++ (first ++ rest))
  laid = rw (← moved) (now.adds (ends_parts L a.bytes (all_of (others ++ taken)) (ends_o ++ ends_t)) h.made)

  turned : IsMade L b after (first ++ (now.own ++ rest))
  turned = rw (← (append_assoc first now.own rest)) (made_first L b after now.own first rest laid)

  joined : first ++ (now.own ++ rest) ≡ ends_parts L b.bytes (all_of (others ++ (part ∷ []))) (ends_o ++ (e ∷ []))
  joined = ap (λ ps. first ++ ps) (sym now.whole ∙ sym (append-nil (parts_in_tail L b.bytes part.target e part.value)))
      ∙ sym (parts_split L b.bytes others (part ∷ []) ends_o (e ∷ []) long)

  pub one_more_waits : AreWaiting L vtables (others ++ (part ∷ [])) (ends_o ++ (e ∷ [])) after b
  one_more_waits = record {
    each = omega (arith, long, length-append others (part ∷ []), length-append ends_o (e ∷ []));
    lie = each_waits (λ x i. LaidInTail L b.most b.bytes (part_place x.target) i x.value) others taken part ends_o
        ends_t
        e long (λ k x is. laid_grown L a b (part_place x.target) (slice_index (ends_o ++ ends_t) k) x.value now.grows
        (h.lie k x is)) now.lies;
    made = rw (← joined) turned;
    shared = now.shared;
    four = now.four;
    bound = now.bound;
  }
