-- One field after the other is laid, each where the definition has it.
use Rattle.std.proofs.Common.{◌≡◌, ℕ, ◌+◌, ◌<◌, ◌≤◌, inl, inr, ◌&&◌, Bool, true, false, List, length, slice_get}
use Rattle.std.proofs.Common.{slice_index, slice_set, Option, Some, refl, ◌∙◌, arith, rules}
use Rattle.fb_layout.specs.Laid.{LaidSchema, Slot}
use Rattle.fb_layout.specs.Sizes.{IsAlignment}
use Rattle.fb_layout.specs.Widths.{inline_size, inline_align}
use Rattle.fb_value.specs.Datum.{Datum}
use Rattle.fb_value.specs.Num.{Bytes, divides}
use Rattle.fb_value.proofs.tails.TailsAreKeptInFront.{through}
use Rattle.fb_build.specs.Tails.{TailSeen, Grows}
use Rattle.fb_build.specs.Fields.{AreKnown, EntriesEnd, StoredEnd, is_stored, fields_size, stored_align}
use Rattle.fb_build.specs.FieldOrder.{LinksNext, before, SameOfStored}
use Rattle.fb_build.specs.FieldsLaid.{AreSlotsLaid}
use Rattle.fb_build.specs.Made.{FieldLeads, FieldsLead}
use Rattle.fb_build.proofs.tail.WhatIsLaidStaysLaid.{power_divides, grown_long}
use Rattle.fb_build.proofs.fields.AlignmentDividesTheSize.{simple_aligned}
use Rattle.fb_build.proofs.fields.FieldHasItsValue.{entries_grown, entries_before, entries_retested, now_laid}
use Rattle.fb_build.proofs.fields.FieldsFillTheTable.{all_still, none_filled, filled_laid}
use Rattle.fb_build.proofs.fields.FieldEndsBehindThoseBefore.{EachEnd, Counted, end_put, end_retested}
use Rattle.fb_build.proofs.fields.FieldLeadsToItsTarget.{field_kept, field_or_out}
use Rattle.fb_build.proofs.fields.SlotStoresItsEntry.{passed_laid, whole_step}
use Rattle.fb_build.proofs.order.LaidFieldsTakeTheirSizes.{size_retested, size_all, size_none}
use Rattle.fb_build.proofs.order.NextFieldIsNamed.{IsNamed, waits, still_waits, end_of_next, size_of_next}
use Rattle.fb_build.proofs.order.NextFieldIsNamed.{lower_behind, align_least}
use Rattle.fb_build.proofs.order.LaidFieldsTakeTheirSizes.{size_from}
use Rattle.std.proofs.Math.Bool.{and-false}
use Rattle.std.proofs.Math.Bool.{and-true}
use Rattle.std.proofs.lemmas.Bool.{both_ways}

-- Where references lead once what passes a test is laid.
abbrev pub LeadSoFar : Bytes → (ℕ → Slot → Bool) → List Slot → List (Option Datum) → List ℕ → List ℕ → Type 0
LeadSoFar s laid fs xs targets ends = (k : ℕ) (f : Slot) (x : Option Datum) → slice_get fs k ≡ Some f
    → slice_get xs k ≡ Some x
    → FieldLeads s (is_stored f x && laid k f) f x (slice_index targets k) (slice_index ends k)

-- The fields before the slot that a link names are laid, and each other one may be laid here by its alignment.
pub record AreLaidUpTo (L : LaidSchema) (tail : TailSeen) (fs : List Slot) (xs : List (Option Datum)) (start : ℕ)
    (targets ends : List ℕ) (link : ℕ) : Type 0 where
  pub laid : ℕ → Slot → Bool
  pub next : LinksNext L laid fs xs link
  pub slots : AreSlotsLaid L tail laid fs xs start ends
  pub leads : LeadSoFar tail.bytes laid fs xs targets ends
  pub size : length tail.bytes ≡ start + size_from L laid 0 fs xs
  pub whole : (k : ℕ) (f : Slot) (x : Option Datum) → slice_get fs k ≡ Some f → slice_get xs k ≡ Some x
      → is_stored f x ≡ true → laid k f ≡ false → divides (inline_align L f.shape) (length tail.bytes) ≡ true

-- before the first field
pub none_laid_before : (L : LaidSchema) (o n : TailSeen) (start align : ℕ) (fs : List Slot) (xs : List (Option Datum))
    (ends : List ℕ) (first : ℕ) → AreKnown L fs xs → LinksNext L (λ k f. false) fs xs first → Grows o n
    → length ends ≡ length fs → start ≡ length n.bytes → IsAlignment align → stored_align L fs xs ≤ align
    → divides align (length n.bytes) ≡ true
    → EntriesEnd L 0 o.most o.bytes (λ k f. false) fs xs ends → AreLaidUpTo L n fs xs start ends ends first
none_laid_before L o n start align fs xs ends first known next g each begin power low whole h = record {
  laid = λ k f. false;
  next = next;
  slots = record {
    each = each;
    state = entries_grown L start o n (λ k f. false) fs xs ends g
        (entries_before L 0 start o.most o.bytes fs xs ends h);
    filled = none_filled L start (length n.bytes) (λ k f. false) fs xs ends (omega (arith, begin))
        (λ k f x fk xk is. refl);
    counted = λ k f x fk xk yes. absurd (both_ways (is_stored f x && false) (and-false (is_stored f x)) yes);
  };
  leads = λ k f x fk xk. rw (and-false (is_stored f x)) refl;
  size = omega (arith, begin, size_none L 0 fs xs);
  whole = λ k f x fk xk is out.
      let own = align_least L k fs xs f x fk xk is in
      through (inline_align L f.shape) align (length n.bytes)
      (power_divides (inline_align L f.shape) align (simple_aligned L f.shape (known.each k f x fk xk).0) power
      (omega (arith, own, low))) whole;
}

-- ---- the next one

-- what its reference names lies before
pub next_target : (L : LaidSchema) (o : TailSeen) (start k link : ℕ) (fs : List Slot) (xs : List (Option Datum))
    (targets ends : List ℕ) (f : Slot) (x : Option Datum) → (h : AreLaidUpTo L o fs xs start targets ends link)
    → slice_get fs k ≡ Some f → slice_get xs k ≡ Some x → IsNamed L h.laid fs xs k f x
    → StoredEnd L 0 o.most o.bytes false f x (slice_index ends k)
next_target L o start k link fs xs targets ends f x h fk xk n =
    let state = entries_retested L start o.most o.bytes h.laid (before L (inline_align L f.shape) k) fs xs ends n.behind
    h.slots.state in
    any_low x ((state k f x fk xk).stored n.stored)
  where
    any_low : (y : Option Datum) → StoredEnd L start o.most o.bytes (before L (inline_align L f.shape) k k f) f y
        (slice_index ends k) → StoredEnd L 0 o.most o.bytes false f y (slice_index ends k)
    any_low y own = low_any y (rw (← (waits L k f)) own)
      where
        low_any : (y : Option Datum) → StoredEnd L start o.most o.bytes false f y (slice_index ends k)
            → StoredEnd L 0 o.most o.bytes false f y (slice_index ends k)
        low_any (Rattle.std.proofs.Common.None) h = absurd h
        low_any (Some d) h = h

-- it may be laid here
pub next_whole : (L : LaidSchema) (o : TailSeen) (start k link : ℕ) (fs : List Slot) (xs : List (Option Datum))
    (targets ends : List ℕ) (f : Slot) (x : Option Datum) → (h : AreLaidUpTo L o fs xs start targets ends link)
    → slice_get fs k ≡ Some f → slice_get xs k ≡ Some x → IsNamed L h.laid fs xs k f x
    → divides (inline_align L f.shape) (length o.bytes) ≡ true
next_whole L o start k link fs xs targets ends f x h fk xk n =
    h.whole k f x fk xk n.stored (still_waits L h.laid fs xs k f x fk xk n)

-- where references lead, once it is laid
leads_on : (L : LaidSchema) (o n : TailSeen) (k e : ℕ) (fs : List Slot) (xs : List (Option Datum))
    (targets ends : List ℕ) (laid : ℕ → Slot → Bool) (f : Slot) (x : Option Datum) → Grows o n → k < length ends
    → slice_get fs k ≡ Some f → slice_get xs k ≡ Some x → IsNamed L laid fs xs k f x
    → FieldLeads n.bytes true f x (slice_index ends k) e → LeadSoFar o.bytes laid fs xs targets ends
    → LeadSoFar n.bytes (before L (inline_align L f.shape) (k + 1)) fs xs targets (slice_set ends k e)
leads_on L o n k e fs xs targets ends laid f x g under fk xk named now h =
    end_put (Leads n.bytes) L a k e fs xs ends f x under fk xk named.stored refl here
    (λ j p y fj yj. field_kept o n (is_stored p y && before L a k j p) p y (slice_index targets j)
    (slice_index ends j) g (retested j p y fj yj))
  where
    a : ℕ
    a = inline_align L f.shape

    Leads : Bytes → ℕ → Slot → Option Datum → Bool → ℕ → Type 0
    Leads s j p y t i = FieldLeads s t p y (slice_index targets j) i

    retested : EachEnd (Leads o.bytes) (before L a k) fs xs ends
    retested = end_retested (Leads o.bytes) laid (before L a k) fs xs ends named.behind h

    waits_still : (is_stored f x && laid k f) ≡ false
    waits_still = rw (still_waits L laid fs xs k f x fk xk named) (and-false (is_stored f x))

    target : slice_index ends k ≡ slice_index targets k
    target = rw waits_still at (h k f x fk xk)

    here : FieldLeads n.bytes true f x (slice_index targets k) e
    here = rw (← target) now

-- the state, once it is laid
pub next_laid_before : (L : LaidSchema) (o n : TailSeen) (start k e link : ℕ) (fs : List Slot)
    (xs : List (Option Datum)) (targets ends : List ℕ) (behind : ℕ) (f : Slot) (x : Option Datum) → AreKnown L fs xs
    → LinksNext L (before L (inline_align L f.shape) (k + 1)) fs xs behind
    → (h : AreLaidUpTo L o fs xs start targets ends link)
    → slice_get fs k ≡ Some f → slice_get xs k ≡ Some x → IsNamed L h.laid fs xs k f x → Grows o n
    → n.free + inline_size L f.shape ≡ o.free → e ≡ length n.bytes → StoredEnd L start n.most n.bytes true f x e
    → FieldLeads n.bytes true f x (slice_index ends k) e → k < length ends
    → AreLaidUpTo L n fs xs start targets (slice_set ends k e) behind
next_laid_before L o n start k e link fs xs targets ends behind f x known next h fk xk named g free end lies lead
    under =
    record {
      laid = before L a (k + 1);
      next = next;
      slots = record {
        each = search (rules, h.slots.each);
        state = passed_laid L start o n a k e fs xs ends f x g under fk xk
            (now_laid L start n.most n.bytes a f x e refl named.stored lies)
            (entries_retested L start o.most o.bytes h.laid (before L a k) fs xs ends named.behind h.slots.state);
        filled = filled_laid L start (length o.bytes) (length n.bytes) a k e fs xs ends f x under fk xk named.stored
            refl (omega (arith, h.size)) long end
            (all_still L start (length o.bytes) h.laid (before L a k) fs xs ends ends
            (λ j p y pj yj is. (named.behind j p y pj yj is, refl)) h.slots.filled);
        counted = end_put (Counted L start fs xs) L a k e fs xs ends f x under fk xk named.stored refl
            (λ yes. omega (arith, end, long, h.size, end_of_next L h.laid fs xs k f x fk xk named))
            (end_retested (Counted L start fs xs) h.laid (before L a k) fs xs ends named.behind h.slots.counted);
      };
      leads = leads_on L o n k e fs xs targets ends h.laid f x g under fk xk named lead h.leads;
      size = omega (arith, long, h.size, size_of_next L h.laid fs xs k f x fk xk named);
      whole = λ j p y pj yj is out. through (inline_align L p.shape) a (length n.bytes)
          (power_divides (inline_align L p.shape) a (simple_aligned L p.shape (known.each j p y pj yj).0)
          (simple_aligned L f.shape (known.each k f x fk xk).0) (lower_behind L a (k + 1) j p out)) whole;
    }
  where
    a : ℕ
    a = inline_align L f.shape

    long : length n.bytes ≡ length o.bytes + inline_size L f.shape
    long = omega (arith, grown_long o n g, free)

    whole : divides (inline_align L f.shape) (length n.bytes) ≡ true
    whole = whole_step L (inline_align L f.shape) (length o.bytes) (length n.bytes) o.free n.free f
        (known.each k f x fk xk).0 refl (omega (arith, grown_long o n g)) free
        (next_whole L o start k link fs xs targets ends f x h fk xk named)

-- ---- behind the last field

pub all_laid : (L : LaidSchema) (o : TailSeen) (start link : ℕ) (fs : List Slot) (xs : List (Option Datum))
    (targets ends : List ℕ) → (h : AreLaidUpTo L o fs xs start targets ends link) → link ≡ 0
    → SameOfStored h.laid (λ k f. true) fs xs
all_laid L o start link fs xs targets ends h none = elim h.next [
  | inl all ↦ all.1
  | inr next ↦ absurd (omega (arith, none, next.is))
]

pub slots_laid : (L : LaidSchema) (o : TailSeen) (start link : ℕ) (fs : List Slot) (xs : List (Option Datum))
    (targets ends : List ℕ) → AreLaidUpTo L o fs xs start targets ends link → link ≡ 0
    → AreSlotsLaid L o (λ k f. true) fs xs start ends
slots_laid L o start link fs xs targets ends h none =
    let all = all_laid L o start link fs xs targets ends h none in
    record {
      each = h.slots.each;
      state = entries_retested L start o.most o.bytes h.laid (λ k f. true) fs xs ends all h.slots.state;
      filled = all_still L start (length o.bytes) h.laid (λ k f. true) fs xs ends ends
          (λ k f x fk xk is. (all k f x fk xk is, refl)) h.slots.filled;
      counted = end_retested (Counted L start fs xs) h.laid (λ k f. true) fs xs ends all h.slots.counted;
    }

pub size_laid : (L : LaidSchema) (o : TailSeen) (start link : ℕ) (fs : List Slot) (xs : List (Option Datum))
    (targets ends : List ℕ) → AreLaidUpTo L o fs xs start targets ends link → link ≡ 0
    → length o.bytes ≡ start + fields_size L fs xs
size_laid L o start link fs xs targets ends h none =
    omega (
      arith,
      h.size,
      size_retested L h.laid (λ k f. true) fs xs (all_laid L o start link fs xs targets ends h none),
      size_all L 0 fs xs,
    )

pub leads_laid : (L : LaidSchema) (o : TailSeen) (start link : ℕ) (fs : List Slot) (xs : List (Option Datum))
    (targets ends : List ℕ) → AreLaidUpTo L o fs xs start targets ends link → link ≡ 0
    → FieldsLead o.bytes (λ k f. true) fs xs targets ends
leads_laid L o start link fs xs targets ends h none k f x fk xk = by_stored (is_stored f x) refl
  where
    by_stored : (s : Bool) → is_stored f x ≡ s
        → FieldLeads o.bytes true f x (slice_index targets k) (slice_index ends k)
    by_stored false out = field_or_out o.bytes f x (slice_index targets k) (slice_index ends k)
        (λ is. both_ways (is_stored f x) out is)
    by_stored true is =
        let passes : (is_stored f x && h.laid k f) ≡ true =
        rw (all_laid L o start link fs xs targets ends h none k f x fk xk is) (and-true (is_stored f x) ∙ is) in
        rw (← passes) (h.leads k f x fk xk)
