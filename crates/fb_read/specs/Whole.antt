-- Whether what lies in a buffer has only codes of unions that its schema knows.
-- From the FlatBuffers documentation, "Evolution": a reader may know fewer members of a union than a writer.
use Rattle.std.specs.Prelude.{ℕ, ◌≡◌, ◌<◌, List, slice_get, true, Option, None, Some}
use Rattle.fb_value.specs.Datum.{Datum}
use Rattle.fb_value.specs.Counts.{is_whole}
use Rattle.fb_value.specs.Lies.{EntryAt, Lies}
use Rattle.fb_value.specs.Places.{Place}
use Rattle.fb_read.specs.declared.buffer.Buffer.{Buffer}

-- what is at a place, if anything is
abbrev pub WholeAt : Buffer → Place → Type 0
WholeAt buffer x = (d : Datum)
    → EntryAt buffer.layout.now buffer.bytes.now x.sort x.at d (λ s q. Lies buffer.layout.now buffer.bytes.now s q d)
    → is_whole d ≡ true

-- what a slot has: one that names no place has a default or nothing
abbrev pub WholeEntry : Buffer → Option Place → Type 0
WholeEntry buffer None = Unit {0}
WholeEntry buffer (Some x) = WholeAt buffer x

-- what is at the first k of some places
abbrev pub WholeFront : Buffer → List (Option Place) → ℕ → Type 0
WholeFront buffer xs k = (j : ℕ) → j < k → (x : Place) → slice_get xs j ≡ Some (Some x) → WholeAt buffer x

-- what is at each of them
abbrev pub WholeEach : Buffer → List (Option Place) → Type 0
WholeEach buffer xs = (j : ℕ) (x : Place) → slice_get xs j ≡ Some (Some x) → WholeAt buffer x
