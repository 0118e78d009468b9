-- Laws of what lies in tails.
use Rattle.std.specs.Prelude.{ℕ, ◌-◌, ◌≡◌, ◌++◌, length, true}
use Rattle.fb_layout.specs.Laid.{LaidSchema}
use Rattle.fb_value.specs.Datum.{Datum}
use Rattle.fb_value.specs.Num.{Bytes, divides}
use Rattle.fb_value.specs.Places.{Sort}
use Rattle.fb_value.specs.Lies.{LiesAt}
use Rattle.fb_value.specs.Tails.{LiesInTail, OldInTail}

-- Bytes laid in front keep what lies in a tail.
abbrev pub KeptInFront : Type 0
KeptInFront = (L : LaidSchema) (m : ℕ) (front s : Bytes) (sort : Sort) (e : ℕ) (d : Datum) → LiesInTail L m s sort e d
    → LiesInTail L m (front ++ s) sort e d

-- So does a greater multiple.
abbrev pub KeptByMultiple : Type 0
KeptByMultiple = (L : LaidSchema) (m n : ℕ) (s : Bytes) (sort : Sort) (e : ℕ) (d : Datum) → divides m n ≡ true
    → LiesInTail L m s sort e d → LiesInTail L n s sort e d

-- Where the length is a multiple, what lies in the tail lies in the whole.
abbrev pub LiesInWhole : Type 0
LiesInWhole = (L : LaidSchema) (m : ℕ) (s : Bytes) (sort : Sort) (e : ℕ) (d : Datum) → divides m (length s) ≡ true
    → LiesInTail L m s sort e d → LiesAt L s sort (length s - e) d

-- Bytes laid in front keep that tables have only slots in use.
abbrev pub OldKeptInFront : Type 0
OldKeptInFront = (L : LaidSchema) (m : ℕ) (front s : Bytes) (sort : Sort) (e : ℕ) (d : Datum)
    → LiesInTail L m s sort e d → OldInTail L s sort e d → OldInTail L (front ++ s) sort e d
