-- What of a covered buffer is already so in its tail, while bytes are laid in front.
use Rattle.std.specs.Prelude.{ℕ, ◌+◌, ◌-◌, ◌^◌, ◌≡◌, ◌++◌, false, ◌&&◌, nat_lt, List, length, map}
use Rattle.fb_layout.specs.Laid.{LaidSchema}
use Rattle.fb_value.specs.Datum.{Datum}
use Rattle.fb_value.specs.Num.{Bytes, num}
use Rattle.fb_value.specs.Places.{Target, Sort, part_place}
use Rattle.fb_value.specs.EachTable.{EachTableAt}
use Rattle.fb_value.specs.Tails.{LiesInTail}
use Rattle.fb_build.specs.Stored.{IsTightTable}
use Rattle.fb_tape.specs.InlineBytes.{IsTightInline, EachInlineAt}
use Rattle.fb_build.specs.Pieces.{PartAt, reached, tables_vtables, Piece, part_piece}

-- A table has no slack, and its vtable is in the tail too.
pub record IsTightInTail (L : LaidSchema) (s : Bytes) (t p : ℕ) : Type 0 where
  pub tight : IsTightTable L s t p
  pub inside : (nat_lt (num s p 4) (2 ^ 31) && nat_lt p (num s p 4)) ≡ false

-- The tables of the value that lies e bytes before the end have no slack.
abbrev pub TightInTail : LaidSchema → Bytes → Sort → ℕ → Datum → Type 0
TightInTail L s sort e d = EachTableAt L s (λ t p. IsTightInTail L s t p) sort (length s - e) d

-- Bytes laid in front keep that tables have no slack.
abbrev pub TightKeptInFront : Type 0
TightKeptInFront = (L : LaidSchema) (m : ℕ) (front s : Bytes) (sort : Sort) (e : ℕ) (d : Datum)
    → LiesInTail L m s sort e d → TightInTail L s sort e d → TightInTail L (front ++ s) sort e d

-- so many bytes further on
abbrev pub part_further : ℕ → PartAt → PartAt
part_further k x = record { target = x.target; at = k + x.at }

abbrev pub piece_further : ℕ → Piece → Piece
piece_further k x = record { kind = x.kind; at = k + x.at; size = x.size }

-- the parts and the vtables in which the value lies that is e bytes before the end
abbrev pub parts_in_tail : LaidSchema → Bytes → Target → ℕ → Datum → List PartAt
parts_in_tail L s X e d = reached L s X (length s - e) d

-- What is reached in a tail is reached in the same places once bytes are laid in front: further on by so many, and as
-- great as before.
pub record PartsKeptInFront (L : LaidSchema) (front s : Bytes) (X : Target) (e : ℕ) (d : Datum) : Type 0 where
  pub parts : parts_in_tail L (front ++ s) X e d ≡ map (part_further (length front)) (parts_in_tail L s X e d)
  pub pieces : map (part_piece L (front ++ s)) (parts_in_tail L (front ++ s) X e d)
      ≡ map (piece_further (length front)) (map (part_piece L s) (parts_in_tail L s X e d))
  pub vtables : tables_vtables (front ++ s) (parts_in_tail L (front ++ s) X e d)
      ≡ map (λ q. length front + q) (tables_vtables s (parts_in_tail L s X e d))

abbrev pub ReachedKeptInFront : Type 0
ReachedKeptInFront = (L : LaidSchema) (m : ℕ) (front s : Bytes) (X : Target) (e : ℕ) (d : Datum)
    → LiesInTail L m s (part_place X) e d → PartsKeptInFront L front s X e d

-- The numbers and structs of the value that lies e bytes before the end have no slack.
abbrev pub InlineInTail : LaidSchema → Bytes → Sort → ℕ → Datum → Type 0
InlineInTail L s sort e d = EachInlineAt L s (IsTightInline L s) sort (length s - e) d

-- Bytes laid in front keep that numbers and structs have no slack.
abbrev pub InlineKeptInFront : Type 0
InlineKeptInFront = (L : LaidSchema) (m : ℕ) (front s : Bytes) (sort : Sort) (e : ℕ) (d : Datum)
    → LiesInTail L m s sort e d → InlineInTail L s sort e d → InlineInTail L (front ++ s) sort e d
