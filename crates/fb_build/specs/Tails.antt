-- Bytes that are laid from their end, as contracts see them.
use Rattle.std.specs.Prelude.{ℕ, ◌+◌, ◌≡◌, ◌++◌, length, true}
use Rattle.fb_layout.specs.Laid.{LaidSchema}
use Rattle.fb_value.specs.Datum.{Datum}
use Rattle.fb_value.specs.Num.{Bytes, divides}
use Rattle.fb_value.specs.Places.{Sort}
use Rattle.fb_value.specs.Tails.{LiesInTail, OldInTail}
use Rattle.fb_build.specs.CoveredTails.{TightInTail, InlineInTail}

-- the zeros that are left in front, what is laid, and the greatest multiple that was padded to
pub record TailSeen : Type 0 where
  pub free : ℕ
  pub bytes : Bytes
  pub most : ℕ

-- From a to b only bytes were laid in front.
pub record Grows (a b : TailSeen) : Type 0 where
  pub front : Bytes
  pub grown : b.bytes ≡ front ++ a.bytes
  pub spent : b.free + length front ≡ a.free
  pub multiple : divides a.most b.most ≡ true

-- A value lies e bytes before the end, its tables have nothing in slots that aren't in use, and they, its structs and
-- its numbers have no slack.
pub record LaidInTail (L : LaidSchema) (m : ℕ) (s : Bytes) (sort : Sort) (e : ℕ) (d : Datum) : Type 0 where
  pub lies : LiesInTail L m s sort e d
  pub old : OldInTail L s sort e d
  pub tight : TightInTail L s sort e d
  pub inline : InlineInTail L s sort e d
