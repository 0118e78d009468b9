-- Which places are reached from a place, and by which steps.
use Rattle.std.specs.Prelude.{ℕ, ◌≡◌, ◌<◌, ◌⊎◌, List, [], ◌∷◌, Some, slice_get}
use Rattle.fb_layout.specs.Laid.{LaidSchema}
use Rattle.fb_value.specs.Num.{Bytes}
use Rattle.fb_value.specs.Places.{Place, named}
use Rattle.fb_value.specs.Rules.{Keeps}

-- a path: the steps that were taken
abbrev pub Path : Type 0
Path = List ℕ

-- x names y by step k
abbrev pub Names : LaidSchema → Bytes → Place → ℕ → Place → Type 0
Names L b x k y = slice_get (named L b x.sort x.at) k ≡ Some (Some y)

-- The path leads from x to y: each place before y keeps its rules, and names the next.
abbrev pub Leads : LaidSchema → Bytes → Place → Path → Place → Type 0
Leads L b x [] y = x ≡ y
Leads L b x (k ∷ path) y = Keeps L b x.sort x.at × (next : Place) × Names L b x k next × Leads L b next path y

-- no rule fails at a place that is reached from x
abbrev pub AllKeep : LaidSchema → Bytes → Place → Type 0
AllKeep L b x = (path : Path) (y : Place) → Leads L b x path y → Keeps L b y.sort y.at

-- one path comes before another: as lists, a front first
abbrev pub ComesBefore : Path → Path → Type 0
ComesBefore [] [] = ⊥
ComesBefore [] (k ∷ ks) = Unit {0}
ComesBefore (j ∷ js) [] = ⊥
ComesBefore (j ∷ js) (k ∷ ks) = (j < k) ⊎ ((j ≡ k) × ComesBefore js ks)
