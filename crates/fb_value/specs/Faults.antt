-- The fault at the end of a path, what is spent on the way, and the least fault.
-- From the FlatBuffers documentation, "Verification": depth of tables and size of the whole are limited. Cells are
-- counted by paths, so that a shared part counts as often as it is reached.
use Rattle.std.specs.Prelude.{ℕ, zero, suc, ◌+◌, ◌-◌, ◌≡◌, List, [], ◌∷◌, length, take, nat_le, Option, None, Some}
use Rattle.fb_layout.specs.Laid.{LaidSchema}
use Rattle.fb_value.specs.declared.faults.ReadFault.{ReadFault}
use Rattle.fb_value.specs.declared.faults.ReadFault.TheVariants.{TooDeep, TooManyCells}
use Rattle.fb_value.specs.Bounds.{Bounds}
use Rattle.fb_value.specs.Num.{Bytes, num}
use Rattle.fb_value.specs.Places.{table_part, member_part, text_part, vector_part, Sort, part_place, Place, named}
use Rattle.fb_value.specs.Rules.{Keeps, Rule, first_failing, fault_at}
use Rattle.fb_value.specs.Reached.{Path, Names, ComesBefore}

-- the cells of a place itself
abbrev pub own_cells : Bytes → Sort → ℕ → ℕ
own_cells b (part_place (table_part t)) p = 1
own_cells b (part_place (member_part c t)) p = 1
own_cells b (part_place text_part) p = 1 + num b p 4
own_cells b (part_place (vector_part kind)) p = 1 + num b p 4
own_cells b _ p = 0

abbrev pub own_tables : Sort → ℕ
own_tables (part_place (table_part t)) = 1
own_tables (part_place (member_part c t)) = 1
own_tables _ = 0

-- the sum of f over the places that are there
abbrev pub sum_over : (Place → ℕ) → List (Option Place) → ℕ
sum_over f [] = 0
sum_over f (None ∷ xs) = sum_over f xs
sum_over f (Some x ∷ xs) = f x + sum_over f xs

abbrev pub if_kept : Option ReadFault → ℕ → ℕ
if_kept None n = n
if_kept (Some f) n = 0

-- the cells of all that is reached from a place, within so many levels
unfoldable pub all_within : ℕ → LaidSchema → Bytes → Place → ℕ
all_within zero L b x = 0
all_within (suc fuel) L b x =
    if_kept (fault_at L b x.sort x.at)
    (own_cells b x.sort x.at + sum_over (λ y. all_within fuel L b y) (named L b x.sort x.at))

-- Each step leads to a greater position, so these levels are enough.
abbrev pub levels : Bytes → ℕ → ℕ
levels b p = suc (length b - p)

unfoldable pub all : LaidSchema → Bytes → Place → ℕ
all L b x = all_within (levels b x.at) L b x

-- the rules of the limits, at a place with so many tables and cells up to it
abbrev pub limit_rules : Bounds → Sort → ℕ → ℕ → ℕ → List Rule
limit_rules most (part_place (table_part t)) p tables cells =
    (TooDeep p, nat_le tables most.depth) ∷ (TooManyCells p, nat_le cells most.cells) ∷ []
limit_rules most (part_place (member_part c t)) p tables cells =
    (TooDeep p, nat_le tables most.depth) ∷ (TooManyCells p, nat_le cells most.cells) ∷ []
limit_rules most (part_place text_part) p tables cells = (TooManyCells p, nat_le cells most.cells) ∷ []
limit_rules most (part_place (vector_part kind)) p tables cells = (TooManyCells p, nat_le cells most.cells) ∷ []
limit_rules most _ p tables cells = []

abbrev pub or_else : {A : Type 0} → Option A → Option A → Option A
or_else None r = r
or_else (Some x) r = Some x

-- the first rule that fails at a place, those of the limits last
unfoldable pub limited_fault : LaidSchema → Bytes → Bounds → Place → ℕ → ℕ → Option ReadFault
limited_fault L b most x tables cells =
    or_else (fault_at L b x.sort x.at) (first_failing (limit_rules most x.sort x.at tables cells))

-- The fault f stands at the end of a path from x. So many tables are above x, and so many cells were spent before it.
abbrev pub FaultFrom : LaidSchema → Bytes → Bounds → Place → ℕ → ℕ → Path → ReadFault → Type 0
FaultFrom L b most x tables spent [] f =
    limited_fault L b most x (tables + own_tables x.sort) (spent + own_cells b x.sort x.at) ≡ Some f
FaultFrom L b most x tables spent (k ∷ path) f =
    Keeps L b x.sort x.at × (next : Place) × Names L b x k next
    × FaultFrom L b most next (tables + own_tables x.sort)
    ((spent + own_cells b x.sort x.at) + sum_over (all L b) (take k (named L b x.sort x.at))) path f

-- a fault at a path from x, and none at a path before it
abbrev pub LeastFrom : LaidSchema → Bytes → Bounds → Place → ℕ → ℕ → ReadFault → Type 0
LeastFrom L b most x tables spent f =
    (path : Path) × FaultFrom L b most x tables spent path f
    × ((other : Path) (g : ReadFault) → ComesBefore other path → FaultFrom L b most x tables spent other g → ⊥)

-- the same computed, within so many levels
abbrev pub first_among : (Place → ℕ → Option ReadFault) → (Place → ℕ) → ℕ → List (Option Place) → Option ReadFault
first_among look cost spent [] = None
first_among look cost spent (None ∷ xs) = first_among look cost spent xs
first_among look cost spent (Some x ∷ xs) =
    or_else (look x spent) (let later = first_among look cost (spent + cost x) xs in later)

unfoldable pub first_fault : ℕ → LaidSchema → Bytes → Bounds → Place → ℕ → ℕ → Option ReadFault
first_fault zero L b most x tables spent = None
first_fault (suc fuel) L b most x tables spent =
    or_else (limited_fault L b most x (tables + own_tables x.sort) (spent + own_cells b x.sort x.at))
    (first_among (λ y before. first_fault fuel L b most y (tables + own_tables x.sort) before) (all L b)
    (spent + own_cells b x.sort x.at) (named L b x.sort x.at))

-- the same without levels: the fault at the least path from x, if there is one
unfoldable pub fault_from : LaidSchema → Bytes → Bounds → Place → ℕ → ℕ → Option ReadFault
fault_from L b most x tables spent = first_fault (levels b x.at) L b most x tables spent
