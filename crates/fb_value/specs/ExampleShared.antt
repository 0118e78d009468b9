-- Tables in a vector of two, level by level: what a buffer of 600 bytes holds that has each table once, and names it
-- twice.
use Rattle.std.specs.Prelude.{ℕ, zero, suc, ◌≡◌, ◌+◌, ◌*◌, ◌^◌}
use Rattle.std.proofs.Common.{arith, refl}
use Rattle.fb_value.specs.Datum.{Datum, a_vector, a_table, no_parts, more_parts, no_entries, absent_entry}
use Rattle.fb_value.specs.Datum.{present_entry}
use Rattle.fb_value.specs.Counts.{cells, depth}

-- table N { n:[N]; } root_type N; so many levels below the outermost table
abbrev pub level : ℕ → Datum
level zero = a_table 0 (absent_entry no_entries)
level (suc n) = a_table 0 (present_entry (a_vector (more_parts (level n) (more_parts (level n) no_parts))) no_entries)

-- Each level has twice the cells of the next one, and four more.
pub cells_double : (n : ℕ) → cells (level (suc n)) ≡ 4 + 2 * cells (level n)
cells_double n = omega arith

-- So they are five times a power of two, less four.
pub cells_by_levels : (n : ℕ) → cells (level n) + 4 ≡ 5 * 2 ^ n
cells_by_levels zero = refl
cells_by_levels (suc n) = let below = cells_by_levels n in omega (arith, below)

-- Thirty levels have 2,684,354,556 cells.
pub thirty_levels : cells (level 29) ≡ 2684354556
thirty_levels = let five = cells_by_levels 29 in omega (arith, five)

-- Each level is one table deeper.
pub depth_by_levels : (n : ℕ) → depth (level n) ≡ suc n
depth_by_levels zero = refl
depth_by_levels (suc n) = let below = depth_by_levels n in omega (arith, below)

pub thirty_deep : depth (level 29) ≡ 30
thirty_deep = depth_by_levels 29
