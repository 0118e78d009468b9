-- Breaches and moved names in one list.
use Rattle.std.specs.Prelude.{◌+◌, ◌<◌, ◌≤◌}
use Rattle.fb_layout.specs.Laid.{LaidSchema}
use Rattle.fb_conform.specs.declared.difference.Difference.{Difference}
use Rattle.fb_conform.specs.declared.difference.Difference.TheVariants.{Breach as Broken, Moved}
use Rattle.fb_conform.specs.Conforms.{Stands}
use Rattle.fb_conform.specs.Names.{IsMoved, IsBefore as IsNameBefore}
use Rattle.fb_conform.specs.Order.{type_place, IsBefore}

-- The breach stands, or the name is moved.
abbrev pub Differs : LaidSchema → LaidSchema → Difference → Type 0
Differs A B (Broken b) = Stands A B b
Differs A B (Moved m) = IsMoved A B m

-- Breaches and names each have their own order. A type's names come after its breaches, and before those of a later
-- type. `type_place` of the type `t` is `t + 1`.
abbrev pub ComesBefore : Difference → Difference → Type 0
ComesBefore (Broken r) (Broken b) = IsBefore r b
ComesBefore (Broken r) (Moved m) = type_place r ≤ m.type_id.0 + 1
ComesBefore (Moved m) (Broken b) = m.type_id.0 + 1 < type_place b
ComesBefore (Moved m) (Moved n) = IsNameBefore m n
