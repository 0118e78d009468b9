-- Which faults of two schemas are listed.
use Rattle.std.specs.Prelude.{◌≡◌, ◌↔◌, List, map, Contains, AllPairs}
use Rattle.fb_layout.specs.Laid.{LaidSchema}
use Rattle.fb_conform.specs.declared.breaches.Breach.{Breach}
use Rattle.fb_conform.specs.declared.names.MovedName.{MovedName}
use Rattle.fb_conform.specs.Conforms.{Stands}
use Rattle.fb_conform.specs.Names.{IsMoved}
use Rattle.fb_conform.specs.Order as breaches
use Rattle.fb_conform.specs.Names as names
use Rattle.fb_faults.specs.declared.faults.ToolFault.{ToolFault}
use Rattle.fb_faults.specs.declared.faults.ToolFault.TheVariants as the_faults

-- each breach that stands, once and in order, and nothing else
pub record AreBreaches (old new : LaidSchema) (faults : List ToolFault) : Type 0 where
  pub listed : List Breach
  pub spelled : faults ≡ map the_faults.Breach listed
  pub all : (b : Breach) → Contains listed b ↔ Stands old new b
  pub order : AllPairs breaches.IsBefore listed

-- each name that is moved, once and in order, and nothing else
pub record AreMoved (old new : LaidSchema) (faults : List ToolFault) : Type 0 where
  pub listed : List MovedName
  pub spelled : faults ≡ map the_faults.NameMoved listed
  pub all : (m : MovedName) → Contains listed m ↔ IsMoved old new m
  pub order : AllPairs names.IsBefore listed
