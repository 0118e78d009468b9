-- What the calls may return for one buffer under a schema text, as their contracts have it: `decode`, `check`,
-- `verify_framed` and `read_framed`. `prefixed` says that the buffer has a size prefix.
use Rattle.std.specs.Prelude.{ℕ, ◌≡◌, ◌≢◌, List, Bool, Option, Result, Ok, Err}
use Rattle.fb_layout.specs.Laid.{LaidSchema}
use Rattle.fb_value.specs.declared.faults.ReadFault.{ReadFault}
use Rattle.fb_value.specs.declared.faults.ReadFault.TheVariants as read_faults
use Rattle.fb_value.specs.Bounds.{Bounds}
use Rattle.fb_value.specs.Datum.{Datum}
use Rattle.fb_value.specs.Num.{Bytes}
use Rattle.fb_value.specs.Holds.{HoldsFramed, RefusesFramed}
use Rattle.fb_read.specs.declared.view.View.{View}
use Rattle.fb_read.specs.Shows.{Shows}
use Rattle.flatc_tool.specs.Checks.{IsSound, CheckRefused}
use Rattle.flatc_tool.specs.Jobs.{IsTextUnder, MayBeTextUnder, TextRefusedUnder, IsNotMemory}
use Rattle.fb_faults.specs.declared.faults.ToolFault.{ToolFault}

-- The clauses `text`, `refused` and `exact` of `decode`. Those of `to_json` are of an indented text and of a buffer
-- alone.
abbrev pub TextAnswer : Bool → Bool → List ℕ → Bytes → Bounds → Bool → Bool → Result (List ℕ) ToolFault → Type 0
TextAnswer compact prefixed schema b most raw defaults (Ok text) =
    IsTextUnder compact prefixed schema b most raw defaults text
TextAnswer compact prefixed schema b most raw defaults (Err f) = TextRefusedUnder prefixed schema b most raw f
    × (IsNotMemory f → ¬ MayBeTextUnder prefixed schema b most raw)

-- The clauses `sound`, `refused` and `exact` of `check`, which takes buffers alone. Of prefixed ones they are what
-- `schema_of` and `verify_framed` say.
abbrev pub CheckAnswer : Bool → List ℕ → Option Bytes → Bounds → Bool → Result (Unit {0}) ToolFault → Type 0
CheckAnswer prefixed schema bytes most raw (Ok x) = IsSound prefixed schema bytes most raw
CheckAnswer prefixed schema bytes most raw (Err f) = CheckRefused prefixed schema bytes most raw f
    × (IsNotMemory f → ¬ IsSound prefixed schema bytes most raw)

-- the clauses `stands` and `fault` of `verify_framed`
abbrev pub ViewAnswer : Bool → LaidSchema → Bytes → Bounds → Bool → Result View ReadFault → Type 0
ViewAnswer prefixed L b most raw (Ok view) = (v : Datum) → HoldsFramed prefixed L most raw b v → Shows view v
ViewAnswer prefixed L b most raw (Err f) = RefusesFramed prefixed L most raw b f

-- the clauses `value` and `fault` of `read_framed`
abbrev pub ValueAnswer : Bool → LaidSchema → Bytes → Bounds → Bool → Result Datum ReadFault → Type 0
ValueAnswer prefixed L b most raw (Ok v) = HoldsFramed prefixed L most raw b v
ValueAnswer prefixed L b most raw (Err f) = f ≢ read_faults.Memory → RefusesFramed prefixed L most raw b f

-- ---- what they come to where the buffer holds a value

-- this text, or memory ran out
abbrev pub IsTextOrMemory : List ℕ → Result (List ℕ) ToolFault → Type 0
IsTextOrMemory text (Ok found) = found ≡ text
IsTextOrMemory text (Err f) = ¬ (IsNotMemory f)

-- no fault but that memory ran out
abbrev pub IsOkOrMemory : Result (Unit {0}) ToolFault → Type 0
IsOkOrMemory (Ok x) = Unit {0}
IsOkOrMemory (Err f) = ¬ (IsNotMemory f)

-- a view of this value
abbrev pub IsViewOf : Datum → Result View ReadFault → Type 0
IsViewOf v (Ok view) = Shows view v
IsViewOf v (Err f) = ⊥

-- this value, or memory ran out
abbrev pub IsValueOrMemory : Datum → Result Datum ReadFault → Type 0
IsValueOrMemory v (Ok found) = found ≡ v
IsValueOrMemory v (Err f) = ¬ (f ≢ read_faults.Memory)
