-- What a handle holds.
use Rattle.std.specs.Prelude.{◌≡◌, ℕ, List, length, Option, Some, None}
use Rattle.std_alloc.specs.Arc.{arc_value}
use Rattle.std_alloc.specs.Vec.{vec_ptr}
use Rattle.fb_layout.specs.Laid.{LaidSchema}
use Rattle.flatc_c.specs.declared.handles.Bytes.{Bytes}
use Rattle.flatc_c.specs.declared.kept.Kept.{Kept}
use Rattle.flatc_c.specs.declared.kept.Kept.TheVariants as kept

-- the layout that is held, if one is
abbrev pub layout_of : Option Kept → Option LaidSchema
layout_of (Some (kept.Schema layout)) = Some (arc_value layout)
layout_of _ = None

-- A layout is held, and this is so of it.
abbrev pub Layout : Option LaidSchema → (LaidSchema → Type 0) → Type 0
Layout (Some L) P = P L
Layout None P = ⊥

abbrev pub HasLayout : Option Kept → (LaidSchema → Type 0) → Type 0
HasLayout held P = Layout (layout_of held) P

abbrev Shown : Bytes → Option Kept → (List ℕ → Type 0) → Type 0
Shown b (Some (kept.Bytes v)) P = (b.data ≡ vec_ptr v) × (b.size ≡ length v.items) × P v.items
Shown b _ P = ⊥

-- Bytes are held, of which this is so; `data` and `size` are where they are and how many.
abbrev pub HasBytes : Bytes → (List ℕ → Type 0) → Type 0
HasBytes b P = Shown b b.held.value P
