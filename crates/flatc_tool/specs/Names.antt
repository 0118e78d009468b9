-- What JSON texts of an old schema text are under a new one that keeps its names.
-- From the FlatBuffers documentation, "Evolution" and "JSON parsing".
use Rattle.std.specs.Prelude.{ℕ, List, Bool, false}
use Rattle.serde_json.specs.Data.{Data}
use Rattle.fb_schema.specs.declared.kinds.Kind.TheVariants.{Table}
use Rattle.fb_schema.specs.declared.kinds.Shape.TheVariants.{One}
use Rattle.fb_layout.specs.Laid.{LaidSchema}
use Rattle.fb_value.specs.Bounds.{Bounds}
use Rattle.fb_value.specs.Datum.{Datum}
use Rattle.fb_value.specs.Num.{Bytes}
use Rattle.fb_value.specs.Holds.{HoldsFramed}
use Rattle.fb_json.specs.Means.{Means}
use Rattle.fb_conform.specs.Carry.{carry}
use Rattle.fb_conform.specs.NamesStay.{NamesStay}
use Rattle.fb_declare.specs.SchemaTexts.{IsAccepted}
use Rattle.flatc_tool.specs.JsonText.{IsTree}
use Rattle.flatc_tool.specs.Jobs.{JsonMeans, IsBinaryUnder}
use Rattle.flatc_tool.specs.Evolution.{TextsKeepNames}

-- A text that names nothing that is renamed or deprecated means, under the new schema, the value carried.
abbrev pub OldTextsAreRead : Type 0
OldTextsAreRead = (old new json : List ℕ) (most : Bounds) → TextsKeepNames old new
    → (A B : LaidSchema) → IsAccepted old A → IsAccepted new B → (t : Data) → IsTree json t → (v : Datum)
    → Means A most false t v → NamesStay A B t (One (Table (record { 0 = A.schema.root }))) v
    → JsonMeans B most false json (carry A B v)

-- Bytes that are made under the new schema of a text that means a value under the old one hold that value, carried.
abbrev pub OldTextsAreCarried : Type 0
OldTextsAreCarried = (prefixed : Bool) (old new json : List ℕ) (most : Bounds) (b : Bytes)
    → IsBinaryUnder prefixed new json most false b → TextsKeepNames old new → (A B : LaidSchema) → IsAccepted old A
    → IsAccepted new B → (v : Datum) → JsonMeans A most false json v → (raw : Bool)
    → HoldsFramed prefixed B most raw b (carry A B v)
