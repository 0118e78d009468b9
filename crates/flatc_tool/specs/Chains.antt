-- What schema texts that conform one by one give, for the bytes that `to_binary` and `encode` return.
-- From the FlatBuffers documentation, "Evolution".
use Rattle.std.specs.Prelude.{ℕ, ◌≡◌, List, [], ◌∷◌, Bool}
use Rattle.fb_layout.specs.Laid.{LaidSchema}
use Rattle.fb_value.specs.Bounds.{Bounds}
use Rattle.fb_value.specs.Datum.{Datum}
use Rattle.fb_value.specs.Num.{Bytes}
use Rattle.fb_value.specs.Holds.{HoldsFramed}
use Rattle.fb_conform.specs.Carry.{carry}
use Rattle.fb_conform.specs.Back.{back}
use Rattle.fb_declare.specs.SchemaTexts.{IsAccepted}
use Rattle.flatc_tool.specs.Jobs.{JsonMeans, IsBinaryUnder}
use Rattle.flatc_tool.specs.Evolution.{TextsConform}

-- A program that still has the old schema reads what is written under the new one: later fields are gone, and a later
-- union member is its code alone.
abbrev pub OldProgramsRead : Type 0
OldProgramsRead = (prefixed : Bool) (old new json : List ℕ) (most : Bounds) (unknown : Bool) (b : Bytes)
    → IsBinaryUnder prefixed new json most unknown b → TextsConform old new
    → (A B : LaidSchema) → IsAccepted old A → IsAccepted new B → (v : Datum) → JsonMeans B most unknown json v
    → (raw : Bool) → HoldsFramed prefixed A most raw b (back A B v)

-- each text conforms to the one before it
abbrev pub ConformInTurn : List ℕ → List (List ℕ) → Type 0
ConformInTurn first [] = Unit {0}
ConformInTurn first (next ∷ later) = TextsConform first next × ConformInTurn next later

abbrev pub last_of : List ℕ → List (List ℕ) → List ℕ
last_of first [] = first
last_of first (next ∷ later) = last_of next later

-- Texts that conform one by one conform from the first to the last.
abbrev pub ChainsConform : Type 0
ChainsConform = (first next : List ℕ) (later : List (List ℕ)) → ConformInTurn first (next ∷ later)
    → TextsConform first (last_of next later)

-- w is v carried from each text to the next, and K the layout of the last
abbrev pub CarriedInTurn : LaidSchema → Datum → List (List ℕ) → LaidSchema → Datum → Type 0
CarriedInTurn A v [] K w = (A ≡ K) × (v ≡ w)
CarriedInTurn A v (next ∷ later) K w = (B : LaidSchema) × IsAccepted next B × CarriedInTurn B (carry A B v) later K w

-- The bytes that are written under the first text hold, under the last, the value carried from each to the next.
abbrev pub ChainsCarry : Type 0
ChainsCarry = (prefixed : Bool) (first json : List ℕ) (later : List (List ℕ)) (most : Bounds) (unknown : Bool)
    (b : Bytes) → IsBinaryUnder prefixed first json most unknown b → ConformInTurn first later
    → (A : LaidSchema) → IsAccepted first A → (v : Datum) → JsonMeans A most unknown json v
    → (K : LaidSchema) (w : Datum) → CarriedInTurn A v later K w → (raw : Bool)
    → HoldsFramed prefixed K most raw b w
