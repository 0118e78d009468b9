-- What is refused of JSON that means nothing under a schema text.
use Rattle.std.proofs.Common.{◌≡◌, ℕ, List, Bool, Ok, Err, refl, sym, ◌∙◌, arith}
use Rattle.serde_json.specs.Data.{Data}
use Rattle.fb_schema.specs.declared.kinds.Kind.TheVariants.{Table}
use Rattle.fb_schema.specs.declared.kinds.Shape.TheVariants.{One}
use Rattle.fb_layout.specs.Laid.{LaidSchema}
use Rattle.fb_value.specs.Bounds.{Bounds}
use Rattle.fb_value.specs.Datum.{Datum}
use Rattle.fb_value.specs.Num.{Bytes}
use Rattle.fb_json.specs.declared.faults.JsonFault.{JsonFault}
use Rattle.fb_json.specs.Means.{Means}
use Rattle.fb_json.specs.Meant.{type_place}
use Rattle.fb_json.specs.Outcome.{Counted}
use Rattle.fb_json.specs.Refuses.{IsFirst, root_meant}
use Rattle.fb_build.specs.declared.faults.BuildFault.TheVariants as the_build
use Rattle.flatc_tool.specs.LayerLaws.{LayerLaws}
use Rattle.flatc_tool.specs.JsonText.{IsTree}
use Rattle.fb_declare.specs.SchemaTexts.{IsAccepted}
use Rattle.flatc_tool.specs.Jobs.{JsonMeans, IsBinaryUnder, BinaryRefusedUnder, IsNotMemory}
use Rattle.flatc_tool.specs.Headline.{NoneIsMeant, OtherJsonIsRefused}
use Rattle.fb_faults.specs.declared.faults.ToolFault.{ToolFault}
use Rattle.fb_faults.specs.declared.faults.ToolFault.TheVariants.{Schema, Json, Build, Read, Text, Write, Breach}
use Rattle.fb_faults.specs.declared.faults.ToolFault.TheVariants.{NameMoved}
use Rattle.fb_faults.specs.declared.faults.ToolFault.TheVariants.{Older, Newer, FileRead, FileWrite, FileTooLong}
use Rattle.fb_faults.specs.declared.faults.ToolFault.TheVariants.{BadJson, Memory}
use Rattle.flatc_tool.proofs.buffers.RefusalExcludesABuffer.{same_tree, broken}

module _ (laws : LayerLaws) (schema json : List ℕ) (most : Bounds) (unknown : Bool) (L : LaidSchema)
    (accepted : IsAccepted schema L) where
  module _ (t : Data) (tree : IsTree json t) (none : (v : Datum) → ¬ Means L most unknown t v) where
    -- it means nothing under any layout of the schema text
    none_under : (K : LaidSchema) → IsAccepted schema K → (v : Datum) → JsonMeans K most unknown json v → ⊥
    none_under K other v means =
        let here = rw (laws.one_layout schema K L other accepted) at means in
        none v (rw (← (same_tree json here.0 t here.1 tree)) here.2)

    no_buffer : (prefixed : Bool) (b : Bytes) → IsBinaryUnder prefixed schema json most unknown b → ⊥
    no_buffer prefixed b made = none_under made.layout made.accepted made.has.value made.has.means

    module _ (fault : JsonFault) (first : IsFirst L most unknown t fault) where
      same_fault : (f : JsonFault) (K : LaidSchema) → IsAccepted schema K → (u : Data) → IsTree json u
          → IsFirst K most unknown u f → Json f ≡ Json fault
      same_fault f K other u read found =
          let here = rw (laws.one_layout schema K L other accepted) at found in
          let there = rw (same_tree json u t read tree) at here in
          let both = sym there ∙ first in cc

      refused : (prefixed : Bool) (f : ToolFault) → BinaryRefusedUnder prefixed schema json most unknown f
          → IsNotMemory f → f ≡ Json fault
      refused prefixed (Schema f) told rule = absurd (laws.no_layout schema f told rule L accepted)
      refused prefixed (Json f) told rule =
          let h = told.has in
          same_fault f told.layout told.accepted h.0 h.1 (broken told.layout most unknown h.0 f h.2 rule).first
      refused prefixed (Build the_build.TooBig) told rule = absurd (none_under told.layout told.accepted told.has.0 told.has.1)
      refused prefixed (Build the_build.Memory) told rule = absurd rule
      refused prefixed (Read f) told rule = absurd told.has
      refused prefixed (Text f) told rule = absurd told.has
      refused prefixed (Write f) told rule = absurd told.has
      refused prefixed (Breach b) told rule = absurd told.has
      refused prefixed (NameMoved m) told rule = absurd told.has
      refused prefixed (Older f) told rule = absurd told.has
      refused prefixed (Newer f) told rule = absurd told.has
      refused prefixed FileRead told rule = absurd told.has
      refused prefixed FileWrite told rule = absurd told.has
      refused prefixed FileTooLong told rule = absurd told.has
      refused prefixed BadJson told rule = absurd (told.has t tree)
      refused prefixed Memory told rule = absurd rule

    by_outcome : (o : Counted Datum) → root_meant L most unknown t ≡ o → NoneIsMeant schema json most unknown L t
    by_outcome (Ok p) given =
        let means = laws.only_what_is_meant L unknown t (One (Table (record { 0 = L.schema.root })))
        (type_place L.schema.root) most.depth most.cells p given in
        let spent = means.1 in
        absurd (none p.0 (means.0, means.2, omega arith))
    by_outcome (Err fault) given =
        record { fault = fault; first = given; no_buffer = no_buffer; refused = refused fault given }

    by_its_fault : NoneIsMeant schema json most unknown L t
    by_its_fault = by_outcome (root_meant L most unknown t) refl

  module _ (none : (t : Data) → ¬ IsTree json t) where
    as_no_json : (prefixed : Bool) (f : ToolFault) → BinaryRefusedUnder prefixed schema json most unknown f
        → IsNotMemory f → f ≡ BadJson
    as_no_json prefixed (Schema f) told rule = absurd (laws.no_layout schema f told rule L accepted)
    as_no_json prefixed (Json f) told rule = absurd (none told.has.0 told.has.1)
    as_no_json prefixed (Build the_build.TooBig) told rule = let means = told.has.1 in absurd (none means.0 means.1)
    as_no_json prefixed (Build the_build.Memory) told rule = absurd rule
    as_no_json prefixed (Read f) told rule = absurd told.has
    as_no_json prefixed (Text f) told rule = absurd told.has
    as_no_json prefixed (Write f) told rule = absurd told.has
    as_no_json prefixed (Breach b) told rule = absurd told.has
    as_no_json prefixed (NameMoved m) told rule = absurd told.has
    as_no_json prefixed (Older f) told rule = absurd told.has
    as_no_json prefixed (Newer f) told rule = absurd told.has
    as_no_json prefixed FileRead told rule = absurd told.has
    as_no_json prefixed FileWrite told rule = absurd told.has
    as_no_json prefixed FileTooLong told rule = absurd told.has
    as_no_json prefixed BadJson told rule = refl
    as_no_json prefixed Memory told rule = absurd rule

pub other_json_is_refused_shown : LayerLaws → OtherJsonIsRefused
other_json_is_refused_shown laws = record { by_its_fault = by_its_fault laws; as_no_json = as_no_json laws }
