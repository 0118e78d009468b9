-- What is refused of a tree.
use Rattle.std.proofs.Common.{◌≡◌, ◌<◌, ◌≤◌, ◌⊎◌, inl, inr, refl, Bool}
use Rattle.serde_json.specs.Data.{Data}
use Rattle.fb_layout.specs.Laid.{LaidSchema}
use Rattle.fb_value.specs.Bounds.{Bounds, most_bytes}
use Rattle.fb_value.specs.Datum.{Datum}
use Rattle.fb_json.specs.Laws.{FirstFaultRefuses}
use Rattle.fb_json.specs.Means.{Means}
use Rattle.fb_json.specs.Refuses.{IsFirst, MayLackMemory}
use Rattle.fb_json.specs.declared.faults.JsonFault.{JsonFault}
use Rattle.fb_json.specs.declared.faults.JsonFault.TheVariants as the_json
use Rattle.fb_build.specs.FramedRoom.{framed_room}
use Rattle.fb_build.specs.declared.faults.BuildFault.{BuildFault}
use Rattle.fb_build.specs.declared.faults.BuildFault.TheVariants as the_build
use Rattle.fb_encode.specs.Encoded.{BreaksARule, EncodeRefusedFramed, TreeRefused}
use Rattle.fb_encode.specs.declared.faults.EncodeFault.TheVariants.{Build}

module _ (L : LaidSchema) (most : Bounds) (unknown : Bool) (t : Data) where
  pub breaks : FirstFaultRefuses → (f : JsonFault) → IsFirst L most unknown t f → BreaksARule L most unknown t f
  breaks law f first =
      let both = law L most unknown t f first in record { refuses = both.0; first = first; none = both.1 }

  -- the tree's first fault, or memory ran out where it may
  pub tree_refused : FirstFaultRefuses → (f : JsonFault) → MayLackMemory most t f
      → (f ≡ the_json.Memory) ⊎ IsFirst L most unknown t f → TreeRefused L most unknown t f
  tree_refused law the_json.Memory may h = may
  tree_refused law (the_json.WrongShape at) may (inl m) = cc
  tree_refused law (the_json.WrongShape at) may (inr h) = breaks law _ h
  tree_refused law (the_json.NotWhole at) may (inl m) = cc
  tree_refused law (the_json.NotWhole at) may (inr h) = breaks law _ h
  tree_refused law (the_json.OutOfRange at) may (inl m) = cc
  tree_refused law (the_json.OutOfRange at) may (inr h) = breaks law _ h
  tree_refused law (the_json.UnknownName at) may (inl m) = cc
  tree_refused law (the_json.UnknownName at) may (inr h) = breaks law _ h
  tree_refused law (the_json.UnknownMember at) may (inl m) = cc
  tree_refused law (the_json.UnknownMember at) may (inr h) = breaks law _ h
  tree_refused law (the_json.MissingMember at) may (inl m) = cc
  tree_refused law (the_json.MissingMember at) may (inr h) = breaks law _ h
  tree_refused law (the_json.MissingRequired at) may (inl m) = cc
  tree_refused law (the_json.MissingRequired at) may (inr h) = breaks law _ h
  tree_refused law (the_json.UnionMismatch at) may (inl m) = cc
  tree_refused law (the_json.UnionMismatch at) may (inr h) = breaks law _ h
  tree_refused law (the_json.TooDeep at) may (inl m) = cc
  tree_refused law (the_json.TooDeep at) may (inr h) = breaks law _ h
  tree_refused law (the_json.TooManyCells at) may (inl m) = cc
  tree_refused law (the_json.TooManyCells at) may (inr h) = breaks law _ h

  pub build_refused : (prefixed : Bool) (d : Datum) → Means L most unknown t d → (f : BuildFault)
      → (f ≡ the_build.TooBig → most_bytes < framed_room prefixed L d)
      → (f ≡ the_build.Memory → framed_room prefixed L d ≤ most_bytes)
      → EncodeRefusedFramed prefixed L most unknown t (Build f)
  build_refused prefixed d means the_build.TooBig big memory = (d, means, big refl)
  build_refused prefixed d means the_build.Memory big memory = (d, means, memory refl)
