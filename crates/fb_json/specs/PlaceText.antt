-- What a place prints as.
use Rattle.std.specs.Prelude.{ℕ, ◌++◌, List, [], Option, None, Some, codes, decimal}
use Rattle.fb_json.specs.declared.faults.Place.{Place}

abbrev pub slot_text : Option ℕ → List ℕ
slot_text None = []
slot_text (Some slot) = codes " slot " ++ decimal slot

abbrev pub place_text : Place → List ℕ
place_text p = codes "type " ++ decimal p.owner.0 ++ slot_text p.slot
