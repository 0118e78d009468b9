-- A look-up by name finds a member, and what it gives.
use Rattle.std.proofs.Common.{◌≡◌, Option, Some}
use Rattle.serde_json.specs.Data.{Data, boolean, number, string, array, object}
use Rattle.fb_json.specs.Means.{unless_null}

pub found_in : (o : Option Data) (t : Data) → unless_null o ≡ Some t → o ≡ Some t
found_in (Some (boolean b)) t h = h
found_in (Some (number x)) t h = h
found_in (Some (string s)) t h = h
found_in (Some (array ts)) t h = h
found_in (Some (object es)) t h = h
found_in _ t h = cc
