-- A slot that names no place names none where it is deprecated.
use Rattle.std.proofs.Common.{◌≡◌, Bool, true, false, cond, Option, None, refl}
use Rattle.fb_value.specs.Places.{Place}

pub no_place : (gone : Bool) (x : Option Place) → x ≡ None → cond gone None x ≡ None
no_place true x e = refl
no_place false x e = e
