-- What was found is what is noted, or the fault.
use Rattle.std.proofs.Common.{◌≡◌, ℕ, Some, Result, Ok, Err, IfOk, IfErr}
use Rattle.fb_layout.specs.Laid.{LaidSchema, StoredShape}
use Rattle.fb_value.specs.Datum.{Datum}
use Rattle.fb_tape.specs.Tapes.{Taped}
use Rattle.fb_json.specs.declared.faults.JsonFault.{JsonFault}
use Rattle.fb_json.specs.Outcome.{Counted, Fails}
use Rattle.fb_encode.specs.declared.unnoted.Unnoted.{Unnoted}
use Rattle.fb_encode.specs.declared.unnoted.Unnoted.TheVariants.{Fault, Unread}
use Rattle.fb_encode.specs.Found.{IfFault, IfFound, found_of}
use Rattle.fb_encode.specs.TextsRead.{IsNotedOr}
use Rattle.fb_encode.specs.TreesNoted.{IsNoted}

pub if_ok_then : {A E : Type 0} (r : Result A E) (P Q : A → Type 0) → ((x : A) → P x → Q x) → IfOk r P → IfOk r Q
if_ok_then (Ok x) P Q then h = then x h
if_ok_then (Err e) P Q then h = tt

pub if_ok_both : {A E : Type 0} (r : Result A E) (P Q R : A → Type 0) → ((x : A) → P x → Q x → R x) → IfOk r P
    → IfOk r Q → IfOk r R
if_ok_both (Ok x) P Q R then h k = then x h k
if_ok_both (Err e) P Q R then h k = tt

pub if_found_then : {A : Type 0} (r : Result A Unnoted) (P Q : Result A JsonFault → Type 0)
    → ((x : Result A JsonFault) → P x → Q x) → IfFound r P → IfFound r Q
if_found_then (Ok x) P Q then h = then (Ok x) h
if_found_then (Err (Fault f)) P Q then h = then (Err f) h
if_found_then (Err (Unread u)) P Q then h = tt

pub if_found_all : {A : Type 0} (r : Result A Unnoted) (P : Result A JsonFault → Type 0)
    → ((x : Result A JsonFault) → P x) → IfFound r P
if_found_all (Ok x) P all = all (Ok x)
if_found_all (Err (Fault f)) P all = all (Err f)
if_found_all (Err (Unread u)) P all = tt

pub if_found_both : {A : Type 0} (r : Result A Unnoted) (P Q : Result A JsonFault → Type 0) → IfFound r P → IfFound r Q
    → IfFound r (λ x. P x × Q x)
if_found_both (Ok x) P Q h k = (h, k)
if_found_both (Err (Fault f)) P Q h k = (h, k)
if_found_both (Err (Unread u)) P Q h k = tt

pub found_holds : {A : Type 0} (r : Result A Unnoted) (P : Result A JsonFault → Type 0) (x : Result A JsonFault)
    → found_of r ≡ Some x → IfFound r P → P x
found_holds (Ok y) P x is h =
    let same : Ok y ≡ x = cc in
    rw same at h
found_holds (Err (Fault f)) P x is h =
    let same : Err f ≡ x = cc in
    rw same at h
found_holds (Err (Unread u)) P x is h = cc

pub found_is_ok : {A : Type 0} (r : Result A Unnoted) (x : A) → found_of r ≡ Some (Ok x) → r ≡ Ok x
found_is_ok (Ok y) x is = cc
found_is_ok (Err (Fault f)) x is = cc
found_is_ok (Err (Unread u)) x is = cc

-- of a fault that was this one
pub fault_holds : (e : Unnoted) (f : JsonFault) (P : JsonFault → Type 0) → IfFault e (λ g. g ≡ f) → P f → IfFault e P
fault_holds (Fault g) f P is h = rw is h
fault_holds (Unread u) f P is h = tt

pub fault_found : {A : Type 0} (e : Unnoted) (f : JsonFault) (P : Result A JsonFault → Type 0)
    → IfFault e (λ g. g ≡ f) → P (Err f) → IfFound (Err e) P
fault_found (Fault g) f P is h = rw is h
fault_found (Unread u) f P is h = tt

-- what holds of a fault, where another result has the same
pub fault_then : {A B : Type 0} (e : Unnoted) (P : Result A JsonFault → Type 0) (Q : Result B JsonFault → Type 0)
    → ((f : JsonFault) → P (Err f) → Q (Err f)) → IfFound (Err e) P → IfFound (Err e) Q
fault_then (Fault f) P Q then h = then f h
fault_then (Unread u) P Q then h = tt

pub fault_refuses : {A : Type 0} (e : Unnoted) (P : Result A JsonFault → Type 0) (Q : JsonFault → Type 0)
    → ((f : JsonFault) → P (Err f) → Q f) → IfFound (Err e) P → IfFault e Q
fault_refuses (Fault f) P Q then h = then f h
fault_refuses (Unread u) P Q then h = tt

pub noted_or : (L : LaidSchema) (shape : StoredShape) (given : Counted Datum) (a b : Taped) (r : Result ℕ JsonFault)
    → IfOk r (IsNoted L shape given a b) → IfErr r (λ f. Fails f given) → IsNotedOr L shape given a b r
noted_or L shape given a b (Ok rest) noted refused = noted
noted_or L shape given a b (Err f) noted refused = refused
