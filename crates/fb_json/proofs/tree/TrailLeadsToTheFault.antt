-- A refused walk leaves the steps to the fault on its trail.
use Rattle.std.proofs.Common.{◌≡◌, ◌≢◌, ◌⊎◌, inl, inr, List, [], ◌∷◌, ◌++◌, Option, None, Some, option_map}
use Rattle.std.proofs.Common.{Result, Err, refl, sym, subst}
use Rattle.std.proofs.Common.{Bool, MatchOption, append-nil}
use Rattle.fb_layout.specs.Laid.{LaidSchema}
use Rattle.fb_json.specs.declared.faults.JsonFault.{JsonFault}
use Rattle.fb_json.specs.declared.faults.JsonFault.TheVariants.{Memory}
use Rattle.fb_json.specs.declared.step.JsonStep.{JsonStep}
use Rattle.fb_json.specs.Outcome.{Fails}
use Rattle.fb_json.specs.FaultPaths.{Spot, front_of, IsFirstAt}
use Rattle.fb_json.proofs.slots.OneSlotOrFieldMore.{failed, fails_by}

abbrev pub IsPath : Type 1
IsPath = List JsonStep → JsonFault → Type 0

-- the steps that a refused walk put in front of what its trail had
abbrev pub Adds : Option (List JsonStep) → Option (List JsonStep) → IsPath → JsonFault → Type 0
Adds old new Is f = (steps : List JsonStep) × (new ≡ option_map (λ behind. steps ++ behind) old) × Is steps f

-- no step
ends : (old : Option (List JsonStep)) (Is : IsPath) (f : JsonFault) → Is [] f → Adds old old Is f
ends None Is f here = ([], refl, here)
ends (Some behind) Is f here = ([], refl, here)

-- the fault of a place itself
pub here : (L : LaidSchema) (unknown : Bool) (x : Spot) (f : JsonFault) (old : Option (List JsonStep))
    → front_of L unknown x ≡ Err f → Adds old old (IsFirstAt L unknown x) f
here L unknown x f old e = ends old (IsFirstAt L unknown x) f e

in_front : (old mid new : Option (List JsonStep)) (step : JsonStep) (steps : List JsonStep)
    → mid ≡ option_map (λ behind. steps ++ behind) old → new ≡ option_map (λ below. step ∷ below) mid
    → new ≡ option_map (λ behind. (step ∷ steps) ++ behind) old
in_front None mid new step steps below more = rw below at more
in_front (Some behind) mid new step steps below more = rw below at more

-- a fault after a step, or no memory for the step
abbrev pub IsBehind : JsonFault → JsonFault → Type 0 → Type 0
IsBehind fault given Pushed = (given ≡ Memory) ⊎ ((given ≡ fault) × Pushed)

-- a step more
pub goes : (start old mid new : Option (List JsonStep)) (IsBelow Is : IsPath) (step : JsonStep)
    (fault given : JsonFault) → old ≡ start → IsBehind fault given (new ≡ option_map (λ below. step ∷ below) mid)
    → (fault ≢ Memory → Adds old mid IsBelow fault)
    → ((steps : List JsonStep) → IsBelow steps fault → Is (step ∷ steps) fault) → given ≢ Memory
    → Adds start new Is given
goes start old mid new IsBelow Is step fault given same (inl memory) below path kept = absurd (kept memory)
goes start old mid new IsBelow Is step fault given same (inr is) below path kept =
    let found = below (rw (← is.0) kept) in
    rw (← same) (
      step ∷ found.0,
      in_front old mid new step found.0 found.1 is.1,
      rw is.0 (path found.0 found.2),
    )

-- what is given is the fault, unless there was no memory for a step
pub fails_after : {X Y Pushed : Type 0} (fault given : JsonFault) (part : Result X JsonFault)
    (whole : Result Y JsonFault) → IsBehind fault given Pushed → (part ≡ Err fault → whole ≡ Err fault)
    → Fails fault part → Fails given whole
fails_after fault given part whole (inl memory) same h = rw memory tt
fails_after fault given part whole (inr is) same h =
    rw is.0 (fails_by fault part whole same h)

unless_memory : {P : Type 0} (f : JsonFault) → (f ≡ Memory) ⊎ P → f ≢ Memory → P
unless_memory f (inl memory) kept = absurd (kept memory)
unless_memory f (inr is) kept = is

pub fault_given : {Y : Type 0} (f : JsonFault) (r : Result Y JsonFault) → Fails f r → f ≢ Memory → r ≡ Err f
fault_given f r h kept = unless_memory f (failed f r h) kept

-- the steps on a trail that was empty
pub kept_steps : {V : Type 0} (M : Type 0) (items : V → List JsonStep) (o : Option V)
    (start new : Option (List JsonStep)) (Is : List JsonStep → Type 0)
    → start ≡ Some [] → option_map items o ≡ new → (steps : List JsonStep)
    → new ≡ option_map (λ behind. steps ++ behind) start → Is steps → MatchOption o M (λ v. Is (items v))
kept_steps M items None start new Is empty seen steps added is = let all = rw empty at added in cc
kept_steps M items (Some v) start new Is empty seen steps added is =
    let all = rw (empty, append-nil) at added in
    let same : items v ≡ steps = cc in
    subst Is (sym same) is
