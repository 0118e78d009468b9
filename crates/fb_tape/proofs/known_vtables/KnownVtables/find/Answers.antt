use Rattle.std.proofs.Common.{rules, ◌≡◌, ◌↔◌, ℕ, List, Option, IsTrue, IfNone, false, true, None, Some, slice_get}
use Rattle.fb_value.specs.Num.{Bytes}
use Rattle.fb_tape.proofs.known_vtables.KnownVtables.find.Goals as goal

-- the place of a vtable would pass the test that its places fail
nowhere : (known : List Bytes) (vtable : Bytes) (At Fails : ℕ → Type 0) (o : Option ℕ)
    → ((place : ℕ) → slice_get known place ≡ Some vtable → At place)
    → ((place : ℕ) → Fails place → slice_get known place ≡ Some vtable → ⊥)
    → IfNone o ((place : ℕ) → At place → Fails place) → o ≡ None
    → (number : ℕ) → slice_get known number ≡ Some vtable → ⊥
nowhere known vtable At Fails None at fails absent none number there =
    fails number (absent number (at number there)) there
nowhere known vtable At Fails (Some place) at fails absent none number there = cc

pub returns-clause-absent : goal.returns-clause-absent
returns-clause-absent c =
    let known : List Bytes = c.args.self.now in
    let vtable = c.args.vtable.now in
    nowhere known vtable _ _ c.find.result
    (λ place there. rw c.digest-digest.ensures (c.self.invariant.at place vtable (rw c.self.view_is there)))
    (λ place failed there.
    let same : IsTrue false ↔ (slice_get known place ≡ Some vtable) = search rules in
    let no : false ≡ true = same.1 there in cc)
    c.find.ensures.absent
