-- What is listed of two layouts is listed of each two layouts that the texts have.
use Rattle.std.specs.Prelude.{◌≡◌, ◌↔◌, ℕ, List, map, Contains, AllPairs, IfOk, Result, Option, Some, None}
use Rattle.std.proofs.Common.{refl, subst}
use Rattle.std.proofs.lemmas.Result.{IfOk-weaker}
use Rattle.fb_layout.specs.Laid.{LaidSchema}
use Rattle.fb_declare.specs.SchemaTexts.{IsAccepted}
use Rattle.fb_declare.specs.SchemaLaws.{TextHasOneLayout}
use Rattle.fb_conform.specs.declared.breaches.Breach.{Breach}
use Rattle.fb_conform.specs.declared.names.MovedName.{MovedName}
use Rattle.fb_conform.specs.Conforms.{Stands}
use Rattle.fb_conform.specs.Names.{IsMoved}
use Rattle.fb_conform.specs.Order as breaches
use Rattle.fb_conform.specs.Names as names
use Rattle.fb_faults.specs.declared.faults.ToolFault.{ToolFault}
use Rattle.fb_faults.specs.declared.faults.ToolFault.TheVariants as the_faults
use Rattle.fb_explain_conform.specs.Listed.{AreBreaches, AreMoved}

-- what holds of two layouts holds of each two layouts of the texts
both_layouts : TextHasOneLayout → (text text' : List ℕ) (A B : LaidSchema) (P : LaidSchema → LaidSchema → Type 0)
    → IsAccepted text A → IsAccepted text' B → P A B → (L L' : LaidSchema) → IsAccepted text L → IsAccepted text' L'
    → P L L'
both_layouts one text text' A B P is is' holds L L' accepted accepted' =
    subst (λ X. P X L') (one text A L is accepted) (subst (λ Y. P A Y) (one text' B L' is' accepted') holds)

pub breaches_listed : {V E : Type 0} (faults_of : V → List ToolFault) (r : Result V E) → TextHasOneLayout
    → (text text' : List ℕ) (A B : LaidSchema) (listed : List Breach) → IsAccepted text A → IsAccepted text' B
    → ((b : Breach) → Contains listed b ↔ Stands A B b) → AllPairs breaches.IsBefore listed
    → IfOk r (λ v. faults_of v ≡ map the_faults.Breach listed) → (L L' : LaidSchema) → IsAccepted text L
    → IsAccepted text' L' → IfOk r (λ v. AreBreaches L L' (faults_of v))
breaches_listed faults_of r one text text' A B listed is is' all order spelled =
    both_layouts one text text' A B (λ X Y. IfOk r (λ v. AreBreaches X Y (faults_of v))) is is'
    (IfOk-weaker r _ _ (λ v s. record { listed = listed; spelled = s; all = all; order = order }) spelled)

pub moved_listed : {V E : Type 0} (faults_of : V → List ToolFault) (r : Result V E) → TextHasOneLayout
    → (text text' : List ℕ) (A B : LaidSchema) (listed : List MovedName) → IsAccepted text A → IsAccepted text' B
    → ((m : MovedName) → Contains listed m ↔ IsMoved A B m) → AllPairs names.IsBefore listed
    → IfOk r (λ v. faults_of v ≡ map the_faults.NameMoved listed) → (L L' : LaidSchema) → IsAccepted text L
    → IsAccepted text' L' → IfOk r (λ v. AreMoved L L' (faults_of v))
moved_listed faults_of r one text text' A B listed is is' all order spelled =
    both_layouts one text text' A B (λ X Y. IfOk r (λ v. AreMoved X Y (faults_of v))) is is'
    (IfOk-weaker r _ _ (λ v s. record { listed = listed; spelled = s; all = all; order = order }) spelled)

pub none_unless_some : {A : Type 0} (o : Option A) → ((x : A) → o ≡ Some x → ⊥) → o ≡ None
none_unless_some None never = refl
none_unless_some (Some x) never = absurd (never x refl)
