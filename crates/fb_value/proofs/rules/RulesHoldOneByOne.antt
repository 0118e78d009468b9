-- None of several rules fails exactly where the first holds and none of the others fails.
use Rattle.std.proofs.Common.{◌≡◌, Bool, true, false, List, [], ◌∷◌, None, refl}
use Rattle.fb_value.specs.declared.faults.ReadFault.{ReadFault}
use Rattle.fb_value.specs.Rules.{Rule, first_failing}

-- the first rule of several, and the others
pub rule_held : (f : ReadFault) (holds : Bool) (rs : List Rule) → first_failing ((f, holds) ∷ rs) ≡ None
    → (holds ≡ true) × (first_failing rs ≡ None)
unfolding first_failing
rule_held f true rs e = (refl, e)
rule_held f false rs e = cc

-- a rule that holds, in front of others in which none fails
pub hold : (f : ReadFault) (holds : Bool) (rs : List Rule) → holds ≡ true → first_failing rs ≡ None
    → first_failing ((f, holds) ∷ rs) ≡ None
unfolding first_failing
hold f holds rs is rest = rw is rest

pub no_rules : first_failing [] ≡ None
unfolding first_failing
no_rules = refl
