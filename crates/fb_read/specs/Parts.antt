-- What is told of a part by its own rules, whatever it leads to.
use Rattle.std.specs.Prelude.{ℕ, ◌≡◌, Some, Result, MatchResult, IfErr}
use Rattle.fb_layout.specs.Laid.{LaidSchema, scalar_kind, struct_kind}
use Rattle.fb_value.specs.declared.faults.ReadFault.{ReadFault}
use Rattle.fb_value.specs.Num.{Bytes}
use Rattle.fb_value.specs.Places.{Sort, inline_place, code_place}
use Rattle.fb_value.specs.Rules.{fault_at, Keeps}
use Rattle.fb_read.specs.declared.stored.Stored.{Stored}
use Rattle.fb_read.specs.declared.stored.Stored.TheVariants.{Code, Number, Fixed}

-- A result tells whether a place keeps its own rules, or the fault of the first that it breaks.
abbrev pub Judges : {T : Type 0} → LaidSchema → Bytes → Sort → ℕ → Result T ReadFault → Type 0
Judges L b sort p result = MatchResult result (λ _. Keeps L b sort p) (λ f. fault_at L b sort p ≡ Some f)

-- The same of a number, a struct or a union's code in a slot. What else a slot has is refused by no rule here.
abbrev pub JudgesStored : {T : Type 0} → LaidSchema → Bytes → Stored → Result T ReadFault → Type 0
JudgesStored L b (Number base p) result = Judges L b (inline_place (scalar_kind base)) p result
JudgesStored L b (Fixed s p) result = Judges L b (inline_place (struct_kind s.0)) p result
JudgesStored L b (Code code p) result =
    Judges L b (code_place code.union.0 code.value_slot code.required code.present) p result
JudgesStored L b _ result = IfErr result (λ _. ⊥)
