-- What a walk finds, and what an element by reference leads to.
use Rattle.std.specs.Prelude.{◌≡◌, Option, None, Some, Result, MatchResult}
use Rattle.fb_value.specs.declared.faults.ReadFault.{ReadFault}
use Rattle.fb_value.specs.Places.{Target, table_part, text_part}
use Rattle.fb_read.specs.declared.reference.Reference.{Reference}
use Rattle.fb_read.specs.declared.reference.Reference.TheVariants.{ToText, ToTable}

-- what an element by reference leads to
abbrev pub led_to : Reference → Target
led_to ToText = text_part
led_to (ToTable t) = table_part t.0

-- `Ok` where there is no fault, else the first one.
abbrev pub Finds : {T : Type 0} → Result T ReadFault → Option ReadFault → Type 0
Finds result first = MatchResult result (λ _. first ≡ None) (λ f. first ≡ Some f)
