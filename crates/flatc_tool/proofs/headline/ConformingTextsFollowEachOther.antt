-- What schema texts that conform one by one give.
use Rattle.std.proofs.Common.{◌≡◌, ℕ, List, [], ◌∷◌, sym, ap, ◌∙◌}
use Rattle.fb_layout.specs.Laid.{LaidSchema}
use Rattle.fb_value.specs.Datum.{Datum}
use Rattle.fb_value.specs.Fits.{FitsRoot}
use Rattle.fb_conform.specs.Conforms.{Conforms}
use Rattle.fb_conform.specs.Carry.{carry}
use Rattle.flatc_tool.specs.LayerLaws.{LayerLaws}
use Rattle.fb_declare.specs.SchemaTexts.{IsAccepted}
use Rattle.flatc_tool.specs.Evolution.{TextsConform}
use Rattle.flatc_tool.specs.Chains.{OldProgramsRead, ConformInTurn, last_of, ChainsConform, CarriedInTurn, ChainsCarry}
use Rattle.flatc_tool.proofs.evolution.BreachExcludesConforming.{conforms_at}
use Rattle.flatc_tool.proofs.headline.BytesHoldAValueOrAreRefused.{held, fitting, in_use, carried_on}

pub old_programs_read_shown : LayerLaws → OldProgramsRead
old_programs_read_shown laws prefixed old new json most unknown b made texts A B was is v means raw =
    let conforms = conforms_at laws old new A B was is texts in
    laws.back_holds prefixed A B most raw b v was.made is.made conforms (in_use laws prefixed new json most unknown b made B is v
    means)
    (held laws prefixed new json most unknown b made B is v means raw)

-- two steps are one
conforms_on : (laws : LayerLaws) (a b c : List ℕ) → TextsConform a b → TextsConform b c → TextsConform a c
conforms_on laws a b c one two =
    let middle = conforms_at laws b c one.1 two.1 one.3 two.3 two in
    (one.0, two.1, one.2, two.3, laws.conforms_on one.0 one.1 two.1 one.2.made one.3.made one.4 middle)

in_turn : (laws : LayerLaws) (first next : List ℕ) (later : List (List ℕ)) → TextsConform first next
    → ConformInTurn next later → TextsConform first (last_of next later)
in_turn laws first next [] one turn = one
in_turn laws first next (last ∷ later) one turn =
    in_turn laws first last later (conforms_on laws first next last one turn.0) turn.1

pub chains_conform_shown : LayerLaws → ChainsConform
chains_conform_shown laws first next later turn = in_turn laws first next later turn.0 turn.1

-- what is carried from each to the next is carried at once, to a layout that conforms
module _ (laws : LayerLaws) (A : LaidSchema) (first : List ℕ) (accepted : IsAccepted first A) (v : Datum)
    (fits : FitsRoot A v) (K : LaidSchema) (w : Datum) where
  abbrev AtOnce : Type 0
  AtOnce = (text : List ℕ) × IsAccepted text K × Conforms A K × (w ≡ carry A K v)

  at_once : (text : List ℕ) (B : LaidSchema) → IsAccepted text B → Conforms A B → (later : List (List ℕ))
      → ConformInTurn text later → CarriedInTurn B (carry A B v) later K w → AtOnce
  at_once text B is conforms [] turn carried =
      let there = rw carried.0 at is in
      let last = rw carried.0 at conforms in
      (text, there, last, sym carried.1 ∙ ap (λ L. carry A L v) carried.0)
  at_once text B is conforms (next ∷ later) turn carried =
      let C : LaidSchema = carried.0 in
      let then = conforms_at laws text next B C is carried.1 turn.0 in
      let both = laws.conforms_on A B C accepted.made is.made conforms then in
      let one = laws.carries_on A B C v accepted.made is.made carried.1.made conforms then fits in
      at_once next C carried.1 both later turn.1 (rw (← one) carried.2)

pub chains_carry_shown : LayerLaws → ChainsCarry
chains_carry_shown laws prefixed first json [] most unknown b made turn A is v means K w carried raw =
    let here = held laws prefixed first json most unknown b made A is v means raw in
    rw (← carried.1) (rw (← carried.0) here)
chains_carry_shown laws prefixed first json (next ∷ later) most unknown b made turn A is v means K w carried raw =
    let B : LaidSchema = carried.0 in
    let conforms = conforms_at laws first next A B is carried.1 turn.0 in
    let once = at_once laws A first is v (fitting laws prefixed first json most unknown b made A is v means) K w next B carried.1
    conforms later turn.1 carried.2 in
    rw once.3 (carried_on laws prefixed first json most unknown b made A is v means raw K once.0 once.1 once.2)
