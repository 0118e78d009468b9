-- What holds of the tool's answers together.
use Rattle.std.proofs.Common.{◌≡◌, ℕ, List, Bool, true, Option, None, Some, Result, Ok, Err, ap, ◌∙◌}
use Rattle.fb_layout.specs.Laid.{LaidSchema}
use Rattle.fb_value.specs.declared.faults.ReadFault.{ReadFault}
use Rattle.fb_value.specs.Bounds.{Bounds}
use Rattle.fb_value.specs.Counts.{is_whole}
use Rattle.fb_value.specs.Datum.{Datum}
use Rattle.fb_value.specs.Fits.{FitsRoot}
use Rattle.fb_value.specs.Num.{Bytes}
use Rattle.fb_value.specs.Holds.{HoldsFramed, RefusesFramed, framed_fault, front_fault, front_of, checked_identifier}
use Rattle.fb_value.specs.OldSlots.{OnlyOldBehind}
use Rattle.fb_value.specs.Laws.{HeldOrFault}
use Rattle.fb_text.specs.Texts.{spaced_text}
use Rattle.fb_read.specs.declared.view.View.{View}
use Rattle.fb_text.specs.declared.faults.WriteFault.TheVariants.{NoMemberName, WriteFailed}
use Rattle.fb_conform.specs.Conforms.{Conforms}
use Rattle.fb_conform.specs.Carry.{carry}
use Rattle.flatc_tool.specs.LayerLaws.{LayerLaws}
use Rattle.fb_declare.specs.SchemaTexts.{IsAccepted}
use Rattle.flatc_tool.specs.Jobs.{JsonMeans, IsBinary, IsBinaryUnder, IsTextUnder, TextRefusedUnder}
use Rattle.flatc_tool.specs.Jobs.{IsNotMemory, spacing_of}
use Rattle.flatc_tool.specs.Checks.{CheckRefused}
use Rattle.flatc_tool.specs.Prints.{PrintRefusedUnder}
use Rattle.flatc_tool.specs.Evolution.{TextsConform}
use Rattle.flatc_tool.specs.Answers.{TextAnswer, CheckAnswer, ViewAnswer, ValueAnswer, IsTextOrMemory, IsOkOrMemory}
use Rattle.flatc_tool.specs.Answers.{IsViewOf, IsValueOrMemory}
use Rattle.flatc_tool.specs.Headline.{HoldsAndPrints, CarriesValue, JsonIsCarried, NoneLies, OthersAreRefused}
use Rattle.fb_faults.specs.declared.faults.ToolFault.{ToolFault}
use Rattle.fb_faults.specs.declared.faults.ToolFault.TheVariants.{Schema, Json, Build, Read, Text, Write, Breach}
use Rattle.fb_faults.specs.declared.faults.ToolFault.TheVariants.{NameMoved}
use Rattle.fb_faults.specs.declared.faults.ToolFault.TheVariants.{Older, Newer, FileRead, FileWrite, FileTooLong}
use Rattle.fb_faults.specs.declared.faults.ToolFault.TheVariants.{BadJson, Memory}
use Rattle.flatc_tool.proofs.evolution.BreachExcludesConforming.{conforms_at}
use Rattle.flatc_tool.proofs.buffers.RefusalExcludesABuffer.{same_value}

-- ---- what the calls return for bytes that hold a value

module _ (laws : LayerLaws) (prefixed : Bool) (schema : List ℕ) (b : Bytes) (most : Bounds) (raw : Bool)
    (L : LaidSchema) (accepted : IsAccepted schema L) (v : Datum) (holds : HoldsFramed prefixed L most raw b v) where
  one_text : (compact defaults : Bool) (text : List ℕ) → IsTextUnder compact prefixed schema b most raw defaults text
      → text ≡ spaced_text (spacing_of compact) L defaults v
  one_text compact defaults text is =
      let same = laws.one_layout schema is.layout L is.accepted accepted in
      let here = rw same at is.has in
      let one = laws.one_value _ _ L most b here.value v here.holds holds in
      here.spelled ∙ ap (λ (w : Datum). spaced_text (spacing_of compact) L defaults w) one

  text_answer : is_whole v ≡ true → (compact defaults : Bool) (r : Result (List ℕ) ToolFault)
      → TextAnswer compact prefixed schema b most raw defaults r
      → IsTextOrMemory (spaced_text (spacing_of compact) L defaults v) r
  text_answer whole compact defaults (Ok text) is = one_text compact defaults text is
  text_answer whole compact defaults (Err f) answer =
      λ rule. answer.1 rule (record {
        layout = L;
        accepted = accepted;
        has =
            record { value = v; holds = holds; whole = whole };
      })

  pub there : is_whole v ≡ true → HoldsAndPrints prefixed schema b most raw L v
  there whole = record { holds = holds; printed = text_answer whole }

  check_answer : (r : Result (Unit {0}) ToolFault) → CheckAnswer prefixed schema (Some b) most raw r → IsOkOrMemory r
  check_answer (Ok x) answer = tt
  check_answer (Err f) answer = λ rule. answer.1 rule (L, accepted, v, holds)

  view_answer : (r : Result View ReadFault) → ViewAnswer prefixed L b most raw r → IsViewOf v r
  view_answer (Ok view) answer = answer v holds
  view_answer (Err f) answer = answer.1 v holds

  value_answer : (r : Result Datum ReadFault) → ValueAnswer prefixed L b most raw r → IsValueOrMemory v r
  value_answer (Ok w) answer = laws.one_value _ _ L most b w v answer holds
  value_answer (Err f) answer = λ rule. (answer rule).1 v holds

-- ---- JSON that means a value

module _ (laws : LayerLaws) (prefixed : Bool) (schema json : List ℕ) (most : Bounds) (unknown : Bool) (b : Bytes)
    (made : IsBinaryUnder prefixed schema json most unknown b) (L : LaidSchema) (accepted : IsAccepted schema L)
    (v : Datum) (means : JsonMeans L most unknown json v) where
  here : IsBinary prefixed L json most unknown b
  here = rw (← (laws.one_layout schema made.layout L made.accepted accepted)) made.has

  value : here.value ≡ v
  value = same_value laws L most unknown json here.value v here.means means

  pub held : (raw : Bool) → HoldsFramed prefixed L most raw b v
  held raw = rw (← value) (here.holds raw)

  pub fitting : FitsRoot L v
  fitting = rw (← value) here.fits

  pub in_use : OnlyOldBehind (front_of prefixed) L b
  in_use = here.old_slots

  pub is_known : is_whole v ≡ true
  is_known = laws.meant_is_whole L most unknown means.0 v means.2

  pub carried_on : (raw : Bool) (K : LaidSchema) (new : List ℕ) → IsAccepted new K → Conforms L K
      → HoldsFramed prefixed K most raw b (carry L K v)
  carried_on raw K new other conforms = laws.carried_holds prefixed L K most raw b v accepted.made other.made conforms
      is_known
      in_use (held raw)

  evolved : (raw : Bool) (new : List ℕ) (K : LaidSchema) → TextsConform schema new → IsAccepted new K
      → HoldsAndPrints prefixed new b most raw K (carry L K v)
  evolved raw new K texts other =
      let conforms = conforms_at laws schema new L K accepted other texts in
      let known = (laws.carried_fits L K v accepted.made other.made conforms fitting is_known).1 in
      there laws prefixed new b most raw K other (carry L K v) (carried_on raw K new other conforms) known

  carried : CarriesValue prefixed schema b most L v
  carried = record {
    whole = is_known;
    here = λ raw. there laws prefixed schema b most raw L accepted v (held raw) is_known;
    only = λ raw w other. laws.one_value _ _ L most b w v other (held raw);
    old_slots = in_use;
    covered = here.covered;
    checked = λ raw r answer. check_answer laws prefixed schema b most raw L accepted v (held raw) r answer;
    viewed = λ raw r answer. view_answer laws prefixed schema b most raw L accepted v (held raw) r answer;
    read = λ raw r answer. value_answer laws prefixed schema b most raw L accepted v (held raw) r answer;
    evolved = evolved;
  }

pub json_is_carried_shown : LayerLaws → JsonIsCarried
json_is_carried_shown laws prefixed schema json most unknown b made L accepted v means =
    carried laws prefixed schema json most unknown b made L accepted v means

-- ---- bytes in which no value lies

module _ (laws : LayerLaws) (prefixed : Bool) (schema : List ℕ) (b : Bytes) (most : Bounds) (raw : Bool)
    (L : LaidSchema) (accepted : IsAccepted schema L) (none : (v : Datum) → ¬ HoldsFramed prefixed L most raw b v) where
  none_under : (K : LaidSchema) → IsAccepted schema K → (v : Datum) → HoldsFramed prefixed K most raw b v → ⊥
  none_under K other v holds =
      none v (rw (← (laws.one_layout schema K L other accepted)) holds)

  module _ (fault : ReadFault) (least : RefusesFramed prefixed L most raw b fault) where
    same_fault : (f : ReadFault) (K : LaidSchema) → IsAccepted schema K → RefusesFramed prefixed K most raw b f
        → Read f ≡ Read fault
    same_fault f K other first =
        let there = rw (laws.one_layout schema K L other accepted) at first in
        ap Read (laws.one_least_fault _ _ L most b f fault there.0 least.0)

    answered : (f : ToolFault) → TextRefusedUnder prefixed schema b most raw f → IsNotMemory f → f ≡ Read fault
    answered (Schema f) refused rule = absurd (laws.no_layout schema f refused rule L accepted)
    answered (Read f) refused rule = same_fault f refused.layout refused.accepted refused.has
    answered (Text f) refused rule =
        absurd (none_under refused.layout refused.accepted refused.has.0 refused.has.1)
    answered (Json f) refused rule = absurd refused.has
    answered (Build f) refused rule = absurd refused.has
    answered (Write f) refused rule = absurd refused.has
    answered (Breach b) refused rule = absurd refused.has
    answered (NameMoved m) refused rule = absurd refused.has
    answered (Older f) refused rule = absurd refused.has
    answered (Newer f) refused rule = absurd refused.has
    answered FileRead refused rule = absurd refused.has
    answered FileWrite refused rule = absurd refused.has
    answered FileTooLong refused rule = absurd refused.has
    answered BadJson refused rule = absurd refused.has
    answered Memory refused rule = absurd refused.has

    checked : (f : ToolFault) → CheckRefused prefixed schema (Some b) most raw f → IsNotMemory f
        → f ≡ Read fault
    checked (Schema f) refused rule = absurd (laws.no_layout schema f refused rule L accepted)
    checked (Read f) refused rule = same_fault f refused.0 refused.1 refused.2
    checked (Text f) refused rule = absurd refused
    checked (Json f) refused rule = absurd refused
    checked (Build f) refused rule = absurd refused
    checked (Write f) refused rule = absurd refused
    checked (Breach b) refused rule = absurd refused
    checked (NameMoved m) refused rule = absurd refused
    checked (Older f) refused rule = absurd refused
    checked (Newer f) refused rule = absurd refused
    checked FileRead refused rule = absurd refused
    checked FileWrite refused rule = absurd refused
    checked FileTooLong refused rule = absurd refused
    checked BadJson refused rule = absurd refused
    checked Memory refused rule = absurd refused

    printed : (compact defaults : Bool) (start known : Option (List ℕ)) (f : ToolFault)
        → PrintRefusedUnder compact prefixed schema b most raw defaults start known f → IsNotMemory f → f ≡ Read fault
    printed compact defaults start known (Schema f) refused rule =
        absurd (laws.no_layout schema f refused rule L accepted)
    printed compact defaults start known (Read f) refused rule = same_fault f refused.layout refused.accepted refused.has
    printed compact defaults start known (Write (NoMemberName at)) refused rule =
        absurd (none_under refused.layout refused.accepted refused.has.0 refused.has.1)
    printed compact defaults start known (Write (WriteFailed n)) refused rule =
        let is = refused.has.1 in
        absurd (none_under refused.layout refused.accepted is.value is.holds)
    printed compact defaults start known (Text f) refused rule = absurd refused.has
    printed compact defaults start known (Json f) refused rule = absurd refused.has
    printed compact defaults start known (Build f) refused rule = absurd refused.has
    printed compact defaults start known (Breach b) refused rule = absurd refused.has
    printed compact defaults start known (NameMoved m) refused rule = absurd refused.has
    printed compact defaults start known (Older f) refused rule = absurd refused.has
    printed compact defaults start known (Newer f) refused rule = absurd refused.has
    printed compact defaults start known FileRead refused rule = absurd refused.has
    printed compact defaults start known FileWrite refused rule = absurd refused.has
    printed compact defaults start known FileTooLong refused rule = absurd refused.has
    printed compact defaults start known BadJson refused rule = absurd refused.has
    printed compact defaults start known Memory refused rule = absurd refused.has

  by_outcome : (o : Option ReadFault)
      → HeldOrFault (front_of prefixed) (front_fault prefixed b (checked_identifier L raw)) L most b o
      → NoneLies prefixed schema b most raw L
  by_outcome None h = absurd (none h.1.0 h.1.1)
  by_outcome (Some f) h = record {
    fault = f;
    least = h;
    no_text = λ compact defaults text is. none_under is.layout is.accepted is.has.value is.has.holds;
    answered = answered f h;
    unsound = λ sound. none_under sound.0 sound.1 sound.2 sound.3;
    checked = checked f h;
    unsent = λ compact defaults start known sent. none_under sent.layout sent.accepted sent.has.1.value sent.has.1.holds;
    printed = printed f h;
  }

pub others_are_refused_shown : LayerLaws → OthersAreRefused
others_are_refused_shown laws prefixed schema b most raw L accepted none =
    by_outcome laws prefixed schema b most raw L accepted none (framed_fault prefixed L most raw b)
    (laws.value_or_fault (front_of prefixed) (front_fault prefixed b (checked_identifier L raw)) L most b accepted.made)
