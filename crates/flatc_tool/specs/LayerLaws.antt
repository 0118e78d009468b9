-- The laws of the layers that the tool's promises are composed from. Each is a public law of the layer's crate.
use Rattle.fb_declare.specs.SchemaLaws.{RefusedTextHasNoLayout, TextHasOneLayout}
use Rattle.fb_value.specs.Laws.{OneValue, ValueOrFault, OneLeastFault, FitsWhereHeld}
use Rattle.fb_value.specs.Messages.{OneMessageInFront, MessageIsWhole, HeldIsMessage}
use Rattle.fb_json.specs.Laws.{AllThatIsMeant, MeantIsWhole, OnlyWhatIsMeant}
use Rattle.fb_conform.specs.Laws.{CarriedHolds, CarriedFits, BackHolds, ConformsOn, CarriesOn, KeptUnlessMoved}
use Rattle.fb_conform.specs.Laws.{NamesCarry, MeansCarried}

pub record LayerLaws : Type 0 where
  pub one_layout : TextHasOneLayout
  pub no_layout : RefusedTextHasNoLayout
  pub one_value : OneValue
  pub value_or_fault : ValueOrFault
  pub one_least_fault : OneLeastFault
  pub fits_where_held : FitsWhereHeld
  pub one_message_in_front : OneMessageInFront
  pub message_is_whole : MessageIsWhole
  pub held_is_message : HeldIsMessage
  pub only_what_is_meant : OnlyWhatIsMeant
  pub all_that_is_meant : AllThatIsMeant
  pub meant_is_whole : MeantIsWhole
  pub carried_holds : CarriedHolds
  pub carried_fits : CarriedFits
  pub back_holds : BackHolds
  pub conforms_on : ConformsOn
  pub carries_on : CarriesOn
  pub kept_unless_moved : KeptUnlessMoved
  pub names_carry : NamesCarry
  pub means_carried : MeansCarried
