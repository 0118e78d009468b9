-- What the proofs of src/visit_tables.rt use.
pub mod CountsGoOn
pub mod EndsAtAPlace
pub mod EndsAtASlot
pub mod FrontIsFreeOfFaults
pub mod HearsTheWayBack
pub mod PartsAddUp
pub mod StaysWhole
pub mod StepLeadsToTheLeast
pub mod VisitsOnePlaceAfterAnother
pub mod VisitsTakeTheSameAgain
