-- What bytes hold: the value that lies in them, and where.
pub mod BytesHoldAValueOrAFault
pub mod EachPartLiesInItsPlace
pub mod HeldValueFitsTheRoot
pub mod LyingValueIsComputed
pub mod MessagesAreTold
pub mod NumbersAreInTheirRange
