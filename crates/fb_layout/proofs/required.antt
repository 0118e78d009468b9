pub mod NumbersOfEachType
