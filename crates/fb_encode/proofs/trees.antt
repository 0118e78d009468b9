pub mod RefusalsComeInOrder
pub mod RootIsNoted
