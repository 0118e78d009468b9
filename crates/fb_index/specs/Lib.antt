pub mod HashKeys
pub mod DigestIndexes
