-- Numbers in bytes.
pub mod BytesSumToTheirNumber
