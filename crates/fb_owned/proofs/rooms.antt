-- What the proofs of src/rooms.rt use.
pub mod RoomIsThatOfTheParts
