-- What the proofs of src/strings.rt use.
pub mod StringIsOneToken
