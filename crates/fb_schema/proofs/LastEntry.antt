-- Entries of a list that is one longer, for the crates above.
pub use Rattle.fb_index.proofs.LastEntry.{entry_of, entry_kept, entry_last}
