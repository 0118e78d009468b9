-- Lemmas are below the modules that they serve. Here are folders of those that crates above name.
pub mod stored
