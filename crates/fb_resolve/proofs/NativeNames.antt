-- Names that begin with `native_`.
pub use Rattle.std.proofs.lemmas.Str.Pattern.{starts_text}
