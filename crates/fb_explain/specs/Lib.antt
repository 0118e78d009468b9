pub use Rattle.fb_explain_pages.specs.Lines
pub use Rattle.fb_findings.specs.Positions
pub mod Refusals
