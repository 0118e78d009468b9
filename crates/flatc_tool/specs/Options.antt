-- How much the calls take unless they are told otherwise.
pub use Rattle.fb_value.specs.Bounds.{usual_limits}
