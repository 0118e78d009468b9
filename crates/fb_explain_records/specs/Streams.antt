-- Places in a stream of messages.
use Rattle.std.specs.Prelude.{ℕ, ◌+◌, ◌-◌, ◌^◌, min, option_map}
use Rattle.fb_findings.specs.declared.positions.Position.{Position}
use Rattle.fb_findings.specs.declared.sources.Location.{Location}
use Rattle.fb_explain_records.specs.declared.context.StreamMessage.{StreamMessage}

-- the sum, or the greatest number of 64 bits
abbrev pub sum_within : ℕ → ℕ → ℕ
sum_within a b = min (a + b) (2 ^ 64 - 1)

-- the place in a stream of a place in one of its messages
abbrev pub place_in_stream : StreamMessage → Location → Location
place_in_stream message place = record {
  path = place.path;
  offset = option_map (λ offset. sum_within offset message.offset) place.offset;
  position = option_map (λ (p : Position). record {
    line = sum_within p.line message.lines;
    column = p.column;
  }) place.position;
}
