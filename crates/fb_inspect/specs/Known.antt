-- What is noted of visits is so.
use Rattle.fb_read.specs.declared.buffer.Buffer.{Buffer}
use Rattle.fb_read.specs.Visited.{part_at, IsVisited}
use Rattle.fb_inspect.specs.declared.known_visits.KnownVisit.{KnownVisit}

-- what is known of a part's visit
abbrev pub IsKnown : Buffer → KnownVisit → Type 0
IsKnown buffer known = IsVisited buffer (part_at buffer known.part known.at) known.visited
