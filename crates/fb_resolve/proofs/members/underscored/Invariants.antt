use Rattle.std.proofs.Common.{◌≡◌, ◌++◌, string_bytes, length}
use denote.Text.{Utf8}
use denote.Shadow.{shadow}
use Rattle.fb_resolve.specs.MembersRead.{with_underscores}
use Rattle.fb_resolve.proofs.members.underscored.Given as goal

abbrev pub invariant-loop-word : goal.invariant-loop-word
invariant-loop-word l = shadow (Utf8 l.rest) ×
    (string_bytes l.underscored ++ with_underscores l.rest ≡ with_underscores l.name)

abbrev pub decreases-loop-word : goal.decreases-loop-word
decreases-loop-word l = length l.rest
