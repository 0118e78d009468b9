use Rattle.std.proofs.Common.{◌≡◌, length, IsUtf8}
use Rattle.std.specs.Prelude.{pos}
use Rattle.fb_schema.specs.Paths.{number_by_path}
use Rattle.fb_json.specs.Flags.{flags_named, words}
use Rattle.fb_json.proofs.flags.flags_of.Given as goal

abbrev pub invariant-loop-name : goal.invariant-loop-name
invariant-loop-name l = record {
  utf8 : IsUtf8 l.left;
  so_far : flags_named (number_by_path l.schema l.enumeration.0) l.flags (words l.left)
      ≡ flags_named (number_by_path l.schema l.enumeration.0) (pos 0) (words l.names);
}

abbrev pub decreases-loop-name : goal.decreases-loop-name
decreases-loop-name l = length l.left
