use Rattle.std.proofs.Common.{rules, ◌≡◌, [], Some, is_some}
use Rattle.json.specs.Json.{skip_value}
use Rattle.json.specs.Lex.{tokens}
use Rattle.fb_pieces.specs.Reads.{read_at}
use Rattle.fb_pieces.proofs.json_texts.TextIsReadWithoutATree.{read_in_range, some_read}
use Rattle.fb_pieces.proofs.json_texts.is_json_at.Goals as goal

-- src/json_texts.rt:63:1
pub returns : goal.returns
returns c =
    let passed : skip_value c.args.levels (tokens c.args.text.now) ≡ Some [] = search rules in
    let same : c.are_numbers_in_range.result ≡ is_some (read_at c.args.levels c.args.text.now) =
    search (rules, read_in_range _ _ passed) in (
      λ yes. let d = some_read _ (search rules) in (d.0, record { utf8 = search rules; read = d.1 }),
      λ is_read. search (rules, is_read.1.read),
    )
