use Rattle.std.proofs.Common.{◌∙◌, append-nil, codes, map, refl, string_bytes, sym}
use Rattle.clap.specs.Words.{found_of, rows_of}
use Rattle.flatc_cli.proofs.TaskFiles.{one_binary, with_out, dir_not_streamed}
use Rattle.flatc_cli.proofs.tasks.binary_task.Goals as goal

pub returns-in-Some-clause-task : goal.returns-in-Some-clause-task
returns-in-Some-clause-task c =
    let rows = rows_of (found_of c.args.found.now) in
    let paths = c.in_ok-strings_of.ensures ∙ c.in_ok-files.ensures.ok in
    c.in_ok-task_with.ensures (codes "binary") (refl, c.flag_of.ensures) (record {
      fit = tt;
      paths = sym paths ∙ sym (append-nil (map string_bytes c.in_ok-strings_of.field-0.items));
      directory = rw c.in_ok-from_str.ensures.ok (sym c.in-Some.ensures);
      streamed = dir_not_streamed rows c.in-Some.dir.now c.requires c.in-Some.ensures;
    })

pub returns-clause-task : goal.returns-clause-task
returns-clause-task c =
    let rows = rows_of (found_of c.args.found.now) in
    c.in_ok-task_with-2.ensures (codes "binary") (refl, c.flag_of.ensures) (record {
      fit = one_binary c.flag_of.result c.in_ok-inputs.inputs c.in_ok-from_str-2.field-0 c.in_ok-inputs.ensures.one;
      paths = with_out rows _ _ c.in_ok-inputs.inputs c.in_ok-from_str-2.field-0 c.in_ok-json.ensures.ok
          c.in_ok-inputs.ensures.path c.in_ok-from_str-2.ensures.ok;
      directory = sym c.in_default.ensures;
      streamed = c.in_ok-inputs.ensures.streamed;
    })
