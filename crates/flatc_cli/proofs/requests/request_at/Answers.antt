use Rattle.clap.specs.Words.{found_of, rows_of}
use Rattle.flatc_cli.proofs.TaskFiles.{stream_allowed}
use Rattle.flatc_cli.proofs.requests.request_at.Goals as goal

pub binary_task-requires : goal.binary_task-requires
binary_task-requires c = stream_allowed (rows_of (found_of c.args.found.now)) c.in_ok-check_flags.ensures.ok

pub json_task-requires : goal.json_task-requires
json_task-requires c = stream_allowed (rows_of (found_of c.args.found.now)) c.in_ok-check_flags.ensures.ok
