use Rattle.std.proofs.Common.{refl}
use Rattle.flatc_cli.proofs.JobLines.{formed_task, no_job, no_binary, no_json, no_check, no_schema_check}
use Rattle.flatc_cli.proofs.JobLines.{many_binaries, many_jsons, many_checks, known_files, checks_by_name}
use Rattle.flatc_cli.proofs.job.job_in.Goals as goal
use Rattle.flatc_cli.proofs.job.job_in.Goals.{in_default-via-in-Binary+in-One+in_default}
use Rattle.flatc_cli.proofs.job.job_in.Goals.{in_default-via-in-Binary+in_default}
use Rattle.flatc_cli.proofs.job.job_in.Goals.{in_default-via-in-Json+in-One+in_default}
use Rattle.flatc_cli.proofs.job.job_in.Goals.{in_default-via-in-Json+in_default}
use Rattle.flatc_cli.proofs.job.job_in.Goals.{in_default-via-in-Check+in-Schema+in_default}
use Rattle.flatc_cli.proofs.job.job_in.Goals.{in_default-via-in-Check+in-One+in_default}
use Rattle.flatc_cli.proofs.job.job_in.Goals.{in_default-via-in-Check+in_default}

pub returns-then-not-is_usual-clause-none : goal.returns-then-not-is_usual-clause-none
returns-then-not-is_usual-clause-none c = λ line. formed_task line c.args.task _ c.if-not-is_usual.ensures.other

pub returns-in_default-clause-none : goal.returns-in_default-clause-none
returns-in_default-clause-none c = λ line. no_job c.args.task line (λ name rows is files. elim c.in_default.branch [
  | in_default-via-in-Binary+in-One+in_default w ↦
      let one = known_files rows _ _ _ _ _ w.in_default.is-0 w.in_default.is-1 files in
      absurd (no_binary w.in_default.field-0-0 w.in_default.field-0-1 _ w.in_default.not-File-2 one.fit)
  | in_default-via-in-Binary+in_default w ↦
      many_binaries name rows w.in_default.field-0-0 _ _ (known_files rows _ _ _ _ _ w.in_default.is-0 refl files)
      w.in_default.not-One-1
  | in_default-via-in-Json+in-One+in_default w ↦
      let one = known_files rows _ _ _ _ _ w.in_default.is-0 w.in_default.is-1 files in
      absurd (no_json w.in_default.field-0-0 w.in_default.field-1-0 w.in_default.field-0-1 _
      w.in_default.not-Standard-2 one.fit)
  | in_default-via-in-Json+in_default w ↦
      many_jsons name rows w.in_default.field-0-0 w.in_default.field-1-0 _ _
      (known_files rows _ _ _ _ _ w.in_default.is-0 refl files) w.in_default.not-One-1
  | in_default-via-in-Check+in-Schema+in_default w ↦
      let none = known_files rows _ _ _ _ _ w.in_default.is-0 w.in_default.is-1 files in
      absurd (no_schema_check w.in_default.field-0-0 _ w.in_default.not-Standard-2 none.fit)
  | in_default-via-in-Check+in-One+in_default w ↦
      let one = known_files rows _ _ _ _ _ w.in_default.is-0 w.in_default.is-1 files in
      absurd (no_check w.in_default.field-0-0 w.in_default.field-0-1 _ w.in_default.not-Standard-2 one.fit)
  | in_default-via-in-Check+in_default w ↦
      rw (checks_by_name name rows _ w.in_default.field-0-0 w.in_default.is-0 is)
      (many_checks rows w.in_default.field-0-0 _ _ (known_files rows _ _ _ _ _ w.in_default.is-0 refl files)
      w.in_default.not-Schema-1 w.in_default.not-One-1)
])
