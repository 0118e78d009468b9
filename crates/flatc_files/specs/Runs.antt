-- The status of a run over many files.
use Rattle.std.specs.Prelude.{◌≡◌, ℕ, Bool, not, List, if◌then◌else◌}
use Rattle.std.specs.List.{list_any}
use Rattle.flatc_files.specs.declared.run_status.RunStatus.{RunStatus}

-- 1 where a file was refused
abbrev pub status_of : List Bool → ℕ
status_of done = if list_any not done then 1 else 0

-- the status is that of files of which these were done and the others refused, in turn
abbrev pub IsStatusOf : RunStatus → List Bool → Type 0
IsStatusOf status done = status.refused ≡ list_any not done
