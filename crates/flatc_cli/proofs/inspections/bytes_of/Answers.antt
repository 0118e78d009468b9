use Rattle.std.proofs.Common.{◌≡◌, ◌∙◌}
use Rattle.clap.specs.Words.{found_of, rows_of}
use Rattle.flatc_cli.specs.declared.misuse.Misuse.TheVariants.{Memory}
use Rattle.flatc_cli.proofs.LineInputs.{refused, inspected_inputs, inspected_uncounted}
use Rattle.flatc_cli.proofs.inspections.bytes_of.Goals as goal

pub returns-in_err-schema-clause-refusal : goal.returns-in_err-schema-clause-refusal
returns-in_err-schema-clause-refusal c =
    let rows = rows_of (found_of c.args.found.now) in
    refused (λ m. m ≡ Memory) _ _ (inspected_uncounted rows c.requires c.in_err-schema.ensures.refusal)

pub returns-in_err-check_read_once-clause-refusal : goal.returns-in_err-check_read_once-clause-refusal
returns-in_err-check_read_once-clause-refusal c =
    let rows = rows_of (found_of c.args.found.now) in
    refused (λ m. m ≡ Memory) _ _
    (inspected_inputs rows _ _ c.requires c.in_ok-schema.ensures.ok ∙ c.in_err-check_read_once.ensures.refusal)

pub returns-clause-line : goal.returns-clause-line
returns-clause-line c =
    let rows = rows_of (found_of c.args.found.now) in
    inspected_inputs rows _ _ c.requires c.in_ok-schema.ensures.ok ∙ c.in_ok-check_read_once.ensures.ok
