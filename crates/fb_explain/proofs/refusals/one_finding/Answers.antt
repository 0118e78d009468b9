use Rattle.std.proofs.Common.{refl}
use Rattle.fb_faults.specs.declared.faults.ToolFault.TheVariants as the_faults
use Rattle.fb_explain.specs.Refusals.{text_of}
use Rattle.fb_explain.proofs.Placed.{placed_anywhere}
use Rattle.fb_explain.proofs.refusals.one_finding.Goals as goal

pub returns-in-FileRead-clause-place : goal.returns-in-FileRead-clause-place
returns-in-FileRead-clause-place c =
    let text = text_of c.args.fault c.args.sources.now in
    placed_anywhere the_faults.FileRead text c.file_finding.result refl c.file_finding.ensures.fault
    (c.file_finding.ensures.line text)

pub returns-in-FileWrite-clause-place : goal.returns-in-FileWrite-clause-place
returns-in-FileWrite-clause-place c =
    let text = text_of c.args.fault c.args.sources.now in
    placed_anywhere the_faults.FileWrite text c.file_finding-in-FileWrite.result refl c.file_finding-in-FileWrite.ensures.fault
    (c.file_finding-in-FileWrite.ensures.line text)

pub returns-in-FileTooLong-clause-place : goal.returns-in-FileTooLong-clause-place
returns-in-FileTooLong-clause-place c =
    let text = text_of c.args.fault c.args.sources.now in
    placed_anywhere the_faults.FileTooLong text c.file_finding-in-FileTooLong.result refl c.file_finding-in-FileTooLong.ensures.fault
    (c.file_finding-in-FileTooLong.ensures.line text)
