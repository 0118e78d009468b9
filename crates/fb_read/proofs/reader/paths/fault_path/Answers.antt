use Rattle.std.proofs.Common.{◌≡◌, List, [], ◌++◌, reverse, inl, inr, map, ap, ◌∙◌}
use Rattle.std.proofs.lemmas.List.{reverse-reverse}
use Rattle.fb_value.specs.Holds.{front_of, root_at}
use Rattle.fb_read.specs.FaultPaths.{number_of}
use Rattle.fb_read.proofs.reader.RootVisitDecides.{no_fault, enters_along, leads_in_bytes}
use Rattle.fb_read.proofs.reader.paths.fault_path.Goals as goal

-- Steps heard on the way back are those of the way there.
told_steps : {A : Type 0} (first last found steps : List A) → first ≡ [] → last ≡ first ++ reverse steps
    → found ≡ reverse last → found ≡ steps
told_steps first last found steps none heard turned = turned ∙ ap reverse heard
    ∙ (rw none (reverse-reverse steps))

pub returns-in_default-clause-path : goal.returns-in_default-clause-path
returns-in_default-clause-path c = inl (c.in_default.field-0, c.in_default.ensures.front)

pub returns-in-Ok-visited-clause-path : goal.returns-in-Ok-visited-clause-path
returns-in-Ok-visited-clause-path c =
    let same = c.in-Ok.ensures.buffer in
    let fine = rw (same.layout, same.bytes, same.depth, same.cells) at
    (rw c.in-Ok-visited.is at c.visit_buffer-trail.ensures.finds) in
    inr (no_fault (front_of c.args.framing.prefixed) _ c.args.layout.now c.args.limits c.args.bytes.now
    c.in-Ok.ensures.front fine)

pub returns-in_ok-into_steps-in-Err-clause-path : goal.returns-in_ok-into_steps-in-Err-clause-path
returns-in_ok-into_steps-in-Err-clause-path c =
    let same = c.in-Ok.ensures.buffer in
    let found = c.in_ok-into_steps-in-Err.ensures in
    let hears = rw c.in-Err.is at c.visit_buffer-trail.ensures.hears in
    let told = leads_in_bytes _ c.args.layout.now c.args.bytes.now c.args.limits c.in-Ok.buffer
    (front_of c.args.framing.prefixed) _ _ same hears in
    let heard = told.2 found.0 in
    let steps = told_steps _ _ c.in_ok-into_steps-in-Err.field-0.items told.0 c.new.ensures heard.1 found.1 in
    (told.1, rw steps (record { header = c.in-Ok.ensures.front; least = told.3.0; each = told.3.1 }))

pub returns-in_ok-into_steps-in-Err-clause-each : goal.returns-in_ok-into_steps-in-Err-clause-each
returns-in_ok-into_steps-in-Err-clause-each c =
    let same = c.in-Ok.ensures.buffer in
    let found = c.in_ok-into_steps-in-Err.ensures in
    let hears = rw c.in-Err.is at c.visit_buffer-trail.ensures.hears in
    let told = leads_in_bytes _ c.args.layout.now c.args.bytes.now c.args.limits c.in-Ok.buffer
    (front_of c.args.framing.prefixed) _ _ same hears in
    let heard = told.2 found.0 in
    let enters = rw (same.layout, same.bytes, same.depth, same.cells) at
    (rw c.in-Err.is at c.visit_buffer-trail.ensures.refused) in
    let steps = told_steps _ _ c.in_ok-into_steps-in-Err.field-0.items told.0 c.new.ensures heard.1 found.1 in
    rw steps (enters_along c.args.layout.now c.args.bytes.now c.args.limits
    (root_at c.args.layout.now (front_of c.args.framing.prefixed)) (map number_of told.0) _ told.1 _ _ enters told.3.0)
