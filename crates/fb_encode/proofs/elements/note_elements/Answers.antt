use Rattle.std.proofs.Common.{◌∙◌, length, subst}
use Rattle.fb_encode.proofs.elements.InlineVectorIsNoted.{Begins, Closes, inline_vector_noted}
use Rattle.fb_encode.proofs.elements.note_elements.Goals as goal

pub returns-clause-noted : goal.returns-clause-noted
returns-clause-noted c =
    let L = c.args.source.layout.now in
    let kind = c.args.kind in
    let total = length c.args.elements.now in
    let a = c.args.tape.now in
    let b = c.open_vector.new.self in
    let d = c.push_elements.new.tape in
    let opened = c.in_ok-open_vector.ensures in
    let closed = c.in_ok-close_vector.ensures in
    let h = c.in_ok-left.ensures.added in
    let begins : Begins kind total a b a.layout = record {
      waits = opened.waits;
      begun = opened.begun;
      room = opened.room;
      layout = c.open_vector.ensures.layout;
    } in
    let closes : Closes kind total d c.close_vector.new.self d.layout = record {
      waits = closed.waits;
      room = closed.room;
      whole = closed.whole;
      layout = c.close_vector.ensures.layout;
    } in
    inline_vector_noted L kind _ total a b d c.close_vector.new.self c.in_ok-left.left c.requires.element
    c.requires.inline (subst (Begins kind total a b) c.requires.layout begins) h
    (subst (Closes kind total d c.close_vector.new.self)
    (h.adds.layout ∙ c.open_vector.ensures.layout ∙ c.requires.layout) closes)
