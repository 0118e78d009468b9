use Rattle.fb_value.specs.Holds.{root_at, front_of}
use Rattle.fb_value.specs.Places.{table_part, ref_place}
use Rattle.fb_read.specs.Walks.{place, limits_of}
use Rattle.fb_read.proofs.reader.RootVisitDecides.{visit_finds, entered_more, enters_refused}
use Rattle.fb_read.proofs.visit_tables.EndsAtAPlace.{ends_given, ends_counted, ends_reached, ends_heard}
use Rattle.fb_read.proofs.visit_tables.EndsAtAPlace.{ends_whole}
use Rattle.fb_read.proofs.reader.ticks.visit_buffer.Goals as goal

pub returns-clause-finds : goal.returns-clause-finds
returns-clause-finds g c =
    let buffer = c.args.buffer.now in
    let L = buffer.layout.now in
    let given = rw (c.root-root.ensures, c.front_of.ensures.exact, c.schema.ensures.schema) at
    (ends_given g.H.Hearer.told buffer (place (ref_place (table_part c.root-root.result.0)) c.front_of.result) 0 _ _
    c.visit_table_behind-visited.result c.visit_table_behind-visited.ensures) in
    visit_finds L buffer.bytes.now (limits_of buffer) (root_at L (front_of c.args.prefixed)) 0 0 _
    c.visit_table_behind-visited.result given

pub returns-clause-each : goal.returns-clause-each
returns-clause-each g c =
    let buffer = c.args.buffer.now in
    let counted = rw (c.root-root.ensures, c.front_of.ensures.exact, c.schema.ensures.schema) at
    (ends_counted g.H.Hearer.told buffer (place (ref_place (table_part c.root-root.result.0)) c.front_of.result) 0 _ _
    c.visit_table_behind-visited.result c.visit_table_behind-visited.ensures) in
    entered_more buffer (root_at buffer.layout.now (front_of c.args.prefixed)) _ _ _ _
    c.visit_table_behind-visited.result c.new.ensures c.add_to.ensures counted

pub returns-clause-refused : goal.returns-clause-refused
returns-clause-refused g c =
    let buffer = c.args.buffer.now in
    let comes = rw (c.root-root.ensures, c.front_of.ensures.exact, c.schema.ensures.schema) at
    (ends_reached g.H.Hearer.told buffer (place (ref_place (table_part c.root-root.result.0)) c.front_of.result) 0 _ _
    c.visit_table_behind-visited.result c.visit_table_behind-visited.ensures) in
    enters_refused g.H.Hearer.told buffer (root_at buffer.layout.now (front_of c.args.prefixed)) _ _ _ _ _ _
    c.visit_table_behind-visited.result comes c.new.ensures c.add_to.ensures

pub returns-clause-hears : goal.returns-clause-hears
returns-clause-hears g c =
    rw (c.root-root.ensures, c.front_of.ensures.exact, c.schema.ensures.schema) at
    (ends_heard g.H.Hearer.told c.args.buffer.now
    (place (ref_place (table_part c.root-root.result.0)) c.front_of.result) 0 _ _ c.visit_table_behind-visited.result
    c.visit_table_behind-visited.ensures)

pub returns-clause-whole : goal.returns-clause-whole
returns-clause-whole g c =
    rw (c.root-root.ensures, c.front_of.ensures.exact, c.schema.ensures.schema) at
    (ends_whole g.H.Hearer.told c.args.buffer.now
    (place (ref_place (table_part c.root-root.result.0)) c.front_of.result) 0 _ _ c.visit_table_behind-visited.result
    c.visit_table_behind-visited.ensures)
