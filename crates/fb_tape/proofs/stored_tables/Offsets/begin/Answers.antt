use Rattle.std.proofs.Common.{◌≡◌, ◌∙◌, ◌+◌, ◌*◌, ◌/◌, replicate, ap}
use Rattle.fb_value.specs.Num.{Bytes}
use Rattle.fb_tape.specs.StoredTables.{put_number}
use Rattle.fb_tape.proofs.stored_tables.OffsetsArePut.{sizes_put}
use Rattle.fb_tape.proofs.stored_tables.Offsets.begin.Goals as goal

pub returns-clause-begun : goal.returns-clause-begun
returns-clause-begun c =
    let size = 4 + (c.args.fields_size + 3) / 4 * 4 in
    let long = 4 + 2 * c.args.slots in
    let own : c.put_u16.new.bytes.items ≡ put_number (replicate long 0) 0 long =
    c.put_u16.ensures.put ∙ ap (λ (bs : Bytes). put_number bs 0 long) c.in_ok-set_zeros.ensures.zeros in
    c.put_u16-2.ensures.put ∙ ap (λ (bs : Bytes). put_number bs 2 size) own ∙ sizes_put size c.args.slots
