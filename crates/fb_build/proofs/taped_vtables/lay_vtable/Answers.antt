use Rattle.std.proofs.Common.{ℕ, ◌≡◌, ◌<◌, ◌≤◌, ◌+◌, ◌-◌, ◌++◌, ◌∙◌, inl, inr, refl, ap, [], ◌∷◌, length}
use Rattle.std.proofs.Common.{slice_get, slice_index, Some, arith}
use Rattle.std.proofs.lemmas.Grind.{get_or_default_zero}
use Rattle.std.proofs.Common.{nat_lt, true, false}
use Rattle.std.proofs.lemmas.Bool.{lt-ltb}
use Rattle.std.proofs.lemmas.Bool.Decides.{nat_tests}
use Rattle.byteorder.specs.Endian.{little_bytes}
use Rattle.fb_build.specs.NumberedVtables.{come, IsVtableLaid}
use Rattle.fb_build.proofs.tail.WhatIsLaidStaysLaid.{grown_long}
use Rattle.fb_build.proofs.taped.VtablesComeInTurn.{key_come, come_more}
use Rattle.fb_build.proofs.vtables.VtableIsLaidOnce.{last_key, last_place, new_stands, new_way, old_way, shared_grown}
use Rattle.fb_build.proofs.vtables.VtableIsLaidOnce.{shared_more}
use Rattle.fb_build.proofs.taped_vtables.lay_vtable.Goals as goal

not_low : (a b : ℕ) → b ≤ a → nat_lt a b ≡ false
not_low a b low = grind (arith, nat_tests)

pub returns-then-number-len-clause-laid : goal.returns-then-number-len-clause-laid
returns-then-number-len-clause-laid c vtables is =
    let places = c.args.places.now.items in
    let old = c.args.out.now.bytes in
    let number = c.args.number in
    let at = slice_index places number in
    let low : number < length places = omega (arith, c.if-number-len.true, c.len.ensures) in
    let key = key_come vtables places number c.args.vtable.now is.is low in
    let stood = is.shared.stand number c.args.vtable.now key in
    let way : c.way_back.result ≡ 4294967296 - ((c.count-place.result + 4) - at) =
    (let read : c.index.result.now ≡ at = c.index.ensures ∙ get_or_default_zero places number c.index.result.now low in
    omega (arith, c.way_back.ensures, read)) in
    record {
      shared = shared_grown _ _ _ _ c.lay_u32.ensures.grows is.shared;
      laid = inl (record {
        key = number;
        number = c.way_back.result;
        is = key;
        some = stood.0;
        places = refl;
        bytes = c.lay_u32.ensures.bytes;
      });
      key = key;
      leads = old_way c.lay_u32.new.self.bytes old c.args.vtable.now (c.count-place.result + 4) at
          (c.lay_u32.ensures.bytes ∙ ap (λ n. little_bytes 4 n ++ old) way)
          (ap (λ n. n + 4) c.count-place.ensures.exact) stood.1 stood.0;
    }

pub returns-clause-laid : goal.returns-clause-laid
returns-clause-laid c vtables is =
    let places = c.args.places.now.items in
    let old = c.args.out.now.bytes in
    let s = c.lay_new.new.out.bytes in
    let vt = c.args.vtable.now in
    let e = c.count.result in
    let bytes = rw c.bytes.ensures.exact at c.lay_new.ensures.bytes in
    let last : length places ≡ c.args.number =
    omega (arith, c.if-number-len.false, c.len.ensures, c.requires.turn) in
    let here : slice_get vtables (length places) ≡ Some vt = rw last is.is in
    let more = come_more vtables places e vt here in
    let now = new_stands s old vt e bytes c.count.ensures.exact is.four is.even in
    let long = grown_long c.args.out.now c.lay_new.new.out c.lay_new.ensures.grows in
    let some : 0 < e = omega (arith, c.count.ensures.exact, c.lay_new.ensures.free, long) in
    let each = is.shared.each in
    let key : slice_get (come vtables places ++ (vt ∷ [])) (length places) ≡ Some vt =
    rw each at (last_key (come vtables places) vt) in
    let own : slice_index (places ++ (e ∷ [])) (length places) ≡ length s =
    last_place places e ∙ c.count.ensures.exact in
    let laid : IsVtableLaid vtables c.args.number vt places (places ++ (e ∷ [])) old s (c.count-place.result + 4) =
    record {
      shared = rw more (shared_more (come vtables places) places s vt e some now.0 now.1 is.told
          (shared_grown _ _ _ _ c.lay_new.ensures.grows is.shared));
      laid = inr (record {
        is = rw more key;
        places = ap (λ n. places ++ (n ∷ [])) c.count.ensures.exact;
        bytes = bytes;
      });
      key = rw (more, ← last) key;
      leads = rw (← last, own) (new_way s old vt (c.count-place.result + 4) bytes
          (ap (λ n. n + 4) c.count-place.ensures.exact) c.requires.short);
    } in
    rw c.push_reserved.ensures.items laid

pub lay_u32-requires : goal.lay_u32-requires
lay_u32-requires c =
    let low : nat_lt c.args.number (length c.args.places.now.items) ≡ true =
    lt-ltb _ _ (omega (arith, c.if-number-len.true, c.len.ensures)) in
    let room = rw low at c.requires.room in
    record { room = omega (arith, room) }

pub lay_new-requires-clause-room : goal.lay_new-requires-clause-room
lay_new-requires-clause-room c =
    let past : nat_lt c.args.number (length c.args.places.now.items) ≡ false =
    not_low _ _ (omega (arith, c.if-number-len.false, c.len.ensures)) in
    let room = rw past at c.requires.room in
    rw c.bytes.ensures.exact (omega (arith, room))

pub lay_new-requires-clause-short : goal.lay_new-requires-clause-short
lay_new-requires-clause-short c = rw c.bytes.ensures.exact c.requires.short
