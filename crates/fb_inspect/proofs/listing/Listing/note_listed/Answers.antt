use Rattle.std.proofs.Common.{refl, sym, inl}
use Rattle.std.proofs.lemmas.List.{drop-drop}
use Rattle.fb_inspect.proofs.listing.Listing.note_listed.Goals as goal

pub returns-then-turn : goal.returns-then-turn
returns-then-turn c =
    record {
      same = refl;
      goes_on = inl (sym (drop-drop 1 c.args.self.now.next c.args.self.now.pieces.items), refl);
    }
