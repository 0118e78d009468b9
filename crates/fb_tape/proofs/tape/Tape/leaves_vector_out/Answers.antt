use Rattle.std.proofs.Common.{◌≡◌, drop, length, ap, sym, ◌∙◌, arith}
use Rattle.std.proofs.lemmas.Bool.{eq-eqb, eqb-true}
use Rattle.std.proofs.lemmas.List.{drop_all, length-drop}
use Rattle.fb_tape.specs.Tapes.{Taped}
use Rattle.fb_tape.proofs.tape.Tape.leaves_vector_out.Goals as goal

pub returns : goal.returns
returns c =
    let n = c.self.inside.finished in
    let bytes = c.self.inside.bytes.items in
    let held : drop n bytes ≡ c.args.self.now.unfinished = ap (λ (t : Taped). t.unfinished) c.self.view_is in
    record {
      exact = (
        λ over. let same = eqb-true c.len.result n over in
            sym held ∙ drop_all n bytes (omega (arith, same, c.len.ensures)),
        λ none. let left = length-drop n bytes in
            eq-eqb c.len.result n
            (omega (arith, left, ap length (held ∙ none), c.self.invariant.within, c.len.ensures)),
      );
    }
