use Rattle.std.proofs.Common.{Some, None, ap, sym, ◌∙◌, arith, rules}
use Rattle.std.proofs.lemmas.Str.Pattern.{split_parts}
use Rattle.std.specs.Int.{w128, cast_signed}
use Rattle.fb_schema.specs.Paths.{number_by_path}
use Rattle.fb_json.specs.Flags.{flags_named, words}
use Rattle.fb_json.proofs.flags.WordsEndAtBlanks.{flag_taken, flag_last, none_named, none_last, or_bits}
use Rattle.fb_json.proofs.flags.flags_of.Goals as goal

pub returns-in_err-flags : goal.returns-in_err-flags
returns-in_err-flags c =
    let flag = number_by_path c.args.schema.now c.args.enumeration.0 in
    let parts = split_parts 32 c.loop-name.left.now (Some (c.in-Some.name, c.in-Some.rest)) c.in-Some.ensures.cases
    (omega arith) in
    c.from_residual.ensures
    ∙ (sym (none_named flag (cast_signed w128 c.loop-name.flags-bits) c.loop-name.left.now c.in-Some.name.now
    c.in-Some.rest.now parts.0 parts.1 c.in_err-flags.ensures) ∙ c.loop-name.invariant.so_far)

pub loop-name-preserved : goal.loop-name-preserved
loop-name-preserved c =
    let flag = number_by_path c.args.schema.now c.args.enumeration.0 in
    let parts = split_parts 32 c.loop-name.left.now (Some (c.in-Some.name, c.in-Some.rest)) c.in-Some.ensures.cases
    (omega arith) in
    let joined = or_bits c.loop-name.flags-bits c.in_ok-flags.field-0 c.loop-name.auto.flags-fits in
    record {
      utf8 = search rules;
      so_far = ap (λ n. flags_named flag n (words c.in-Some.rest.now)) joined
          ∙ (sym (flag_taken flag (cast_signed w128 c.loop-name.flags-bits) c.in_ok-flags.field-0 c.loop-name.left.now
          c.in-Some.name.now c.in-Some.rest.now parts.0 parts.1 c.in_ok-flags.ensures) ∙ c.loop-name.invariant.so_far);
    }

pub returns-in_err-number_by_path : goal.returns-in_err-number_by_path
returns-in_err-number_by_path c =
    let flag = number_by_path c.args.schema.now c.args.enumeration.0 in
    let parts = split_parts 32 c.loop-name.left.now None c.in_default.ensures.cases (omega arith) in
    c.from_residual-in_err-number_by_path.ensures
    ∙ (sym (none_last flag (cast_signed w128 c.loop-name.flags-bits) c.loop-name.left.now parts
    c.in_err-number_by_path.ensures) ∙ c.loop-name.invariant.so_far)

pub returns : goal.returns
returns c =
    let flag = number_by_path c.args.schema.now c.args.enumeration.0 in
    let parts = split_parts 32 c.loop-name.left.now None c.in_default.ensures.cases (omega arith) in
    ap Some (or_bits c.loop-name.flags-bits c.in_ok-number_by_path.field-0 c.loop-name.auto.flags-fits)
    ∙ (sym (flag_last flag (cast_signed w128 c.loop-name.flags-bits) c.in_ok-number_by_path.field-0 c.loop-name.left.now
    parts c.in_ok-number_by_path.ensures) ∙ c.loop-name.invariant.so_far)
