use Rattle.std.proofs.Common.{◌≡◌, ◌≢◌, OnOk, Result, Ok, Err, true, get_or, sym}
use Rattle.std.proofs.lemmas.List.{take_all}
use Rattle.std.specs.Path.{path_buf_bytes}
use Rattle.flatc_files.specs.Targets.{has_path, inputs_of}
use Rattle.flatc_files.proofs.Paths.{All-map-more, AllPairs-map-more, apart, differ_all, is_added, kept_all, was_absent}
use Rattle.flatc_files.proofs.targets.check_distinct.Goals as goal

if_ok : {T E P Q : Type 0} (result : Result T E) → (P → Q) → OnOk result P → OnOk result Q
if_ok (Ok value) follows fact = follows fact
if_ok (Err error) follows fact = fact

always : {T E P : Type 0} (result : Result T E) → P → OnOk result P
always (Ok value) fact = fact
always (Err error) fact = tt

pub loop-path-preserved : goal.loop-path-preserved
loop-path-preserved c =
    let paths = c.args.paths.now in
    let added = c.in_ok-insert.ensures in
    let new = was_absent c.loop-path.met c.as_str.result _ added.added c.if-not-branch.false in
    let here : path_buf_bytes (get_or paths c.loop-path.path-index c.path-item.result) ≡ c.as_str.result.now
    = rw (← c.path-item.is) (sym c.as_str.ensures) in
    let others = differ_all c.loop-path.met _ new _ c.loop-path.invariant.met in
    let kept = kept_all c.loop-path.met c.insert.new.self c.as_str.result added.updates _ c.loop-path.invariant.met in
    let is_in = is_added c.loop-path.met c.insert.new.self c.as_str.result added.updates in
    record {
      distinct = AllPairs-map-more (λ a b. a ≢ b) path_buf_bytes paths c.loop-path.path-index c.path-item.result
          c.loop-path-test.true c.loop-path.invariant.distinct (rw here others);
      met = All-map-more (λ output. has_path c.insert.new.self output ≡ true) path_buf_bytes paths
          c.loop-path.path-index c.path-item.result c.loop-path-test.true kept (rw here is_in);
    }

pub returns-clause-distinct : goal.returns-clause-distinct
returns-clause-distinct c =
    let end = take_all c.loop-path.path-index c.args.paths.now c.loop-path-test.false in
    always _ (rw end at c.loop-path.invariant.distinct)

pub returns-clause-apart : goal.returns-clause-apart
returns-clause-apart c =
    let end = take_all c.loop-path.path-index c.args.paths.now c.loop-path-test.false in
    let all = rw end at c.loop-path.invariant.met in
    if_ok _ (λ checked. apart c.loop-path.met (inputs_of c.args.schema.now c.args.files.now) _ checked all) c.check_inputs.ensures
