use Rattle.std.proofs.Common.{◌≡◌, ◌∙◌, ℕ, ◌++◌, List, [], ◌∷◌, false, Option, None, Some, rules, ap, sym, subst, refl}
use Rattle.std.specs.Option.{option_map}
use Rattle.std.proofs.lemmas.List.{append-nil, append_assoc}
use Rattle.fb_schema.specs.Schema.{Name}
use Rattle.fb_schema.specs.WellDeclared.{names_of}
use Rattle.fb_schema.specs.declared.kinds.TypeId.{TypeId}
use Rattle.fb_resolve.specs.ResolvedFields.{ResolvedField}
use Rattle.fb_resolve.specs.SlotsRead.{union_in, name_of_code, slots_by_union, slots_of_field}
use Rattle.fb_declare.specs.Faults.{earlier, least_of}
use Rattle.fb_declare.specs.FaultRows.{faults_behind, name_again}
use Rattle.fb_declare.specs.NameSet.{AreMet}
use Rattle.fb_declare.specs.TypeFaults.{names_of_field}
use Rattle.fb_declare.proofs.Least.{least_of_append}
use Rattle.fb_declare.proofs.field_faults.names_fault.Goals as goal
use Rattle.fb_declare.proofs.field_faults.names_fault.Goals.{in-Table-Some+in_ok-code_again-in-Table-Some, in_default}
use Rattle.fb_declare.proofs.field_faults.names_fault.Goals.{in_default-2}

one : (at : ℕ) (before : List Name) (n : Name)
    → least_of (faults_behind (name_again at) before (n ∷ [])) ≡ least_of (name_again at before n)
one at before n = ap least_of (append-nil (name_again at before n))

two : (at : ℕ) (before : List Name) (m n : Name)
    → least_of (faults_behind (name_again at) before (m ∷ n ∷ [])) ≡ earlier (least_of (name_again at before m))
    (least_of (name_again at (before ++ m ∷ []) n))
two at before m n = ap (λ fs. least_of (name_again at before m ++ fs)) (append-nil (name_again at (before ++ m ∷ []) n))
    ∙ least_of_append (name_again at before m) (name_again at (before ++ m ∷ []) n)

names_by : (r : ResolvedField) (u : Option TypeId) → union_in r ≡ u
    → names_of (slots_of_field r 0) ≡ names_of (slots_by_union r u 0)
unfolding slots_of_field
names_by r u e = ap (λ u. names_of (slots_by_union r u 0)) e

pub returns : goal.returns
returns c = λ before met.
    let r = c.args.resolved.now in
    let n = r.field.name.bytes in
    let at = r.field.name.at in
    let text : c.name.inside.text.now ≡ n = grind rules in
    let place : c.name.inside.at ≡ at = grind rules in
    let Told = λ (ns : List Name). (c.earlier_fault.result ≡ least_of (faults_behind (name_again at) before ns))
    × AreMet c.meet-2.new.self (before ++ ns) in
    let union : option_map (λ x. x.union) c.resolved.inside.code ≡ union_in r = grind rules in
    let alone : c.match-host.code_again ≡ false → c.match-host.met ≡ c.args.met.now → Told (n ∷ []) = λ none same.
    let last = rw text at (c.in_ok-again.ensures before (rw same met)) in (
      rw (c.earlier_fault.ensures, c.fault_if.ensures, c.fault_if-2.ensures, none, last.0, place, one at before n)
          refl,
      last.1,
    ) in
    elim c.match-host.branch [
      | in-Table-Some+in_ok-code_again-in-Table-Some w ↦
          let x = w.in-Table-Some in
          let m = name_of_code n in
          let code : w.as_str.result.now ≡ m = grind rules in
          let first = rw code at (w.in_ok-code_again-in-Table-Some.ensures before met) in
          let last = rw text at (c.in_ok-again.ensures (before ++ m ∷ [])
          (rw w.met-is first.1)) in
          subst Told (sym (ap (λ h. names_of_field h r) x.is-0
          ∙ names_by r (Some x.code.union) (sym union ∙ ap (option_map (λ x. x.union)) x.is-1))) (
            rw (
              c.earlier_fault.ensures,
              c.fault_if.ensures,
              c.fault_if-2.ensures,
              w.code_again-is,
              first.0,
              last.0,
              place,
              two at before m n,
            ),
            subst (AreMet c.meet-2.new.self) (append_assoc before (m ∷ []) (n ∷ [])) last.1,
          )
      | in_default w ↦ subst Told (sym (ap (λ h. names_of_field h r) w.in_default.is-0
          ∙ names_by r None (sym union ∙ ap (option_map (λ x. x.union)) w.in_default.is-1)))
          (alone w.code_again-is w.met-is)
      | in_default-2 w ↦ subst Told (sym (ap (λ h. names_of_field h r) w.in_default.is-0))
          (alone w.code_again-is w.met-is)
    ]
