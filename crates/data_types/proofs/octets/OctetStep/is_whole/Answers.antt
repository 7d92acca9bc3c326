use Rattle.std.proofs.Common.{◌≡◌, ◌<◌, [], take, length, ap, subst, sym, arith, rules}
use Rattle.std.proofs.lemmas.Bool.Decides.{nat_tests}
use Rattle.std.proofs.lemmas.List.{length-take-le}
use Rattle.data_types.specs.declared.octets.Stage.{Stage}
use Rattle.data_types.specs.OctetSteps.{RestIn}
use Rattle.data_types.proofs.OctetLemmas.{whole_open, none_open}
use Rattle.data_types.proofs.octets.OctetStep.is_whole.Goals as goal

pub returns-in-Open-clause-yes : goal.returns-in-Open-clause-yes
returns-in-Open-clause-yes c = λ h octets.
    let s = c.args.self.now in
    let none : s.count ≡ 0 = grind (arith, nat_tests, h) in
    subst (λ (stage : Stage). RestIn stage octets (take s.count s.group) [] octets) (sym c.in-Open.is)
    (whole_open octets (take s.count s.group) octets (ap (λ n. take n s.group) none))

pub returns-in-Open-clause-no : goal.returns-in-Open-clause-no
returns-in-Open-clause-no c = λ h octets all r.
    let s = c.args.self.now in
    let some : 0 < s.count = grind (arith, nat_tests, h) in
    let few = s.few in
    let four : length s.group ≡ 4 = search rules in
    let size : length (take s.count s.group) ≡ s.count = length-take-le s.count s.group (omega (arith, few, four)) in
    none_open octets (take s.count s.group) all (omega (arith, size, some)) (omega (arith, size, few))
    (subst (λ (stage : Stage). RestIn stage octets (take s.count s.group) [] all) c.in-Open.is r)
