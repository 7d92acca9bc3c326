use Rattle.std.proofs.Common.{◌++◌, sym, ap, subst, arith, ◌∙◌}
use Rattle.respell.specs.FragmentChecks.{IsReadBy}
use Rattle.respell.specs.declared.fragment_check.FragmentCheck.{FragmentCheck}
use Rattle.respell.proofs.CheckedFragments.{read_of, same_place, taken_more, none_more}
use Rattle.respell.proofs.fragment_check.FragmentCheck.take.Goals as goal
use Rattle.respell.proofs.fragment_check.FragmentCheck.take.Goals.{in-Some+in_ok-goes_on-in-Some, in-None}

pub returns-else-not-goes_on : goal.returns-else-not-goes_on
returns-else-not-goes_on c before h =
    let short = c.requires.2 in
    let same = same_place c.args.self.now c.requires.0 before c.requires.1 h in
    elim c.match-self.branch [
      | in-Some+in_ok-goes_on-in-Some w ↦ taken_more c.args.self.now c.match-self.self before c.args.bytes.now h (ap (λ (k : FragmentCheck). k.place) w.self-is) (omega (arith, short, same))
          (subst (λ (k : FragmentCheck). IsReadBy k.reading k.waiting.items (before ++ c.args.bytes.now)) (sym w.self-is) (w.in_ok-goes_on-in-Some.ensures.goes_on before (read_of c.args.self.now w.in-Some.reader before w.in-Some.is h) (sym w.goes_on-is ∙ c.if-not-goes_on.false)))
      | in-None w ↦ taken_more c.args.self.now c.match-self.self before c.args.bytes.now h (ap (λ (k : FragmentCheck). k.place) w.self-is) (omega (arith, short, same))
          (subst (λ (k : FragmentCheck). IsReadBy k.reading k.waiting.items (before ++ c.args.bytes.now)) (sym w.self-is) (none_more c.args.self.now before c.args.bytes.now w.in-None.is h))
    ]
