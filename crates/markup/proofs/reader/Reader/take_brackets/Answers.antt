use Rattle.std.proofs.Common.{◌<◌, arith}
use Rattle.markup.proofs.BracketRuns.{passes_brackets, brackets_blank}
use Rattle.markup.proofs.reader.Reader.take_brackets.Goals as goal

pub pass-requires : goal.pass-requires
pass-requires c =
    let s : 0 < c.count_brackets-count.result = (let k = c.if-count-eq0.false in omega (arith, k)) in
    omega (arith, c.requires (c.count_brackets-count.ensures.sound s), c.count_brackets-count.ensures.within)

pub returns-clause-only : goal.returns-clause-only
returns-clause-only c = c.count_brackets-count.ensures.only.0

pub returns-clause-blank : goal.returns-clause-blank
returns-clause-blank c =
    let s : 0 < c.count_brackets-count.result = (let k = c.if-count-eq0.false in omega (arith, k)) in
    brackets_blank _ _ c.count_brackets-count.ensures.only s

pub returns-clause-taken : goal.returns-clause-taken
returns-clause-taken c limit bytes told h =
    let s : 0 < c.count_brackets-count.result = (let k = c.if-count-eq0.false in omega (arith, k)) in (
      c.count_brackets-count.ensures.only.0,
      rw (c.pass.ensures, c.pass_brackets.ensures) (passes_brackets c.args.self.now c.args.piece.now bytes told c.count_brackets-count.result c.count_brackets-count.ensures.within c.count_brackets-count.ensures.only.0 c.count_brackets-count.ensures.only.1
          (c.count_brackets-count.ensures.ready s) (c.count_brackets-count.ensures.inside s) s h),
    )
