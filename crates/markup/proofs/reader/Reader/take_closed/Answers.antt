use Rattle.std.proofs.Common.{◌<◌, arith}
use Rattle.markup.proofs.ClosedBrackets.{passes_closed, closed_blank}
use Rattle.markup.proofs.CharacterRuns.{passes_none}
use Rattle.markup.proofs.LiteralRuns.{no_run}
use Rattle.markup.proofs.reader.Reader.take_closed.Goals as goal

pub returns-then-count-eq0-clause-only : goal.returns-then-count-eq0-clause-only
returns-then-count-eq0-clause-only c = no_run.0

pub returns-then-count-eq0-clause-taken : goal.returns-then-count-eq0-clause-taken
returns-then-count-eq0-clause-taken c limit bytes told h = (no_run.0, passes_none c.args.self.now c.args.piece.now bytes told 0 0 (omega arith) no_run.0 h)

pub pass-requires : goal.pass-requires
pass-requires c =
    let s : 0 < c.count_closed-count.result = (let k = c.if-count-eq0.false in omega (arith, k)) in
    omega (arith, c.requires (c.count_closed-count.ensures.sound s), c.count_closed-count.ensures.within)

pub returns-clause-only : goal.returns-clause-only
returns-clause-only c =
    let s : 0 < c.count_closed-count.result = (let k = c.if-count-eq0.false in omega (arith, k)) in
    (c.count_closed-count.ensures.only s).run

pub returns-clause-blank : goal.returns-clause-blank
returns-clause-blank c =
    let s : 0 < c.count_closed-count.result = (let k = c.if-count-eq0.false in omega (arith, k)) in
    closed_blank _ _ (c.count_closed-count.ensures.only s)

pub returns-clause-taken : goal.returns-clause-taken
returns-clause-taken c limit bytes told h =
    let s : 0 < c.count_closed-count.result = (let k = c.if-count-eq0.false in omega (arith, k)) in (
      (c.count_closed-count.ensures.only s).run,
      rw (c.pass.ensures, c.pass_characters.ensures) (passes_closed c.args.self.now c.args.piece.now bytes told c.count_closed-count.result c.count_closed-count.ensures.within (c.count_closed-count.ensures.only s) (c.count_closed-count.ensures.ready s) h),
    )
