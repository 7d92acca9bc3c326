use Rattle.std.proofs.Common.{arith}
use Rattle.markup.proofs.CharacterRuns.{passes, passes_none, blank_bars}
use Rattle.markup.proofs.reader.Reader.take_blanks.Goals as goal

pub pass-requires : goal.pass-requires
pass-requires c = omega (arith, c.requires (c.count_blanks-count.ensures.sound c.if-count-gt0.true), c.count_blanks-count.ensures.within)

pub returns-then-count-gt0-clause-taken : goal.returns-then-count-gt0-clause-taken
returns-then-count-gt0-clause-taken c limit bytes told h = (
  c.count_blanks-count.ensures.only.0,
  rw (c.pass.ensures, c.pass_characters.ensures) (passes c.args.self.now c.args.piece.now bytes told c.count_blanks-count.result c.count_blanks-count.result c.count_blanks-count.ensures.within c.count_blanks-count.ensures.only.0 c.count_blanks-count.ensures.only.1
      (c.count_blanks-count.ensures.ready c.if-count-gt0.true) (blank_bars c.args.self.now c.args.piece.now c.count_blanks-count.result c.if-count-gt0.true c.count_blanks-count.ensures.blank) c.if-count-gt0.true h),
)

pub returns-else-count-gt0-clause-taken : goal.returns-else-count-gt0-clause-taken
returns-else-count-gt0-clause-taken c limit bytes told h = (
  c.count_blanks-count.ensures.only.0,
  passes_none c.args.self.now c.args.piece.now bytes told c.count_blanks-count.result c.count_blanks-count.result c.if-count-gt0.false c.count_blanks-count.ensures.only.0 h,
)
