use Rattle.std.proofs.Common.{arith}
use Rattle.markup.proofs.CharacterRuns.{passes, passes_none, literal_bars, literal_within, unbarred}
use Rattle.markup.proofs.reader.Reader.take_characters.Goals as goal

pub returns-then-begins_with_bracket-clause-all : goal.returns-then-begins_with_bracket-clause-all
returns-then-begins_with_bracket-clause-all c limit bytes told h = (let e = c.begins_with_bracket.ensures c.if-begins_with_bracket.true in literal_within c.args.piece.now _ (omega (arith, e)))

pub returns-then-begins_with_bracket-clause-closer : goal.returns-then-begins_with_bracket-clause-closer
returns-then-begins_with_bracket-clause-closer c limit bytes told h n = (let e = c.begins_with_bracket.ensures c.if-begins_with_bracket.true in omega (arith, e))

pub returns-then-run-gt0-clause-all : goal.returns-then-run-gt0-clause-all
returns-then-run-gt0-clause-all c limit bytes told h = literal_bars c.args.self.now c.args.piece.now _ (c.count_characters-run.ensures.all limit bytes told h)

pub returns-else-run-gt0-clause-all : goal.returns-else-run-gt0-clause-all
returns-else-run-gt0-clause-all c limit bytes told h = literal_bars c.args.self.now c.args.piece.now _ (c.count_characters-run.ensures.all limit bytes told h)

pub returns-then-run-gt0-clause-closer : goal.returns-then-run-gt0-clause-closer
returns-then-run-gt0-clause-closer c limit bytes told h n = c.count_characters-run.ensures.all limit bytes told h (unbarred c.args.self.now bytes c.args.piece.now told h n)

pub returns-else-run-gt0-clause-closer : goal.returns-else-run-gt0-clause-closer
returns-else-run-gt0-clause-closer c limit bytes told h n = c.count_characters-run.ensures.all limit bytes told h (unbarred c.args.self.now bytes c.args.piece.now told h n)

pub pass-requires : goal.pass-requires
pass-requires c = omega (arith, c.requires (c.count_characters-run.ensures.sound c.if-run-gt0.true), c.count_characters-run.ensures.within)

pub returns-then-run-gt0-clause-taken : goal.returns-then-run-gt0-clause-taken
returns-then-run-gt0-clause-taken c limit bytes told h = (
  c.count_characters-run.ensures.only.0,
  rw (c.pass.ensures, c.pass_characters.ensures) (passes c.args.self.now c.args.piece.now bytes told c.count_characters-run.result.bytes c.count_characters-run.result.characters c.count_characters-run.ensures.within c.count_characters-run.ensures.only.0 c.count_characters-run.ensures.only.1
      (c.count_characters-run.ensures.ready c.if-run-gt0.true) (c.count_characters-run.ensures.free c.if-run-gt0.true) c.if-run-gt0.true h),
)

pub returns-else-run-gt0-clause-taken : goal.returns-else-run-gt0-clause-taken
returns-else-run-gt0-clause-taken c limit bytes told h = (
  c.count_characters-run.ensures.only.0,
  passes_none c.args.self.now c.args.piece.now bytes told c.count_characters-run.result.bytes c.count_characters-run.result.characters c.if-run-gt0.false c.count_characters-run.ensures.only.0 h,
)
