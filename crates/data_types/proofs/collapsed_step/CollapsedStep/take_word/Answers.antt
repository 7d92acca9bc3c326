use Rattle.std.proofs.Common.{arith}
use Rattle.std.proofs.lemmas.Bool.Decides.{nat_tests}
use Rattle.data_types.proofs.collapsed_step.CollapsedStep.take_word.Goals as goal

pub returns : goal.returns
returns c = record {
  taken = λ kind most before (collapsed, has, value).
      let is_none = c.if-is_empty.false in
      let says = c.is_empty.ensures in (
        _,
        c.take_word-gap.ensures before collapsed c.args.word.now (record { some = grind (arith, nat_tests); no_space = c.requires.word }) has,
        c.take_word.ensures.taken kind most before collapsed value,
      );
  room = c.take_word.ensures.room;
  count = c.take_word.ensures.count;
}
