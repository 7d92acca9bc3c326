use Rattle.markup.proofs.ResultLemmas.{is_true, is_false}
use Rattle.markup.proofs.ReaderLemmas.{finish_open, finish_cut, finish_whole}
use Rattle.markup.proofs.reader.Reader.is_whole.Goals as goal

pub returns-in-Open-clause-cut : goal.returns-in-Open-clause-cut
returns-in-Open-clause-cut c limit bytes told h _ = finish_open c.args.self.now bytes told h c.finish.result c.finish.ensures c.in-Open.is

pub returns-in_default : goal.returns-in_default
returns-in_default c = record {
  whole = λ limit bytes told h t. finish_whole c.args.self.now bytes told h c.finish.result c.finish.ensures c.in_default.not-Open (is_true _ _ (c.is_over.ensures _ h.1.context) t);
  cut = λ limit bytes told h t. finish_cut c.args.self.now bytes told h c.finish.result c.finish.ensures c.in_default.not-Open (is_false _ _ (c.is_over.ensures _ h.1.context) t);
}
