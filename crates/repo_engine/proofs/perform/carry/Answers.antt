use Rattle.std.proofs.Common.{inl, refl}
use Rattle.repo_engine.specs.Answer.{FromRepository, Lists}
use Rattle.repo_engine.specs.Sources.{before, used, unused, of_source}
use Rattle.repo_engine.proofs.FileVerdicts.{instance_apart}
use Rattle.repo_engine.proofs.Pulls.{files_soon, no_instance, no_files, stops_soon, unrefused}
use Rattle.repo_engine.proofs.Steps.{if_err}
use Rattle.repo_engine.proofs.perform.carry.Goals as goal

pub returns-in-List : goal.returns-in-List
returns-in-List g c = rw c.in-List.is (record {
  no_words = c.list.ensures.no_words;
  sources = used refl (before c.list.ensures.sources refl (λ _. refl));
  repository_verdict = c.list.ensures.repository;
  files_verdict = λ r bytes left. tt;
  verdict = λ r bytes i left. c.list.ensures.verdict r bytes (record { repository = left.files.repository refl; codes = left.files.codes });
  files_pulled = if_err _ _ c.list.result (files_soon (of_source g.R.Source.left g.R.Source.faults c.args.repo.now c.list.new.repo) (of_source g.C.Source.left g.C.Source.faults c.args.codes.now c.list.new.codes) (of_source g.I.Source.left g.I.Source.faults c.args.inst.now c.args.inst.now) refl) c.list.ensures.pulled;
  instance_pulled = λ r bytes left. if_err _ _ c.list.result (no_instance (of_source g.R.Source.left g.R.Source.faults c.args.repo.now c.list.new.repo) (of_source g.C.Source.left g.C.Source.faults c.args.codes.now c.list.new.codes) (λ i. FromRepository c.in-List.word.now r bytes Lists) (of_source g.I.Source.left g.I.Source.faults c.args.inst.now c.args.inst.now) refl) c.list.ensures.pulled;
  codes_behind = c.list.ensures.codes_behind;
  instance_behind = λ r bytes left. inl refl;
  out = c.list.ensures.goes_out;
})

pub returns-in-Message : goal.returns-in-Message
returns-in-Message g c = rw c.in-Message.is (record {
  no_words = c.message.ensures.no_words;
  sources = used refl c.message.ensures.sources;
  repository_verdict = c.message.ensures.repository;
  files_verdict = λ r bytes left. c.message.ensures.files r bytes (record { repository = left.repository refl; codes = left.codes });
  verdict = λ r bytes i left. c.message.ensures.verdict r bytes i (record { repository = left.files.repository refl; codes = left.files.codes }) left.instance;
  files_pulled = c.message.ensures.files_pulled;
  instance_pulled = λ r bytes left. c.message.ensures.instance_pulled r bytes (record { repository = left.repository refl; codes = left.codes });
  codes_behind = c.message.ensures.codes_behind;
  instance_behind = λ r bytes left. c.message.ensures.instance_behind r bytes (record { repository = left.repository refl; codes = left.codes });
  out = c.message.ensures.goes_out;
})

pub returns-in-Drill : goal.returns-in-Drill
returns-in-Drill g c = rw c.in-Drill.is (record {
  no_words = c.give_drill.ensures.no_words;
  sources = unused refl refl refl refl c.give_drill.ensures.ends.1 c.give_drill.ensures.ends.0;
  repository_verdict = λ r told. instance_apart r (λ i v. Unit {0}) (of_source g.I.Source.left g.I.Source.faults c.args.inst.now c.args.inst.now) c.give_drill.result (unrefused (λ i v. Unit {0}) (of_source g.I.Source.left g.I.Source.faults c.args.inst.now c.args.inst.now) c.give_drill.result c.give_drill.ensures.ends.0 c.give_drill.ensures.ends.1);
  files_verdict = λ r bytes left. tt;
  verdict = λ r bytes i left. c.give_drill.ensures.verdict;
  files_pulled = if_err _ _ c.give_drill.result (no_files (λ i v. Unit {0}) (of_source g.I.Source.left g.I.Source.faults c.args.inst.now c.args.inst.now) (of_source g.R.Source.left g.R.Source.faults c.args.repo.now c.args.repo.now) (of_source g.C.Source.left g.C.Source.faults c.args.codes.now c.args.codes.now) refl refl) (unrefused (λ i v. Unit {0}) (of_source g.I.Source.left g.I.Source.faults c.args.inst.now c.args.inst.now) c.give_drill.result c.give_drill.ensures.ends.0 c.give_drill.ensures.ends.1);
  instance_pulled = λ r bytes left. if_err _ _ c.give_drill.result (stops_soon (λ i v. Unit {0}) (of_source g.I.Source.left g.I.Source.faults c.args.inst.now c.args.inst.now) _ (λ i v h. tt)) (unrefused (λ i v. Unit {0}) (of_source g.I.Source.left g.I.Source.faults c.args.inst.now c.args.inst.now) c.give_drill.result c.give_drill.ensures.ends.0 c.give_drill.ensures.ends.1);
  codes_behind = λ r told. inl refl;
  instance_behind = λ r bytes left. inl refl;
  out = c.give_drill.ensures.goes_out;
})
