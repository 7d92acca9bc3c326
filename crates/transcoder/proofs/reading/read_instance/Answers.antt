use Rattle.transcoder.specs.Limited.{IsLimited}
use Rattle.transcoder.specs.inner.Reading.{GivesSome}
use Rattle.transcoder.proofs.Readings.{IsVerdict, concluded_verdict, pulls_for, read_fault, fault_read}
use Rattle.transcoder.proofs.reading.read_instance.Given.{Over}
use Rattle.transcoder.proofs.reading.read_instance.Goals as goal

verdict : (g : Over) (c : goal.After-drop-buffer g)
    → IsVerdict (g.X.Intake.gives c.args.model.now) (IsLimited (g.X.Intake.is_faulty c.args.model.now) (GivesSome (g.X.Intake.gives c.args.model.now)) g.X.Intake.cut_rule) (g.I.Source.left c.args.source.now) (g.I.Source.left c.feed_all-read.new.source) c.concluded.result
verdict g c =
    let T = c.args.model.now in
    concluded_verdict (λ x. g.X.Intake.has_fed x T) (λ x. g.X.Intake.is_made_for x T) (g.X.Intake.is_faulty T) (g.X.Intake.gives T) g.X.Intake.cut_rule (g.I.Source.left c.args.source.now) (g.I.Source.left c.feed_all-read.new.source)
    c.feed_all-read.new.reader c.requires.only_cut c.feed_all-read.result c.finish-end.result c.concluded.result c.feed_all-read.ensures.read c.finish-end.ensures.ok c.finish-end.ensures.err c.concluded.ensures

pub returns-clause-ok : goal.returns-clause-ok
returns-clause-ok g c = (verdict g c).ok

pub returns-clause-given : goal.returns-clause-given
returns-clause-given g c = (verdict g c).given

pub returns-clause-whole : goal.returns-clause-whole
returns-clause-whole g c = (verdict g c).whole_is

pub returns-clause-refused : goal.returns-clause-refused
returns-clause-refused g c = (verdict g c).refused

pub returns-clause-placed : goal.returns-clause-placed
returns-clause-placed g c = (verdict g c).placed

pub returns-clause-pulled : goal.returns-clause-pulled
returns-clause-pulled g c =
    let T = c.args.model.now in
    pulls_for (λ x. g.X.Intake.has_fed x T) (g.X.Intake.is_faulty T) g.X.Intake.cut_rule (g.I.Source.left c.args.source.now) (g.I.Source.left c.feed_all-read.new.source) c.requires.only_cut c.feed_all-read.ensures.pulled c.concluded.result
    (λ e. c.feed_all-read.ensures.failed (read_fault c.feed_all-read.result c.finish-end.result c.concluded.result c.concluded.ensures e))

pub returns-clause-fault : goal.returns-clause-fault
returns-clause-fault g c e = c.feed_all-read.ensures.fault (read_fault c.feed_all-read.result c.finish-end.result c.concluded.result c.concluded.ensures e)

pub returns-clause-same : goal.returns-clause-same
returns-clause-same g c other = c.feed_all-read.ensures.same (λ e. other (fault_read c.feed_all-read.result c.finish-end.result c.concluded.result c.concluded.ensures e))
