use Rattle.lexical_core.specs.declared.rule.Rule.TheVariants.{DerTruncated}
use Rattle.der_codec.specs.Checking.{IsSpelledDer}
use Rattle.transcoder.specs.Checked.{HoldsDer, IsDerFault}
use Rattle.transcoder.proofs.Limits.{refuses_left, of_some, pulls_left}
use Rattle.transcoder.proofs.read.read_der.Goals as goal

pub read_instance-requires-clause-only_cut : goal.read_instance-requires-clause-only_cut
read_instance-requires-clause-only_cut g c x bytes fault h k =
    let t = c.type_count.ensures in
    c.only_cut.ensures c.args.model.now _ bytes (c.tables_are_sound.ensures c.args.model.now t.sound t.codes t.sorted t.root c.one_tree.ensures) h.given _ k

pub returns-clause-refused : goal.returns-clause-refused
returns-clause-refused g c = refuses_left (IsDerFault c.args.model.now) (IsSpelledDer c.args.model.now) DerTruncated (HoldsDer c.args.model.now) (λ bytes x h. (h.0, h.1)) (g.I.Source.left c.args.source.now) c.read_instance.result c.read_instance.ensures.refused

pub returns-clause-placed : goal.returns-clause-placed
returns-clause-placed g c = of_some (IsDerFault c.args.model.now) (IsSpelledDer c.args.model.now) DerTruncated (HoldsDer c.args.model.now) (λ bytes x h. (h.0, h.1)) c.read_instance.result c.read_instance.ensures.placed

pub returns-clause-pulled : goal.returns-clause-pulled
returns-clause-pulled g c = pulls_left (IsDerFault c.args.model.now) (IsSpelledDer c.args.model.now) DerTruncated (g.I.Source.left c.args.source.now) (g.I.Source.left c.read_instance.new.source) c.read_instance.result c.read_instance.ensures.pulled
