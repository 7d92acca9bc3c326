use Rattle.std.proofs.Common.{rules, ◌≡◌, ◌≤◌, ◌<◌, ◌-◌, ◌++◌, [], append-nil, length, take, drop, sym, ap, subst}
use Rattle.lexical_core.specs.XmlRuns.{IsXmlRun}
use Rattle.der_codec.specs.OpenLeaves.{IsOpenText}
use Rattle.der_codec.proofs.CutTexts.{none_comes}
use Rattle.der_codec.proofs.OpenTexts.{none_behind, text_takes}
use Rattle.der_codec.proofs.open_text.take_characters.Goals as goal

pub returns-then-cut-gt3-clause-none : goal.returns-then-cut-gt3-clause-none
returns-then-cut-gt3-clause-none c = λ before t.
    let octets = c.args.octets.now in
    let run = c.xml_run-run in
    let some : 3 < length octets - run.result.bytes = search rules in
    none_behind c.args.check.now c.args.simple.now c.args.rest.now.items octets [] octets octets before t (ap (λ z. z ++ octets) (sym c.requires.none)) (sym (append-nil octets)) (none_comes octets run.result.bytes run.result.characters run.ensures.run run.ensures.longest some)

pub returns-in-Ok-extend_from_slice-clause-opened : goal.returns-in-Ok-extend_from_slice-clause-opened
returns-in-Ok-extend_from_slice-clause-opened c = λ before t.
    let octets = c.args.octets.now in
    let run = c.xml_run-run in
    let bytes = run.result.bytes in
    let cut = c.split_at.result.1.now in
    let few : length (drop bytes octets) ≤ 3 = search rules in
    let taken : c.split_at.result.0.now ≡ take bytes octets = c.split_at.ensures.front in
    let left : c.extend_from_slice.new.self.items ≡ drop bytes octets = search rules in
    let r = subst (λ z. IsXmlRun z run.result.characters) (sym taken) run.ensures.run in
    subst (λ z. IsOpenText c.take_run.new.self c.args.simple.now z (before ++ octets)) (sym left)
    (text_takes c.args.check.now c.take_run.new.self c.args.simple.now c.args.rest.now.items octets c.split_at.result.0.now before bytes run.result.characters t r taken c.requires.none run.ensures.within run.ensures.longest few
    (c.in-Ok.ensures.ok r t.chars t.taken))
