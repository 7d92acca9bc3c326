use Rattle.std.proofs.Common.{rules, ◌≡◌, ◌≤◌, ◌<◌, ◌-◌, ◌++◌, length, [], take, sym, ap, ◌∙◌, subst, arith, length-append}
use Rattle.std.proofs.Math.Seq.{take-append_seam}
use Rattle.std.proofs.lemmas.List.{take-append-le}
use Rattle.lexical_core.specs.Characters.{IsXmlText}
use Rattle.lexical_core.specs.XmlRuns.{IsXmlRun}
use Rattle.der_codec.specs.OpenLeaves.{IsOpenText}
use Rattle.der_codec.proofs.CutTexts.{none_comes}
use Rattle.der_codec.proofs.OpenTexts.{split_whole, none_behind, text_waits, rest_within, text_ends}
use Rattle.der_codec.proofs.open_text.end_character.Goals as goal

pub returns-then-len-gt3-clause-none : goal.returns-then-len-gt3-clause-none
returns-then-len-gt3-clause-none c = λ before t.
    let rest = c.args.rest.now.items in
    let head = c.split_at.result.0.now in
    let behind = c.split_at.result.1.now in
    let seen = c.as_slice.result.now in
    let is : seen ≡ rest ++ head = search rules in
    let whole = split_whole c.at_most_four.result c.args.octets.now head behind c.split_at.ensures.front c.split_at.ensures.back in
    let run = c.xml_run-run in
    let some : 3 < length seen - run.result.bytes = search rules in
    none_behind c.args.check.now c.args.simple.now rest head behind c.args.octets.now seen before t is whole (none_comes seen run.result.bytes run.result.characters run.ensures.run run.ensures.longest some)

pub returns-then-run-eq0-clause-opened : goal.returns-then-run-eq0-clause-opened
returns-then-run-eq0-clause-opened c = λ before t.
    let rest = c.args.rest.now.items in
    let head = c.split_at.result.0.now in
    let behind = c.split_at.result.1.now in
    let seen = c.as_slice.result.now in
    let all = c.extend_from_slice.new.self.items in
    let same : seen ≡ all = search rules in
    let is : all ≡ rest ++ head = search rules in
    let few : length all ≤ 3 = search rules in
    let run = c.xml_run-run in
    let none : run.result.bytes ≡ 0 = search rules in
    let whole = split_whole c.at_most_four.result c.args.octets.now head behind c.split_at.ensures.front c.split_at.ensures.back in
    let front : head ≡ take (length head) c.args.octets.now = sym (ap (take (length head)) whole ∙ take-append_seam head behind) in
    subst (λ z. IsOpenText c.args.check.now c.args.simple.now all (before ++ z)) front
    (text_waits c.args.check.now c.args.simple.now rest head all before run.result.bytes t is few (λ n low h. run.ensures.longest n (subst (λ z. n ≤ length z) (sym same) low) (subst (λ z. IsXmlText (take n z)) (sym same) h)) none)

pub overflow_sub-result : goal.overflow_sub-result
overflow_sub-result c =
    let rest = c.args.rest.now.items in
    let head = c.split_at.result.0.now in
    let seen = c.as_slice.result.now in
    let is : seen ≡ rest ++ head = search rules in
    let come : c.len-come.result ≡ length rest = search rules in
    let run = c.xml_run-run in
    let some : run.result.bytes ≡ 0 → ⊥ = search rules in
    let within = rest_within c.args.check.now c.args.simple.now rest head seen c.requires.0 run.result.bytes run.result.characters c.requires.1 is run.ensures.run some in
    omega (arith, come, within)

pub returns-in-Ok-clause-opened : goal.returns-in-Ok-clause-opened
returns-in-Ok-clause-opened c = λ before t.
    let rest = c.args.rest.now.items in
    let head = c.split_at.result.0.now in
    let behind = c.split_at.result.1.now in
    let seen = c.as_slice.result.now in
    let octets = c.args.octets.now in
    let is : seen ≡ rest ++ head = search rules in
    let come : c.len-come.result ≡ length rest = search rules in
    let run = c.xml_run-run in
    let bytes = run.result.bytes in
    let some : bytes ≡ 0 → ⊥ = search rules in
    let within = rest_within c.args.check.now c.args.simple.now rest head seen before bytes run.result.characters t is run.ensures.run some in
    let whole = split_whole c.at_most_four.result octets head behind c.split_at.ensures.front c.split_at.ensures.back in
    let taken : c.split_at-2.result.0.now ≡ take bytes seen = search rules in
    let none : c.clear.new.self.items ≡ [] = search rules in
    let size = length-append rest head in
    let all = ap length is in
    let most = run.ensures.within in
    let front : take (bytes - length rest) head ≡ take (bytes - c.len-come.result) octets =
    sym (ap (λ z. take (bytes - z) octets) come ∙ (ap (take (bytes - length rest)) whole ∙ take-append-le (bytes - length rest) head behind (omega (arith, size, all, most)))) in
    let r = subst (λ z. IsXmlRun z run.result.characters) (sym taken) run.ensures.run in
    let ends = text_ends c.args.check.now c.take_run.new.self c.args.simple.now rest head seen before bytes t r.chars is (sym taken ∙ r.spelled) within (c.in-Ok.ensures.ok r t.chars t.taken) in
    subst (λ z. IsOpenText c.take_run.new.self c.args.simple.now z (before ++ take (bytes - c.len-come.result) octets)) (sym none)
    (subst (λ z. IsOpenText c.take_run.new.self c.args.simple.now [] (before ++ z)) front ends)
