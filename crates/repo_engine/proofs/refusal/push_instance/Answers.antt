use Rattle.std.proofs.Common.{◌≡◌, subst, rules}
use Rattle.lexical_core.specs.Rules.{name_of}
use Rattle.outside.specs.Pushes.{Pushes}
use Rattle.outside.proofs.Pushing.{done, stopped, then_push, fails_push}
use Rattle.repo_engine.specs.Verdict.{rule_text, place_text}
use Rattle.repo_engine.proofs.refusal.push_instance.Goals as goal

pub returns-in-Ok : goal.returns-in-Ok
returns-in-Ok g c =
    let name : c.as_bytes.result.now ≡ name_of c.args.fault.now.rule = search rules in
    then_push g.O.Sink.held g.O.Sink.faults g.O.Sink.room c.args.sink.now c.push_rule.new.sink c.push_place.new.sink c.push_place.result
    (rule_text (name_of c.args.fault.now.rule)) (place_text c.args.fault.now.place c.args.fault.now.path)
    (subst (λ rule. Pushes g.O.Sink.held g.O.Sink.faults g.O.Sink.room c.args.sink.now c.push_rule.new.sink done (rule_text rule)) name c.in-Ok.ensures)
    (subst (λ path. Pushes g.O.Sink.held g.O.Sink.faults g.O.Sink.room c.push_rule.new.sink c.push_place.new.sink c.push_place.result (place_text c.args.fault.now.place path)) c.bytes.ensures c.push_place.ensures)

pub returns-in-Err : goal.returns-in-Err
returns-in-Err g c =
    let name : c.as_bytes.result.now ≡ name_of c.args.fault.now.rule = search rules in
    fails_push g.O.Sink.held g.O.Sink.faults g.O.Sink.room c.args.sink.now c.push_rule.new.sink c.in-Err.error (rule_text (name_of c.args.fault.now.rule)) (place_text c.args.fault.now.place c.args.fault.now.path)
    (subst (λ rule. Pushes g.O.Sink.held g.O.Sink.faults g.O.Sink.room c.args.sink.now c.push_rule.new.sink (stopped c.in-Err.error) (rule_text rule)) name c.in-Err.ensures)
