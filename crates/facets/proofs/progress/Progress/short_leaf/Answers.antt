use Rattle.std.proofs.Common.{◌≡◌, true, false, None, subst, rules}
use Rattle.data_types.specs.LeafAnswers.{leaf_of, IsLeafAnswer}
use Rattle.facets.specs.PatternChecks.{TellsPattern}
use Rattle.facets.proofs.PatternLemmas.{was_asked, asked_other}
use Rattle.facets.proofs.TextRules.{short_given, short_broken, short_refused}
use Rattle.facets.proofs.CheckLemmas.{short_step}
use Rattle.facets.proofs.progress.Progress.short_leaf.Goals as goal

pub accepts-requires : goal.accepts-requires
accepts-requires c = let (text, had) = c.requires in was_asked c.args.self.now.asked c.args.simple.now text had.asked

pub returns-then-accepts : goal.returns-then-accepts
returns-then-accepts c = λ text short taken.
    let k = c.args.simple.now.kind in
    let answer = subst (IsLeafAnswer k None text) c.in-Ok.is (c.finish.ensures k None text (short_step c.args.self.now c.args.simple.now text short taken)) in
    let yes : c.accepts.result ≡ true = search rules in
    short_given c.args.simple.now text (leaf_of c.in-Ok.leaf) short answer.0 (subst (λ b. TellsPattern b c.args.simple.now text) yes (c.accepts.ensures text (asked_other c.args.self.now.asked c.args.simple.now text short.no_text taken.asked)))

pub returns-else-accepts : goal.returns-else-accepts
returns-else-accepts c = λ text short taken.
    let k = c.args.simple.now.kind in
    let answer = subst (IsLeafAnswer k None text) c.in-Ok.is (c.finish.ensures k None text (short_step c.args.self.now c.args.simple.now text short taken)) in
    let no : c.accepts.result ≡ false = search rules in
    short_broken c.args.simple.now text (leaf_of c.in-Ok.leaf) short answer.0 (subst (λ b. TellsPattern b c.args.simple.now text) no (c.accepts.ensures text (asked_other c.args.self.now.asked c.args.simple.now text short.no_text taken.asked)))

pub returns-in-Err : goal.returns-in-Err
returns-in-Err c = λ text short taken.
    let k = c.args.simple.now.kind in
    short_refused c.args.simple.now text c.in-Err.rule short (subst (IsLeafAnswer k None text) c.in-Err.is (c.finish.ensures k None text (short_step c.args.self.now c.args.simple.now text short taken)))
