use Rattle.std.proofs.Common.{◌≡◌, length, true, false, subst, rules}
use Rattle.facets.specs.PatternChecks.{TellsPattern}
use Rattle.facets.proofs.PatternLemmas.{was_asked, asked_within}
use Rattle.facets.proofs.TextRules.{length_broken, pattern_broken}
use Rattle.facets.proofs.progress.Progress.check_text.Goals as goal

pub returns-then-not-is_length : goal.returns-then-not-is_length
returns-then-not-is_length c = λ most text taken.
    length_broken c.args.simple.now text c.requires.kind c.requires.codes taken.characters (λ fits. let yes = (c.is_length.ensures (length text) taken.counted).1 fits in let no = c.if-not-is_length.true in absurd cc)

pub accepts-requires : goal.accepts-requires
accepts-requires c = let (most, text, had) = c.requires.made in was_asked c.args.self.now.asked c.args.simple.now text had.asked

pub returns-then-not-accepts : goal.returns-then-not-accepts
returns-then-not-accepts c = λ most text taken.
    let fits = (c.is_length.ensures (length text) taken.counted).0 (search rules) in
    let no : c.accepts.result ≡ false = search rules in
    pattern_broken c.args.simple.now text c.requires.kind c.requires.codes taken.characters fits
    (subst (λ b. TellsPattern b c.args.simple.now text) no (c.accepts.ensures text (asked_within c.args.self.now.asked c.args.simple.now text fits taken.asked)))

pub returns : goal.returns
returns c = λ most text taken.
    let fits = (c.is_length.ensures (length text) taken.counted).0 (search rules) in
    let yes : c.accepts.result ≡ true = search rules in
    (fits, subst (λ b. TellsPattern b c.args.simple.now text) yes (c.accepts.ensures text (asked_within c.args.self.now.asked c.args.simple.now text fits taken.asked)))
