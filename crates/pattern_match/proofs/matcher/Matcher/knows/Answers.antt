use Rattle.std.proofs.Common.{length, sym, ap, ◌∙◌, subst}
use Rattle.pattern_match.specs.Compiled.{IsMarked}
use Rattle.pattern_match.proofs.Matching.{marked_length}
use Rattle.pattern_match.proofs.Stepping.{known_reached}
use Rattle.pattern_match.proofs.matcher.Matcher.knows.Goals as goal

pub row-requires : goal.row-requires
row-requires c =
    let v = c.self.view_is in
    (known_reached c.args.pattern.now c.args.self.now c.self.inside.recall c.in-Some.first c.in-Some-reach.at c.args.codes.now (ap (λ m. m.known) v) (sym (ap (λ m. m.first) v) ∙ c.in-Some.is) c.in-Some-reach.ensures c.requires).0

pub last_mark-requires : goal.last_mark-requires
last_mark-requires c =
    let v = c.self.view_is in
    let r = known_reached c.args.pattern.now c.args.self.now c.self.inside.recall c.in-Some.first c.in-Some-reach.at c.args.codes.now (ap (λ m. m.known) v) (sym (ap (λ m. m.first) v) ∙ c.in-Some.is) c.in-Some-reach.ensures c.requires in
    ap length c.row.ensures ∙ marked_length c.args.pattern.now _ c.args.codes.now r.1

pub returns : goal.returns
returns c = λ yes.
    let v = c.self.view_is in
    let r = known_reached c.args.pattern.now c.args.self.now c.self.inside.recall c.in-Some.first c.in-Some-reach.at c.args.codes.now (ap (λ m. m.known) v) (sym (ap (λ m. m.first) v) ∙ c.in-Some.is) c.in-Some-reach.ensures c.requires in
    (c.last_mark.ensures c.args.codes.now (subst (λ y. IsMarked c.args.pattern.now y c.args.codes.now) (sym c.row.ensures) r.1)).0 yes
