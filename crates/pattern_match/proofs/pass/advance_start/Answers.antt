use Rattle.std.proofs.Common.{◌≡◌, ◌<◌, ◌++◌, ◌∷◌, ◌||◌, [], if◌then◌else◌, false, length, get_or, set, ap, ◌∙◌, subst}
use Rattle.pattern_match.specs.Marks.{is_open}
use Rattle.pattern_match.specs.declared.instruction.Instruction.TheVariants.{Take}
use Rattle.pattern_match.proofs.Starting.{starts_skip, starts_put}
use Rattle.pattern_match.proofs.pass.advance_start.Goals as goal

pub returns-else-i-code-clause-starts : goal.returns-else-i-code-clause-starts
returns-else-i-code-clause-starts c =
    starts_skip c.args.code.now c.args.first.now c.args.marks.now c.skip_unset.new.marks c.requires.starts c.skip_unset.ensures.skips c.skip_unset.ensures.walk

pub returns-then-i-code-clause-starts : goal.returns-then-i-code-clause-starts
returns-then-i-code-clause-starts c =
    let a = c.at-i.ensures in
    let old = c.skip_unset.new.marks in
    let first = c.args.first.now in
    let v : c.is_set.result ≡ get_or first.cells old.at false = c.is_set.ensures ∙ ap (λ k. get_or first.cells k false) a in
    starts_put c.args.code.now first old c.put.new.self (Take 0 false false) c.is_open.result
    (starts_skip c.args.code.now first c.args.marks.now old c.requires.starts c.skip_unset.ensures.skips c.skip_unset.ensures.walk)
    (subst (λ k. k < length c.args.code.now) a c.if-i-code.true)
    (subst (λ k. c.is_open.result ≡ is_open (get_or c.args.code.now k (Take 0 false false))) a c.is_open.ensures)
    (c.put.ensures.cells ∙ ap (λ b. set old.cells old.at b) v) c.put.ensures.at
    (c.put.ensures.behind ∙ ap (λ b. if b || c.is_open.result then old.behind ++ old.at ∷ [] else old.behind) v) c.put.ensures.ahead
