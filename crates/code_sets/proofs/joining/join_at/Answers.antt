-- The entry at the place takes the codes of its name.
use Rattle.std.proofs.Common.{sym, ap, ◌∙◌}
use Rattle.repo_objects.specs.Repository.{Contents}
use Rattle.code_sets.specs.inner.Given.{codes_in}
use Rattle.code_sets.proofs.JoinLemmas.{defs_texts, takes_given}
use Rattle.code_sets.proofs.joining.join_at.Goals as goal

pub set_codes-requires-clause-texts : goal.set_codes-requires-clause-texts
set_codes-requires-clause-texts c = defs_texts (codes_in c.args.given.now c.bytes.result.now) c.in_ok-codes.codes (c.requires c.bytes.result.now) c.in_ok-codes.ensures

pub returns : goal.returns
returns c before after entry split place =
    c.set_codes.ensures
    ∙ ap (λ l. let r : Contents = record c.args.repository.now { objects = l } in r)
    (takes_given (codes_in c.args.given.now) c.args.repository.now.objects before after entry c.args.at split place c.in-Some.field-0-0.now c.in-Some.object.now c.bytes.result.now c.in_ok-codes.codes
    c.in-Some.ensures.entry (sym c.takes_codes.ensures ∙ c.if-not-takes_codes.false) c.bytes.ensures c.in_ok-codes.ensures)
