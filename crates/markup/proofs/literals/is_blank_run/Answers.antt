use Rattle.std.proofs.Common.{rules, ◌≡◌, ◌∷◌, true, length, ap, sym, ◌∙◌, ◌&&◌, nat_eq}
use Rattle.std.specs.List.{list_all}
use Rattle.lexical_core.proofs.LaneRuns.{whole_run}
use Rattle.markup.specs.Chars.{is_space}
use Rattle.markup.proofs.literals.is_blank_run.Goals as goal

pub returns-then-has : goal.returns-then-has
returns-then-has c =
    let e : c.args.bytes.now ≡ c.in-Some.first.now ∷ c.in-Some.rest.now = search rules in
    let rest : nat_eq c.run_length.result (length c.in-Some.rest.now) ≡ list_all is_space c.in-Some.rest.now =
    ap (λ n. nat_eq n (length c.in-Some.rest.now)) c.run_length.ensures.count ∙ whole_run is_space c.in-Some.rest.now in
    let first : is_space c.in-Some.first.now ≡ true = sym c.has.ensures ∙ c.if-has.true in
    rest ∙ (sym (ap (λ b. b && list_all is_space c.in-Some.rest.now) first) ∙ sym (ap (list_all is_space) e))
