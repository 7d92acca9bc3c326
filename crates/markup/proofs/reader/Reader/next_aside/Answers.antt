-- Where such a token may come, an element is open and no token is.
use Rattle.std.proofs.Common.{◌≡◌, true, subst, sym}
use Rattle.std.proofs.lemmas.Bool.{both_ways}
use Rattle.markup.specs.Asides.{is_aside_in}
use Rattle.markup.proofs.WholeAsides.{aside_here}
use Rattle.markup.proofs.reader.Reader.next_aside.Goals as goal

pub returns-then-not-is_in_content-clause-all : goal.returns-then-not-is_in_content-clause-all
returns-then-not-is_in_content-clause-all c limit bytes told t rest m e = absurd (both_ways c.is_in_content.result c.if-not-is_in_content.true (c.is_in_content.ensures.all limit bytes told m.before))

pub returns-clause-all : goal.returns-clause-all
returns-clause-all c limit bytes told t rest m e =
    c.aside_at.ensures.all t rest (subst (λ b. is_aside_in b t ≡ true) (sym c.in_cdata.ensures) (aside_here c.args.self.now bytes told t m)) m.is.1 e
