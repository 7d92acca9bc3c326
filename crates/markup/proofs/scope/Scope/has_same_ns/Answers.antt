-- The innermost element is that of the first tag.
use Rattle.std.proofs.Common.{◌≡◌, map, sym, subst, ◌∙◌, arith}
use Rattle.std.proofs.lemmas.Slice.Eq.{bytes_eq-Decides}
use Rattle.markup.specs.PlainTags.{IsInsideOf}
use Rattle.markup.specs.Scopes.{open_name}
use Rattle.markup.specs.inner.WholeStarts.{named_by}
use Rattle.markup.proofs.ScopeLemmas.{inside_of}
use Rattle.markup.proofs.scope.Scope.has_same_ns.Goals as goal

pub returns-in-Some : goal.returns-in-Some
returns-in-Some c tags names same =
    let is : c.in-Some.innermost.prefix.now ≡ c.args.prefix.now = (bytes_eq-Decides c.in-Some.innermost.prefix.now c.args.prefix.now).0 (sym c.are_same.ensures ∙ same) in
    let none : c.args.declared ≡ 0 = omega (arith, c.if-declared-gt0.false) in
    (none, c.in-Some.innermost.local.now, subst (λ p. IsInsideOf tags (named_by p c.in-Some.innermost.local.now)) is (inside_of tags c.in-Some.innermost.prefix.now c.in-Some.innermost.local.now (c.in-Some.ensures (map open_name tags) names)))
