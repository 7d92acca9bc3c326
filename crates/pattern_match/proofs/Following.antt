-- The tokens of a syntax tree have each quantifier behind a piece.
use Rattle.std.proofs.Common.{ℕ, suc, Bool, true, false, List, [], ◌∷◌, refl, sym, subst}
use Rattle.pattern_match.specs.Expression.{ClassMember, One, Range, Spaces, Hyphen, Atom, Character, Dot, Escape, Space, Class, Quantifier, Once, Optional, AnyNumber, OneOrMore, Exactly, AtLeast, Between, Expression, Empty, Piece, Group, Choice}
use Rattle.pattern_match.specs.Reading.{IsPattern}
use Rattle.pattern_match.specs.Compiled.{tokens_of_text}
use Rattle.pattern_match.specs.inner.Drafting.{AreFollowing}
use Rattle.pattern_match.specs.declared.token.Token.{Token}
use Rattle.pattern_match.proofs.Tokens.{items_tokens_then, atom_tokens_then, quantifier_tokens_then, tokens_then}
use Rattle.pattern_match.proofs.Judging.{tree_tokens}

items_follow : (items : List ClassMember) (more : List Token) (n : ℕ) → AreFollowing n true more → AreFollowing n true (items_tokens_then items more)
items_follow [] more n h = h
items_follow (One s ∷ items) more n h = (tt, items_follow items more n h)
items_follow (Range low high ∷ items) more n h = (tt, (tt, items_follow items more n h))
items_follow (Spaces ∷ items) more n h = (tt, (tt, (tt, items_follow items more n h)))
items_follow (Hyphen ∷ items) more n h = (tt, items_follow items more n h)

atom_follow : (a : Atom) (more : List Token) (n : ℕ) (ready : Bool) → AreFollowing n true more → AreFollowing n ready (atom_tokens_then a more)
atom_follow (Class negated items) more n ready h = (tt, items_follow items more n h)
atom_follow (Character c) more n ready h = (tt, h)
atom_follow Dot more n ready h = (tt, h)
atom_follow (Escape letter) more n ready h = (tt, h)
atom_follow Space more n ready h = (tt, h)

quantifier_follow : (q : Quantifier) (more : List Token) (n : ℕ) → AreFollowing n true more → AreFollowing n true (quantifier_tokens_then q more)
quantifier_follow Once more n h = h
quantifier_follow Optional more n h = (refl, h)
quantifier_follow AnyNumber more n h = (refl, h)
quantifier_follow OneOrMore more n h = (refl, h)
quantifier_follow (Exactly m) more n h = (refl, h)
quantifier_follow (AtLeast m) more n h = (refl, h)
quantifier_follow (Between l m) more n h = (refl, h)

tree_follow : (t : Expression) (more : List Token) (n : ℕ) (ready : Bool) → ((ready : Bool) → AreFollowing n ready more) → AreFollowing n ready (tokens_then t more)
tree_follow Empty more n ready h = h ready
tree_follow (Piece a q rest) more n ready h =
    atom_follow a (quantifier_tokens_then q (tokens_then rest more)) n ready
    (quantifier_follow q (tokens_then rest more) n (tree_follow rest more n true h))
tree_follow (Group inner q rest) more n ready h =
    (tt, tree_follow inner _ (suc n) false (λ r. (tt, quantifier_follow q (tokens_then rest more) n (tree_follow rest more n true h))))
tree_follow (Choice branch rest) more n ready h = tree_follow branch _ n ready (λ r. (tt, tree_follow rest more n false h))

pub pattern_follow : (text : List ℕ) → IsPattern text → AreFollowing 1 false (tokens_of_text text)
pattern_follow text (t, h) = subst (AreFollowing 1 false) (sym (tree_tokens text t h)) (tree_follow t [] 1 false (λ r. tt))
