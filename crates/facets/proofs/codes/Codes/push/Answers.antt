use Rattle.std.proofs.Common.{◌≡◌, ◌∷◌, ◌++◌, [], max, rules}
use Rattle.facets.specs.CodeLists.{char_count}
use Rattle.facets.proofs.CodeLemmas.{sorted_push, longest_push}
use Rattle.facets.proofs.codes.Codes.push.Goals as goal

pub invariant_of-self-2 : goal.invariant_of-self-2
invariant_of-self-2 c =
    let codes = c.self.inside.texts.items in
    let grown : c.push.new.self.items ≡ codes ++ c.args.text ∷ [] = search rules in
    let size : c.max-self-inside.result ≡ max c.self.inside.longest (char_count c.args.text) = search rules in (
      rw grown (sorted_push codes c.args.text c.self.invariant.0 (rw c.self.view_is c.requires)),
      rw (grown, longest_push codes c.args.text, ← c.self.invariant.1) size,
    )
