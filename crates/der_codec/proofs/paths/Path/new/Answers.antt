use Rattle.std.proofs.Common.{[], ◌∷◌, refl, sym, arith, ◌∙◌, ap, ◌++◌}
use Rattle.std.specs.Fmt.{decimal}
use Rattle.std.specs.Prelude.{codes}
use Rattle.der_codec.proofs.PathsWritten.{numbered_text}
use Rattle.der_codec.proofs.paths.Path.new.Goals as goal

pub returns : goal.returns
returns c = λ types. record {
  some = omega arith;
  written = c.in_ok-put_numbered.ensures ∙ (ap (λ z. z ++ (47 ∷ (codes "Document" ++ (91 ∷ (decimal 1 ++ (93 ∷ [])))))) c.new-text.ensures ∙ sym (numbered_text (codes "Document") 1));
  held = refl;
}
