use Rattle.std.proofs.Common.{◌++◌, refl, sym, ap, ◌∙◌}
use Rattle.std.proofs.lemmas.Result.{on_ok_weaker}
use Rattle.der_model.specs.States.{Numbered}
use Rattle.der_codec.proofs.PathsWritten.{put_one, numbered_text}
use Rattle.der_codec.proofs.paths.Path.put_element.Goals as goal

pub returns : goal.returns
returns c = λ types names h.
    on_ok_weaker c.put_numbered.result (λ e.
    put_one types c.args.self.now _ names (Numbered c.args.tag.now c.args.number) h (e ∙ ap (λ z. c.args.self.now.text ++ z) (sym (numbered_text c.args.tag.now c.args.number))) refl) c.put_numbered.ensures
