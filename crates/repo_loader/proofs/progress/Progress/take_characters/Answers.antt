-- Characters say nothing.
use Rattle.std.proofs.Common.{◌+◌, take, refl, sym, ap, ◌∙◌}
use Rattle.std.proofs.lemmas.List.{length-take-le}
use Rattle.markup.specs.Reading.{bytes_taken}
use Rattle.repo_loader.proofs.ReadSteps.{read_run}
use Rattle.repo_loader.proofs.progress.Progress.take_characters.Goals as goal

pub returns-clause-read : goal.returns-clause-read
returns-clause-read c bytes h =
    let n = c.take_characters.result.bytes in
    let xs = c.args.piece.now in
    let t = c.take_characters.ensures.taken _ bytes h.told h.given in
    read_run c.args.self.now (record { reader = c.take_characters.new.self; events = c.args.self.now.events; selection = c.args.self.now.selection }) bytes (take n xs) c.take_characters.result.characters t.0 h t.1
    (c.take_characters.ensures.count ∙ ap (λ v. bytes_taken c.args.self.now.reader + v) (sym (length-take-le n xs c.take_characters.ensures.within)))
    refl refl
