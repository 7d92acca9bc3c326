-- What is open is closed: then the repository has all that the tags say.
use Rattle.std.proofs.Common.{◌≡◌, ◌++◌, sym, ◌∙◌}
use Rattle.repo_loader.specs.File.{objects, messages}
use Rattle.repo_loader.specs.inner.LoadingSteps.{open_messages}
use Rattle.repo_loader.proofs.MessageSteps.{all_messages}
use Rattle.repo_loader.proofs.loading.Loading.take_repository.Goals as goal

pub returns : goal.returns
returns c tags has =
    let old = c.args.self.now in
    let between = c.close_entry.new.self in
    let new = c.close_message.new.self in
    let same_objects : new.repository.objects ≡ objects tags = c.in_ok-close_message.ensures.objects ∙ (c.in_ok-close_entry.ensures.objects ∙ sym has.objects.objects_are) in
    let same_messages : new.repository.messages ≡ messages tags =
    c.in_ok-close_message.ensures.messages ∙ ((λ i. c.in_ok-close_entry.ensures.messages i ++ open_messages (c.in_ok-close_entry.ensures.message i)) ∙ sym (all_messages old.message old.repository.messages tags has.messages)) in
    c.replace.ensures.value ∙ (λ i. record { objects = same_objects i; messages = same_messages i })
