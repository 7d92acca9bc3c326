-- All endings below the one to begin with were given, so the first that is free behind it is the first of all.
use Rattle.std.proofs.Common.{◌≡◌, ℕ, ◌+◌, ◌-◌, ◌≤◌, ◌∷◌, length, true, sym, ap, ◌∙◌, arith}
use Rattle.asn1_model.specs.Names.{is_name_among, first_free}
use Rattle.asn1_model.proofs.GivenLemmas.{all_passed, among_more, kept_given, next_kept}
use Rattle.asn1_model.proofs.given.Given.give_from.Goals as goal

pub returns : goal.returns
returns c taken kept count found =
    let name = c.args.name.now in
    let from : ℕ = c.args.from in
    let given = c.in_ok-given.given.items in
    let free = c.in_ok-free.ensures in
    let ending : ℕ = c.in_ok-free.free.ending in
    let within : from ≤ length taken = kept.short name from found in
    let low : from ≤ c.args.before = omega arith in
    let all = free.given taken kept (kept.below name from found) in
    let same : given ≡ c.in_ok-free.free.name.items = (c.in_ok-given.ensures taken kept).0 ∙ c.deref.ensures.value in
    let after = (c.in_ok-given.ensures taken kept).1 in
    let sum : from + (c.args.before - from) ≡ length taken = omega arith in
    let upto : ending ≤ length taken = omega (arith, free.upto) in
    let there : is_name_among taken name ≡ true = kept_given c.args.self.now taken name from kept found in
    let still : is_name_among (given ∷ taken) name ≡ true = among_more given name taken there in
    let new = record c.give_plain.new.self { endings = c.set_ending.new.endings } in (
      same ∙ free.free taken kept low ∙ sym (all_passed from (c.args.before - from) taken name (kept.below name from found)) ∙ ap (λ n. first_free n taken name 0) sum,
      next_kept c.give_plain.new.self new taken name given from ending after there (same ∙ free.name) all upto (c.set_ending.ensures (after.kept name ∙ still)),
    )
