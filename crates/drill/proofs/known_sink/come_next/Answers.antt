use Rattle.std.proofs.Common.{◌≡◌, length, rules}
use Rattle.std.proofs.lemmas.Bool.Decides.{Decides-eqb}
use Rattle.std.proofs.lemmas.Slice.Eq.{starts_is}
use Rattle.std.proofs.lemmas.List.{nil_from_length}
use Rattle.drill.proofs.KnownTexts.{next_taken}
use Rattle.drill.proofs.known_sink.come_next.Goals as goal

pub returns-then-is_empty-clause-next : goal.returns-then-is_empty-clause-next
returns-then-is_empty-clause-next c = λ t.
    let none : length c.args.others.now ≡ 0 = search rules in
    next_taken c.args.text.now c.split_at.result.1.now c.args.bytes.now c.args.others.now c.args.count (nil_from_length c.args.others.now none) c.split_at.ensures.back
    ((starts_is Decides-eqb c.split_at.result.1.now c.args.bytes.now c.starts_with.result c.starts_with.ensures.value).0 t)
