-- One more entry is looked at.
use Rattle.std.proofs.Common.{◌+◌, ◌<◌, length, take, sym, subst, arith}
use Rattle.code_sets.specs.inner.Given.{NamesOwn, key_texts, with_own_name}
use Rattle.code_sets.proofs.JoinLemmas.{item_at, own_more}
use Rattle.code_sets.proofs.joining.own_names.Goals as goal

pub loop-at-preserved : goal.loop-at-preserved
loop-at-preserved c =
    let objects = c.args.repository.now.objects in
    let at = c.loop-at.at in
    let names = key_texts c.loop-at.names.keys in
    let below : at < length objects = omega (arith, c.object_count-at-end.ensures.count) in
    let item = item_at objects at below in
    subst (λ ns. NamesOwn ns (take (at + 1) objects)) (sym (c.in_ok-add_own_name.ensures item.0 item.3))
    (subst (NamesOwn (with_own_name names item.0)) (sym item.1) (own_more names (take at objects) item.0 c.loop-at.invariant))
