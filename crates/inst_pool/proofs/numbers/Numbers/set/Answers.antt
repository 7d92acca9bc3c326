-- The number is one more at an end, or it stands behind already.
use Rattle.std.proofs.Common.{◌-◌, sym, arith}
use Rattle.inst_pool.proofs.NumberLemmas.{set_next, set_between, set_last, set_back}
use Rattle.inst_pool.proofs.numbers.Numbers.set.Goals as goal

pub returns-then-at-len-2-clause-items : goal.returns-then-at-len-2-clause-items
returns-then-at-len-2-clause-items c =
    rw (c.push_reserved.ensures.items, ← c.self.view_is)
    (sym (set_next c.self.inside.front.items c.self.inside.behind c.self.inside.back.items c.self.inside.wide.items c.args.at c.args.number (omega arith) (omega arith)))

pub returns-then-at-self-2-clause-items : goal.returns-then-at-self-2-clause-items
returns-then-at-self-2-clause-items c =
    rw (c.push_reserved-then-at-self-2.ensures.items, ← c.self.view_is)
    (sym (set_last c.self.inside.front.items c.self.inside.behind c.self.inside.back.items c.self.inside.wide.items c.args.at c.args.number (omega arith) (omega arith)))

pub returns-then-at-self-clause-items : goal.returns-then-at-self-clause-items
returns-then-at-self-clause-items c =
    rw (c.add.ensures.items, ← c.self.view_is)
    (sym (set_between c.self.inside.front.items c.self.inside.behind c.self.inside.back.items c.self.inside.wide.items c.args.at c.args.number (omega arith) (omega arith)))

pub returns-then-place-len-clause-items : goal.returns-then-place-len-clause-items
returns-then-place-len-clause-items c =
    rw (← c.self.view_is)
    (sym (set_back c.self.inside.front.items c.self.inside.behind c.self.inside.back.items c.self.inside.wide.items (c.len-last.result - 1 - (c.args.at - c.self.inside.behind)) c.args.at c.args.number c.self.invariant.apart (omega arith) (omega arith)))
