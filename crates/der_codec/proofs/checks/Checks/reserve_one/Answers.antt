use Rattle.std.proofs.Common.{◌≡◌, ◌+◌, ◌≤◌, rules, sym, ◌∙◌, subst, ap, arith}
use Rattle.facets.specs.declared.leaf_verdict.LeafVerdict.{LeafVerdict}
use Rattle.facets.specs.declared.simple.Simple.{Simple}
use Rattle.facets.specs.LeafVerdicts.{IsVerdictMadeFor, verdict_room}
use Rattle.der_codec.proofs.KeptChecks.{all_kept}
use Rattle.der_codec.proofs.checks.Checks.reserve_one.Goals as goal

pub returns-clause-made : goal.returns-clause-made
returns-clause-made c = λ types e h.
    c.put.ensures.made types (c.check_at.ensures.kept types (c.grow.ensures.made types h))
    (λ simple is.
    let same : c.args.simple.now ≡ simple = (let both = sym e ∙ is in cc) in
    let lent : c.deref_mut.result.now ≡ c.in-Ok.check.value = search rules in
    let made = subst (λ (z : LeafVerdict). IsVerdictMadeFor z c.args.simple.now) (sym lent) c.in-Ok.ensures.made in
    subst (λ (z : Simple). IsVerdictMadeFor c.reserve-result.new.self z) same (made.0, c.reserve-result.ensures.taken c.args.simple.now made.0 made.1))

pub returns-clause-room : goal.returns-clause-room
returns-clause-room c = λ less n h.
    let there = c.grow.ensures.all less in
    all_kept less c.args.number c.grow.new.self.entries.items c.put.new.self.entries.items (λ b n other k. c.put.ensures.others b n other (c.check_at.ensures.others b n other k))
    (λ k.
    let same : c.deref_mut.result.now ≡ c.in-Ok.check.value = search rules in
    let size = ap verdict_room same in
    let roomy : less + 3 ≤ verdict_room c.in-Ok.check.value = c.in-Ok.ensures.there less k in
    let more = c.reserve-result.ensures.room in
    c.put.ensures.there less (omega (arith, roomy, more, size)))
    n (there n h)

pub returns-in-Err-clause-made : goal.returns-in-Err-clause-made
returns-in-Err-clause-made c = λ types e h. c.check_at.ensures.kept types (c.grow.ensures.made types h)

pub returns-in-Err-clause-room : goal.returns-in-Err-clause-room
returns-in-Err-clause-room c = λ less n h.
    all_kept less c.args.number c.grow.new.self.entries.items c.check_at.new.self.entries.items c.check_at.ensures.others
    (λ k. (let none = c.in-Err.ensures.ok less k in absurd cc))
    n (c.grow.ensures.all less n h)
