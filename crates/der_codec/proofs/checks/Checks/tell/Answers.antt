use Rattle.std.proofs.Common.{◌≡◌, ◌+◌, ◌≤◌, rules, sym, ◌∙◌, subst, ap, arith}
use Rattle.facets.specs.declared.simple.Simple.{Simple}
use Rattle.facets.specs.LeafVerdicts.{IsVerdictMadeFor, verdict_room}
use Rattle.der_codec.proofs.KeptChecks.{all_kept, there_within}
use Rattle.der_codec.proofs.Keeping.{not_ok}
use Rattle.der_codec.proofs.checks.Checks.tell.Goals as goal

pub returns-clause-made : goal.returns-clause-made
returns-clause-made c = λ types e h.
    c.keep.ensures.made types (c.check_at.ensures.kept types h)
    (λ simple is. let same : c.args.simple.now ≡ simple = (let both = sym e ∙ is in cc) in subst (λ (z : Simple). IsVerdictMadeFor c.told_by-result.new.check z) same c.told_by-result.ensures.made)

pub returns-clause-room : goal.returns-clause-room
returns-clause-room c = λ types bytes h n simple is wants.
    all_kept bytes c.args.number c.args.self.now.entries.items c.keep.new.self.entries.items (λ b n other k. c.keep.ensures.others b n other (c.check_at.ensures.others b n other k))
    (λ k.
    let low = there_within bytes c.args.self.now.entries.items c.args.number k in
    let size = c.check_at.ensures.size in
    let same : c.deref_mut.result.now ≡ c.in-Ok.check.value = search rules in
    let size2 = ap verdict_room same in
    let roomy : bytes + 3 ≤ verdict_room c.in-Ok.check.value = c.in-Ok.ensures.there bytes k in
    let more = c.told_by-result.ensures.room in
    c.keep.ensures.there bytes (omega (arith, low, size)) (omega (arith, roomy, more, size2)))
    n (h n simple is wants)

pub returns-in-Err-clause-room : goal.returns-in-Err-clause-room
returns-in-Err-clause-room c = λ types bytes h n simple is wants.
    all_kept bytes c.args.number c.args.self.now.entries.items c.check_at.new.self.entries.items c.check_at.ensures.others (λ k. absurd (not_ok (c.in-Err.ensures.ok bytes k))) n (h n simple is wants)

pub returns-clause-within : goal.returns-clause-within
returns-clause-within c = λ bytes h few is.
    let same : c.deref_mut.result.now ≡ c.in-Ok.check.value = search rules in
    let size2 = ap verdict_room same in
    let roomy : bytes + 3 ≤ verdict_room c.in-Ok.check.value = c.in-Ok.ensures.there bytes h in
    c.told_by-result.ensures.within (omega (arith, roomy, few, size2)) is

pub returns-in-Err-clause-within : goal.returns-in-Err-clause-within
returns-in-Err-clause-within c = λ bytes h few is. not_ok (c.in-Err.ensures.ok bytes h)
