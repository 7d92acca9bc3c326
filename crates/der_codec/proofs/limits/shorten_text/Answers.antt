use Rattle.std.proofs.Common.{rules, ◌≡◌, subst, ◌<◌, ◌≤◌, ◌+◌, ◌*◌, ◌-◌, ◌++◌, replicate, drop, length}
use Rattle.der_codec.specs.KeptOctets.{IsTextKept}
use Rattle.der_codec.proofs.CutTexts.{none_kept, spaces_kept}
use Rattle.der_codec.proofs.limits.shorten_text.Goals as goal

pub returns-then-len-run-gt3-clause-kept : goal.returns-then-len-run-gt3-clause-kept
returns-then-len-run-gt3-clause-kept c =
    let most = c.args.most in
    let seen = c.as_slice.result.now in
    let run = c.xml_run-run in
    let long : 4 * most + 64 < length seen = search rules in
    let some : 3 < length seen - run.result.bytes = search rules in
    subst (IsTextKept most c.no_text.new.kept.items) c.as_slice.ensures.value (none_kept most c.no_text.new.kept.items seen run.result.bytes run.result.characters c.no_text.ensures.kept long run.ensures.run run.ensures.longest some)

pub returns-clause-kept : goal.returns-clause-kept
returns-clause-kept c =
    let most = c.args.most in
    let seen = c.as_slice.result.now in
    let run = c.xml_run-run in
    let long : 4 * most + 64 < length seen = search rules in
    let few : length seen - run.result.bytes ≤ 3 = search rules in
    let short : c.spaces.new.kept.items ≡ replicate (most + 1) 32 ++ drop run.result.bytes seen = search rules in
    subst (IsTextKept most c.spaces.new.kept.items) c.as_slice.ensures.value (spaces_kept most c.spaces.new.kept.items seen run.result.bytes run.result.characters short long run.ensures.within run.ensures.run few)
