-- The first rule that is broken is the lowest.
use Rattle.std.proofs.Common.{refl, subst, arith}
use Rattle.reference_check.specs.inner.First.{TellsFirst}
use Rattle.reference_check.specs.Rules.{BadCodes, LeftOutKind, NameTwice, TooMany}
use Rattle.reference_check.proofs.TailRules.{below_codes, below_kinds, below_names, below_counts, sound_tail, told}
use Rattle.reference_check.proofs.tail_rules.tail.Goals as goal

pub refusal-requires : goal.refusal-requires
refusal-requires c =
    let (m, is) = c.requires in (m, BadCodes, is.has, subst (TellsFirst c.args.repository.now m BadCodes) c.in-Some.is (c.in_ok-breaker.ensures m is.has))

pub returns-in-Some-clause-broken : goal.returns-in-Some-clause-broken
returns-in-Some-clause-broken c m is =
    let found = subst (TellsFirst c.args.repository.now m BadCodes) c.in-Some.is (c.in_ok-breaker.ensures m is.has) in
    told c.args.repository.now m BadCodes c.refusal.result (omega arith) (below_codes c.args.repository.now m) (c.refusal.ensures m BadCodes is.has found refl)

pub refusal-requires-in-Some-first_left_out : goal.refusal-requires-in-Some-first_left_out
refusal-requires-in-Some-first_left_out c =
    let (m, is) = c.requires in (m, LeftOutKind, is.has, subst (TellsFirst c.args.repository.now m LeftOutKind) c.in-Some-first_left_out.is (c.first_left_out.ensures m is.has))

pub returns-in-Some-first_left_out-clause-broken : goal.returns-in-Some-first_left_out-clause-broken
returns-in-Some-first_left_out-clause-broken c m is =
    let codes = subst (TellsFirst c.args.repository.now m BadCodes) c.in_default.is (c.in_ok-breaker.ensures m is.has) in
    let found = subst (TellsFirst c.args.repository.now m LeftOutKind) c.in-Some-first_left_out.is (c.first_left_out.ensures m is.has) in
    told c.args.repository.now m LeftOutKind c.refusal-in-Some-first_left_out.result (omega arith) (below_kinds c.args.repository.now m codes) (c.refusal-in-Some-first_left_out.ensures m LeftOutKind is.has found refl)

pub refusal-requires-in-Some-2 : goal.refusal-requires-in-Some-2
refusal-requires-in-Some-2 c =
    let (m, is) = c.requires in (m, NameTwice, is.has, subst (TellsFirst c.args.repository.now m NameTwice) c.in-Some-2.is (c.in_ok-breaker-2.ensures m is.has))

pub returns-in-Some-2-clause-broken : goal.returns-in-Some-2-clause-broken
returns-in-Some-2-clause-broken c m is =
    let codes = subst (TellsFirst c.args.repository.now m BadCodes) c.in_default.is (c.in_ok-breaker.ensures m is.has) in
    let kinds = subst (TellsFirst c.args.repository.now m LeftOutKind) c.in_default-first_left_out.is (c.first_left_out.ensures m is.has) in
    let found = subst (TellsFirst c.args.repository.now m NameTwice) c.in-Some-2.is (c.in_ok-breaker-2.ensures m is.has) in
    told c.args.repository.now m NameTwice c.refusal-in-Some-2.result (omega arith) (below_names c.args.repository.now m codes kinds) (c.refusal-in-Some-2.ensures m NameTwice is.has found refl)

pub refusal-requires-in-Some-3 : goal.refusal-requires-in-Some-3
refusal-requires-in-Some-3 c =
    let (m, is) = c.requires in (m, TooMany, is.has, subst (TellsFirst c.args.repository.now m TooMany) c.in-Some-3.is (c.in_ok-breaker-3.ensures m is.has))

pub returns-in-Some-3-clause-broken : goal.returns-in-Some-3-clause-broken
returns-in-Some-3-clause-broken c m is =
    let codes = subst (TellsFirst c.args.repository.now m BadCodes) c.in_default.is (c.in_ok-breaker.ensures m is.has) in
    let kinds = subst (TellsFirst c.args.repository.now m LeftOutKind) c.in_default-first_left_out.is (c.first_left_out.ensures m is.has) in
    let names = subst (TellsFirst c.args.repository.now m NameTwice) c.in_default-2.is (c.in_ok-breaker-2.ensures m is.has) in
    let found = subst (TellsFirst c.args.repository.now m TooMany) c.in-Some-3.is (c.in_ok-breaker-3.ensures m is.has) in
    told c.args.repository.now m TooMany c.refusal-in-Some-3.result (omega arith) (below_counts c.args.repository.now m codes kinds names) (c.refusal-in-Some-3.ensures m TooMany is.has found refl)

pub returns-clause-sound : goal.returns-clause-sound
returns-clause-sound c m is =
    sound_tail c.args.repository.now m (subst (TellsFirst c.args.repository.now m BadCodes) c.in_default.is (c.in_ok-breaker.ensures m is.has))
    (subst (TellsFirst c.args.repository.now m LeftOutKind) c.in_default-first_left_out.is (c.first_left_out.ensures m is.has))
    (subst (TellsFirst c.args.repository.now m NameTwice) c.in_default-2.is (c.in_ok-breaker-2.ensures m is.has))
    (subst (TellsFirst c.args.repository.now m TooMany) c.in_default-3.is (c.in_ok-breaker-3.ensures m is.has))
