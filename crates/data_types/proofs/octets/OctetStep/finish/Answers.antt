use Rattle.std.proofs.Common.{take, length, ap, subst, refl, sym, ◌∙◌}
use Rattle.base64.specs.Engines.{standard}
use Rattle.base64.specs.GeneralPurpose.{IsBytes, encode_of}
use Rattle.data_types.specs.Limits.{IsWithin}
use Rattle.data_types.proofs.OctetLemmas.{decoded_text, decoded_none}
use Rattle.data_types.proofs.octets.OctetStep.finish.Goals as goal

pub returns-then-not-is_whole-clause-err : goal.returns-then-not-is_whole-clause-err
returns-then-not-is_whole-clause-err c = λ most text (octets, has, rest) all bytes e.
    let s = c.args.self.now in
    decoded_none s.stage octets (take s.count s.group) text all bytes rest (c.if-not-is_whole.ensures.no (λ yes. absurd (cc)) octets all) e

pub returns-in-Some-clause-ok : goal.returns-in-Some-clause-ok
returns-in-Some-clause-ok c = λ most text (octets, has, rest).
    let s = c.args.self.now in
    let kept = c.in-Some.ensures.some most (length octets) octets has.1 in
    let back = sym kept.0 in (
      subst IsBytes back has.0,
      decoded_text s.stage octets (take s.count s.group) text has.0 rest (c.if-not-is_whole.ensures.yes refl octets) ∙ ap (encode_of standard) back,
      subst (λ n. IsWithin most n) (ap length back) kept.1,
    )

pub returns-in-None-clause-err : goal.returns-in-None-clause-err
returns-in-None-clause-err c = λ most text (octets, has, rest).
    let s = c.args.self.now in (
      octets,
      has.0,
      decoded_text s.stage octets (take s.count s.group) text has.0 rest (c.if-not-is_whole.ensures.yes refl octets),
      c.in-None.ensures.none most (length octets) octets has.1,
    )
