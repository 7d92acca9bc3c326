use Rattle.std.proofs.Common.{take, refl}
use Rattle.data_types.proofs.OctetLemmas.{decoded_text, decoded_none}
use Rattle.data_types.proofs.octets.OctetStep.octet_count.Goals as goal

pub returns-then-not-is_whole : goal.returns-then-not-is_whole
returns-then-not-is_whole c = λ most text (octets, has, rest) all bytes e.
    let s = c.args.self.now in
    decoded_none s.stage octets (take s.count s.group) text all bytes rest (c.if-not-is_whole.ensures.no (λ yes. absurd (cc)) octets all) e

pub returns : goal.returns
returns c = λ most text (octets, has, rest).
    let s = c.args.self.now in
    (octets, has.0, decoded_text s.stage octets (take s.count s.group) text has.0 rest (c.if-not-is_whole.ensures.yes refl octets), has.2)
