-- The path is written where it is UTF-8, and left out where it is not.
use Rattle.std.proofs.Common.{◌≡◌, ◌∙◌, sym, subst}
use Rattle.std.specs.Str.{IsUtf8}
use Rattle.message_model.proofs.FaultTexts.{with_path, without_path}
use Rattle.message_model.proofs.fault.FaultDisplay.fmt.Goals as goal

pub returns-in-Ok-clause-writes : goal.returns-in-Ok-clause-writes
returns-in-Ok-clause-writes g c plain ok =
    let path : c.in-Ok.path.now ≡ c.args.self.now.path = c.in-Ok.ensures.cases.0 ∙ c.bytes.ensures in
    let utf8 : IsUtf8 c.args.self.now.path = subst IsUtf8 c.bytes.ensures c.in-Ok.ensures.cases.1 in
    rw (with_path c.args.self.now utf8, sym c.name-rule.ensures, sym path) (c.write.ensures.writes plain ok)

pub returns-in-Err-clause-writes : goal.returns-in-Err-clause-writes
returns-in-Err-clause-writes g c plain ok =
    let bad : (IsUtf8 c.args.self.now.path → ⊥) = λ is. c.in-Err.ensures.cases.0 (subst IsUtf8 (sym c.bytes.ensures) is) in
    rw (without_path c.args.self.now bad, sym c.name-rule.ensures) (c.write-in-Err.ensures.writes plain ok)
