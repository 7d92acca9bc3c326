use Rattle.std.proofs.Common.{subst}
use Rattle.der_codec.specs.Reserved.{IsRoomyCheck}
use Rattle.der_codec.proofs.checks.Checks.check_at.Goals as goal

pub returns-in-None-clause-there : goal.returns-in-None-clause-there
returns-in-None-clause-there c = λ bytes h. absurd (subst (IsRoomyCheck bytes) c.in-None.is (c.take.ensures.there bytes h))

pub returns-in-None-clause-ok : goal.returns-in-None-clause-ok
returns-in-None-clause-ok c = λ bytes h. absurd (subst (IsRoomyCheck bytes) c.in-None.is (c.take.ensures.there bytes h))
