use Rattle.std.proofs.Common.{arith}
use Rattle.std.proofs.Math.Bridge.{le_prop}
use Rattle.std.proofs.Math.Logic.{∥∥₁_elim}
use Rattle.std.specs.Coded.{Coded-set, coded_ℕ}
use Rattle.der_codec.proofs.open_envelope.OpenEnvelope.held.Goals as goal

pub returns-clause-count : goal.returns-clause-count
returns-clause-count c = ∥∥₁_elim c.args.self.now.given (Coded-set coded_ℕ _ _) (λ (octets, taken, few). c.held.ensures.count octets taken few)

pub returns-clause-few : goal.returns-clause-few
returns-clause-few c = ∥∥₁_elim c.args.self.now.given le_prop (λ (octets, taken, few). let most = c.held.ensures.bound octets taken few in omega (arith, most, few))
