use Rattle.std.proofs.Common.{ℕ, ◌≤◌, ◌<◌, ◌^◌, arith}
use Rattle.markup.specs.Reading.{open_token_held}
use Rattle.markup.proofs.HeldBytes.{token_within, token_bounded}
use Rattle.markup.proofs.reader.Reader.token.Goals as goal

below : (n limit : ℕ) → n ≤ limit → limit ≤ 2 ^ 40 → n < 2 ^ 64
below n limit h k = omega (arith, h, k)

pub returns-clause-held : goal.returns-clause-held
returns-clause-held c limit bytes told h = c.held.ensures (below (open_token_held c.args.self.now) limit (token_bounded c.args.self.now bytes told h) h.1.reads.opens.limited.1)

pub returns-clause-within : goal.returns-clause-within
returns-clause-within c limit bytes told h = omega (arith, token_within c.args.self.now bytes told h, c.held.ensures (below (open_token_held c.args.self.now) limit (token_bounded c.args.self.now bytes told h) h.1.reads.opens.limited.1))

pub returns-clause-bound : goal.returns-clause-bound
returns-clause-bound c limit bytes told h = omega (arith, token_bounded c.args.self.now bytes told h, c.held.ensures (below (open_token_held c.args.self.now) limit (token_bounded c.args.self.now bytes told h) h.1.reads.opens.limited.1))
