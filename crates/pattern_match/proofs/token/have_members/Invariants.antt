use Rattle.std.proofs.Common.{◌≡◌, drop}
use Rattle.pattern_match.specs.Token.{members_have}
use Rattle.pattern_match.proofs.token.have_members.Given as goal

-- the members that are left have the character where all have it
abbrev pub invariant-loop-token : goal.invariant-loop-token
invariant-loop-token l = members_have (drop l.token-index l.tokens) l.c ≡ members_have l.tokens l.c
