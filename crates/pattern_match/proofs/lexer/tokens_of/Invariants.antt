use Rattle.std.proofs.Common.{◌≡◌, ◌++◌, drop, Some}
use Rattle.pattern_match.specs.Control.{IsSoundControl}
use Rattle.pattern_match.specs.Tokens.{emit_tokens}
use Rattle.pattern_match.specs.declared.control.Control.TheVariants.{Start}
use Rattle.pattern_match.proofs.lexer.tokens_of.Given as goal

-- the tokens so far, and those of the characters that are left
abbrev pub invariant-loop-c : goal.invariant-loop-c
invariant-loop-c l = record {
  tokens : l.tokens.items ++ emit_tokens (Some l.control) (drop l.c-index l.text) ≡ emit_tokens (Some Start) l.text;
  sound : IsSoundControl l.control;
}
