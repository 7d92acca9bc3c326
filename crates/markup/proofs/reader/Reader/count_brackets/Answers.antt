use Rattle.markup.proofs.BracketRuns.{no_brackets}
use Rattle.markup.proofs.reader.Reader.count_brackets.Goals as goal

pub returns-then-is_some-clause-only : goal.returns-then-is_some-clause-only
returns-then-is_some-clause-only c = no_brackets

pub returns-then-not-is_in_text-clause-only : goal.returns-then-not-is_in_text-clause-only
returns-then-not-is_in_text-clause-only c = no_brackets

pub returns-then-not-has_open-clause-only : goal.returns-then-not-has_open-clause-only
returns-then-not-has_open-clause-only c = no_brackets
