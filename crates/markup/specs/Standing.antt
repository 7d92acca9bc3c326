-- What stands at the front of an input stands there whatever follows, and no fault stands where a clean token does.
use Rattle.std.specs.Prelude.{◌≡◌, ℕ, true, List, [], ◌++◌, None}
use Rattle.lexical_core.specs.declared.rule.Rule.{Rule}
use Rattle.markup.specs.Token.{Token, token_bytes}
use Rattle.markup.specs.Marks.{Cell, Front, is_short, tag_limit}
use Rattle.markup.specs.Events.{Placed, events}
use Rattle.markup.specs.Faults.{Next, IsClean, rule_of, is_over}
use Rattle.markup.specs.Reading.{HasTaken, AreEvents}
use Rattle.markup.specs.declared.reader.Reader.{Reader}

-- Whatever follows what a reader has taken, the events that it told are those of tokens at the front.
abbrev pub EventsStay : Type 0
EventsStay = (reader : Reader) (bytes : List ℕ) (told : List Placed) → HasTaken reader bytes told → (behind : List ℕ)
    → (tokens : List Token) × (rest : List ℕ) × Front tag_limit [] (bytes ++ behind) tokens rest × IsClean [] tokens × (told ≡ events [] 0 tokens)

-- They are those of the longest list of tokens at the front of the bytes.
abbrev pub EventsAreAll : Type 0
EventsAreAll = (reader : Reader) (bytes : List ℕ) (told : List Placed) → HasTaken reader bytes told → AreEvents bytes told

-- Where a token stands that breaks no rule, nothing else is wrong.
abbrev pub NothingAtClean : Type 0
NothingAtClean = (before : List Token) (bytes : List ℕ) (t : Token) (after : List ℕ) (rule : Rule) (at : ℕ) → Next tag_limit before bytes rule at
    → Cell before t bytes after → is_short tag_limit t ≡ true → rule_of before t ≡ None → ⊥

-- At one place one rule is broken first.
abbrev pub OneNext : Type 0
OneNext = (before : List Token) (bytes : List ℕ) (r q : Rule) (a b : ℕ) → Next tag_limit before bytes r a → Next tag_limit before bytes q b → (r ≡ q) × (a ≡ b)

-- Behind the whole of an input nothing is wrong, and no token stands.
abbrev pub NothingBehindWhole : Type 0
NothingBehindWhole = (before : List Token) (rule : Rule) (at : ℕ) → Next tag_limit before [] rule at → is_over before ≡ true → ⊥

abbrev pub NoTokenBehindAll : Type 0
NoTokenBehindAll = (before : List Token) (t : Token) (after : List ℕ) → Cell before t [] after → ⊥

-- Each token has bytes.
abbrev pub TokensHaveBytes : Type 0
TokensHaveBytes = (t : Token) → token_bytes t ≡ [] → ⊥
