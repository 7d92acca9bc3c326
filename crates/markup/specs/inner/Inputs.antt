-- What the reader of tokens has read of a whole input.
use Rattle.std.specs.Prelude.{◌≡◌, ℕ, ◌+◌, Bool, true, false, List, [], ◌∷◌, ◌++◌, length, reverse, Some, None, if◌then◌else◌}
use Rattle.std.specs.List.{flat_map}
use Rattle.lexical_core.specs.declared.rule.Rule.{Rule}
use Rattle.lexical_core.specs.Tree.{Char}
use Rattle.markup.specs.Token.{Token, LineEnd, Character, Cr, token_bytes}
use Rattle.markup.specs.Marks.{Front}
use Rattle.markup.specs.Faults.{rule_of, IsClean, MarkFaultUnder}
use Rattle.markup.specs.Events.{Placed, open_tags, events}
use Rattle.markup.specs.Scopes.{placed_at}
use Rattle.markup.specs.inner.ScanRuns.{ended_of, draft_of}
use Rattle.markup.specs.inner.Tokenizers.{Outcome, More, EndedToken, Refused, IsTokenOpen, IsAwaited, FinishesBy}
use Rattle.markup.specs.inner.TokenRules.{items_by}
use Rattle.markup.specs.declared.draft.Draft.{Draft}
use Rattle.markup.specs.declared.scan.Ended.{Ended}
use Rattle.markup.specs.declared.tokenizer.Settled.{Settled}
use Rattle.markup.specs.declared.tokenizer.Settled.TheVariants.{Nothing as NothingSettled, Return as ReturnSettled, Bracket as BracketSettled, Brackets as BracketsSettled}
use Rattle.markup.specs.declared.tokenizer.Finish.{Finish}
use Rattle.markup.specs.declared.tokenizer.Finish.TheVariants.{Return, Open}
use Rattle.markup.specs.declared.tokenizer.Tokenizer.{Tokenizer}

-- The reader has read these tokens of the input, in which tags have at most so many bytes, and the rest of it is open; whatever may follow that the fact allows.
pub record ReadsTokens (limit : ℕ) (Follows : List ℕ → Type 0) (z : Tokenizer) (input : List ℕ) (ts : List Token) : Type 0 where
  pub bytes : List ℕ
  pub front : (more : List ℕ) → Follows more → Front limit [] (input ++ more) ts (bytes ++ more)
  pub opens : IsTokenOpen limit z (reverse ts) bytes

-- what follows begins with the byte
abbrev pub Begins : ℕ → List ℕ → Type 0
Begins byte more = (m : List ℕ) × (more ≡ byte ∷ m)

-- anything may follow
abbrev pub Any : List ℕ → Type 0
Any more = Unit {0}

-- the tokens of an input that ends here: a CR that is open is one of them
abbrev pub with_pending : Finish → List Token → List Token
with_pending Return ts = ts ++ LineEnd Cr ∷ []
with_pending _ ts = ts

-- the input ends within a token
abbrev pub is_cut : Finish → Bool
is_cut Open = true
is_cut _ = false

-- a CR is open where the input ends
abbrev pub is_return : Finish → Bool
is_return Return = true
is_return _ = false

-- the tokens behind those that a byte has settled
abbrev pub settled_tokens : Settled → List Token → List Token
settled_tokens NothingSettled ts = ts
settled_tokens ReturnSettled ts = ts ++ LineEnd Cr ∷ []
settled_tokens BracketSettled ts = ts ++ Character 93 ∷ []
settled_tokens BracketsSettled ts = ts ++ Character 93 ∷ Character 93 ∷ []

-- the events that a byte settles, at this place
abbrev pub settled_events : ℕ → Settled → List Placed
settled_events place BracketSettled = placed_at place (Char 93 ∷ [])
settled_events place BracketsSettled = placed_at place (Char 93 ∷ []) ++ placed_at (place + 1) (Char 93 ∷ [])
settled_events place _ = []

-- These events come to those of the tokens, where a CR that is open counts as one of them.
abbrev pub AddsEvents : Tokenizer → Tokenizer → List Token → List Token → (Finish → Finish → List Placed) → Type 0
AddsEvents old new before after added = (f g : Finish) → FinishesBy old f → FinishesBy new g → events [] 0 (with_pending g after) ≡ events [] 0 (with_pending f before) ++ added f g

-- What the byte does not go on with are further tokens that break no rule, and what is left of the input goes on with it.
pub record SettlesInput (limit : ℕ) (old new : Tokenizer) (input : List ℕ) (ts : List Token) (byte : ℕ) (result : Settled) : Type 0 where
  pub reads : ReadsTokens limit (Begins byte) new input (settled_tokens result ts)
  pub clean : IsClean [] (settled_tokens result ts)
  pub awaited : IsAwaited new.scan byte
  pub adds : AddsEvents old new ts (settled_tokens result ts) (λ f g. settled_events (length (flat_map token_bytes ts)) result)

-- Whatever follows the input, this rule is the first that is broken, behind these tokens.
abbrev pub ShowsRule : ℕ → List ℕ → List Token → Rule → Type 0
ShowsRule limit input ts rule = (more : List ℕ) → MarkFaultUnder limit (input ++ more) (record { rule = rule; place = length (flat_map token_bytes ts) })

-- no more tokens of the input; where a CR has come it is told as a line end
pub record ReadsMore (limit : ℕ) (old new : Tokenizer) (input : List ℕ) (ts : List Token) : Type 0 where
  pub reads : ReadsTokens limit Any new input ts
  pub adds : AddsEvents old new ts ts (λ f g. if is_return g then placed_at (length (flat_map token_bytes ts)) (Char 10 ∷ []) else [])

-- one more token of the input, of which the scan says this: it breaks a rule or none, and its events are told but for a CR LF whose CR was told
pub record ReadsToken (limit : ℕ) (old new : Tokenizer) (input : List ℕ) (ts : List Token) (e : Ended) (d : Draft) : Type 0 where
  pub token : Token
  pub ended_is : ended_of token ≡ e
  pub draft_is : draft_of token ≡ d
  pub reads : ReadsTokens limit Any new input (ts ++ token ∷ [])
  pub clean : rule_of (reverse ts) token ≡ None → IsClean [] (ts ++ token ∷ [])
  pub broken : (rule : Rule) → rule_of (reverse ts) token ≡ Some rule → ShowsRule limit input ts rule
  pub adds : AddsEvents old new ts (ts ++ token ∷ []) (λ f g. if is_return f then [] else placed_at (length (flat_map token_bytes ts)) (items_by (open_tags (reverse ts)) e d))

-- what the last byte of the input has made of these tokens
abbrev pub AdvancesInput : ℕ → Tokenizer → Tokenizer → List ℕ → List Token → Outcome → Type 0
AdvancesInput limit old new input ts More = ReadsMore limit old new input ts
AdvancesInput limit old new input ts (EndedToken e d) = ReadsToken limit old new input ts e d
AdvancesInput limit old new input ts (Refused rule) = ShowsRule limit input ts rule
