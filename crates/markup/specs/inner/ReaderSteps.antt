-- The two steps of a reader with a byte: what the byte does not go on with, and the byte itself.
use Rattle.std.specs.Prelude.{◌≡◌, ℕ, Bool, ◌==◌, ◌&&◌, not, true, List, [], ◌∷◌, ◌++◌, Some, Result, MatchResult, if◌then◌else◌}
use Rattle.lexical_core.specs.Tree.{Char}
use Rattle.markup.specs.Token.{Token}
use Rattle.markup.specs.Events.{Placed, items_of}
use Rattle.markup.specs.Faults.{rule_of}
use Rattle.markup.specs.Marks.{begins_with}
use Rattle.markup.specs.inner.TokenRules.{is_cdata}
use Rattle.markup.specs.EventItems.{Tells, TellsClean}
use Rattle.markup.specs.Scopes.{placed_at}
use Rattle.markup.specs.inner.Contexts.{TakesToken, HasOpen, without_brackets}
use Rattle.markup.specs.declared.context.Context.{Context}
use Rattle.markup.specs.declared.reader.MarkError.{MarkError}
use Rattle.markup.specs.declared.reader.MarkError.TheVariants.{Refused, Memory}
use Rattle.markup.specs.declared.tokenizer.Finish.{Finish}
use Rattle.markup.specs.inner.Tokenizers.{IsAwaited, is_ready, after_whole_tokens}
use Rattle.markup.specs.inner.Inputs.{Begins, is_return}
use Rattle.markup.specs.Reading.{Keeps}
use Rattle.markup.specs.declared.event.Event.{Event}
use Rattle.markup.specs.declared.reader.Reader.{Reader}

-- The events of more tokens of the input are told; whatever may follow that the fact allows.
pub record TellsMore (limit : ℕ) (Follows : List ℕ → Type 0) (reader : Reader) (input : List ℕ) (told : List Placed) (old new : List Event) : Type 0 where
  pub tokens : List Token
  pub more : List Placed
  pub tells : Tells old new more
  pub keeps : Keeps limit Follows reader input tokens (told ++ more)

-- What the byte does not go on with is told, and what is left goes on with it.
pub record SettlesEvents (limit : ℕ) (reader : Reader) (input : List ℕ) (told : List Placed) (byte : ℕ) (old new : List Event) : Type 0 where
  pub tells : TellsMore limit (Begins byte) reader input told old new
  pub awaited : IsAwaited reader.tokenizer.scan byte

-- the event of a CR that has come
abbrev pub return_items : Finish → ℕ → List Placed
return_items f place = if is_return f then placed_at place (Char 10 ∷ []) else []

-- A token is not taken, for this reason.
abbrev pub TokenStopped : List Token → Token → ℕ → List Event → List Event → MarkError → Type 0
TokenStopped before t place old new (Refused fault) = (rule_of before t ≡ Some fault.rule) × (fault.place ≡ place) × (new ≡ old)
TokenStopped before t place old new Memory = TellsClean (rule_of before t) old new (placed_at place (items_of before t))

-- A token at the place: its events are told, or the fault that it is.
abbrev pub TokenAnswered : {T : Type 0} → List Token → Token → ℕ → List Event → List Event → Context → Result T MarkError → Type 0
TokenAnswered before t place old new context result = MatchResult result (λ _. TakesToken before t place old new context) (λ e. TokenStopped before t place old new e)

-- A character may come next, and an element is open.
pub record IsReaderReady (reader : Reader) : Type 0 where
  pub ready : is_ready reader.tokenizer ≡ true
  pub inside : HasOpen reader.context

-- the bytes begin with a `>` that would end a `]]>` of an element's text (XML 1.0 §2.4)
abbrev pub bars_closer : Reader → List ℕ → Bool
bars_closer r bytes = begins_with 62 bytes && not (is_cdata r.tokenizer.position) && r.context.brackets == 2

-- so many bytes are taken, each of which is a character
abbrev pub passed_over : Reader → ℕ → Reader
passed_over r n = record { tokenizer = after_whole_tokens r.tokenizer n; context = without_brackets r.context; failed = r.failed }
