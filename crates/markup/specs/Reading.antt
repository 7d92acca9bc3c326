-- What a reader has taken and told, and what it answers, under the limit that its tags have. Each fact is stated under any limit; the one of XML has the shorter name.
use Rattle.std.specs.Prelude.{◌≡◌, ◌≢◌, ◌<◌, ◌≤◌, ℕ, ◌+◌, ◌-◌, ◌==◌, true, false, List, [], ◌∷◌, ◌++◌, length, reverse, Option, None}
use Rattle.std.specs.List.{list_all, flat_map}
use Rattle.lexical_core.specs.declared.rule.Rule.TheVariants.{Truncated}
use Rattle.markup.specs.Ascii.{is_ascii, carriage_return, right_bracket}
use Rattle.markup.specs.Token.{Token, token_text, token_bytes}
use Rattle.markup.specs.Marks.{Front, in_cdata, is_first, stands, tag_limit}
use Rattle.markup.specs.Events.{Placed, events, open_tags}
use Rattle.markup.specs.Faults.{IsClean, Fault, MarkFault, MarkFaultUnder, is_over, is_outside}
use Rattle.markup.specs.Longest.{IsLongestUnder}
use Rattle.markup.specs.EventItems.{Tells}
use Rattle.markup.specs.inner.Drafts.{draft_size}
use Rattle.markup.specs.inner.Tokenizers.{FinishesBy}
use Rattle.markup.specs.declared.tokenizer.Finish.{Finish}
use Rattle.markup.specs.inner.Inputs.{ReadsTokens, Any, with_pending}
use Rattle.markup.specs.inner.Contexts.{IsContext}
use Rattle.markup.specs.PlainTags.{joined_text, tag_text, may_be_named, IsInsideOf}
use Rattle.markup.specs.PlainStarts.{PlainStart, is_plain_start, plain_start_text}
use Rattle.markup.specs.declared.plain_tag.TagKind.{TagKind}
use Rattle.markup.specs.declared.event.Event.{Event}
use Rattle.markup.specs.declared.reader.MarkError.{MarkError}
use Rattle.markup.specs.declared.reader.MarkError.TheVariants.{Refused, Memory}
use Rattle.markup.specs.declared.reader.MarkFault.{MarkFault as Told}
use Rattle.markup.specs.declared.reader.Reader.{Reader}

-- how many bytes the reader has taken
abbrev pub bytes_taken : Reader → ℕ
bytes_taken r = r.tokenizer.place

-- how many bytes it holds for the open token: those of the names and values that a tag has said
abbrev pub open_token_held : Reader → ℕ
open_token_held r = draft_size r.tokenizer.draft

-- and how many the open token has
abbrev pub token_length : Reader → ℕ
token_length r = r.tokenizer.place - r.tokenizer.start

-- the answer that it gives for good, where there is one
abbrev pub reader_failure : Reader → Option MarkError
reader_failure r = r.failed

-- a fault that is told, as one of the definitions
abbrev pub fault_of : Told → Fault
fault_of f = record { rule = f.rule; place = f.place }

-- The parts of the reader speak of these tokens of the input, and it has told these events; whatever may follow that the fact allows.
pub record Keeps (limit : ℕ) (Follows : List ℕ → Type 0) (reader : Reader) (input : List ℕ) (tokens : List Token) (told : List Placed) : Type 0 where
  pub reads : ReadsTokens limit Follows reader.tokenizer input tokens
  pub clean : IsClean [] tokens
  pub place : reader.tokenizer.place ≡ length input
  pub context : IsContext reader.context (reverse tokens)
  pub told_are : (f : Finish) → FinishesBy reader.tokenizer f → told ≡ events [] 0 (with_pending f tokens)
  pub sound : reader.failed ≡ None

-- The reader was given these bytes and has told these events.
abbrev pub HasTakenUnder : ℕ → Reader → List ℕ → List Placed → Type 0
HasTakenUnder limit reader bytes told = (tokens : List Token) × Keeps limit Any reader bytes tokens told

abbrev pub HasTaken : Reader → List ℕ → List Placed → Type 0
HasTaken reader bytes told = HasTakenUnder tag_limit reader bytes told

-- The events are those of the longest list of tokens at the front of the bytes, in which nothing breaks a rule.
abbrev pub AreEventsUnder : ℕ → List ℕ → List Placed → Type 0
AreEventsUnder limit bytes told = (tokens : List Token) × IsLongestUnder limit bytes tokens × IsClean [] tokens × (told ≡ events [] 0 tokens)

abbrev pub AreEvents : List ℕ → List Placed → Type 0
AreEvents bytes told = AreEventsUnder tag_limit bytes told

-- The bytes are whole tokens, whose events are told, and an element is open behind them.
abbrev pub IsInsideUnder : ℕ → Reader → List ℕ → List Placed → Type 0
IsInsideUnder limit reader bytes told = (tokens : List Token) × Keeps limit Any reader bytes tokens told × (flat_map token_bytes tokens ≡ bytes) × (is_outside (reverse tokens) ≡ false)

abbrev pub IsInside : Reader → List ℕ → List Placed → Type 0
IsInside reader bytes told = IsInsideUnder tag_limit reader bytes told

-- The reader has told the events of the bytes, which have no fault but that they end too early.
pub record HasToldUnder (limit : ℕ) (reader : Reader) (bytes : List ℕ) (told : List Placed) : Type 0 where
  pub taken_are : HasTakenUnder limit reader bytes told
  pub are_events : AreEventsUnder limit bytes told
  pub only_cut : (f : Fault) → MarkFaultUnder limit bytes f → f.rule ≡ Truncated

abbrev pub HasTold : Reader → List ℕ → List Placed → Type 0
HasTold reader bytes told = HasToldUnder tag_limit reader bytes told

-- The reader goes on: the new events are appended, and the bytes have no fault but that they end too early.
pub record GoesOnUnder (limit : ℕ) (reader : Reader) (bytes : List ℕ) (told : List Placed) (old new : List Event) : Type 0 where
  pub more : List Placed
  pub tells : Tells old new more
  pub taken_are : HasTakenUnder limit reader bytes (told ++ more)
  pub are_events : AreEventsUnder limit bytes (told ++ more)
  pub only_cut : (f : Fault) → MarkFaultUnder limit bytes f → f.rule ≡ Truncated

abbrev pub GoesOn : Reader → List ℕ → List Placed → List Event → List Event → Type 0
GoesOn reader bytes told old new = GoesOnUnder tag_limit reader bytes told old new

-- The reader refuses the bytes: they have the fault, whatever follows them, and the events are those of the tokens before its place.
pub record RefusesUnder (limit : ℕ) (bytes : List ℕ) (told : List Placed) (old new : List Event) (fault : Told) : Type 0 where
  pub more : List Placed
  pub tells : Tells old new more
  pub tokens : List Token
  pub rest : List ℕ
  pub front : (behind : List ℕ) → Front limit [] (bytes ++ behind) tokens (rest ++ behind)
  pub clean : IsClean [] tokens
  pub before : length (flat_map token_bytes tokens) ≡ fault.place
  pub events_are : told ++ more ≡ events [] 0 tokens
  pub has_fault : (behind : List ℕ) → MarkFaultUnder limit (bytes ++ behind) (fault_of fault)
  pub no_cut : fault.rule ≢ Truncated

abbrev pub Refuses : List ℕ → List Placed → List Event → List Event → Told → Type 0
Refuses bytes told old new fault = RefusesUnder tag_limit bytes told old new fault

-- There was no memory: a front of the events of some tokens of the bytes, in which nothing breaks a rule, is appended.
pub record RunsOutUnder (limit : ℕ) (bytes : List ℕ) (told : List Placed) (old new : List Event) : Type 0 where
  pub front : List Placed
  pub behind : List Placed
  pub tokens : List Token
  pub rest : List ℕ
  pub front_is : Front limit [] bytes tokens rest
  pub clean : IsClean [] tokens
  pub events_are : told ++ (front ++ behind) ≡ events [] 0 tokens
  pub tells : Tells old new front

abbrev pub RunsOut : List ℕ → List Placed → List Event → List Event → Type 0
RunsOut bytes told old new = RunsOutUnder tag_limit bytes told old new

-- the reader stops for good
abbrev pub StopsUnder : ℕ → List ℕ → List Placed → List Event → List Event → MarkError → Type 0
StopsUnder limit bytes told old new (Refused fault) = RefusesUnder limit bytes told old new fault
StopsUnder limit bytes told old new Memory = RunsOutUnder limit bytes told old new

abbrev pub Stops : List ℕ → List Placed → List Event → List Event → MarkError → Type 0
Stops bytes told old new error = StopsUnder tag_limit bytes told old new error

-- The bytes are whole, and the events are all of theirs.
abbrev pub IsWhollyUnder : ℕ → List ℕ → List Placed → Type 0
IsWhollyUnder limit bytes told = (tokens : List Token) × Front limit [] bytes tokens [] × IsClean [] tokens × (is_over (reverse tokens) ≡ true) × (told ≡ events [] 0 tokens)

abbrev pub IsWholly : List ℕ → List Placed → Type 0
IsWholly bytes told = IsWhollyUnder tag_limit bytes told

-- The bytes end too early.
abbrev pub EndsEarlyUnder : ℕ → List ℕ → MarkError → Type 0
EndsEarlyUnder limit bytes (Refused fault) = MarkFaultUnder limit bytes (fault_of fault)
EndsEarlyUnder limit bytes Memory = ⊥

abbrev pub EndsEarly : List ℕ → MarkError → Type 0
EndsEarly bytes error = EndsEarlyUnder tag_limit bytes error

-- What a reader has taken has no fault but that it may end too early.
abbrev pub NoFaultTaken : Type 0
NoFaultTaken = (reader : Reader) (bytes : List ℕ) (told : List Placed) → HasTaken reader bytes told → (f : Fault) → MarkFault bytes f → f.rule ≡ Truncated

-- The bytes are whole tokens, whose events are told, and no CDATA section is open behind them.
pub record IsInTextUnder (limit : ℕ) (reader : Reader) (bytes : List ℕ) (told : List Placed) : Type 0 where
  pub tokens : List Token
  pub keeps : Keeps limit Any reader bytes tokens told
  pub whole : flat_map token_bytes tokens ≡ bytes
  pub in_text : in_cdata (reverse tokens) ≡ false

-- Behind whole tokens, outside CDATA sections, the plain tag of the prefix and the local name may come, which has no more bytes than one of XML: where the innermost open element has that prefix.
pub record MayTakeTagUnder (limit : ℕ) (reader : Reader) (bytes : List ℕ) (told : List Placed) (kind : TagKind) (prefix name : List ℕ) : Type 0 where
  pub before : IsInTextUnder limit reader bytes told
  pub opened : List ℕ
  pub inside : IsInsideOf (open_tags (reverse before.tokens)) (record { prefix = prefix; local = opened })
  pub named : may_be_named kind opened name
  pub short : length (tag_text kind (joined_text prefix name)) ≤ tag_limit

abbrev pub MayTakeTag : Reader → List ℕ → List Placed → TagKind → List ℕ → List ℕ → Type 0
MayTakeTag reader bytes told kind prefix name = MayTakeTagUnder tag_limit reader bytes told kind prefix name

-- Behind whole tokens, outside CDATA sections, the plain start tag may come, which has no more bytes than one of XML: neither first nor right behind the byte order mark, where the declaration may come.
pub record MayTakeStartUnder (limit : ℕ) (reader : Reader) (bytes : List ℕ) (told : List Placed) (tag : PlainStart) : Type 0 where
  pub before : IsInTextUnder limit reader bytes told
  pub behind : is_first (reverse before.tokens) ≡ false
  pub plain : is_plain_start tag ≡ true
  pub short : length (plain_start_text tag) ≤ tag_limit

abbrev pub MayTakeStart : Reader → List ℕ → List Placed → PlainStart → Type 0
MayTakeStart reader bytes told tag = MayTakeStartUnder tag_limit reader bytes told tag

-- A token is open behind the tokens before, which begins with neither a CR nor a `]`; some token goes on with these bytes of ASCII and is not whole with them, and it has fewer bytes then than a tag may have.
pub record MayTakeInsideUnder (limit : ℕ) (reader : Reader) (bytes : List ℕ) (told : List Placed) (more : List ℕ) : Type 0 where
  pub tokens : List Token
  pub keeps : Keeps limit Any reader bytes tokens told
  pub first : ℕ
  pub others : List ℕ
  pub begun : keeps.reads.opens.chars ≡ first ∷ others
  pub whole : keeps.reads.opens.part ≡ []
  pub no_return : (first == carriage_return) ≡ false
  pub no_bracket : (first == right_bracket) ≡ false
  pub token : Token
  pub next : ℕ
  pub behind : List ℕ
  pub after : List ℕ
  pub text : token_text token ≡ (first ∷ (others ++ more)) ++ next ∷ behind
  pub is : stands (reverse tokens) token after ≡ true
  pub ascii : list_all is_ascii more ≡ true
  pub short : length keeps.reads.bytes + length more < limit

abbrev pub MayTakeInside : Reader → List ℕ → List Placed → List ℕ → Type 0
MayTakeInside reader bytes told more = MayTakeInsideUnder tag_limit reader bytes told more
