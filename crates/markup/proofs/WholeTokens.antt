-- A reader behind a whole token, whatever follows it.
use Rattle.std.proofs.Common.{◌≡◌, ℕ, true, ◌==◌, List, [], ◌∷◌, ◌++◌, length, reverse, None}
use Rattle.markup.specs.Token.{Token, token_bytes}
use Rattle.markup.specs.Marks.{stands, is_short}
use Rattle.markup.specs.Events.{Placed, events, items_of}
use Rattle.markup.specs.Faults.{rule_of}
use Rattle.markup.specs.Scopes.{placed_at}
use Rattle.markup.specs.inner.Contexts.{IsContext}
use Rattle.markup.specs.inner.ScanRuns.{ended_of}
use Rattle.markup.specs.inner.Tokenizers.{after_other, behind_token, is_between, after_whole_tokens}
use Rattle.markup.specs.inner.Inputs.{Any}
use Rattle.markup.specs.Reading.{HasTakenUnder}
use Rattle.markup.specs.declared.context.Context.{Context}
use Rattle.markup.specs.declared.reader.Reader.{Reader}
use Rattle.markup.specs.declared.scan.Position.{Position}
use Rattle.markup.proofs.FollowedTokens.{none_open_then, all_told_then, keeps_next}

-- a token that stands there whatever follows, and breaks no rule
pub record IsNext (limit : ℕ) (before : List Token) (t : Token) : Type 0 where
  pub is : (after : List ℕ) → stands before t after ≡ true
  pub short : is_short limit t ≡ true
  pub clean : rule_of before t ≡ None
  pub stays : (p : Position) → behind_token p (ended_of t) ≡ after_other p

-- where no token is open
module _ {limit : ℕ} (r : Reader) (bytes : List ℕ) (told : List Placed) (h : HasTakenUnder limit r bytes told) (between : is_between r.tokenizer.scan ≡ true) (starts : (r.tokenizer.place == r.tokenizer.start) ≡ true) where
  pub none_open : h.1.reads.bytes ≡ []
  none_open = none_open_then Any [] tt r bytes h.0 told h.1 between starts

  pub all_told : told ≡ events [] 0 h.0
  all_told = all_told_then Any [] tt r bytes h.0 told h.1 between starts

  pub takes_next : (t : Token) (n : ℕ) (c : Context) → IsNext limit (reverse h.0) t → n ≡ length (token_bytes t) → IsContext c (t ∷ reverse h.0)
      → HasTakenUnder limit (record { tokenizer = after_whole_tokens r.tokenizer n; context = c; failed = r.failed }) (bytes ++ token_bytes t) (told ++ placed_at (length bytes) (items_of (reverse h.0) t))
  takes_next t n c next size context = (
    h.0 ++ t ∷ [],
    keeps_next Any [] tt r bytes h.0 told h.1 between starts Any [] tt t (λ more _. tt) n c (record { is = λ after _. next.is after; short = next.short; clean = next.clean; stays = next.stays }) size context,
  )
