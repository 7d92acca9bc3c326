-- A CR LF at the front of a piece, read a byte at a time, is the token of its place.
use Rattle.std.proofs.Common.{◌≡◌, ℕ, true, List, [], ◌∷◌, ◌++◌, length, take, reverse, refl, sym, ◌∙◌, ap, subst}
use Rattle.std.proofs.lemmas.Bool.{and_parts}
use Rattle.lexical_core.specs.Tree.{Char}
use Rattle.markup.specs.Token.{Token, LineEnd, CrLf, token_bytes}
use Rattle.markup.specs.Events.{Placed}
use Rattle.markup.specs.Scopes.{placed_at}
use Rattle.markup.specs.inner.Contexts.{IsContext, without_brackets}
use Rattle.markup.specs.inner.Tokenizers.{is_between, is_in_text}
use Rattle.markup.specs.Reading.{HasTakenUnder, HasToldUnder}
use Rattle.markup.specs.inner.ReaderSteps.{passed_over}
use Rattle.markup.specs.declared.reader.Reader.{Reader}
use Rattle.markup.proofs.LineEnds.{crlf_stands, line_bytes}
use Rattle.markup.proofs.PlainLemmas.{text_between}
use Rattle.markup.proofs.ReaderLemmas.{told_so_far}
use Rattle.markup.proofs.WholeTokens.{IsNext, takes_next}

module _ {limit : ℕ} (r : Reader) (bytes piece rest : List ℕ) (told : List Placed) (h : HasTakenUnder limit r bytes told) (text : is_in_text r.tokenizer ≡ true) (e : piece ≡ 13 ∷ 10 ∷ rest) where
  abbrev before : List Token
  before = reverse h.0

  abbrev token : Token
  token = LineEnd CrLf

  between : is_between r.tokenizer.scan ≡ true
  between = text_between r.tokenizer.scan (and_parts _ _ text).0

  next : IsNext limit before token
  next = record { is = crlf_stands before; short = refl; clean = refl; stays = λ p. refl }

  context_is : IsContext (without_brackets r.context) (token ∷ before)
  context_is = record { scope = h.1.context.scope; root = h.1.context.root; brackets_are = refl }

  taken : HasTakenUnder limit (passed_over r 2) (bytes ++ token_bytes token) (told ++ placed_at (length bytes) (Char 10 ∷ []))
  taken = takes_next r bytes told h between (and_parts _ _ text).1 token 2 (without_brackets r.context) next (ap length (sym line_bytes.1)) context_is

  pub takes_line_end : HasToldUnder limit (passed_over r 2) (bytes ++ take 2 piece) (told ++ placed_at (length bytes) (Char 10 ∷ []))
  takes_line_end = told_so_far (passed_over r 2) (bytes ++ take 2 piece) (told ++ placed_at (length bytes) (Char 10 ∷ []))
      (subst (λ v. HasTakenUnder limit (passed_over r 2) (bytes ++ v) (told ++ placed_at (length bytes) (Char 10 ∷ []))) (line_bytes.1 ∙ sym (ap (take 2) e)) taken)
