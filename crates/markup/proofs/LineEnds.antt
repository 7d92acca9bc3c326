-- Which line end a byte ends.
use Rattle.std.proofs.Common.{◌≡◌, ℕ, Bool, true, false, ◌⊎◌, inl, inr, List, [], ◌∷◌, ◌++◌, if◌then◌else◌, refl, sym, ◌∙◌, ap, subst, append_assoc, append-nil}
use Rattle.std.specs.Char.{encode_utf8}
use Rattle.std.specs.Str.{encode_utf8_all}
use Rattle.markup.specs.Token.{Token, LineEnd, Cr, CrLf, token_bytes}
use Rattle.markup.specs.Marks.{in_cdata, stands}
use Rattle.markup.specs.inner.Drafts.{no_draft}
use Rattle.markup.specs.inner.ScanRuns.{At, run, position}
use Rattle.markup.specs.inner.Tokenizers.{IsAwaited, IsTokenOpen, EndsToken}
use Rattle.markup.specs.declared.scan.Scan.{Scan}
use Rattle.markup.specs.declared.scan.Scan.TheVariants.{Begin, AfterReturn}
use Rattle.markup.specs.declared.scan.Ended.{Ended}
use Rattle.markup.specs.declared.draft.Draft.{Draft}
use Rattle.markup.specs.declared.tokenizer.Tokenizer.{Tokenizer}
use Rattle.markup.proofs.TokenLaw.{one_token}
use Rattle.markup.proofs.Complete.{return_run}
use Rattle.markup.proofs.NoTokens.{Shorter, Longer, compare_texts, no_whole}
use Rattle.markup.proofs.TokenizerLemmas.{none_front}

-- and where that byte is open, a CR is
pub open_return : {limit : ℕ} (z : Tokenizer) (before : List Token) (bytes : List ℕ) → IsTokenOpen limit z before bytes → bytes ≡ token_bytes (LineEnd Cr) → z.scan ≡ AfterReturn
open_return z before bytes o e = by (compare_texts o.chars (13 ∷ []) o.part [] (sym o.bytes_are ∙ (e ∙ sym (append-nil (token_bytes (LineEnd Cr)))))) where
  scan_same : (s t : Scan) (d f : Draft) → At s d ≡ At t f → s ≡ t
  scan_same s t d f h = cc

  at_end : (more : List ℕ) → o.chars ≡ 13 ∷ more → [] ≡ encode_utf8_all more ++ o.part → z.scan ≡ AfterReturn
  at_end [] h k = scan_same z.scan AfterReturn z.draft no_draft (sym o.scan_is ∙ (ap (run (Begin (position before)) no_draft) h ∙ return_run before []))
  at_end (c ∷ more) h k = absurd (no_whole [] (encode_utf8_all more ++ o.part) c none_front (k ∙ append_assoc (encode_utf8 c) (encode_utf8_all more) o.part))

  by : Shorter o.chars (13 ∷ []) o.part [] ⊎ Longer o.chars (13 ∷ []) o.part [] → z.scan ≡ AfterReturn
  by (inl r) = at_end r.more r.text r.behind
  by (inr r) = absurd (no_whole o.part (encode_utf8_all r.more ++ []) r.next o.front (r.behind ∙ append_assoc (encode_utf8 r.next) (encode_utf8_all r.more) []))

-- a CR LF stands anywhere
pub crlf_stands : (before : List Token) (after : List ℕ) → stands before (LineEnd CrLf) after ≡ true
crlf_stands before after = by (in_cdata before) where
  by : (b : Bool) → (if b then true else true) ≡ true
  by true = refl
  by false = refl

-- the bytes of line ends
pub line_bytes : (token_bytes (LineEnd Cr) ++ 10 ∷ [] ≡ token_bytes (LineEnd CrLf)) × (token_bytes (LineEnd CrLf) ≡ 13 ∷ 10 ∷ []) × (token_bytes (LineEnd Cr) ≡ 13 ∷ [])
unfolding encode_utf8
line_bytes = (refl, refl, refl)

-- the byte that an open CR awaits makes a CR LF
pub awaited_crlf : {limit : ℕ} (z : Tokenizer) (before : List Token) (bytes : List ℕ) (byte : ℕ) → IsTokenOpen limit z before bytes → bytes ≡ token_bytes (LineEnd Cr) → IsAwaited z.scan byte → bytes ++ byte ∷ [] ≡ token_bytes (LineEnd CrLf)
awaited_crlf z before bytes byte o h w = both bytes (token_bytes (LineEnd Cr)) byte 10 h (subst (λ s. IsAwaited s byte) (open_return z before bytes o h) w) ∙ line_bytes.0 where
  both : (v w : List ℕ) (x y : ℕ) → v ≡ w → x ≡ y → v ++ x ∷ [] ≡ w ++ y ∷ []
  both v w x y e f = cc

-- a byte that ends a CR that was open is the LF of a CR LF
pub ends_crlf : {limit : ℕ} (old new : Tokenizer) (before : List Token) (bytes : List ℕ) (byte : ℕ) (e : Ended) (d : Draft) → IsTokenOpen limit old before bytes → bytes ≡ token_bytes (LineEnd Cr) → IsAwaited old.scan byte → (k : EndsToken limit new before (bytes ++ byte ∷ []) e d) → k.token ≡ LineEnd CrLf
ends_crlf old new before bytes byte e d o h w k = (one_token before k.token (LineEnd CrLf) (token_bytes (LineEnd CrLf)) [] []
    (record { spelled = sym (awaited_crlf old before bytes byte o h w) ∙ (sym k.bytes_are ∙ sym (append-nil (token_bytes k.token))); is = k.is [] })
    (record { spelled = sym (append-nil (token_bytes (LineEnd CrLf))); is = crlf_stands before [] })).0
