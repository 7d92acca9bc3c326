-- The events that a byte adds to those of an input's tokens, with a CR that is open told as a line end.
use Rattle.std.proofs.Common.{◌≡◌, ℕ, true, false, ◌+◌, ◌⊎◌, inl, inr, List, [], ◌∷◌, ◌++◌, length, reverse, if◌then◌else◌, refl, sym, ◌∙◌, ap, subst, append_assoc, append-nil}
use Rattle.std.specs.List.{flat_map}
use Rattle.std.specs.Char.{encode_utf8}
use Rattle.std.specs.Str.{encode_utf8_all}
use Rattle.std.proofs.lemmas.Bool.{both_ways}
use Rattle.lexical_core.specs.Tree.{Char}
use Rattle.lexical_core.specs.declared.rule.Rule.{Rule}
use Rattle.lexical_core.specs.declared.rule.Rule.TheVariants.{Truncated}
use Rattle.markup.specs.Token.{Token, LineEnd, Character, Cr, CrLf, token_bytes}
use Rattle.markup.specs.Marks.{stands}
use Rattle.markup.specs.Events.{open_tags, events}
use Rattle.markup.specs.Faults.{Next}
use Rattle.markup.specs.Scopes.{placed_at}
use Rattle.markup.specs.inner.Drafts.{no_draft}
use Rattle.markup.specs.inner.ScanRuns.{At, Over, Failed, run, position}
use Rattle.markup.specs.inner.Tokenizers.{IsAwaited, IsTokenOpen, EndsToken, SettlesOne, SettlesTwo, Settles, SettlesBy, Finishes, FinishesBy}
use Rattle.markup.specs.inner.TokenRules.{items_by}
use Rattle.markup.specs.inner.Inputs.{with_pending, is_return, settled_tokens, settled_events}
use Rattle.markup.specs.declared.draft.Draft.{Draft}
use Rattle.markup.specs.declared.scan.Scan.{Scan}
use Rattle.markup.specs.declared.scan.Scan.TheVariants.{Begin}
use Rattle.markup.specs.declared.scan.Ended.{Ended}
use Rattle.markup.specs.declared.scan.Ended.TheVariants.{LineEnd as LineEnded}
use Rattle.markup.specs.declared.tokenizer.Settled.{Settled}
use Rattle.markup.specs.declared.tokenizer.Settled.TheVariants.{Nothing as NothingSettled, Return as ReturnSettled, Bracket as BracketSettled, Brackets as BracketsSettled}
use Rattle.markup.specs.declared.tokenizer.Finish.{Finish}
use Rattle.markup.specs.declared.tokenizer.Finish.TheVariants.{Nothing, Return, Open}
use Rattle.markup.specs.declared.tokenizer.Tokenizer.{Tokenizer}
use Rattle.markup.proofs.Complete.{complete, bracket_run}
use Rattle.markup.proofs.NoTokens.{Shorter, Longer, compare_texts, no_whole}
use Rattle.markup.proofs.OneFault.{next_none}
use Rattle.markup.proofs.TokenizerLemmas.{some_limit}
use Rattle.markup.proofs.SettleLemmas.{end_stands}
use Rattle.markup.proofs.InputLemmas.{bracket_bytes}
use Rattle.markup.proofs.InputEnds.{none_at_end}
use Rattle.markup.proofs.CdataLemmas.{waits_in_cdata}
use Rattle.markup.proofs.LineEnds.{crlf_stands, ends_crlf, line_bytes, awaited_crlf}
use Rattle.markup.proofs.TokenRuleLemmas.{items_ended}
use Rattle.markup.proofs.EventLemmas.{events_snoc, events_brackets, events_return}

-- a CR is open where its byte is
pub finish_is_return : {limit : ℕ} (z : Tokenizer) (before : List Token) (bytes rest : List ℕ) (result : Finish) → IsTokenOpen limit z before bytes → FinishesBy z result → bytes ≡ token_bytes (LineEnd Cr) ++ rest → stands before (LineEnd Cr) rest ≡ true → result ≡ Return
finish_is_return {limit} z before bytes rest result o f e s = by result (f limit before bytes o) where
  none : [] ≡ token_bytes (LineEnd Cr) ++ rest → ⊥
  none q = absurd (cons (token_bytes (LineEnd Cr)) (line_bytes.2) q) where
    cons : (v : List ℕ) → v ≡ 13 ∷ [] → [] ≡ v ++ rest → ⊥
    cons [] h q = absurd (cc)
    cons (c ∷ v) h q = absurd (cc)

  by : (result : Finish) → Finishes limit before bytes result → result ≡ Return
  by Nothing h = absurd (none (sym h ∙ e))
  by Return h = refl
  by Open h = absurd (none_at_end before bytes Truncated (some_limit z before bytes o) h (LineEnd Cr) rest (record { spelled = e; is = s }))

pub not_return : {limit : ℕ} (z : Tokenizer) (before : List Token) (bytes : List ℕ) (result : Finish) → IsTokenOpen limit z before bytes → FinishesBy z result → (bytes ≡ token_bytes (LineEnd Cr) → ⊥) → is_return result ≡ false
not_return {limit} z before bytes result o f n = by result (f limit before bytes o) where
  by : (result : Finish) → Finishes limit before bytes result → is_return result ≡ false
  by Nothing h = refl
  by Return h = absurd (n h.0)
  by Open h = refl

-- where no CR is open the tokens stay as they are
pub none_pending : (result : Finish) (ts : List Token) → is_return result ≡ false → with_pending result ts ≡ ts
none_pending Nothing ts h = refl
none_pending Return ts h = absurd (both_ways true h refl)
none_pending Open ts h = refl

-- what is open tells alone whether a CR is
pub pending_same : {limit : ℕ} (z : Tokenizer) (before : List Token) (bytes : List ℕ) (f g : Finish) → IsTokenOpen limit z before bytes → FinishesBy z f → FinishesBy z g → (ts : List Token) → with_pending f ts ≡ with_pending g ts
pending_same {limit} z before bytes f g o h k ts = by f g (h limit before bytes o) (k limit before bytes o) (λ e. finish_is_return z before bytes [] f o h (e ∙ sym (append-nil (token_bytes (LineEnd Cr)))) (end_stands before)) (λ e. finish_is_return z before bytes [] g o k (e ∙ sym (append-nil (token_bytes (LineEnd Cr)))) (end_stands before)) where
  by : (f g : Finish) → Finishes limit before bytes f → Finishes limit before bytes g → (bytes ≡ token_bytes (LineEnd Cr) → f ≡ Return) → (bytes ≡ token_bytes (LineEnd Cr) → g ≡ Return) → with_pending f ts ≡ with_pending g ts
  by Return g h k p q = ap (λ x. with_pending x ts) (sym (q h.0))
  by f Return h k p q = ap (λ x. with_pending x ts) (p k.0)
  by Nothing Nothing h k p q = refl
  by Nothing Open h k p q = refl
  by Open Nothing h k p q = refl
  by Open Open h k p q = refl

pub no_return_none : [] ≡ token_bytes (LineEnd Cr) → ⊥
no_return_none e = none (e ∙ line_bytes.2) where
  none : ◌≡◌ {A = List ℕ} [] (13 ∷ []) → ⊥
  none e = cc

no_return_bracket : (rest : List ℕ) → token_bytes (Character 93) ++ rest ≡ token_bytes (LineEnd Cr) → ⊥
no_return_bracket rest e = none (ap (λ v. v ++ rest) (sym bracket_bytes) ∙ (e ∙ line_bytes.2)) where
  none : 93 ∷ rest ≡ 13 ∷ [] → ⊥
  none e = cc

bracket_return_bytes : token_bytes (Character 93) ++ token_bytes (LineEnd Cr) ≡ encode_utf8_all (93 ∷ 13 ∷ []) ++ []
unfolding encode_utf8
bracket_return_bytes = refl

-- no CR is open behind a `]` that waits
bracket_then_return : {limit : ℕ} (z : Tokenizer) (before : List Token) (bytes after : List ℕ) → IsTokenOpen limit z before bytes → bytes ≡ token_bytes (Character 93) ++ token_bytes (LineEnd Cr) → stands before (Character 93) after ≡ true → ⊥
bracket_then_return z before bytes after o e s = by (compare_texts o.chars (93 ∷ 13 ∷ []) o.part [] (sym o.bytes_are ∙ (e ∙ bracket_return_bytes))) where
  failed : (more : List ℕ) → run (Begin (position before)) no_draft (93 ∷ 13 ∷ more) ≡ Failed
  failed more = bracket_run before (13 ∷ more) (waits_in_cdata z before bytes (token_bytes (LineEnd Cr)) after o e s)

  not_failed : (s : Scan) (d : Draft) → At s d ≡ Failed → ⊥
  not_failed s d h = cc

  by : Shorter o.chars (93 ∷ 13 ∷ []) o.part [] ⊎ Longer o.chars (93 ∷ 13 ∷ []) o.part [] → ⊥
  by (inl r) = not_failed z.scan z.draft (sym o.scan_is ∙ (ap (run (Begin (position before)) no_draft) r.text ∙ failed r.more))
  by (inr r) = no_whole o.part (encode_utf8_all r.more ++ []) r.next o.front (r.behind ∙ append_assoc (encode_utf8 r.next) (encode_utf8_all r.more) [])

line_end_before : (before : List Token) (rest : List ℕ) (byte : ℕ) → stands before (LineEnd Cr) (rest ++ byte ∷ []) ≡ true → stands before (LineEnd Cr) rest ≡ true
line_end_before before [] byte h = end_stands before
line_end_before before (c ∷ rest) byte h = h

left_none : (rest : List ℕ) → token_bytes (LineEnd Cr) ≡ token_bytes (LineEnd Cr) ++ rest → rest ≡ []
left_none rest e = by rest (sym line_bytes.2 ∙ (e ∙ ap (λ v. v ++ rest) line_bytes.2)) where
  by : (rest : List ℕ) → 13 ∷ [] ≡ 13 ∷ rest → rest ≡ []
  by rest e = cc

module _ {limit : ℕ} (old new : Tokenizer) (ts : List Token) (bytes : List ℕ) (byte : ℕ) (f g : Finish) (o : IsTokenOpen limit old (reverse ts) bytes) (p : FinishesBy old f) (q : FinishesBy new g) where
  abbrev place : ℕ
  place = length (flat_map token_bytes ts)

  return_told : SettlesOne limit new (reverse ts) bytes byte (LineEnd Cr) → events [] 0 (with_pending g (ts ++ LineEnd Cr ∷ [])) ≡ events [] 0 (with_pending f ts) ++ []
  return_told k =
      let r = finish_is_return old (reverse ts) bytes k.rest f o p k.bytes_are (line_end_before (reverse ts) k.rest byte (k.is [])) in
      let e = left_none k.rest (sym (subst (Finishes limit (reverse ts) bytes) r (p limit (reverse ts) bytes o)).0 ∙ k.bytes_are) in
      ap (events [] 0) (none_pending g (ts ++ LineEnd Cr ∷ []) (not_return new (LineEnd Cr ∷ reverse ts) k.rest g k.next q (λ h. no_return_none (sym e ∙ h))) ∙ ap (λ x. with_pending x ts) (sym r))
      ∙ sym (append-nil (events [] 0 (with_pending f ts)))

  bracket_told : SettlesOne limit new (reverse ts) bytes byte (Character 93) → events [] 0 (with_pending g (ts ++ Character 93 ∷ [])) ≡ events [] 0 (with_pending f ts) ++ placed_at place (Char 93 ∷ [])
  bracket_told k =
      ap (events [] 0) (none_pending g (ts ++ Character 93 ∷ []) (not_return new (Character 93 ∷ reverse ts) k.rest g k.next q (λ h. bracket_then_return old (reverse ts) bytes (k.rest ++ byte ∷ []) o (k.bytes_are ∙ ap (λ v. token_bytes (Character 93) ++ v) h) (k.is []))))
      ∙ (events_snoc ts (Character 93)
      ∙ ap (λ v. events [] 0 v ++ placed_at place (Char 93 ∷ [])) (sym (none_pending f ts (not_return old (reverse ts) bytes f o p (λ h. no_return_bracket k.rest (sym k.bytes_are ∙ h))))))

  brackets_told : SettlesTwo limit new (reverse ts) bytes byte → events [] 0 (with_pending g (ts ++ Character 93 ∷ Character 93 ∷ [])) ≡ events [] 0 (with_pending f ts) ++ (placed_at place (Char 93 ∷ []) ++ placed_at (place + 1) (Char 93 ∷ []))
  brackets_told k =
      ap (events [] 0) (none_pending g (ts ++ Character 93 ∷ Character 93 ∷ []) (not_return new (Character 93 ∷ Character 93 ∷ reverse ts) [] g k.next q no_return_none))
      ∙ (events_brackets ts
      ∙ (append_assoc (events [] 0 ts) (placed_at place (Char 93 ∷ [])) (placed_at (place + 1) (Char 93 ∷ []))
      ∙ ap (λ v. events [] 0 v ++ (placed_at place (Char 93 ∷ []) ++ placed_at (place + 1) (Char 93 ∷ []))) (sym (none_pending f ts (not_return old (reverse ts) bytes f o p (λ h. no_return_bracket (93 ∷ []) (ap (λ v. v ++ 93 ∷ []) bracket_bytes ∙ (sym k.bytes_are ∙ h))))))))

  same_told : new ≡ old → events [] 0 (with_pending g ts) ≡ events [] 0 (with_pending f ts) ++ []
  same_told e = ap (events [] 0) (pending_same old (reverse ts) bytes g f o (subst (λ z. FinishesBy z g) e q) p ts) ∙ sym (append-nil (events [] 0 (with_pending f ts)))

  told_by : (result : Settled) → Settles limit old new (reverse ts) bytes byte result → events [] 0 (with_pending g (settled_tokens result ts)) ≡ events [] 0 (with_pending f ts) ++ settled_events place result
  told_by NothingSettled k = same_told k
  told_by ReturnSettled k = return_told k
  told_by BracketSettled k = bracket_told k
  told_by BracketsSettled k = brackets_told k

  -- the events that a byte settles
  pub events-settled : (result : Settled) → SettlesBy old new byte result → events [] 0 (with_pending g (settled_tokens result ts)) ≡ events [] 0 (with_pending f ts) ++ settled_events (length (flat_map token_bytes ts)) result
  events-settled result s = told_by result (s limit (reverse ts) bytes o).0

  -- a CR that is open goes on to a CR LF alone
  module _ (w : IsAwaited old.scan byte) where
    no_more_behind : bytes ≡ token_bytes (LineEnd Cr) → IsTokenOpen limit new (reverse ts) (bytes ++ byte ∷ []) → ⊥
    no_more_behind e k = by (compare_texts k.chars (13 ∷ 10 ∷ []) k.part [] (sym k.bytes_are ∙ (awaited_crlf old (reverse ts) bytes byte o e w ∙ sym (append-nil (token_bytes (LineEnd CrLf)))))) where
      not_over : (s : Scan) (d f : Draft) (k : Ended) (w : List ℕ) → At s d ≡ Over k f w → ⊥
      not_over s d f k w h = cc

      by : Shorter k.chars (13 ∷ 10 ∷ []) k.part [] ⊎ Longer k.chars (13 ∷ 10 ∷ []) k.part [] → ⊥
      by (inl r) = not_over new.scan new.draft no_draft LineEnded r.more (sym k.scan_is ∙ (ap (run (Begin (position (reverse ts))) no_draft) r.text ∙ complete (reverse ts) (LineEnd CrLf) [] r.more (crlf_stands (reverse ts) []) refl))
      by (inr r) = no_whole k.part (encode_utf8_all r.more ++ []) r.next k.front (r.behind ∙ append_assoc (encode_utf8 r.next) (encode_utf8_all r.more) [])

    pub no_fault_behind : bytes ≡ token_bytes (LineEnd Cr) → (rule : Rule) → ((more : List ℕ) → Next limit (reverse ts) ((bytes ++ byte ∷ []) ++ more) rule 0) → ⊥
    no_fault_behind e rule n = next_none limit (reverse ts) ((bytes ++ byte ∷ []) ++ []) (LineEnd CrLf) [] rule 0 (n []) (record { spelled = ap (λ v. v ++ []) (awaited_crlf old (reverse ts) bytes byte o e w); is = crlf_stands (reverse ts) [] }) refl refl

    -- what a byte that does not end the token adds: a CR that has come
    pub events-more : IsTokenOpen limit new (reverse ts) (bytes ++ byte ∷ []) → events [] 0 (with_pending g ts) ≡ events [] 0 (with_pending f ts) ++ (if is_return g then placed_at (length (flat_map token_bytes ts)) (Char 10 ∷ []) else [])
    events-more k = by g ∙ ap (λ v. events [] 0 v ++ (if is_return g then placed_at place (Char 10 ∷ []) else [])) (sym (none_pending f ts (not_return old (reverse ts) bytes f o p (λ e. no_more_behind e k)))) where
      by : (g : Finish) → events [] 0 (with_pending g ts) ≡ events [] 0 ts ++ (if is_return g then placed_at place (Char 10 ∷ []) else [])
      by Nothing = sym (append-nil (events [] 0 ts))
      by Return = events_snoc ts (LineEnd Cr)
      by Open = sym (append-nil (events [] 0 ts))

    -- what a byte that ends it adds: the events of the token, but for a CR LF whose CR was told
    pub events-ended : (e : Ended) (d : Draft) (k : EndsToken limit new (reverse ts) (bytes ++ byte ∷ []) e d) → events [] 0 (with_pending g (ts ++ k.token ∷ [])) ≡ events [] 0 (with_pending f ts) ++ (if is_return f then [] else placed_at (length (flat_map token_bytes ts)) (items_by (open_tags (reverse ts)) e d))
    events-ended e d k = ap (events [] 0) (none_pending g (ts ++ k.token ∷ []) (not_return new (k.token ∷ reverse ts) [] g k.next q no_return_none)) ∙ by f (p limit (reverse ts) bytes o) where
      told : events [] 0 (ts ++ k.token ∷ []) ≡ events [] 0 ts ++ placed_at place (items_by (open_tags (reverse ts)) e d)
      told = events_snoc ts k.token ∙ ap (λ v. events [] 0 ts ++ placed_at place v) (items_ended (reverse ts) k.token e k.ended_is d k.draft_is)

      by : (f : Finish) → Finishes limit (reverse ts) bytes f → events [] 0 (ts ++ k.token ∷ []) ≡ events [] 0 (with_pending f ts) ++ (if is_return f then [] else placed_at place (items_by (open_tags (reverse ts)) e d))
      by Nothing h = told
      by Return h = ap (λ t. events [] 0 (ts ++ t ∷ [])) (ends_crlf old new (reverse ts) bytes byte e d o h.0 w k) ∙ (sym (events_return ts) ∙ sym (append-nil (events [] 0 (ts ++ LineEnd Cr ∷ []))))
      by Open h = told
