-- What a whole input is, from what is open where it ends.
use Rattle.std.proofs.Common.{◌≡◌, ◌<◌, ℕ, true, false, ◌⊎◌, inl, inr, List, [], ◌∷◌, ◌++◌, length, reverse, refl, sym, ◌∙◌, ap, subst, append-nil, length-append, add-zero, arith}
use Rattle.std.specs.List.{flat_map}
use Rattle.std.specs.Str.{encode_utf8_all}
use Rattle.std.proofs.lemmas.Bool.{both_ways, cases_Bool}
use Rattle.std.proofs.lemmas.List.{nil_from_length}
use Rattle.lexical_core.specs.declared.rule.Rule.{Rule}
use Rattle.lexical_core.specs.declared.rule.Rule.TheVariants.{Truncated}
use Rattle.markup.specs.Token.{Token, LineEnd, Cr, token_bytes}
use Rattle.markup.specs.Marks.{Cell, Front, Agree}
use Rattle.markup.specs.Faults.{is_over, IsClean, NoToken, Next, broken, halts, cut, too_long, Fault, MarkFaultUnder, IsWholeUnder}
use Rattle.markup.specs.inner.Drafts.{no_draft}
use Rattle.markup.specs.inner.ScanRuns.{position}
use Rattle.markup.specs.inner.Tokenizers.{open_at, Finishes, FinishesBy}
use Rattle.markup.specs.inner.Inputs.{ReadsTokens, Any, with_pending, is_cut}
use Rattle.markup.specs.Longest.{IsLongestUnder}
use Rattle.markup.specs.declared.scan.Scan.TheVariants.{Begin}
use Rattle.markup.specs.declared.tokenizer.Finish.{Finish}
use Rattle.markup.specs.declared.tokenizer.Finish.TheVariants.{Nothing, Return, Open}
use Rattle.markup.specs.declared.tokenizer.Tokenizer.{Tokenizer}
use Rattle.markup.proofs.TokenLaw.{one_token, fronts_agree}
use Rattle.markup.proofs.Exact.{goes_on}
use Rattle.markup.proofs.OneFault.{nothing_stands, one_fault, whole_has_none}
use Rattle.markup.proofs.TokenizerLemmas.{none_front, some_limit}
use Rattle.markup.proofs.SettleLemmas.{finishes_by}
use Rattle.markup.proofs.InputLemmas.{clean_snoc, front_snoc, reverse_snoc, front_bytes}
use Rattle.markup.proofs.TokensBehind.{tokens_behind, behind}

-- where no token stands behind a list of tokens, no longer list begins so
no_longer : (limit : ℕ) (before : List Token) (b x y : List ℕ) (ts : List Token) (t : Token) (more : List Token) → Front limit before b ts x → NoToken (tokens_behind before ts) x → Front limit before b (ts ++ t ∷ more) y → ⊥
no_longer limit before b x y [] t more f n g = n t g.0 (subst (λ v. Cell before t v g.0) f g.1)
no_longer limit before b x y (u ∷ ts) t more f n g =
    no_longer limit (u ∷ before) f.0 x y ts t more f.3 n (subst (λ v. Front limit (u ∷ before) v (ts ++ t ∷ more) y) (one_token before u u b g.0 f.0 g.1 f.1).1 g.3)

-- such a list is the longest
longest_by : {limit : ℕ} (bytes rest : List ℕ) (ts : List Token) → Front limit [] bytes ts rest → NoToken (tokens_behind [] ts) rest → IsLongestUnder limit bytes ts
longest_by {limit} bytes rest ts f n = record { rest = rest; front = f; longest = λ us y g. by us y g (fronts_agree limit [] bytes ts us rest y f g) } where
  longer : (us : List Token) (y : List ℕ) → Front limit [] bytes us y → (more : List Token) → us ≡ ts ++ more → (m : List Token) × (ts ≡ us ++ m)
  longer us y g [] e = ([], sym (append-nil us ∙ (e ∙ append-nil ts)))
  longer us y g (t ∷ more) e = absurd (no_longer limit [] bytes rest y ts t more f n (subst (λ v. Front limit [] bytes v y) e g))

  by : (us : List Token) (y : List ℕ) → Front limit [] bytes us y → Agree ts us → (m : List Token) × (ts ≡ us ++ m)
  by us y g (inl r) = longer us y g r.0 r.1
  by us y g (inr r) = r

-- the tokens of whole bytes are the longest list
pub marks_longest : {limit : ℕ} (bytes : List ℕ) (ts : List Token) → Front limit [] bytes ts [] → IsLongestUnder limit bytes ts
marks_longest bytes ts f = longest_by bytes [] ts f (nothing_stands (tokens_behind [] ts))

-- there is one longest list
pub one_longest : {limit : ℕ} (bytes : List ℕ) (ts us : List Token) → IsLongestUnder limit bytes ts → IsLongestUnder limit bytes us → ts ≡ us
one_longest bytes ts us l k = by ts us (l.longest us k.rest k.front) (k.longest ts l.rest l.front) where
  longer : (ts us m n : List Token) → ts ≡ us ++ m → us ≡ ts ++ n → length m ≡ 0
  longer ts us m n e f = omega (arith, ap length e, ap length f, length-append us m, length-append ts n)

  none : (ts us m : List Token) → ts ≡ us ++ m → length m ≡ 0 → ts ≡ us
  none ts us [] e h = e ∙ append-nil us
  none ts us (t ∷ m) e h = absurd (omega (arith, h))

  by : (ts us : List Token) → (m : List Token) × (ts ≡ us ++ m) → (n : List Token) × (us ≡ ts ++ n) → ts ≡ us
  by ts us p q = none ts us p.0 p.1 (longer ts us p.0 q.0 p.1 q.1)

-- a fault at the end of the bytes leaves no token
pub none_at_end : {limit : ℕ} (before : List Token) (bytes : List ℕ) (rule : Rule) → 0 < limit → Next limit before bytes rule (length bytes) → NoToken before bytes
none_at_end before bytes rule some (broken t after cell s k p) = subst (NoToken before) (sym (nil_from_length bytes p)) (nothing_stands before)
none_at_end before bytes rule some (halts chars tail shown e n g h k p) = n
none_at_end before bytes rule some (cut chars part e n g f k o r p) = n
none_at_end {limit} before bytes rule some (too_long chars part rest e g n b f l r p) = absurd (long (encode_utf8_all chars ++ part) rest limit some l (e ∙ refl) p) where
  long : (v w : List ℕ) (n : ℕ) → 0 < n → length v ≡ n → bytes ≡ v ++ w → length bytes ≡ 0 → ⊥
  long v w n k h e p = omega (arith, k, h, p, ap length e, length-append v w)

-- the rest of an input behind its tokens, in which no token stands
record Ends (limit : ℕ) (input : List ℕ) (ts : List Token) : Type 0 where
  rest : List ℕ
  front : Front limit [] input ts rest
  none : NoToken (tokens_behind [] ts) rest

front_now : {limit : ℕ} (z : Tokenizer) (input : List ℕ) (ts : List Token) (r : ReadsTokens limit Any z input ts) → Front limit [] input ts r.bytes
front_now {limit} z input ts r = subst (λ v. Front limit [] v ts r.bytes) (append-nil input) (subst (λ v. Front limit [] (input ++ []) ts v) (append-nil r.bytes) (r.front [] tt))

-- a CR at the end of the input
front_return : {limit : ℕ} (z : Tokenizer) (input : List ℕ) (ts : List Token) (r : ReadsTokens limit Any z input ts) → Finishes limit (reverse ts) r.bytes Return → Front limit [] input (ts ++ LineEnd Cr ∷ []) []
front_return {limit} z input ts r f = front_snoc limit [] input r.bytes [] ts (LineEnd Cr) (front_now z input ts r)
    (subst (λ b. Cell b (LineEnd Cr) r.bytes []) (behind ts) (record { spelled = f.0 ∙ sym (append-nil (token_bytes (LineEnd Cr))); is = f.1 })) refl

ends : {limit : ℕ} (z : Tokenizer) (input : List ℕ) (ts : List Token) (r : ReadsTokens limit Any z input ts) (result : Finish) → Finishes limit (reverse ts) r.bytes result → Ends limit input (with_pending result ts)
ends {limit} z input ts r Nothing f = record { rest = []; front = subst (λ v. Front limit [] input ts v) f (front_now z input ts r); none = nothing_stands (tokens_behind [] ts) }
ends z input ts r Return f = record { rest = []; front = front_return z input ts r f; none = nothing_stands (tokens_behind [] (ts ++ LineEnd Cr ∷ [])) }
ends z input ts r Open f = record { rest = r.bytes; front = front_now z input ts r; none = subst (λ b. NoToken b r.bytes) (behind ts) (none_at_end (reverse ts) r.bytes Truncated (some_limit z (reverse ts) r.bytes r.opens) f) }

-- a line end breaks none
pub clean_pending : (result : Finish) (ts : List Token) → IsClean [] ts → IsClean [] (with_pending result ts)
clean_pending Nothing ts c = c
clean_pending Return ts c = clean_snoc ts (LineEnd Cr) c refl
clean_pending Open ts c = c

-- and ends no element
pub over_pending : (result : Finish) (ts : List Token) → is_over (reverse (with_pending result ts)) ≡ is_over (reverse ts)
over_pending Nothing ts = refl
over_pending Return ts = ap is_over (reverse_snoc ts (LineEnd Cr))
over_pending Open ts = refl

-- at the end of the input, before the root's end tag
cut_at_end : {limit : ℕ} (input : List ℕ) (ts : List Token) → Front limit [] input ts [] → IsClean [] ts → is_over (reverse ts) ≡ false → MarkFaultUnder limit input (record { rule = Truncated; place = length input })
cut_at_end {limit} input ts f c o = record {
  tokens = ts;
  rest = [];
  at = 0;
  front = f;
  clean = c;
  next = cut [] [] refl (nothing_stands (reverse ts)) (goes_on (reverse ts) [] (Begin (position (reverse ts))) no_draft refl) none_front (λ t. absurd t) (λ _. o) refl refl;
  place = ap length (front_bytes limit [] input [] ts f ∙ append-nil (flat_map token_bytes ts)) ∙ sym (add-zero (length (flat_map token_bytes ts)));
}

module _ {limit : ℕ} (z : Tokenizer) (input : List ℕ) (ts : List Token) (r : ReadsTokens limit Any z input ts) (result : Finish) (f : FinishesBy z result) where
  here : Finishes limit (reverse ts) r.bytes result
  here = f limit (reverse ts) r.bytes r.opens

  -- the tokens of the input are the longest list from its front
  pub reads_longest : IsLongestUnder limit input (with_pending result ts)
  reads_longest = by (ends z input ts r result here) where
    by : Ends limit input (with_pending result ts) → IsLongestUnder limit input (with_pending result ts)
    by e = longest_by input e.rest (with_pending result ts) e.front e.none

  -- where no token is open
  pub to_end : (result : Finish) → Finishes limit (reverse ts) r.bytes result → is_cut result ≡ false → Front limit [] input (with_pending result ts) []
  to_end Nothing h k = subst (λ v. Front limit [] input ts v) h (front_now z input ts r)
  to_end Return h k = front_return z input ts r h
  to_end Open h k = absurd (both_ways true k refl)

  -- the input is whole behind the root's end tag
  pub ends_whole : IsClean [] ts → is_cut result ≡ false → is_over (reverse ts) ≡ true → IsWholeUnder limit input
  ends_whole c k o = record { tokens = with_pending result ts; marks = to_end result here k; clean = clean_pending result ts c; over = over_pending result ts ∙ o }

  -- it is cut short before that tag
  pub ends_cut : IsClean [] ts → is_cut result ≡ false → is_over (reverse ts) ≡ false → MarkFaultUnder limit input (record { rule = Truncated; place = length input })
  ends_cut c k o = cut_at_end input (with_pending result ts) (to_end result here k) (clean_pending result ts c) (over_pending result ts ∙ o)

-- it is cut short within a token
pub ends_open : {limit : ℕ} (z : Tokenizer) (input : List ℕ) (ts : List Token) (r : ReadsTokens limit Any z input ts) → FinishesBy z Open → IsClean [] ts → MarkFaultUnder limit input (record { rule = Truncated; place = length input })
ends_open {limit} z input ts r f c = record {
  tokens = ts;
  rest = r.bytes;
  at = length r.bytes;
  front = front_now z input ts r;
  clean = c;
  next = f limit (reverse ts) r.bytes r.opens;
  place = ap length (front_bytes limit [] input r.bytes ts (front_now z input ts r)) ∙ length-append (flat_map token_bytes ts) r.bytes;
}

-- of any input that has been read so far the fault is this one alone
pub none_but_truncated : {limit : ℕ} (z : Tokenizer) (input : List ℕ) (ts : List Token) → ReadsTokens limit Any z input ts → IsClean [] ts → (f : Fault) → MarkFaultUnder limit input f → f.rule ≡ Truncated
none_but_truncated {limit} z input ts r c f m = by (open_at z.scan z) (finishes_by z (open_at z.scan z) refl) (cases_Bool (is_cut (open_at z.scan z))) where
  same : MarkFaultUnder limit input (record { rule = Truncated; place = length input }) → f.rule ≡ Truncated
  same n = ap (λ (k : Fault). k.rule) (one_fault input f (record { rule = Truncated; place = length input }) m n)

  over : (result : Finish) → FinishesBy z result → is_cut result ≡ false → (is_over (reverse ts) ≡ true) ⊎ (is_over (reverse ts) ≡ false) → f.rule ≡ Truncated
  over result k h (inl o) = absurd (whole_has_none input f (ends_whole z input ts r result k c h o) m)
  over result k h (inr o) = same (ends_cut z input ts r result k c h o)

  by : (result : Finish) → FinishesBy z result → (is_cut result ≡ true) ⊎ (is_cut result ≡ false) → f.rule ≡ Truncated
  by Open k h = same (ends_open z input ts r k c)
  by Nothing k h = over Nothing k refl (cases_Bool (is_over (reverse ts)))
  by Return k h = over Return k refl (cases_Bool (is_over (reverse ts)))
