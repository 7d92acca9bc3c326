-- Where a token that is begun cannot go on, no token stands.
use Rattle.std.proofs.Common.{◌≡◌, ℕ, Bool, true, false, not, ◌==◌, if◌then◌else◌, ◌<◌, ◌⊎◌, inl, inr, List, [], ◌∷◌, ◌++◌, length, refl, sym, ◌∙◌, ap, subst, append_assoc, append-nil, arith}
use Rattle.std.specs.Char.{encode_utf8, IsScalar}
use Rattle.std.specs.Str.{encode_utf8_all}
use Rattle.std.proofs.lemmas.Bool.{and_parts, not-false, both_ways, cases_Bool, eqb-true}
use Rattle.std.proofs.lemmas.Str.{encode_same}
use Rattle.lexical_core.specs.Utf8.{IsFront, IsNoFront}
use Rattle.markup.specs.Token.{Token, LineEnd, Character, Lf, Cr, CrLf, token_text}
use Rattle.markup.specs.Marks.{in_cdata, begins_with, shows_no_closer, stands}
use Rattle.markup.specs.Faults.{TokenGoesOn, NoToken}
use Rattle.markup.specs.inner.Drafts.{no_draft, note_character}
use Rattle.markup.specs.inner.ScanRuns.{Run, At, Over, turn_run, run, position, ended_of, draft_of, ends_itself}
use Rattle.markup.specs.declared.draft.Draft.{Draft}
use Rattle.markup.specs.declared.scan.Scan.{Scan}
use Rattle.markup.specs.declared.scan.Scan.TheVariants.{Begin, AfterReturn, Bracket, Brackets}
use Rattle.markup.specs.declared.scan.Ended.TheVariants.{LineEnd as LineEnded, Closer as CloserEnded}
use Rattle.markup.specs.declared.scan.Turn.TheVariants.{Goes, Whole, Stuck}
use Rattle.markup.proofs.TokenKinds.{in_both, stands_bracket}
use Rattle.markup.proofs.TokenChars.{token_all, all_xml}
use Rattle.markup.proofs.Complete.{complete, return_run, bracket_run}
use Rattle.markup.proofs.Spans.{heads, tails}

-- one of two texts before bytes begins with the other
pub record Shorter (s t x y : List ℕ) : Type 0 where
  pub more : List ℕ
  pub text : s ≡ t ++ more
  pub behind : y ≡ encode_utf8_all more ++ x

pub record Longer (s t x y : List ℕ) : Type 0 where
  pub next : ℕ
  pub more : List ℕ
  pub text : t ≡ s ++ next ∷ more
  pub behind : x ≡ encode_utf8_all (next ∷ more) ++ y

pub compare_texts : (s t x y : List ℕ) → encode_utf8_all s ++ x ≡ encode_utf8_all t ++ y → Shorter s t x y ⊎ Longer s t x y
compare_texts s [] x y e = inl (record { more = s; text = refl; behind = sym e })
compare_texts [] (d ∷ t) x y e = inr (record { next = d; more = t; text = refl; behind = e })
compare_texts (c ∷ s) (d ∷ t) x y e =
    let k = encode_same c d (encode_utf8_all s ++ x) (encode_utf8_all t ++ y) (sym (append_assoc (encode_utf8 c) (encode_utf8_all s) x) ∙ (e ∙ append_assoc (encode_utf8 d) (encode_utf8_all t) y)) in
    grown c d k.0 (compare_texts s t x y k.1) where
      both : (c d : ℕ) (v w : List ℕ) → c ≡ d → v ≡ w → (c ∷ v) ≡ (d ∷ w)
      both c d v w e f = cc

      grown : (c d : ℕ) → c ≡ d → Shorter s t x y ⊎ Longer s t x y → Shorter (c ∷ s) (d ∷ t) x y ⊎ Longer (c ∷ s) (d ∷ t) x y
      grown c d e (inl r) = inl (record { more = r.more; text = both c d s (t ++ r.more) e r.text; behind = r.behind })
      grown c d e (inr r) = inr (record { next = r.next; more = r.more; text = both d c t (s ++ r.next ∷ r.more) (sym e) r.text; behind = r.behind })

-- what follows leaves no open line end and no open bracket
abbrev pub Settled : Scan → List ℕ → Type 0
Settled AfterReturn tail = begins_with 10 tail ≡ true
Settled Bracket tail = shows_no_closer tail ≡ false
Settled Brackets tail = shows_no_closer (93 ∷ tail) ≡ false
Settled _ tail = Unit {0}

settled_at : (s t : Scan) (d e : Draft) (tail : List ℕ) → At s d ≡ At t e → Settled t tail → Settled s tail
settled_at s t d e tail h k = subst (λ u. Settled u tail) (sym (scan_same s t d e h)) k where
  scan_same : (s t : Scan) (d e : Draft) → At s d ≡ At t e → s ≡ t
  scan_same s t d e h = cc

-- a CR that stands alone is not what the scan has read
return_stands : (before : List Token) (m tail : List ℕ) (s : Scan) (d : Draft) → run AfterReturn no_draft m ≡ At s d → Settled s tail → stands before (LineEnd Cr) (encode_utf8_all m ++ tail) ≡ true → ⊥
return_stands before [] tail s d h k a = both_ways (begins_with 10 tail) (not_true_false _ (in_both (in_cdata before) _ a)) (settled_at AfterReturn s no_draft d tail h k) where
  not_true_false : (b : Bool) → not b ≡ true → b ≡ false
  not_true_false true h = absurd (both_ways false refl h)
  not_true_false false h = refl
return_stands before (c ∷ m) tail s d h k a = by (c == 10) h where
  by : (b : Bool) → turn_run (λ u. run u (note_character AfterReturn u c no_draft) m) no_draft m (if b then Whole LineEnded else Stuck) ≡ At s d → ⊥
  by true h = cc
  by false h = cc

-- nor is a `]` that begins no `]]>`
bracket_stands : (m tail : List ℕ) (s : Scan) (d : Draft) → run Bracket no_draft m ≡ At s d → Settled s tail → shows_no_closer (encode_utf8_all m ++ tail) ≡ true → ⊥
unfolding encode_utf8
bracket_stands [] tail s d h k a = both_ways _ (settled_at Bracket s no_draft d tail h k) a
bracket_stands (c ∷ m) tail s d h k a = by (c == 93) refl h where
  after_two : (m : List ℕ) → run Brackets no_draft m ≡ At s d → shows_no_closer (encode_utf8_all (93 ∷ m) ++ tail) ≡ true → ⊥
  after_two [] h a = both_ways _ (settled_at Brackets s no_draft d tail h k) a
  after_two (e ∷ m) h a = third (e == 62) h where
    third : (b : Bool) → turn_run (λ u. run u (note_character Brackets u e no_draft) m) no_draft m (if b then Whole CloserEnded else Stuck) ≡ At s d → ⊥
    third true h = cc
    third false h = cc

  by : (b : Bool) → (c == 93) ≡ b → turn_run (λ u. run u (note_character Bracket u c no_draft) m) no_draft m (if b then Goes Brackets else Stuck) ≡ At s d → ⊥
  by true e h = after_two m h (subst (λ (x : ℕ). shows_no_closer (encode_utf8_all (x ∷ m) ++ tail) ≡ true) (eqb-true c 93 e) a)
  by false e h = absurd (cc)

-- no token ends within what the scan has read
pub none_within : (before : List Token) (t : Token) (chars m tail : List ℕ) (s : Scan) (d : Draft) → run (Begin (position before)) no_draft chars ≡ At s d → Settled s tail → chars ≡ token_text t ++ m → stands before t (encode_utf8_all m ++ tail) ≡ true → ⊥
none_within before t chars m tail s d h k e a = by (cases_Bool (ends_itself (in_cdata before) t)) where
  at_over : (r : Run) → r ≡ At s d → r ≡ Over (ended_of t) (draft_of t) m → ⊥
  at_over r h k = cc

  open_here : (t : Token) → ends_itself (in_cdata before) t ≡ false → chars ≡ token_text t ++ m → stands before t (encode_utf8_all m ++ tail) ≡ true → ⊥
  open_here (LineEnd Cr) n e a = return_stands before m tail s d (sym (return_run before m) ∙ (ap (run (Begin (position before)) no_draft) (sym e) ∙ h)) k a
  open_here (LineEnd Lf) n e a = both_ways true n refl
  open_here (LineEnd CrLf) n e a = both_ways true n refl
  open_here (Character c) n e a =
      let b = and_parts (in_cdata before) (c == 93) (not-false _ n) in
      bracket_stands m tail s d (sym (bracket_run before m b.0) ∙ (ap (λ (x : ℕ). run (Begin (position before)) no_draft (x ∷ m)) (sym (eqb-true c 93 b.1)) ∙ (ap (run (Begin (position before)) no_draft) (sym e) ∙ h))) k
      (stands_bracket before c (encode_utf8_all m ++ tail) b.0 b.1 a)
  open_here _ n e a = both_ways true n refl

  by : (ends_itself (in_cdata before) t ≡ true) ⊎ (ends_itself (in_cdata before) t ≡ false) → ⊥
  by (inl n) = at_over _ h (ap (run (Begin (position before)) no_draft) e ∙ complete before t _ m a n)
  by (inr n) = open_here t n e a

-- no token stands where none ends within what was read and none goes on with what follows
pub no_token : (before : List Token) (chars tail : List ℕ) (s : Scan) (d : Draft) → run (Begin (position before)) no_draft chars ≡ At s d → Settled s tail
    → ((c : ℕ) (more after : List ℕ) → tail ≡ encode_utf8 c ++ after → TokenGoesOn before (chars ++ c ∷ []) → all_xml (chars ++ c ∷ more) ≡ true → ⊥)
    → NoToken before (encode_utf8_all chars ++ tail)
no_token before chars tail s d h k f t after cell = by (compare_texts chars (token_text t) tail after cell.spelled) where
  by : Shorter chars (token_text t) tail after ⊎ Longer chars (token_text t) tail after → ⊥
  by (inl r) = none_within before t chars r.more tail s d h k r.text (subst (λ v. stands before t v ≡ true) r.behind cell.is)
  by (inr r) = f r.next r.more (encode_utf8_all r.more ++ after) (r.behind ∙ append_assoc (encode_utf8 r.next) (encode_utf8_all r.more) after)
      (record { token = t; more = r.more; after = after; text = r.text ∙ sym (append_assoc chars (r.next ∷ []) r.more); is = cell.is })
      (subst (λ v. all_xml v ≡ true) r.text (token_all before t after cell.is))

-- bytes that begin a character, and are not all of it, hold no whole one
pub no_whole : (part v : List ℕ) (c : ℕ) → IsFront part → part ≡ encode_utf8 c ++ v → ⊥
no_whole part v c f e = none f.rest f.more
    (append_none v f.rest (encode_same f.char c [] (v ++ f.rest) (append-nil (encode_utf8 f.char) ∙ (f.spelled ∙ (ap (λ u. u ++ f.rest) e ∙ append_assoc (encode_utf8 c) v f.rest)))).1) where
      none : (r : List ℕ) → 0 < length r → r ≡ [] → ⊥
      none r h e = omega (arith, ap length e)

      append_none : (v r : List ℕ) → [] ≡ v ++ r → r ≡ []
      append_none [] r e = sym e
      append_none (x ∷ v) r e = absurd (cc)

-- two fronts of one list: one begins with the other
pub fronts : (a b x y : List ℕ) → a ++ x ≡ b ++ y → ((m : List ℕ) × (b ≡ a ++ m)) ⊎ ((k : ℕ) × (m : List ℕ) × (a ≡ b ++ k ∷ m))
fronts [] b x y e = inl (b, refl)
fronts (c ∷ a) [] x y e = inr (c, a, refl)
fronts (c ∷ a) (d ∷ b) x y e = grown c d (heads c d _ _ e) (fronts a b x y (tails c d _ _ e)) where
  both : (c d : ℕ) (v w : List ℕ) → c ≡ d → v ≡ w → (c ∷ v) ≡ (d ∷ w)
  both c d v w e f = cc

  grown : (c d : ℕ) → c ≡ d → ((m : List ℕ) × (b ≡ a ++ m)) ⊎ ((k : ℕ) × (m : List ℕ) × (a ≡ b ++ k ∷ m)) → ((m : List ℕ) × ((d ∷ b) ≡ (c ∷ a) ++ m)) ⊎ ((k : ℕ) × (m : List ℕ) × ((c ∷ a) ≡ (d ∷ b) ++ k ∷ m))
  grown c d e (inl r) = inl (r.0, both d c b (a ++ r.0) (sym e) r.1)
  grown c d e (inr r) = inr (r.0, r.1, both c d a (b ++ r.0 ∷ r.1) e r.2)

-- bytes that begin no character are no front of those that begin one
pub front_no_front : (part b : List ℕ) → IsFront part → IsNoFront b → (m : List ℕ) → part ≡ b ++ m → ⊥
front_no_front part b f n m e = n f.char (m ++ f.rest) f.scalar (f.spelled ∙ (ap (λ u. u ++ f.rest) e ∙ append_assoc b m f.rest))

-- a whole character does not begin where bytes begin none
pub char_no_front : (part rest m : List ℕ) (b c : ℕ) → IsFront part → IsNoFront (part ++ b ∷ []) → IsScalar c → encode_utf8 c ++ m ≡ part ++ b ∷ rest → ⊥
char_no_front part rest m b c f n s e = by (fronts (encode_utf8 c) (part ++ b ∷ []) m rest (e ∙ sym (append_assoc part (b ∷ []) rest))) where
  last_or_before : (v : List ℕ) (p : List ℕ) (k : ℕ) (w : List ℕ) → p ++ b ∷ [] ≡ v ++ w → ((x : List ℕ) × (p ≡ v ++ x)) ⊎ (v ≡ p ++ b ∷ [])
  last_or_before [] p k w e = inl (p, refl)
  last_or_before (x ∷ v) [] k w e = inr (single x v w e) where
    single : (x : ℕ) (v w : List ℕ) → (b ∷ []) ≡ (x ∷ (v ++ w)) → (x ∷ v) ≡ (b ∷ [])
    single x [] w e = cons_b x [] e where
      cons_b : (x : ℕ) (v : List ℕ) → (b ∷ []) ≡ (x ∷ w) → (x ∷ []) ≡ (b ∷ [])
      cons_b x v e = cc
    single x (y ∷ v) w e = absurd (cc)
  last_or_before (x ∷ v) (y ∷ p) k w e = grown (heads y x _ _ e) (last_or_before v p k w (tails y x _ _ e)) where
    grown : y ≡ x → ((z : List ℕ) × (p ≡ v ++ z)) ⊎ (v ≡ p ++ b ∷ []) → ((z : List ℕ) × ((y ∷ p) ≡ (x ∷ v) ++ z)) ⊎ ((x ∷ v) ≡ (y ∷ p) ++ b ∷ [])
    grown h (inl r) = inl (r.0, both y x p (v ++ r.0) h r.1) where
      both : (c d : ℕ) (v w : List ℕ) → c ≡ d → v ≡ w → (c ∷ v) ≡ (d ∷ w)
      both c d v w e f = cc
    grown h (inr r) = inr (both x y v (p ++ b ∷ []) (sym h) r) where
      both : (c d : ℕ) (v w : List ℕ) → c ≡ d → v ≡ w → (c ∷ v) ≡ (d ∷ w)
      both c d v w e f = cc

  by : ((m : List ℕ) × (part ++ b ∷ [] ≡ encode_utf8 c ++ m)) ⊎ ((k : ℕ) × (m : List ℕ) × (encode_utf8 c ≡ (part ++ b ∷ []) ++ k ∷ m)) → ⊥
  by (inl r) = whole (last_or_before (encode_utf8 c) part b r.0 r.1) where
    whole : ((x : List ℕ) × (part ≡ encode_utf8 c ++ x)) ⊎ (encode_utf8 c ≡ part ++ b ∷ []) → ⊥
    whole (inl x) = no_whole part x.0 c f x.1
    whole (inr x) = n c [] s (x ∙ sym (append-nil (part ++ b ∷ [])))
  by (inr r) = n c (r.0 ∷ r.1) s r.2
