-- A text has at most one first fault, and none where it is whole.
use Rattle.std.proofs.Common.{◌≡◌, ◌≢◌, ℕ, true, false, ◌==◌, ◌+◌, ◌<◌, ◌≤◌, ◌⊎◌, inl, inr, List, [], ◌∷◌, ◌++◌, length, Some, None, refl, sym, ◌∙◌, ap, subst, append_assoc, append-nil, length-append, arith}
use Rattle.std.specs.List.{flat_map, list_all}
use Rattle.std.specs.Char.{encode_utf8}
use Rattle.std.specs.Str.{encode_utf8_all}
use Rattle.std.proofs.lemmas.Bool.{both_ways, and_parts, not-false, cases_Bool, leb-true, eqb-true, eqb-false}
use Rattle.std.proofs.lemmas.Str.{encode_same, encodes-append, length-encode, len_utf8_bounds}
use Rattle.lexical_core.specs.Utf8.{IsFront}
use Rattle.lexical_core.specs.declared.rule.Rule.{Rule}
use Rattle.lexical_core.proofs.Lists.{nothing_behind}
use Rattle.markup.specs.Chars.{is_xml_char}
use Rattle.markup.specs.Token.{Token, Mark, Declaration, Comment, Instruction, Opener, Closer, TypeDeclaration, Start, End, Refer, LineEnd, Character, Lf, Cr, CrLf, token_text, token_bytes}
use Rattle.markup.specs.Reference.{Named, Numbered}
use Rattle.markup.specs.Marks.{in_cdata, stands, Cell, Front, is_short}
use Rattle.markup.specs.Faults.{rule_of, IsClean, NoToken, TokenGoesOn, is_over, TokenStops, no_char, bad_char, stuck, IsTagBegun, IsUnended, Fault, MarkFaultUnder, IsWholeUnder, Next, broken, halts, cut, too_long}
use Rattle.markup.proofs.Spans.{heads, tails}
use Rattle.markup.proofs.TokenLaw.{one_token}
use Rattle.markup.proofs.TokenChars.{token_all, last_xml}
use Rattle.markup.proofs.NoTokens.{Shorter, Longer, compare_texts, no_whole, front_no_front, char_no_front, no_token, fronts}
use Rattle.markup.proofs.CharLemmas.{xml_scalar}
use Rattle.markup.proofs.Complete.{complete}
use Rattle.markup.specs.inner.Drafts.{no_draft}
use Rattle.markup.specs.inner.ScanRuns.{Over, run, position, ended_of, draft_of, ends_itself}
use Rattle.markup.specs.declared.scan.Scan.TheVariants.{Begin}
use Rattle.markup.proofs.TokensBehind.{tokens_behind, behind}

-- what goes on did so before
goes_less : (before : List Token) (chars more : List ℕ) (c : ℕ) → TokenGoesOn before (chars ++ c ∷ more) → TokenGoesOn before (chars ++ c ∷ [])
goes_less before chars more c g = record {
  token = g.token;
  more = more ++ g.more;
  after = g.after;
  is = g.is;
  text = g.text ∙ (append_assoc chars (c ∷ more) g.more ∙ sym (append_assoc chars (c ∷ []) (more ++ g.more)));
}

goes_xml : (before : List Token) (chars : List ℕ) (c : ℕ) → TokenGoesOn before (chars ++ c ∷ []) → is_xml_char c ≡ true
goes_xml before chars c g = last_xml chars g.more c (subst (λ v. list_all is_xml_char v ≡ true) g.text (token_all before g.token g.after g.is))

same_char : (c d : ℕ) (tail x y : List ℕ) → tail ≡ encode_utf8 c ++ x → tail ≡ encode_utf8 d ++ y → c ≡ d
same_char c d tail x y e f = (encode_same c d x y (sym e ∙ f)).0

-- a whole character is no front of another
whole_in : (part rest x : List ℕ) (c : ℕ) → IsFront part → part ++ rest ≡ encode_utf8 c ++ x → length (encode_utf8 c) ≤ length part → ⊥
whole_in part rest x c f e l = by (fronts part (encode_utf8 c) rest x e) where
  by : ((m : List ℕ) × (encode_utf8 c ≡ part ++ m)) ⊎ ((k : ℕ) × (m : List ℕ) × (part ≡ encode_utf8 c ++ k ∷ m)) → ⊥
  by (inl q) = some q.0 q.1 where
    some : (m : List ℕ) → encode_utf8 c ≡ part ++ m → ⊥
    some [] q = no_whole part [] c f (sym (append-nil part) ∙ (sym q ∙ sym (append-nil (encode_utf8 c))))
    some (v ∷ m) q = omega (arith, l, length-append part (v ∷ m), ap length q)
  by (inr q) = no_whole part (q.0 ∷ q.1) c f q.2

-- where a token stops, none goes on with the character that follows
stops_not_on : (before : List Token) (chars tail m : List ℕ) (c : ℕ) (rule : Rule) (shown : ℕ) → TokenStops before chars tail rule shown → tail ≡ encode_utf8 c ++ m → TokenGoesOn before (chars ++ c ∷ []) → ⊥
stops_not_on before chars tail m c rule shown (no_char part rest b e f n r s) t g = char_no_front part rest m b c f n (xml_scalar c (goes_xml before chars c g)) (sym t ∙ e)
stops_not_on before chars tail m c rule shown (bad_char d rest e k n r s) t g = both_ways (is_xml_char d) n (subst (λ x. is_xml_char x ≡ true) (same_char c d tail m rest t e) (goes_xml before chars c g))
stops_not_on before chars tail m c rule shown (stuck d rest e x n r s) t g = n (subst (λ x. TokenGoesOn before (chars ++ x ∷ [])) (same_char c d tail m rest t e) g)

-- two reasons to stop at one place give one rule
stops_same : (before : List Token) (chars tail : List ℕ) (r1 r2 : Rule) (s1 s2 : ℕ) → TokenStops before chars tail r1 s1 → TokenStops before chars tail r2 s2 → r1 ≡ r2
stops_same before chars tail r1 r2 s1 s2 (no_char p1 x1 b1 e1 f1 n1 k1 _) (no_char p2 x2 b2 e2 f2 n2 k2 _) = k1 ∙ sym k2
stops_same before chars tail r1 r2 s1 s2 (no_char p1 x1 b1 e1 f1 n1 k1 _) (bad_char c x e2 s n k2 _) = absurd (char_no_front p1 x1 x b1 c f1 n1 s (sym e2 ∙ e1))
stops_same before chars tail r1 r2 s1 s2 (no_char p1 x1 b1 e1 f1 n1 k1 _) (stuck c x e2 h n k2 _) = absurd (char_no_front p1 x1 x b1 c f1 n1 (xml_scalar c h) (sym e2 ∙ e1))
stops_same before chars tail r1 r2 s1 s2 (bad_char c x e1 s n k1 _) (no_char p2 x2 b2 e2 f2 n2 k2 _) = absurd (char_no_front p2 x2 x b2 c f2 n2 s (sym e1 ∙ e2))
stops_same before chars tail r1 r2 s1 s2 (bad_char c x e1 s n k1 _) (bad_char d y e2 t m k2 _) = k1 ∙ sym k2
stops_same before chars tail r1 r2 s1 s2 (bad_char c x e1 s n k1 _) (stuck d y e2 h m k2 _) = absurd (both_ways (is_xml_char d) (subst (λ v. is_xml_char v ≡ false) (same_char c d tail x y e1 e2) n) h)
stops_same before chars tail r1 r2 s1 s2 (stuck c x e1 h n k1 _) (no_char p2 x2 b2 e2 f2 n2 k2 _) = absurd (char_no_front p2 x2 x b2 c f2 n2 (xml_scalar c h) (sym e1 ∙ e2))
stops_same before chars tail r1 r2 s1 s2 (stuck c x e1 h n k1 _) (bad_char d y e2 t m k2 _) = absurd (both_ways (is_xml_char c) (subst (λ v. is_xml_char v ≡ false) (sym (same_char c d tail x y e1 e2)) m) h)
stops_same before chars tail r1 r2 s1 s2 (stuck c x e1 h n k1 _) (stuck d y e2 t m k2 _) = k1 ∙ sym k2

-- what shows that a token stops is no front of a character
stops_not_in : (before : List Token) (chars tail part rest : List ℕ) (rule : Rule) (shown : ℕ) → TokenStops before chars tail rule shown → IsFront part → tail ≡ part ++ rest → shown ≤ length part → ⊥
stops_not_in before chars tail part rest rule shown (no_char p x b e f n r s) k t l = by (fronts part (p ++ b ∷ []) rest x (sym t ∙ (e ∙ sym (append_assoc p (b ∷ []) x)))) where
  longer : (m : List ℕ) (v : ℕ) → part ≡ (p ++ b ∷ []) ++ v ∷ m → ⊥
  longer m v q = front_no_front part (p ++ b ∷ []) k n (v ∷ m) q

  same : (m : List ℕ) → p ++ b ∷ [] ≡ part ++ m → ⊥
  same [] q = front_no_front part (p ++ b ∷ []) k n [] (sym (append-nil part) ∙ (sym q ∙ sym (append-nil (p ++ b ∷ []))))
  same (v ∷ m) q = omega (arith, s, l, length-append p (b ∷ []), length-append part (v ∷ m), ap length q)

  by : ((m : List ℕ) × (p ++ b ∷ [] ≡ part ++ m)) ⊎ ((v : ℕ) × (m : List ℕ) × (part ≡ (p ++ b ∷ []) ++ v ∷ m)) → ⊥
  by (inl q) = same q.0 q.1
  by (inr q) = longer q.1 q.0 q.2
stops_not_in before chars tail part rest rule shown (bad_char c x e s n r h) k t l = whole_in part rest x c k (sym t ∙ e) (subst (λ v. v ≤ length part) h l)
stops_not_in before chars tail part rest rule shown (stuck c x e s n r h) k t l = whole_in part rest x c k (sym t ∙ e) (subst (λ v. v ≤ length part) h l)

-- a tag is no text of another kind
tag_is : (before : List Token) (t : Token) (d : ℕ) (m : List ℕ) → token_text t ≡ 60 ∷ d ∷ m → (d ≡ 33 → ⊥) → (d ≡ 63 → ⊥) → (limit : ℕ) → is_short limit t ≡ true → length (token_bytes t) ≤ limit
tag_is before Mark d m e n k limit h = absurd (eqb-false 0xFEFF 60 refl (heads _ _ _ _ e))
tag_is before (Declaration fs g) d m e n k limit h = absurd (k (sym (heads _ _ _ _ (tails _ _ _ _ e))))
tag_is before (Comment s) d m e n k limit h = absurd (n (sym (heads _ _ _ _ (tails _ _ _ _ e))))
tag_is before (Instruction p s) d m e n k limit h = absurd (k (sym (heads _ _ _ _ (tails _ _ _ _ e))))
tag_is before Opener d m e n k limit h = absurd (n (sym (heads _ _ _ _ (tails _ _ _ _ e))))
tag_is before Closer d m e n k limit h = absurd (eqb-false 93 60 refl (heads _ _ _ _ e))
tag_is before TypeDeclaration d m e n k limit h = absurd (n (sym (heads _ _ _ _ (tails _ _ _ _ e))))
tag_is before (Start t) d m e n k limit h = leb-true _ _ h
tag_is before (End p g) d m e n k limit h = leb-true _ _ h
tag_is before (Refer (Named r)) d m e n k limit h = absurd (eqb-false 38 60 refl (heads _ _ _ _ e))
tag_is before (Refer (Numbered radix ds)) d m e n k limit h = absurd (eqb-false 38 60 refl (heads _ _ _ _ e))
tag_is before (LineEnd Lf) d m e n k limit h = absurd (cc)
tag_is before (LineEnd Cr) d m e n k limit h = absurd (cc)
tag_is before (LineEnd CrLf) d m e n k limit h = absurd (eqb-false 13 60 refl (heads _ _ _ _ e))
tag_is before (Character c) d m e n k limit h = absurd (cc)

-- the characters of a tag that is begun
tag_begun : (chars : List ℕ) → IsTagBegun chars → (d : ℕ) × (m : List ℕ) × (chars ≡ 60 ∷ d ∷ m) × (d ≢ 33) × (d ≢ 63)
tag_begun [] h = absurd h
tag_begun (c ∷ []) h = absurd h
tag_begun (c ∷ d ∷ m) h = (d, m, ap (λ x. x ∷ d ∷ m) h.0, h.1, h.2)

tag_more : (chars more : List ℕ) → IsTagBegun chars → IsTagBegun (chars ++ more)
tag_more [] more h = absurd h
tag_more (c ∷ []) more h = absurd h
tag_more (c ∷ d ∷ m) more h = h

-- a whole token is no shorter beginning of one that goes on
begins_none : (before : List Token) (u : Token) (a chars m : List ℕ) → stands before u a ≡ true → TokenGoesOn before chars → chars ≡ token_text u ++ m → IsTagBegun chars → IsUnended before chars → ⊥
begins_none before u a chars [] h g e b n = n u a h (sym (append-nil (token_text u)) ∙ sym e)
begins_none before u a chars (c ∷ m) h g e b n = by (cases_Bool (ends_itself (in_cdata before) u)) where
  starts_less : (v : List ℕ) (x : ℕ) → chars ≡ x ∷ v → (x == 60) ≡ false → ⊥
  starts_less v x q k = let t = tag_begun chars b in eqb-false x 60 k (heads _ _ _ _ (sym q ∙ t.2))

  open_here : (u : Token) → ends_itself (in_cdata before) u ≡ false → chars ≡ token_text u ++ c ∷ m → ⊥
  open_here (LineEnd Cr) k q = starts_less (c ∷ m) 13 q refl
  open_here (LineEnd Lf) k q = both_ways true k refl
  open_here (LineEnd CrLf) k q = both_ways true k refl
  open_here (Character x) k q = starts_less (c ∷ m) x q (other x (and_parts (in_cdata before) (x == 93) (not-false _ k)).1) where
    other : (x : ℕ) → (x == 93) ≡ true → (x == 60) ≡ false
    other x h = subst (λ (y : ℕ). (y == 60) ≡ false) (sym (eqb-true x 93 h)) refl
  open_here _ k q = both_ways true k refl

  over : (ends_itself (in_cdata before) u ≡ true) → ⊥
  over k = by_end (cases_Bool (ends_itself (in_cdata before) g.token)) where
    text_is : token_text g.token ≡ token_text u ++ (c ∷ m ++ g.more)
    text_is = g.text ∙ (ap (λ v. v ++ g.more) e ∙ append_assoc (token_text u) (c ∷ m) g.more)

    two : Over (ended_of u) (draft_of u) (c ∷ m ++ g.more) ≡ Over (ended_of g.token) (draft_of g.token) [] → ⊥
    two q = cc

    by_end : (ends_itself (in_cdata before) g.token ≡ true) ⊎ (ends_itself (in_cdata before) g.token ≡ false) → ⊥
    by_end (inl l) = two (sym (complete before u a (c ∷ m ++ g.more) h k) ∙ (ap (run (Begin (position before)) no_draft) (sym text_is ∙ sym (append-nil (token_text g.token))) ∙ complete before g.token g.after [] g.is l))
    by_end (inr l) = open_more g.token l (g.text ∙ (ap (λ v. v ++ g.more) (tag_begun chars b).2)) where
      open_more : (t : Token) → ends_itself (in_cdata before) t ≡ false → token_text t ≡ 60 ∷ ((tag_begun chars b).0 ∷ (tag_begun chars b).1) ++ g.more → ⊥
      open_more (LineEnd Cr) k q = eqb-false 13 60 refl (heads _ _ _ _ q)
      open_more (LineEnd Lf) k q = both_ways true k refl
      open_more (LineEnd CrLf) k q = both_ways true k refl
      open_more (Character x) k q = absurd (cc)
      open_more _ k q = both_ways true k refl

  by : (ends_itself (in_cdata before) u ≡ true) ⊎ (ends_itself (in_cdata before) u ≡ false) → ⊥
  by (inl k) = over k
  by (inr k) = open_here u k e

-- a character that bytes do not hold is longer than they are
front_short : (part rest x : List ℕ) (c : ℕ) → IsFront part → part ++ rest ≡ encode_utf8 c ++ x → length part < length (encode_utf8 c)
front_short part rest x c f e = by (fronts part (encode_utf8 c) rest x e) where
  by : ((m : List ℕ) × (encode_utf8 c ≡ part ++ m)) ⊎ ((k : ℕ) × (m : List ℕ) × (part ≡ encode_utf8 c ++ k ∷ m)) → length part < length (encode_utf8 c)
  by (inl q) = some q.0 q.1 where
    some : (m : List ℕ) → encode_utf8 c ≡ part ++ m → length part < length (encode_utf8 c)
    some [] q = absurd (no_whole part [] c f (sym (append-nil part) ∙ (sym q ∙ sym (append-nil (encode_utf8 c)))))
    some (v ∷ m) q = omega (arith, length-append part (v ∷ m), ap length q)
  by (inr q) = absurd (no_whole part (q.0 ∷ q.1) c f q.2)

-- no tag that is too long stands
too_long_none : (limit : ℕ) (before : List Token) (u : Token) (bytes a chars part rest : List ℕ) → Cell before u bytes a → is_short limit u ≡ true → bytes ≡ encode_utf8_all chars ++ part ++ rest → TokenGoesOn before chars → IsUnended before chars → IsTagBegun chars → IsFront part → length (encode_utf8_all chars ++ part) ≡ limit → ⊥
too_long_none limit before u bytes a chars part rest cell short e g n b f l = by (compare_texts chars (token_text u) (part ++ rest) a (sym (append_assoc (encode_utf8_all chars) part rest) ∙ (sym e ∙ cell.spelled))) where
  by : Shorter chars (token_text u) (part ++ rest) a ⊎ Longer chars (token_text u) (part ++ rest) a → ⊥
  by (inl r) = begins_none before u a chars r.more cell.is g r.text b n
  by (inr r) = longer (tag_begun chars b) where
    bytes_are : token_bytes u ≡ encode_utf8_all chars ++ encode_utf8_all (r.next ∷ r.more)
    bytes_are = ap encode_utf8_all r.text ∙ encodes-append chars (r.next ∷ r.more)

    count : (p q w v : List ℕ) (limit bound : ℕ) → length (p ++ q) ≡ limit → length q < length w → bound ≡ length (p ++ (w ++ v)) → bound ≤ limit → ⊥
    count p q w v limit bound h k e m = omega (arith, length-append p q, length-append p (w ++ v), length-append w v)

    longer : (d : ℕ) × (m : List ℕ) × (chars ≡ 60 ∷ d ∷ m) × (d ≢ 33) × (d ≢ 63) → ⊥
    longer t = count (encode_utf8_all chars) part (encode_utf8 r.next) (encode_utf8_all r.more) limit (length (token_bytes u)) l
        (front_short part rest (encode_utf8_all r.more ++ a) r.next f (r.behind ∙ append_assoc (encode_utf8 r.next) (encode_utf8_all r.more) a))
        (ap length bytes_are)
        (tag_is before u t.0 (t.1 ++ r.next ∷ r.more) (r.text ∙ ap (λ v. v ++ r.next ∷ r.more) t.2) t.3 t.4 limit short)

-- two reasons why tokens end at one place tell one rule, at one place
pub record SameFault (r1 r2 : Rule) (a1 a2 : ℕ) : Type 0 where
  pub rule : r1 ≡ r2
  pub at : a1 ≡ a2

-- where one token begins with the characters of another that stops, both stop alike
halts_halts : (before : List Token) (c1 c2 t1 t2 : List ℕ) (r1 r2 : Rule) (s1 s2 : ℕ) → encode_utf8_all c1 ++ t1 ≡ encode_utf8_all c2 ++ t2 → TokenGoesOn before c1 → TokenGoesOn before c2 → TokenStops before c1 t1 r1 s1 → TokenStops before c2 t2 r2 s2 → r1 ≡ r2
halts_halts before c1 c2 t1 t2 r1 r2 s1 s2 e g1 g2 h1 h2 = by (compare_texts c1 c2 t1 t2 e) where
  by : Shorter c1 c2 t1 t2 ⊎ Longer c1 c2 t1 t2 → r1 ≡ r2
  by (inl r) = shorter r.more r.text r.behind where
    shorter : (m : List ℕ) → c1 ≡ c2 ++ m → t2 ≡ encode_utf8_all m ++ t1 → r1 ≡ r2
    shorter [] q b = stops_same before c1 t1 r1 r2 s1 s2 h1 (subst (λ v. TokenStops before c1 v r2 s2) b (subst (λ v. TokenStops before v t2 r2 s2) (sym (q ∙ append-nil c2)) h2))
    shorter (c ∷ m) q b = absurd (stops_not_on before c2 t2 (encode_utf8_all m ++ t1) c r2 s2 h2 (b ∙ append_assoc (encode_utf8 c) (encode_utf8_all m) t1) (goes_less before c2 m c (subst (TokenGoesOn before) q g1)))
  by (inr r) = absurd (stops_not_on before c1 t1 (encode_utf8_all r.more ++ t2) r.next r1 s1 h1 (r.behind ∙ append_assoc (encode_utf8 r.next) (encode_utf8_all r.more) t2) (goes_less before c1 r.more r.next (subst (TokenGoesOn before) r.text g2)))

-- bytes that are cut short show no reason to stop
halts_cut : (before : List Token) (c1 c2 t1 part : List ℕ) (r1 : Rule) (s1 : ℕ) → encode_utf8_all c1 ++ t1 ≡ encode_utf8_all c2 ++ part → TokenGoesOn before c1 → TokenGoesOn before c2 → TokenStops before c1 t1 r1 s1 → IsFront part → ⊥
halts_cut before c1 c2 t1 part r1 s1 e g1 g2 h1 f = by (compare_texts c1 c2 t1 part e) where
  bound : (rule : Rule) (shown : ℕ) (tail : List ℕ) → TokenStops before c1 tail rule shown → shown ≤ length tail
  bound rule shown tail (no_char p x b e f n r s) = omega (arith, s, ap length e, length-append p (b ∷ x))
  bound rule shown tail (bad_char c x e s n r h) = omega (arith, h, ap length e, length-append (encode_utf8 c) x)
  bound rule shown tail (stuck c x e s n r h) = omega (arith, h, ap length e, length-append (encode_utf8 c) x)

  by : Shorter c1 c2 t1 part ⊎ Longer c1 c2 t1 part → ⊥
  by (inl r) = shorter r.more r.text r.behind where
    shorter : (m : List ℕ) → c1 ≡ c2 ++ m → part ≡ encode_utf8_all m ++ t1 → ⊥
    shorter [] q b = stops_not_in before c1 t1 part [] r1 s1 h1 f (sym b ∙ sym (append-nil part)) (subst (λ v. s1 ≤ length v) (sym b) (bound r1 s1 t1 h1))
    shorter (c ∷ m) q b = no_whole part (encode_utf8_all m ++ t1) c f (b ∙ append_assoc (encode_utf8 c) (encode_utf8_all m) t1)
  by (inr r) = stops_not_on before c1 t1 (encode_utf8_all r.more ++ part) r.next r1 s1 h1 (r.behind ∙ append_assoc (encode_utf8 r.next) (encode_utf8_all r.more) part) (goes_less before c1 r.more r.next (subst (TokenGoesOn before) r.text g2))

-- a tag that is too long has not stopped within the limit
halts_too_long : (limit : ℕ) (before : List Token) (c1 c2 t1 part rest : List ℕ) (r1 : Rule) (s1 : ℕ) → encode_utf8_all c1 ++ t1 ≡ encode_utf8_all c2 ++ (part ++ rest) → TokenGoesOn before c2 → TokenStops before c1 t1 r1 s1 → (IsTagBegun c1 → length (encode_utf8_all c1) + s1 ≤ limit) → IsTagBegun c2 → IsFront part → length (encode_utf8_all c2 ++ part) ≡ limit → ⊥
halts_too_long limit before c1 c2 t1 part rest r1 s1 e g2 h1 k b f l = by (compare_texts c1 c2 t1 (part ++ rest) e) where
  by : Shorter c1 c2 t1 (part ++ rest) ⊎ Longer c1 c2 t1 (part ++ rest) → ⊥
  by (inl r) = shorter r.more r.text r.behind where
    shorter : (m : List ℕ) → c1 ≡ c2 ++ m → part ++ rest ≡ encode_utf8_all m ++ t1 → ⊥
    shorter [] q d = stops_not_in before c1 t1 part rest r1 s1 h1 f (sym d) (small (encode_utf8_all c2) part s1 limit l (subst (λ v. length (encode_utf8_all v) + s1 ≤ limit) (q ∙ append-nil c2) (k (subst IsTagBegun (sym (q ∙ append-nil c2)) b)))) where
      small : (p q : List ℕ) (s limit : ℕ) → length (p ++ q) ≡ limit → length p + s ≤ limit → s ≤ length q
      small p q s limit h k = omega (arith, length-append p q)
    shorter (c ∷ m) q d = count (encode_utf8_all c2) part (encode_utf8 c) (encode_utf8_all m) (length (encode_utf8_all c1)) s1 limit l
        (front_short part rest (encode_utf8_all m ++ t1) c f (d ∙ append_assoc (encode_utf8 c) (encode_utf8_all m) t1))
        (ap length (ap encode_utf8_all q ∙ encodes-append c2 (c ∷ m)))
        (k (subst IsTagBegun (sym q) (tag_more c2 (c ∷ m) b))) where
          count : (p q w v : List ℕ) (bytes s limit : ℕ) → length (p ++ q) ≡ limit → length q < length w → bytes ≡ length (p ++ (w ++ v)) → bytes + s ≤ limit → ⊥
          count p q w v bytes s limit h k e m = omega (arith, length-append p q, length-append p (w ++ v), length-append w v)
  by (inr r) = stops_not_on before c1 t1 (encode_utf8_all r.more ++ (part ++ rest)) r.next r1 s1 h1 (r.behind ∙ append_assoc (encode_utf8 r.next) (encode_utf8_all r.more) (part ++ rest)) (goes_less before c1 r.more r.next (subst (TokenGoesOn before) r.text g2))

-- a tag that is too long is not cut short
cut_too_long : (limit : ℕ) (before : List Token) (c1 c2 p1 part rest : List ℕ) → encode_utf8_all c1 ++ p1 ≡ encode_utf8_all c2 ++ (part ++ rest) → IsFront p1 → (IsTagBegun c1 → length (encode_utf8_all c1 ++ p1) < limit) → IsTagBegun c2 → length (encode_utf8_all c2 ++ part) ≡ limit → ⊥
cut_too_long limit before c1 c2 p1 part rest e f k b l = by (compare_texts c1 c2 p1 (part ++ rest) e) where
  count : (p q r : List ℕ) (bytes limit : ℕ) → length (p ++ q) ≡ limit → bytes ≡ length (p ++ (q ++ r)) → bytes < limit → ⊥
  count p q r bytes limit h e m = omega (arith, length-append p q, length-append p (q ++ r), length-append q r)

  by : Shorter c1 c2 p1 (part ++ rest) ⊎ Longer c1 c2 p1 (part ++ rest) → ⊥
  by (inl r) = count (encode_utf8_all c2) part rest (length (encode_utf8_all c1 ++ p1)) limit l (ap length e) (k (subst IsTagBegun (sym r.text) (tag_more c2 r.more b)))
  by (inr r) = no_whole p1 (encode_utf8_all r.more ++ (part ++ rest)) r.next f (r.behind ∙ append_assoc (encode_utf8 r.next) (encode_utf8_all r.more) (part ++ rest))

regroup : (c p r bytes : List ℕ) → bytes ≡ c ++ p ++ r → bytes ≡ c ++ (p ++ r)
regroup c p r bytes e = e ∙ append_assoc c p r

module _ (limit : ℕ) (before : List Token) (bytes : List ℕ) where
  -- no token that breaks no rule stands where the list of tokens ends
  pub next_none : (u : Token) (a : List ℕ) (rule : Rule) (at : ℕ) → Next limit before bytes rule at → Cell before u bytes a → is_short limit u ≡ true → rule_of before u ≡ None → ⊥
  next_none u a rule at (broken t after cell short k p) c s n = none_some (sym n ∙ (ap (rule_of before) (sym (one_token before t u bytes after a cell c).0) ∙ k)) where
    none_some : None ≡ Some rule → ⊥
    none_some e = cc
  next_none u a rule at (halts chars tail shown e n g h k p) c s _ = n u a c
  next_none u a rule at (cut chars part e n g f k o r p) c s _ = n u a c
  next_none u a rule at (too_long chars part rest e g n b f l r p) c s _ = too_long_none limit before u bytes a chars part rest c s e g n b f l

  pub next_same : (r1 r2 : Rule) (a1 a2 : ℕ) → Next limit before bytes r1 a1 → Next limit before bytes r2 a2 → SameFault r1 r2 a1 a2
  next_same r1 r2 a1 a2 (broken t x c1 s1 k1 p1) (broken u y c2 s2 k2 p2) = record { rule = some_same r1 r2 (sym k1 ∙ (ap (rule_of before) (one_token before t u bytes x y c1 c2).0 ∙ k2)); at = p1 ∙ sym p2 } where
    some_same : (a b : Rule) → Some a ≡ Some b → a ≡ b
    some_same a b e = cc
  next_same r1 r2 a1 a2 (broken t x c1 s1 k1 p1) (halts chars tail shown e n g h k p2) = absurd (n t x c1)
  next_same r1 r2 a1 a2 (broken t x c1 s1 k1 p1) (cut chars part e n g f k o r p2) = absurd (n t x c1)
  next_same r1 r2 a1 a2 (broken t x c1 s1 k1 p1) (too_long chars part rest e g n b f l r p2) = absurd (too_long_none limit before t bytes x chars part rest c1 s1 e g n b f l)
  next_same r1 r2 a1 a2 (halts chars tail shown e n g h k p1) (broken u y c2 s2 k2 p2) = absurd (n u y c2)
  next_same r1 r2 a1 a2 (halts ch1 t1 s1 e1 n1 g1 h1 k1 p1) (halts ch2 t2 s2 e2 n2 g2 h2 k2 p2) = record { rule = halts_halts before ch1 ch2 t1 t2 r1 r2 s1 s2 (sym e1 ∙ e2) g1 g2 h1 h2; at = p1 ∙ sym p2 }
  next_same r1 r2 a1 a2 (halts ch1 t1 s1 e1 n1 g1 h1 k1 p1) (cut ch2 part e2 n2 g2 f k o r p2) = absurd (halts_cut before ch1 ch2 t1 part r1 s1 (sym e1 ∙ e2) g1 g2 h1 f)
  next_same r1 r2 a1 a2 (halts ch1 t1 s1 e1 n1 g1 h1 k1 p1) (too_long ch2 part rest e2 g2 n2 b f l r p2) = absurd (halts_too_long limit before ch1 ch2 t1 part rest r1 s1 (sym e1 ∙ regroup (encode_utf8_all ch2) part rest bytes e2) g2 h1 k1 b f l)
  next_same r1 r2 a1 a2 (cut chars part e n g f k o r p1) (broken u y c2 s2 k2 p2) = absurd (n u y c2)
  next_same r1 r2 a1 a2 (cut ch1 part e1 n1 g1 f k o r p1) (halts ch2 t2 s2 e2 n2 g2 h2 k2 p2) = absurd (halts_cut before ch2 ch1 t2 part r2 s2 (sym e2 ∙ e1) g2 g1 h2 f)
  next_same r1 r2 a1 a2 (cut ch1 q1 e1 n1 g1 f1 k1 o1 x1 p1) (cut ch2 q2 e2 n2 g2 f2 k2 o2 x2 p2) = record { rule = x1 ∙ sym x2; at = p1 ∙ sym p2 }
  next_same r1 r2 a1 a2 (cut ch1 q1 e1 n1 g1 f1 k1 o1 x1 p1) (too_long ch2 part rest e2 g2 n2 b f l r p2) = absurd (cut_too_long limit before ch1 ch2 q1 part rest (sym e1 ∙ regroup (encode_utf8_all ch2) part rest bytes e2) f1 (λ t. subst (λ v. length v < limit) e1 (k1 t)) b l)
  next_same r1 r2 a1 a2 (too_long chars part rest e g n b f l r p1) (broken u y c2 s2 k2 p2) = absurd (too_long_none limit before u bytes y chars part rest c2 s2 e g n b f l)
  next_same r1 r2 a1 a2 (too_long ch1 part rest e1 g1 n1 b f l r p1) (halts ch2 t2 s2 e2 n2 g2 h2 k2 p2) = absurd (halts_too_long limit before ch2 ch1 t2 part rest r2 s2 (sym e2 ∙ regroup (encode_utf8_all ch1) part rest bytes e1) g1 h2 k2 b f l)
  next_same r1 r2 a1 a2 (too_long ch1 part rest e1 g1 n1 b f l r p1) (cut ch2 q2 e2 n2 g2 f2 k2 o2 x2 p2) = absurd (cut_too_long limit before ch2 ch1 q2 part rest (sym e2 ∙ regroup (encode_utf8_all ch1) part rest bytes e1) f2 (λ t. subst (λ v. length v < limit) e2 (k2 t)) b l)
  next_same r1 r2 a1 a2 (too_long ch1 q1 x1 e1 g1 n1 b1 f1 l1 k1 p1) (too_long ch2 q2 x2 e2 g2 n2 b2 f2 l2 k2 p2) = record { rule = k1 ∙ sym k2; at = p1 ∙ sym p2 }

-- behind the same tokens two faults are one
same_from : (limit : ℕ) (before : List Token) (bytes x y : List ℕ) (ts us : List Token) (r1 r2 : Rule) (a1 a2 : ℕ) → Front limit before bytes ts x → IsClean before ts → Next limit (tokens_behind before ts) x r1 a1 → Front limit before bytes us y → IsClean before us → Next limit (tokens_behind before us) y r2 a2 → SameFault r1 r2 (length (flat_map token_bytes ts) + a1) (length (flat_map token_bytes us) + a2)
same_from limit before bytes x y [] [] r1 r2 a1 a2 f c n g d m =
    let s = next_same limit before bytes r1 r2 a1 a2 (subst (λ v. Next limit before v r1 a1) (sym f) n) (subst (λ v. Next limit before v r2 a2) (sym g) m) in
    record { rule = s.rule; at = ap (λ a. 0 + a) s.at }
same_from limit before bytes x y [] (u ∷ us) r1 r2 a1 a2 f c n g d m = absurd (next_none limit before bytes u g.0 r1 a1 (subst (λ v. Next limit before v r1 a1) (sym f) n) g.1 g.2 d.0)
same_from limit before bytes x y (t ∷ ts) [] r1 r2 a1 a2 f c n g d m = absurd (next_none limit before bytes t f.0 r2 a2 (subst (λ v. Next limit before v r2 a2) (sym g) m) f.1 f.2 c.0)
same_from limit before bytes x y (t ∷ ts) (u ∷ us) r1 r2 a1 a2 f c n g d m =
    let o = one_token before t u bytes f.0 g.0 f.1 g.1 in
    let s = same_from limit (t ∷ before) f.0 x y ts us r1 r2 a1 a2 f.3 c.1 n
    (subst (λ (v : Token). Front limit (v ∷ before) f.0 us y) (sym o.0) (subst (λ (v : List ℕ). Front limit (u ∷ before) v us y) (sym o.1) g.3))
    (subst (λ (v : Token). IsClean (v ∷ before) us) (sym o.0) d.1)
    (subst (λ (v : Token). Next limit (tokens_behind (v ∷ before) us) y r2 a2) (sym o.0) m) in
    record { rule = s.rule; at = placed t u ts us a1 a2 o.0 s.at } where
      placed : (t u : Token) (ts us : List Token) (a1 a2 : ℕ) → t ≡ u → length (flat_map token_bytes ts) + a1 ≡ length (flat_map token_bytes us) + a2 → length (flat_map token_bytes (t ∷ ts)) + a1 ≡ length (flat_map token_bytes (u ∷ us)) + a2
      placed t u ts us a1 a2 e f = omega (arith, length-append (token_bytes t) (flat_map token_bytes ts), length-append (token_bytes u) (flat_map token_bytes us), ap (λ v. length (token_bytes v)) e, f)

-- a text has at most one first fault
pub one_fault : {limit : ℕ} (bytes : List ℕ) (f g : Fault) → MarkFaultUnder limit bytes f → MarkFaultUnder limit bytes g → f ≡ g
one_fault {limit} bytes f g m n =
    let s = same_from limit [] bytes m.rest n.rest m.tokens n.tokens f.rule g.rule m.at n.at m.front m.clean (subst (λ v. Next limit v m.rest f.rule m.at) (behind m.tokens) m.next) n.front n.clean (subst (λ v. Next limit v n.rest g.rule n.at) (behind n.tokens) n.next) in
    fault_same f.rule g.rule f.place g.place s.rule (m.place ∙ (s.at ∙ sym n.place)) where
      fault_same : (a b : Rule) (p q : ℕ) → a ≡ b → p ≡ q → ◌≡◌ {A = Fault} (record { rule = a; place = p }) (record { rule = b; place = q })
      fault_same a b p q e h = cc

-- a character has bytes
pub some_bytes : (c : ℕ) (v : List ℕ) → [] ≡ encode_utf8 c ++ v → ⊥
some_bytes c v e = omega (arith, length-append (encode_utf8 c) v, length-encode c, len_utf8_bounds c, ap length e)

-- no bytes are no token
pub nothing_stands : (before : List Token) → NoToken before []
nothing_stands before = no_token before [] [] (Begin (position before)) no_draft refl tt (λ c more after e g x. some_bytes c after e)

none_stops : (before : List Token) (chars tail : List ℕ) (rule : Rule) (shown : ℕ) → TokenStops before chars tail rule shown → tail ≡ [] → ⊥
none_stops before chars tail rule shown (no_char p x b e f n r s) h = empty p b x (sym h ∙ e) where
  empty : (p : List ℕ) (b : ℕ) (x : List ℕ) → [] ≡ p ++ b ∷ x → ⊥
  empty [] b x e = absurd (cc)
  empty (c ∷ p) b x e = absurd (cc)
none_stops before chars tail rule shown (bad_char c x e s n r k) h = some_bytes c x (sym h ∙ e)
none_stops before chars tail rule shown (stuck c x e s n r k) h = some_bytes c x (sym h ∙ e)

-- at the end of a whole text there is no fault
pub next_over : (limit : ℕ) (before : List Token) (bytes : List ℕ) (rule : Rule) (at : ℕ) → Next limit before bytes rule at → bytes ≡ [] → is_over before ≡ true → ⊥
next_over limit before bytes rule at (broken t after cell s k p) e o = nothing_stands before t after (subst (λ v. Cell before t v after) e cell)
next_over limit before bytes rule at (halts chars tail shown b n g h k p) e o = none_stops before chars tail rule shown h (nothing_behind (encode_utf8_all chars) tail (sym e ∙ b))
next_over limit before bytes rule at (cut chars part b n g f k q r p) e o = both_ways _ (q e) o
next_over limit before bytes rule at (too_long chars part rest b g n t f l r p) e o = begun chars t (sym e ∙ (b ∙ append_assoc (encode_utf8_all chars) part rest)) where
  begun : (cs : List ℕ) → IsTagBegun cs → [] ≡ encode_utf8_all cs ++ (part ++ rest) → ⊥
  begun [] t q = t
  begun (c ∷ cs) t q = some_bytes c (encode_utf8_all cs ++ (part ++ rest)) (q ∙ append_assoc (encode_utf8 c) (encode_utf8_all cs) (part ++ rest))

none_from : (limit : ℕ) (before : List Token) (bytes y : List ℕ) (ts us : List Token) (rule : Rule) (at : ℕ) → Front limit before bytes ts [] → IsClean before ts → is_over (tokens_behind before ts) ≡ true → Front limit before bytes us y → IsClean before us → Next limit (tokens_behind before us) y rule at → ⊥
none_from limit before bytes y [] [] rule at f c o g d m = next_over limit before y rule at m (sym g ∙ f) o
none_from limit before bytes y [] (u ∷ us) rule at f c o g d m = nothing_stands before u g.0 (subst (λ v. Cell before u v g.0) f g.1)
none_from limit before bytes y (t ∷ ts) [] rule at f c o g d m = next_none limit before bytes t f.0 rule at (subst (λ v. Next limit before v rule at) (sym g) m) f.1 f.2 c.0
none_from limit before bytes y (t ∷ ts) (u ∷ us) rule at f c o g d m =
    let k = one_token before t u bytes f.0 g.0 f.1 g.1 in
    none_from limit (t ∷ before) f.0 y ts us rule at f.3 c.1 o
    (subst (λ (v : Token). Front limit (v ∷ before) f.0 us y) (sym k.0) (subst (λ (v : List ℕ). Front limit (u ∷ before) v us y) (sym k.1) g.3))
    (subst (λ (v : Token). IsClean (v ∷ before) us) (sym k.0) d.1)
    (subst (λ (v : Token). Next limit (tokens_behind (v ∷ before) us) y rule at) (sym k.0) m)

-- a whole text has no fault
pub whole_has_none : {limit : ℕ} (bytes : List ℕ) (f : Fault) → IsWholeUnder limit bytes → MarkFaultUnder limit bytes f → ⊥
whole_has_none {limit} bytes f w n = none_from limit [] bytes n.rest w.tokens n.tokens f.rule n.at w.marks w.clean (subst (λ v. is_over v ≡ true) (behind w.tokens) w.over) n.front n.clean (subst (λ v. Next limit v n.rest f.rule n.at) (behind n.tokens) n.next)
