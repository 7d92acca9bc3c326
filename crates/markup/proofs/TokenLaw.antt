-- At one place at most one token stands, and two lists of tokens from the front of one input agree.
use Rattle.std.proofs.Common.{◌≡◌, ℕ, true, false, ◌==◌, inl, inr, List, [], ◌∷◌, ◌++◌, length, refl, sym, ◌∙◌, ap, subst, append_assoc, append-nil}
use Rattle.std.specs.List.{flat_map}
use Rattle.std.specs.Str.{encode_utf8_all}
use Rattle.std.specs.Char.{encode_utf8}
use Rattle.std.proofs.lemmas.Bool.{and_parts, both_ways, eqb-false}
use Rattle.std.proofs.lemmas.Str.{encode_same}
use Rattle.markup.specs.Name.{Name, name_text}
use Rattle.markup.specs.Reference.{Reference}
use Rattle.markup.specs.Attribute.{Attribute, attribute_text}
use Rattle.markup.specs.Token.{Token, Declaration, Comment, Instruction, Start, End, Refer, LineEnd, Character, Line, Lf, Cr, CrLf, StartTag, token_text, line_text}
use Rattle.markup.specs.Marks.{in_cdata, is_line_end, stands, Front, OneToken, Agree}
use Rattle.markup.proofs.ReferenceLemmas.{reference_agree}
use Rattle.markup.proofs.AttributeLemmas.{attributes_agree}
use Rattle.markup.proofs.TokenLemmas.{comment_agree, instruction_agree, start_tag_agree, end_tag_agree, declaration_all}
use Rattle.markup.proofs.TokenKinds.{never_in, in_both, Alike, marks, declarations, comments, instructions, openers, closers, type_declarations, starts, ends, references, line_ends, characters, alike, kind, kind-token}
use Rattle.markup.proofs.Spans.{heads, tails}

-- two texts before bytes, as their characters, what each lacks of the other, and the bytes behind both
pub record Split (s t : List ℕ) (x y : List ℕ) : Type 0 where
  pub behind_s : List ℕ
  pub behind_t : List ℕ
  pub rest : List ℕ
  pub texts : s ++ behind_s ≡ t ++ behind_t
  pub x_is : x ≡ encode_utf8_all behind_s ++ rest
  pub y_is : y ≡ encode_utf8_all behind_t ++ rest

split : (s t x y : List ℕ) → encode_utf8_all s ++ x ≡ encode_utf8_all t ++ y → Split s t x y
split [] t x y e = record { behind_s = t; behind_t = []; rest = y; texts = sym (append-nil t); x_is = e; y_is = refl }
split (c ∷ s) [] x y e = record { behind_s = []; behind_t = c ∷ s; rest = x; texts = append-nil (c ∷ s); x_is = refl; y_is = sym e }
split (c ∷ s) (d ∷ t) x y e =
    let k = encode_same c d (encode_utf8_all s ++ x) (encode_utf8_all t ++ y) (sym (append_assoc (encode_utf8 c) (encode_utf8_all s) x) ∙ (e ∙ append_assoc (encode_utf8 d) (encode_utf8_all t) y)) in
    let r = split s t x y k.1 in
    record { behind_s = r.behind_s; behind_t = r.behind_t; rest = r.rest; texts = both c d _ _ k.0 r.texts; x_is = r.x_is; y_is = r.y_is } where
      both : (c d : ℕ) (v w : List ℕ) → c ≡ d → v ≡ w → (c ∷ v) ≡ (d ∷ w)
      both c d v w e f = cc

comment_same : (s t : List ℕ) → s ≡ t → Comment s ≡ Comment t
comment_same s t e = cc

instruction_same : (p q s t : List ℕ) → p ≡ q → s ≡ t → Instruction p s ≡ Instruction q t
instruction_same p q s t e f = cc

declaration_same : (fs gs : List Attribute) (g h : List ℕ) → fs ≡ gs → g ≡ h → Declaration fs g ≡ Declaration gs h
declaration_same fs gs g h e f = cc

start_same : (s t : StartTag) → s ≡ t → Start s ≡ Start t
start_same s t e = cc

end_same : (m n : Name) (g h : List ℕ) → m ≡ n → g ≡ h → End m g ≡ End n h
end_same m n g h e f = cc

refer_same : (r s : Reference) → r ≡ s → Refer r ≡ Refer s
refer_same r s e = cc

character_same : (c d : ℕ) → c ≡ d → Character c ≡ Character d
character_same c d e = cc

pub comment_then : (s w : List ℕ) → token_text (Comment s) ++ w ≡ 60 ∷ 33 ∷ 45 ∷ 45 ∷ (s ++ 45 ∷ 45 ∷ 62 ∷ w)
comment_then s w = ap (λ v. 60 ∷ 33 ∷ 45 ∷ 45 ∷ v) (append_assoc s (45 ∷ 45 ∷ 62 ∷ []) w)

pub instruction_then : (p s w : List ℕ) → token_text (Instruction p s) ++ w ≡ 60 ∷ 63 ∷ (p ++ (s ++ 63 ∷ 62 ∷ w))
instruction_then p s w = ap (λ v. 60 ∷ 63 ∷ v) (regroup p s w) where
  regroup : (p s w : List ℕ) → (p ++ s ++ 63 ∷ 62 ∷ []) ++ w ≡ p ++ (s ++ 63 ∷ 62 ∷ w)
  regroup p s w = simp append_assoc

pub declaration_then : (fs : List Attribute) (g w : List ℕ) → token_text (Declaration fs g) ++ w ≡ 60 ∷ 63 ∷ 120 ∷ 109 ∷ 108 ∷ (flat_map attribute_text fs ++ (g ++ 63 ∷ 62 ∷ w))
declaration_then fs g w = ap (λ v. 60 ∷ 63 ∷ 120 ∷ 109 ∷ 108 ∷ v) (regroup (flat_map attribute_text fs) g w) where
  regroup : (p s w : List ℕ) → (p ++ s ++ 63 ∷ 62 ∷ []) ++ w ≡ p ++ (s ++ 63 ∷ 62 ∷ w)
  regroup p s w = simp append_assoc

pub end_then : (n : Name) (g w : List ℕ) → token_text (End n g) ++ w ≡ 60 ∷ 47 ∷ (name_text n ++ (g ++ 62 ∷ w))
end_then n g w = ap (λ v. 60 ∷ 47 ∷ v) (regroup (name_text n) g w) where
  regroup : (p s w : List ℕ) → (p ++ s ++ 62 ∷ []) ++ w ≡ p ++ (s ++ 62 ∷ w)
  regroup p s w = simp append_assoc

tails2 : (c d e f : ℕ) (x y : List ℕ) → (c ∷ d ∷ x) ≡ (e ∷ f ∷ y) → x ≡ y
tails2 c d e f x y h = tails d f x y (tails c e _ _ h)

-- a CR before an LF is no line end of its own
cr_alone : (w v x z : List ℕ) → is_line_end Cr x ≡ true → x ≡ encode_utf8_all w ++ z → w ≡ 10 ∷ v → ⊥
unfolding encode_utf8
cr_alone w v x z h e k = both_ways false refl (subst (λ u. is_line_end Cr u ≡ true) (e ∙ ap (λ u. encode_utf8_all u ++ z) k) h)

line_end_agree : (l m : Line) (w v x y z : List ℕ) → is_line_end l x ≡ true → is_line_end m y ≡ true → x ≡ encode_utf8_all w ++ z → y ≡ encode_utf8_all v ++ z → line_text l ++ w ≡ line_text m ++ v → (LineEnd l ≡ LineEnd m) × (w ≡ v)
line_end_agree Lf Lf w v x y z a b e f k = (refl, tails 10 10 w v k)
line_end_agree Lf Cr w v x y z a b e f k = absurd (eqb-false 10 13 refl (heads 10 13 _ _ k))
line_end_agree Lf CrLf w v x y z a b e f k = absurd (eqb-false 10 13 refl (heads 10 13 _ _ k))
line_end_agree Cr Lf w v x y z a b e f k = absurd (eqb-false 13 10 refl (heads 13 10 _ _ k))
line_end_agree Cr Cr w v x y z a b e f k = (refl, tails 13 13 w v k)
line_end_agree Cr CrLf w v x y z a b e f k = absurd (cr_alone w v x z a e (tails 13 13 w _ k))
line_end_agree CrLf Lf w v x y z a b e f k = absurd (eqb-false 13 10 refl (heads 13 10 _ _ k))
line_end_agree CrLf Cr w v x y z a b e f k = absurd (cr_alone v w y z b f (sym (tails 13 13 _ v k)))
line_end_agree CrLf CrLf w v x y z a b e f k = (refl, tails2 13 10 13 10 w v k)

-- two tokens of one kind at the front of one text are one
same_kind : (before : List Token) (t u : Token) (w v x y z : List ℕ) → Alike t u → stands before t x ≡ true → stands before u y ≡ true → x ≡ encode_utf8_all w ++ z → y ≡ encode_utf8_all v ++ z → token_text t ++ w ≡ token_text u ++ v → (t ≡ u) × (w ≡ v)
same_kind before _ _ w v x y z marks a b e f k = (refl, tails 0xFEFF 0xFEFF w v k)
same_kind before _ _ w v x y z (declarations fs gs g h) a b e f k =
    let c = and_parts _ _ a in let d = and_parts _ _ b in
    let r = attributes_agree fs gs g h (63 ∷ 62 ∷ w) (63 ∷ 62 ∷ v) (declaration_all fs (and_parts _ _ c.0).1) (declaration_all gs (and_parts _ _ d.0).1) c.1 d.1 refl refl
    (tails 108 108 _ _ (tails2 120 109 120 109 _ _ (tails2 60 63 60 63 _ _ (sym (declaration_then fs g w) ∙ (k ∙ declaration_then gs h v))))) in
    (declaration_same fs gs g h r.0 r.1, tails2 63 62 63 62 w v r.2)
same_kind before _ _ w v x y z (comments s t) a b e f k =
    let r = comment_agree s t w v (never_in (in_cdata before) _ a).1 (never_in (in_cdata before) _ b).1 (tails2 45 45 45 45 _ _ (tails2 60 33 60 33 _ _ (sym (comment_then s w) ∙ (k ∙ comment_then t v)))) in
    (comment_same s t r.0, r.1)
same_kind before _ _ w v x y z (instructions p s q t) a b e f k =
    let r = instruction_agree p q s t w v (never_in (in_cdata before) _ a).1 (never_in (in_cdata before) _ b).1 (tails2 60 63 60 63 _ _ (sym (instruction_then p s w) ∙ (k ∙ instruction_then q t v))) in
    (instruction_same p q s t r.0 r.1, r.2)
same_kind before _ _ w v x y z openers a b e f k = (refl, tails 91 91 w v (tails2 84 65 84 65 _ _ (tails2 68 65 68 65 _ _ (tails2 91 67 91 67 _ _ (tails2 60 33 60 33 _ _ k)))))
same_kind before _ _ w v x y z closers a b e f k = (refl, tails 62 62 w v (tails2 93 93 93 93 _ _ k))
same_kind before _ _ w v x y z type_declarations a b e f k = (refl, tails 69 69 w v (tails2 89 80 89 80 _ _ (tails2 67 84 67 84 _ _ (tails2 68 79 68 79 _ _ (tails2 60 33 60 33 _ _ k)))))
same_kind before _ _ w v x y z (starts s t) a b e f k =
    let r = start_tag_agree s t w v (never_in (in_cdata before) _ a).1 (never_in (in_cdata before) _ b).1 k in
    (start_same s t r.0, r.1)
same_kind before _ _ w v x y z (ends m n g h) a b e f k =
    let c = and_parts _ _ (never_in (in_cdata before) _ a).1 in let d = and_parts _ _ (never_in (in_cdata before) _ b).1 in
    let r = end_tag_agree m n g h w v c.0 d.0 c.1 d.1 (tails2 60 47 60 47 _ _ (sym (end_then m g w) ∙ (k ∙ end_then n h v))) in
    (end_same m n g h r.0 r.1, r.2)
same_kind before _ _ w v x y z (references r s) a b e f k =
    let q = reference_agree r s w v (never_in (in_cdata before) _ a).1 (never_in (in_cdata before) _ b).1 k in
    (refer_same r s q.0, q.1)
same_kind before _ _ w v x y z (line_ends l m) a b e f k = line_end_agree l m w v x y z (in_both (in_cdata before) _ a) (in_both (in_cdata before) _ b) e f k
same_kind before _ _ w v x y z (characters c d) a b e f k = (character_same c d (heads c d w v k), tails c d w v k)

-- at one place at most one token stands
pub one_token : OneToken
one_token before t u bytes x y a b =
    let s = split (token_text t) (token_text u) x y (sym a.spelled ∙ b.spelled) in
    let r = same_kind before t u s.behind_s s.behind_t x y s.rest
    (alike t u (sym (kind-token before t x s.behind_s s.rest a.is s.x_is) ∙ (ap (kind (length before == 0) (in_cdata before)) s.texts ∙ kind-token before u y s.behind_t s.rest b.is s.y_is)))
    a.is b.is s.x_is s.y_is s.texts in
    (r.0, s.x_is ∙ (ap (λ v. encode_utf8_all v ++ s.rest) r.1 ∙ sym s.y_is))

-- two lists of tokens behind the same tokens and from the front of the same bytes agree as far as both go
pub fronts_agree : (limit : ℕ) (before : List Token) (bytes : List ℕ) (ts us : List Token) (x y : List ℕ) → Front limit before bytes ts x → Front limit before bytes us y → Agree ts us
fronts_agree limit before bytes [] us x y f g = inl (us, refl)
fronts_agree limit before bytes (t ∷ ts) [] x y f g = inr (t ∷ ts, refl)
fronts_agree limit before bytes (t ∷ ts) (u ∷ us) x y f g =
    let o = one_token before t u bytes f.0 g.0 f.1 g.1 in
    longer t u ts us o.0 (fronts_agree limit (t ∷ before) f.0 ts us x y f.3 (moved u t g.0 f.0 (sym o.0) (sym o.1) g.3)) where
      moved : (u t : Token) (b a : List ℕ) → u ≡ t → b ≡ a → Front limit (u ∷ before) b us y → Front limit (t ∷ before) a us y
      moved u t b a e f k = subst (λ (v : Token). Front limit (v ∷ before) a us y) e (subst (λ (v : List ℕ). Front limit (u ∷ before) v us y) f k)

      longer : (t u : Token) (ts us : List Token) → t ≡ u → Agree ts us → Agree (t ∷ ts) (u ∷ us)
      longer t u ts us e (inl k) = inl (k.0, both t u us (ts ++ k.0) e k.1) where
        both : (t u : Token) (us vs : List Token) → t ≡ u → us ≡ vs → (u ∷ us) ≡ (t ∷ vs)
        both t u us vs e f = cc
      longer t u ts us e (inr k) = inr (k.0, both t u ts (us ++ k.0) e k.1) where
        both : (t u : Token) (us vs : List Token) → t ≡ u → us ≡ vs → (t ∷ us) ≡ (u ∷ vs)
        both t u us vs e f = cc
