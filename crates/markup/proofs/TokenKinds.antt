-- The kind of a token, as the characters at its front tell it.
use Rattle.std.proofs.Common.{◌≡◌, ℕ, Bool, true, false, not, ◌||◌, ◌&&◌, ◌==◌, List, [], ◌∷◌, ◌++◌, length, if◌then◌else◌, refl, sym, ◌∙◌, ap, subst, append_assoc, arith, inl, inr}
use Rattle.std.specs.List.{list_all, flat_map}
use Rattle.std.specs.Str.{encode_utf8_all}
use Rattle.std.specs.Char.{encode_utf8}
use Rattle.std.proofs.lemmas.Bool.{and_parts, and_from, or_from, not-true, both_ways, eqb-true, cases_Bool}
use Rattle.markup.specs.Chars.{is_xml_char, is_space, is_name_char}
use Rattle.markup.specs.Name.{Name, name_text}
use Rattle.markup.specs.Reference.{Reference, Named, Numbered}
use Rattle.markup.specs.Attribute.{Attribute, attribute_text}
use Rattle.markup.specs.Declaration.{is_declaration}
use Rattle.markup.specs.Token.{Token, Mark, Declaration, Comment, Instruction, Opener, Closer, TypeDeclaration, Start, End, Refer, LineEnd, Character, Line, Lf, Cr, CrLf, StartTag, is_start_tag, is_instruction, is_xml_word, token_text}
use Rattle.markup.specs.Marks.{in_cdata, is_first, shows_no_closer, stands, stands_in_cdata, stands_outside}
use Rattle.markup.proofs.CharLemmas.{xml_in_name, start_not}
use Rattle.markup.proofs.NameLemmas.{name_begins, BeginsName, part_all, stops_name}
use Rattle.markup.proofs.AttributeLemmas.{attributes_end_name}
use Rattle.markup.proofs.TokenLemmas.{instruction_facts, start_tag_facts, start_tag_then, declaration_all}
use Rattle.markup.proofs.Spans.{front_of, front_of-append}

-- the number of a token's kind
abbrev pub number_of : Token → ℕ
number_of Mark = 0
number_of (Declaration fields gap) = 1
number_of (Comment text) = 2
number_of (Instruction target text) = 3
number_of Opener = 4
number_of Closer = 5
number_of TypeDeclaration = 6
number_of (Start tag) = 7
number_of (End name gap) = 8
number_of (Refer reference) = 9
number_of (LineEnd line) = 10
number_of (Character c) = 11

-- behind `<!`
abbrev behind_bang : List ℕ → ℕ
behind_bang [] = 6
behind_bang (c ∷ w) = if c == 45 then 2 else (if c == 91 then 4 else 6)

-- behind `<`
abbrev behind_less : List ℕ → ℕ
behind_less [] = 11
behind_less (c ∷ w) = if c == 33 then behind_bang w else (if c == 63 then (if is_xml_word (front_of is_name_char w) then 1 else 3) else (if c == 47 then 8 else 7))

-- behind `]`
abbrev begins_close : List ℕ → Bool
begins_close [] = false
begins_close (d ∷ []) = false
begins_close (d ∷ e ∷ w) = d == 93 && e == 62

-- the number of the kind of the token at the front of the characters, where it is the first, and in a CDATA section or not
abbrev pub kind : Bool → Bool → List ℕ → ℕ
kind first cdata [] = 11
kind first cdata (c ∷ w) = if c == 10 || c == 13 then 10 else (if cdata then (if c == 93 && begins_close w then 5 else 11) else (if c == 0xFEFF && first then 0 else (if c == 60 then behind_less w else (if c == 38 then 9 else 11))))

-- the two tests by which a token stands in a CDATA section or elsewhere
pub never_in : (b q : Bool) → (if b then false else q) ≡ true → (b ≡ false) × (q ≡ true)
never_in true q h = absurd (both_ways false refl h)
never_in false q h = (refl, h)

pub only_in : (b : Bool) → (if b then true else false) ≡ true → b ≡ true
only_in true h = refl
only_in false h = h

pub in_both : (b q : Bool) → (if b then q else q) ≡ true → q ≡ true
in_both true q h = h
in_both false q h = h

pub first_outside : (before : List Token) → is_first before ≡ true → in_cdata before ≡ false
first_outside [] h = refl
first_outside (Mark ∷ []) h = refl
first_outside (t ∷ before) h = first_two t before h where
  first_two : (t : Token) (before : List Token) → is_first (t ∷ before) ≡ true → in_cdata (t ∷ before) ≡ false
  first_two Mark [] h = refl
  first_two _ _ h = absurd (both_ways false refl h)

declaration_kind : (first : Bool) (fs : List Attribute) (g w : List ℕ) → is_declaration fs ≡ true → list_all is_space g ≡ true → kind first false (token_text (Declaration fs g) ++ w) ≡ 1
declaration_kind first fs g w a b = ap (λ v. if is_xml_word v then 1 else 3) (ap (λ v. front_of is_name_char (120 ∷ 109 ∷ 108 ∷ v)) (regroup (flat_map attribute_text fs) g w)
    ∙ front_of-append is_name_char (120 ∷ 109 ∷ 108 ∷ []) _ (and_from _ _ xml_in_name.0 (and_from _ _ xml_in_name.1 (and_from _ _ xml_in_name.2 refl)))
    (stops_name _ (attributes_end_name fs g (63 ∷ 62 ∷ w) (declaration_all fs a) b refl))) where
      regroup : (a g w : List ℕ) → (a ++ g ++ 63 ∷ 62 ∷ []) ++ w ≡ a ++ (g ++ 63 ∷ 62 ∷ w)
      regroup a g w = simp append_assoc

instruction_kind : (first : Bool) (p s w : List ℕ) → is_instruction p s ≡ true → kind first false (token_text (Instruction p s) ++ w) ≡ 3
instruction_kind first p s w a =
    let f = instruction_facts p s a in
    ap (λ v. if is_xml_word v then 1 else 3) (ap (front_of is_name_char) (regroup p s w) ∙ front_of-append is_name_char p _ (part_all p f.target) (f.ends (62 ∷ w)))
    ∙ ap (λ (b : Bool). if b then 1 else 3) f.no_xml where
      regroup : (p s w : List ℕ) → (p ++ s ++ 63 ∷ 62 ∷ []) ++ w ≡ p ++ (s ++ 63 ∷ 62 ∷ w)
      regroup p s w = simp append_assoc

start_kind : (first : Bool) (t : StartTag) (w : List ℕ) → is_start_tag t ≡ true → kind first false (token_text (Start t) ++ w) ≡ 7
start_kind first t w a = ap (kind first false) (start_tag_then t w) ∙ begun (name_text t.name) _ (name_begins t.name (start_tag_facts t a).name) where
  begun : (text v : List ℕ) → BeginsName text → behind_less (text ++ v) ≡ 7
  begun text v k = ap (λ u. behind_less (u ++ v)) k.text_is ∙ begun_char k.char (k.more ++ v) (start_not k.char k.starts) where
    begun_char : (c : ℕ) (v : List ℕ) → ((c == 33) ≡ false) × ((c == 47) ≡ false) × ((c == 62) ≡ false) × ((c == 63) ≡ false) → behind_less (c ∷ v) ≡ 7
    begun_char c v k = rw (k.0, k.3, k.1) refl

refer_kind : (first : Bool) (r : Reference) (w : List ℕ) → kind first false (token_text (Refer r) ++ w) ≡ 9
refer_kind first (Named e) w = refl
refer_kind first (Numbered radix digits) w = refl

line_kind : (first cdata : Bool) (l : Line) (w : List ℕ) → kind first cdata (token_text (LineEnd l) ++ w) ≡ 10
line_kind first cdata Lf w = refl
line_kind first cdata Cr w = refl
line_kind first cdata CrLf w = refl

closes_here : (w z : List ℕ) → shows_no_closer (encode_utf8_all (93 ∷ 62 ∷ w) ++ z) ≡ true → ⊥
unfolding encode_utf8
closes_here w z h = both_ways false refl h

-- the bytes behind a `]` show no less than the characters do
no_close : (w x z : List ℕ) → shows_no_closer x ≡ true → x ≡ encode_utf8_all w ++ z → begins_close w ≡ false
no_close [] x z h e = refl
no_close (d ∷ []) x z h e = refl
no_close (d ∷ f ∷ w) x z h e = elim (cases_Bool (d == 93 && f == 62)) as (λ _. (d == 93 && f == 62) ≡ false) [
  | inl k ↦ absurd (closed_by d f w x z h e (eqb-true d 93 (and_parts _ _ k).0) (eqb-true f 62 (and_parts _ _ k).1))
  | inr k ↦ k
] where
  closed_by : (d f : ℕ) (w x z : List ℕ) → shows_no_closer x ≡ true → x ≡ encode_utf8_all (d ∷ f ∷ w) ++ z → d ≡ 93 → f ≡ 62 → ⊥
  closed_by d f w x z h e k l = closes_here w z (subst (λ v. shows_no_closer v ≡ true) (e ∙ ap (λ v. encode_utf8_all v ++ z) (same d f w k l)) h) where
    same : (d f : ℕ) (w : List ℕ) → d ≡ 93 → f ≡ 62 → (d ∷ f ∷ w) ≡ (93 ∷ 62 ∷ w)
    same d f w k l = cc

-- the facts on a character of a CDATA section, and of one elsewhere
pub record IsCdataChar (c : ℕ) (rest : List ℕ) : Type 0 where
  pub xml : is_xml_char c ≡ true
  pub no_line : (c == 10 || c == 13) ≡ false
  pub no_closer : (not (c == 93) || shows_no_closer rest) ≡ true

pub cdata_char_facts : (c : ℕ) (rest : List ℕ) → stands_in_cdata (Character c) rest ≡ true → IsCdataChar c rest
cdata_char_facts c rest h =
    let k = and_parts _ _ h in let l = and_parts _ _ k.0 in let m = and_parts _ _ l.0 in
    record { xml = m.0; no_line = or_from _ _ (not-true _ m.1) (not-true _ l.1); no_closer = k.1 }

pub record IsTextChar (c : ℕ) : Type 0 where
  pub xml : is_xml_char c ≡ true
  pub no_line : (c == 10 || c == 13) ≡ false
  pub no_less : (c == 60) ≡ false
  pub no_ampersand : (c == 38) ≡ false

pub text_char_facts : (c : ℕ) (rest : List ℕ) → stands_outside (Character c) rest ≡ true → IsTextChar c
text_char_facts c rest h =
    let k = and_parts _ _ h in let l = and_parts _ _ k.0 in let m = and_parts _ _ l.0 in let n = and_parts _ _ m.0 in
    record { xml = n.0; no_line = or_from _ _ (not-true _ n.1) (not-true _ m.1); no_less = not-true _ l.1; no_ampersand = not-true _ k.1 }

cdata_char_kind : (first : Bool) (c : ℕ) (x w z : List ℕ) → IsCdataChar c x → x ≡ encode_utf8_all w ++ z → kind first true (c ∷ w) ≡ 11
cdata_char_kind first c x w z f e = rw f.no_line (bracket (c == 93) (begins_close w) (λ k. no_close w x z k e) f.no_closer) where
  bracket : (b k : Bool) → (shows_no_closer x ≡ true → k ≡ false) → (not b || shows_no_closer x) ≡ true → ◌≡◌ {A = ℕ} (if b && k then 5 else 11) 11
  bracket true k h s = rw (h s) refl
  bracket false k h s = refl

text_char_kind : (first : Bool) (c : ℕ) (w : List ℕ) → IsTextChar c → not (first && c == 0xFEFF) ≡ true → kind first false (c ∷ w) ≡ 11
text_char_kind first c w f h = rw (f.no_line, f.no_less, f.no_ampersand) (marked first (c == 0xFEFF) h) where
  marked : (a b : Bool) → not (a && b) ≡ true → ◌≡◌ {A = ℕ} (if b && a then 0 else 11) 11
  marked true true h = absurd (both_ways false refl h)
  marked true false h = refl
  marked false true h = refl
  marked false false h = refl

at_false : (P : Bool → Type 0) (b : Bool) → b ≡ false → P false → P b
at_false P b e p = subst P (sym e) p

at_true : (P : Bool → Type 0) (b : Bool) → b ≡ true → P true → P b
at_true P b e p = subst P (sym e) p

char_kind : (first cdata : Bool) (c : ℕ) (x w z : List ℕ) → (if cdata then stands_in_cdata (Character c) x else stands_outside (Character c) x && not (first && c == 0xFEFF)) ≡ true → x ≡ encode_utf8_all w ++ z → kind first cdata (c ∷ w) ≡ 11
char_kind first true c x w z h e = cdata_char_kind first c x w z (cdata_char_facts c x h) e
char_kind first false c x w z h e = text_char_kind first c w (text_char_facts c x (and_parts _ _ h).0) (and_parts _ _ h).1

-- the characters of a token, with those behind it, tell its kind
pub kind-token : (before : List Token) (t : Token) (x w z : List ℕ) → stands before t x ≡ true → x ≡ encode_utf8_all w ++ z → kind (length before == 0) (in_cdata before) (token_text t ++ w) ≡ number_of t
kind-token [] Mark x w z h e = refl
kind-token (b ∷ before) Mark x w z h e = absurd (nothing_first b before h) where
  nothing_first : (b : Token) (before : List Token) → (length (b ∷ before) == 0) ≡ true → ⊥
  nothing_first b before h = omega (arith, eqb-true (length (b ∷ before)) 0 h)
kind-token before (Declaration fs g) x w z h e =
    let k = and_parts _ _ h in let l = and_parts _ _ k.0 in
    at_false (λ b. kind (length before == 0) b (token_text (Declaration fs g) ++ w) ≡ 1) (in_cdata before) (first_outside before l.0) (declaration_kind (length before == 0) fs g w l.1 k.1)
kind-token before (Comment text) x w z h e = at_false (λ b. kind (length before == 0) b (token_text (Comment text) ++ w) ≡ 2) (in_cdata before) (never_in _ _ h).0 refl
kind-token before (Instruction p s) x w z h e = at_false (λ b. kind (length before == 0) b (token_text (Instruction p s) ++ w) ≡ 3) (in_cdata before) (never_in _ _ h).0 (instruction_kind (length before == 0) p s w (never_in _ _ h).1)
kind-token before Opener x w z h e = at_false (λ b. kind (length before == 0) b (token_text Opener ++ w) ≡ 4) (in_cdata before) (never_in _ _ h).0 refl
kind-token before Closer x w z h e = at_true (λ b. kind (length before == 0) b (token_text Closer ++ w) ≡ 5) (in_cdata before) (only_in _ h) refl
kind-token before TypeDeclaration x w z h e = at_false (λ b. kind (length before == 0) b (token_text TypeDeclaration ++ w) ≡ 6) (in_cdata before) (never_in _ _ h).0 refl
kind-token before (Start t) x w z h e = at_false (λ b. kind (length before == 0) b (token_text (Start t) ++ w) ≡ 7) (in_cdata before) (never_in _ _ h).0 (start_kind (length before == 0) t w (never_in _ _ h).1)
kind-token before (End n g) x w z h e = at_false (λ b. kind (length before == 0) b (token_text (End n g) ++ w) ≡ 8) (in_cdata before) (never_in _ _ h).0 refl
kind-token before (Refer r) x w z h e = at_false (λ b. kind (length before == 0) b (token_text (Refer r) ++ w) ≡ 9) (in_cdata before) (never_in _ _ h).0 (refer_kind (length before == 0) r w)
kind-token before (LineEnd l) x w z h e = line_kind (length before == 0) (in_cdata before) l w
kind-token before (Character c) x w z h e = char_kind (length before == 0) (in_cdata before) c x w z h e

-- two tokens of one kind
pub data Alike : Token → Token → Type 0 where
  marks : Alike Mark Mark
  declarations : (fs gs : List Attribute) (g h : List ℕ) → Alike (Declaration fs g) (Declaration gs h)
  comments : (s t : List ℕ) → Alike (Comment s) (Comment t)
  instructions : (p s q t : List ℕ) → Alike (Instruction p s) (Instruction q t)
  openers : Alike Opener Opener
  closers : Alike Closer Closer
  type_declarations : Alike TypeDeclaration TypeDeclaration
  starts : (s t : StartTag) → Alike (Start s) (Start t)
  ends : (m n : Name) (g h : List ℕ) → Alike (End m g) (End n h)
  references : (r s : Reference) → Alike (Refer r) (Refer s)
  line_ends : (l m : Line) → Alike (LineEnd l) (LineEnd m)
  characters : (c d : ℕ) → Alike (Character c) (Character d)

pub alike : (t u : Token) → number_of t ≡ number_of u → Alike t u
alike Mark Mark e = marks
alike (Declaration fs g) (Declaration gs h) e = declarations fs gs g h
alike (Comment s) (Comment t) e = comments s t
alike (Instruction p s) (Instruction q t) e = instructions p s q t
alike Opener Opener e = openers
alike Closer Closer e = closers
alike TypeDeclaration TypeDeclaration e = type_declarations
alike (Start s) (Start t) e = starts s t
alike (End m g) (End n h) e = ends m n g h
alike (Refer r) (Refer s) e = references r s
alike (LineEnd l) (LineEnd m) e = line_ends l m
alike (Character c) (Character d) e = characters c d
alike _ _ e = absurd (omega arith)

-- a `]` that stands in a CDATA section begins no `]]>`
pub stands_bracket : (before : List Token) (c : ℕ) (x : List ℕ) → in_cdata before ≡ true → (c == 93) ≡ true → stands before (Character c) x ≡ true → shows_no_closer x ≡ true
stands_bracket before c x h k a = by (in_cdata before) h a where
  by : (b : Bool) → b ≡ true → (if b then stands_in_cdata (Character c) x else stands_outside (Character c) x && not (length before == 0 && c == 0xFEFF)) ≡ true → shows_no_closer x ≡ true
  by true h a = other (c == 93) k (cdata_char_facts c x a).no_closer where
    other : (b : Bool) → b ≡ true → (not b || shows_no_closer x) ≡ true → shows_no_closer x ≡ true
    other true h k = k
    other false h k = absurd (both_ways false refl h)
  by false h a = absurd (both_ways false refl h)
