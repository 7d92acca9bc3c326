-- The characters of a token that stands somewhere are XML characters.
use Rattle.std.proofs.Common.{◌≡◌, ℕ, Bool, true, false, ◌==◌, ◌||◌, ◌&&◌, List, [], ◌∷◌, ◌++◌, codes, if◌then◌else◌, refl, arith}
use Rattle.std.specs.List.{list_all, flat_map}
use Rattle.std.specs.Char.{is_digit}
use Rattle.std.proofs.lemmas.Bool.{and_parts, and_from}
use Rattle.std.proofs.lemmas.Bool.Decides.{nat_tests}
use Rattle.markup.specs.Chars.{is_xml_char, is_name_start, is_name_char, is_space}
use Rattle.markup.specs.Name.{Name, Plain, Prefixed, is_name, name_text}
use Rattle.markup.specs.Reference.{Ampersand, Less, Greater, Apostrophe, Quote, Reference, Named, Numbered, is_reference, reference_text}
use Rattle.markup.specs.Attribute.{ValuePiece, Literal, Refers, is_piece, piece_text, Attribute, is_attribute, attribute_text}
use Rattle.markup.specs.Token.{Token, Mark, Declaration, Comment, Instruction, Opener, Closer, TypeDeclaration, Start, End, Refer, LineEnd, Character, Lf, Cr, CrLf, is_comment, is_instruction_text, token_text}
use Rattle.markup.specs.Marks.{in_cdata, stands, stands_in_cdata, stands_outside}
use Rattle.markup.proofs.CharLemmas.{space_xml}
use Rattle.markup.proofs.NameLemmas.{part_all}
use Rattle.markup.proofs.ReferenceLemmas.{numbered_facts}
use Rattle.markup.proofs.AttributeLemmas.{attribute_facts, gap_all, literal_facts}
use Rattle.markup.proofs.TokenLemmas.{close, instruction_facts, start_tag_facts, declaration_all}
use Rattle.markup.proofs.TokenKinds.{never_in, cdata_char_facts, text_char_facts}

-- all characters of a text are XML characters
abbrev pub all_xml : List ℕ → Bool
all_xml cs = list_all is_xml_char cs

pub all_append : (xs ys : List ℕ) → all_xml xs ≡ true → all_xml ys ≡ true → all_xml (xs ++ ys) ≡ true
all_append [] ys h k = k
all_append (c ∷ xs) ys h k = and_from _ _ (and_parts _ _ h).0 (all_append xs ys (and_parts _ _ h).1 k)

all_weaker : (p : ℕ → Bool) (xs : List ℕ) → ((c : ℕ) → p c ≡ true → is_xml_char c ≡ true) → list_all p xs ≡ true → all_xml xs ≡ true
all_weaker p [] f h = refl
all_weaker p (c ∷ xs) f h = and_from _ _ (f c (and_parts _ _ h).0) (all_weaker p xs f (and_parts _ _ h).1)

name_xml : (c : ℕ) → is_name_char c ≡ true → is_xml_char c ≡ true
unfolding is_name_char is_name_start is_xml_char
name_xml c h = grind (arith, nat_tests)

digit_xml : (radix c : ℕ) → (radix == 10 || radix == 16) ≡ true → is_digit c radix ≡ true → is_xml_char c ≡ true
unfolding is_xml_char
digit_xml radix c r h = grind (arith, nat_tests)

quote_xml : (q : ℕ) → (q == 34 || q == 39) ≡ true → is_xml_char q ≡ true
unfolding is_xml_char
quote_xml q h = grind (arith, nat_tests)

-- the fixed texts of tokens
record Words : Type 0 where
  colon : is_xml_char 58 ≡ true
  entities : (all_xml (codes "&amp;") ≡ true) × (all_xml (codes "&lt;") ≡ true) × (all_xml (codes "&gt;") ≡ true) × (all_xml (codes "&apos;") ≡ true) × (all_xml (codes "&quot;") ≡ true)
  numbers : (all_xml (codes "&#") ≡ true) × (all_xml (codes "x") ≡ true) × (all_xml (codes ";") ≡ true)
  equals : all_xml (codes "=") ≡ true
  opens : (all_xml (codes "<") ≡ true) × (all_xml (codes "</") ≡ true) × (all_xml (codes "<?") ≡ true) × (all_xml (codes "<?xml") ≡ true) × (all_xml (codes "<!--") ≡ true)
  closes : (all_xml (codes ">") ≡ true) × (all_xml (codes "/>") ≡ true) × (all_xml (codes "?>") ≡ true) × (all_xml (codes "-->") ≡ true)
  words : (all_xml (codes "<![CDATA[") ≡ true) × (all_xml (codes "]]>") ≡ true) × (all_xml (codes "<!DOCTYPE") ≡ true)
  lines : (all_xml (10 ∷ []) ≡ true) × (all_xml (13 ∷ []) ≡ true) × (all_xml (13 ∷ 10 ∷ []) ≡ true) × (all_xml (0xFEFF ∷ []) ≡ true)

words : Words
unfolding is_xml_char
words = record {
  colon = refl;
  entities = (refl, refl, refl, refl, refl);
  numbers = (refl, refl, refl);
  equals = refl;
  opens = (refl, refl, refl, refl, refl);
  closes = (refl, refl, refl, refl);
  words = (refl, refl, refl);
  lines = (refl, refl, refl, refl);
}

name_all : (n : Name) → is_name n ≡ true → all_xml (name_text n) ≡ true
name_all (Plain l) h = all_weaker is_name_char l name_xml (part_all l h)
name_all (Prefixed p l) h = all_append p (58 ∷ l) (all_weaker is_name_char p name_xml (part_all p (and_parts _ _ h).0)) (and_from _ _ words.colon (all_weaker is_name_char l name_xml (part_all l (and_parts _ _ h).1)))

spaces_all : (xs : List ℕ) → list_all is_space xs ≡ true → all_xml xs ≡ true
spaces_all xs h = all_weaker is_space xs space_xml h

radix_all : (b : Bool) → all_xml (if b then codes "x" else []) ≡ true
radix_all true = words.numbers.1
radix_all false = refl

reference_all : (r : Reference) → is_reference r ≡ true → all_xml (reference_text r) ≡ true
reference_all (Named Ampersand) h = words.entities.0
reference_all (Named Less) h = words.entities.1
reference_all (Named Greater) h = words.entities.2
reference_all (Named Apostrophe) h = words.entities.3
reference_all (Named Quote) h = words.entities.4
reference_all (Numbered radix digits) h =
    let k = numbered_facts radix digits h in
    all_append (codes "&#" ++ (if radix == 16 then codes "x" else []) ++ digits) (codes ";")
    (all_append (codes "&#" ++ (if radix == 16 then codes "x" else [])) digits
    (all_append (codes "&#") (if radix == 16 then codes "x" else []) words.numbers.0 (radix_all (radix == 16)))
    (all_weaker (λ d. is_digit d radix) digits (λ c e. digit_xml radix c k.radix_is e) k.are))
    words.numbers.2

pieces_all : (q : ℕ) (ps : List ValuePiece) → list_all (is_piece q) ps ≡ true → all_xml (flat_map piece_text ps) ≡ true
pieces_all q [] h = refl
pieces_all q (Literal c ∷ ps) h = and_from _ _ (literal_facts q c (and_parts _ _ h).0).xml (pieces_all q ps (and_parts _ _ h).1)
pieces_all q (Refers r ∷ ps) h = all_append (reference_text r) (flat_map piece_text ps) (reference_all r (and_parts _ _ h).0) (pieces_all q ps (and_parts _ _ h).1)

attribute_all : (a : Attribute) → is_attribute a ≡ true → all_xml (attribute_text a) ≡ true
attribute_all a h =
    let f = attribute_facts a h in
    let q = and_from _ _ (quote_xml a.quote f.quote) refl in
    all_append (a.gap ++ name_text a.name ++ a.before ++ codes "=" ++ a.after ++ a.quote ∷ [] ++ flat_map piece_text a.value) (a.quote ∷ [])
    (all_append (a.gap ++ name_text a.name ++ a.before ++ codes "=" ++ a.after ++ a.quote ∷ []) (flat_map piece_text a.value)
    (all_append (a.gap ++ name_text a.name ++ a.before ++ codes "=" ++ a.after) (a.quote ∷ [])
    (all_append (a.gap ++ name_text a.name ++ a.before ++ codes "=") a.after
    (all_append (a.gap ++ name_text a.name ++ a.before) (codes "=")
    (all_append (a.gap ++ name_text a.name) a.before
    (all_append a.gap (name_text a.name) (spaces_all a.gap (gap_all a.gap f.gap)) (name_all a.name f.name))
    (spaces_all a.before f.before))
    words.equals)
    (spaces_all a.after f.after))
    q)
    (pieces_all a.quote a.value f.value))
    q

attributes_all : (fs : List Attribute) → list_all is_attribute fs ≡ true → all_xml (flat_map attribute_text fs) ≡ true
attributes_all [] h = refl
attributes_all (f ∷ fs) h = all_append (attribute_text f) (flat_map attribute_text fs) (attribute_all f (and_parts _ _ h).0) (attributes_all fs (and_parts _ _ h).1)

close_all : (b : Bool) → all_xml (close b) ≡ true
close_all true = words.closes.1
close_all false = words.closes.0

comment_all : (s : List ℕ) → is_comment s ≡ true → all_xml s ≡ true
comment_all [] h = refl
comment_all (c ∷ []) h = and_from _ _ (and_parts _ _ h).0 refl
comment_all (c ∷ d ∷ s) h = and_from _ _ (and_parts _ _ (and_parts _ _ h).0).0 (comment_all (d ∷ s) (and_parts _ _ h).1)

instruction_all : (s : List ℕ) → is_instruction_text s ≡ true → all_xml s ≡ true
instruction_all [] h = refl
instruction_all (c ∷ []) h = and_from _ _ h refl
instruction_all (c ∷ d ∷ s) h = and_from _ _ (and_parts _ _ (and_parts _ _ h).0).0 (instruction_all (d ∷ s) (and_parts _ _ h).1)

char_xml : (cdata : Bool) (c : ℕ) (x : List ℕ) (q : Bool) → (if cdata then stands_in_cdata (Character c) x else stands_outside (Character c) x && q) ≡ true → is_xml_char c ≡ true
char_xml true c x q h = (cdata_char_facts c x h).xml
char_xml false c x q h = (text_char_facts c x (and_parts _ _ h).0).xml

-- all characters of a token
pub token_all : (before : List Token) (t : Token) (x : List ℕ) → stands before t x ≡ true → all_xml (token_text t) ≡ true
token_all before Mark x h = words.lines.3
token_all before (Declaration fs g) x h =
    let a = and_parts _ _ h in
    all_append (codes "<?xml" ++ flat_map attribute_text fs ++ g) (codes "?>")
    (all_append (codes "<?xml" ++ flat_map attribute_text fs) g
    (all_append (codes "<?xml") (flat_map attribute_text fs) words.opens.3 (attributes_all fs (declaration_all fs (and_parts _ _ a.0).1)))
    (spaces_all g a.1))
    words.closes.2
token_all before (Comment s) x h = all_append (codes "<!--" ++ s) (codes "-->") (all_append (codes "<!--") s words.opens.4 (comment_all s (never_in (in_cdata before) _ h).1)) words.closes.3
token_all before (Instruction p s) x h =
    let f = instruction_facts p s (never_in (in_cdata before) _ h).1 in
    all_append (codes "<?" ++ p ++ s) (codes "?>")
    (all_append (codes "<?" ++ p) s (all_append (codes "<?") p words.opens.2 (all_weaker is_name_char p name_xml (part_all p f.target))) (instruction_all s f.text))
    words.closes.2
token_all before Opener x h = words.words.0
token_all before Closer x h = words.words.1
token_all before TypeDeclaration x h = words.words.2
token_all before (Start t) x h =
    let f = start_tag_facts t (never_in (in_cdata before) _ h).1 in
    all_append (codes "<" ++ name_text t.name ++ flat_map attribute_text t.attributes ++ t.gap) (close t.is_empty)
    (all_append (codes "<" ++ name_text t.name ++ flat_map attribute_text t.attributes) t.gap
    (all_append (codes "<" ++ name_text t.name) (flat_map attribute_text t.attributes) (all_append (codes "<") (name_text t.name) words.opens.0 (name_all t.name f.name)) (attributes_all t.attributes f.attributes))
    (spaces_all t.gap f.gap))
    (close_all t.is_empty)
token_all before (End n g) x h =
    let a = and_parts _ _ (never_in (in_cdata before) _ h).1 in
    all_append (codes "</" ++ name_text n ++ g) (codes ">") (all_append (codes "</" ++ name_text n) g (all_append (codes "</") (name_text n) words.opens.1 (name_all n a.0)) (spaces_all g a.1)) words.closes.0
token_all before (Refer r) x h = reference_all r (never_in (in_cdata before) _ h).1
token_all before (LineEnd Lf) x h = words.lines.0
token_all before (LineEnd Cr) x h = words.lines.1
token_all before (LineEnd CrLf) x h = words.lines.2
token_all before (Character c) x h = and_from _ _ (char_xml (in_cdata before) c x _ h) refl

pub last_xml : (cs more : List ℕ) (c : ℕ) → all_xml ((cs ++ c ∷ []) ++ more) ≡ true → is_xml_char c ≡ true
last_xml [] more c h = (and_parts _ _ h).0
last_xml (b ∷ cs) more c h = last_xml cs more c (and_parts _ _ h).1
