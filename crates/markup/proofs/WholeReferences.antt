-- A whole reference at the front of a piece, read a byte at a time, is the token of its place.
use Rattle.std.proofs.Common.{◌≡◌, ℕ, Bool, true, false, ◌==◌, ◌||◌, ◌<◌, List, [], ◌∷◌, ◌++◌, length, take, reverse, codes, None, Some, refl, sym, ◌∙◌, ap, subst, append-nil, length-append, arith}
use Rattle.std.specs.Bool.{if◌then◌else◌}
use Rattle.std.specs.Char.{is_digit}
use Rattle.std.specs.List.{list_all}
use Rattle.std.specs.Str.{encode_utf8_all}
use Rattle.std.proofs.lemmas.Bool.{and_parts, and_from}
use Rattle.std.proofs.lemmas.Bool.Decides.{nat_tests}
use Rattle.std.proofs.lemmas.List.{length-take-le}
use Rattle.std.proofs.lemmas.Str.{encode_ascii}
use Rattle.std.proofs.Math.Seq.{take-append_seam}
use Rattle.lexical_core.specs.Tree.{Char}
use Rattle.lexical_core.specs.declared.rule.Rule.TheVariants.{TextOutside}
use Rattle.markup.specs.Ascii.{is_ascii}
use Rattle.markup.specs.Reference.{Ampersand, Less, Greater, Apostrophe, Quote, Reference, Named, Numbered, is_reference, referred_character, reference_text}
use Rattle.markup.specs.References.{IsReferenceAt, MayReferUnder}
use Rattle.markup.specs.Token.{Token, Refer, token_bytes}
use Rattle.markup.specs.Marks.{in_cdata}
use Rattle.markup.specs.Events.{Placed, open_tags}
use Rattle.markup.specs.Faults.{is_outside}
use Rattle.markup.specs.Scopes.{placed_at}
use Rattle.markup.specs.inner.Contexts.{IsContext, HasOpen, without_brackets}
use Rattle.markup.specs.inner.Tokenizers.{is_between, is_in_text}
use Rattle.markup.specs.Reading.{HasTakenUnder, HasToldUnder}
use Rattle.markup.specs.inner.ReaderSteps.{passed_over}
use Rattle.markup.specs.declared.reader.Reader.{Reader}
use Rattle.markup.proofs.PlainTagLemmas.{not_first, text_behind}
use Rattle.markup.proofs.PlainLemmas.{is_fresh, text_place, text_between}
use Rattle.markup.proofs.ReaderLemmas.{told_so_far}
use Rattle.markup.proofs.ReferenceLemmas.{body, reference_then, IsNumbered, numbered_facts}
use Rattle.markup.proofs.Spans.{heads, tails}
use Rattle.markup.proofs.TokenRuleLemmas.{in_cdata-open}
use Rattle.markup.proofs.WholeTokens.{IsNext, takes_next}

-- ---- references are written in ASCII

ascii_below : (c : ℕ) → is_ascii c ≡ true → c < 128
ascii_below c h = grind (arith, nat_tests)

ascii_all : (cs : List ℕ) → list_all is_ascii cs ≡ true → encode_utf8_all cs ≡ cs
ascii_all [] h = refl
ascii_all (c ∷ cs) h = let a = and_parts _ _ h in
    ap (λ v. v ++ encode_utf8_all cs) (encode_ascii c (ascii_below c a.0)) ∙ ap (λ v. c ∷ v) (ascii_all cs a.1)

digit_ascii : (radix d : ℕ) → (radix == 10 || radix == 16) ≡ true → is_digit d radix ≡ true → is_ascii d ≡ true
digit_ascii radix d r h = grind (arith, nat_tests)

digits_ascii : (radix : ℕ) (ds : List ℕ) → (radix == 10 || radix == 16) ≡ true → list_all (λ d. is_digit d radix) ds ≡ true → list_all is_ascii ds ≡ true
digits_ascii radix [] r h = refl
digits_ascii radix (d ∷ ds) r h = let a = and_parts _ _ h in and_from _ _ (digit_ascii radix d r a.0) (digits_ascii radix ds r a.1)

body_ascii : (r : Reference) → is_reference r ≡ true → list_all is_ascii (body r) ≡ true
body_ascii (Named Ampersand) h = refl
body_ascii (Named Less) h = refl
body_ascii (Named Greater) h = refl
body_ascii (Named Apostrophe) h = refl
body_ascii (Named Quote) h = refl
body_ascii (Numbered radix digits) h = numbered_ascii radix digits (numbered_facts radix digits h) where
  numbered_ascii : (radix : ℕ) (digits : List ℕ) → IsNumbered radix digits → list_all is_ascii (body (Numbered radix digits)) ≡ true
  numbered_ascii radix digits k = marked (radix == 16) digits (digits_ascii radix digits k.radix_is k.are) where
    marked : (b : Bool) (digits : List ℕ) → list_all is_ascii digits ≡ true → list_all is_ascii (codes "#" ++ (if b then codes "x" else []) ++ digits) ≡ true
    marked true digits h = h
    marked false digits h = h

ends_ascii : (cs : List ℕ) → list_all is_ascii cs ≡ true → list_all is_ascii (cs ++ 59 ∷ []) ≡ true
ends_ascii [] h = refl
ends_ascii (c ∷ cs) h = let a = and_parts _ _ h in and_from _ _ a.0 (ends_ascii cs a.1)

pub text_is : (r : Reference) → reference_text r ≡ 38 ∷ (body r ++ 59 ∷ [])
text_is r = sym (append-nil (reference_text r)) ∙ reference_then r []

text_ascii : (r : Reference) → is_reference r ≡ true → encode_utf8_all (reference_text r) ≡ reference_text r
text_ascii r h = ap encode_utf8_all (text_is r) ∙ (ascii_all (38 ∷ (body r ++ 59 ∷ [])) (ends_ascii (body r) (body_ascii r h)) ∙ sym (text_is r))

-- ---- a word at the front of a piece

pub letter_more : (piece word left letters behind others : List ℕ) (byte letter : ℕ) → ((rest : List ℕ) → left ≡ letters ++ rest → piece ≡ word ++ rest) → letters ≡ letter ∷ others → left ≡ byte ∷ behind → byte ≡ letter → (rest : List ℕ) → behind ≡ others ++ rest → piece ≡ word ++ rest
letter_more piece word left letters behind others byte letter h e f g rest k = h rest (f ∙ (ap (λ v. byte ∷ v) k ∙ (ap (λ v. v ∷ (others ++ rest)) g ∙ ap (λ v. v ++ rest) (sym e))))

pub letter_back : (piece word left letters behind others : List ℕ) (byte letter : ℕ) → ((rest : List ℕ) → piece ≡ word ++ rest → left ≡ letters ++ rest) → letters ≡ letter ∷ others → left ≡ byte ∷ behind → (rest : List ℕ) → piece ≡ word ++ rest → (byte ≡ letter) × (behind ≡ others ++ rest)
letter_back piece word left letters behind others byte letter h e f rest k =
    let g : byte ∷ behind ≡ letter ∷ (others ++ rest) = sym f ∙ (h rest k ∙ ap (λ v. v ++ rest) e) in
    (heads byte letter behind (others ++ rest) g, tails byte letter behind (others ++ rest) g)

pub letter_gone : (piece word left letters others : List ℕ) (letter : ℕ) → ((rest : List ℕ) → piece ≡ word ++ rest → left ≡ letters ++ rest) → letters ≡ letter ∷ others → length left ≡ 0 → (rest : List ℕ) → piece ≡ word ++ rest → ⊥
letter_gone piece word left letters others letter h e n rest k = gone left n (h rest k ∙ ap (λ v. v ++ rest) e) where
  gone : (left : List ℕ) → length left ≡ 0 → left ≡ letter ∷ (others ++ rest) → ⊥
  gone left n e = omega (arith, n, ap length e)

pub letters_end : (piece word left letters : List ℕ) → ((rest : List ℕ) → left ≡ letters ++ rest → piece ≡ word ++ rest) → length letters ≡ 0 → (rest : List ℕ) × (piece ≡ word ++ rest)
letters_end piece word left [] h e = (left, h left refl)
letters_end piece word left (c ∷ letters) h e = absurd (omega arith)

-- a reference that stands there
pub entity_here : (r : Reference) (piece : List ℕ) → ((rest : List ℕ) × (piece ≡ reference_text r ++ rest)) → is_reference r ≡ true → IsReferenceAt piece (referred_character r) (length (reference_text r))
entity_here r piece (rest, e) h = record {
  reference = r;
  is = h;
  char_is = refl;
  spelled = ap (take (length (reference_text r))) e ∙ (take-append_seam (reference_text r) rest ∙ sym (text_ascii r h));
  within = omega (arith, ap length e, length-append (reference_text r) rest);
}

-- ---- where a reference stands it is read

-- the piece begins with the reference
abbrev pub Begins : List ℕ → Reference → List ℕ → Type 0
Begins piece r more = piece ≡ encode_utf8_all (reference_text r) ++ more

pub begins_so : (piece : List ℕ) (r : Reference) (more : List ℕ) → is_reference r ≡ true → Begins piece r more → piece ≡ reference_text r ++ more
begins_so piece r more h e = e ∙ ap (λ v. v ++ more) (text_ascii r h)

-- ---- the token in its place

module _ {limit : ℕ} (r : Reader) (bytes piece : List ℕ) (told : List Placed) (c n : ℕ) (h : HasTakenUnder limit r bytes told) (text : is_in_text r.tokenizer ≡ true) (open_here : HasOpen r.context) (a : IsReferenceAt piece c n) where
  abbrev before : List Token
  before = reverse h.0

  between : is_between r.tokenizer.scan ≡ true
  between = text_between r.tokenizer.scan (and_parts _ _ text).0

  inside : is_outside before ≡ false
  inside = open_here (open_tags before) h.1.context.scope

  no_cdata : in_cdata before ≡ false
  no_cdata = in_cdata-open r.tokenizer before h.1.reads.bytes h.1.reads.opens ∙ text_place r.tokenizer.scan r.tokenizer.position (and_parts _ _ text).0 (is_fresh r.tokenizer between (and_parts _ _ text).1 before h.1.reads.bytes h.1.reads.opens).scan_here

  abbrev token : Token
  token = Refer a.reference

  next : IsNext limit before token
  next = record {
    is = λ after. ap (λ (b : Bool). if b then false else is_reference a.reference) no_cdata ∙ a.is;
    short = refl;
    clean = ap (λ (b : Bool). if b then Some TextOutside else None) inside;
    stays = λ p. refl;
  }

  context_is : IsContext (without_brackets r.context) (token ∷ before)
  context_is = record { scope = h.1.context.scope; root = h.1.context.root; brackets_are = refl }

  size : n ≡ length (token_bytes token)
  size = sym (length-take-le n piece a.within) ∙ ap length a.spelled

  taken : HasTakenUnder limit (passed_over r n) (bytes ++ token_bytes token) (told ++ placed_at (length bytes) (Char (referred_character a.reference) ∷ []))
  taken = takes_next r bytes told h between (and_parts _ _ text).1 token n (without_brackets r.context) next size context_is

  pub takes_reference : HasToldUnder limit (passed_over r n) (bytes ++ take n piece) (told ++ placed_at (length bytes) (Char c ∷ []))
  takes_reference = told_so_far (passed_over r n) (bytes ++ take n piece) (told ++ placed_at (length bytes) (Char c ∷ []))
      (subst (λ v. HasTakenUnder limit (passed_over r n) (bytes ++ v) (told ++ placed_at (length bytes) (Char c ∷ []))) (sym a.spelled)
      (subst (λ v. HasTakenUnder limit (passed_over r n) (bytes ++ token_bytes token) (told ++ placed_at (length bytes) (Char v ∷ []))) (sym a.char_is) taken))

-- it has bytes
pub some_bytes : (piece : List ℕ) (c n : ℕ) → IsReferenceAt piece c n → 0 < n
some_bytes piece c n a = omega (arith, length-take-le n piece a.within, ap length (a.spelled ∙ (text_ascii a.reference a.is ∙ text_is a.reference)))

-- ---- a reader behind which one may come is where one begins

pub text_here : {limit : ℕ} (r : Reader) (bytes : List ℕ) (told : List Placed) → MayReferUnder limit r bytes told → is_in_text r.tokenizer ≡ true
text_here r bytes told m = text_behind r bytes told m.before (not_first (reverse m.before.tokens) m.inside)
