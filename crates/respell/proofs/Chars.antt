-- A character of an element's content, as the token that spells it.
use Rattle.std.proofs.Common.{◌≡◌, ℕ, Bool, true, false, ◌==◌, inl, inr, List, [], ◌∷◌, refl, subst, ◌∙◌, Option, None, arith, append-nil, if◌then◌else◌}
use Rattle.std.specs.Prelude.{codes, encode_utf8}
use Rattle.std.proofs.lemmas.Bool.{cases_Bool}
use Rattle.std.proofs.lemmas.Bool.Decides.{nat_tests}
use Rattle.lexical_core.specs.Tree.{Char}
use Rattle.lexical_core.specs.Escapes.{escape_of}
use Rattle.lexical_core.specs.declared.rule.Rule.{Rule}
use Rattle.markup.specs.Chars.{is_xml_char, is_space}
use Rattle.markup.specs.Reference.{Named, Numbered, Ampersand, Less, Greater}
use Rattle.markup.specs.Token.{Token, Refer, LineEnd, Character, Lf, token_bytes}
use Rattle.markup.specs.Marks.{stands, in_cdata, is_short}
use Rattle.markup.specs.Events.{items_of, open_tags}
use Rattle.markup.specs.Faults.{rule_of, is_outside}
use Rattle.markup.proofs.CharacterRuns.{some_before}

-- the token of a character, inside an element
pub record HasToken (before : List Token) (c : ℕ) : Type 0 where
  pub token : Token
  pub bytes : token_bytes token ≡ escape_of false c
  pub stand : (rest : List ℕ) → stands before token rest ≡ true
  pub rule : rule_of before token ≡ None
  pub items : items_of before token ≡ Char c ∷ []
  pub tags : open_tags (token ∷ before) ≡ open_tags before
  pub cdata : in_cdata (token ∷ before) ≡ in_cdata before
  pub short : (limit : ℕ) → is_short limit token ≡ true

-- elements are open, and no CDATA section is
pub record IsInside (before : List Token) : Type 0 where
  pub cdata : in_cdata before ≡ false
  pub open_some : is_outside before ≡ false

choose : (before : List Token) (c n : ℕ) → HasToken before n → ((c == n) ≡ false → HasToken before c) → HasToken before c
choose before c n s f = elim (cases_Bool (c == n)) [
  | inl h ↦ subst (HasToken before) (same c n h) s
  | inr h ↦ f h
]
  where
    same : (c n : ℕ) → (c == n) ≡ true → n ≡ c
    same c n h = grind (arith, nat_tests, h)

token_38 : (before : List Token) → IsInside before → HasToken before 38
unfolding lib.Utf8.encode
token_38 before i = record { token = Refer (Named Ampersand); bytes = refl; stand = λ rest. rw i.cdata refl; rule = rw i.open_some refl; items = refl; tags = refl; cdata = refl; short = λ limit. refl }

token_60 : (before : List Token) → IsInside before → HasToken before 60
unfolding lib.Utf8.encode
token_60 before i = record { token = Refer (Named Less); bytes = refl; stand = λ rest. rw i.cdata refl; rule = rw i.open_some refl; items = refl; tags = refl; cdata = refl; short = λ limit. refl }

token_62 : (before : List Token) → IsInside before → HasToken before 62
unfolding lib.Utf8.encode
token_62 before i = record { token = Refer (Named Greater); bytes = refl; stand = λ rest. rw i.cdata refl; rule = rw i.open_some refl; items = refl; tags = refl; cdata = refl; short = λ limit. refl }

token_13 : (before : List Token) → IsInside before → HasToken before 13
unfolding lib.Utf8.encode is_xml_char
token_13 before i = record { token = Refer (Numbered 10 (codes "13")); bytes = refl; stand = λ rest. rw i.cdata refl; rule = rw i.open_some refl; items = refl; tags = refl; cdata = refl; short = λ limit. refl }

token_10 : (before : List Token) → IsInside before → HasToken before 10
unfolding lib.Utf8.encode
token_10 before i = record { token = LineEnd Lf; bytes = refl; stand = λ rest. rw i.cdata refl; rule = refl; items = refl; tags = refl; cdata = refl; short = λ limit. refl }

own_rule : (before : List Token) (c : ℕ) → IsInside before → (c == 62) ≡ false → rule_of before (Character c) ≡ None
own_rule before c i n62 = rw (n62, i.open_some) (either (is_space c) None)
  where
    either : (b : Bool) (n : Option Rule) → (if b then n else n) ≡ n
    either true n = refl
    either false n = refl

own_token : (before : List Token) (c : ℕ) → IsInside before → is_xml_char c ≡ true → (c == 38) ≡ false → (c == 60) ≡ false → (c == 62) ≡ false → (c == 13) ≡ false → (c == 10) ≡ false → HasToken before c
own_token before c i x n38 n60 n62 n13 n10 = record {
  token = Character c;
  bytes = append-nil (encode_utf8 c) ∙ rw (n38, n60, n62, n13) refl;
  stand = λ rest. rw (i.cdata, x, n10, n13, n60, n38, some_before before i.open_some) refl;
  rule = own_rule before c i n62;
  items = refl;
  tags = refl;
  cdata = refl;
  short = λ limit. refl;
}

pub token_of : (before : List Token) (c : ℕ) → IsInside before → is_xml_char c ≡ true → HasToken before c
token_of before c i x =
    choose before c 38 (token_38 before i) (λ n38. choose before c 60 (token_60 before i) (λ n60. choose before c 62 (token_62 before i) (λ n62.
    choose before c 13 (token_13 before i) (λ n13. choose before c 10 (token_10 before i) (λ n10. own_token before c i x n38 n60 n62 n13 n10)))))
