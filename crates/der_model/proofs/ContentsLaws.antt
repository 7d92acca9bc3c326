-- Contents octets are at most one thing under a simple type, and each leaf that fits has just one.
use Rattle.std.proofs.Common.{◌≡◌, ◌≢◌, ℕ, Bool, true, false, List, [], ◌∷◌, get_or, Option, Some, None, refl, sym, ap, ◌∙◌, subst, arith, inl, inr}
use Rattle.std.specs.Prelude.{Result, Ok, Err}
use Rattle.base64.specs.GeneralPurpose.{IsBytes}
use Rattle.lexical_core.specs.Characters.{IsXmlText}
use Rattle.lexical_core.specs.Rules.{number_of}
use Rattle.lexical_core.specs.declared.rule.Rule.{Rule}
use Rattle.lexical_core.specs.declared.rule.Rule.TheVariants as rule
use Rattle.lexical_core.proofs.RealLaws.{contents_number}
use Rattle.data_types.specs.Leaf.{Leaf, Bytes, Number, Flag, Code, IsTextLeaf, IsDecimalLeaf, IsBooleanLeaf, IsBinaryLeaf, IsDateLeaf}
use Rattle.data_types.specs.declared.kind.Kind.{Kind}
use Rattle.data_types.specs.declared.kind.Kind.TheVariants as kind
use Rattle.data_types.proofs.VisibleTexts.{date_visible, visible_xml}
use Rattle.data_types.specs.Canonical.{IsCanonicalLeaf}
use Rattle.data_types.proofs.CanonicalLemmas.{one_canonical}
use Rattle.data_types.proofs.LeavesByKind.{binary_leaves}
use Rattle.facets.specs.LeafUnder.{Fits, BreaksAs, HasSortedCodes, IsCanonicalBy, IsLeafBy, IsCodeAt}
use Rattle.facets.specs.Rules.{BreaksLeafRule, BreaksFirst}
use Rattle.facets.proofs.OneAnswer.{one_answer}
use Rattle.facets.specs.declared.simple.Simple.{Simple}
use Rattle.der_model.specs.LeafContents.{IsInteger, flag_octet, leaf_contents, IsTextContents, IsCodeContents, IsDecimalContents, IsBooleanContents, IsBinaryContents, IsDateContents, IsContents, HasContentsForm, HasCodes, ContentsUnder}
use Rattle.der_model.proofs.Integers.{integer_same, integer_is}
use Rattle.der_model.proofs.RealWritten.{written_is, real_is}

one_text : (o : List ℕ) (a b : Leaf) → IsTextContents o a → IsTextContents o b → a ≡ b
one_text o (Bytes x) (Bytes y) p q = ap Bytes (p.1 ∙ sym q.1)
one_text o (Bytes x) b p q = absurd q
one_text o a b p q = absurd p

one_code : (o : List ℕ) (a b : Leaf) → IsCodeContents o a → IsCodeContents o b → a ≡ b
one_code o (Code x) (Code y) p q = ap Code (integer_same x y (sym p ∙ q))
one_code o (Code x) b p q = absurd q
one_code o a b p q = absurd p

one_decimal : (o : List ℕ) (a b : Leaf) → IsDecimalContents o a → IsDecimalContents o b → a ≡ b
one_decimal o (Number x) (Number y) p q = ap Number (contents_number o x y p.0 q.0 p.1 q.1)
one_decimal o (Number x) b p q = absurd q
one_decimal o a b p q = absurd p

same_flag : (a b : Bool) → flag_octet a ∷ [] ≡ flag_octet b ∷ [] → a ≡ b
same_flag true true e = refl
same_flag false false e = refl
same_flag true false e = absurd (let same = ap (λ t. get_or t 0 0) e in omega arith)
same_flag false true e = absurd (let same = ap (λ t. get_or t 0 0) e in omega arith)

one_flag : (o : List ℕ) (a b : Leaf) → IsBooleanContents o a → IsBooleanContents o b → a ≡ b
one_flag o (Flag x) (Flag y) p q = ap Flag (same_flag x y (sym p ∙ q))
one_flag o (Flag x) b p q = absurd q
one_flag o a b p q = absurd p

one_binary : (o : List ℕ) (a b : Leaf) → IsBinaryContents o a → IsBinaryContents o b → a ≡ b
one_binary o (Bytes x) (Bytes y) p q = ap Bytes (p.1 ∙ sym q.1)
one_binary o (Bytes x) b p q = absurd q
one_binary o a b p q = absurd p

one_date : (k : Kind) (o : List ℕ) (a b : Leaf) → IsDateContents k o a → IsDateContents k o b → a ≡ b
one_date k o (Bytes x) (Bytes y) p q = ap Bytes (p.1 ∙ sym q.1)
one_date k o (Bytes x) b p q = absurd q
one_date k o a b p q = absurd p

-- contents are those of one leaf
pub one_leaf : (k : Kind) (codes : Option (List (List ℕ))) (o : List ℕ) (a b : Leaf) → IsContents k codes o a → IsContents k codes o b → a ≡ b
one_leaf kind.Text None o a b p q = one_text o a b p q
one_leaf kind.Text (Some codes) o a b p q = one_code o a b p q
one_leaf kind.Decimal codes o a b p q = one_decimal o a b p q
one_leaf kind.Boolean codes o a b p q = one_flag o a b p q
one_leaf kind.Binary codes o a b p q = one_binary o a b p q
one_leaf kind.Envelope codes o a b p q = absurd p
one_leaf k codes o a b p q = one_date k o a b p q

-- a date's text is one of XML characters
date_form : (k : Kind) (o : List ℕ) (a : Leaf) → IsDateContents k o a → IsXmlText o
date_form k o (Bytes x) p = visible_xml o (date_visible k o p.0).0
date_form k o a p = absurd p

text_form : (o : List ℕ) (a : Leaf) → IsTextContents o a → IsXmlText o
text_form o (Bytes x) p = p.0
text_form o a p = absurd p

code_form : (o : List ℕ) (a : Leaf) → IsCodeContents o a → IsInteger o
code_form o (Code x) p = subst IsInteger (sym p) (integer_is x)
code_form o a p = absurd p

binary_form : (o : List ℕ) (a : Leaf) → IsBinaryContents o a → IsBytes o
binary_form o (Bytes x) p = p.0
binary_form o a p = absurd p

-- the contents of a leaf have the form
pub has_form : (k : Kind) (codes : Option (List (List ℕ))) (o : List ℕ) (a : Leaf) → IsContents k codes o a → HasContentsForm k codes o
has_form kind.Text None o a p = text_form o a p
has_form kind.Text (Some codes) o a p = code_form o a p
has_form kind.Decimal codes o a p = (a, p)
has_form kind.Boolean codes o a p = (a, p)
has_form kind.Binary codes o a p = binary_form o a p
has_form kind.Envelope codes o a p = absurd p
has_form k codes o a p = date_form k o a p

canonical_leaf : (k : Kind) (codes : Option (List (List ℕ))) (leaf : Leaf) (text : List ℕ) → (HasCodes k codes → ⊥) → IsCanonicalBy k codes leaf text → IsCanonicalLeaf k leaf text
canonical_leaf kind.Text None leaf text bare c = c
canonical_leaf kind.Text (Some codes) leaf text bare c = absurd (bare tt)
canonical_leaf k codes leaf text bare c = c

pub err_same : (r s : Rule) → ◌≡◌ {A = Result Leaf Rule} (Err r) (Err s) → r ≡ s
err_same r s e = cc

-- a leaf that fits breaks nothing
fits_breaks : (simple : Simple) (leaf : Leaf) (r : Rule) → (HasCodes simple.kind simple.codes → ⊥) → r ≢ rule.NotACode → Fits simple leaf → BreaksAs simple leaf r → ⊥
fits_breaks simple leaf r bare other (text, canonical, given) (inr (none, e)) = other e
fits_breaks simple leaf r bare other (text, canonical, given) (inl (text2, canonical2, first)) =
    let same = one_canonical simple.kind leaf text2 text (canonical_leaf simple.kind simple.codes leaf text2 bare canonical2) (canonical_leaf simple.kind simple.codes leaf text bare canonical) in
    given.sound r (subst (λ t. BreaksLeafRule simple t r) same first.broken)

-- a leaf breaks one rule
breaks_once : (simple : Simple) (leaf : Leaf) (r s : Rule) → HasSortedCodes simple → (HasCodes simple.kind simple.codes → ⊥) → r ≢ rule.NotACode → s ≢ rule.NotACode → BreaksAs simple leaf r → BreaksAs simple leaf s → r ≡ s
breaks_once simple leaf r s sorted bare p q (inr (none, e)) b = absurd (p e)
breaks_once simple leaf r s sorted bare p q (inl (text, canonical, first)) (inr (none, e)) = absurd (q e)
breaks_once simple leaf r s sorted bare p q (inl (text, canonical, first)) (inl (text2, canonical2, first2)) =
    let same = one_canonical simple.kind leaf text2 text (canonical_leaf simple.kind simple.codes leaf text2 bare canonical2) (canonical_leaf simple.kind simple.codes leaf text bare canonical) in
    err_same r s (one_answer simple text (Err r) (Err s) sorted first (subst (λ t. BreaksFirst simple t s) same first2))

-- what a rule tells of contents
data Tells (simple : Simple) (octets : List ℕ) (r : Rule) : Type 0 where
  no_form : r ≡ rule.BadContents → (HasContentsForm simple.kind simple.codes octets → ⊥) → Tells simple octets r
  no_code : r ≡ rule.NotACode → HasContentsForm simple.kind simple.codes octets → HasCodes simple.kind simple.codes → ((leaf : Leaf) → IsContents simple.kind simple.codes octets leaf → Fits simple leaf → ⊥) → Tells simple octets r
  no_date : r ≡ rule.BadText → HasContentsForm simple.kind simple.codes octets → (HasCodes simple.kind simple.codes → ⊥) → ((leaf : Leaf) → IsContents simple.kind simple.codes octets leaf → ⊥) → Tells simple octets r
  unfit : r ≢ rule.NotACode → (HasCodes simple.kind simple.codes → ⊥) → (leaf : Leaf) → IsContents simple.kind simple.codes octets leaf → BreaksAs simple leaf r → Tells simple octets r

tells : (simple : Simple) (octets : List ℕ) (r : Rule) → ContentsUnder simple octets (Err r) → Tells simple octets r
tells simple octets rule.BadContents h = no_form refl h
tells simple octets rule.NotACode (form, has, none) = no_code refl form has none
tells simple octets rule.BadText (form, bare, none) = no_date refl form bare none
tells simple octets r h = unfit (λ e. absurd (let n = ap number_of e in omega arith)) h.0 h.1 h.2 h.3

told_once : (simple : Simple) (octets : List ℕ) (r s : Rule) → HasSortedCodes simple → Tells simple octets r → Tells simple octets s → r ≡ s
told_once simple o r s sorted (no_form e f) (no_form d g) = e ∙ sym d
told_once simple o r s sorted (no_form e f) (no_code d form has none) = absurd (f form)
told_once simple o r s sorted (no_form e f) (no_date d form bare none) = absurd (f form)
told_once simple o r s sorted (no_form e f) (unfit d bare leaf is b) = absurd (f (has_form simple.kind simple.codes o leaf is))
told_once simple o r s sorted (no_code d form has none) (no_form e f) = absurd (f form)
told_once simple o r s sorted (no_code d form has none) (no_code e form2 has2 none2) = d ∙ sym e
told_once simple o r s sorted (no_code d form has none) (no_date e form2 bare none2) = absurd (bare has)
told_once simple o r s sorted (no_code d form has none) (unfit e bare leaf is b) = absurd (bare has)
told_once simple o r s sorted (no_date d form bare none) (no_form e f) = absurd (f form)
told_once simple o r s sorted (no_date d form bare none) (no_code e form2 has none2) = absurd (bare has)
told_once simple o r s sorted (no_date d form bare none) (no_date e form2 bare2 none2) = d ∙ sym e
told_once simple o r s sorted (no_date d form bare none) (unfit e bare2 leaf is b) = absurd (none leaf is)
told_once simple o r s sorted (unfit d bare leaf is b) (no_form e f) = absurd (f (has_form simple.kind simple.codes o leaf is))
told_once simple o r s sorted (unfit d bare leaf is b) (no_code e form has none) = absurd (bare has)
told_once simple o r s sorted (unfit d bare leaf is b) (no_date e form bare2 none) = absurd (none leaf is)
told_once simple o r s sorted (unfit d bare leaf is b) (unfit e bare2 leaf2 is2 b2) =
    breaks_once simple leaf r s sorted bare d e b (subst (λ l. BreaksAs simple l s) (one_leaf simple.kind simple.codes o leaf2 leaf is2 is) b2)

fits_told : (simple : Simple) (octets : List ℕ) (leaf : Leaf) (r : Rule) → IsContents simple.kind simple.codes octets leaf → Fits simple leaf → Tells simple octets r → ⊥
fits_told simple o leaf r is fits (no_form e f) = f (has_form simple.kind simple.codes o leaf is)
fits_told simple o leaf r is fits (no_code e form has none) = none leaf is fits
fits_told simple o leaf r is fits (no_date e form bare none) = none leaf is
fits_told simple o leaf r is fits (unfit e bare leaf2 is2 b) = fits_breaks simple leaf r bare e fits (subst (λ l. BreaksAs simple l r) (one_leaf simple.kind simple.codes o leaf2 leaf is2 is) b)

-- contents are at most one thing under a simple type
pub one_contents : (simple : Simple) (octets : List ℕ) (one two : Result Leaf Rule) → HasSortedCodes simple → ContentsUnder simple octets one → ContentsUnder simple octets two → one ≡ two
one_contents simple o (Ok a) (Ok b) sorted p q = ap Ok (one_leaf simple.kind simple.codes o a b p.0 q.0)
one_contents simple o (Ok a) (Err s) sorted p q = absurd (fits_told simple o a s p.0 p.1 (tells simple o s q))
one_contents simple o (Err r) (Ok b) sorted p q = absurd (fits_told simple o b r q.0 q.1 (tells simple o r p))
one_contents simple o (Err r) (Err s) sorted p q = ap Err (told_once simple o r s sorted (tells simple o r p) (tells simple o s q))

number_is : (o : List ℕ) (leaf : Leaf) → IsDecimalContents o leaf → o ≡ leaf_contents leaf
number_is o (Number n) p = real_is o n p.0 p.1
number_is o leaf p = absurd p

text_is : (o : List ℕ) (leaf : Leaf) → IsTextContents o leaf → o ≡ leaf_contents leaf
text_is o (Bytes b) p = sym p.1
text_is o leaf p = absurd p

code_is : (o : List ℕ) (leaf : Leaf) → IsCodeContents o leaf → o ≡ leaf_contents leaf
code_is o (Code n) p = p
code_is o leaf p = absurd p

flag_is : (o : List ℕ) (leaf : Leaf) → IsBooleanContents o leaf → o ≡ leaf_contents leaf
flag_is o (Flag n) p = p
flag_is o leaf p = absurd p

binary_is : (o : List ℕ) (leaf : Leaf) → IsBinaryContents o leaf → o ≡ leaf_contents leaf
binary_is o (Bytes b) p = sym p.1
binary_is o leaf p = absurd p

date_is : (k : Kind) (o : List ℕ) (leaf : Leaf) → IsDateContents k o leaf → o ≡ leaf_contents leaf
date_is k o (Bytes b) p = sym p.1
date_is k o leaf p = absurd p

-- the contents of a leaf are those that are written
pub contents_are_written : (k : Kind) (codes : Option (List (List ℕ))) (o : List ℕ) (leaf : Leaf) → IsContents k codes o leaf → o ≡ leaf_contents leaf
contents_are_written kind.Text None o leaf p = text_is o leaf p
contents_are_written kind.Text (Some codes) o leaf p = code_is o leaf p
contents_are_written kind.Decimal codes o leaf p = number_is o leaf p
contents_are_written kind.Boolean codes o leaf p = flag_is o leaf p
contents_are_written kind.Binary codes o leaf p = binary_is o leaf p
contents_are_written kind.Envelope codes o leaf p = absurd p
contents_are_written k codes o leaf p = date_is k o leaf p

text_written : (chars : List ℕ) (leaf : Leaf) → IsTextLeaf chars leaf → IsTextContents (leaf_contents leaf) leaf
text_written chars (Bytes b) (all, e) = ((chars, all, sym e), refl)
text_written chars leaf h = absurd h

code_written : (codes : List (List ℕ)) (chars : List ℕ) (leaf : Leaf) → IsCodeAt codes chars leaf → IsCodeContents (leaf_contents leaf) leaf
code_written codes chars (Code place) h = refl
code_written codes chars leaf h = absurd h

decimal_written : (chars : List ℕ) (leaf : Leaf) → IsDecimalLeaf chars leaf → IsDecimalContents (leaf_contents leaf) leaf
decimal_written chars (Number n) h = (h.2, written_is n h.2)
decimal_written chars leaf h = absurd h

flag_written : (chars : List ℕ) (leaf : Leaf) → IsBooleanLeaf chars leaf → IsBooleanContents (leaf_contents leaf) leaf
flag_written chars (Flag f) h = refl
flag_written chars leaf h = absurd h

binary_written : (chars : List ℕ) (leaf : Leaf) → IsBinaryLeaf chars leaf → IsBinaryContents (leaf_contents leaf) leaf
binary_written chars (Bytes b) h = ((binary_leaves b).0 (chars, h), refl)
binary_written chars leaf h = absurd h

date_written : (k : Kind) (chars : List ℕ) (leaf : Leaf) → IsDateLeaf k chars leaf → IsDateContents k (leaf_contents leaf) leaf
date_written k chars (Bytes b) h = (h.1, refl)
date_written k chars leaf h = absurd h

leaf_written : (k : Kind) (codes : Option (List (List ℕ))) (chars : List ℕ) (leaf : Leaf) → IsLeafBy k codes chars leaf → IsContents k codes (leaf_contents leaf) leaf
leaf_written kind.Text None chars leaf h = text_written chars leaf h
leaf_written kind.Text (Some codes) chars leaf h = code_written codes chars leaf h
leaf_written kind.Decimal codes chars leaf h = decimal_written chars leaf h
leaf_written kind.Boolean codes chars leaf h = flag_written chars leaf h
leaf_written kind.Binary codes chars leaf h = binary_written chars leaf h
leaf_written kind.Envelope codes chars leaf h = absurd h
leaf_written kind.Date codes chars leaf h = date_written kind.Date chars leaf h
leaf_written kind.DateTime codes chars leaf h = date_written kind.DateTime chars leaf h
leaf_written kind.Time codes chars leaf h = date_written kind.Time chars leaf h
leaf_written kind.Year codes chars leaf h = date_written kind.Year chars leaf h
leaf_written kind.YearMonth codes chars leaf h = date_written kind.YearMonth chars leaf h
leaf_written kind.MonthDay codes chars leaf h = date_written kind.MonthDay chars leaf h
leaf_written kind.Month codes chars leaf h = date_written kind.Month chars leaf h
leaf_written kind.Day codes chars leaf h = date_written kind.Day chars leaf h

-- what is written of a leaf that fits are its contents
pub written_contents : (simple : Simple) (leaf : Leaf) → Fits simple leaf → ContentsUnder simple (leaf_contents leaf) (Ok leaf)
written_contents simple leaf fits = (leaf_written simple.kind simple.codes fits.0 leaf fits.2.spelled, fits)

-- a leaf that fits has one contents
pub contents_same : (simple : Simple) (a b : Leaf) → Fits simple a → Fits simple b → leaf_contents a ≡ leaf_contents b → a ≡ b
contents_same simple a b p q e = one_leaf simple.kind simple.codes (leaf_contents b) a b (subst (λ o. IsContents simple.kind simple.codes o a) e (written_contents simple a p).0) (written_contents simple b q).0
