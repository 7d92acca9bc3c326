-- The canonical texts of leaves that are no texts are the same in the value of an attribute.
use Rattle.std.proofs.Common.{◌≡◌, ◌≢◌, ℕ, Bool, true, false, List, [], ◌∷◌, ◌++◌, Option, flat_map, refl, sym, ap₂, subst, ◌∙◌, arith}
use Rattle.std.proofs.lemmas.Bool.Decides.{nat_tests}
use Rattle.std.proofs.lemmas.Str.{encode_ascii}
use Rattle.std.specs.Prelude.{encode_utf8}
use Rattle.lexical_core.specs.Escapes.{escape_of}
use Rattle.data_types.specs.Leaf.{Leaf, Bytes, Number, Flag, IsLeaf, IsDateLeaf, IsBinaryLeaf}
use Rattle.data_types.specs.Canonical.{IsCanonicalLeaf, IsCanonicalDecimal, IsCanonicalBoolean, IsCanonicalBinary, IsCanonicalDate, escaped_text}
use Rattle.data_types.specs.declared.kind.Kind.{Kind}
use Rattle.data_types.specs.declared.kind.Kind.TheVariants.{Text, Decimal, Boolean, Binary, Date, DateTime, Time, Year, YearMonth, MonthDay, Month, Day, Envelope}
use Rattle.data_types.proofs.VisibleTexts.{IsVisible, AreVisible, date_visible}
use Rattle.data_types.proofs.CanonicalLemmas.{number_visible, flag_visible, octets_visible}
use Rattle.data_types.proofs.EscapeLemmas.{visible_text}
use Rattle.facets.specs.LeafUnder.{IsLeafBy, IsCanonicalBy, IsCanonicalUnder, Fits}
use Rattle.facets.specs.declared.simple.Simple.{Simple}

-- ---- the canonical text is visible

decimal_visible : (leaf : Leaf) (chars : List ℕ) → IsCanonicalDecimal leaf chars → AreVisible chars
decimal_visible (Number n) chars h = number_visible chars n h.1
decimal_visible leaf chars h = absurd h

truth_visible : (leaf : Leaf) (chars : List ℕ) → IsCanonicalBoolean leaf chars → AreVisible chars
truth_visible (Flag flag) chars e = subst AreVisible (sym e) (flag_visible flag)
truth_visible leaf chars h = absurd h

binary_visible : (leaf : Leaf) (from chars : List ℕ) → IsBinaryLeaf from leaf → IsCanonicalBinary leaf chars → AreVisible chars
binary_visible (Bytes octets) from chars (t, collapsed, (bytes, is)) e = subst AreVisible (sym e) (octets_visible octets bytes)
binary_visible leaf from chars h e = absurd h

day_visible : (kind : Kind) (leaf : Leaf) (from chars : List ℕ) → IsDateLeaf kind from leaf → IsCanonicalDate leaf chars → AreVisible chars
day_visible kind (Bytes text) from chars h e = subst AreVisible (sym e) (date_visible kind text h.1).0
day_visible kind leaf from chars h e = absurd h

pub canonical_visible : (kind : Kind) (leaf : Leaf) (from chars : List ℕ) → kind ≢ Text → IsLeaf kind from leaf → IsCanonicalLeaf kind leaf chars → AreVisible chars
canonical_visible Text leaf from chars other h e = absurd (other refl)
canonical_visible Decimal leaf from chars other h e = decimal_visible leaf chars e
canonical_visible Boolean leaf from chars other h e = truth_visible leaf chars e
canonical_visible Binary leaf from chars other h e = binary_visible leaf from chars h e
canonical_visible Date leaf from chars other h e = day_visible Date leaf from chars h e
canonical_visible DateTime leaf from chars other h e = day_visible DateTime leaf from chars h e
canonical_visible Time leaf from chars other h e = day_visible Time leaf from chars h e
canonical_visible Year leaf from chars other h e = day_visible Year leaf from chars h e
canonical_visible YearMonth leaf from chars other h e = day_visible YearMonth leaf from chars h e
canonical_visible MonthDay leaf from chars other h e = day_visible MonthDay leaf from chars h e
canonical_visible Month leaf from chars other h e = day_visible Month leaf from chars h e
canonical_visible Day leaf from chars other h e = day_visible Day leaf from chars h e
canonical_visible Envelope leaf from chars other h e = absurd h

-- ---- what is visible stands for itself

visible_char : (c : ℕ) → IsVisible c → escape_of true c ≡ c ∷ []
visible_char c v =
    let low = v.low in let high = v.high in let n = v.no_ampersand in let l = v.no_less in let g = v.no_greater in let q = v.no_quote in
    let ascii = encode_ascii c (omega (arith, high)) in
    let own : escape_of true c ≡ encode_utf8 c = grind (arith, nat_tests, low, n, l, g, q) in
    own ∙ ascii

pub visible_value : (chars : List ℕ) → AreVisible chars → flat_map (escape_of true) chars ≡ chars
visible_value [] v = refl
visible_value (c ∷ chars) v = ap₂ (λ (x y : List ℕ). x ++ y) (visible_char c v.0) (visible_value chars v.1)

pub same_escaped : (attribute : Bool) (chars : List ℕ) → AreVisible chars → escaped_text chars ≡ flat_map (escape_of attribute) chars
same_escaped true chars v = visible_text chars v ∙ sym (visible_value chars v)
same_escaped false chars v = refl

-- ---- of a kind other than texts a leaf and its canonical text are those of the kind

pub leaf_apart : (k : Kind) (codes : Option (List (List ℕ))) (text : List ℕ) (leaf : Leaf) → k ≢ Text → IsLeafBy k codes text leaf → IsLeaf k text leaf
leaf_apart Text codes text leaf other h = absurd (other refl)
leaf_apart k codes text leaf other h = h

pub canonical_apart : (k : Kind) (codes : Option (List (List ℕ))) (leaf : Leaf) (text : List ℕ) → k ≢ Text → IsCanonicalBy k codes leaf text → IsCanonicalLeaf k leaf text
canonical_apart Text codes leaf text other h = absurd (other refl)
canonical_apart k codes leaf text other h = h

pub is_leaf : (simple : Simple) (leaf : Leaf) → simple.kind ≢ Text → Fits simple leaf → (text : List ℕ) × IsLeaf simple.kind text leaf
is_leaf simple leaf other (text, canonical, given) = (text, leaf_apart simple.kind simple.codes text leaf other given.spelled)

pub is_canonical : (simple : Simple) (leaf : Leaf) (chars : List ℕ) → simple.kind ≢ Text → IsCanonicalUnder simple leaf chars → IsCanonicalLeaf simple.kind leaf chars
is_canonical simple leaf chars other h = canonical_apart simple.kind simple.codes leaf chars other h

-- such a text is the same in an element and in the value of an attribute
pub value_same : (simple : Simple) (leaf : Leaf) (attribute : Bool) (chars : List ℕ) → simple.kind ≢ Text → Fits simple leaf → IsCanonicalUnder simple leaf chars
    → escaped_text chars ≡ flat_map (escape_of attribute) chars
value_same simple leaf attribute chars other fits h =
    let l = is_leaf simple leaf other fits in
    same_escaped attribute chars (canonical_visible simple.kind leaf l.0 chars other l.1 (is_canonical simple leaf chars other h))
