-- The canonical texts of leaves: each leaf has one, and it spells the leaf.
use Rattle.std.proofs.Common.{◌≡◌, ◌≢◌, ℕ, zero, suc, ◌+◌, ◌*◌, ◌/◌, ◌%◌, ◌<◌, inl, inr, Bool, true, false, ◌==◌, List, [], ◌∷◌, Option, Some, None, length, replicate, codes, refl, sym, ap, subst, ◌∙◌, arith}
use Rattle.std.proofs.lemmas.Bool.Decides.{nat_tests}
use Rattle.std.proofs.lemmas.Str.{encodes_same}
use Rattle.std.specs.Str.Parse.{AllDigits}
use Rattle.base64.specs.Engines.{standard}
use Rattle.base64.specs.GeneralPurpose.{IsBytes, encode_of}
use Rattle.base64.specs.Rfc4648.{encode_symbols, padding_len}
use Rattle.lexical_core.specs.Decimals.{Number as DecimalNumber, IsDecimal, DecimalParts, AreParts, IsSign, fraction_digits, point_text, decimal_spelling, IsCanonicalText}
use Rattle.lexical_core.specs.CanonicalDecimals.{canonical_parts}
use Rattle.lexical_core.proofs.DecimalLaws.{canonical_text}
use Rattle.lexical_core.proofs.Written.{canonical_is}
use Rattle.data_types.specs.declared.kind.Kind.{Kind}
use Rattle.data_types.specs.declared.kind.Kind.TheVariants.{Text, Decimal, Boolean, Binary, Date, DateTime, Time, Year, YearMonth, MonthDay, Month, Day, Envelope}
use Rattle.data_types.specs.WhiteSpace.{IsCollapsed}
use Rattle.data_types.specs.Booleans.{IsBooleanText, boolean_text}
use Rattle.data_types.specs.Binaries.{without_spaces}
use Rattle.data_types.specs.Leaf.{Leaf, Bytes, Number, Flag, Code, IsTextLeaf, IsDecimalLeaf, IsBooleanLeaf, IsBinaryLeaf, IsDateLeaf, IsLeaf, IsLeafOf}
use Rattle.data_types.specs.Canonical.{IsCanonicalDecimal, IsCanonicalBoolean, IsCanonicalBinary, IsCanonicalDate, IsCanonicalLeaf, escaped_text}
use Rattle.data_types.specs.Escaping.{escaped_bytes}
use Rattle.data_types.proofs.CollapseLaw.{own_collapsed}
use Rattle.data_types.proofs.VisibleTexts.{AreVisible, plus_visible, minus_visible, point_is_visible, pad_visible, table_visible, join_visible, digits_visible, date_visible, boolean_visible, no_space}
use Rattle.data_types.proofs.OctetLemmas.{back_bytes}
use Rattle.data_types.proofs.EscapeLemmas.{escaped_chars, visible_text}

-- ---- numbers

sign_visible : (negative : Bool) (sign : List ℕ) → IsSign negative sign → AreVisible sign
sign_visible false sign (inl e) = subst AreVisible (sym e) tt
sign_visible false sign (inr e) = subst AreVisible (sym e) (plus_visible, tt)
sign_visible true sign e = subst AreVisible (sym e) (minus_visible, tt)

point_visible : (fraction : Option (List ℕ)) → AllDigits 10 (fraction_digits fraction) → AreVisible (point_text fraction)
point_visible None all = tt
point_visible (Some digits) all = (point_is_visible, digits_visible digits all)

parts_visible : (negative : Bool) (p : DecimalParts) → AreParts negative p → AreVisible (decimal_spelling p)
parts_visible negative p are =
    join_visible p.sign _ (sign_visible negative p.sign are.sign) (join_visible p.whole _ (digits_visible p.whole are.whole) (point_visible p.fraction are.fraction))

pub number_visible : (text : List ℕ) (n : DecimalNumber) → IsCanonicalText text n → AreVisible text
number_visible text n (negative, p, spell, form, e) = subst AreVisible (sym e) (parts_visible negative p spell.parts)

-- ---- truth values

pub flag_visible : (flag : Bool) → AreVisible (boolean_text flag)
flag_visible true = (boolean_visible true (codes "true") (inl refl)).0
flag_visible false = (boolean_visible false (codes "false") (inl refl)).0

flag_text : (flag : Bool) → IsBooleanText flag (boolean_text flag)
flag_text true = inl refl
flag_text false = inl refl

-- ---- octets

symbols_visible : (octets : List ℕ) → IsBytes octets → AreVisible (encode_symbols standard.encode_table octets)
unfolding encode_symbols
symbols_visible [] bytes = tt
symbols_visible (a ∷ []) bytes = let x : a < 256 = bytes 0 in (table_visible (a / 4) (omega (arith, x)), (table_visible (a % 4 * 16) (omega arith), tt))
symbols_visible (a ∷ b ∷ []) bytes =
    let x : a < 256 = bytes 0 in
    let y : b < 256 = bytes 1 in
    (table_visible (a / 4) (omega (arith, x)), (table_visible (a % 4 * 16 + b / 16) (omega (arith, y)), (table_visible (b % 16 * 4) (omega arith), tt)))
symbols_visible (a ∷ b ∷ c ∷ rest) bytes =
    let x : a < 256 = bytes 0 in
    let y : b < 256 = bytes 1 in
    let z : c < 256 = bytes 2 in
    (table_visible (a / 4) (omega (arith, x)), (table_visible (a % 4 * 16 + b / 16) (omega (arith, y)), (table_visible (b % 16 * 4 + c / 64) (omega (arith, z)), (table_visible (c % 64) (omega arith), symbols_visible rest (back_bytes (a ∷ b ∷ c ∷ []) rest bytes)))))

pads_visible : (n : ℕ) → AreVisible (replicate n 61)
pads_visible zero = tt
pads_visible (suc n) = (pad_visible, pads_visible n)

pub octets_visible : (octets : List ℕ) → IsBytes octets → AreVisible (encode_of standard octets)
octets_visible octets bytes = join_visible (encode_symbols standard.encode_table octets) _ (symbols_visible octets bytes) (pads_visible (padding_len (length octets)))

pub no_spaces : (text : List ℕ) → AreVisible text → without_spaces text ≡ text
no_spaces [] v = refl
no_spaces (c ∷ text) v =
    let low = v.0.low in
    let no : (c == 32) ≡ false = grind (arith, nat_tests, low) in
    rw no (ap (λ t. c ∷ t) (no_spaces text v.1))

-- ---- a canonical text spells its leaf

pub own : (text : List ℕ) → AreVisible text → IsCollapsed text text
own text v = own_collapsed text (no_space text v)

pub spells_decimal : (leaf : Leaf) (chars : List ℕ) → IsCanonicalDecimal leaf chars → IsDecimalLeaf chars leaf
spells_decimal (Number n) chars (is, (negative, p, spell, form, e)) = (chars, own chars (number_visible chars n (negative, p, spell, form, e)), is, (negative, p, spell, e))
spells_decimal leaf chars h = absurd h

pub spells_boolean : (leaf : Leaf) (chars : List ℕ) → IsCanonicalBoolean leaf chars → IsBooleanLeaf chars leaf
spells_boolean (Flag flag) chars e = (chars, own chars (subst AreVisible (sym e) (flag_visible flag)), subst (IsBooleanText flag) (sym e) (flag_text flag))
spells_boolean leaf chars h = absurd h

spells_binary : (leaf : Leaf) (from chars : List ℕ) → IsBinaryLeaf from leaf → IsCanonicalBinary leaf chars → IsBinaryLeaf chars leaf
spells_binary (Bytes octets) from chars (t, collapsed, (bytes, is)) e =
    let v = subst AreVisible (sym e) (octets_visible octets bytes) in
    (chars, own chars v, (bytes, no_spaces chars v ∙ e))
spells_binary leaf from chars h e = absurd h

spells_date : (kind : Kind) (leaf : Leaf) (from chars : List ℕ) → IsDateLeaf kind from leaf → IsCanonicalDate leaf chars → IsDateLeaf kind chars leaf
spells_date kind (Bytes text) from chars h e = rw e (own text (date_visible kind text h.1).0, h.1)
spells_date kind leaf from chars h e = absurd h

pub canonical_spells : (kind : Kind) (leaf : Leaf) (chars : List ℕ) → IsLeafOf kind leaf → IsCanonicalLeaf kind leaf chars → IsLeaf kind chars leaf
canonical_spells Text leaf chars h e = e
canonical_spells Decimal leaf chars h e = spells_decimal leaf chars e
canonical_spells Boolean leaf chars h e = spells_boolean leaf chars e
canonical_spells Binary leaf chars (from, h) e = spells_binary leaf from chars h e
canonical_spells Date leaf chars (from, h) e = spells_date Date leaf from chars h e
canonical_spells DateTime leaf chars (from, h) e = spells_date DateTime leaf from chars h e
canonical_spells Time leaf chars (from, h) e = spells_date Time leaf from chars h e
canonical_spells Year leaf chars (from, h) e = spells_date Year leaf from chars h e
canonical_spells YearMonth leaf chars (from, h) e = spells_date YearMonth leaf from chars h e
canonical_spells MonthDay leaf chars (from, h) e = spells_date MonthDay leaf from chars h e
canonical_spells Month leaf chars (from, h) e = spells_date Month leaf from chars h e
canonical_spells Day leaf chars (from, h) e = spells_date Day leaf from chars h e
canonical_spells Envelope leaf chars (from, h) e = absurd h

-- ---- a leaf has a canonical text

has_decimal : (leaf : Leaf) (from : List ℕ) → IsDecimalLeaf from leaf → (chars : List ℕ) × IsCanonicalDecimal leaf chars
has_decimal (Number n) from (t, collapsed, is, spells) = (decimal_spelling (canonical_parts n), (is, canonical_is n is))
has_decimal leaf from h = absurd h

has_boolean : (leaf : Leaf) (from : List ℕ) → IsBooleanLeaf from leaf → (chars : List ℕ) × IsCanonicalBoolean leaf chars
has_boolean (Flag flag) from h = (boolean_text flag, refl)
has_boolean leaf from h = absurd h

has_binary : (leaf : Leaf) (from : List ℕ) → IsBinaryLeaf from leaf → (chars : List ℕ) × IsCanonicalBinary leaf chars
has_binary (Bytes octets) from h = (encode_of standard octets, refl)
has_binary leaf from h = absurd h

has_date : (kind : Kind) (leaf : Leaf) (from : List ℕ) → IsDateLeaf kind from leaf → (chars : List ℕ) × IsCanonicalDate leaf chars
has_date kind (Bytes text) from h = (text, refl)
has_date kind leaf from h = absurd h

pub has_canonical : (kind : Kind) (leaf : Leaf) → IsLeafOf kind leaf → (chars : List ℕ) × IsCanonicalLeaf kind leaf chars
has_canonical Text leaf h = h
has_canonical Decimal leaf (from, h) = has_decimal leaf from h
has_canonical Boolean leaf (from, h) = has_boolean leaf from h
has_canonical Binary leaf (from, h) = has_binary leaf from h
has_canonical Date leaf (from, h) = has_date Date leaf from h
has_canonical DateTime leaf (from, h) = has_date DateTime leaf from h
has_canonical Time leaf (from, h) = has_date Time leaf from h
has_canonical Year leaf (from, h) = has_date Year leaf from h
has_canonical YearMonth leaf (from, h) = has_date YearMonth leaf from h
has_canonical MonthDay leaf (from, h) = has_date MonthDay leaf from h
has_canonical Month leaf (from, h) = has_date Month leaf from h
has_canonical Day leaf (from, h) = has_date Day leaf from h
has_canonical Envelope leaf (from, h) = absurd h

-- ---- and only one

one_text : (leaf : Leaf) (a b : List ℕ) → IsTextLeaf a leaf → IsTextLeaf b leaf → a ≡ b
one_text (Bytes bytes) a b h g = encodes_same a b (sym h.1 ∙ g.1)
one_text leaf a b h g = absurd h

one_decimal : (leaf : Leaf) (a b : List ℕ) → IsCanonicalDecimal leaf a → IsCanonicalDecimal leaf b → a ≡ b
one_decimal (Number n) a b h g = canonical_text a b n h.0 h.1 g.1
one_decimal leaf a b h g = absurd h

one_boolean : (leaf : Leaf) (a b : List ℕ) → IsCanonicalBoolean leaf a → IsCanonicalBoolean leaf b → a ≡ b
one_boolean (Flag flag) a b h g = h ∙ sym g
one_boolean leaf a b h g = absurd h

one_binary : (leaf : Leaf) (a b : List ℕ) → IsCanonicalBinary leaf a → IsCanonicalBinary leaf b → a ≡ b
one_binary (Bytes octets) a b h g = h ∙ sym g
one_binary leaf a b h g = absurd h

one_date : (leaf : Leaf) (a b : List ℕ) → IsCanonicalDate leaf a → IsCanonicalDate leaf b → a ≡ b
one_date (Bytes text) a b h g = h ∙ sym g
one_date leaf a b h g = absurd h

pub one_canonical : (kind : Kind) (leaf : Leaf) (a b : List ℕ) → IsCanonicalLeaf kind leaf a → IsCanonicalLeaf kind leaf b → a ≡ b
one_canonical Text leaf a b h g = one_text leaf a b h g
one_canonical Decimal leaf a b h g = one_decimal leaf a b h g
one_canonical Boolean leaf a b h g = one_boolean leaf a b h g
one_canonical Binary leaf a b h g = one_binary leaf a b h g
one_canonical Date leaf a b h g = one_date leaf a b h g
one_canonical DateTime leaf a b h g = one_date leaf a b h g
one_canonical Time leaf a b h g = one_date leaf a b h g
one_canonical Year leaf a b h g = one_date leaf a b h g
one_canonical YearMonth leaf a b h g = one_date leaf a b h g
one_canonical MonthDay leaf a b h g = one_date leaf a b h g
one_canonical Month leaf a b h g = one_date leaf a b h g
one_canonical Day leaf a b h g = one_date leaf a b h g
one_canonical Envelope leaf a b h g = absurd h

-- ---- what is pushed is the canonical text, escaped

text_at : (bytes chars : List ℕ) → IsTextLeaf chars (Bytes bytes) → escaped_bytes false bytes ≡ escaped_text chars
text_at bytes chars h = ap (escaped_bytes false) h.1 ∙ escaped_chars chars

pub text_pushed : (kind : Kind) (leaf : Leaf) (bytes chars : List ℕ) → kind ≡ Text → leaf ≡ Bytes bytes → IsCanonicalLeaf kind leaf chars → escaped_bytes false bytes ≡ escaped_text chars
text_pushed kind leaf bytes chars k l h = text_at bytes chars (subst (λ x. IsTextLeaf chars x) l (subst (λ (y : Kind). IsCanonicalLeaf y leaf chars) k h))

binary_at : (octets from chars : List ℕ) → IsBinaryLeaf from (Bytes octets) → IsCanonicalBinary (Bytes octets) chars → encode_of standard octets ≡ escaped_text chars
binary_at octets from chars (t, collapsed, (bytes, is)) e = sym e ∙ sym (visible_text chars (subst AreVisible (sym e) (octets_visible octets bytes)))

pub binary_pushed : (kind : Kind) (leaf : Leaf) (octets chars : List ℕ) → kind ≡ Binary → leaf ≡ Bytes octets → IsLeafOf kind leaf → IsCanonicalLeaf kind leaf chars
    → encode_of standard octets ≡ escaped_text chars
binary_pushed kind leaf octets chars k l (from, of) h =
    binary_at octets from chars (subst (λ x. IsBinaryLeaf from x) l (subst (λ (y : Kind). IsLeaf y from leaf) k of))
    (subst (λ x. IsCanonicalBinary x chars) l (subst (λ (y : Kind). IsCanonicalLeaf y leaf chars) k h))

date_own : (kind : Kind) (bytes from chars : List ℕ) → IsDateLeaf kind from (Bytes bytes) → IsCanonicalDate (Bytes bytes) chars → bytes ≡ escaped_text chars
date_own kind bytes from chars of e = sym e ∙ sym (visible_text chars (subst AreVisible (sym e) (date_visible kind bytes of.1).0))

date_at : (kind : Kind) (bytes from chars : List ℕ) → kind ≢ Text → kind ≢ Binary → IsLeaf kind from (Bytes bytes) → IsCanonicalLeaf kind (Bytes bytes) chars → bytes ≡ escaped_text chars
date_at Text bytes from chars t b of h = absurd (t refl)
date_at Decimal bytes from chars t b of h = absurd h
date_at Boolean bytes from chars t b of h = absurd h
date_at Binary bytes from chars t b of h = absurd (b refl)
date_at Date bytes from chars t b of h = date_own Date bytes from chars of h
date_at DateTime bytes from chars t b of h = date_own DateTime bytes from chars of h
date_at Time bytes from chars t b of h = date_own Time bytes from chars of h
date_at Year bytes from chars t b of h = date_own Year bytes from chars of h
date_at YearMonth bytes from chars t b of h = date_own YearMonth bytes from chars of h
date_at MonthDay bytes from chars t b of h = date_own MonthDay bytes from chars of h
date_at Month bytes from chars t b of h = date_own Month bytes from chars of h
date_at Day bytes from chars t b of h = date_own Day bytes from chars of h
date_at Envelope bytes from chars t b of h = absurd h

pub date_pushed : (kind : Kind) (leaf : Leaf) (bytes chars : List ℕ) → kind ≢ Text → kind ≢ Binary → leaf ≡ Bytes bytes → IsLeafOf kind leaf → IsCanonicalLeaf kind leaf chars
    → bytes ≡ escaped_text chars
date_pushed kind leaf bytes chars t b l (from, of) h = date_at kind bytes from chars t b (subst (λ x. IsLeaf kind from x) l of) (subst (λ x. IsCanonicalLeaf kind x chars) l h)

number_at : (kind : Kind) (n : DecimalNumber) (chars : List ℕ) → IsCanonicalLeaf kind (Number n) chars → IsDecimal n × IsCanonicalText chars n × (chars ≡ escaped_text chars)
number_at Decimal n chars h = (h.0, h.1, sym (visible_text chars (number_visible chars n h.1)))
number_at kind n chars h = absurd h

pub number_pushed : (kind : Kind) (leaf : Leaf) (n : DecimalNumber) (chars : List ℕ) → leaf ≡ Number n → IsCanonicalLeaf kind leaf chars
    → IsDecimal n × IsCanonicalText chars n × (chars ≡ escaped_text chars)
number_pushed kind leaf n chars l h = number_at kind n chars (subst (λ x. IsCanonicalLeaf kind x chars) l h)

-- no leaf of a kind is a code
pub no_code : (kind : Kind) (leaf : Leaf) (place : ℕ) → leaf ≡ Code place → IsLeafOf kind leaf → ⊥
no_code kind leaf place l (from, of) = at_code kind (subst (λ x. IsLeaf kind from x) l of)
  where
    at_code : (kind : Kind) → IsLeaf kind from (Code place) → ⊥
    at_code Text h = h
    at_code Decimal h = h
    at_code Boolean h = h
    at_code Binary h = h
    at_code Date h = h
    at_code DateTime h = h
    at_code Time h = h
    at_code Year h = h
    at_code YearMonth h = h
    at_code MonthDay h = h
    at_code Month h = h
    at_code Day h = h
    at_code Envelope h = h
