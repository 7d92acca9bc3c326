-- Characters spell at most one leaf.
use Rattle.std.proofs.Common.{◌≡◌, ℕ, Bool, true, false, inl, inr, List, get_or, refl, sym, ap, subst, ◌∙◌, arith}
use Rattle.std.proofs.Common.{Ok}
use Rattle.base64.specs.Engines.{standard}
use Rattle.base64.specs.GeneralPurpose.{IsBytes, encode_of, decode_of}
use Rattle.base64.proofs.EngineFacts.{decode_of-encode_of}
use Rattle.lexical_core.specs.Decimals.{SpellsDecimal}
use Rattle.lexical_core.proofs.DecimalLaws.{text_number}
use Rattle.data_types.specs.declared.kind.Kind.{Kind}
use Rattle.data_types.specs.declared.kind.Kind.TheVariants.{Text, Decimal, Boolean, Binary, Date, DateTime, Time, Year, YearMonth, MonthDay, Month, Day, Envelope}
use Rattle.data_types.specs.Booleans.{IsBooleanText}
use Rattle.data_types.specs.Binaries.{IsBinaryText}
use Rattle.data_types.specs.Leaf.{Leaf, Bytes, Number, Flag, IsTextLeaf, IsDecimalLeaf, IsBooleanLeaf, IsBinaryLeaf, IsDateLeaf, IsLeaf}
use Rattle.data_types.proofs.CollapseLaw.{one_collapsed}

one_text : (chars : List ℕ) (a b : Leaf) → IsTextLeaf chars a → IsTextLeaf chars b → a ≡ b
one_text chars (Bytes a) (Bytes b) h g = ap Bytes (h.1 ∙ sym g.1)
one_text chars (Bytes a) b h g = absurd g
one_text chars a b h g = absurd h

one_decimal : (chars : List ℕ) (a b : Leaf) → IsDecimalLeaf chars a → IsDecimalLeaf chars b → a ≡ b
one_decimal chars (Number a) (Number b) (text, collapsed, is, spells) (text', collapsed', is', spells') =
    let same = one_collapsed chars text' text collapsed' collapsed in
    ap Number (text_number text a b is is' spells (subst (λ t. SpellsDecimal t b) same spells'))
one_decimal chars (Number a) b h g = absurd g
one_decimal chars a b h g = absurd h

one_flag : (text : List ℕ) (a b : Bool) → IsBooleanText a text → IsBooleanText b text → a ≡ b
one_flag text true true h g = refl
one_flag text false false h g = refl
one_flag text true false (inl h) (inl g) = absurd (let e : 116 ≡ 102 = ap (λ t. get_or t 0 0) (sym h ∙ g) in omega (arith, e))
one_flag text true false (inl h) (inr g) = absurd (let e : 116 ≡ 48 = ap (λ t. get_or t 0 0) (sym h ∙ g) in omega (arith, e))
one_flag text true false (inr h) (inl g) = absurd (let e : 49 ≡ 102 = ap (λ t. get_or t 0 0) (sym h ∙ g) in omega (arith, e))
one_flag text true false (inr h) (inr g) = absurd (let e : 49 ≡ 48 = ap (λ t. get_or t 0 0) (sym h ∙ g) in omega (arith, e))
one_flag text false true (inl h) (inl g) = absurd (let e : 102 ≡ 116 = ap (λ t. get_or t 0 0) (sym h ∙ g) in omega (arith, e))
one_flag text false true (inl h) (inr g) = absurd (let e : 102 ≡ 49 = ap (λ t. get_or t 0 0) (sym h ∙ g) in omega (arith, e))
one_flag text false true (inr h) (inl g) = absurd (let e : 48 ≡ 116 = ap (λ t. get_or t 0 0) (sym h ∙ g) in omega (arith, e))
one_flag text false true (inr h) (inr g) = absurd (let e : 48 ≡ 49 = ap (λ t. get_or t 0 0) (sym h ∙ g) in omega (arith, e))

one_boolean : (chars : List ℕ) (a b : Leaf) → IsBooleanLeaf chars a → IsBooleanLeaf chars b → a ≡ b
one_boolean chars (Flag a) (Flag b) (text, collapsed, is) (text', collapsed', is') =
    let same = one_collapsed chars text' text collapsed' collapsed in
    ap Flag (one_flag text a b is (subst (IsBooleanText b) same is'))
one_boolean chars (Flag a) b h g = absurd g
one_boolean chars a b h g = absurd h

-- octets that are encoded alike are the same
pub one_encoded : (a b : List ℕ) → IsBytes a → IsBytes b → encode_of standard a ≡ encode_of standard b → a ≡ b
one_encoded a b ba bb e =
    let left = decode_of-encode_of standard a refl ba in
    let right = decode_of-encode_of standard b refl bb in
    let same : Ok a ≡ Ok b = sym left ∙ (ap (decode_of standard) e ∙ right) in
    cc

one_octets : (text a b : List ℕ) → IsBinaryText a text → IsBinaryText b text → a ≡ b
one_octets text a b h g = one_encoded a b h.0 g.0 (sym h.1 ∙ g.1)

one_binary : (chars : List ℕ) (a b : Leaf) → IsBinaryLeaf chars a → IsBinaryLeaf chars b → a ≡ b
one_binary chars (Bytes a) (Bytes b) (text, collapsed, is) (text', collapsed', is') =
    let same = one_collapsed chars text' text collapsed' collapsed in
    ap Bytes (one_octets text a b is (subst (IsBinaryText b) same is'))
one_binary chars (Bytes a) b h g = absurd g
one_binary chars a b h g = absurd h

one_date : (kind : Kind) (chars : List ℕ) (a b : Leaf) → IsDateLeaf kind chars a → IsDateLeaf kind chars b → a ≡ b
one_date kind chars (Bytes a) (Bytes b) h g = ap Bytes (one_collapsed chars a b h.0 g.0)
one_date kind chars (Bytes a) b h g = absurd g
one_date kind chars a b h g = absurd h

pub one_leaf : (kind : Kind) (chars : List ℕ) (a b : Leaf) → IsLeaf kind chars a → IsLeaf kind chars b → a ≡ b
one_leaf Text chars a b h g = one_text chars a b h g
one_leaf Decimal chars a b h g = one_decimal chars a b h g
one_leaf Boolean chars a b h g = one_boolean chars a b h g
one_leaf Binary chars a b h g = one_binary chars a b h g
one_leaf Date chars a b h g = one_date Date chars a b h g
one_leaf DateTime chars a b h g = one_date DateTime chars a b h g
one_leaf Time chars a b h g = one_date Time chars a b h g
one_leaf Year chars a b h g = one_date Year chars a b h g
one_leaf YearMonth chars a b h g = one_date YearMonth chars a b h g
one_leaf MonthDay chars a b h g = one_date MonthDay chars a b h g
one_leaf Month chars a b h g = one_date Month chars a b h g
one_leaf Day chars a b h g = one_date Day chars a b h g
one_leaf Envelope chars a b h g = absurd h
