-- A leaf fits a simple type exactly where it is a value of the type that the module has for it.
use Rattle.std.proofs.Common.{◌≡◌, ℕ, zero, suc, ◌≤◌, List, length, Option, Some, None, MatchOption, refl, sym, subst, ◌∙◌, arith}
use Rattle.std.specs.Str.{chars}
use Rattle.lexical_core.specs.Decimals.{Number as DecimalNumber, IsDecimal}
use Rattle.lexical_core.specs.declared.rule.Rule.TheVariants.{BadLength, PatternFails, Digits, OutOfRange}
use Rattle.pattern_match.specs.Building.{position_limit}
use Rattle.pattern_match.specs.Reading.{Matches, HasPositionsWithin}
use Rattle.data_types.specs.WhiteSpace.{IsCollapsed}
use Rattle.data_types.specs.Leaf.{Leaf, Bytes, Number, Flag, IsLeaf, IsTextLeaf, IsDateLeaf, length_of}
use Rattle.data_types.specs.LeafSteps.{IsShortKind}
use Rattle.data_types.specs.declared.kind.Kind.{Kind}
use Rattle.data_types.specs.declared.kind.Kind.TheVariants as kind
use Rattle.data_types.proofs.CollapseLaw.{one_collapsed}
use Rattle.data_types.proofs.LeavesByKind.{binary_leaves, date_leaves, flag_leaves}
use Rattle.facets.specs.declared.simple.Simple.{Simple}
use Rattle.facets.specs.Facets.{HasLength, HasDigits, IsInRange}
use Rattle.facets.specs.Rules.{BreaksLength, BreaksPattern, BreaksDigits, BreaksRange, HasLengths, IsAsked}
use Rattle.facets.specs.LeafUnder.{Fits, IsLeafBy}
use Rattle.facets.specs.Steps.{least_written}
use Rattle.facets.specs.PatternChecks.{IsDateKind}
use Rattle.facets.proofs.ValueLemmas.{number_fits, octets_fit}
use Rattle.facets.proofs.RuleLemmas.{has_form, one_number}
use Rattle.facets.proofs.TextRules.{text_given, short_given}
use Rattle.facets.proofs.FitLemmas.{given_fits}
use Rattle.facets.proofs.PatternLemmas.{date_is_short, date_asked}
use Rattle.xsd_model.proofs.Decided.{stable, matches_decided, length_decided, digits_decided, range_decided}
use Rattle.asn1_model.specs.Constraints.{HasSize, HasFewDigits, IsWithinRange, HasPattern, IsTextValue, IsRealValue, IsBooleanValue, IsOctetsValue, IsDateValue}
use Rattle.asn1_model.specs.ModuleOf.{sized_step, number_step}
use Rattle.asn1_model.specs.Sound.{IsSoundSimpleType}

-- ---- what the rules that are not broken ask

size_of_length : (s : Simple) (n : ℕ) → HasLength s n → HasSize (sized_step s) n
size_of_length s n h = record { least = least s.min h.least; most = h.most }
  where
    least : (min : ℕ) → min ≤ n → MatchOption (least_written min) (Unit {0}) (λ m. m ≤ n)
    least zero le = tt
    least (suc m) le = le

length_of_size : (s : Simple) (n : ℕ) → HasSize (sized_step s) n → HasLength s n
length_of_size s n h = record { least = least s.min h.least; most = h.most }
  where
    least : (min : ℕ) → MatchOption (least_written min) (Unit {0}) (λ m. m ≤ n) → min ≤ n
    least zero le = omega arith
    least (suc m) le = le

pattern_held : (pattern : Option (List ℕ)) (w : List ℕ) → ((p : List ℕ) → pattern ≡ Some p → HasPositionsWithin (chars p) position_limit)
    → ((p : List ℕ) → pattern ≡ Some p → ((Matches (chars p) w → ⊥) → ⊥)) → HasPattern pattern w
pattern_held None w sound h = tt
pattern_held (Some p) w sound h = stable (matches_decided p w (sound p refl)) (h p refl)

pattern_has : (pattern : Option (List ℕ)) (p w : List ℕ) → pattern ≡ Some p → HasPattern pattern w → Matches (chars p) w
pattern_has None p w e h = absurd cc
pattern_has (Some q) p w e h = let same : q ≡ p = cc in subst (λ x. Matches (chars x) w) same h

-- ---- texts

pub leaf_in : (s : Simple) (k : Kind) (codes : Option (List (List ℕ))) (text : List ℕ) (leaf : Leaf) → s.kind ≡ k → s.codes ≡ codes → IsLeafBy s.kind s.codes text leaf → IsLeafBy k codes text leaf
leaf_in s k codes text leaf e c h = subst (λ (o : Option (List (List ℕ))). IsLeafBy k o text leaf) c (subst (λ (x : Kind). IsLeafBy x s.codes text leaf) e h)

text_length : (s : Simple) (text : List ℕ) (leaf : Leaf) → s.kind ≡ kind.Text → s.codes ≡ None → IsTextLeaf text leaf → (BreaksLength s text → ⊥) → HasLength s (length text)
text_length s text leaf e none spelled sound = stable (length_decided s (length text)) (λ none_is. sound (
  subst (λ (k : Kind). HasLengths k s.codes) (sym e) none,
  leaf,
  subst (λ (k : Kind). IsLeaf k text leaf) (sym e) spelled,
  subst (λ (k : Kind). HasLength s (length_of k text leaf) → ⊥) (sym e) none_is,
))

text_pattern : (s : Simple) (text : List ℕ) → IsSoundSimpleType s → s.kind ≡ kind.Text → s.codes ≡ None → (BreaksPattern s text → ⊥) → HasPattern s.pattern text
text_pattern s text sound e none h =
    pattern_held s.pattern text sound.pattern (λ p is none_is. h (p, text, is, subst (λ (k : Kind). IsAsked k s.codes text text) (sym e) (none, refl), none_is))

text_value : (s : Simple) (text : List ℕ) (leaf : Leaf) → IsTextLeaf text leaf → HasLength s (length text) → HasPattern s.pattern text → IsTextValue (sized_step s) s.pattern leaf
text_value s text (Bytes b) (all, is) within matches = (text, all, is, size_of_length s (length text) within, matches)
text_value s text leaf spelled within matches = absurd spelled

pub text_there : (s : Simple) (leaf : Leaf) → IsSoundSimpleType s → s.kind ≡ kind.Text → s.codes ≡ None → Fits s leaf → IsTextValue (sized_step s) s.pattern leaf
text_there s leaf sound e none (text, canonical, given) =
    let spelled : IsTextLeaf text leaf = leaf_in s kind.Text None text leaf e none given.spelled in
    text_value s text leaf spelled (text_length s text leaf e none spelled (given.sound BadLength)) (text_pattern s text sound e none (given.sound PatternFails))

no_break : (s : Simple) (text : List ℕ) → s.kind ≡ kind.Text → HasPattern s.pattern text → BreaksPattern s text → ⊥
no_break s text e held (p, asked, is, ask, none_is) =
    let same : asked ≡ text = (subst (λ (k : Kind). IsAsked k s.codes text asked) e ask).1 in
    none_is (subst (λ w. Matches (chars p) w) (sym same) (pattern_has s.pattern p text is held))

pub text_back : (s : Simple) (leaf : Leaf) → s.kind ≡ kind.Text → s.codes ≡ None → IsTextValue (sized_step s) s.pattern leaf → Fits s leaf
text_back s (Bytes b) e none (text, all, is, size, matches) =
    given_fits s text (Bytes b) (text_given s text (Bytes b) e none all (length_of_size s (length text) size) (no_break s text e matches) (all, is))
text_back s leaf e none h = absurd h

-- ---- numbers

number_leaf : (text : List ℕ) (leaf : Leaf) → IsLeaf kind.Decimal text leaf → (n : DecimalNumber) × (leaf ≡ Number n) × IsDecimal n
number_leaf text (Number n) h = (n, refl, h.2)
number_leaf text leaf h = absurd h

step_digits : (s : Simple) (n : DecimalNumber) → HasDigits s n → HasFewDigits (number_step s) n
step_digits s n h = record { total = (h.total, h.scale); fraction = h.fraction }

digits_step : (s : Simple) (n : DecimalNumber) → HasFewDigits (number_step s) n → HasDigits s n
digits_step s n h = record { total = h.total.0; scale = h.total.1; fraction = h.fraction }

step_range : (s : Simple) (n : DecimalNumber) → IsInRange s n → IsWithinRange (number_step s) n
step_range s n h = record { low = h.low; high = h.high }

range_step : (s : Simple) (n : DecimalNumber) → IsWithinRange (number_step s) n → IsInRange s n
range_step s n h = record { low = h.low; high = h.high }

digits_held : (s : Simple) (text : List ℕ) (n : DecimalNumber) → s.kind ≡ kind.Decimal → IsLeaf kind.Decimal text (Number n) → (BreaksDigits s text → ⊥) → HasDigits s n
digits_held s text n e spelled sound =
    stable (digits_decided s n) (λ none_is. sound (e, has_form kind.Decimal text (Number n) spelled, λ m is has. none_is (subst (HasDigits s) (one_number text m n is spelled) has)))

range_held : (s : Simple) (text : List ℕ) (n : DecimalNumber) → s.kind ≡ kind.Decimal → IsLeaf kind.Decimal text (Number n) → (BreaksRange s text → ⊥) → IsInRange s n
range_held s text n e spelled sound = stable (range_decided s n) (λ none_is. sound (e, n, spelled, none_is))

decimal_in : (s : Simple) (text : List ℕ) (leaf : Leaf) → s.kind ≡ kind.Decimal → IsLeafBy s.kind s.codes text leaf → IsLeaf kind.Decimal text leaf
decimal_in s text leaf e h = subst (λ (x : Kind). IsLeafBy x s.codes text leaf) e h

pub number_there : (s : Simple) (leaf : Leaf) → s.kind ≡ kind.Decimal → Fits s leaf → IsRealValue (number_step s) leaf
number_there s leaf e (text, canonical, given) = go leaf (number_leaf text leaf (decimal_in s text leaf e given.spelled)) (decimal_in s text leaf e given.spelled)
  where
    go : (leaf : Leaf) → (n : DecimalNumber) × (leaf ≡ Number n) × IsDecimal n → IsLeaf kind.Decimal text leaf → IsRealValue (number_step s) leaf
    go leaf (n, same, is) spelled =
        let here : IsLeaf kind.Decimal text (Number n) = subst (IsLeaf kind.Decimal text) same spelled in
        subst (IsRealValue (number_step s)) (sym same) (
          is,
          step_digits s n (digits_held s text n e here (given.sound Digits)),
          step_range s n (range_held s text n e here (given.sound OutOfRange)),
        )

pub number_back : (s : Simple) (leaf : Leaf) → s.kind ≡ kind.Decimal → IsRealValue (number_step s) leaf → Fits s leaf
number_back s (Number n) e (is, digits, range) = number_fits s n is e (digits_step s n digits) (range_step s n range)
number_back s leaf e h = absurd h

-- ---- octets

pub octets_there : (s : Simple) (leaf : Leaf) → s.kind ≡ kind.Binary → Fits s leaf → IsOctetsValue (sized_step s) leaf
octets_there s leaf e (text, canonical, given) = go leaf (subst (λ (x : Kind). IsLeafBy x s.codes text leaf) e given.spelled)
  where
    go : (leaf : Leaf) → IsLeaf kind.Binary text leaf → IsOctetsValue (sized_step s) leaf
    go (Bytes o) spelled = (
      (binary_leaves o).0 (text, spelled),
      size_of_length s (length o) (stable (length_decided s (length o)) (λ none_is. given.sound BadLength (
        subst (λ (k : Kind). HasLengths k s.codes) (sym e) tt,
        Bytes o,
        subst (λ (k : Kind). IsLeaf k text (Bytes o)) (sym e) spelled,
        subst (λ (k : Kind). HasLength s (length_of k text (Bytes o)) → ⊥) (sym e) none_is,
      ))),
    )
    go leaf spelled = absurd spelled

pub octets_back : (s : Simple) (leaf : Leaf) → s.kind ≡ kind.Binary → IsOctetsValue (sized_step s) leaf → Fits s leaf
octets_back s (Bytes o) e (is, size) = octets_fit s o is e (length_of_size s (length o) size)
octets_back s leaf e h = absurd h

-- ---- truth values, dates and times

pub boolean_there : (s : Simple) (leaf : Leaf) → s.kind ≡ kind.Boolean → Fits s leaf → IsBooleanValue leaf
boolean_there s leaf e (text, canonical, given) = go leaf (subst (λ (x : Kind). IsLeafBy x s.codes text leaf) e given.spelled)
  where
    go : (leaf : Leaf) → IsLeaf kind.Boolean text leaf → IsBooleanValue leaf
    go (Flag f) spelled = tt
    go leaf spelled = absurd spelled

boolean_short : (s : Simple) → s.kind ≡ kind.Boolean → IsShortKind s.kind
boolean_short s e = record {
  no_text = λ t. let x : kind.Boolean ≡ kind.Text = sym e ∙ t in absurd cc;
  no_decimal = λ t. let x : kind.Boolean ≡ kind.Decimal = sym e ∙ t in absurd cc;
  no_binary = λ t. let x : kind.Boolean ≡ kind.Binary = sym e ∙ t in absurd cc;
}

pub boolean_back : (s : Simple) (leaf : Leaf) → s.kind ≡ kind.Boolean → IsBooleanValue leaf → Fits s leaf
boolean_back s (Flag f) e h =
    let own = flag_leaves f in
    given_fits s own.0 (Flag f) (short_given s own.0 (Flag f) (boolean_short s e) (subst (λ (k : Kind). IsLeaf k own.0 (Flag f)) (sym e) own.1)
    (λ (p, asked, is, ask, none_is). let none : ⊥ = subst (λ (k : Kind). IsAsked k s.codes own.0 asked) e ask in none))
boolean_back s leaf e h = absurd h

asked_date : (k : Kind) (codes : Option (List (List ℕ))) (text asked : List ℕ) → IsDateKind k → IsAsked k codes text asked → IsCollapsed text asked
asked_date kind.Text codes text asked d c = absurd d
asked_date kind.Decimal codes text asked d c = absurd d
asked_date kind.Boolean codes text asked d c = absurd d
asked_date kind.Binary codes text asked d c = absurd d
asked_date kind.Envelope codes text asked d c = absurd d
asked_date k codes text asked d c = c

date_in : (k : Kind) (codes : Option (List (List ℕ))) (text : List ℕ) (leaf : Leaf) → IsDateKind k → IsLeafBy k codes text leaf → IsDateLeaf k text leaf
date_in kind.Text codes text leaf d h = absurd d
date_in kind.Decimal codes text leaf d h = absurd d
date_in kind.Boolean codes text leaf d h = absurd d
date_in kind.Binary codes text leaf d h = absurd d
date_in kind.Envelope codes text leaf d h = absurd d
date_in k codes text leaf d h = h

pub date_there : (s : Simple) (leaf : Leaf) → IsSoundSimpleType s → IsDateKind s.kind → Fits s leaf → IsDateValue s.kind s.pattern leaf
date_there s leaf sound d (text, canonical, given) = go leaf (date_in s.kind s.codes text leaf d given.spelled)
  where
    go : (leaf : Leaf) → IsDateLeaf s.kind text leaf → IsDateValue s.kind s.pattern leaf
    go (Bytes b) (collapsed, is) = (is, pattern_held s.pattern b sound.pattern (λ p e none_is. given.sound PatternFails (p, b, e, (date_asked s.kind s.codes text b d).1 collapsed, none_is)))
    go leaf h = absurd h

pub date_back : (s : Simple) (leaf : Leaf) → IsDateKind s.kind → IsDateValue s.kind s.pattern leaf → Fits s leaf
date_back s (Bytes b) d (is, held) =
    let own = (date_leaves s.kind b (λ e. subst IsDateKind e d) (λ e. subst IsDateKind e d)).1 is in
    let spelled : IsDateLeaf s.kind own.0 (Bytes b) = date_in s.kind None own.0 (Bytes b) d (leaf_none s.kind own.0 (Bytes b) d own.1) in
    given_fits s own.0 (Bytes b) (short_given s own.0 (Bytes b) (date_is_short s.kind d) own.1
    (λ (p, asked, e, ask, none_is). none_is (subst (λ w. Matches (chars p) w) (one_collapsed own.0 b asked spelled.0 (asked_date s.kind s.codes own.0 asked d ask)) (pattern_has s.pattern p b e held))))
  where
    leaf_none : (k : Kind) (text : List ℕ) (leaf : Leaf) → IsDateKind k → IsLeaf k text leaf → IsLeafBy k None text leaf
    leaf_none kind.Text text leaf d h = absurd d
    leaf_none k text leaf d h = h
date_back s leaf d h = absurd h
