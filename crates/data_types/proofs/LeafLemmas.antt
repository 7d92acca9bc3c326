-- The leaf that is kept, a character at a time, and its answers.
use Rattle.std.proofs.Common.{◌≡◌, ℕ, ◌+◌, ◌≤◌, ◌⊎◌, inl, inr, Bool, true, false, List, [], ◌∷◌, ◌++◌, length, Option, Result, Ok, Err, refl, sym, ap, subst, ◌∙◌, length-append, arith, ◌==◌}
use Rattle.std.proofs.lemmas.List.Elements.{filter-append}
use Rattle.std.proofs.lemmas.Str.{encodes-append}
use Rattle.std.proofs.lemmas.Bool.Decides.{nat_tests}
use Rattle.std.specs.Prelude.{encode_utf8, encode_utf8_all}
use Rattle.std.specs.List.{AllByRecursion}
use Rattle.base64.specs.Engines.{standard}
use Rattle.base64.specs.GeneralPurpose.{IsBytes, encode_of}
use Rattle.lexical_core.proofs.ReadSoFar.{AllByRecursion-append, encodes-push}
use Rattle.lexical_core.specs.Characters.{IsXmlChar, IsSpace}
use Rattle.lexical_core.specs.Decimals.{Number as DecimalNumber, IsDecimal, IsDecimalText, SpellsDecimal}
use Rattle.lexical_core.specs.declared.rule.Rule.{Rule}
use Rattle.lexical_core.specs.declared.rule.Rule.TheVariants.{BadText, BadLength}
use Rattle.data_types.specs.declared.kept.Kept.{Kept}
use Rattle.data_types.specs.declared.kind.Kind.{Kind}
use Rattle.data_types.specs.declared.kind.Kind.TheVariants as kind
use Rattle.data_types.specs.declared.collapse.Collapsed.{Collapsed}
use Rattle.data_types.specs.declared.collapse.Collapsed.TheVariants.{Nothing, Char, SpaceAndChar}
use Rattle.data_types.specs.declared.collapsed_step.Value.{Value}
use Rattle.data_types.specs.declared.collapsed_step.Value.TheVariants.{Octets}
use Rattle.data_types.specs.declared.octets.OctetStep.{OctetStep}
use Rattle.data_types.specs.WhiteSpace.{IsCollapsed}
use Rattle.data_types.specs.Binaries.{IsBinaryText, without_spaces}
use Rattle.data_types.specs.Collapsing.{gain_of, gap_text}
use Rattle.data_types.specs.Limits.{IsWithin}
use Rattle.data_types.specs.Kept.{Holds}
use Rattle.data_types.specs.OctetSteps.{HasDecoded, IsOctetFault, IsTextCount}
use Rattle.data_types.specs.Leaf.{Leaf, Bytes, Number, IsDecimalLeaf, IsBinaryLeaf, HasDecimalForm, HasLeafForm}
use Rattle.data_types.specs.LeafAnswers.{IsLeafAnswer, IsOctetCount}
use Rattle.data_types.specs.LeafSteps.{HasValue, IsText}
use Rattle.data_types.proofs.CollapseLaw.{one_collapsed}

-- ---- texts

all_push : (P : ℕ → Type 0) (xs : List ℕ) (x : ℕ) → AllByRecursion P xs → P x → AllByRecursion P (xs ++ x ∷ [])
all_push P [] x a p = (p, tt)
all_push P (y ∷ ys) x a p = (a.0, all_push P ys x a.1 p)

pub text_taken : (old now : Kept) (bytes : List ℕ) (c : ℕ) → bytes ≡ encode_utf8 c → IsXmlChar c
    → ((most : Option ℕ) (before : ℕ) (all : List ℕ) → Holds old most before all → Holds now most (before + 1) (all ++ bytes))
    → (most : Option ℕ) (chars : List ℕ) → IsText old most chars → IsText now most (chars ++ c ∷ [])
text_taken old now bytes c code xml takes most chars has =
    let joined : encode_utf8_all chars ++ bytes ≡ encode_utf8_all (chars ++ c ∷ []) = ap (λ b. encode_utf8_all chars ++ b) code ∙ sym (encodes-push chars c) in
    let count : length chars + 1 ≡ length (chars ++ c ∷ []) = sym (length-append chars (c ∷ [])) in (
      all_push IsXmlChar chars c has.0 xml,
      subst (λ n. Holds now most n (encode_utf8_all (chars ++ c ∷ []))) count
          (subst (λ t. Holds now most (length chars + 1) t) joined (takes most (length chars) (encode_utf8_all chars) has.1)),
    )

pub run_taken : (old now : Kept) (bytes cs : List ℕ) (count : ℕ) → bytes ≡ encode_utf8_all cs → length cs ≡ count → AllByRecursion IsXmlChar cs
    → ((most : Option ℕ) (before : ℕ) (all : List ℕ) → Holds old most before all → Holds now most (before + count) (all ++ bytes))
    → (most : Option ℕ) (chars : List ℕ) → IsText old most chars → IsText now most (chars ++ cs)
run_taken old now bytes cs count code size xml takes most chars has =
    let joined : encode_utf8_all chars ++ bytes ≡ encode_utf8_all (chars ++ cs) = ap (λ b. encode_utf8_all chars ++ b) code ∙ sym (encodes-append chars cs) in
    let total : length chars + count ≡ length (chars ++ cs) = omega (arith, size, length-append chars cs) in (
      AllByRecursion-append IsXmlChar chars cs has.0 xml,
      subst (λ n. Holds now most n (encode_utf8_all (chars ++ cs))) total
          (subst (λ t. Holds now most (length chars + count) t) joined (takes most (length chars) (encode_utf8_all chars) has.1)),
    )

-- ---- octets

-- a character that is gained is no space
no_spaces_in : (gain : Collapsed) (c : ℕ) → (IsSpace c → gain ≡ Nothing) → (gain ≡ Char) ⊎ (gain ≡ SpaceAndChar) → without_spaces (gain_of gain c) ≡ c ∷ []
no_spaces_in gain c space (inl e) = rw e (other c (λ s. let same = sym (space s) ∙ e in absurd cc))
  where
    other : (c : ℕ) → (IsSpace c → ⊥) → without_spaces (c ∷ []) ≡ c ∷ []
    other c none = let no : (c == 32) ≡ false = grind (arith, nat_tests) in rw no refl
no_spaces_in gain c space (inr e) = rw e (other c (λ s. let same = sym (space s) ∙ e in absurd cc))
  where
    other : (c : ℕ) → (IsSpace c → ⊥) → without_spaces (c ∷ []) ≡ c ∷ []
    other c none = let no : (c == 32) ≡ false = grind (arith, nat_tests) in rw no refl

pub octets_taken : (old now : OctetStep) (gain : Collapsed) (c : ℕ) → (IsSpace c → gain ≡ Nothing) → (gain ≡ Char) ⊎ (gain ≡ SpaceAndChar)
    → ((most : Option ℕ) (text : List ℕ) → HasDecoded old most text → HasDecoded now most (text ++ c ∷ []))
    → (most : Option ℕ) (text : List ℕ) → HasDecoded old most (without_spaces text) → HasDecoded now most (without_spaces (text ++ gain_of gain c))
octets_taken old now gain c space some step most text h =
    let same : without_spaces (text ++ gain_of gain c) ≡ without_spaces text ++ c ∷ [] =
    filter-append _ text (gain_of gain c) ∙ ap (λ t. without_spaces text ++ t) (no_spaces_in gain c space some) in
    subst (HasDecoded now most) (sym same) (step most (without_spaces text) h)

pub octets_kept : (body : Value) (step now : OctetStep) (gain : Collapsed) (c : ℕ) → body ≡ Octets step
    → ((most : Option ℕ) (text : List ℕ) → HasDecoded step most (without_spaces text) → HasDecoded now most (without_spaces (text ++ gain_of gain c)))
    → length now.kept.bytes.held + now.count ≤ length step.kept.bytes.held + step.count + 1
    → (k : Kind) (most : Option ℕ) (chars collapsed : List ℕ) → HasValue k body most chars collapsed
    → (k ≡ kind.Binary) × HasDecoded now most (without_spaces (collapsed ++ gain_of gain c)) × (length now.kept.bytes.held + now.count ≤ length (chars ++ c ∷ []))
octets_kept body step now gain c is grows bound k most chars collapsed has =
    let held = subst (λ (b : Value). HasValue k b most chars collapsed) is has in
    let few = held.2 in
    (held.0, grows most collapsed held.1, omega (arith, few, bound, length-append chars (c ∷ [])))

-- a word has no spaces
no_spaces_among : (word : List ℕ) → AllByRecursion (λ c. IsSpace c → ⊥) word → without_spaces word ≡ word
no_spaces_among [] none = refl
no_spaces_among (c ∷ word) none =
    let no : (c == 32) ≡ false = not_space c none.0 in rw no (ap (λ t. c ∷ t) (no_spaces_among word none.1))
  where
    not_space : (c : ℕ) → (IsSpace c → ⊥) → (c == 32) ≡ false
    not_space c none = grind (arith, nat_tests)

no_space_gap : (gap : Bool) (word : List ℕ) → AllByRecursion (λ c. IsSpace c → ⊥) word → without_spaces (gap_text gap ++ word) ≡ word
no_space_gap true word none = no_spaces_among word none
no_space_gap false word none = no_spaces_among word none

pub word_kept : (body : Value) (step now : OctetStep) (gap : Bool) (word : List ℕ) → body ≡ Octets step → AllByRecursion (λ c. IsSpace c → ⊥) word
    → ((most : Option ℕ) (text : List ℕ) → HasDecoded step most text → HasDecoded now most (text ++ word))
    → length now.kept.bytes.held + now.count ≤ length step.kept.bytes.held + step.count + length word
    → (k : Kind) (most : Option ℕ) (chars collapsed : List ℕ) → HasValue k body most chars collapsed
    → (k ≡ kind.Binary) × HasDecoded now most (without_spaces (collapsed ++ (gap_text gap ++ word))) × (length now.kept.bytes.held + now.count ≤ length (chars ++ word))
word_kept body step now gap word is none grows bound k most chars collapsed has =
    let held = subst (λ (b : Value). HasValue k b most chars collapsed) is has in
    let few = held.2 in
    let same : without_spaces (collapsed ++ (gap_text gap ++ word)) ≡ without_spaces collapsed ++ word =
    filter-append _ collapsed (gap_text gap ++ word) ∙ ap (λ t. without_spaces collapsed ++ t) (no_space_gap gap word none) in
    (held.0, subst (HasDecoded now most) (sym same) (grows most (without_spaces collapsed) held.1), omega (arith, few, bound, length-append chars word))

binary_in : (chars text : List ℕ) (leaf : Leaf) → IsCollapsed chars text → IsBinaryLeaf chars leaf → (octets : List ℕ) × IsBinaryText octets text
binary_in chars text (Bytes octets) collapsed (t, c, is) = (octets, subst (IsBinaryText octets) (one_collapsed chars t text c collapsed) is)
binary_in chars text leaf collapsed h = absurd h

pub binary_none : (chars text : List ℕ) → IsCollapsed chars text → ((octets : List ℕ) → IsBytes octets → without_spaces text ≡ encode_of standard octets → ⊥) → HasLeafForm kind.Binary chars → ⊥
binary_none chars text collapsed none (leaf, h) = let b = binary_in chars text leaf collapsed h in none b.0 b.1.0 b.1.1

-- the octets are the leaf, within the limit or past it
pub binary_within : (most : Option ℕ) (chars text octets : List ℕ) → IsCollapsed chars text
    → IsBytes octets × (without_spaces text ≡ encode_of standard octets) × IsWithin most (length octets)
    → IsBinaryLeaf chars (Bytes octets) × IsWithin most (length octets)
binary_within most chars text octets collapsed (bytes, is, within) = ((text, collapsed, (bytes, is)), within)

pub binary_fault : (most : Option ℕ) (chars text : List ℕ) (rule : Rule) → IsCollapsed chars text
    → IsOctetFault most (without_spaces text) rule → IsLeafAnswer kind.Binary most chars (Err rule)
binary_fault most chars text BadText collapsed none = binary_none chars text collapsed none
binary_fault most chars text BadLength collapsed (octets, bytes, is, past) = (Bytes octets, (text, collapsed, (bytes, is)), past)
binary_fault most chars text rule collapsed none = absurd none

-- the octets are counted, however many they are
pub binary_count : (chars text : List ℕ) (result : Result (Option ℕ) Rule) → IsCollapsed chars text → IsTextCount (without_spaces text) result
    → IsOctetCount kind.Binary chars result
binary_count chars text (Ok count) collapsed (octets, bytes, is, counted) = (octets, (text, collapsed, (bytes, is)), counted)
binary_count chars text (Err BadText) collapsed none = binary_none chars text collapsed none
binary_count chars text (Err rule) collapsed none = absurd none

-- ---- decimals

pub decimal_none : (chars text : List ℕ) → IsCollapsed chars text → (IsDecimalText text → ⊥) → HasDecimalForm chars → ⊥
decimal_none chars text collapsed none (t, c, is) = none (subst IsDecimalText (one_collapsed chars t text c collapsed) is)

pub decimal_long : (chars text : List ℕ) → IsCollapsed chars text → ((n : DecimalNumber) → IsDecimal n → SpellsDecimal text n → ⊥) → (leaf : Leaf) → IsDecimalLeaf chars leaf → ⊥
decimal_long chars text collapsed none (Number n) (t, c, is, spells) = none n is (subst (λ t. SpellsDecimal t n) (one_collapsed chars t text c collapsed) spells)
decimal_long chars text collapsed none leaf h = absurd h
