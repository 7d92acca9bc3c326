-- Every text has a collapsed text, and one without white space that is as long as the text is the text.
use Rattle.std.proofs.Common.{◌≡◌, ℕ, ◌≤◌, ◌⊎◌, inl, inr, List, [], ◌∷◌, ◌++◌, length, flat_map, refl, sym, ap, subst, ◌∙◌, arith, append_assoc, append-nil, length-append}
use Rattle.std.proofs.lemmas.Bool.{cases_eq}
use Rattle.std.specs.List.{AllByRecursion}
use Rattle.lexical_core.specs.Characters.{IsSpace}
use Rattle.data_types.specs.declared.collapse.Place.{Place}
use Rattle.data_types.specs.declared.collapse.Place.TheVariants.{Before, Within, Behind}
use Rattle.data_types.specs.WhiteSpace.{SpacedWord, spaced_word_text, join_words, words_of, IsCollapsed}
use Rattle.data_types.specs.Collapsing.{HasCollapsedAt}
use Rattle.data_types.proofs.CollapseLemmas.{space_within, space_behind, char_before, char_within, char_behind, all_push, is_collapsed}

space_or_none : (c : ℕ) → IsSpace c ⊎ (IsSpace c → ⊥)
space_or_none c =
    elim (cases_eq c 32) [
      | inl e ↦ inl (inl e)
      | inr space ↦
          elim (cases_eq c 9) [
            | inl e ↦ inl (inr (inl e))
            | inr tab ↦
                elim (cases_eq c 10) [
                  | inl e ↦ inl (inr (inr (inl e)))
                  | inr feed ↦
                      elim (cases_eq c 13) [
                        | inl e ↦ inl (inr (inr (inr e)))
                        | inr return ↦ inr (none_of c space tab feed return)
                      ]
                ]
          ]
    ]
  where
    none_of : (c : ℕ) → (c ≡ 32 → ⊥) → (c ≡ 9 → ⊥) → (c ≡ 10 → ⊥) → (c ≡ 13 → ⊥) → IsSpace c → ⊥
    none_of c space tab feed return (inl e) = space e
    none_of c space tab feed return (inr (inl e)) = tab e
    none_of c space tab feed return (inr (inr (inl e))) = feed e
    none_of c space tab feed return (inr (inr (inr e))) = return e

-- what a text collapses to so far
record Sofar (text : List ℕ) : Type 0 where
  place : Place
  collapsed : List ℕ
  has : HasCollapsedAt place text collapsed

sofar_space : (text : List ℕ) (c : ℕ) (place : Place) (collapsed : List ℕ) → IsSpace c → HasCollapsedAt place text collapsed → Sofar (text ++ c ∷ [])
sofar_space text c Before collapsed space h = record { place = Before; collapsed = []; has = (all_push IsSpace text c h.0 space, refl) }
sofar_space text c Within collapsed space h = record { place = Behind; collapsed = collapsed; has = space_within c text collapsed space h }
sofar_space text c Behind collapsed space h = record { place = Behind; collapsed = collapsed; has = space_behind c text collapsed space h }

sofar_char : (text : List ℕ) (c : ℕ) (place : Place) (collapsed : List ℕ) → (IsSpace c → ⊥) → HasCollapsedAt place text collapsed → Sofar (text ++ c ∷ [])
sofar_char text c Before collapsed none h = record { place = Within; collapsed = collapsed ++ c ∷ []; has = char_before c text collapsed none h }
sofar_char text c Within collapsed none h = record { place = Within; collapsed = collapsed ++ c ∷ []; has = char_within c text collapsed none h }
sofar_char text c Behind collapsed none h = record { place = Within; collapsed = collapsed ++ 32 ∷ c ∷ []; has = char_behind c text collapsed none h }

sofar_more : (text : List ℕ) (c : ℕ) → Sofar text → Sofar (text ++ c ∷ [])
sofar_more text c s = elim (space_or_none c) [
  | inl space ↦ sofar_space text c s.place s.collapsed space s.has
  | inr none ↦ sofar_char text c s.place s.collapsed none s.has
]

sofar_all : (text more : List ℕ) → Sofar text → Sofar (text ++ more)
sofar_all text [] s = subst Sofar (sym (append-nil text)) s
sofar_all text (c ∷ more) s = subst Sofar (append_assoc text (c ∷ []) more) (sofar_all (text ++ c ∷ []) more (sofar_more text c s))

pub has_collapsed : (text : List ℕ) → (collapsed : List ℕ) × IsCollapsed text collapsed
has_collapsed text =
    let s = sofar_all [] text (record { place = Before; collapsed = []; has = (tt, refl) }) in
    (s.collapsed, is_collapsed s.place text s.collapsed s.has)

-- ---- of the same length

none_left : (xs : List ℕ) → length xs ≤ 0 → xs ≡ []
none_left [] few = refl
none_left (x ∷ xs) few = absurd (omega (arith, few))

no_space_behind : (xs ys : List ℕ) → AllByRecursion (λ c. IsSpace c → ⊥) (xs ++ 32 ∷ ys) → ⊥
no_space_behind [] ys none = none.0 (inl refl)
no_space_behind (x ∷ xs) ys none = no_space_behind xs ys none.1

same_by : (parts : List SpacedWord) (text collapsed rest : List ℕ) → AllByRecursion (λ c. IsSpace c → ⊥) collapsed → text ≡ flat_map spaced_word_text parts ++ rest
    → collapsed ≡ join_words (words_of parts) → length collapsed ≡ length text → collapsed ≡ text
same_by [] text collapsed rest none spelled is size = is ∙ sym (none_left text (omega (arith, size, ap length is)))
same_by (p ∷ []) text collapsed rest none spelled is size =
    let whole : text ≡ (p.gap ++ p.word) ++ rest = spelled ∙ ap (λ t. t ++ rest) (append-nil (p.gap ++ p.word)) in
    let all = ap length whole ∙ length-append (p.gap ++ p.word) rest in
    let front = length-append p.gap p.word in
    let word = ap length is in
    let gap : p.gap ≡ [] = none_left p.gap (omega (arith, all, front, word, size)) in
    let behind : rest ≡ [] = none_left rest (omega (arith, all, front, word, size)) in
    is ∙ sym (whole ∙ (ap (λ t. (p.gap ++ p.word) ++ t) behind ∙ (append-nil (p.gap ++ p.word) ∙ ap (λ t. t ++ p.word) gap)))
same_by (p ∷ q ∷ parts) text collapsed rest none spelled is size =
    absurd (no_space_behind p.word (join_words (words_of (q ∷ parts))) (subst (AllByRecursion (λ c. IsSpace c → ⊥)) is none))

pub collapsed_same : (text collapsed : List ℕ) → AllByRecursion (λ c. IsSpace c → ⊥) collapsed → IsCollapsed text collapsed → length collapsed ≡ length text → collapsed ≡ text
collapsed_same text collapsed none (parts, rest, are, spaces, spelled, is) size = same_by parts text collapsed rest none spelled is size
