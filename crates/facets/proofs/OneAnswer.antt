-- Characters spell one leaf under a simple type, or break one rule first.
use Rattle.std.proofs.Common.{◌≡◌, ◌<◌, ◌==◌, ℕ, cond, List, [], Option, Some, MatchOption, Result, Ok, Err, refl, sym, ap, ◌∙◌, arith}
use Rattle.std.specs.Prelude.{slice_get, encode_utf8_all}
use Rattle.std.specs.Ordering.{nat_cmp, ordering_reverse}
use Rattle.std.specs.declared.cmp.Ordering.TheVariants.{Less}
use Rattle.std.specs.Cmp.Lexicographic.{slice_cmp}
use Rattle.std.proofs.lemmas.Cmp.{nat_list_cmp_total}
use Rattle.std.proofs.lemmas.Map.Keys.{Less-from_sorted}
use Rattle.std.proofs.lemmas.Option.{slice_get_within, get_or_from_slice_get}
use Rattle.lexical_core.specs.Rules.{number_of}
use Rattle.lexical_core.specs.declared.rule.Rule.{Rule}
use Rattle.lexical_core.specs.declared.rule.Rule.TheVariants.{BadText, BadLength, PatternFails, NotACode, Digits, OutOfRange}
use Rattle.data_types.specs.Leaf.{Leaf, Code}
use Rattle.data_types.specs.declared.kind.Kind.{Kind}
use Rattle.data_types.specs.declared.kind.Kind.TheVariants as kind
use Rattle.data_types.proofs.LeafLaws.{one_leaf}
use Rattle.facets.specs.declared.simple.Simple.{Simple}
use Rattle.facets.specs.CodeLists.{AreSorted}
use Rattle.facets.specs.Rules.{BreaksLeafRule, BreaksFirst}
use Rattle.facets.specs.LeafUnder.{IsCodeAt, IsLeafBy, LeafUnder, HasSortedCodes}

-- ---- the first rule

-- the rule of this number, of the six that a text can break
rule_at : ℕ → Rule
rule_at n = cond (n == 22) BadText (cond (n == 23) BadLength (cond (n == 24) PatternFails (cond (n == 25) NotACode (cond (n == 26) Digits OutOfRange))))

rule_at-number_of : (simple : Simple) (text : List ℕ) (rule : Rule) → BreaksLeafRule simple text rule → rule_at (number_of rule) ≡ rule
unfolding rule_at
rule_at-number_of simple text BadText b = refl
rule_at-number_of simple text BadLength b = refl
rule_at-number_of simple text PatternFails b = refl
rule_at-number_of simple text NotACode b = refl
rule_at-number_of simple text Digits b = refl
rule_at-number_of simple text OutOfRange b = refl
rule_at-number_of simple text rule b = absurd b

pub one_first : (simple : Simple) (text : List ℕ) (a b : Rule) → BreaksFirst simple text a → BreaksFirst simple text b → a ≡ b
one_first simple text a b h g = sym (rule_at-number_of simple text a h.broken) ∙ ap rule_at same ∙ rule_at-number_of simple text b g.broken
  where
    no_less : (number_of a < number_of b) → ⊥
    no_less lt = g.first a lt h.broken

    no_more : (number_of b < number_of a) → ⊥
    no_more lt = h.first b lt g.broken

    same : number_of a ≡ number_of b
    same = omega (arith, no_less, no_more)

-- ---- the leaf

-- no code is below itself
no_self : (code : List ℕ) → slice_cmp nat_cmp code code ≡ Less → ⊥
no_self code less = let turned = nat_list_cmp_total.antisymm code code ∙ ap ordering_reverse less in absurd cc

-- a text has one place among sorted codes
one_place : (codes : List (List ℕ)) (code : List ℕ) (i j : ℕ) → AreSorted codes → slice_get codes i ≡ Some code → slice_get codes j ≡ Some code → i ≡ j
one_place codes code i j sorted here there = omega (arith, below i j here there, below j i there here)
  where
    below : (i j : ℕ) → slice_get codes i ≡ Some code → slice_get codes j ≡ Some code → i < j → ⊥
    below i j here there lt =
        let less = Less-from_sorted (slice_cmp nat_cmp) codes i j [] sorted lt (slice_get_within codes j code there) in
        no_self code (rw (get_or_from_slice_get codes i code [] here, get_or_from_slice_get codes j code [] there) at less)

one_code : (codes : List (List ℕ)) (text : List ℕ) (a b : Leaf) → AreSorted codes → IsCodeAt codes text a → IsCodeAt codes text b → a ≡ b
one_code codes text (Code i) (Code j) sorted h g = ap Code (one_place codes (encode_utf8_all text) i j sorted h.1 g.1)
one_code codes text (Code i) b sorted h g = absurd g
one_code codes text a b sorted h g = absurd h

one_leaf_by : (k : Kind) (codes : Option (List (List ℕ))) (text : List ℕ) (a b : Leaf) → MatchOption codes (Unit {0}) (λ codes. AreSorted codes) → IsLeafBy k codes text a → IsLeafBy k codes text b
    → a ≡ b
one_leaf_by kind.Text (Some codes) text a b sorted h g = one_code codes text a b sorted h g
one_leaf_by k codes text a b sorted h g = one_leaf k text a b h g

-- ---- the answer

pub one_answer : (simple : Simple) (text : List ℕ) (one two : Result Leaf Rule) → HasSortedCodes simple → LeafUnder simple text one → LeafUnder simple text two → one ≡ two
one_answer simple text (Ok a) (Ok b) sorted h g = ap Ok (one_leaf_by simple.kind simple.codes text a b sorted h.spelled g.spelled)
one_answer simple text (Ok a) (Err b) sorted h g = absurd (h.sound b g.broken)
one_answer simple text (Err a) (Ok b) sorted h g = absurd (g.sound a h.broken)
one_answer simple text (Err a) (Err b) sorted h g = ap Err (one_first simple text a b h g)
