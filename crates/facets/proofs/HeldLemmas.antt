-- How many bytes are held, by the limit of the simple type.
use Rattle.std.proofs.Common.{◌≡◌, ℕ, ◌+◌, ◌*◌, ◌≤◌, List, Option, Some, None, Result, Ok, Err, refl, sym, ap, subst, ◌∙◌, arith}
use Rattle.std.specs.Prelude.{encode_utf8_all}
use Rattle.std.specs.List.{AllByRecursion}
use Rattle.lexical_core.specs.Characters.{IsXmlChar}
use Rattle.lexical_core.specs.declared.rule.Rule.{Rule}
use Rattle.data_types.specs.Leaf.{Bytes}
use Rattle.data_types.specs.LeafSteps.{HasBody, HasValue}
use Rattle.data_types.specs.declared.leaf_step.Body.{Body}
use Rattle.data_types.specs.declared.leaf_step.Body.TheVariants.{Text, Collapsed}
use Rattle.data_types.specs.declared.collapsed_step.Value.{Value}
use Rattle.data_types.specs.declared.collapsed_step.Value.TheVariants.{Decimal, Short, Octets}
use Rattle.data_types.specs.declared.kind.Kind.{Kind}
use Rattle.data_types.specs.declared.kind.Kind.TheVariants as kind
use Rattle.facets.specs.declared.progress.Progress.{Progress}
use Rattle.facets.specs.declared.simple.Simple.{Simple}
use Rattle.facets.specs.LeafChecks.{HasSeen, IsHeldWithin, IsTextAnswer, keep_limit, leaf_limit, leaf_limit_by, limit_by}
use Rattle.facets.specs.LeafVerdicts.{IsFreeText, IsVerdict, verdict_limit, verdict_limit_by}
use Rattle.facets.proofs.TextRules.{text_given}

pub within_both : (most : Option ℕ) (n kept place : ℕ) → kept ≤ 4 * n → ((m : ℕ) → most ≡ Some m → kept ≤ 4 * m) → place ≤ 35 → IsHeldWithin most n (kept + place)
within_both None n kept place few within small = omega (arith, few, small)
within_both (Some m) n kept place few within small = omega (arith, few, within m refl, small)

-- where the kind is neither text nor binary no limit is of account
loose_value : (value : Value) (k : Kind) (m n : Option ℕ) (text collapsed : List ℕ) → (k ≡ kind.Binary → ⊥) → HasValue k value m text collapsed → HasValue k value n text collapsed
loose_value (Decimal step) k m n text collapsed none h = h
loose_value (Short kept) k m n text collapsed none h = h
loose_value (Octets step) k m n text collapsed none h = absurd (none h.0)

loose_body : (body : Body) (k : Kind) (m n : Option ℕ) (text : List ℕ) → (k ≡ kind.Text → ⊥) → (k ≡ kind.Binary → ⊥) → HasBody k body m text → HasBody k body n text
loose_body (Text kept) k m n text none other h = absurd (none h.0)
loose_body (Collapsed step) k m n text none other (collapsed, has, value) = (collapsed, has, loose_value step.value k m n text collapsed other value)

loose_seen : (progress : Progress) (simple : Simple) (m n : Option ℕ) (text : List ℕ) → (simple.kind ≡ kind.Text → ⊥) → (simple.kind ≡ kind.Binary → ⊥)
    → HasSeen progress m simple text → HasSeen progress n simple text
loose_seen progress simple m n text none other seen = record {
  step = (seen.step.0, loose_body progress.step.body simple.kind m n text none other seen.step.1);
  counted = seen.counted;
  asked = seen.asked;
  characters = seen.characters;
  limits = seen.limits;
}

-- what is kept within the limit of the check is so within that of the leaf
seen_by : (k : Kind) (progress : Progress) (simple : Simple) (text : List ℕ) (m : ℕ) → simple.kind ≡ k → HasSeen progress (limit_by k simple.max simple.codes) simple text
    → leaf_limit_by k simple.max simple.codes ≡ Some m → HasSeen progress (Some m) simple text
seen_by kind.Text progress simple text m e seen is = subst (λ (o : Option ℕ). HasSeen progress o simple text) is seen
seen_by kind.Binary progress simple text m e seen is = subst (λ (o : Option ℕ). HasSeen progress o simple text) is seen
seen_by k progress simple text m e seen is =
    loose_seen progress simple None (Some m) text (λ t. let both = sym e ∙ t in absurd cc) (λ t. let both = sym e ∙ t in absurd cc) seen

pub seen_within : (progress : Progress) (simple : Simple) (text : List ℕ) (m : ℕ) → HasSeen progress (keep_limit simple) simple text → leaf_limit simple ≡ Some m
    → HasSeen progress (Some m) simple text
seen_within progress simple text m seen is = seen_by simple.kind progress simple text m refl seen is

verdict_by : (k : Kind) (codes : Option (List (List ℕ))) (progress : Progress) (simple : Simple) (text : List ℕ) (m kept : ℕ) → simple.kind ≡ k → simple.codes ≡ codes
    → HasSeen progress (verdict_limit_by k simple.max codes) simple text → leaf_limit_by k simple.max codes ≡ Some m
    → ((most : ℕ) → HasSeen progress (Some most) simple text → kept ≤ 4 * most) → kept ≤ 4 * m
verdict_by kind.Text None progress simple text m kept e none seen is bound = omega (arith, bound 0 seen)
verdict_by kind.Text (Some codes) progress simple text m kept e some seen is bound = bound m (subst (λ (o : Option ℕ). HasSeen progress o simple text) is seen)
verdict_by kind.Binary codes progress simple text m kept e some seen is bound = omega (arith, bound 0 seen)
verdict_by k codes progress simple text m kept e some seen is bound =
    bound m (loose_seen progress simple None (Some m) text (λ t. let both = sym e ∙ t in absurd cc) (λ t. let both = sym e ∙ t in absurd cc) seen)

pub verdict_within : (progress : Progress) (simple : Simple) (text : List ℕ) (m kept : ℕ) → HasSeen progress (verdict_limit simple) simple text → leaf_limit simple ≡ Some m
    → ((most : ℕ) → HasSeen progress (Some most) simple text → kept ≤ 4 * most) → kept ≤ 4 * m
verdict_within progress simple text m kept seen is bound = verdict_by simple.kind simple.codes progress simple text m kept refl refl seen is bound

-- the limit of a verdict is that of the check but for texts without codes and binary values
free_limit : (simple : Simple) → IsFreeText simple → verdict_limit simple ≡ Some 0
free_limit simple free = ap (λ (k : Kind). verdict_limit_by k simple.max simple.codes) free.0 ∙ ap (λ (o : Option (List (List ℕ))). verdict_limit_by kind.Text simple.max o) free.1

pub free_seen : (progress : Progress) (simple : Simple) (text : List ℕ) → IsFreeText simple → HasSeen progress (verdict_limit simple) simple text
    → HasSeen progress (Some 0) simple text
free_seen progress simple text free seen = subst (λ (o : Option ℕ). HasSeen progress o simple text) (free_limit simple free) seen

pub binary_seen : (progress : Progress) (simple : Simple) (text : List ℕ) → simple.kind ≡ kind.Binary → HasSeen progress (verdict_limit simple) simple text
    → HasSeen progress (Some 0) simple text
binary_seen progress simple text binary seen =
    subst (λ (o : Option ℕ). HasSeen progress o simple text) (ap (λ (k : Kind). verdict_limit_by k simple.max simple.codes) binary) seen

other_by : (k : Kind) (most : Option ℕ) (codes : Option (List (List ℕ))) → ((k ≡ kind.Text) × (codes ≡ None) → ⊥) → (k ≡ kind.Binary → ⊥)
    → verdict_limit_by k most codes ≡ limit_by k most codes
other_by kind.Text most None other none = absurd (other (refl, refl))
other_by kind.Text most (Some codes) other none = refl
other_by kind.Binary most codes other none = absurd (none refl)
other_by k most codes other none = refl

pub other_seen : (progress : Progress) (simple : Simple) (text : List ℕ) → (IsFreeText simple → ⊥) → (simple.kind ≡ kind.Binary → ⊥)
    → HasSeen progress (verdict_limit simple) simple text → HasSeen progress (keep_limit simple) simple text
other_seen progress simple text other none seen =
    subst (λ (o : Option ℕ). HasSeen progress o simple text) (other_by simple.kind simple.max simple.codes other none) seen

-- a text without codes that has its length and its pattern spells a leaf
pub text_verdict : {T : Type 0} (simple : Simple) (text : List ℕ) (result : Result T Rule) → IsFreeText simple → AllByRecursion IsXmlChar text
    → IsTextAnswer simple text result → IsVerdict simple text result
text_verdict simple text (Ok x) free characters (fits, matches) =
    (Bytes (encode_utf8_all text), text_given simple text (Bytes (encode_utf8_all text)) free.0 free.1 characters fits matches (characters, refl))
text_verdict simple text (Err rule) free characters broken = broken
