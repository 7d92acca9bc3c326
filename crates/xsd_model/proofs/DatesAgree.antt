-- A text is one of the simple type of a date or a time in the schema exactly where it spells a leaf under the facets: it is in the lexical
-- space of its kind, and the profile's pattern has it.
use Rattle.std.proofs.Common.{◌≡◌, ◌⊎◌, ℕ, inl, inr, List, [], ◌∷◌, Option, Some, None, refl, sym, subst}
use Rattle.std.specs.Str.{chars}
use Rattle.lexical_core.specs.declared.rule.Rule.TheVariants.{PatternFails}
use Rattle.pattern_match.specs.Reading.{Matches}
use Rattle.data_types.specs.WhiteSpace.{IsCollapsed}
use Rattle.data_types.proofs.CollapseLaw.{one_collapsed}
use Rattle.data_types.specs.Leaf.{Leaf, Bytes, IsLeaf, IsDateLeaf}
use Rattle.data_types.specs.LeafSteps.{IsShortKind}
use Rattle.data_types.specs.declared.kind.Kind.{Kind}
use Rattle.data_types.specs.declared.kind.Kind.TheVariants as kind
use Rattle.facets.specs.declared.simple.Simple.{Simple}
use Rattle.facets.specs.Rules.{IsAsked, BreaksPattern}
use Rattle.facets.specs.LeafUnder.{IsLeafBy, GivesLeaf}
use Rattle.facets.proofs.TextRules.{short_given}
use Rattle.facets.specs.Steps.{plain_step}
use Rattle.xsd_model.specs.SimpleTexts.{IsSimpleText, IsNormalized, IsValue, HasDateValue, HasFacets, MatchesOne}
use Rattle.xsd_model.specs.StepsOf.{IsSoundSimple, date_steps, profile_pattern}
use Rattle.xsd_model.proofs.PatternAgrees.{matched}
use Rattle.xsd_model.proofs.DateProfiles.{in_profile}
use Rattle.xsd_model.proofs.ProfileInSpace.{profile_in_space}
use Rattle.xsd_model.proofs.SpaceInProfile.{space_in_profile}

plain_facets : (k : Kind) (text shown : List ℕ) (value : Leaf) (base : Option Kind) (pattern : List ℕ) → Matches (chars pattern) shown
    → HasFacets k text shown value (record (plain_step base) { patterns = pattern ∷ [] })
plain_facets k text shown value base pattern m = record { total = tt; fraction = tt; low = tt; high = tt; min = tt; max = tt; codes = inl refl; patterns = inr (inl m) }

dated_valid : (k : Kind) (text shown : List ℕ) (value : Leaf) (own : Option (List ℕ)) → IsNormalized k text shown → IsValue k text value → Matches (chars (profile_pattern k)) shown
    → ((pattern : List ℕ) → own ≡ Some pattern → Matches (chars pattern) shown) → IsSimpleText (date_steps k own) text
dated_valid k text shown value None normalized valued profiled has = record {
  shown = shown;
  value = value;
  normalized = normalized;
  valued = valued;
  facets = (plain_facets k text shown value (Some k) (profile_pattern k) profiled, tt);
}
dated_valid k text shown value (Some pattern) normalized valued profiled has = record {
  shown = shown;
  value = value;
  normalized = normalized;
  valued = valued;
  facets = (plain_facets k text shown value (Some k) (profile_pattern k) profiled, (plain_facets k text shown value None pattern (has pattern refl), tt));
}

one_matches : (pattern shown : List ℕ) → (pattern ∷ [] ≡ []) ⊎ MatchesOne (pattern ∷ []) shown → Matches (chars pattern) shown
one_matches pattern shown (inl none) = absurd cc
one_matches pattern shown (inr (inl m)) = m
one_matches pattern shown (inr (inr none)) = absurd none

-- what is valid under the steps of a date
record IsDated (k : Kind) (text : List ℕ) (own : Option (List ℕ)) : Type 0 where
  shown : List ℕ
  value : Leaf
  normalized : IsNormalized k text shown
  valued : IsValue k text value
  profiled : Matches (chars (profile_pattern k)) shown
  has : (pattern : List ℕ) → own ≡ Some pattern → Matches (chars pattern) shown

valid_dated : (k : Kind) (text : List ℕ) (own : Option (List ℕ)) → IsSimpleText (date_steps k own) text → IsDated k text own
valid_dated k text None h = record {
  shown = h.shown;
  value = h.value;
  normalized = h.normalized;
  valued = h.valued;
  profiled = one_matches (profile_pattern k) h.shown h.facets.0.patterns;
  has = λ pattern e. absurd cc;
}
valid_dated k text (Some own) h = record {
  shown = h.shown;
  value = h.value;
  normalized = h.normalized;
  valued = h.valued;
  profiled = one_matches (profile_pattern k) h.shown h.facets.0.patterns;
  has = λ pattern e. (let same : own ≡ pattern = cc in subst (λ p. Matches (chars p) h.shown) same (one_matches own h.shown h.facets.1.0.patterns));
}

-- what holds of the kinds of dates and times by their definitions
pub record IsDateKind (k : Kind) : Type 0 where
  short : IsShortKind k
  leaf : (text : List ℕ) (leaf : Leaf) (own : Option (List (List ℕ))) → IsLeafBy k own text leaf → IsDateLeaf k text leaf
  leaf_back : (text : List ℕ) (leaf : Leaf) → IsDateLeaf k text leaf → IsLeaf k text leaf
  value : (text : List ℕ) (leaf : Leaf) → HasDateValue k text leaf → IsValue k text leaf
  value_back : (text : List ℕ) (leaf : Leaf) → IsValue k text leaf → HasDateValue k text leaf
  normal : (text shown : List ℕ) → IsCollapsed text shown → IsNormalized k text shown
  normal_back : (text shown : List ℕ) → IsNormalized k text shown → IsCollapsed text shown
  asked : (text shown : List ℕ) (own : Option (List (List ℕ))) → IsCollapsed text shown → IsAsked k own text shown
  asked_back : (text shown : List ℕ) (own : Option (List (List ℕ))) → IsAsked k own text shown → IsCollapsed text shown

date_valid : (k : Kind) (simple : Simple) (text : List ℕ) (leaf : Leaf) → IsDateKind k → IsSoundSimple simple → simple.kind ≡ k → IsDateLeaf k text leaf → GivesLeaf simple text leaf
    → IsSimpleText (date_steps k simple.pattern) text
date_valid k simple text (Bytes shown) is sound e spelled given =
    dated_valid k text shown (Bytes shown) simple.pattern (is.normal text shown spelled.0) (is.value text (Bytes shown) (spelled.0, profile_in_space k shown spelled.1)) (in_profile k shown spelled.1)
    (λ pattern there. matched simple text pattern shown sound there (subst (λ (j : Kind). IsAsked j simple.codes text shown) (sym e) (is.asked text shown simple.codes spelled.0)) (given.sound PatternFails))
date_valid k simple text leaf is sound e spelled given = absurd spelled

pub given_date : (k : Kind) (simple : Simple) (text : List ℕ) (leaf : Leaf) → IsDateKind k → IsSoundSimple simple → simple.kind ≡ k → GivesLeaf simple text leaf → IsSimpleText (date_steps k simple.pattern) text
given_date k simple text leaf is sound e given =
    date_valid k simple text leaf is sound e (is.leaf text leaf simple.codes (subst (λ (j : Kind). IsLeafBy j simple.codes text leaf) e given.spelled)) given

-- a value of the space whose text the profile's pattern has is a leaf
date_leaf : (k : Kind) (text shown : List ℕ) (value : Leaf) → IsCollapsed text shown → HasDateValue k text value → Matches (chars (profile_pattern k)) shown → IsDateLeaf k text value
date_leaf k text shown (Bytes bytes) collapsed (own, space) m =
    (own, space_in_profile k bytes space (subst (Matches (chars (profile_pattern k))) (one_collapsed text shown bytes collapsed own) m))
date_leaf k text shown value collapsed h m = absurd h

pub valid_date : (k : Kind) (simple : Simple) (text : List ℕ) → IsDateKind k → simple.kind ≡ k → IsSimpleText (date_steps k simple.pattern) text → (leaf : Leaf) × GivesLeaf simple text leaf
valid_date k simple text is e h =
    let d = valid_dated k text simple.pattern h in
    let collapsed = is.normal_back text d.shown d.normalized in
    let leaf = is.leaf_back text d.value (date_leaf k text d.shown d.value collapsed (is.value_back text d.value d.valued) d.profiled) in
    let holds : BreaksPattern simple text → ⊥ =
    λ (pattern, asked, there, ask, other).
    other (subst (Matches (chars pattern)) (one_collapsed text d.shown asked collapsed (is.asked_back text asked simple.codes (subst (λ (j : Kind). IsAsked j simple.codes text asked) e ask))) (d.has pattern there)) in
    (d.value, short_given simple text d.value (subst IsShortKind (sym e) is.short) (subst (λ (j : Kind). IsLeaf j text d.value) (sym e) leaf) holds)

pub date_kind : IsDateKind kind.Date
date_kind = record {
  short = record { no_text = λ x. absurd cc; no_decimal = λ x. absurd cc; no_binary = λ x. absurd cc };
  leaf = λ text leaf own h. h;
  leaf_back = λ text leaf h. h;
  value = λ text leaf h. h;
  value_back = λ text leaf h. h;
  normal = λ text shown h. h;
  normal_back = λ text shown h. h;
  asked = λ text shown own h. h;
  asked_back = λ text shown own h. h;
}

pub date_time_kind : IsDateKind kind.DateTime
date_time_kind = record {
  short = record { no_text = λ x. absurd cc; no_decimal = λ x. absurd cc; no_binary = λ x. absurd cc };
  leaf = λ text leaf own h. h;
  leaf_back = λ text leaf h. h;
  value = λ text leaf h. h;
  value_back = λ text leaf h. h;
  normal = λ text shown h. h;
  normal_back = λ text shown h. h;
  asked = λ text shown own h. h;
  asked_back = λ text shown own h. h;
}

pub time_kind : IsDateKind kind.Time
time_kind = record {
  short = record { no_text = λ x. absurd cc; no_decimal = λ x. absurd cc; no_binary = λ x. absurd cc };
  leaf = λ text leaf own h. h;
  leaf_back = λ text leaf h. h;
  value = λ text leaf h. h;
  value_back = λ text leaf h. h;
  normal = λ text shown h. h;
  normal_back = λ text shown h. h;
  asked = λ text shown own h. h;
  asked_back = λ text shown own h. h;
}

pub year_kind : IsDateKind kind.Year
year_kind = record {
  short = record { no_text = λ x. absurd cc; no_decimal = λ x. absurd cc; no_binary = λ x. absurd cc };
  leaf = λ text leaf own h. h;
  leaf_back = λ text leaf h. h;
  value = λ text leaf h. h;
  value_back = λ text leaf h. h;
  normal = λ text shown h. h;
  normal_back = λ text shown h. h;
  asked = λ text shown own h. h;
  asked_back = λ text shown own h. h;
}

pub year_month_kind : IsDateKind kind.YearMonth
year_month_kind = record {
  short = record { no_text = λ x. absurd cc; no_decimal = λ x. absurd cc; no_binary = λ x. absurd cc };
  leaf = λ text leaf own h. h;
  leaf_back = λ text leaf h. h;
  value = λ text leaf h. h;
  value_back = λ text leaf h. h;
  normal = λ text shown h. h;
  normal_back = λ text shown h. h;
  asked = λ text shown own h. h;
  asked_back = λ text shown own h. h;
}

pub month_day_kind : IsDateKind kind.MonthDay
month_day_kind = record {
  short = record { no_text = λ x. absurd cc; no_decimal = λ x. absurd cc; no_binary = λ x. absurd cc };
  leaf = λ text leaf own h. h;
  leaf_back = λ text leaf h. h;
  value = λ text leaf h. h;
  value_back = λ text leaf h. h;
  normal = λ text shown h. h;
  normal_back = λ text shown h. h;
  asked = λ text shown own h. h;
  asked_back = λ text shown own h. h;
}

pub month_kind : IsDateKind kind.Month
month_kind = record {
  short = record { no_text = λ x. absurd cc; no_decimal = λ x. absurd cc; no_binary = λ x. absurd cc };
  leaf = λ text leaf own h. h;
  leaf_back = λ text leaf h. h;
  value = λ text leaf h. h;
  value_back = λ text leaf h. h;
  normal = λ text shown h. h;
  normal_back = λ text shown h. h;
  asked = λ text shown own h. h;
  asked_back = λ text shown own h. h;
}

pub day_kind : IsDateKind kind.Day
day_kind = record {
  short = record { no_text = λ x. absurd cc; no_decimal = λ x. absurd cc; no_binary = λ x. absurd cc };
  leaf = λ text leaf own h. h;
  leaf_back = λ text leaf h. h;
  value = λ text leaf h. h;
  value_back = λ text leaf h. h;
  normal = λ text shown h. h;
  normal_back = λ text shown h. h;
  asked = λ text shown own h. h;
  asked_back = λ text shown own h. h;
}
