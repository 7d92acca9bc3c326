-- What leaves are under simple types, as contents octets.
use Rattle.std.proofs.Common.{◌≡◌, ℕ, ◌<◌, ◌^◌, List, [], ◌∷◌, length, Option, Some, None, Ok, Err, refl, sym, ap, ◌∙◌, subst, arith, ◌⊎◌, inl, inr, encode_utf8_all}
use Rattle.std.specs.Prelude.{MatchOption}
use Rattle.std.proofs.lemmas.Option.{slice_get_within}
use Rattle.std.specs.List.{AllByRecursion}
use Rattle.lexical_core.specs.Characters.{IsXmlChar, IsXmlText}
use Rattle.lexical_core.specs.XmlRuns.{IsXmlRun, IsPlainXmlByte}
use Rattle.lexical_core.specs.declared.rule.Rule.{Rule}
use Rattle.lexical_core.specs.declared.rule.Rule.TheVariants.{BadLength, PatternFails, NotACode, BadContents, BadText}
use Rattle.lexical_core.proofs.XmlRuns.{plain_encoded}
use Rattle.data_types.specs.Dates.{IsDateText}
use Rattle.data_types.specs.Leaf.{Leaf, Bytes, Code, IsLeaf, IsTextLeaf}
use Rattle.data_types.specs.declared.kind.Kind.{Kind}
use Rattle.data_types.specs.declared.kind.Kind.TheVariants as kind
use Rattle.data_types.proofs.CanonicalLemmas.{own}
use Rattle.data_types.proofs.LeafLaws.{one_leaf}
use Rattle.data_types.proofs.VisibleTexts.{AreVisible, date_visible}
use Rattle.data_types.specs.declared.leaf.LeafRef.TheVariants as held
use Rattle.facets.specs.LeafChecks.{IsWithinLimits}
use Rattle.facets.specs.LeafUnder.{IsCodeAt, IsLeafBy, GivesLeaf, IsCanonicalBy, Fits, BreaksAs}
use Rattle.facets.specs.Facets.{HasLength}
use Rattle.facets.specs.PatternChecks.{IsDateKind}
use Rattle.facets.specs.Rules.{BreaksFirst, BreaksPattern}
use Rattle.facets.specs.declared.simple.Simple.{Simple}
use Rattle.facets.proofs.FitLemmas.{given_fits}
use Rattle.facets.proofs.TextRules.{text_breaks, short_breaks, coded_answer}
use Rattle.facets.proofs.PatternLemmas.{date_is_short}
use Rattle.der_model.specs.LeafContents.{integer_octets, IsInteger, IsContents, HasContentsForm, HasCodes, ContentsUnder}
use Rattle.der_codec.specs.Judging.{IsJudged, IsXmlCode, IsNoDate}
use Rattle.der_codec.specs.Checked.{IsToldOf}
use Rattle.der_codec.specs.declared.checks.Refusal.{Refusal}
use Rattle.der_codec.specs.declared.checks.Refusal.TheVariants as refused

-- ---- texts without codes

text_contents : (k : Kind) (codes : Option (List (List ℕ))) (octets : List ℕ) → k ≡ kind.Text → codes ≡ None → IsXmlText octets → IsContents k codes octets (Bytes octets)
text_contents k codes octets e n is = subst (λ z. IsContents z codes octets (Bytes octets)) (sym e) (subst (λ z. IsContents kind.Text z octets (Bytes octets)) (sym n) (is, refl))

no_codes : (k : Kind) (codes : Option (List (List ℕ))) → codes ≡ None → HasCodes k codes → ⊥
no_codes kind.Text None n h = h
no_codes kind.Text (Some codes) n h = absurd cc
no_codes k codes n h = h

text_leaf : (k : Kind) (codes : Option (List (List ℕ))) (text octets : List ℕ) (leaf : Leaf) → k ≡ kind.Text → codes ≡ None → octets ≡ encode_utf8_all text → IsLeafBy k codes text leaf → leaf ≡ Bytes octets
text_leaf k codes text octets leaf e n is h = bytes leaf (subst (λ z. IsLeafBy kind.Text z text leaf) n (subst (λ z. IsLeafBy z codes text leaf) e h))
  where
    bytes : (leaf : Leaf) → IsTextLeaf text leaf → leaf ≡ Bytes octets
    bytes (Bytes b) h = ap Bytes (h.1 ∙ sym is)
    bytes leaf h = absurd h

pub run_text : (octets : List ℕ) (count : ℕ) → IsXmlRun octets count → IsXmlText octets
run_text octets count r = (r.chars, r.are, sym r.spelled)

pub text_fits : (simple : Simple) (octets : List ℕ) (count : ℕ) (leaf : Leaf) → simple.kind ≡ kind.Text → simple.codes ≡ None → (r : IsXmlRun octets count) → GivesLeaf simple r.chars leaf → ContentsUnder simple octets (Ok (Bytes octets))
text_fits simple octets count leaf e n r g = (
  text_contents simple.kind simple.codes octets e n (run_text octets count r),
  subst (Fits simple) (text_leaf simple.kind simple.codes r.chars octets leaf e n r.spelled g.spelled) (given_fits simple r.chars leaf g),
)

text_canonical : (k : Kind) (codes : Option (List (List ℕ))) (text octets : List ℕ) → k ≡ kind.Text → codes ≡ None → AllByRecursion IsXmlChar text → octets ≡ encode_utf8_all text → IsCanonicalBy k codes (Bytes octets) text
text_canonical k codes text octets e n all is = subst (λ z. IsCanonicalBy z codes (Bytes octets) text) (sym e) (subst (λ z. IsCanonicalBy kind.Text z (Bytes octets) text) (sym n) (all, is))

pub text_breaks_as : (simple : Simple) (octets : List ℕ) (count : ℕ) (rule : Rule) → simple.kind ≡ kind.Text → simple.codes ≡ None → (r : IsXmlRun octets count) → BreaksFirst simple r.chars rule → ContentsUnder simple octets (Err rule)
text_breaks_as simple octets count rule e n r b = go (text_breaks simple r.chars e n r.are rule b.broken)
  where
    first_rule : (rule : Rule) → BreaksFirst simple r.chars rule → BreaksAs simple (Bytes octets) rule
    first_rule rule b = inl (r.chars, text_canonical simple.kind simple.codes r.chars octets e n r.are r.spelled, b)

    contents : IsContents simple.kind simple.codes octets (Bytes octets)
    contents = text_contents simple.kind simple.codes octets e n (run_text octets count r)

    long : rule ≡ BadLength → ContentsUnder simple octets (Err rule)
    long is = subst (λ z. ContentsUnder simple octets (Err z)) (sym is) (no_codes simple.kind simple.codes n, Bytes octets, contents, first_rule BadLength (subst (BreaksFirst simple r.chars) is b))

    fails : rule ≡ PatternFails → ContentsUnder simple octets (Err rule)
    fails is = subst (λ z. ContentsUnder simple octets (Err z)) (sym is) (no_codes simple.kind simple.codes n, Bytes octets, contents, first_rule PatternFails (subst (BreaksFirst simple r.chars) is b))

    go : ((rule ≡ BadLength) × (HasLength simple (length r.chars) → ⊥)) ⊎ ((rule ≡ PatternFails) × BreaksPattern simple r.chars) → ContentsUnder simple octets (Err rule)
    go (inl h) = long h.0
    go (inr h) = fails h.0

pub text_refused : (simple : Simple) (octets : List ℕ) (count : ℕ) (refusal : Refusal) → simple.kind ≡ kind.Text → simple.codes ≡ None → (r : IsXmlRun octets count) → IsToldOf {T = Unit {0}} simple r.chars (Err refusal) → IsJudged simple octets (Err refusal)
text_refused simple octets count (refused.Breaks rule) e n r b = text_breaks_as simple octets count rule e n r b
text_refused simple octets count refused.Memory e n r b = tt

pub no_text : (simple : Simple) (octets : List ℕ) → simple.kind ≡ kind.Text → simple.codes ≡ None → (IsXmlText octets → ⊥) → ContentsUnder simple octets (Err BadContents)
no_text simple octets e n other = λ h. other (subst (λ z. HasContentsForm kind.Text z octets) n (subst (λ z. HasContentsForm z simple.codes octets) e h))

-- ---- dates and times

visible_plain : (xs : List ℕ) → AreVisible xs → AllByRecursion IsPlainXmlByte xs
visible_plain [] v = tt
visible_plain (x ∷ xs) v = (let low = v.0.low in let high = v.0.high in record { ascii = omega arith; xml = inl (omega arith, omega arith) }, visible_plain xs v.1)

-- a date's octets are its characters
pub date_run : (k : Kind) (octets : List ℕ) → IsDateText k octets → (r : IsXmlRun octets (length octets)) × (r.chars ≡ octets)
date_run k octets is =
    let plain = plain_encoded octets (visible_plain octets (date_visible k octets is).0) in
    (record { chars = octets; spelled = sym plain.0; count_is = refl; are = plain.1 }, refl)

date_contents : (k : Kind) (codes : Option (List (List ℕ))) (octets : List ℕ) → IsDateKind k → IsDateText k octets → IsContents k codes octets (Bytes octets)
date_contents kind.Text codes octets d is = absurd d
date_contents kind.Decimal codes octets d is = absurd d
date_contents kind.Boolean codes octets d is = absurd d
date_contents kind.Binary codes octets d is = absurd d
date_contents kind.Envelope codes octets d is = absurd d
date_contents k codes octets d is = (is, refl)

pub date_leaf : (k : Kind) (octets : List ℕ) → IsDateKind k → IsDateText k octets → IsLeaf k octets (Bytes octets)
date_leaf kind.Text octets d is = absurd d
date_leaf kind.Decimal octets d is = absurd d
date_leaf kind.Boolean octets d is = absurd d
date_leaf kind.Binary octets d is = absurd d
date_leaf kind.Envelope octets d is = absurd d
date_leaf k octets d is = (own octets (date_visible k octets is).0, is)

leaf_of_date : (k : Kind) (codes : Option (List (List ℕ))) (octets : List ℕ) (leaf : Leaf) → IsDateKind k → IsLeafBy k codes octets leaf → IsLeaf k octets leaf
leaf_of_date kind.Text codes octets leaf d h = absurd d
leaf_of_date k codes octets leaf d h = h

date_codes : (k : Kind) (codes : Option (List (List ℕ))) → IsDateKind k → HasCodes k codes → ⊥
date_codes kind.Text codes d h = d
date_codes k codes d h = h

date_canonical : (k : Kind) (codes : Option (List (List ℕ))) (octets : List ℕ) → IsDateKind k → IsCanonicalBy k codes (Bytes octets) octets
date_canonical kind.Text codes octets d = absurd d
date_canonical kind.Decimal codes octets d = absurd d
date_canonical kind.Boolean codes octets d = absurd d
date_canonical kind.Binary codes octets d = absurd d
date_canonical kind.Envelope codes octets d = absurd d
date_canonical k codes octets d = refl

pub date_fits : (simple : Simple) (octets : List ℕ) (leaf : Leaf) → IsDateKind simple.kind → IsDateText simple.kind octets → GivesLeaf simple octets leaf → ContentsUnder simple octets (Ok (Bytes octets))
date_fits simple octets leaf d is g = (
  date_contents simple.kind simple.codes octets d is,
  subst (Fits simple) (one_leaf simple.kind octets leaf (Bytes octets) (leaf_of_date simple.kind simple.codes octets leaf d g.spelled) (date_leaf simple.kind octets d is)) (given_fits simple octets leaf g),
)

pub date_breaks : (simple : Simple) (octets : List ℕ) (rule : Rule) → IsDateKind simple.kind → IsDateText simple.kind octets → BreaksFirst simple octets rule → ContentsUnder simple octets (Err rule)
date_breaks simple octets rule d is b =
    let fails = (short_breaks simple octets (Bytes octets) (date_is_short simple.kind d) (date_leaf simple.kind octets d is) rule b.broken).0 in
    subst (λ z. ContentsUnder simple octets (Err z)) (sym fails)
    (date_codes simple.kind simple.codes d, Bytes octets, date_contents simple.kind simple.codes octets d is, inl (octets, date_canonical simple.kind simple.codes octets d, subst (BreaksFirst simple octets) fails b))

pub date_given : (simple : Simple) (octets : List ℕ) → IsDateKind simple.kind → IsDateText simple.kind octets
    → ((r : IsXmlRun octets (length octets)) → (leaf : Leaf) × GivesLeaf simple r.chars leaf) → ContentsUnder simple octets (Ok (Bytes octets))
date_given simple octets d is told =
    let run = date_run simple.kind octets is in
    let g = told run.0 in
    date_fits simple octets g.0 d is (subst (λ z. GivesLeaf simple z g.0) run.1 g.1)

pub date_refused : (simple : Simple) (octets : List ℕ) (refusal : Refusal) → IsDateKind simple.kind → IsDateText simple.kind octets
    → ((r : IsXmlRun octets (length octets)) → IsToldOf {T = Unit {0}} simple r.chars (Err refusal)) → IsJudged simple octets (Err refusal)
date_refused simple octets (refused.Breaks rule) d is told =
    let run = date_run simple.kind octets is in
    date_breaks simple octets rule d is (subst (λ z. BreaksFirst simple z rule) run.1 (told run.0))
date_refused simple octets refused.Memory d is told = tt

pub text_form : (k : Kind) (codes : Option (List (List ℕ))) (octets : List ℕ) → IsDateKind k → (HasContentsForm k codes octets → IsXmlText octets) × (IsXmlText octets → HasContentsForm k codes octets)
text_form kind.Text codes octets d = absurd d
text_form kind.Decimal codes octets d = absurd d
text_form kind.Boolean codes octets d = absurd d
text_form kind.Binary codes octets d = absurd d
text_form kind.Envelope codes octets d = absurd d
text_form k codes octets d = (λ h. h, λ h. h)

contents_date : (k : Kind) (codes : Option (List (List ℕ))) (octets : List ℕ) (leaf : Leaf) → IsDateKind k → IsContents k codes octets leaf → IsDateText k octets
contents_date kind.Text codes octets leaf d h = absurd d
contents_date kind.Decimal codes octets leaf d h = absurd d
contents_date kind.Boolean codes octets leaf d h = absurd d
contents_date kind.Binary codes octets leaf d h = absurd d
contents_date kind.Envelope codes octets leaf d h = absurd d
contents_date k codes octets (Bytes b) d h = h.0
contents_date k codes octets leaf d h = absurd h

pub no_date : (simple : Simple) (octets : List ℕ) (rule : Rule) → IsDateKind simple.kind → (IsDateText simple.kind octets → ⊥) → IsNoDate octets rule → ContentsUnder simple octets (Err rule)
no_date simple octets BadText d other h = ((text_form simple.kind simple.codes octets d).1 h, date_codes simple.kind simple.codes d, λ leaf c. other (contents_date simple.kind simple.codes octets leaf d c))
no_date simple octets BadContents d other h = λ form. h ((text_form simple.kind simple.codes octets d).0 form)
no_date simple octets rule d other h = absurd h

-- ---- codes

code_given : (simple : Simple) (codes : List (List ℕ)) (place : ℕ) → simple.kind ≡ kind.Text → simple.codes ≡ Some codes → (is : IsXmlCode codes place) → GivesLeaf simple is.0 (Code place)
code_given simple codes place e some (text, all, at) = coded_answer simple text codes (Ok (held.Code place)) e some all (all, at)

code_contents : (k : Kind) (o : Option (List (List ℕ))) (codes : List (List ℕ)) (octets : List ℕ) (place : ℕ) → k ≡ kind.Text → o ≡ Some codes → octets ≡ integer_octets place → IsContents k o octets (Code place)
code_contents k o codes octets place e some is = subst (λ z. IsContents z o octets (Code place)) (sym e) (subst (λ z. IsContents kind.Text z octets (Code place)) (sym some) is)

pub code_fits : (simple : Simple) (codes : List (List ℕ)) (octets : List ℕ) (place : ℕ) → simple.kind ≡ kind.Text → simple.codes ≡ Some codes → octets ≡ integer_octets place → IsXmlCode codes place → ContentsUnder simple octets (Ok (Code place))
code_fits simple codes octets place e some is there =
    (code_contents simple.kind simple.codes codes octets place e some is, given_fits simple there.0 (Code place) (code_given simple codes place e some there))

code_text : (simple : Simple) (codes : List (List ℕ)) (place : ℕ) → simple.kind ≡ kind.Text → simple.codes ≡ Some codes → Fits simple (Code place) → IsXmlCode codes place
code_text simple codes place e some (text, canonical, gives) =
    let is : IsCodeAt codes text (Code place) = subst (λ z. IsCanonicalBy kind.Text z (Code place) text) some (subst (λ z. IsCanonicalBy z simple.codes (Code place) text) e canonical) in
    (text, is.0, is.1)

pub no_code : (simple : Simple) (codes : List (List ℕ)) (octets : List ℕ) → simple.kind ≡ kind.Text → simple.codes ≡ Some codes → IsInteger octets → ((place : ℕ) → octets ≡ integer_octets place → IsXmlCode codes place → ⊥) → ContentsUnder simple octets (Err NotACode)
no_code simple codes octets e some is other = (
  subst (λ z. HasContentsForm z simple.codes octets) (sym e) (subst (λ z. HasContentsForm kind.Text z octets) (sym some) is),
  subst (λ z. HasCodes z simple.codes) (sym e) (subst (λ z. HasCodes kind.Text z) (sym some) tt),
  λ leaf c f. by leaf (subst (λ z. IsContents kind.Text z octets leaf) some (subst (λ z. IsContents z simple.codes octets leaf) e c)) f,
)
  where
    by : (leaf : Leaf) → IsContents kind.Text (Some codes) octets leaf → Fits simple leaf → ⊥
    by (Code place) c f = other place c (code_text simple codes place e some f)
    by leaf c f = absurd c

-- the number of a code has 32 bits
pub place_low : (simple : Simple) (codes : List (List ℕ)) (place : ℕ) → simple.codes ≡ Some codes → IsWithinLimits simple → IsXmlCode codes place → place < 2 ^ 32
place_low simple codes place some limits (text, all, at) =
    let within = slice_get_within codes place (encode_utf8_all text) at in
    let few : length codes < 2 ^ 32 = subst (λ z. MatchOption z (Unit {0}) (λ (c : List (List ℕ)). length c < 2 ^ 32)) some limits.codes in
    omega (arith, within, few)
