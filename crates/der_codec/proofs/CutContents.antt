-- Contents that come in pieces, and what those octets of them that are kept stand for.
use Rattle.std.proofs.Common.{◌≡◌, ℕ, ◌+◌, ◌≤◌, ◌<◌, true, false, List, [], ◌∷◌, ◌++◌, length, take, drop, Option, Some, None, Result, Ok, Err, refl, sym, ap, ◌∙◌, subst, arith, ◌⊎◌, inl, inr, leb, length-append, MatchOption}
use Rattle.std.proofs.lemmas.Bool.Decides.{leb_tells}
use Rattle.std.proofs.lemmas.List.{take_all, length-take-le, take-append-drop}
use Rattle.base64.specs.GeneralPurpose.{IsBytes}
use Rattle.base64.proofs.EngineFacts.{front_bytes}
use Rattle.lexical_core.specs.Characters.{IsXmlText}
use Rattle.lexical_core.specs.XmlRuns.{IsXmlRun}
use Rattle.lexical_core.specs.declared.rule.Rule.{Rule}
use Rattle.lexical_core.specs.declared.rule.Rule.TheVariants.{BadLength, NotACode, BadContents, BadText}
use Rattle.lexical_core.proofs.RealLaws.{contents_short}
use Rattle.data_types.specs.Leaf.{Leaf, Bytes, Number, Flag}
use Rattle.data_types.specs.declared.kind.Kind.{Kind}
use Rattle.data_types.specs.declared.kind.Kind.TheVariants as kind
use Rattle.data_types.proofs.OctetLemmas.{back_bytes, join_bytes}
use Rattle.data_types.proofs.VisibleTexts.{date_visible}
use Rattle.data_types.specs.Dates.{IsDateText}
use Rattle.facets.specs.Facets.{HasLength}
use Rattle.facets.specs.LeafChecks.{IsHeldWithin, IsWithinLimits, leaf_limit, leaf_limit_by}
use Rattle.facets.specs.LeafUnder.{HasSortedCodes}
use Rattle.facets.specs.PatternChecks.{IsDateKind}
use Rattle.facets.specs.declared.simple.Simple.{Simple}
use Rattle.facets.proofs.TextRules.{length_broken}
use Rattle.facets.proofs.ValueLemmas.{length_breaks}
use Rattle.der_model.specs.LeafContents.{IsInteger, IsDecimalContents, IsBooleanContents, IsContents, HasContentsForm, HasCodes, ContentsUnder}
use Rattle.der_model.proofs.ContentsLaws.{has_form, one_contents}
use Rattle.der_codec.specs.KeptOctets.{IsKeptUnder, IsPassed, IsShortForm, IsTextKept}
use Rattle.der_codec.proofs.CodeNumbers.{no_longer}
use Rattle.der_codec.proofs.LeavesJudged.{date_run, no_code, no_date, place_low, text_breaks_as, text_form}
use Rattle.der_codec.proofs.CutTexts.{run_of, held_within}

abbrev HasForm : Simple → List ℕ → Type 0
HasForm simple octets = HasContentsForm simple.kind simple.codes octets

-- contents have the form of the type's, or this is what is told of them
form_or : (simple : Simple) (octets : List ℕ) (result : Result Leaf Rule) → ContentsUnder simple octets result → (result ≡ Err BadContents) ⊎ HasForm simple octets
form_or simple octets (Ok leaf) h = inr (has_form simple.kind simple.codes octets leaf h.0)
form_or simple octets (Err BadContents) h = inl refl
form_or simple octets (Err NotACode) h = inr h.0
form_or simple octets (Err BadText) h = inr h.0
form_or simple octets (Err rule) h = inr (has_form simple.kind simple.codes octets h.1 h.2)

-- octets stand for others where both have the form or neither has, and where they have it both are the same
stands_by : (simple : Simple) (kept octets : List ℕ) (one : Result Leaf Rule) → HasSortedCodes simple → ((more : List ℕ) → HasForm simple (kept ++ more) → HasForm simple (octets ++ more)) → ((more : List ℕ) → HasForm simple (octets ++ more) → HasForm simple (kept ++ more))
    → ((more : List ℕ) → HasForm simple (kept ++ more) → ContentsUnder simple (kept ++ more) one) → ((more : List ℕ) → HasForm simple (octets ++ more) → ContentsUnder simple (octets ++ more) one)
    → (more : List ℕ) (result : Result Leaf Rule) → ContentsUnder simple (kept ++ more) result → ContentsUnder simple (octets ++ more) result
stands_by simple kept octets one sorted there back here other more result h = by (form_or simple (kept ++ more) result h)
  where
    by : (result ≡ Err BadContents) ⊎ HasForm simple (kept ++ more) → ContentsUnder simple (octets ++ more) result
    by (inl e) =
        let none : HasForm simple (kept ++ more) → ⊥ = subst (ContentsUnder simple (kept ++ more)) e h in
        let both : ContentsUnder simple (octets ++ more) (Err BadContents) = λ form. none (back more form) in
        subst (ContentsUnder simple (octets ++ more)) (sym e) both
    by (inr form) =
        let same : one ≡ result = one_contents simple (kept ++ more) one result sorted (here more form) h in
        subst (ContentsUnder simple (octets ++ more)) same (other more (there more form))

-- ---- few octets

pub held_within_few : (o : Option ℕ) (n k : ℕ) → k ≤ 64 → IsHeldWithin o n k
held_within_few None n k few = omega (arith, few)
held_within_few (Some m) n k few = omega (arith, few)

pub whole_kept : (simple : Simple) (octets : List ℕ) → IsHeldWithin (leaf_limit simple) (length octets) (length octets) → IsKeptUnder simple octets octets
whole_kept simple octets within = record { stands = λ more result h. h; few = omega arith; within = within }

-- ---- the first octets

-- the first of many octets
pub record AreFirst (count : ℕ) (kept octets : List ℕ) : Type 0 where
  pub is : kept ≡ take count octets
  pub size : length kept ≡ count
  pub longer : count < length octets

first_or_all : (count : ℕ) (octets : List ℕ) → (take count octets ≡ octets) ⊎ AreFirst count (take count octets) octets
first_or_all count octets = by (leb_tells (length octets) count)
  where
    by : ((leb (length octets) count ≡ true) × (length octets ≤ count)) ⊎ ((leb (length octets) count ≡ false) × (count < length octets)) → (take count octets ≡ octets) ⊎ AreFirst count (take count octets) octets
    by (inl t) = inl (take_all count octets t.1)
    by (inr t) = inr (record { is = refl; size = length-take-le count octets (omega (arith, t.1)); longer = t.1 })

first_kept : (simple : Simple) (octets : List ℕ) → (AreFirst 64 (take 64 octets) octets → IsKeptUnder simple (take 64 octets) octets) → IsKeptUnder simple (take 64 octets) octets
first_kept simple octets longer = by (first_or_all 64 octets) (leb_tells (length octets) 64)
  where
    by : (take 64 octets ≡ octets) ⊎ AreFirst 64 (take 64 octets) octets → ((leb (length octets) 64 ≡ true) × (length octets ≤ 64)) ⊎ ((leb (length octets) 64 ≡ false) × (64 < length octets)) → IsKeptUnder simple (take 64 octets) octets
    by (inr a) t = longer a
    by (inl e) (inl t) = subst (λ z. IsKeptUnder simple z octets) (sym e) (whole_kept simple octets (held_within_few (leaf_limit simple) (length octets) (length octets) t.1))
    by (inl e) (inr t) = (let size = length-take-le 64 octets (omega (arith, t.1)) in let same = ap length e in let more = t.1 in absurd (omega (arith, size, same, more)))

-- ---- short contents, and none

decimal_short : (octets : List ℕ) (leaf : Leaf) → IsDecimalContents octets leaf → length octets ≤ 25
decimal_short octets (Number n) h = contents_short octets n h.0 h.1
decimal_short octets leaf h = absurd h

boolean_short : (octets : List ℕ) (leaf : Leaf) → IsBooleanContents octets leaf → length octets ≤ 25
boolean_short octets (Flag flag) h = (let one = ap length h in omega (arith, one))
boolean_short octets leaf h = absurd h

short_form : (k : Kind) (codes : Option (List (List ℕ))) (octets : List ℕ) → IsShortForm k → 63 < length octets → HasContentsForm k codes octets → ⊥
short_form kind.Decimal codes octets s long (leaf, h) = (let few = decimal_short octets leaf h in omega (arith, few, long))
short_form kind.Boolean codes octets s long (leaf, h) = (let few = boolean_short octets leaf h in omega (arith, few, long))
short_form kind.Envelope codes octets s long h = h
short_form k codes octets s long h = absurd s

pub short_kept : (simple : Simple) (octets : List ℕ) → IsShortForm simple.kind → HasSortedCodes simple → IsKeptUnder simple (take 64 octets) octets
short_kept simple octets s sorted = first_kept simple octets cut
  where
    cut : AreFirst 64 (take 64 octets) octets → IsKeptUnder simple (take 64 octets) octets
    cut a =
        let no : (more : List ℕ) → HasForm simple (take 64 octets ++ more) → ⊥ = λ more form.
        let sum = length-append (take 64 octets) more in let size = a.size in short_form simple.kind simple.codes (take 64 octets ++ more) s (omega (arith, sum, size)) form in
        let none : (more : List ℕ) → HasForm simple (octets ++ more) → ⊥ = λ more form.
        let sum = length-append octets more in let size = a.longer in short_form simple.kind simple.codes (octets ++ more) s (omega (arith, sum, size)) form in
        record {
          stands = stands_by simple (take 64 octets) octets (Err BadContents) sorted (λ more form. absurd (no more form)) (λ more form. absurd (none more form)) (λ more form. absurd (no more form)) (λ more form. absurd (none more form));
          few = (let size = a.size in let more = a.longer in omega (arith, size, more));
          within = held_within_few (leaf_limit simple) (length octets) (length (take 64 octets)) (let size = a.size in omega (arith, size));
        }

-- ---- numbers of codes

first_two : (octets more : List ℕ) → 64 < length octets → (IsInteger (take 64 octets ++ more) → IsInteger (octets ++ more)) × (IsInteger (octets ++ more) → IsInteger (take 64 octets ++ more))
first_two [] more long = absurd (omega (arith, long))
first_two (a ∷ []) more long = absurd (omega (arith, long))
first_two (a ∷ b ∷ cs) more long = (λ h. h, λ h. h)

code_form : (simple : Simple) (codes : List (List ℕ)) (octets : List ℕ) → simple.kind ≡ kind.Text → simple.codes ≡ Some codes → (HasForm simple octets → IsInteger octets) × (IsInteger octets → HasForm simple octets)
code_form simple codes octets e some = (
  λ h. subst (λ z. HasContentsForm kind.Text z octets) some (subst (λ z. HasContentsForm z simple.codes octets) e h),
  λ h. subst (λ z. HasContentsForm z simple.codes octets) (sym e) (subst (λ z. HasContentsForm kind.Text z octets) (sym some) h),
)

pub code_kept : (simple : Simple) (codes : List (List ℕ)) (octets : List ℕ) → simple.kind ≡ kind.Text → simple.codes ≡ Some codes → IsWithinLimits simple → HasSortedCodes simple → IsKeptUnder simple (take 64 octets) octets
code_kept simple codes octets e some limits sorted = first_kept simple octets cut
  where
    great : (all : List ℕ) → 5 < length all → HasForm simple all → ContentsUnder simple all (Err NotACode)
    great all long form = no_code simple codes all e some ((code_form simple codes all e some).0 form) (λ place is there. no_longer all place long (place_low simple codes place some limits there) is)

    cut : AreFirst 64 (take 64 octets) octets → IsKeptUnder simple (take 64 octets) octets
    cut a = record {
      stands = stands_by simple (take 64 octets) octets (Err NotACode) sorted
          (λ more form. (code_form simple codes (octets ++ more) e some).1 ((first_two octets more a.longer).0 ((code_form simple codes (take 64 octets ++ more) e some).0 form)))
          (λ more form. (code_form simple codes (take 64 octets ++ more) e some).1 ((first_two octets more a.longer).1 ((code_form simple codes (octets ++ more) e some).0 form)))
          (λ more form. (let sum = length-append (take 64 octets) more in let size = a.size in great (take 64 octets ++ more) (omega (arith, sum, size)) form))
          (λ more form. (let sum = length-append octets more in let size = a.longer in great (octets ++ more) (omega (arith, sum, size)) form));
      few = (let size = a.size in let more = a.longer in omega (arith, size, more));
      within = held_within_few (leaf_limit simple) (length octets) (length (take 64 octets)) (let size = a.size in omega (arith, size));
    }

-- ---- binary values

binary_limit : (simple : Simple) → simple.kind ≡ kind.Binary → leaf_limit simple ≡ simple.max
binary_limit simple e = ap (λ k. leaf_limit_by k simple.max simple.codes) e

octets_form : (simple : Simple) (octets : List ℕ) → simple.kind ≡ kind.Binary → (HasForm simple octets → IsBytes octets) × (IsBytes octets → HasForm simple octets)
octets_form simple octets e = (λ h. subst (λ z. HasContentsForm z simple.codes octets) e h, λ h. subst (λ z. HasContentsForm z simple.codes octets) (sym e) h)

bare_octets : (simple : Simple) → simple.kind ≡ kind.Binary → HasCodes simple.kind simple.codes → ⊥
bare_octets simple e h = subst (λ z. HasCodes z simple.codes) e h

too_long : (simple : Simple) (most n : ℕ) → simple.max ≡ Some most → most < n → HasLength simple n → ⊥
too_long simple most n is more h = by simple.max is h.most
  where
    by : (o : Option ℕ) → o ≡ Some most → MatchOption o (Unit {0}) (λ max. n ≤ max) → ⊥
    by None e h = absurd cc
    by (Some max) e h = (let same : max ≡ most = cc in omega (arith, same, more, h))

pub octets_kept : (simple : Simple) (octets : List ℕ) (most : ℕ) → simple.kind ≡ kind.Binary → simple.max ≡ Some most → HasSortedCodes simple → IsBytes octets → most < length octets → IsKeptUnder simple (take (most + 1) octets) octets
octets_kept simple octets most e is sorted bytes long =
    let kept = take (most + 1) octets in
    let size : length kept ≡ most + 1 = length-take-le (most + 1) octets (omega (arith, long)) in
    let first : IsBytes kept = front_bytes kept (drop (most + 1) octets) (subst IsBytes (sym (take-append-drop (most + 1) octets)) bytes) in
    let great : (all : List ℕ) → most < length all → HasForm simple all → ContentsUnder simple all (Err BadLength) = λ all more form. (
      bare_octets simple e,
      Bytes all,
      subst (λ z. IsContents z simple.codes all (Bytes all)) (sym e) ((octets_form simple all e).0 form, refl),
      length_breaks simple all ((octets_form simple all e).0 form) e (too_long simple most (length all) is more),
    ) in
    record {
      stands = stands_by simple kept octets (Err BadLength) sorted
          (λ more form. (octets_form simple (octets ++ more) e).1 (join_bytes octets more bytes (back_bytes kept more ((octets_form simple (kept ++ more) e).0 form))))
          (λ more form. (octets_form simple (kept ++ more) e).1 (join_bytes kept more first (back_bytes octets more ((octets_form simple (octets ++ more) e).0 form))))
          (λ more form. (let sum = length-append kept more in great (kept ++ more) (omega (arith, sum, size)) form))
          (λ more form. (let sum = length-append octets more in great (octets ++ more) (omega (arith, sum, long)) form));
      few = omega (arith, size, long);
      within = subst (λ o. IsHeldWithin o (length octets) (length kept)) (sym (binary_limit simple e ∙ is)) (held_within most (length octets) (length kept) (omega (arith, size, long)) (omega (arith, size)));
    }

-- ---- texts

text_limit : (simple : Simple) (most : ℕ) → simple.kind ≡ kind.Text → simple.codes ≡ None → simple.max ≡ Some most → leaf_limit simple ≡ Some most
text_limit simple most e none is = ap (λ k. leaf_limit_by k simple.max simple.codes) e ∙ (ap (λ c. leaf_limit_by kind.Text simple.max c) none ∙ is)

text_has : (simple : Simple) (octets : List ℕ) → simple.kind ≡ kind.Text → simple.codes ≡ None → (HasForm simple octets → IsXmlText octets) × (IsXmlText octets → HasForm simple octets)
text_has simple octets e none = (
  λ h. subst (λ z. HasContentsForm kind.Text z octets) none (subst (λ z. HasContentsForm z simple.codes octets) e h),
  λ h. subst (λ z. HasContentsForm z simple.codes octets) (sym e) (subst (λ z. HasContentsForm kind.Text z octets) (sym none) h),
)

pub text_kept : (simple : Simple) (kept octets : List ℕ) (most : ℕ) → simple.kind ≡ kind.Text → simple.codes ≡ None → simple.max ≡ Some most → HasSortedCodes simple → IsTextKept most kept octets → IsKeptUnder simple kept octets
text_kept simple kept octets most e none is sorted k = by k.text
  where
    limit : leaf_limit simple ≡ Some most
    limit = text_limit simple most e none is

    within : IsHeldWithin (leaf_limit simple) (length octets) (length kept)
    within = subst (λ o. IsHeldWithin o (length octets) (length kept)) (sym limit) k.within

    great : (all : List ℕ) (t : IsXmlText all) → most < length t.0 → ContentsUnder simple all (Err BadLength)
    great all t more =
        let r = run_of all t in
        text_breaks_as simple all (length t.0) BadLength e none r (length_broken simple r.chars e none r.are (too_long simple most (length r.chars) is (let count = r.count_is in omega (arith, count, more))))

    by : (kept ≡ octets) ⊎ IsPassed most kept octets → IsKeptUnder simple kept octets
    by (inl same) = record { stands = λ more result h. subst (λ z. ContentsUnder simple (z ++ more) result) same h; few = k.few; within = within }
    by (inr p) = record {
      stands = stands_by simple kept octets (Err BadLength) sorted
          (λ more form. (text_has simple (octets ++ more) e none).1 (p.there more ((text_has simple (kept ++ more) e none).0 form)))
          (λ more form. (text_has simple (kept ++ more) e none).1 (p.back more ((text_has simple (octets ++ more) e none).0 form)))
          (λ more form. (let t = (text_has simple (kept ++ more) e none).0 form in great (kept ++ more) t (p.kept_long more (length t.0) (run_of (kept ++ more) t))))
          (λ more form. (let t = (text_has simple (octets ++ more) e none).0 form in great (octets ++ more) t (p.octets_long more (length t.0) (run_of (octets ++ more) t))));
      few = k.few;
      within = within;
    }

-- ---- dates and times

date_limit : (k : Kind) (most : Option ℕ) (codes : Option (List (List ℕ))) → IsDateKind k → leaf_limit_by k most codes ≡ Some 64
date_limit kind.Text most codes d = absurd d
date_limit kind.Binary most codes d = absurd d
date_limit k most codes d = refl

pub date_kept : (simple : Simple) (kept octets : List ℕ) → IsDateKind simple.kind → HasSortedCodes simple → IsTextKept 64 kept octets → IsKeptUnder simple kept octets
date_kept simple kept octets d sorted k = by k.text
  where
    within : IsHeldWithin (leaf_limit simple) (length octets) (length kept)
    within = subst (λ o. IsHeldWithin o (length octets) (length kept)) (sym (date_limit simple.kind simple.max simple.codes d)) k.within

    -- a text of so many characters is no date
    great : (all : List ℕ) → ((count : ℕ) → IsXmlRun all count → 64 < count) → IsDateText simple.kind all → ⊥
    great all more is = (let run = date_run simple.kind all is in let long = more (length all) run.0 in let few = (date_visible simple.kind all is).1 in omega (arith, long, few))

    bad : (all : List ℕ) → ((count : ℕ) → IsXmlRun all count → 64 < count) → HasForm simple all → ContentsUnder simple all (Err BadText)
    bad all more form = no_date simple all BadText d (great all more) ((text_form simple.kind simple.codes all d).0 form)

    by : (kept ≡ octets) ⊎ IsPassed 64 kept octets → IsKeptUnder simple kept octets
    by (inl same) = record { stands = λ more result h. subst (λ z. ContentsUnder simple (z ++ more) result) same h; few = k.few; within = within }
    by (inr p) = record {
      stands = stands_by simple kept octets (Err BadText) sorted
          (λ more form. (text_form simple.kind simple.codes (octets ++ more) d).1 (p.there more ((text_form simple.kind simple.codes (kept ++ more) d).0 form)))
          (λ more form. (text_form simple.kind simple.codes (kept ++ more) d).1 (p.back more ((text_form simple.kind simple.codes (octets ++ more) d).0 form)))
          (λ more form. bad (kept ++ more) (p.kept_long more) form)
          (λ more form. bad (octets ++ more) (p.octets_long more) form);
      few = k.few;
      within = within;
    }
