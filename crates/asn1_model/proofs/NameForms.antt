-- The names that are made have the form of identifiers and references.
use Rattle.std.proofs.Common.{◌≡◌, ◌⊎◌, inl, inr, ℕ, zero, suc, ◌+◌, ◌-◌, ◌<◌, ◌^◌, Bool, true, false, not, ◌||◌, List, [], ◌∷◌, ◌++◌, map, length, refl, sym, ap, subst, ◌∙◌, arith, codes}
use Rattle.std.specs.Prelude.{if◌then◌else◌}
use Rattle.std.specs.Char.{digit_value}
use Rattle.std.specs.Fmt.{decimal}
use Rattle.std.specs.Str.{bytes_eq}
use Rattle.std.specs.Str.Parse.{AllDigits}
use Rattle.std.specs.List.{AllByRecursion, list_any}
use Rattle.std.proofs.lemmas.Bool.{or_parts}
use Rattle.std.proofs.lemmas.Bool.Decides.{nat_tests}
use Rattle.std.proofs.lemmas.Fmt.{decimal_is_IsNumeral}
use Rattle.lexical_core.proofs.EqualBytes.{equal_bytes}
use Rattle.lexical_core.proofs.Numerals.{digit_range}
use Rattle.reference_check.specs.Forms.{Slot}
use Rattle.der_model.specs.Structures.{is_single}
use Rattle.asn1_model.specs.Names.{is_name_digit, is_upper, is_lower, is_in_name, hyphen, with_hyphens, without_gap, begun_with_letter, bare_name, to_lower, to_upper, first_lower, first_upper, is_name_among, reserved_names, with_one, asn_identifier, asn_type_name, candidate, first_free, given_after}
use Rattle.asn1_model.specs.ModuleOf.{slot_identifier}
use Rattle.asn1_model.specs.NameRules.{BeginsInName, GoesOnAsName, IsNameWith, IsIdentifier, reserved_words, IsReference}

-- ---- names that go on

-- what is read from a text goes on as a name does
hyphens_go_on : (gap : Bool) (text : List ℕ) → GoesOnAsName (with_hyphens gap text)
hyphens_go_on gap [] = tt
hyphens_go_on gap (c ∷ cs) = by (is_in_name c) refl gap (hyphens_go_on false cs) (hyphens_go_on true cs)
  where
    by : (b : Bool) → is_in_name c ≡ b → (gap : Bool) → GoesOnAsName (with_hyphens false cs) → GoesOnAsName (with_hyphens true cs)
        → GoesOnAsName (if b then (if gap then hyphen ∷ c ∷ with_hyphens false cs else c ∷ with_hyphens false cs) else with_hyphens true cs)
    by true e true plain gapped = (inr (refl, e), (inl e, plain))
    by true e false plain gapped = (inl e, plain)
    by false e gap plain gapped = gapped

begins_append : (name more : List ℕ) → BeginsInName name → BeginsInName (name ++ more)
begins_append [] more h = absurd h
begins_append (c ∷ cs) more h = h

append_goes_on : (name more : List ℕ) → GoesOnAsName name → GoesOnAsName more → GoesOnAsName (name ++ more)
append_goes_on [] more h g = g
append_goes_on (c ∷ cs) more (inl e, h) g = (inl e, append_goes_on cs more h g)
append_goes_on (c ∷ cs) more (inr (e, begins), h) g = (inr (e, begins_append cs more begins), append_goes_on cs more h g)

append_form : (is_first : ℕ → Bool) (name more : List ℕ) → IsNameWith is_first name → GoesOnAsName more → IsNameWith is_first (name ++ more)
append_form is_first [] more h g = absurd h
append_form is_first (c ∷ cs) more (first, h) g = (first, append_goes_on cs more h g)

-- ---- names that are read from texts

abbrev is_letter : ℕ → Bool
is_letter c = is_upper c || is_lower c

-- there is nothing, or a letter or a digit stands first
abbrev IsNothingOr : List ℕ → Type 0
IsNothingOr [] = Unit {0}
IsNothingOr (c ∷ cs) = (is_in_name c ≡ true) × GoesOnAsName cs

hyphens_begin : (text : List ℕ) → IsNothingOr (with_hyphens false (without_gap text))
hyphens_begin [] = tt
hyphens_begin (c ∷ cs) = by (is_in_name c) refl (hyphens_begin cs)
  where
    by : (b : Bool) → is_in_name c ≡ b → IsNothingOr (with_hyphens false (without_gap cs)) → IsNothingOr (with_hyphens false (if b then c ∷ cs else without_gap cs))
    by true e more = subst (λ b. IsNothingOr (if b then c ∷ with_hyphens false cs else with_hyphens true cs)) (sym e) (e, hyphens_go_on false cs)
    by false e more = more

begun_form : (name : List ℕ) → IsNothingOr name → IsNameWith is_letter (begun_with_letter name)
begun_form [] h = (refl, tt)
begun_form (c ∷ cs) (first, h) = by (is_name_digit c) first
  where
    by : (b : Bool) → (b || is_letter c) ≡ true → IsNameWith is_letter (if b then codes "x" ++ c ∷ cs else c ∷ cs)
    by true e = (refl, (inl first, h))
    by false e = (e, h)

bare_form : (text : List ℕ) → IsNameWith is_letter (bare_name text)
bare_form text = begun_form (with_hyphens false (without_gap text)) (hyphens_begin text)

capital_lowered : (c : ℕ) → is_upper c ≡ true → is_lower (c + 32) ≡ true
capital_lowered c e = grind (arith, nat_tests)

is_lowered : (c : ℕ) → is_letter c ≡ true → is_lower (to_lower c) ≡ true
is_lowered c letter = by (is_upper c) refl letter
  where
    by : (b : Bool) → is_upper c ≡ b → (b || is_lower c) ≡ true → is_lower (if b then c + 32 else c) ≡ true
    by true e h = capital_lowered c e
    by false e h = h

small_raised : (c : ℕ) → is_lower c ≡ true → is_upper (c - 32) ≡ true
small_raised c e = grind (arith, nat_tests)

is_raised : (c : ℕ) → is_letter c ≡ true → is_upper (to_upper c) ≡ true
is_raised c letter = by (is_lower c) refl
  where
    by : (b : Bool) → is_lower c ≡ b → is_upper (if b then c - 32 else c) ≡ true
    by true e = small_raised c e
    by false e = only (is_upper c) refl (subst (λ l. (is_upper c || l) ≡ true) e letter)
      where
        only : (u : Bool) → is_upper c ≡ u → (u || false) ≡ true → is_upper c ≡ true
        only true same h = same
        only false same h = absurd cc

lower_form : (name : List ℕ) → IsNameWith is_letter name → IsIdentifier (first_lower name)
lower_form [] h = absurd h
lower_form (c ∷ cs) (letter, h) = (is_lowered c letter, h)

upper_form : (name : List ℕ) → IsNameWith is_letter name → IsNameWith is_upper (first_upper name)
upper_form [] h = absurd h
upper_form (c ∷ cs) (letter, h) = (is_raised c letter, h)

pub identifier_form : (text : List ℕ) → IsIdentifier (asn_identifier text)
unfolding asn_identifier
identifier_form text = lower_form (bare_name text) (bare_form text)

list_goes_on : GoesOnAsName (codes "-list")
list_goes_on = (inr (refl, refl), (inl refl, (inl refl, (inl refl, (inl refl, tt)))))

slot_form : {P : Type 0} (s : Slot P) → IsIdentifier (slot_identifier s)
slot_form s = by (is_single s)
  where
    by : (b : Bool) → IsIdentifier (if b then asn_identifier s.tag else asn_identifier s.tag ++ codes "-list")
    by true = identifier_form s.tag
    by false = append_form is_lower (asn_identifier s.tag) (codes "-list") (identifier_form s.tag) list_goes_on

pub slots_form : {P : Type 0} (fs : List (Slot P)) → AllByRecursion IsIdentifier (map slot_identifier fs)
slots_form [] = tt
slots_form (s ∷ fs) = (slot_form s, slots_form fs)

pub identifiers_form : (texts : List (List ℕ)) → AllByRecursion IsIdentifier (map asn_identifier texts)
identifiers_form [] = tt
identifiers_form (text ∷ texts) = (identifier_form text, identifiers_form texts)

-- ---- endings

is_digit_name : (c : ℕ) → digit_value c < 10 → is_name_digit c ≡ true
is_digit_name c h = (let range = digit_range c h in let low = range.0 in let high = range.1 in grind (arith, nat_tests))

digits_go_on : (ds : List ℕ) → AllDigits 10 ds → GoesOnAsName ds
digits_go_on [] all = tt
digits_go_on (d ∷ ds) (first, all) = (inl (ap (λ b. b || is_letter d) (is_digit_name d first)), digits_go_on ds all)

ending_goes_on : (ds : List ℕ) → 0 < length ds → AllDigits 10 ds → GoesOnAsName (hyphen ∷ ds)
ending_goes_on [] some all = absurd (omega (arith, some))
ending_goes_on (d ∷ ds) some (first, all) = (inr (refl, ap (λ b. b || is_letter d) (is_digit_name d first)), digits_go_on (d ∷ ds) (first, all))

-- a name with an ending has the form that it has without
candidate_form : (is_first : ℕ → Bool) (name : List ℕ) (k : ℕ) → k < 2 ^ 64 → IsNameWith is_first name → IsNameWith is_first (candidate name k)
unfolding candidate
candidate_form is_first name zero lt h = h
candidate_form is_first name (suc k) lt h = (let digits = (decimal_is_IsNumeral (suc k) lt).0 in append_form is_first name (hyphen ∷ decimal (suc k)) h (ending_goes_on (decimal (suc k)) digits.0 digits.1))

pub candidate_identifier : (name : List ℕ) (k : ℕ) → k < 2 ^ 64 → IsIdentifier name → IsIdentifier (candidate name k)
candidate_identifier name k lt h = candidate_form is_lower name k lt h

-- ---- reserved words

-- a name that passes a test is none of the words that do not
none_among : (test : List ℕ → Bool) (words : List (List ℕ)) (name : List ℕ) → list_any test words ≡ false → test name ≡ true → is_name_among words name ≡ false
none_among test [] name none own = refl
none_among test (w ∷ ws) name none own = by (bytes_eq name w) refl (none_among test ws name (or_parts (test w) (list_any test ws) none).1 own)
  where
    by : (b : Bool) → bytes_eq name w ≡ b → is_name_among ws name ≡ false → (b || is_name_among ws name) ≡ false
    by true e more = (let x : test w ≡ true = subst (λ n. test n ≡ true) (equal_bytes name w e) own in let y : false ≡ true = sym (or_parts (test w) (list_any test ws) none).0 ∙ x in absurd cc)
    by false e more = more

-- a digit is the last of the bytes behind those that the test was of
abbrev ends_in_digit : Bool → List ℕ → Bool
ends_in_digit last [] = last
ends_in_digit last (c ∷ cs) = ends_in_digit (is_name_digit c) cs

abbrev is_numbered : List ℕ → Bool
is_numbered name = ends_in_digit false name

ends_append : (last : Bool) (name more : List ℕ) → ends_in_digit last (name ++ more) ≡ ends_in_digit (ends_in_digit last name) more
ends_append last [] more = refl
ends_append last (c ∷ cs) more = ends_append (is_name_digit c) cs more

ends_digits : (last : Bool) (ds : List ℕ) → (last ≡ true) ⊎ (0 < length ds) → AllDigits 10 ds → ends_in_digit last ds ≡ true
ends_digits last [] (inl e) all = e
ends_digits last [] (inr some) all = absurd (omega (arith, some))
ends_digits last (d ∷ ds) some (first, all) = ends_digits (is_name_digit d) ds (inl (is_digit_name d first)) all

-- no reserved word ends in a digit
words_not_numbered : list_any is_numbered reserved_words ≡ false
unfolding reserved_words
words_not_numbered = refl

numbered_free : (name ds : List ℕ) → 0 < length ds → AllDigits 10 ds → is_name_among reserved_words (name ++ hyphen ∷ ds) ≡ false
numbered_free name ds some all = none_among is_numbered reserved_words (name ++ hyphen ∷ ds) words_not_numbered (ends_append false name (hyphen ∷ ds) ∙ ends_digits false ds (inr some) all)

-- the test by which a type's name gets an ending
abbrev is_like_reserved : List ℕ → Bool
is_like_reserved name = not (list_any is_lower name) || is_name_among reserved_names name

-- it finds each reserved word
words_found : list_any (λ w. not (is_like_reserved w)) reserved_words ≡ false
unfolding reserved_words
words_found = refl

one_form : (name : List ℕ) → IsNameWith is_upper name → IsReference (with_one name)
one_form name h = by (is_like_reserved name) refl
  where
    digit : AllDigits 10 (codes "1")
    digit = (omega arith, tt)

    by : (b : Bool) → is_like_reserved name ≡ b → IsReference (if b then name ++ codes "-1" else name)
    by true e = record { form = append_form is_upper name (codes "-1") h (inr (refl, refl), (inl refl, tt)); free = numbered_free name (codes "1") (omega arith) digit }
    by false e = record { form = h; free = none_among (λ w. not (is_like_reserved w)) reserved_words name words_found (ap not e) }

pub type_name_form : (text : List ℕ) → IsReference (asn_type_name text)
unfolding asn_type_name
type_name_form text = one_form (first_upper (bare_name text)) (upper_form (bare_name text) (bare_form text))

pub candidate_reference : (name : List ℕ) (k : ℕ) → k < 2 ^ 64 → IsReference name → IsReference (candidate name k)
unfolding candidate
candidate_reference name zero lt h = h
candidate_reference name (suc k) lt h =
    let digits = (decimal_is_IsNumeral (suc k) lt).0 in record {
      form = append_form is_upper name (hyphen ∷ decimal (suc k)) h.form (ending_goes_on (decimal (suc k)) digits.0 digits.1);
      free = numbered_free name (decimal (suc k)) digits.0 digits.1;
    }

-- ---- names that are given

-- what endings keep holds of the name that is given
module _ (Holds : List ℕ → Type 0) (keeps : (name : List ℕ) (k : ℕ) → k < 2 ^ 64 → Holds name → Holds (candidate name k)) where
  free_holds : (f : ℕ) (taken : List (List ℕ)) (name : List ℕ) (k : ℕ) → k + f < 2 ^ 64 → Holds name → Holds (first_free f taken name k)
  free_holds zero taken name k few h = keeps name k (omega arith) h
  free_holds (suc f) taken name k few h = by (is_name_among taken (candidate name k)) (free_holds f taken name (suc k) (omega arith) h)
    where
      by : (b : Bool) → Holds (first_free f taken name (suc k)) → Holds (if b then first_free f taken name (suc k) else candidate name k)
      by true more = more
      by false more = keeps name k (omega arith) h

  pub given_hold : (taken ns : List (List ℕ)) → length taken + length ns < 2 ^ 64 → AllByRecursion Holds ns → AllByRecursion Holds (given_after taken ns)
  given_hold taken [] few all = tt
  given_hold taken (n ∷ ns) few (first, all) = (free_holds (length taken) taken n 0 (omega arith) first, given_hold (first_free (length taken) taken n 0 ∷ taken) ns (omega arith) all)
