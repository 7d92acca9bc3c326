-- The octets of a text that is judged as they come.
use Rattle.std.proofs.Common.{◌≡◌, ℕ, ◌+◌, ◌-◌, ◌≤◌, List, [], ◌++◌, length, take, drop, refl, sym, ap, ◌∙◌, subst, arith, append-nil, append_assoc, inl, inr, encode_utf8_all, Ok, Err, Result}
use Rattle.std.proofs.Math.Seq.{take-add, take-append-add}
use Rattle.std.proofs.lemmas.Bool.{cases_lt}
use Rattle.std.proofs.lemmas.List.{take-append-drop, take-append-le, take_all, length-drop, nil_from_length}
use Rattle.std.proofs.lemmas.Str.{encodes-append}
use Rattle.lexical_core.specs.Characters.{IsXmlText}
use Rattle.lexical_core.specs.XmlRuns.{IsXmlRun}
use Rattle.lexical_core.specs.declared.rule.Rule.TheVariants.{BadContents}
use Rattle.facets.specs.LeafVerdicts.{HasVerdictTaken, IsFreeText}
use Rattle.facets.specs.declared.leaf_verdict.LeafVerdict.{LeafVerdict}
use Rattle.facets.specs.declared.simple.Simple.{Simple}
use Rattle.der_model.specs.LeafContents.{ContentsUnder}
use Rattle.der_codec.specs.Checked.{IsToldOf}
use Rattle.der_codec.specs.OpenLeaves.{IsOpenText, BeginsNoText, IsToldUnder}
use Rattle.der_codec.specs.declared.checks.Refusal.{Refusal}
use Rattle.der_codec.specs.declared.checks.Refusal.TheVariants as refused
use Rattle.der_codec.proofs.CutTexts.{text_behind, text_both}
use Rattle.der_codec.proofs.LeavesJudged.{no_text, run_text, text_breaks_as, text_fits}

-- both parts of octets
pub split_whole : (n : ℕ) (octets front back : List ℕ) → front ≡ take n octets → back ≡ drop n octets → octets ≡ front ++ back
split_whole n octets front back f b = sym (take-append-drop n octets) ∙ (ap (λ z. z ++ drop n octets) (sym f) ∙ ap (λ z. front ++ z) (sym b))

chars_run : (check : LeafVerdict) (simple : Simple) (rest octets : List ℕ) (t : IsOpenText check simple rest octets) → IsXmlRun (encode_utf8_all t.chars) (length t.chars)
chars_run check simple rest octets t = record { chars = t.chars; spelled = refl; count_is = refl; are = t.taken.seen.characters }

-- what stands behind the characters of a text is a text
rest_text : (check : LeafVerdict) (simple : Simple) (rest before more : List ℕ) → IsOpenText check simple rest before → IsXmlText (before ++ more) → IsXmlText (rest ++ more)
rest_text check simple rest before more t h =
    text_behind (encode_utf8_all t.chars) (rest ++ more) (length t.chars) (chars_run check simple rest before t)
    (subst IsXmlText (ap (λ z. z ++ more) t.octets_are ∙ append_assoc (encode_utf8_all t.chars) rest more) h)

-- ---- octets of which no text comes

-- where none comes of the rest and octets that follow it, none comes of all
pub none_behind : (check : LeafVerdict) (simple : Simple) (rest head behind octets seen before : List ℕ) → IsOpenText check simple rest before → seen ≡ rest ++ head → octets ≡ head ++ behind → BeginsNoText seen → BeginsNoText (before ++ octets)
none_behind check simple rest head behind octets seen before t is whole none = λ more h.
    none (behind ++ more)
    (subst IsXmlText (ap (λ z. rest ++ (z ++ more)) whole ∙ (ap (λ z. rest ++ z) (append_assoc head behind more) ∙ (sym (append_assoc rest head (behind ++ more)) ∙ ap (λ z. z ++ (behind ++ more)) (sym is))))
    (rest_text check simple rest before (octets ++ more) t (subst IsXmlText (append_assoc before octets more) h)))

pub none_more : (before octets : List ℕ) → BeginsNoText before → BeginsNoText (before ++ octets)
none_more before octets none = λ more h. none (octets ++ more) (subst IsXmlText (append_assoc before octets more) h)

-- a text that is cut within a character is none
pub cut_none : (check : LeafVerdict) (simple : Simple) (rest octets : List ℕ) → IsOpenText check simple rest octets → (rest ≡ [] → ⊥) → IsXmlText octets → ⊥
cut_none check simple rest octets t some h =
    some (nil_from_length rest (t.cut (length rest) (omega arith) (subst IsXmlText (append-nil rest ∙ sym (take_all (length rest) rest (omega arith))) (rest_text check simple rest octets [] t (subst IsXmlText (sym (append-nil octets)) h)))))

-- ---- the character that is not whole

-- it does not end
pub text_waits : (check : LeafVerdict) (simple : Simple) (rest head seen before : List ℕ) (bytes : ℕ) → IsOpenText check simple rest before → seen ≡ rest ++ head → length seen ≤ 3 → ((n : ℕ) → n ≤ length seen → IsXmlText (take n seen) → n ≤ bytes) → bytes ≡ 0
    → IsOpenText check simple seen (before ++ head)
text_waits check simple rest head seen before bytes t is few longest none = record {
  chars = t.chars;
  taken = t.taken;
  octets_are = ap (λ z. z ++ head) t.octets_are ∙ (append_assoc (encode_utf8_all t.chars) rest head ∙ ap (λ z. encode_utf8_all t.chars ++ z) (sym is));
  few = few;
  cut = λ n low h. (let most = longest n low h in omega (arith, most, none));
}

-- where some characters are whole, the rest is within them
pub rest_within : (check : LeafVerdict) (simple : Simple) (rest head seen before : List ℕ) (bytes count : ℕ) → IsOpenText check simple rest before → seen ≡ rest ++ head → IsXmlRun (take bytes seen) count → (bytes ≡ 0 → ⊥) → length rest ≤ bytes
rest_within check simple rest head seen before bytes count t is run some = elim (cases_lt bytes (length rest)) [
  | inl low ↦
      (let same : take bytes seen ≡ take bytes rest = ap (take bytes) is ∙ take-append-le bytes rest head (omega (arith, low)) in
      absurd (some (t.cut bytes (omega (arith, low)) (subst IsXmlText same (run_text (take bytes seen) count run)))))
  | inr high ↦ omega (arith, high)
]

-- it ends, and others with it
pub text_ends : (check new : LeafVerdict) (simple : Simple) (rest head seen before : List ℕ) (bytes : ℕ) (t : IsOpenText check simple rest before) (more : List ℕ) → seen ≡ rest ++ head → take bytes seen ≡ encode_utf8_all more → length rest ≤ bytes
    → HasVerdictTaken new simple (t.chars ++ more) → IsOpenText new simple [] (before ++ take (bytes - length rest) head)
text_ends check new simple rest head seen before bytes t more is spelled within taken = record {
  chars = t.chars ++ more;
  taken = taken;
  octets_are =
      let size : bytes ≡ length rest + (bytes - length rest) = omega (arith, within) in
      let front : rest ++ take (bytes - length rest) head ≡ encode_utf8_all more = sym (take-append-add rest head (bytes - length rest)) ∙ (ap (λ z. take z (rest ++ head)) (sym size) ∙ (ap (take bytes) (sym is) ∙ spelled)) in
      ap (λ z. z ++ take (bytes - length rest) head) t.octets_are ∙ (append_assoc (encode_utf8_all t.chars) rest (take (bytes - length rest) head)
      ∙ (ap (λ z. encode_utf8_all t.chars ++ z) front ∙ (sym (encodes-append t.chars more) ∙ sym (append-nil (encode_utf8_all (t.chars ++ more))))));
  few = omega arith;
  cut = λ n low h. omega (arith, low);
}

-- ---- characters behind those that are whole

pub text_takes : (check new : LeafVerdict) (simple : Simple) (rest octets front before : List ℕ) (bytes count : ℕ) (t : IsOpenText check simple rest before) (run : IsXmlRun front count) → front ≡ take bytes octets → rest ≡ [] → bytes ≤ length octets
    → ((n : ℕ) → n ≤ length octets → IsXmlText (take n octets) → n ≤ bytes) → length (drop bytes octets) ≤ 3 → HasVerdictTaken new simple (t.chars ++ run.chars) → IsOpenText new simple (drop bytes octets) (before ++ octets)
text_takes check new simple rest octets front before bytes count t run is none within longest few taken = record {
  chars = t.chars ++ run.chars;
  taken = taken;
  octets_are =
      let old : before ≡ encode_utf8_all t.chars = t.octets_are ∙ (ap (λ z. encode_utf8_all t.chars ++ z) none ∙ append-nil (encode_utf8_all t.chars)) in
      ap (λ z. before ++ z) (sym (take-append-drop bytes octets)) ∙ (ap (λ z. before ++ (z ++ drop bytes octets)) (sym is ∙ run.spelled) ∙ (ap (λ z. z ++ (encode_utf8_all run.chars ++ drop bytes octets)) old
      ∙ (sym (append_assoc (encode_utf8_all t.chars) (encode_utf8_all run.chars) (drop bytes octets)) ∙ ap (λ z. z ++ drop bytes octets) (sym (encodes-append t.chars run.chars)))));
  few = few;
  cut = λ n low h.
      let size = length-drop bytes octets in
      let most = longest (bytes + n) (omega (arith, low, size, within)) (subst IsXmlText (ap (λ z. z ++ take n (drop bytes octets)) is ∙ sym (take-add bytes n octets)) (text_both front (take n (drop bytes octets)) count run h)) in
      omega (arith, most);
}

-- ---- the end of a text

pub text_told : {T : Type 0} (check : LeafVerdict) (simple : Simple) (rest octets : List ℕ) (result : Result T Refusal) → IsFreeText simple → (t : IsOpenText check simple rest octets) → rest ≡ [] → IsToldOf simple t.chars result → IsToldUnder simple octets result
text_told {T} check simple rest octets result free t none told = by result told
  where
    run : IsXmlRun octets (length t.chars)
    run = record { chars = t.chars; spelled = t.octets_are ∙ (ap (λ z. encode_utf8_all t.chars ++ z) none ∙ append-nil (encode_utf8_all t.chars)); count_is = refl; are = t.taken.seen.characters }

    by : (result : Result T Refusal) → IsToldOf simple t.chars result → IsToldUnder simple octets result
    by (Ok x) (leaf, g) = text_fits simple octets (length t.chars) leaf free.0 free.1 run g
    by (Err (refused.Breaks rule)) b = text_breaks_as simple octets (length t.chars) rule free.0 free.1 run b
    by (Err refused.Memory) b = tt

-- octets of which no text comes are none
pub none_told : (simple : Simple) (octets : List ℕ) → IsFreeText simple → BeginsNoText octets → ContentsUnder simple octets (Err BadContents)
none_told simple octets free none = no_text simple octets free.0 free.1 (λ h. none [] (subst IsXmlText (sym (append-nil octets)) h))
