-- Where the parts of a date's text end.
use Rattle.std.proofs.Common.{◌≡◌, ◌≢◌, ℕ, suc, ◌+◌, ◌-◌, ◌<◌, ◌≤◌, inl, inr, Bool, true, false, List, [], ◌∷◌, ◌++◌, length, take, drop, get_or, slice_index, sym, ap, subst, ◌∙◌, arith, take-append-drop, lit≤}
use Rattle.std.proofs.Math.Seq.{take-append_seam, drop-append_seam}
use Rattle.std.proofs.lemmas.Bool.{cases_lt, iff_false}
use Rattle.std.specs.Prelude.{IsTrue, ◌↔◌}
use Rattle.std.proofs.lemmas.List.{length-take-le, length-drop, length-append, get_or_append_left, get_or-append-add, get_or-take, get_or-drop}
use Rattle.std.specs.Char.{digit_value}
use Rattle.std.specs.Str.Parse.{AllDigits}
use Rattle.lexical_core.specs.Exponents.{NoDigit}
use Rattle.lexical_core.proofs.DecimalTexts.{digits_split}
use Rattle.data_types.specs.Dates.{FitsPlace, HasForm, HasParts, IsDateText, IsFraction, IsZone}
use Rattle.data_types.specs.Kinds.{form_of, has_seconds}
use Rattle.data_types.specs.inner.DateParts.{IsFractionAndZone}
use Rattle.data_types.specs.declared.kind.Kind.{Kind}

-- no is the answer where there is none
pub neither : {P : Type 0} → (P → ⊥) → IsTrue false ↔ P
neither none = (λ e. absurd cc, λ h. absurd (none h))

-- no is the answer where a part says no
pub neither_by : {b : Bool} {P Q : Type 0} → (IsTrue b ↔ Q) → b ≡ false → (P → Q) → IsTrue false ↔ P
neither_by part fails in_part = neither (λ h. iff_false part fails (in_part h))

-- and what that part says is the answer
pub neither_as : {b : Bool} {P Q : Type 0} → (IsTrue b ↔ Q) → b ≡ false → (P → Q) → IsTrue b ↔ P
neither_as part fails in_part = (λ e. absurd (iff_false (λ x. x, λ x. x) fails e), λ h. absurd (iff_false part fails (in_part h)))

-- a zone begins with no digit and no point
zone_start : (zone : List ℕ) → IsZone zone → NoDigit zone × (0 < length zone → slice_index zone 0 ≢ 46)
zone_start zone (inl e) = (subst NoDigit (sym e) tt, λ some. absurd (omega (arith, ap length e)))
zone_start zone (inr (inl e)) = (subst NoDigit (sym e) (lit≤ tt), λ some h. let first = ap (λ t. get_or t 0 0) e in omega arith)
zone_start [] (inr (inr o)) = (tt, λ some. absurd (omega arith))
zone_start (c ∷ cs) (inr (inr o)) = elim o.sign [
  | inl e ↦ (subst (λ x. 10 ≤ digit_value x) (sym e) (lit≤ tt), λ some h. let same : c ≡ 43 = e in omega arith)
  | inr e ↦ (subst (λ x. 10 ≤ digit_value x) (sym e) (lit≤ tt), λ some h. let same : c ≡ 45 = e in omega arith)
]

fraction_of_point : (text fraction zone : List ℕ) → IsFraction true fraction → IsZone zone → text ≡ fraction ++ zone → 0 < length text → slice_index text 0 ≡ 46
    → (digits : List ℕ) × AllDigits 10 digits × (1 ≤ length digits) × (length digits ≤ 9) × (fraction ≡ 46 ∷ digits)
fraction_of_point text fraction zone (inr f) z e some point = f
fraction_of_point text fraction zone (inl none) z e some point =
    absurd (
    let same : text ≡ zone = e ∙ ap (λ x. x ++ zone) none in
    let first = ap (λ t. get_or t 0 0) same in
    let len = ap length same in
    (zone_start zone z).1 (omega arith) (omega arith))

-- after a point as many digits as there are belong to the fraction
pub fraction_count : (text rest fraction zone : List ℕ) (seconds : Bool) (count : ℕ) → seconds ≡ true → IsFraction seconds fraction → IsZone zone
    → text ≡ fraction ++ zone → 0 < length text → slice_index text 0 ≡ 46 → rest ≡ drop 1 text
    → count ≤ length rest → AllDigits 10 (take count rest) → NoDigit (drop count rest) → (1 ≤ count) × (count ≤ 9) × (length fraction ≡ count + 1)
fraction_count text rest fraction zone seconds count with_point f z e some point tail bound all none =
    let parts = fraction_of_point text fraction zone (subst (λ b. IsFraction b fraction) with_point f) z e some point in
    let ds = parts.0 in
    let whole : rest ≡ ds ++ zone = tail ∙ ap (drop 1) (e ∙ ap (λ x. x ++ zone) parts.4) in
    let same = digits_split (take count rest) ds (drop count rest) zone all parts.1 (take-append-drop count rest ∙ whole) none (zone_start zone z).0 in
    let len = sym (length-take-le count rest bound) ∙ ap length same.0 in
    let total = ap length parts.4 in
    let low = parts.2 in let high = parts.3 in
    (omega arith, omega arith, omega arith)

-- a point and one to nine digits are a fraction
pub fraction_told : (text rest : List ℕ) (seconds : Bool) (count : ℕ) → seconds ≡ true → 0 < length text → slice_index text 0 ≡ 46 → rest ≡ drop 1 text
    → count ≤ length rest → AllDigits 10 (take count rest) → 1 ≤ count → count ≤ 9 → (count + 1 ≤ length text) × IsFraction seconds (take (count + 1) text)
fraction_told [] rest seconds count with_point some point tail bound all low high = absurd (omega (arith, some))
fraction_told (c ∷ cs) rest seconds count with_point some point tail bound all low high =
    let size = length-take-le count rest bound in
    let next : count + 1 ≡ suc count = omega arith in
    let same : take (count + 1) (c ∷ cs) ≡ 46 ∷ take count rest =
    ap (λ k. take k (c ∷ cs)) next ∙ (ap (λ x. x ∷ take count cs) point ∙ ap (λ l. 46 ∷ take count l) (sym tail)) in (
      omega (arith, bound, ap length tail),
      subst (λ b. IsFraction b (take (count + 1) (c ∷ cs))) (sym with_point) (inr (take count rest, all, omega (arith, low, size), omega (arith, high, size), same)),
    )

-- the fixed part is where the form ends
pub fixed_split : (kind : Kind) (text fixed fraction zone : List ℕ) (n : ℕ) → length (form_of kind) ≡ n → HasForm (form_of kind) fixed → text ≡ fixed ++ (fraction ++ zone)
    → (take n text ≡ fixed) × (drop n text ≡ fraction ++ zone)
fixed_split kind text fixed fraction zone n len form e =
    let count : n ≡ length fixed = sym (form.same_length ∙ len) in (
      ap (λ k. take k text) count ∙ (ap (take (length fixed)) e ∙ take-append_seam fixed (fraction ++ zone)),
      ap (λ k. drop k text) count ∙ (ap (drop (length fixed)) e ∙ drop-append_seam fixed (fraction ++ zone)),
    )

-- a text that is shorter than its form is none
pub text_short : (kind : Kind) (text : List ℕ) (n : ℕ) → length (form_of kind) ≡ n → length text < n → IsDateText kind text → ⊥
text_short kind text n len short (fixed, fraction, zone, e, form, parts, f, z) =
    let same = form.same_length in
    omega (arith, len, short, same, ap length e, length-append fixed (fraction ++ zone))

-- a fixed part and what may stand behind it make a text
pub text_told : (kind : Kind) (text fixed rest : List ℕ) (n : ℕ) → fixed ≡ take n text → rest ≡ drop n text → HasForm (form_of kind) fixed × HasParts kind fixed
    → IsFractionAndZone (has_seconds kind) rest → IsDateText kind text
text_told kind text fixed rest n front back (form, parts) (fraction, zone, e, f, z) = (
  fixed,
  fraction,
  zone,
  sym (ap (λ x. x ++ (fraction ++ zone)) front ∙ (ap (λ x. take n text ++ x) (sym e ∙ back) ∙ take-append-drop n text)),
  form,
  parts,
  f,
  z,
)

pub text_parted : (kind : Kind) (text fixed rest : List ℕ) (n : ℕ) → length (form_of kind) ≡ n → fixed ≡ take n text → rest ≡ drop n text → IsDateText kind text
    → (HasForm (form_of kind) fixed × HasParts kind fixed) × IsFractionAndZone (has_seconds kind) rest
text_parted kind text fixed rest n len front back (fixed', fraction, zone, e, form, parts, f, z) =
    let split = fixed_split kind text fixed' fraction zone n len form e in
    let same : fixed' ≡ fixed = sym (front ∙ split.0) in
    ((subst (HasForm (form_of kind)) same form, subst (HasParts kind) same parts), (fraction, zone, back ∙ split.1, f, z))

-- a byte that fits its place fits an equal one
fits_same : {p q a b : ℕ} → p ≡ q → a ≡ b → FitsPlace p a → FitsPlace q b
fits_same {p} {q} {a} {b} e f h = subst (λ x. FitsPlace x b) e (subst (λ x. FitsPlace p x) f h)

-- a text that is shorter has not the form
pub form_long : (form text : List ℕ) (n : ℕ) → n ≤ length form → length text < n → HasForm form text → ⊥
form_long form text n room short has = let same = has.same_length in omega (arith, room, short, same)

-- a text of one form and behind it one of another
pub forms_joined : (f g text : List ℕ) → length f ≤ length text → HasForm f (take (length f) text) → HasForm g (drop (length f) text) → HasForm (f ++ g) text
forms_joined f g text room front back =
    let n = length f in
    let all = length-append f g in
    let behind = length-drop n text in
    let same = back.same_length in
    record {
      same_length = omega arith;
      each = λ k below. elim (cases_lt k n) [
        | inl early ↦ fits_same (sym (get_or_append_left f g 0 k early)) (get_or-take n text k 0 early) (front.each k early)
        | inr late ↦
            let at : n + (k - n) ≡ k = omega (arith, late) in
            let inside : k - n < length g = omega (arith, late, below, all) in
            fits_same (sym (get_or-append-add f g (k - n) 0) ∙ ap (λ i. get_or (f ++ g) i 0) at) (get_or-drop n text (k - n) 0 ∙ ap (λ i. get_or text i 0) at) (back.each (k - n) inside)
      ];
    }

-- a text of two forms, one behind the other, is one of each in turn
pub forms_parted : (f g text : List ℕ) → HasForm (f ++ g) text → (length f ≤ length text) × HasForm f (take (length f) text) × HasForm g (drop (length f) text)
forms_parted f g text form =
    let n = length f in
    let all = length-append f g in
    let same = form.same_length in
    let room : n ≤ length text = omega arith in
    let front = length-take-le n text room in
    let back = length-drop n text in (
      room,
      record {
        same_length = front;
        each = λ k below. fits_same (get_or_append_left f g 0 k below) (sym (get_or-take n text k 0 below)) (form.each k (omega (arith, below, all)));
      },
      record {
        same_length = omega arith;
        each = λ k below. fits_same (get_or-append-add f g k 0) (sym (get_or-drop n text k 0)) (form.each (n + k) (omega (arith, below, all)));
      },
    )
