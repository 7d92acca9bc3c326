-- The reader of identifier octets.
use Rattle.std.proofs.Common.{◌≡◌, ◌≢◌, ℕ, zero, suc, ◌+◌, ◌-◌, ◌*◌, ◌/◌, ◌%◌, ◌≤◌, ◌<◌, Bool, List, [], ◌∷◌, ◌++◌, refl, sym, ap, ◌∙◌, arith}
use Rattle.der_octets.specs.Octets.{Tag, class_bits, form_bit, identifier, IsShortTag}
use Rattle.der_octets.specs.TagSteps.{HasFirst, HasSecond, HasTakenTagIn}
use Rattle.der_octets.proofs.TagFronts.{tag_bits, one_octet, two_octets, three_octets, TagBegun, one, two, three, tag_begun}
use Rattle.der_octets.proofs.LengthStepLemmas.{heads}

-- the answers with one octet, two and three
pub short_done : (b : Bool) (t : Tag) (first : ℕ) → t.number < 31 → class_bits t.class + form_bit b + first % 32 ≡ first → t.number ≡ first % 32 → IsShortTag t × (first ∷ [] ≡ identifier b t)
short_done b t first low bits number = (omega arith, ap (λ z. z ∷ []) (let e : first ≡ tag_bits b t + t.number = omega arith in e) ∙ sym (one_octet b t low))

pub second_done : (b : Bool) (t : Tag) (first octet : ℕ) (octets : List ℕ) → HasFirst first octets → 31 ≤ octet → octet < 128 → class_bits t.class + form_bit b + first % 32 ≡ first → t.number ≡ octet → IsShortTag t × (octets ++ octet ∷ [] ≡ identifier b t)
second_done b t first octet octets has low high bits number =
    let long = has.long in
    let is : first ≡ tag_bits b t + 31 = omega arith in
    (omega arith, ap (λ z. z ++ octet ∷ []) has.octets_are ∙ (ap (λ z. z ∷ octet ∷ []) is ∙ (ap (λ z. (tag_bits b t + 31) ∷ z ∷ []) (sym number) ∙ sym (two_octets b t (omega arith) (omega arith)))))

pub third_done : (b : Bool) (t : Tag) (first high octet : ℕ) (octets : List ℕ) → HasSecond first high octets → octet < 128 → class_bits t.class + form_bit b + first % 32 ≡ first → t.number ≡ high * 128 + octet → IsShortTag t × (octets ++ octet ∷ [] ≡ identifier b t)
third_done b t first high octet octets has low bits number =
    let long = has.long in
    let some = has.some in
    let small = has.small in
    let is : first ≡ tag_bits b t + 31 = omega arith in
    let upper : 128 + high ≡ 128 + t.number / 128 = omega arith in
    let lower : octet ≡ t.number % 128 = omega arith in
    (omega arith, ap (λ z. z ++ octet ∷ []) has.octets_are ∙ (ap (λ z. z ∷ (128 + high) ∷ octet ∷ []) is ∙ (ap (λ z. (tag_bits b t + 31) ∷ z ∷ octet ∷ []) upper ∙ (ap (λ z. (tag_bits b t + 31) ∷ (128 + t.number / 128) ∷ z ∷ []) lower ∙ sym (three_octets b t (omega arith) (omega arith))))))

-- no tag has these as its second octet
pub second_bad : (first octet : ℕ) (octets : List ℕ) → HasFirst first octets → (31 ≤ octet → octet ≢ 128 → ⊥) → (b : Bool) (t : Tag) (more : List ℕ) → IsShortTag t → identifier b t ≡ (octets ++ octet ∷ []) ++ more → ⊥
second_bad first octet octets has bad b t more small e =
    by (tag_begun b t first (octet ∷ more) small (e ∙ ap (λ z. (z ++ octet ∷ []) ++ more) has.octets_are))
  where
    by : TagBegun b t first (octet ∷ more) → ⊥
    by (one low is others) = absurd cc
    by (two low high is others) = (let h = heads octet t.number more [] others in bad (omega arith) (λ z. absurd (omega arith)))
    by (three low is others) = (let h = heads octet (128 + t.number / 128) more (t.number % 128 ∷ []) others in bad (omega arith) (λ z. absurd (omega arith)))

pub third_bad : (first high octet : ℕ) (octets : List ℕ) → HasSecond first high octets → 128 ≤ octet → (b : Bool) (t : Tag) (more : List ℕ) → IsShortTag t → identifier b t ≡ (octets ++ octet ∷ []) ++ more → ⊥
third_bad first high octet octets has bad b t more small e =
    by (tag_begun b t first ((128 + high) ∷ octet ∷ more) small (e ∙ ap (λ z. (z ++ octet ∷ []) ++ more) has.octets_are))
  where
    by : TagBegun b t first ((128 + high) ∷ octet ∷ more) → ⊥
    by (one low is others) = absurd cc
    by (two low high2 is others) = (let h = heads (128 + high) t.number (octet ∷ more) [] others in absurd (omega arith))
    by (three low is others) =
        let h = heads (128 + high) (128 + t.number / 128) (octet ∷ more) (t.number % 128 ∷ []) others in
        let k = heads octet (t.number % 128) more [] h.1 in absurd (omega arith)

-- the first octet of a long number, the second of one
pub first_more : (octet : ℕ) → octet < 256 → 31 ≤ octet % 32 → HasFirst octet (octet ∷ [])
first_more octet low long = record { octets_are = refl; long = omega arith; low = low }

pub second_more : (first octet high : ℕ) (octets : List ℕ) → HasFirst first octets → high ≡ octet - 128 → 128 < octet → octet < 256 → HasSecond first high (octets ++ octet ∷ [])
second_more first octet high octets has is some small = record {
  octets_are = ap (λ z. z ++ octet ∷ []) has.octets_are ∙ ap (λ z. first ∷ z ∷ []) (let e : octet ≡ 128 + high = omega arith in e);
  long = has.long;
  low = has.low;
  some = omega arith;
  small = omega arith;
}

-- which of the three stands
pub taken_none : (come first high : ℕ) (octets : List ℕ) → come ≡ 0 → HasTakenTagIn come first high octets → octets ≡ []
taken_none zero first high octets is h = h
taken_none (suc come) first high octets is h = absurd (omega arith)
