-- What the readers of headers have taken goes on as a header.
use Rattle.std.proofs.Common.{◌≡◌, ℕ, zero, suc, ◌+◌, ◌-◌, ◌*◌, ◌/◌, ◌%◌, ◌<◌, Bool, true, false, List, [], ◌∷◌, ◌++◌, length, refl, sym, ap, ◌∙◌, subst, arith}
use Rattle.std.specs.Int.Digits.{AllBelowBase}
use Rattle.der_octets.specs.Octets.{Class, Universal, Application, Context, Private, Tag, universal, class_bits, form_bit, identifier, length_octets, IsShortTag, IsShortLength}
use Rattle.der_octets.specs.TagSteps as tags
use Rattle.der_octets.specs.LengthSteps as lengths
use Rattle.der_octets.specs.LengthSteps.{HasBegun, IsLedBy}
use Rattle.der_octets.proofs.LengthFronts.{zeros, length-zeros, goes_on, count_begins}
use Rattle.der_octets.proofs.LengthStepLemmas as lengthy
use Rattle.der_octets.proofs.TagFronts.{tag_bits, one_octet, two_octets, three_octets}

-- octets of a tag, with some that follow
pub record TagGoesOn (octets : List ℕ) : Type 0 where
  pub constructed : Bool
  pub tag : Tag
  pub more : List ℕ
  pub short : IsShortTag tag
  pub some : 0 < length more
  pub is : octets ++ more ≡ identifier constructed tag

pub record LengthGoesOn (octets : List ℕ) : Type 0 where
  pub n : ℕ
  pub more : List ℕ
  pub short : IsShortLength n
  pub some : 0 < length more
  pub is : octets ++ more ≡ length_octets n

pub record Bits (k : ℕ) : Type 0 where
  pub constructed : Bool
  pub class : Class
  pub is : class_bits class + form_bit constructed ≡ 32 * k

bits_of : (k : ℕ) → k < 8 → Bits k
bits_of zero l = record { constructed = false; class = Universal; is = refl }
bits_of (suc zero) l = record { constructed = true; class = Universal; is = refl }
bits_of (suc (suc zero)) l = record { constructed = false; class = Application; is = refl }
bits_of (suc (suc (suc zero))) l = record { constructed = true; class = Application; is = refl }
bits_of (suc (suc (suc (suc zero)))) l = record { constructed = false; class = Context; is = refl }
bits_of (suc (suc (suc (suc (suc zero))))) l = record { constructed = true; class = Context; is = refl }
bits_of (suc (suc (suc (suc (suc (suc zero)))))) l = record { constructed = false; class = Private; is = refl }
bits_of (suc (suc (suc (suc (suc (suc (suc zero))))))) l = record { constructed = true; class = Private; is = refl }
bits_of (suc (suc (suc (suc (suc (suc (suc (suc k)))))))) l = absurd (omega arith)

pub tag_goes_on : (come first high : ℕ) (octets : List ℕ) → tags.HasTakenTagIn come first high octets → TagGoesOn octets
tag_goes_on zero first high octets h = record {
  constructed = false;
  tag = universal 0;
  more = 0 ∷ [];
  short = omega arith;
  some = omega arith;
  is = ap (λ z. z ++ 0 ∷ []) h ∙ sym (one_octet false (universal 0) (omega arith));
}
tag_goes_on (suc zero) first high octets h =
    let low = h.low in
    let long = h.long in
    let bits = bits_of (first / 32) (omega arith) in
    let sum = bits.is in
    let t : Tag = record { class = bits.class; number = 31 } in
    let is : first ≡ tag_bits bits.constructed t + 31 = omega arith in
    record {
      constructed = bits.constructed;
      tag = t;
      more = 31 ∷ [];
      short = omega arith;
      some = omega arith;
      is = ap (λ z. z ++ 31 ∷ []) h.octets_are ∙ (ap (λ z. z ∷ 31 ∷ []) is ∙ sym (two_octets bits.constructed t (omega arith) (omega arith)));
    }
tag_goes_on (suc (suc come)) first high octets h =
    let low = h.low in
    let long = h.long in
    let some = h.some in
    let small = h.small in
    let bits = bits_of (first / 32) (omega arith) in
    let sum = bits.is in
    let t : Tag = record { class = bits.class; number = high * 128 } in
    let is : first ≡ tag_bits bits.constructed t + 31 = omega arith in
    let upper : 128 + high ≡ 128 + (high * 128) / 128 = omega arith in
    let lower : 0 ≡ (high * 128) % 128 = omega arith in
    record {
      constructed = bits.constructed;
      tag = t;
      more = 0 ∷ [];
      short = omega arith;
      some = omega arith;
      is = ap (λ z. z ++ 0 ∷ []) h.octets_are ∙ (ap (λ z. z ∷ (128 + high) ∷ 0 ∷ []) is ∙ (ap (λ z. (tag_bits bits.constructed t + 31) ∷ z ∷ 0 ∷ []) upper ∙ (ap (λ z. (tag_bits bits.constructed t + 31) ∷ (128 + (high * 128) / 128) ∷ z ∷ []) lower
          ∙ sym (three_octets bits.constructed t (omega arith) (omega arith)))));
    }

less : (a b : ℕ) → a < b → (k : ℕ) × (b ≡ a + suc k)
less a b l = (b - a - 1, omega arith)

begun_goes_on : (count come value : ℕ) (octets : List ℕ) → HasBegun count come value octets → LengthGoesOn octets
begun_goes_on count come value octets begun = by begun.others refl begun.below begun.led
  where
    by : (others : List ℕ) → begun.others ≡ others → AllBelowBase 256 begun.others → IsLedBy count begun.others → LengthGoesOn octets
    by [] is below led =
        let few = begun.fewer in
        let most = begun.most in
        let k = less 0 count (omega arith) in
        let size = k.1 in
        let r = count_begins k.0 (omega arith) in
        let same : 128 + count ≡ 128 + suc k.0 = omega arith in
        record {
          n = r.1;
          more = r.0 ∷ zeros k.0;
          short = r.2;
          some = (let z = length-zeros k.0 in omega arith);
          is = ap (λ z. z ++ (r.0 ∷ zeros k.0)) (begun.octets_are ∙ ap (λ z. (128 + count) ∷ z) is) ∙ (ap (λ z. z ∷ r.0 ∷ zeros k.0) same ∙ r.3);
        }
    by (d ∷ ds) is below led =
        let few = begun.fewer in
        let come_is = begun.come_is in
        let size : length (d ∷ ds) ≡ come = ap length (sym is) ∙ come_is in
        let k = less (length (d ∷ ds)) count (omega arith) in
        let r = goes_on count d (suc k.0) ds (omega arith) begun.most (subst (IsLedBy count) is led) (subst (AllBelowBase 256) is below) k.1 in
        record {
          n = r.0;
          more = zeros (suc k.0);
          short = r.1;
          some = (let z = length-zeros (suc k.0) in omega arith);
          is = ap (λ z. z ++ zeros (suc k.0)) (begun.octets_are ∙ ap (λ z. (128 + count) ∷ z) is) ∙ r.2;
        }

pub length_goes_on : (count come value : ℕ) (octets : List ℕ) → lengths.HasTakenLengthIn count come value octets → LengthGoesOn octets
length_goes_on zero come value octets h = record {
  n = 0;
  more = 0 ∷ [];
  short = omega arith;
  some = omega arith;
  is = ap (λ z. z ++ 0 ∷ []) h ∙ (lengthy.one_octet 0 (omega arith)).1;
}
length_goes_on (suc count) come value octets h = begun_goes_on (suc count) come value octets h
