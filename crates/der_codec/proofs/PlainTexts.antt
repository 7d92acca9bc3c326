-- Octets that are characters by themselves are a text.
use Rattle.std.proofs.Common.{◌≡◌, ℕ, suc, ◌+◌, ◌≤◌, Bool, true, false, cond, List, [], ◌∷◌, ◌++◌, length, refl, sym, ap₂, arith, inl}
use Rattle.std.specs.Str.{encode_utf8_all}
use Rattle.std.specs.List.{AllByRecursion, prefix_len}
use Rattle.std.proofs.lemmas.Bool.Decides.{nat_tests}
use Rattle.std.proofs.lemmas.Str.{encode_ascii}
use Rattle.lexical_core.specs.Characters.{IsXmlChar}
use Rattle.lexical_core.specs.XmlRuns.{IsXmlRun}
use Rattle.der_codec.specs.inner.PlainOctets.{is_plain_octet}

bounded : (octet : ℕ) → is_plain_octet octet ≡ true → (32 ≤ octet) × (octet ≤ 127)
bounded octet h = (grind (arith, nat_tests), grind (arith, nat_tests))

-- such octets spell themselves
abbrev AreThemselves : List ℕ → Type 0
AreThemselves octets = (octets ≡ encode_utf8_all octets) × AllByRecursion IsXmlChar octets

themselves : (octets : List ℕ) → prefix_len is_plain_octet octets ≡ length octets → AreThemselves octets
themselves [] e = (refl, tt)
themselves (x ∷ xs) e = by (is_plain_octet x) refl e (themselves xs)
  where
    by : (b : Bool) → is_plain_octet x ≡ b → cond b (1 + prefix_len is_plain_octet xs) 0 ≡ suc (length xs) → (prefix_len is_plain_octet xs ≡ length xs → AreThemselves xs) → AreThemselves (x ∷ xs)
    by false h k others = absurd (omega (arith, k))
    by true h k others =
        let inner = others (omega (arith, k)) in
        let within = bounded x h in
        (ap₂ (λ a b. a ++ b) (sym (encode_ascii x (omega (arith, within.1)))) inner.0, (inl (within.0, omega (arith, within.1)), inner.1))

pub plain_text : (octets : List ℕ) → prefix_len is_plain_octet octets ≡ length octets → IsXmlRun octets (length octets)
plain_text octets e =
    let t = themselves octets e in
    record { chars = octets; spelled = t.0; count_is = refl; are = t.1 }
