-- Where a header may come, no bytes neither begin with one within the value round it nor are wrong there.
use Rattle.std.proofs.Common.{◌≡◌, ◌⊎◌, inl, inr, ℕ, true, false, ◌+◌, ◌≤◌, ◌<◌, List, [], ◌∷◌, ◌++◌, length, Option, Some, None, refl, sym, ap, ◌∙◌, subst, arith, append_assoc, append-nil, length-append}
use Rattle.std.specs.Prelude.{nat_lt}
use Rattle.std.proofs.lemmas.Bool.{cases_lt, cases_Bool}
use Rattle.lexical_core.specs.declared.rule.Rule.{Rule}
use Rattle.lexical_core.specs.declared.rule.Rule.TheVariants.{Overrun, DerTruncated}
use Rattle.der_octets.specs.Octets.{length_octets}
use Rattle.der_octets.proofs.Headers.{short_length, long_length}
use Rattle.reference_check.specs.Words.{UpTo}
use Rattle.der_model.specs.DerMessage.{DerMessage}
use Rattle.der_model.specs.States.{State, innermost_end, IsHeader}
use Rattle.der_model.specs.Faults.{IsHeaderFront, header_rule, NextPart, halts, overruns, cut}
use Rattle.der_model.proofs.EitherWay.{Told, either}

-- something is wrong there
pub record Wrong {P : Type 0} (m : DerMessage P) (s : State P) (place : ℕ) (bytes : List ℕ) : Type 0 where
  pub rule : Rule
  pub off : ℕ
  pub added : List ℕ
  pub next : NextPart m s place bytes rule off added

-- a header at the front of the bytes, within the value round it
pub record HasHeader {P : Type 0} (s : State P) (place : ℕ) (bytes : List ℕ) : Type 0 where
  pub octets : List ℕ
  pub after : List ℕ
  pub bytes_are : bytes ≡ octets ++ after
  pub header : IsHeader s place octets
  pub within : UpTo (place + length octets) (innermost_end s)

pub some_length : (n : ℕ) → 0 < length (length_octets n)
some_length n = go (cases_Bool (nat_lt n 128))
  where
    go : (nat_lt n 128 ≡ true) ⊎ (nat_lt n 128 ≡ false) → 0 < length (length_octets n)
    go (inl e) = rw (short_length n e) (omega arith)
    go (inr e) = rw (long_length n e) (omega arith)

-- the value round it ends there, or has more
end_or_more : (end : Option ℕ) (at : ℕ) → UpTo at end → (end ≡ Some at) ⊎ UpTo (at + 1) end
end_or_more None at u = inr tt
end_or_more (Some end) at u = elim (cases_lt at end) [ inl below ↦ inr (omega arith) | inr above ↦ inl (ap Some (omega arith)) ]

end_above : (o : Option ℕ) (at end : ℕ) → UpTo (at + 1) o → o ≡ Some end → at < end
end_above o at end u e = (let high : at + 1 ≤ end = subst (λ z. UpTo (at + 1) z) e u in omega arith)

up_to_same : (o : Option ℕ) (at other : ℕ) → at ≡ other → UpTo at o → UpTo other o
up_to_same o at other e u = rw (← e) u

module _ {P : Type 0} (m : DerMessage P) (s : State P) (place : ℕ) (bytes : List ℕ) where
  -- octets that begin a header, and what is left
  scan : (shown left : List ℕ) → bytes ≡ shown ++ left → IsHeaderFront s place shown → UpTo (place + length shown) (innermost_end s) → Told (HasHeader s place bytes ⊎ Wrong m s place bytes)
  scan shown [] is front within lacks = by (end_or_more (innermost_end s) (place + length shown) within)
    where
      all : bytes ≡ shown
      all = is ∙ append-nil shown

      by : (innermost_end s ≡ Some (place + length shown)) ⊎ UpTo (place + length shown + 1) (innermost_end s) → ⊥
      by (inl over) = lacks (inr (record { rule = Overrun; off = 0; added = []; next = overruns shown [] is over front refl refl refl }))
      by (inr more) =
          lacks (inr (record {
            rule = DerTruncated;
            off = length bytes;
            added = [];
            next = cut (λ end e. (let low = end_above (innermost_end s) (place + length shown) end more e in let size = ap length all in omega arith)) (subst (IsHeaderFront s place) (sym all) front) refl refl refl;
          }))
  scan shown (octet ∷ left) is front within lacks = by (end_or_more (innermost_end s) (place + length shown) within) (λ more more_within. scan (shown ++ octet ∷ []) left (is ∙ sym (append_assoc shown (octet ∷ []) left)) more more_within)
    where
      wider : UpTo (place + length shown + 1) (innermost_end s) → UpTo (place + length (shown ++ octet ∷ [])) (innermost_end s)
      wider u = up_to_same (innermost_end s) (place + length shown + 1) (place + length (shown ++ octet ∷ [])) (let sum = length-append shown (octet ∷ []) in omega arith) u

      goes_on : UpTo (place + length shown + 1) (innermost_end s) → (IsHeaderFront s place (shown ++ octet ∷ []) → UpTo (place + length (shown ++ octet ∷ [])) (innermost_end s) → Told (HasHeader s place bytes ⊎ Wrong m s place bytes))
          → ((more : List ℕ) × IsHeader s place ((shown ++ octet ∷ []) ++ more)) ⊎ (((more : List ℕ) × IsHeader s place ((shown ++ octet ∷ []) ++ more)) → ⊥) → ⊥
      goes_on u again (inl ([], header)) =
          lacks (inl (record {
            octets = shown ++ octet ∷ [];
            after = left;
            bytes_are = is ∙ sym (append_assoc shown (octet ∷ []) left);
            header = subst (IsHeader s place) (append-nil (shown ++ octet ∷ [])) header;
            within = wider u;
          }))
      goes_on u again (inl (next ∷ more, header)) = again (record { more = next ∷ more; some = omega arith; header = header }) (wider u) lacks
      goes_on u again (inr none) =
          lacks (inr (record { rule = header_rule s; off = 0; added = []; next = halts shown octet left is u front (λ more header. none (more, header)) refl refl refl }))

      by : (innermost_end s ≡ Some (place + length shown)) ⊎ UpTo (place + length shown + 1) (innermost_end s)
          → (IsHeaderFront s place (shown ++ octet ∷ []) → UpTo (place + length (shown ++ octet ∷ [])) (innermost_end s) → Told (HasHeader s place bytes ⊎ Wrong m s place bytes)) → ⊥
      by (inl over) again = lacks (inr (record { rule = Overrun; off = 0; added = []; next = overruns shown (octet ∷ left) is over front refl refl refl }))
      by (inr u) again = either ((more : List ℕ) × IsHeader s place ((shown ++ octet ∷ []) ++ more)) (goes_on u again)

  -- from the beginning of a header
  pub some_header : IsHeaderFront s place [] → UpTo place (innermost_end s) → Told (HasHeader s place bytes ⊎ Wrong m s place bytes)
  some_header front within = scan [] bytes refl front (up_to_same (innermost_end s) place (place + 0) (omega arith) within)
