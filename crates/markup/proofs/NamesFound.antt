-- A name at the front of bytes whose parts are plain is found, and what is found is one.
use Rattle.std.proofs.Common.{◌≡◌, ℕ, suc, Bool, true, false, cond, ◌==◌, ◌&&◌, ◌||◌, ◌+◌, ◌<◌, List, [], ◌∷◌, ◌++◌, length, take, drop, refl, sym, ◌∙◌, ap, subst, append_assoc, length-append, arith}
use Rattle.std.specs.List.{list_all, prefix_len}
use Rattle.std.proofs.lemmas.Bool.{and_parts, both_ways}
use Rattle.std.proofs.Math.Seq.{drop-append_seam}
use Rattle.lexical_core.proofs.Lists.{same_first, same_rest}
use Rattle.markup.specs.PlainTags.{begins_plain, continues_plain, is_plain_name, joined_text}
use Rattle.markup.specs.PlainStarts.{is_plain_prefix}
use Rattle.markup.specs.inner.WholeStarts.{named_by, goes_on_name, IsLocalAt, IsNameAt}
use Rattle.markup.specs.declared.tag.Spelled.{Spelled}
use Rattle.markup.proofs.TagScans.{all_continue, two_parts}

-- ---- lists

-- what stands behind a front of a list
pub behind_front : (xs front rest after : List ℕ) (n : ℕ) → xs ≡ front ++ rest → n ≡ length front → after ≡ drop n xs → after ≡ rest
behind_front xs front rest after n e k d = d ∙ (ap (λ m. drop m xs) k ∙ (ap (drop (length front)) e ∙ drop-append_seam front rest))

-- a run goes on to where it ends
pub run_ends : (p : ℕ → Bool) (xs ys : List ℕ) → list_all p xs ≡ true → prefix_len p ys ≡ 0 → prefix_len p (xs ++ ys) ≡ length xs
run_ends p [] ys h k = k
run_ends p (x ∷ xs) ys h k = let a = and_parts (p x) (list_all p xs) h in
    ap (λ t. cond t (1 + prefix_len p (xs ++ ys)) 0) a.0 ∙ (ap (λ n. 1 + n) (run_ends p xs ys a.1 k) ∙ one (length xs)) where
      one : (n : ℕ) → 1 + n ≡ suc n
      one n = omega arith

-- ---- a name

pub name_size : (bytes name behind : List ℕ) (n : ℕ) → is_plain_name name ≡ true → bytes ≡ name ++ behind → prefix_len continues_plain behind ≡ 0 → n ≡ prefix_len continues_plain bytes → n ≡ length name
name_size bytes name behind n p e s c = c ∙ (ap (prefix_len continues_plain) e ∙ run_ends continues_plain name behind (all_continue name p) s)

pub some_name : (name : List ℕ) → is_plain_name name ≡ true → 0 < length name
some_name [] p = absurd (both_ways false refl p)
some_name (b ∷ cs) p = omega arith

pub no_name : (bytes name behind : List ℕ) → is_plain_name name ≡ true → bytes ≡ name ++ behind → length bytes ≡ 0 → ⊥
no_name bytes name behind p e z = omega (arith, ap length e, length-append name behind, some_name name p, z)

pub name_begins : (bytes more name behind : List ℕ) (first : ℕ) → bytes ≡ first ∷ more → is_plain_name name ≡ true → bytes ≡ name ++ behind → begins_plain first ≡ true
name_begins bytes more [] behind first f p e = absurd (both_ways false refl p)
name_begins bytes more (b ∷ cs) behind first f p e = subst (λ v. begins_plain v ≡ true) (same_first b first (cs ++ behind) more (sym e ∙ f)) (and_parts (begins_plain b) (list_all continues_plain cs) p).0

-- ---- the local part behind a colon

-- So many bytes are the plain name at the front.
abbrev pub CountsPlain : List ℕ → ℕ → Type 0
CountsPlain bytes n = (name behind : List ℕ) → is_plain_name name ≡ true → bytes ≡ name ++ behind → prefix_len continues_plain behind ≡ 0 → n ≡ length name

pub local_found : (bytes named local behind : List ℕ) (mark n : ℕ) → bytes ≡ mark ∷ named → mark ≡ 58 → is_plain_name (take n named) ≡ true → local ≡ take n named → behind ≡ drop n named → IsLocalAt bytes local behind
local_found bytes named local behind mark n e m p t d = record {
  spelled = e ∙ (ap (λ b. b ∷ named) m ∙ ap (λ w. 58 ∷ w) (two_parts named local behind n t d));
  named = subst (λ w. is_plain_name w ≡ true) (sym t) p;
}

pub no_local : (bytes local behind : List ℕ) → IsLocalAt bytes local behind → length bytes ≡ 0 → ⊥
no_local bytes local behind s z = omega (arith, ap length s.spelled, z)

module _ (bytes named local behind : List ℕ) (mark : ℕ) (e : bytes ≡ mark ∷ named) (s : IsLocalAt bytes local behind) where
  pub colon_is : mark ≡ 58
  colon_is = same_first mark 58 named (local ++ behind) (sym e ∙ s.spelled)

  named_is : named ≡ local ++ behind
  named_is = same_rest mark 58 named (local ++ behind) (sym e ∙ s.spelled)

  module _ (stops : prefix_len continues_plain behind ≡ 0) (n : ℕ) (c : CountsPlain named n) where
    counted : n ≡ length local
    counted = c local behind s.named named_is stops

    pub local_counted : n ≡ 0 → ⊥
    local_counted z = omega (arith, counted, some_name local s.named, z)

    pub behind_local : (after : List ℕ) → after ≡ drop n named → after ≡ behind
    behind_local after d = behind_front named local behind after n named_is counted d

-- ---- a name with a prefix or without one

-- What is left stands behind the name at the front.
abbrev pub IsBehindName : List ℕ → List ℕ → Type 0
IsBehindName bytes left = (name : Spelled) (behind : List ℕ) → IsNameAt bytes name behind → prefix_len goes_on_name behind ≡ 0 → left ≡ behind

-- and behind its local part
abbrev IsBehindLocal : List ℕ → List ℕ → Type 0
IsBehindLocal bytes left = (local behind : List ℕ) → IsLocalAt bytes local behind → prefix_len continues_plain behind ≡ 0 → left ≡ behind

-- no colon stands there
abbrev IsNoLocal : List ℕ → Type 0
IsNoLocal bytes = (local behind : List ℕ) → IsLocalAt bytes local behind → prefix_len continues_plain behind ≡ 0 → ⊥

pub plain_alone : (bytes first after : List ℕ) (n : ℕ) → is_plain_name (take n bytes) ≡ true → first ≡ take n bytes → after ≡ drop n bytes → IsNameAt bytes (named_by [] first) after
plain_alone bytes first after n p t d = record { spelled = two_parts bytes first after n t d; named = subst (λ w. is_plain_name w ≡ true) (sym t) p }

joined : (bytes first after local behind : List ℕ) → is_plain_name first ≡ true → bytes ≡ first ++ after → IsLocalAt after local behind → IsNameAt bytes (named_by first local) behind
joined bytes [] after local behind p e s = absurd (both_ways false refl p)
joined bytes (b ∷ more) after local behind p e s = record {
  spelled = e ∙ (ap (λ w. (b ∷ more) ++ w) s.spelled ∙ sym (append_assoc (b ∷ more) (58 ∷ local) behind));
  named = ap (λ t. t && is_plain_name local) p ∙ s.named;
}

pub with_prefix : (bytes first after local behind : List ℕ) (n : ℕ) → is_plain_name (take n bytes) ≡ true → first ≡ take n bytes → after ≡ drop n bytes → IsLocalAt after local behind → IsNameAt bytes (named_by first local) behind
with_prefix bytes first after local behind n p t d s = joined bytes first after local behind (subst (λ w. is_plain_name w ≡ true) (sym t) p) (two_parts bytes first after n t d) s

-- where no name goes on, none does with a colon, nor with a byte of its own
ends_part : (behind : List ℕ) → prefix_len goes_on_name behind ≡ 0 → prefix_len continues_plain behind ≡ 0
ends_part [] h = refl
ends_part (b ∷ behind) h = by (continues_plain b) refl h where
  by : (t : Bool) → continues_plain b ≡ t → cond (t || b == 58) (1 + prefix_len goes_on_name behind) 0 ≡ 0 → cond t (1 + prefix_len continues_plain behind) 0 ≡ 0
  by true e k = absurd (omega (arith, k))
  by false e k = refl

no_colon : (behind local rest : List ℕ) → prefix_len goes_on_name behind ≡ 0 → IsLocalAt behind local rest → ⊥
no_colon behind local rest h s = omega (arith, sym (ap (prefix_len goes_on_name) s.spelled) ∙ h)

-- the first part of a name, and what stands behind it
abbrev first_part : List ℕ → List ℕ → List ℕ
first_part [] local = local
first_part (b ∷ more) local = b ∷ more

abbrev behind_first : List ℕ → List ℕ → List ℕ → List ℕ
behind_first [] local behind = behind
behind_first (b ∷ more) local behind = 58 ∷ (local ++ behind)

first_plain : (prefix local : List ℕ) → is_plain_prefix prefix ≡ true → is_plain_name local ≡ true → is_plain_name (first_part prefix local) ≡ true
first_plain [] local p l = l
first_plain (b ∷ more) local p l = p

first_then : (prefix local behind : List ℕ) → joined_text prefix local ++ behind ≡ first_part prefix local ++ behind_first prefix local behind
first_then [] local behind = refl
first_then (b ∷ more) local behind = append_assoc (b ∷ more) (58 ∷ local) behind

first_ends : (prefix local behind : List ℕ) → prefix_len goes_on_name behind ≡ 0 → prefix_len continues_plain (behind_first prefix local behind) ≡ 0
first_ends [] local behind h = ends_part behind h
first_ends (b ∷ more) local behind h = refl

module _ (bytes : List ℕ) (name : Spelled) (behind : List ℕ) (s : IsNameAt bytes name behind) (h : prefix_len goes_on_name behind ≡ 0) (n : ℕ) (c : CountsPlain bytes n) where
  parts : (is_plain_prefix name.prefix ≡ true) × (is_plain_name name.local ≡ true)
  parts = and_parts (is_plain_prefix name.prefix) (is_plain_name name.local) s.named

  abbrev front : List ℕ
  front = first_part name.prefix name.local

  abbrev back : List ℕ
  back = behind_first name.prefix name.local behind

  front_plain : is_plain_name front ≡ true
  front_plain = first_plain name.prefix name.local parts.0 parts.1

  bytes_are : bytes ≡ front ++ back
  bytes_are = s.spelled ∙ first_then name.prefix name.local behind

  front_size : n ≡ length front
  front_size = c front back front_plain bytes_are (first_ends name.prefix name.local behind h)

  pub name_counted : n ≡ 0 → ⊥
  name_counted z = omega (arith, front_size, some_name front front_plain, z)

  module _ (after : List ℕ) (d : after ≡ drop n bytes) where
    after_is : after ≡ back
    after_is = behind_front bytes front back after n bytes_are front_size d

    without : (prefix : List ℕ) → after ≡ behind_first prefix name.local behind → IsNoLocal after → after ≡ behind
    without [] e none = e
    without (b ∷ more) e none = absurd (none name.local behind (record { spelled = e; named = parts.1 }) (ends_part behind h))

    -- no colon stands behind its first part
    pub behind_plain : IsNoLocal after → after ≡ behind
    behind_plain none = without name.prefix after_is none

    within : (prefix local left : List ℕ) → after ≡ behind_first prefix name.local behind → IsLocalAt after local left → IsBehindLocal after left → left ≡ behind
    within [] local left e l f = absurd (no_colon behind local left h (subst (λ v. IsLocalAt v local left) e l))
    within (b ∷ more) local left e l f = f name.local behind (record { spelled = e; named = parts.1 }) (ends_part behind h)

    -- one does
    pub behind_joined : (local left : List ℕ) → IsLocalAt after local left → IsBehindLocal after left → left ≡ behind
    behind_joined local left l f = within name.prefix local left after_is l f
