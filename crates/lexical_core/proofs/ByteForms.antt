-- The bytes of UTF-8 by their values: which bytes spell a character, which begin one, and which begin none.
use Rattle.std.proofs.Common.{◌≡◌, ℕ, ◌+◌, ◌-◌, ◌*◌, ◌/◌, ◌%◌, ◌<◌, ◌≤◌, ◌⊎◌, inl, inr, List, [], ◌∷◌, ◌++◌, length, refl, subst, le-ltb, lt-ltb, ◌∙◌, arith, get_or}
use Rattle.std.proofs.lemmas.Bool.{cases_lt}
use Rattle.std.proofs.lemmas.Bool.Decides.{nat_tests}
use Rattle.std.proofs.Math.Utf8.{scalar_cases}
use Rattle.std.specs.Char.{encode_utf8, IsScalar}
use Rattle.lexical_core.specs.Begun.{IsSecond, IsTail}
use Rattle.lexical_core.specs.Utf8.{IsFront, IsNoFront}

-- these bytes are the UTF-8 of this number
abbrev pub Spells : ℕ → List ℕ → Type 0
Spells x bytes = IsScalar x × (encode_utf8 x ≡ bytes)

pub spells_2 : (a b x : ℕ) → x ≡ (a - 0xC0) * 0x40 + (b - 0x80) → 0xC2 ≤ a → a ≤ 0xDF → IsTail b → Spells x (a ∷ b ∷ [])
unfolding encode_utf8
spells_2 a b x e low high tail =
    let first : 192 + x / 64 ≡ a = omega arith in
    let last : 128 + x % 64 ≡ b = omega arith in (
      grind (arith, nat_tests),
      rw (le-ltb x 128 (omega arith), lt-ltb x 2048 (omega arith), first, last),
    )

pub spells_3 : (a b c x : ℕ) → x ≡ (a - 0xE0) * 0x1000 + (b - 0x80) * 0x40 + (c - 0x80) → 0xE0 ≤ a → a ≤ 0xEF → IsSecond a b → IsTail c
    → Spells x (a ∷ b ∷ c ∷ [])
unfolding encode_utf8
spells_3 a b c x e low high second tail =
    let bounds : (2048 ≤ x) × (x < 65536) × (55296 ≤ x → 57344 ≤ x) = (grind arith, omega arith, λ h. grind arith) in
    let first : 224 + x / 4096 ≡ a = omega arith in
    let middle : 128 + (x / 64) % 64 ≡ b = omega arith in
    let last : 128 + x % 64 ≡ c = omega arith in (
      grind (arith, nat_tests),
      rw (le-ltb x 128 (omega arith), le-ltb x 2048 (omega arith), lt-ltb x 65536 (omega arith), first, middle, last),
    )

pub spells_4 : (a b c d x : ℕ) → x ≡ (a - 0xF0) * 0x4_0000 + (b - 0x80) * 0x1000 + (c - 0x80) * 0x40 + (d - 0x80) → 0xF0 ≤ a → a ≤ 0xF4
    → IsSecond a b → IsTail c → IsTail d → Spells x (a ∷ b ∷ c ∷ d ∷ [])
unfolding encode_utf8
spells_4 a b c d x e low high second tail last_tail =
    let bounds : (65536 ≤ x) × (x < 1114112) = (grind arith, grind arith) in
    let first : 240 + x / 262144 ≡ a = omega arith in
    let next : 128 + (x / 4096) % 64 ≡ b = omega arith in
    let middle : 128 + (x / 64) % 64 ≡ c = omega arith in
    let last : 128 + x % 64 ≡ d = omega arith in (
      grind (arith, nat_tests),
      rw (le-ltb x 128 (omega arith), le-ltb x 2048 (omega arith), le-ltb x 65536 (omega arith), first, next, middle, last),
    )

-- fronts, by a character that goes on so
front_of : (x : ℕ) (bytes rest all : List ℕ) → Spells x all → all ≡ bytes ++ rest → 0 < length rest → IsFront bytes
front_of x bytes rest all s e more = record { char = x; rest = rest; scalar = s.0; more = more; spelled = s.1 ∙ e }

pub front_3 : (a b c : ℕ) → 0xF0 ≤ a → a ≤ 0xF4 → IsSecond a b → IsTail c → IsFront (a ∷ b ∷ c ∷ [])
front_3 a b c low high second tail =
    front_of _ (a ∷ b ∷ c ∷ []) (0x80 ∷ []) _ (spells_4 a b c 0x80 _ refl low high second tail (omega arith, omega arith)) refl (omega arith)

pub front_2 : (a b : ℕ) → 0xE0 ≤ a → a ≤ 0xF4 → IsSecond a b → IsFront (a ∷ b ∷ [])
front_2 a b low high second =
    elim (cases_lt a 0xF0) [
      | inl below ↦ front_of _ (a ∷ b ∷ []) (0x80 ∷ []) _ (spells_3 a b 0x80 _ refl low (omega arith) second (omega arith, omega arith)) refl (omega arith)
      | inr above ↦ front_of _ (a ∷ b ∷ []) (0x80 ∷ 0x80 ∷ []) _
          (spells_4 a b 0x80 0x80 _ refl above high second (omega arith, omega arith) (omega arith, omega arith)) refl (omega arith)
    ]

-- some byte may stand second
second_of : (a : ℕ) → 0xE0 ≤ a → (b : ℕ) × IsSecond a b
second_of a low =
    elim (cases_lt a 0xED) [
      | inl below ↦ (
        0xA0,
        record {
          tail = (omega arith, omega arith);
          no_overlong_3 = λ e. omega arith;
          no_surrogate = λ e. omega arith;
          no_overlong_4 = λ e. omega arith;
          in_range = λ e. omega arith;
        },
      )
      | inr above ↦ elim (cases_lt a 0xF0) [
        | inl middle ↦ (
          0x80,
          record {
            tail = (omega arith, omega arith);
            no_overlong_3 = λ e. omega arith;
            no_surrogate = λ e. omega arith;
            no_overlong_4 = λ e. omega arith;
            in_range = λ e. omega arith;
          },
        )
        | inr high ↦ elim (cases_lt a 0xF4) [
          | inl four ↦ (
            0x90,
            record {
              tail = (omega arith, omega arith);
              no_overlong_3 = λ e. omega arith;
              no_surrogate = λ e. omega arith;
              no_overlong_4 = λ e. omega arith;
              in_range = λ e. omega arith;
            },
          )
          | inr last ↦ (
            0x80,
            record {
              tail = (omega arith, omega arith);
              no_overlong_3 = λ e. omega arith;
              no_surrogate = λ e. omega arith;
              no_overlong_4 = λ e. omega arith;
              in_range = λ e. omega arith;
            },
          )
        ]
      ]
    ]

pub front_1 : (a : ℕ) → 0xC2 ≤ a → a ≤ 0xF4 → IsFront (a ∷ [])
front_1 a low high =
    elim (cases_lt a 0xE0) [
      | inl below ↦ front_of _ (a ∷ []) (0x80 ∷ []) _ (spells_2 a 0x80 _ refl low (omega arith) (omega arith, omega arith)) refl (omega arith)
      | inr above ↦ let s = second_of a above in
          let longer = front_2 a s.0 above high s.1 in
          front_of longer.char (a ∷ []) (s.0 ∷ longer.rest) _ (longer.scalar, longer.spelled) refl (omega arith)
    ]

-- what holds of the bytes of every character, by the value of its first
pub record HasBytes (bytes : List ℕ) : Type 0 where
  pub first : (get_or bytes 0 0 < 0x80) ⊎ ((0xC2 ≤ get_or bytes 0 0) × (get_or bytes 0 0 ≤ 0xF4))
  pub second : 0x80 ≤ get_or bytes 0 0 → IsSecond (get_or bytes 0 0) (get_or bytes 1 0)
  pub third : 0xE0 ≤ get_or bytes 0 0 → IsTail (get_or bytes 2 0)
  pub fourth : 0xF0 ≤ get_or bytes 0 0 → IsTail (get_or bytes 3 0)

second_tail : (a b : ℕ) → IsTail b → (a ≡ 0xE0 → 0xA0 ≤ b) → (a ≡ 0xED → b ≤ 0x9F) → (a ≡ 0xF0 → 0x90 ≤ b) → (a ≡ 0xF4 → b ≤ 0x8F) → IsSecond a b
second_tail a b t f g h k = record { tail = t; no_overlong_3 = f; no_surrogate = g; no_overlong_4 = h; in_range = k }

has_1 : (x : ℕ) → x < 128 → HasBytes (encode_utf8 x)
unfolding encode_utf8
has_1 x low =
    rw (lt-ltb x 128 low)
    (record { first = inl low; second = λ h. absurd (omega arith); third = λ h. absurd (omega arith); fourth = λ h. absurd (omega arith) })

has_2 : (x : ℕ) → 128 ≤ x → x < 2048 → HasBytes (encode_utf8 x)
unfolding encode_utf8
has_2 x low high =
    rw (le-ltb x 128 low, lt-ltb x 2048 high)
    (record {
      first = inr (omega arith, omega arith);
      second = λ h. second_tail _ _ (omega arith, omega arith) (λ e. omega arith) (λ e. omega arith) (λ e. omega arith) (λ e. omega arith);
      third = λ h. absurd (omega arith);
      fourth = λ h. absurd (omega arith);
    })

has_3 : (x : ℕ) → 2048 ≤ x → x < 65536 → (x < 55296) ⊎ (57344 ≤ x) → HasBytes (encode_utf8 x)
unfolding encode_utf8
has_3 x low high none =
    rw (le-ltb x 128 (omega arith), le-ltb x 2048 low, lt-ltb x 65536 high)
    (record {
      first = inr (omega arith, omega arith);
      second = λ h. second_tail _ _ (omega arith, omega arith) (λ e. omega arith) (λ e. grind arith) (λ e. omega arith) (λ e. omega arith);
      third = λ h. (omega arith, omega arith);
      fourth = λ h. absurd (omega arith);
    })

has_4 : (x : ℕ) → 65536 ≤ x → x < 1114112 → HasBytes (encode_utf8 x)
unfolding encode_utf8
has_4 x low high =
    rw (le-ltb x 128 (omega arith), le-ltb x 2048 (omega arith), le-ltb x 65536 low)
    (record {
      first = inr (omega arith, omega arith);
      second = λ h. second_tail _ _ (omega arith, omega arith) (λ e. omega arith) (λ e. omega arith) (λ e. omega arith) (λ e. omega arith);
      third = λ h. (omega arith, omega arith);
      fourth = λ h. (omega arith, omega arith);
    })

pub has_bytes : (x : ℕ) → IsScalar x → HasBytes (encode_utf8 x)
has_bytes x s =
    elim (cases_lt x 128) [
      | inl h ↦ has_1 x h
      | inr h ↦ elim (cases_lt x 2048) [
        | inl k ↦ has_2 x h k
        | inr k ↦ elim (cases_lt x 65536) [
          | inl l ↦ has_3 x k l (elim (scalar_cases x s) [ inl m ↦ inl m | inr m ↦ inr m.0 ])
          | inr l ↦ elim (scalar_cases x s) [ inl m ↦ absurd (omega arith) | inr m ↦ has_4 x l m.1 ]
        ]
      ]
    ]

-- what holds of the bytes of every character that begin so
pub has_here : (c : ℕ) (bytes : List ℕ) → IsScalar c → encode_utf8 c ≡ bytes → HasBytes bytes
has_here c bytes s e = subst HasBytes e (has_bytes c s)

pub no_front_1 : (a : ℕ) → (a < 0xC2) ⊎ (0xF5 ≤ a) → 0x80 ≤ a → IsNoFront (a ∷ [])
no_front_1 a out high c rest s e = elim (has_here c _ s e).first [ inl h ↦ omega arith | inr h ↦ grind arith ]

pub no_front_2 : (a b : ℕ) → 0x80 ≤ a → (IsSecond a b → ⊥) → IsNoFront (a ∷ b ∷ [])
no_front_2 a b high none c rest s e = none ((has_here c _ s e).second high)

pub no_front_3 : (a b d : ℕ) → 0xE0 ≤ a → (IsTail d → ⊥) → IsNoFront (a ∷ b ∷ d ∷ [])
no_front_3 a b d high none c rest s e = none ((has_here c _ s e).third high)

pub no_front_4 : (a b d f : ℕ) → 0xF0 ≤ a → (IsTail f → ⊥) → IsNoFront (a ∷ b ∷ d ∷ f ∷ [])
no_front_4 a b d f high none c rest s e = none ((has_here c _ s e).fourth high)
