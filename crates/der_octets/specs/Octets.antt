-- Octets under the rules of DER: identifier octets, length octets, and the values that octets are (X.690 §8.1, §10.1).
use Rattle.std.specs.Prelude.{◌≡◌, ℕ, ◌+◌, ◌^◌, ◌<◌, Bool, true, false, List, [], ◌∷◌, ◌++◌, length, nat_lt, if◌then◌else◌}
use Rattle.std.specs.Int.Digits.{digits_of}

-- the class of a tag: §8.1.2.2
pub data Class : Type 0 where
  Universal : Class
  Application : Class
  Context : Class
  Private : Class

-- a tag: §8.1.2
pub record Tag : Type 0 where
  pub class : Class
  pub number : ℕ

abbrev pub universal : ℕ → Tag
universal n = record { class = Universal; number = n }

abbrev pub context : ℕ → Tag
context n = record { class = Context; number = n }

abbrev pub class_bits : Class → ℕ
class_bits Universal = 0
class_bits Application = 64
class_bits Context = 128
class_bits Private = 192

abbrev pub form_bit : Bool → ℕ
form_bit true = 32
form_bit false = 0

-- all but the last digit of a long number have the high bit: §8.1.2.4.2
abbrev pub with_high_bits : List ℕ → List ℕ
with_high_bits [] = []
with_high_bits (d ∷ []) = d ∷ []
with_high_bits (d ∷ e ∷ ds) = (128 + d) ∷ with_high_bits (e ∷ ds)

-- the identifier octets of a tag, of a primitive or a constructed value: §8.1.2.3, §8.1.2.4
unfoldable pub identifier : Bool → Tag → List ℕ
identifier constructed tag =
    let first = class_bits tag.class + form_bit constructed in
    let long = (first + 31) ∷ with_high_bits (digits_of 128 tag.number) in
    if nat_lt tag.number 31 then (first + tag.number) ∷ [] else long

-- the length octets of so many octets, as few as there can be: §8.1.3, §10.1
unfoldable pub length_octets : ℕ → List ℕ
length_octets n = let long = digits_of 256 n in if nat_lt n 128 then n ∷ [] else (128 + length long) ∷ long

-- identifier octets, length octets and contents octets: §8.1.1.1
unfoldable pub wrapped : List ℕ → List ℕ → List ℕ
wrapped head contents = head ++ (length_octets (length contents) ++ contents)

-- Values one after the other: a primitive value with its contents octets, or a constructed one with the values that it holds, and what follows.
pub data Values : Type 0 where
  Nothing : Values
  Primitive : (tag : Tag) (contents : List ℕ) (rest : Values) → Values
  Constructed : (tag : Tag) (inner : Values) (rest : Values) → Values

-- the octets of values: §8.1.1
abbrev pub octets : Values → List ℕ
octets Nothing = []
octets (Primitive tag contents rest) = wrapped (identifier false tag) contents ++ octets rest
octets (Constructed tag inner rest) = wrapped (identifier true tag) (octets inner) ++ octets rest

-- one list of values before another
abbrev pub then_values : Values → Values → Values
then_values Nothing after = after
then_values (Primitive tag contents rest) after = Primitive tag contents (then_values rest after)
then_values (Constructed tag inner rest) after = Constructed tag inner (then_values rest after)

-- there is one value, and no other behind it
abbrev pub IsOne : Values → Type 0
IsOne Nothing = ⊥
IsOne (Primitive tag contents rest) = rest ≡ Nothing
IsOne (Constructed tag inner rest) = rest ≡ Nothing

-- a tag number of at most two octets behind the first, and a length of at most 63 bits
abbrev pub IsShortTag : Tag → Type 0
IsShortTag tag = tag.number < 2 ^ 14

abbrev pub IsShortLength : ℕ → Type 0
IsShortLength n = n < 2 ^ 63
