-- What a reader of identifier octets has taken, and what it answers.
use Rattle.std.specs.Prelude.{◌≡◌, ℕ, zero, suc, ◌+◌, ◌%◌, ◌<◌, Bool, List, [], ◌∷◌, ◌++◌}
use Rattle.der_octets.specs.Octets.{Class, Universal, Application, Context, Private, Tag, identifier, IsShortTag}
use Rattle.der_octets.specs.declared.tag_step.TagStep.{TagStep}
use Rattle.der_octets.specs.declared.tag_step.TagClass.{TagClass}
use Rattle.der_octets.specs.declared.tag_step.TagClass.TheVariants as class
use Rattle.der_octets.specs.declared.tag_step.Identifier.{Identifier}
use Rattle.der_octets.specs.declared.tag_step.TagRead.{TagRead}
use Rattle.der_octets.specs.declared.tag_step.TagRead.TheVariants.{More, Done, Bad}

abbrev pub class_view : TagClass → Class
class_view class.Universal = Universal
class_view class.Application = Application
class_view class.Context = Context
class_view class.Private = Private

abbrev pub tag_view : Identifier → Tag
tag_view id = record { class = class_view id.class; number = id.number }

-- the first octet, which says that the number follows
pub record HasFirst (first : ℕ) (octets : List ℕ) : Type 0 where
  pub octets_are : octets ≡ first ∷ []
  pub long : first % 32 ≡ 31
  pub low : first < 256

-- and the second, which is not the last
pub record HasSecond (first high : ℕ) (octets : List ℕ) : Type 0 where
  pub octets_are : octets ≡ first ∷ (128 + high) ∷ []
  pub long : first % 32 ≡ 31
  pub low : first < 256
  pub some : 0 < high
  pub small : high < 128

-- the reader was given these octets, and more of a tag are to come
abbrev pub HasTakenTagIn : ℕ → ℕ → ℕ → List ℕ → Type 0
HasTakenTagIn zero first high octets = octets ≡ []
HasTakenTagIn (suc zero) first high octets = HasFirst first octets
HasTakenTagIn (suc (suc come)) first high octets = HasSecond first high octets

abbrev pub HasTakenTag : TagStep → List ℕ → Type 0
HasTakenTag step octets = HasTakenTagIn step.come step.first step.high octets

-- the answer to one octet more: more are to come; they are the identifier octets of this tag; or no tag begins so
abbrev pub IsTagRead : TagStep → List ℕ → TagRead → Type 0
IsTagRead step octets More = HasTakenTag step octets
IsTagRead step octets (Done id) = IsShortTag (tag_view id) × (octets ≡ identifier id.constructed (tag_view id))
IsTagRead step octets Bad = (constructed : Bool) (t : Tag) (more : List ℕ) → IsShortTag t → identifier constructed t ≡ octets ++ more → ⊥
