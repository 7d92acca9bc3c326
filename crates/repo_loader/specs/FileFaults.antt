-- Which rules the elements of a repository file break, and the first that is broken.
use Rattle.std.specs.Prelude.{◌≡◌, ℕ, ◌≤◌, List, [], ◌∷◌, ◌++◌, map, codes, Some, None}
use Rattle.lexical_core.specs.Tree.{Entry as Attribute}
use Rattle.lexical_core.specs.Names.{attribute_value}
use Rattle.repo_objects.specs.declared.objects.ObjectKind.{ObjectKind}
use Rattle.repo_objects.specs.Repository.{HasId}
use Rattle.repo_loader.specs.declared.part.Part.{Part}
use Rattle.repo_loader.specs.declared.part.Part.TheVariants.{OtherRoot, Entry, Element, Alternative, Block}
use Rattle.repo_loader.specs.FileNames.{own, id_name, type_name}
use Rattle.repo_loader.specs.FileValues.{facet, has_lengths, has_digits, IsCountIfAny, IsBoundIfAny, IsGreatestIfAny}
use Rattle.repo_loader.specs.Selected.{FileTag, PlacedTag}
use Rattle.repo_loader.specs.File.{objects}

-- the numbers of an entry of the kind are numbers
pub record HasFacetNumbers (kind : ObjectKind) (attributes : List Attribute) : Type 0 where
  pub min_length : IsCountIfAny (facet (has_lengths kind) (codes "minLength") attributes)
  pub max_length : IsCountIfAny (facet (has_lengths kind) (codes "maxLength") attributes)
  pub length : IsCountIfAny (facet (has_lengths kind) (codes "length") attributes)
  pub total : IsCountIfAny (facet (has_digits kind) (codes "totalDigits") attributes)
  pub fraction : IsCountIfAny (facet (has_digits kind) (codes "fractionDigits") attributes)
  pub min_in : IsBoundIfAny (facet (has_digits kind) (codes "minInclusive") attributes)
  pub min_ex : IsBoundIfAny (facet (has_digits kind) (codes "minExclusive") attributes)
  pub max_in : IsBoundIfAny (facet (has_digits kind) (codes "maxInclusive") attributes)
  pub max_ex : IsBoundIfAny (facet (has_digits kind) (codes "maxExclusive") attributes)

-- those of an element, an alternative or a building block
pub record HasOccurrences (attributes : List Attribute) : Type 0 where
  pub min : IsCountIfAny (attribute_value (own (codes "minOccurs")) attributes)
  pub max : IsGreatestIfAny (attribute_value (own (codes "maxOccurs")) attributes)

-- each known number attribute is a number of its range
abbrev pub HasNumbers : Part → List Attribute → Type 0
HasNumbers (Entry kind) attributes = HasFacetNumbers kind attributes
HasNumbers Element attributes = HasOccurrences attributes
HasNumbers Alternative attributes = HasOccurrences attributes
HasNumbers Block attributes = HasOccurrences attributes
HasNumbers _ attributes = Unit {0}

-- the element is an entry of the data dictionary
abbrev pub IsEntry : Part → Type 0
IsEntry (Entry kind) = Unit {0}
IsEntry _ = ⊥

-- A rule of its number that an element breaks, behind those before it: a root of another name; an entry with the id of an earlier one;
-- a number attribute that is no number; an entry that lacks its id, its type or its name.
pub data BreaksTagRule (before : List FileTag) (tag : FileTag) (rule : ℕ) : Type 0 where
  other_root : tag.part ≡ OtherRoot → rule ≡ 2 → BreaksTagRule before tag rule
  twice : (id : List ℕ) → IsEntry tag.part → attribute_value id_name tag.attributes ≡ Some id → HasId (objects before) id → rule ≡ 3 → BreaksTagRule before tag rule
  no_number : (HasNumbers tag.part tag.attributes → ⊥) → rule ≡ 4 → BreaksTagRule before tag rule
  lacks_id : IsEntry tag.part → attribute_value id_name tag.attributes ≡ None → rule ≡ 5 → BreaksTagRule before tag rule
  lacks_type : IsEntry tag.part → attribute_value type_name tag.attributes ≡ None → rule ≡ 5 → BreaksTagRule before tag rule
  lacks_name : IsEntry tag.part → attribute_value (own (codes "name")) tag.attributes ≡ None → rule ≡ 5 → BreaksTagRule before tag rule

-- the elements break no rule, behind those before them
abbrev pub AreSoundTags : List FileTag → List PlacedTag → Type 0
AreSoundTags before [] = Unit {0}
AreSoundTags before (t ∷ ts) = ((rule : ℕ) → BreaksTagRule before t.tag rule → ⊥) × AreSoundTags (before ++ t.tag ∷ []) ts

-- the elements without their places
abbrev pub tags_of : List PlacedTag → List FileTag
tags_of ts = map (λ (t : PlacedTag). t.tag) ts

-- The first of the elements that breaks a rule stands at this place, and the rule is the least that it breaks.
pub record IsFirstBroken (tags : List PlacedTag) (rule place : ℕ) : Type 0 where
  pub before : List PlacedTag
  pub tag : PlacedTag
  pub after : List PlacedTag
  pub split : tags ≡ before ++ tag ∷ after
  pub sound : AreSoundTags [] before
  pub broken : BreaksTagRule (tags_of before) tag.tag rule
  pub least : (other : ℕ) → BreaksTagRule (tags_of before) tag.tag other → rule ≤ other
  pub place_is : place ≡ tag.place
