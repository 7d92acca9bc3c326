-- Which rules an element breaks, by what it is.
use Rattle.std.proofs.Common.{◌≡◌, ℕ, ◌≤◌, true, false, true≢false, List, Some, None, refl, sym, ap, ◌∙◌, arith, ◌⊎◌, inl, inr}
use Rattle.std.specs.Prelude.{codes}
use Rattle.lexical_core.specs.Tree.{Entry as Attribute}
use Rattle.lexical_core.specs.Names.{attribute_value}
use Rattle.repo_objects.specs.declared.objects.ObjectKind.{ObjectKind}
use Rattle.repo_objects.specs.Repository.{HasId}
use Rattle.repo_loader.specs.declared.part.Part.{Part}
use Rattle.repo_loader.specs.declared.part.Part.TheVariants.{Entry, OtherRoot}
use Rattle.repo_loader.specs.FileNames.{own, id_name, type_name}
use Rattle.repo_loader.specs.Selected.{FileTag}
use Rattle.repo_loader.specs.File.{is_entry, objects}
use Rattle.repo_loader.specs.FileFaults.{HasFacetNumbers, HasNumbers, IsEntry, BreaksTagRule, other_root, twice, no_number, lacks_id, lacks_type, lacks_name}
use Rattle.repo_loader.specs.inner.Stops.{IsSoundTag, IsLeastTagRule}

no_root : (kind : ObjectKind) → ◌≡◌ {A = Part} (Entry kind) OtherRoot → ⊥
no_root kind e = true≢false (ap is_entry e)

module _ (tags : List FileTag) (kind : ObjectKind) (attributes : List Attribute) where
  abbrev tag : FileTag
  tag = record { part = Entry kind; attributes = attributes }

  -- no earlier entry has its id
  abbrev pub IsFirst : Type 0
  IsFirst = (id : List ℕ) → attribute_value id_name attributes ≡ Some id → HasId (objects tags) id → ⊥

  -- one of its three attributes is not there
  abbrev pub Lacks : Type 0
  Lacks = (attribute_value id_name attributes ≡ None) ⊎ ((attribute_value type_name attributes ≡ None) ⊎ (attribute_value (own (codes "name")) attributes ≡ None))

  pub least_twice : (id : List ℕ) → attribute_value id_name attributes ≡ Some id → HasId (objects tags) id → IsLeastTagRule tags tag 3
  least_twice id e h = (twice id tt e h refl, by)
    where
      by : (other : ℕ) → BreaksTagRule tags tag other → 3 ≤ other
      by other (other_root f r) = absurd (no_root kind f)
      by other (twice _ _ _ _ r) = omega (arith, r)
      by other (no_number _ r) = omega (arith, r)
      by other (lacks_id _ _ r) = omega (arith, r)
      by other (lacks_type _ _ r) = omega (arith, r)
      by other (lacks_name _ _ r) = omega (arith, r)

  pub least_number : IsFirst → (HasFacetNumbers kind attributes → ⊥) → IsLeastTagRule tags tag 4
  least_number first h = (no_number h refl, by)
    where
      by : (other : ℕ) → BreaksTagRule tags tag other → 4 ≤ other
      by other (other_root f r) = absurd (no_root kind f)
      by other (twice id _ e k r) = absurd (first id e k)
      by other (no_number _ r) = omega (arith, r)
      by other (lacks_id _ _ r) = omega (arith, r)
      by other (lacks_type _ _ r) = omega (arith, r)
      by other (lacks_name _ _ r) = omega (arith, r)

  lacking : Lacks → BreaksTagRule tags tag 5
  lacking (inl e) = lacks_id tt e refl
  lacking (inr (inl e)) = lacks_type tt e refl
  lacking (inr (inr e)) = lacks_name tt e refl

  pub least_lacks : IsFirst → HasFacetNumbers kind attributes → Lacks → IsLeastTagRule tags tag 5
  least_lacks first numbers h = (lacking h, by)
    where
      by : (other : ℕ) → BreaksTagRule tags tag other → 5 ≤ other
      by other (other_root f r) = absurd (no_root kind f)
      by other (twice id _ e k r) = absurd (first id e k)
      by other (no_number k r) = absurd (k numbers)
      by other (lacks_id _ _ r) = omega (arith, r)
      by other (lacks_type _ _ r) = omega (arith, r)
      by other (lacks_name _ _ r) = omega (arith, r)

  pub sound_entry : IsFirst → HasFacetNumbers kind attributes → (Lacks → ⊥) → IsSoundTag tags tag
  sound_entry first numbers none rule (other_root f r) = no_root kind f
  sound_entry first numbers none rule (twice id _ e k r) = first id e k
  sound_entry first numbers none rule (no_number k r) = k numbers
  sound_entry first numbers none rule (lacks_id _ e r) = none (inl e)
  sound_entry first numbers none rule (lacks_type _ e r) = none (inr (inl e))
  sound_entry first numbers none rule (lacks_name _ e r) = none (inr (inr e))

-- ---- other elements

entry_test : (part : Part) → IsEntry part → is_entry part ≡ true
entry_test (Entry kind) h = refl
entry_test _ h = absurd h

no_entry : (part : Part) → is_entry part ≡ false → IsEntry part → ⊥
no_entry part other h = true≢false (sym (entry_test part h) ∙ other)

pub sound_other : (tags : List FileTag) (t : FileTag) → is_entry t.part ≡ false → (t.part ≡ OtherRoot → ⊥) → HasNumbers t.part t.attributes → IsSoundTag tags t
sound_other tags t other root numbers rule (other_root f r) = root f
sound_other tags t other root numbers rule (twice id h e k r) = no_entry t.part other h
sound_other tags t other root numbers rule (no_number k r) = k numbers
sound_other tags t other root numbers rule (lacks_id h e r) = no_entry t.part other h
sound_other tags t other root numbers rule (lacks_type h e r) = no_entry t.part other h
sound_other tags t other root numbers rule (lacks_name h e r) = no_entry t.part other h

pub least_other : (tags : List FileTag) (t : FileTag) → is_entry t.part ≡ false → (t.part ≡ OtherRoot → ⊥) → (HasNumbers t.part t.attributes → ⊥) → IsLeastTagRule tags t 4
least_other tags t other root h = (no_number h refl, by)
  where
    by : (rule : ℕ) → BreaksTagRule tags t rule → 4 ≤ rule
    by rule (other_root f r) = absurd (root f)
    by rule (twice id k e l r) = absurd (no_entry t.part other k)
    by rule (no_number k r) = omega (arith, r)
    by rule (lacks_id k e r) = absurd (no_entry t.part other k)
    by rule (lacks_type k e r) = absurd (no_entry t.part other k)
    by rule (lacks_name k e r) = absurd (no_entry t.part other k)
