-- The components of the types that the module has for sequences and choices.
use Rattle.std.proofs.Common.{◌≡◌, ◌≢◌, ◌⊎◌, inl, inr, eqb, ℕ, zero, suc, Bool, true, false, cond, List, [], ◌∷◌, map, length, Option, Some, refl, sym, ap, ap₂, ◌∙◌}
use Rattle.std.specs.Prelude.{slice_get, if◌then◌else◌, ◌==◌}
use Rattle.std.proofs.lemmas.Bool.Decides.{eqb_tells}
use Rattle.std.proofs.lemmas.List.{length-map}
use Rattle.facets.specs.declared.simple.Simple.{Simple}
use Rattle.reference_check.specs.Forms.{Graph, Slot}
use Rattle.der_model.specs.Structures.{is_single}
use Rattle.asn1_model.specs.declared.module.Module.{Module}
use Rattle.asn1_model.specs.declared.module.AsnShape.{AsnShape}
use Rattle.asn1_model.specs.declared.module.Mode.TheVariants as mode
use Rattle.asn1_model.specs.Values.{AsnPart, One, Many, asn_part_of, due_by, is_optional, find_asn_type}
use Rattle.asn1_model.specs.ModuleOf.{fields_of, fields_with, mode_of, slot_identifier, shape_of}
use Rattle.asn1_model.specs.Names.{given_names}
use Rattle.asn1_model.proofs.TypeNameLemmas.{length-given}

-- the component that a slot is
abbrev pub part : {P : Type 0} → Graph P Simple → (P → List ℕ) → Slot P → AsnPart
part g name s = record { optional = is_optional (mode_of s); due = due_by (mode_of s) (shape_of name (g s.target)) }

-- under the name of a type that may be referred to stands its shape
abbrev pub IsTyped : {P : Type 0} → (P → Type 0) → Graph P Simple → (P → List ℕ) → Module → Type 0
IsTyped {P} May g name M = (p : P) → May p → find_asn_type (name p) M.types ≡ shape_of name (g p)

abbrev pub HasTargets : {P : Type 0} → (P → Type 0) → List (Slot P) → Type 0
HasTargets {P} May fs = (k : ℕ) (s : Slot P) → slice_get fs k ≡ Some s → May s.target

parts_with : {P : Type 0} (May : P → Type 0) (g : Graph P Simple) (name : P → List ℕ) (M : Module) → IsTyped May g name M → (fs : List (Slot P)) → HasTargets May fs → (ns : List (List ℕ)) → length ns ≡ length fs
    → map (asn_part_of M) (fields_with name fs ns) ≡ map (part g name) fs
parts_with May g name M typed [] t [] e = refl
parts_with May g name M typed [] t (n ∷ ns) e = absurd cc
parts_with May g name M typed (s ∷ fs) t [] e = absurd cc
parts_with May g name M typed (s ∷ fs) t (n ∷ ns) e =
    ap₂ (λ (p : AsnPart) (ps : List AsnPart). p ∷ ps) (ap (λ (o : Option AsnShape). record { optional = is_optional (mode_of s); due = due_by (mode_of s) o }) (typed s.target (t 0 s refl))) (parts_with May g name M typed fs (λ k u e. t (suc k) u e) ns cc)

pub parts_are : {P : Type 0} (May : P → Type 0) (g : Graph P Simple) (name : P → List ℕ) (M : Module) → IsTyped May g name M → (fs : List (Slot P)) → HasTargets May fs → map (asn_part_of M) (fields_of name fs) ≡ map (part g name) fs
parts_are May g name M typed fs t = parts_with May g name M typed fs t (given_names (map slot_identifier fs)) (length-given [] (map slot_identifier fs) ∙ length-map fs slot_identifier)

pub part_at : {P : Type 0} (g : Graph P Simple) (name : P → List ℕ) (fs : List (Slot P)) (k : ℕ) (s : Slot P) → slice_get fs k ≡ Some s → slice_get (map (part g name) fs) k ≡ Some (part g name s)
part_at g name [] k s e = absurd cc
part_at g name (t ∷ fs) zero s e = (let same : t ≡ s = cc in ap (λ x. Some (part g name x)) same)
part_at g name (t ∷ fs) (suc k) s e = part_at g name fs k s e

pub slot_of_part : {P : Type 0} (g : Graph P Simple) (name : P → List ℕ) (fs : List (Slot P)) (k : ℕ) (p : AsnPart) → slice_get (map (part g name) fs) k ≡ Some p → (s : Slot P) × (slice_get fs k ≡ Some s) × (p ≡ part g name s)
slot_of_part g name [] k p e = absurd cc
slot_of_part g name (t ∷ fs) zero p e = (t, refl, (let same : part g name t ≡ p = cc in sym same))
slot_of_part g name (t ∷ fs) (suc k) p e = slot_of_part g name fs k p e

due_in_mode : (b : Bool) (sh : Option AsnShape) → due_by (cond b mode.Optional mode.Required) sh ≡ One sh
due_in_mode true sh = refl
due_in_mode false sh = refl

pub due_single : {P : Type 0} (g : Graph P Simple) (name : P → List ℕ) (s : Slot P) → is_single s ≡ true → (part g name s).due ≡ One (shape_of name (g s.target))
due_single g name s h = rw h (due_in_mode (s.min == 0) (shape_of name (g s.target)))

pub due_list : {P : Type 0} (g : Graph P Simple) (name : P → List ℕ) (s : Slot P) → is_single s ≡ false → (part g name s).due ≡ Many s.min s.max (shape_of name (g s.target))
due_list g name s h = rw h refl

pub optional_none : {P : Type 0} (g : Graph P Simple) (name : P → List ℕ) (s : Slot P) → is_single s ≡ true → s.min ≡ 0 → (part g name s).optional ≡ true
optional_none g name s h e = rw (h, e) refl

optional_by : (single : Bool) (min : ℕ) (max : Option ℕ) → is_optional (if single then (if min == 0 then mode.Optional else mode.Required) else mode.List min max) ≡ true → (single ≡ true) × (min ≡ 0)
optional_by true min max e = go (eqb_tells min 0)
  where
    go : ((eqb min 0 ≡ true) × (min ≡ 0)) ⊎ ((eqb min 0 ≡ false) × (min ≢ 0)) → (true ≡ true) × (min ≡ 0)
    go (inl (t, is)) = (refl, is)
    go (inr (f, other)) = (let x : false ≡ true = rw f at e in absurd cc)
optional_by false n max e = absurd cc

pub none_optional : {P : Type 0} (g : Graph P Simple) (name : P → List ℕ) (s : Slot P) → (part g name s).optional ≡ true → (is_single s ≡ true) × (s.min ≡ 0)
none_optional g name s e = optional_by (is_single s) s.min s.max e
