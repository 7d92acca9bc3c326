-- The module of a message that breaks no rule has the bytes of the instances that the message admits.
use Rattle.std.proofs.Common.{◌≡◌, ◌↔◌, ℕ, List, refl, sym, subst, ◌∙◌}
use Rattle.lexical_core.specs.Tree.{Tree}
use Rattle.data_types.specs.Value.{Value}
use Rattle.repo_objects.specs.Repository.{Contents, IsRepository}
use Rattle.reference_check.specs.Forms.{form_to}
use Rattle.reference_check.specs.Graph.{Place, document}
use Rattle.message_model.specs.Admits.{AdmitsAs}
use Rattle.message_model.specs.Ready.{IsReady}
use Rattle.message_model.specs.Tables.{Tables, types_of, message_of}
use Rattle.message_model.specs.Compiled.{IsReachedList, Compiles, types, place_of}
use Rattle.message_model.proofs.SoundTables.{tables_sound}
use Rattle.der_model.specs.DerMessage.{DerMessage, in_der}
use Rattle.der_model.specs.Der.{SpellsDer, der_of}
use Rattle.asn1_model.specs.Values.{AsnValue}
use Rattle.asn1_model.specs.Agreement.{EncodesAs}
use Rattle.asn1_model.specs.ModuleOf.{module_of}
use Rattle.asn1_model.specs.NameRules.{HasDistinctNames, HasNameForms}
use Rattle.asn1_model.specs.Sound.{IsSoundAsn}
use Rattle.asn1_model.proofs.ReadyTypes.{types_are_sound}
use Rattle.asn1_model.proofs.NameRules.{distinct_names, name_forms}
use Rattle.asn1_model.proofs.Renamed.{admits_there, admits_here, der_alike}
use Rattle.asn1_model.proofs.Agreement.{admits_the_same}

module _ (R : Contents) (m : List ℕ) (ids : List (List ℕ)) (T : Tables) (made : Compiles R m ids T) (fragment : Tree → List ℕ) where
  abbrev at_places : DerMessage Place
  at_places = record { forms = types R m; root = document; fragment = fragment }

  abbrev by_number : DerMessage ℕ
  by_number = in_der fragment (message_of T)

  like : (n : ℕ) → types R m (place_of ids n) ≡ form_to (place_of ids) (λ x. x) (types_of T n)
  like n = sym (made.forms n)

  der_same : (v : Value) → der_of by_number v ≡ der_of at_places v
  der_same v = der_alike (place_of ids) by_number at_places like (λ t. refl) v refl

  spells_there : (bytes : List ℕ) (v : Value) → SpellsDer by_number bytes v → SpellsDer at_places bytes v
  spells_there bytes v (admits, e) =
      (subst (λ F. AdmitsAs (types R m) F v) (sym (like 0)) (admits_there (place_of ids) (types_of T) (types R m) like (types_of T 0) v admits), e ∙ der_same v)

  spells_here : (bytes : List ℕ) (v : Value) → SpellsDer at_places bytes v → SpellsDer by_number bytes v
  spells_here bytes v (admits, e) =
      (admits_here (place_of ids) (types_of T) (types R m) like (types_of T 0) v (subst (λ F. AdmitsAs (types R m) F v) (like 0) admits), e ∙ sym (der_same v))

pub compiled_are_sound : (R : Contents) (m : List ℕ) (ids : List (List ℕ)) (T : Tables) → IsRepository R → IsReady R m → IsReachedList R m ids → Compiles R m ids T → IsSoundAsn T
compiled_are_sound R m ids T whole ready list made = types_are_sound R m whole ready ids list T made

-- the bytes of the values of the module, and those of the instances of the message
pub same_instances : (R : Contents) (m : List ℕ) (ids : List (List ℕ)) (T : Tables) (fragment : Tree → List ℕ) (bytes : List ℕ) → IsRepository R → IsReady R m → IsReachedList R m ids → Compiles R m ids T
    → ((a : AsnValue) × EncodesAs fragment T bytes a) ↔ ((v : Value) × SpellsDer (record { forms = types R m; root = document; fragment = fragment }) bytes v)
same_instances R m ids T fragment bytes whole ready list made =
    let same = admits_the_same T (types_are_sound R m whole ready ids list T made) fragment bytes in (
      λ x. (let v = same.0 x in (v.0, spells_there R m ids T made fragment bytes v.0 v.1)),
      λ (v, spells). same.1 (v, spells_here R m ids T made fragment bytes v spells),
    )

-- the names of the module are distinct, and have their form
pub has_distinct_names : (R : Contents) (m : List ℕ) (ids : List (List ℕ)) (T : Tables) → IsRepository R → IsReady R m → IsReachedList R m ids → Compiles R m ids T → HasDistinctNames (module_of T)
has_distinct_names R m ids T whole ready list made = distinct_names T (tables_sound R m ready ids list T made) (types_are_sound R m whole ready ids list T made)

pub has_name_forms : (R : Contents) (m : List ℕ) (ids : List (List ℕ)) (T : Tables) → IsRepository R → IsReady R m → IsReachedList R m ids → Compiles R m ids T → HasNameForms (module_of T)
has_name_forms R m ids T whole ready list made = name_forms T (tables_sound R m ready ids list T made) (types_are_sound R m whole ready ids list T made)
