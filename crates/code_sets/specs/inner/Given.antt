-- How the codes that are given are kept while they are joined.
use Rattle.std.specs.Prelude.{ℕ, List, [], ◌∷◌, ◌++◌, ◌&&◌, ◌≡◌, Bool, not, map, IsSome, if◌then◌else◌}
use Rattle.std.specs.Global.{Vec}
use Rattle.std.specs.BTreeMap.{BTreeMap, get_by}
use Rattle.std.specs.Cmp.Lexicographic.{slice_cmp}
use Rattle.std.specs.List.{list_any}
use Rattle.std.specs.Option.{option_map_or}
use Rattle.std.specs.Ordering.{nat_cmp}
use Rattle.std.specs.Str.{bytes_eq}
use Rattle.indexmap.specs.IndexSet.{IndexSet}
use Rattle.repo_objects.specs.Repository.{DictionaryEntry, entry_with_codes}
use Rattle.code_sets.specs.declared.record.CodeRecord.{CodeRecord}
use Rattle.code_sets.specs.Codes.{code_of, has_own_codes, is_code_set, is_none_yet}

-- the texts that the keys hold
abbrev pub key_texts : List (Vec ℕ) → List (List ℕ)
key_texts keys = map (λ (k : Vec ℕ). k.items) keys

-- the texts with one more at their end, unless it is one of them
abbrev pub with_text : List (List ℕ) → List ℕ → List (List ℕ)
with_text texts text = if list_any (bytes_eq text) texts then texts else texts ++ text ∷ []

module _ {S : Type 0} where
  -- the codes that are kept for the code sets of this name
  abbrev pub codes_in : BTreeMap (Vec ℕ) (IndexSet (Vec ℕ) S) → List ℕ → List (List ℕ)
  codes_in given name = option_map_or (λ (s : IndexSet (Vec ℕ) S). key_texts s.keys) (get_by (λ k. slice_cmp nat_cmp name k.items) given) []

  -- there is room for codes under this name
  abbrev pub HasName : BTreeMap (Vec ℕ) (IndexSet (Vec ℕ) S) → List ℕ → Type 0
  HasName given name = IsSome (get_by (λ k. slice_cmp nat_cmp name k.items) given)

-- an entry with the codes that are kept for its name
abbrev pub given_entry : (List ℕ → List (List ℕ)) → DictionaryEntry → DictionaryEntry
given_entry kept e = if is_code_set e.object.kind && is_none_yet e.object.codes then entry_with_codes (map code_of (kept e.object.name)) e else e

-- the names with that of the entry, where it is a code set with codes of its own
abbrev pub with_own_name : List (List ℕ) → DictionaryEntry → List (List ℕ)
with_own_name names e = if is_code_set e.object.kind && not (is_none_yet e.object.codes) then with_text names e.object.name else names

-- these are the names of the code sets with codes of their own
abbrev pub NamesOwn : List (List ℕ) → List DictionaryEntry → Type 0
NamesOwn names entries = (name : List ℕ) → list_any (bytes_eq name) names ≡ list_any (has_own_codes name) entries

-- the record names a code set that has one of these names
abbrev pub is_set_named : List (List ℕ) → CodeRecord → Bool
is_set_named names r = list_any (bytes_eq r.set) names
