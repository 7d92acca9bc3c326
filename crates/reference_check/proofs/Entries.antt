-- Objects by their ids and by their places.
use Rattle.std.proofs.Common.{◌≡◌, ◌≢◌, ℕ, suc, Bool, true, false, true≢false, List, [], ◌∷◌, Some, is_some, refl, sym, ap, subst, arith}
use Rattle.std.specs.Prelude.{slice_get}
use Rattle.std.specs.List.{position_or_len}
use Rattle.std.specs.Str.{bytes_eq}
use Rattle.std.proofs.lemmas.Slice.Eq.{bytes_eq-Decides}
use Rattle.repo_objects.specs.declared.objects.Object.{Object}
use Rattle.repo_objects.specs.Repository.{DictionaryEntry}
use Rattle.reference_check.specs.Graph.{find_entry}

-- what is found by an id stands at the first place with that id
pub record StandsFirst (es : List DictionaryEntry) (id : List ℕ) (o : Object) : Type 0 where
  pub entry : DictionaryEntry
  pub at : slice_get es (position_or_len (λ (e : DictionaryEntry). bytes_eq e.id id) es) ≡ Some entry
  pub id_is : entry.id ≡ id
  pub object_is : entry.object ≡ o

pub stands_first : (es : List DictionaryEntry) (id : List ℕ) (o : Object) → find_entry id es ≡ Some o → StandsFirst es id o
stands_first [] id o h = absurd (true≢false (sym (ap is_some h)))
stands_first (e ∷ es) id o h = by (bytes_eq e.id id) refl (stands_first es id o)
  where
    by : (b : Bool) → bytes_eq e.id id ≡ b → (find_entry id es ≡ Some o → StandsFirst es id o) → StandsFirst (e ∷ es) id o
    by true is later = record { entry = e; at = rw is refl; id_is = (bytes_eq-Decides e.id id).0 is; object_is = let t = rw is at h in cc }
    by false is later =
        let rest = later (rw is at h) in
        let test : DictionaryEntry → Bool = λ x. bytes_eq x.id id in
        let next : position_or_len test (e ∷ es) ≡ suc (position_or_len test es) = rw is (omega arith) in
        record { entry = rest.entry; at = subst (λ n. slice_get (e ∷ es) n ≡ Some rest.entry) (sym next) rest.at; id_is = rest.id_is; object_is = rest.object_is }
