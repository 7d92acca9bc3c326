-- A path, name by name.
use Rattle.std.specs.Prelude.{slice_get, if◌then◌else◌}
use Rattle.std.proofs.Common.{◌≡◌, ℕ, false, List, [], ◌∷◌, ◌++◌, Option, Some, refl, sym, ap, ◌∙◌, subst, arith, append-nil, append_assoc, length-append}
use Rattle.std.specs.Fmt.{decimal}
use Rattle.facets.specs.declared.simple.Simple.{Simple}
use Rattle.reference_check.specs.Forms as graph
use Rattle.reference_check.specs.Forms.{Graph, form_slots}
use Rattle.der_model.specs.Structures.{is_single}
use Rattle.der_model.specs.States.{PathName, Numbered, ListName, AttributeName}
use Rattle.der_model.specs.Paths.{path_name_text, names_text, path_text}
use Rattle.der_codec.specs.Components.{slot_text}
use Rattle.der_codec.specs.inner.OpenNames.{closed_text, list_alone, last_list, held_text, HasNames, slot_names, item_names, alternative_names}
use Rattle.der_codec.specs.declared.paths.Path.{Path}

closed_join : (xs bs : List PathName) → closed_text (xs ++ bs) ≡ closed_text xs ++ closed_text bs
closed_join [] bs = refl
closed_join (Numbered tag number ∷ ns) bs =
    ap (λ z. (47 ∷ path_name_text (Numbered tag number)) ++ z) (closed_join ns bs) ∙ sym (append_assoc (47 ∷ path_name_text (Numbered tag number)) (closed_text ns) (closed_text bs))
closed_join (AttributeName name ∷ ns) bs =
    ap (λ z. (47 ∷ path_name_text (AttributeName name)) ++ z) (closed_join ns bs) ∙ sym (append_assoc (47 ∷ path_name_text (AttributeName name)) (closed_text ns) (closed_text bs))
closed_join (ListName tag ∷ ns) bs = closed_join ns bs

last_behind : (ns : List PathName) (n : PathName) → last_list (ns ++ n ∷ []) ≡ list_alone n
last_behind [] n = refl
last_behind (k ∷ []) n = refl
last_behind (k ∷ j ∷ ns) n = last_behind (j ∷ ns) n

-- one name more
pub put_one : (types : Graph ℕ Simple) (p q : Path) (names : List PathName) (n : PathName) → HasNames types p names → q.text ≡ p.text ++ closed_text (n ∷ []) → held_text types q.list ≡ list_alone n → HasNames types q (names ++ n ∷ [])
put_one types p q names n h text held = record {
  some = (let sum = length-append names (n ∷ []) in omega arith);
  written = text ∙ (ap (λ z. z ++ closed_text (n ∷ [])) h.written ∙ sym (closed_join names (n ∷ [])));
  held = held ∙ sym (last_behind names n);
}

-- as it is written
whole : (n : PathName) (ns : List PathName) → names_text (n ∷ ns) ≡ closed_text (n ∷ ns) ++ last_list (n ∷ ns)
whole (Numbered tag number) [] = sym (append-nil ((47 ∷ path_name_text (Numbered tag number)) ++ []) ∙ append-nil (47 ∷ path_name_text (Numbered tag number)))
whole (AttributeName name) [] = sym (append-nil ((47 ∷ path_name_text (AttributeName name)) ++ []) ∙ append-nil (47 ∷ path_name_text (AttributeName name)))
whole (ListName tag) [] = refl
whole (Numbered tag number) (k ∷ ns) =
    ap (λ z. (47 ∷ path_name_text (Numbered tag number)) ++ z) (whole k ns) ∙ sym (append_assoc (47 ∷ path_name_text (Numbered tag number)) (closed_text (k ∷ ns)) (last_list (k ∷ ns)))
whole (AttributeName name) (k ∷ ns) =
    ap (λ z. (47 ∷ path_name_text (AttributeName name)) ++ z) (whole k ns) ∙ sym (append_assoc (47 ∷ path_name_text (AttributeName name)) (closed_text (k ∷ ns)) (last_list (k ∷ ns)))
whole (ListName tag) (k ∷ ns) = whole k ns

pub whole_path : (types : Graph ℕ Simple) (p : Path) (names : List PathName) → HasNames types p names → p.text ++ held_text types p.list ≡ path_text names
whole_path types p [] h = absurd (omega (arith, h.some))
whole_path types p (n ∷ ns) h = ap (λ z. z ++ held_text types p.list) h.written ∙ (ap (λ z. closed_text (n ∷ ns) ++ z) h.held ∙ sym (whole n ns))

-- the text of one name
pub numbered_text : (tag : List ℕ) (number : ℕ) → closed_text (Numbered tag number ∷ []) ≡ 47 ∷ (tag ++ (91 ∷ (decimal number ++ (93 ∷ []))))
numbered_text tag number = append-nil (47 ∷ (tag ++ (91 ∷ (decimal number ++ (93 ∷ [])))))

pub slot_listed : (s : graph.Slot ℕ) (o : Option (graph.Slot ℕ)) → o ≡ Some s → is_single s ≡ false → ListName s.tag ∷ [] ≡ slot_names o
slot_listed s o e is = sym (ap slot_names e ∙ ap (λ z. if z then Numbered s.tag 1 ∷ [] else ListName s.tag ∷ []) is)

-- the list of a slot
pub put_list : (types : Graph ℕ Simple) (p q : Path) (names : List PathName) (s : graph.Slot ℕ) (parent at : ℕ) → Some s ≡ slice_get (form_slots (types parent)) at → is_single s ≡ false → q.text ≡ p.text → q.list ≡ Some (parent, at)
    → HasNames types p names → HasNames types q (names ++ slot_names (slice_get (form_slots (types parent)) at))
put_list types p q names s parent at is many text list h =
    subst (λ z. HasNames types q (names ++ z)) (slot_listed s (slice_get (form_slots (types parent)) at) (sym is) many)
    (put_one types p q names (ListName s.tag) h (text ∙ sym (append-nil p.text)) (ap (held_text types) list ∙ ap slot_text (sym is)))

-- an item's names, one after the other
pub item_whole : (types : Graph ℕ Simple) (s : graph.Slot ℕ) (o : Option (graph.Slot ℕ)) (names : List PathName) (count at : ℕ) → Some s ≡ o
    → (names ++ Numbered s.tag count ∷ []) ++ alternative_names (types s.target) at ≡ names ++ item_names types o count at
item_whole types s o names count at e = append_assoc names (Numbered s.tag count ∷ []) (alternative_names (types s.target) at) ∙ ap (λ z. names ++ item_names types z count at) e
