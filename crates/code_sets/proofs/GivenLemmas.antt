-- The codes that are kept by the names of their code sets, and how they grow by a record.
use Rattle.std.proofs.Common.{◌≡◌, ℕ, ◌+◌, add-one, ◌<◌, Bool, true, false, ◌||◌, List, [], ◌∷◌, ◌++◌, map, length, take, get_or, Option, Some, None, is_some, refl, sym, ap, subst, ◌∙◌}
use Rattle.std.specs.Global.{Vec}
use Rattle.std.specs.Bool.{if◌then◌else◌}
use Rattle.std.specs.BTreeMap.{BTreeMap, UpdatesBy}
use Rattle.std.specs.Cmp.Lexicographic.{slice_cmp}
use Rattle.std.specs.List.{list_any}
use Rattle.std.specs.Option.{option_map_or}
use Rattle.std.specs.Ordering.{nat_cmp}
use Rattle.std.specs.Str.{bytes_eq}
use Rattle.std.proofs.lemmas.List.{map-append}
use Rattle.std.proofs.Math.Seq.{take-suc}
use Rattle.std.proofs.lemmas.Slice.Eq.{bytes_eq-Decides}
use Rattle.indexmap.specs.IndexSet.{IndexSet, insert_key}
use Rattle.lexical_core.proofs.ByteKeys.{key_cmp, found, found_updated}
use Rattle.code_sets.specs.declared.record.CodeRecord.{CodeRecord}
use Rattle.code_sets.specs.Codes.{codes_for, once}
use Rattle.code_sets.specs.inner.Given.{key_texts, with_text, codes_in}

-- ---- texts, each once

any_map : {X Y : Type 0} (f : X → Y) (p : Y → Bool) (xs : List X) → list_any p (map f xs) ≡ list_any (λ x. p (f x)) xs
any_map f p [] = refl
any_map f p (x ∷ xs) = ap (λ b. p (f x) || b) (any_map f p xs)

-- a key is found where its text is
pub text_found : (text : List ℕ) (keys : List (Vec ℕ)) → list_any (λ (k : Vec ℕ). bytes_eq text k.items) keys ≡ list_any (bytes_eq text) (key_texts keys)
text_found text keys = sym (any_map (λ (k : Vec ℕ). k.items) (bytes_eq text) keys)

-- one more key
pub key_added : (keys : List (Vec ℕ)) (k : Vec ℕ) → key_texts (insert_key (λ x y. bytes_eq x.items y.items) keys k) ≡ with_text (key_texts keys) k.items
key_added keys k =
    case (list_any (λ (x : Vec ℕ). bytes_eq k.items x.items) keys) ∙ ap (λ b. if b then key_texts keys else key_texts keys ++ k.items ∷ []) (text_found k.items keys)
  where
    case : (b : Bool) → key_texts (if b then keys else keys ++ k ∷ []) ≡ (if b then key_texts keys else key_texts keys ++ k.items ∷ [])
    case true = refl
    case false = map-append (λ (k : Vec ℕ). k.items) keys (k ∷ [])

module _ {S : Type 0} where
  -- the texts of a set that may be none
  abbrev held : Option (IndexSet (Vec ℕ) S) → List (List ℕ)
  held o = option_map_or (λ (s : IndexSet (Vec ℕ) S). key_texts s.keys) o []

  held_if : (b : Bool) (s : IndexSet (Vec ℕ) S) (o : Option (IndexSet (Vec ℕ) S)) → held (if b then Some s else o) ≡ (if b then key_texts s.keys else held o)
  held_if true s o = refl
  held_if false s o = refl

  held_none : (o : Option (IndexSet (Vec ℕ) S)) → is_some o ≡ false → held o ≡ []
  held_none None e = refl
  held_none (Some s) e = absurd cc

  module _ (p : List ℕ) (m n : BTreeMap (Vec ℕ) (IndexSet (Vec ℕ) S)) where
    given_updated : (s : IndexSet (Vec ℕ) S) → UpdatesBy key_cmp (λ k. slice_cmp nat_cmp p k.items) m n (Some s) → (q : List ℕ) → codes_in n q ≡ (if bytes_eq p q then key_texts s.keys else codes_in m q)
    given_updated s h q = ap held (found_updated p m n (Some s) h q) ∙ held_if (bytes_eq p q) s (found m q)

    -- room under a new name adds no codes
    pub set_added : (s : IndexSet (Vec ℕ) S) → UpdatesBy key_cmp (λ k. slice_cmp nat_cmp p k.items) m n (Some s) → s.keys ≡ [] → is_some (found m p) ≡ false → (q : List ℕ) → codes_in n q ≡ codes_in m q
    set_added s h empty new q = given_updated s h q ∙ case (bytes_eq p q) refl
      where
        case : (b : Bool) → bytes_eq p q ≡ b → (if b then key_texts s.keys else codes_in m q) ≡ codes_in m q
        case true e = ap key_texts empty ∙ sym (subst (λ l. codes_in m l ≡ []) ((bytes_eq-Decides p q).0 e) (held_none (found m p) new))
        case false e = refl

    -- one more code under a name
    pub code_added : (s t : IndexSet (Vec ℕ) S) (code : List ℕ) → UpdatesBy key_cmp (λ k. slice_cmp nat_cmp p k.items) m n (Some t) → found m p ≡ Some s → key_texts t.keys ≡ with_text (key_texts s.keys) code
        → (q : List ℕ) → codes_in n q ≡ (if bytes_eq p q then with_text (codes_in m p) code else codes_in m q)
    code_added s t code h there more q =
        given_updated t h q ∙ ap (λ l. if bytes_eq p q then l else codes_in m q) (more ∙ ap (λ o. with_text (held o) code) (sym there))

-- ---- the codes of the records

-- a code behind others, unless it is one of them or of those before
abbrev ended : List ℕ → List (List ℕ) → List (List ℕ) → List (List ℕ)
ended c before all = if list_any (bytes_eq c) before || list_any (bytes_eq c) all then all else all ++ c ∷ []

-- each once, where one more comes
once_last : (seen cs : List (List ℕ)) (c : List ℕ) → once seen (cs ++ c ∷ []) ≡ ended c seen (once seen cs)
once_last seen [] c = case (list_any (bytes_eq c) seen)
  where
    case : (b : Bool) → (if b then [] else c ∷ []) ≡ (if b || false then [] else c ∷ [])
    case true = refl
    case false = refl
once_last seen (x ∷ cs) c = case (list_any (bytes_eq x) seen) (once_last seen cs c) (once_last (x ∷ seen) cs c)
  where
    pull : (a b d : Bool) (all : List (List ℕ)) → x ∷ (if (a || b) || d then all else all ++ c ∷ []) ≡ (if b || (a || d) then x ∷ all else x ∷ (all ++ c ∷ []))
    pull true true d all = refl
    pull true false d all = refl
    pull false true d all = refl
    pull false false true all = refl
    pull false false false all = refl

    case : (b : Bool) → once seen (cs ++ c ∷ []) ≡ ended c seen (once seen cs) → once (x ∷ seen) (cs ++ c ∷ []) ≡ ended c (x ∷ seen) (once (x ∷ seen) cs)
        → (if b then once seen (cs ++ c ∷ []) else x ∷ once (x ∷ seen) (cs ++ c ∷ [])) ≡ ended c seen (if b then once seen cs else x ∷ once (x ∷ seen) cs)
    case true e f = e
    case false e f = ap (λ l. x ∷ l) f ∙ pull (bytes_eq c x) (list_any (bytes_eq c) seen) (list_any (bytes_eq c) (once (x ∷ seen) cs)) (once (x ∷ seen) cs)

once_more : (cs : List (List ℕ)) (c : List ℕ) → once [] (cs ++ c ∷ []) ≡ with_text (once [] cs) c
once_more cs c = once_last [] cs c

codes_more : (q : List ℕ) (rs : List CodeRecord) (r : CodeRecord) → codes_for q (rs ++ r ∷ []) ≡ (if bytes_eq r.set q then codes_for q rs ++ r.code ∷ [] else codes_for q rs)
codes_more q [] r = refl
codes_more q (x ∷ rs) r = ap (λ l. if bytes_eq x.set q then x.code ∷ l else l) (codes_more q rs r) ∙ case (bytes_eq x.set q) (bytes_eq r.set q) (codes_for q rs)
  where
    case : (a b : Bool) (l : List (List ℕ)) → (if a then x.code ∷ (if b then l ++ r.code ∷ [] else l) else (if b then l ++ r.code ∷ [] else l))
        ≡ (if b then (if a then x.code ∷ l else l) ++ r.code ∷ [] else (if a then x.code ∷ l else l))
    case true true l = refl
    case true false l = refl
    case false true l = refl
    case false false l = refl

-- what is kept of records is kept of one more
pub record_added : (old new : List ℕ → List (List ℕ)) (rs : List CodeRecord) (r : CodeRecord) → ((q : List ℕ) → old q ≡ once [] (codes_for q rs))
    → ((q : List ℕ) → new q ≡ (if bytes_eq r.set q then with_text (old r.set) r.code else old q)) → (q : List ℕ) → new q ≡ once [] (codes_for q (rs ++ r ∷ []))
record_added old new rs r was more q = more q ∙ case (bytes_eq r.set q) refl ∙ sym (ap (once []) (codes_more q rs r))
  where
    case : (b : Bool) → bytes_eq r.set q ≡ b → (if b then with_text (old r.set) r.code else old q) ≡ once [] (if b then codes_for q rs ++ r.code ∷ [] else codes_for q rs)
    case true e = ap (λ l. with_text l r.code) (was r.set ∙ ap (λ n. once [] (codes_for n rs)) ((bytes_eq-Decides r.set q).0 e)) ∙ sym (once_more (codes_for q rs) r.code)
    case false e = was q

-- ---- codes of texts

-- ---- lists that a loop has gone over

pub item_taken : {X : Type 0} (xs : List X) (i : ℕ) (x : X) → i < length xs → x ≡ get_or xs i x → take (i + 1) xs ≡ take i xs ++ x ∷ []
item_taken xs i x below is = ap (λ n. take n xs) (add-one i) ∙ take-suc xs i x below ∙ ap (λ y. take i xs ++ y ∷ []) (sym is)
