-- The numbers that prefixes of sorted attributes have, one attribute after another.
use Rattle.std.proofs.Common.{◌≡◌, ◌≢◌, ℕ, ◌+◌, ◌<◌, ◌≤◌, inl, inr, Bool, true, false, ◌&&◌, ◌||◌, not, List, [], ◌∷◌, ◌++◌, map, refl, sym, ap, ap₂, subst, ◌∙◌, arith, append_assoc, if◌then◌else◌}
use Rattle.std.specs.Prelude.{codes}
use Rattle.std.specs.List.{flat_map, AllByRecursion}
use Rattle.std.specs.Str.{bytes_eq}
use Rattle.std.specs.Ordering.{nat_cmp, ordering_then, ordering_reverse, is_eq}
use Rattle.std.specs.Cmp.Lexicographic.{slice_cmp}
use Rattle.std.specs.declared.cmp.Ordering.{Ordering}
use Rattle.std.specs.declared.cmp.Ordering.TheVariants.{Less, Equal, Greater}
use Rattle.std.proofs.lemmas.Bool.{cases_Bool, true≢false, cond-true, cond-false}
use Rattle.std.proofs.lemmas.Cmp.{nat_list_cmp_total}
use Rattle.std.proofs.lemmas.Map.Text.{is_eq-slice_cmp}
use Rattle.lexical_core.specs.Tree.{Entry}
use Rattle.lexical_core.specs.Names.{name_cmp}
use Rattle.lexical_core.proofs.EqualBytes.{equal_bytes, bytes_equal, other_bytes}
use Rattle.fragments.specs.Plain.{AreSortedEntries}
use Rattle.fragments.specs.Fragment.{Written, written_text, needs_none, namespaces_of, number_among, attribute_written, is_xml, prefix_of}
use Rattle.respell.specs.inner.Declaring.{without, is_new, number_behind, later, numbered_prefix, numbered_attribute}
use Rattle.respell.proofs.TagNames.{IsOneOf}
use Rattle.respell.proofs.DeclaringLemmas.{without_none, without_new, without_old}

-- no namespace of these is below it
abbrev NoneBelow : List ℕ → List Entry → Type 0
NoneBelow last es = AllByRecursion (λ e. slice_cmp nat_cmp last e.name.namespace ≢ Greater) es

-- what the number of each namespace is that is still to come, where the last has this one
pub record AreNumbered (all left : List Entry) (last : List ℕ) (number : ℕ) : Type 0 where
  pub sorted : AreSortedEntries left
  pub behind : NoneBelow last left
  pub numbers : (e : Entry) → IsOneOf e left → needs_none e.name.namespace ≡ false
      → number_among 1 (namespaces_of all) e.name.namespace ≡ (if bytes_eq e.name.namespace last then number else number_among (number + 1) (without last (namespaces_of left)) e.name.namespace)

-- ---- at the start

none_below_empty : (es : List Entry) → NoneBelow [] es
none_below_empty [] = tt
none_below_empty (e ∷ es) = (first e.name.namespace, none_below_empty es)
  where
    first : (n : List ℕ) → slice_cmp nat_cmp [] n ≢ Greater
    first [] h = absurd cc
    first (c ∷ n) h = absurd cc

needed_other : (n : List ℕ) → needs_none n ≡ false → bytes_eq n [] ≡ false
needed_other [] h = absurd (true≢false h)
needed_other (c ∷ n) h = refl

pub numbered_none : (es : List Entry) → AreSortedEntries es → AreNumbered es es [] 0
numbered_none es h = record {
  sorted = h;
  behind = none_below_empty es;
  numbers = λ e one needed. sym (ap (λ (b : Bool). if b then 0 else number_among 1 (without [] (namespaces_of es)) e.name.namespace) (needed_other e.name.namespace needed) ∙ ap (λ (ns : List (List ℕ)). number_among 1 ns e.name.namespace) (without_none es));
}

-- ---- one more

new_is : (last n : List ℕ) (a b : Bool) → needs_none n ≡ a → bytes_eq n last ≡ b → is_new last n ≡ (not a && not b)
new_is last n a b e f = ap₂ (λ (x y : Bool). not x && not y) e f

-- the namespaces of those that follow are not below an entry's
none_below_more : (e : Entry) (es : List Entry) → AllByRecursion (λ f. name_cmp e.name f.name ≡ Less) es → NoneBelow e.name.namespace es
none_below_more e [] h = tt
none_below_more e (f ∷ es) h = (not_greater (slice_cmp nat_cmp e.name.namespace f.name.namespace) (slice_cmp nat_cmp e.name.local f.name.local) h.0, none_below_more e es h.1)
  where
    not_greater : (r s : Ordering) → ordering_then r s ≡ Less → r ≢ Greater
    not_greater Less s h g = absurd cc
    not_greater Equal s h g = absurd cc
    not_greater Greater s h g = absurd cc

one_below : (last : List ℕ) (f : Entry) (es : List Entry) → NoneBelow last es → IsOneOf f es → slice_cmp nat_cmp last f.name.namespace ≢ Greater
one_below last f [] h one = absurd one
one_below last f (e ∷ es) h (inl same) = subst (λ (x : Entry). slice_cmp nat_cmp last x.name.namespace ≢ Greater) same h.0
one_below last f (e ∷ es) h (inr one) = one_below last f es h.1 one

-- neither is below the other
level : (a b : List ℕ) → slice_cmp nat_cmp a b ≢ Greater → slice_cmp nat_cmp b a ≢ Greater → a ≡ b
level a b f g = case (slice_cmp nat_cmp a b) refl
  where
    case : (o : Ordering) → slice_cmp nat_cmp a b ≡ o → a ≡ b
    case Less e = absurd (g (nat_list_cmp_total.antisymm b a ∙ ap ordering_reverse e))
    case Equal e = equal_bytes a b (sym (is_eq-slice_cmp a b) ∙ ap is_eq e)
    case Greater e = absurd (f e)

-- what comes next, and what the number of this one is
pub record NextNumbered (all : List Entry) (e : Entry) (es : List Entry) (last : List ℕ) (number : ℕ) : Type 0 where
  pub this : needs_none e.name.namespace ≡ false → number_among 1 (namespaces_of all) e.name.namespace ≡ number_behind number last e.name.namespace
  pub rest : AreNumbered all es (later last e.name.namespace) (number_behind number last e.name.namespace)

-- it needs none
next_none : (all : List Entry) (e : Entry) (es : List Entry) (last : List ℕ) (number : ℕ) → AreNumbered all (e ∷ es) last number → needs_none e.name.namespace ≡ true → NextNumbered all e es last number
next_none all e es last number h t =
    let n : List ℕ = e.name.namespace in
    let old : is_new last n ≡ false = ap (λ (b : Bool). not b && not (bytes_eq n last)) t in
    let num : number_behind number last n ≡ number = cond-false (is_new last n) (number + 1) number old in
    let lat : later last n ≡ last = cond-true (needs_none n) last n t in
    let same : without last (namespaces_of (e ∷ es)) ≡ without last (namespaces_of es) = without_old last e es old in record {
      this = λ needed. absurd (true≢false (sym t ∙ needed));
      rest = subst (λ (l : List ℕ). AreNumbered all es l (number_behind number last n)) (sym lat) (subst (λ (k : ℕ). AreNumbered all es last k) (sym num) (record {
        sorted = h.sorted.1;
        behind = h.behind.1;
        numbers = λ f one needed. h.numbers f (inr one) needed ∙ ap (λ (ns : List (List ℕ)). if bytes_eq f.name.namespace last then number else number_among (number + 1) ns f.name.namespace) same;
      }));
    }

-- it is the last
next_last : (all : List Entry) (e : Entry) (es : List Entry) (last : List ℕ) (number : ℕ) → AreNumbered all (e ∷ es) last number → needs_none e.name.namespace ≡ false → bytes_eq e.name.namespace last ≡ true → NextNumbered all e es last number
next_last all e es last number h f t =
    let n : List ℕ = e.name.namespace in
    let old : is_new last n ≡ false = ap₂ (λ (a b : Bool). not a && not b) f t in
    let num : number_behind number last n ≡ number = cond-false (is_new last n) (number + 1) number old in
    let lat : later last n ≡ last = cond-false (needs_none n) last n f ∙ equal_bytes n last t in
    let same : without last (namespaces_of (e ∷ es)) ≡ without last (namespaces_of es) = without_old last e es old in record {
      this = λ needed. h.numbers e (inl refl) needed ∙ (cond-true (bytes_eq n last) number (number_among (number + 1) (without last (namespaces_of (e ∷ es))) n) t ∙ sym num);
      rest = subst (λ (l : List ℕ). AreNumbered all es l (number_behind number last n)) (sym lat) (subst (λ (k : ℕ). AreNumbered all es last k) (sym num) (record {
        sorted = h.sorted.1;
        behind = h.behind.1;
        numbers = λ f one needed. h.numbers f (inr one) needed ∙ ap (λ (ns : List (List ℕ)). if bytes_eq f.name.namespace last then number else number_among (number + 1) ns f.name.namespace) same;
      }));
    }

-- it is a new one
next_new : (all : List Entry) (e : Entry) (es : List Entry) (last : List ℕ) (number : ℕ) → AreNumbered all (e ∷ es) last number → needs_none e.name.namespace ≡ false → bytes_eq e.name.namespace last ≡ false → NextNumbered all e es last number
next_new all e es last number h f z =
    let n : List ℕ = e.name.namespace in
    let new : is_new last n ≡ true = ap₂ (λ (a b : Bool). not a && not b) f z in
    let num : number_behind number last n ≡ number + 1 = cond-true (is_new last n) (number + 1) number new in
    let lat : later last n ≡ n = cond-false (needs_none n) last n f in
    let rest : List (List ℕ) = without n (namespaces_of es) in
    let whole : without last (namespaces_of (e ∷ es)) ≡ n ∷ rest = without_new last e es new in
    let at : (m : List ℕ) → bytes_eq m last ≡ false → (if bytes_eq m last then number else number_among (number + 1) (without last (namespaces_of (e ∷ es))) m) ≡ (if bytes_eq n m then number + 1 else number_among (number + 1 + 1) rest m) =
    λ m g. cond-false (bytes_eq m last) number (number_among (number + 1) (without last (namespaces_of (e ∷ es))) m) g ∙ ap (λ (ns : List (List ℕ)). number_among (number + 1) ns m) whole in record {
      this = λ needed. h.numbers e (inl refl) needed ∙ (at n z ∙ (cond-true (bytes_eq n n) (number + 1) (number_among (number + 1 + 1) rest n) (bytes_equal n n refl) ∙ sym num));
      rest = subst (λ (l : List ℕ). AreNumbered all es l (number_behind number last n)) (sym lat) (subst (λ (k : ℕ). AreNumbered all es n k) (sym num) (record {
        sorted = h.sorted.1;
        behind = none_below_more e es h.sorted.0;
        numbers = λ f one needed.
            let m : List ℕ = f.name.namespace in
            let apart : bytes_eq m last ≡ false = other_bytes m last (λ same. true≢false (sym (bytes_equal n last (level n last (subst (λ (l : List ℕ). slice_cmp nat_cmp n l ≢ Greater) same (one_below n f es (none_below_more e es h.sorted.0) one)) h.behind.0)) ∙ z)) in
            h.numbers f (inr one) needed ∙ (at m apart ∙ ap (λ (b : Bool). if b then number + 1 else number_among (number + 1 + 1) rest m) (swapped n m));
      }));
    }
  where
    swapped : (a b : List ℕ) → bytes_eq a b ≡ bytes_eq b a
    swapped a b = elim (cases_Bool (bytes_eq a b)) [
      | inl t ↦ t ∙ sym (bytes_equal b a (sym (equal_bytes a b t)))
      | inr g ↦ g ∙ sym (other_bytes b a (λ s. true≢false (sym (bytes_equal a b (sym s)) ∙ g)))
    ]

pub next_numbered : (all : List Entry) (e : Entry) (es : List Entry) (last : List ℕ) (number : ℕ) → AreNumbered all (e ∷ es) last number → NextNumbered all e es last number
next_numbered all e es last number h = elim (cases_Bool (needs_none e.name.namespace)) [
  | inl t ↦ next_none all e es last number h t
  | inr f ↦ elim (cases_Bool (bytes_eq e.name.namespace last)) [
    | inl t ↦ next_last all e es last number h f t
    | inr z ↦ next_new all e es last number h f z
  ]
]

-- an attribute with the number of its namespace
numbered_is : (nss : List (List ℕ)) (e : Entry) (k : ℕ) → (needs_none e.name.namespace ≡ false → number_among 1 nss e.name.namespace ≡ k) → attribute_written nss e ≡ numbered_attribute k e
numbered_is nss e k h = elim (cases_Bool (needs_none e.name.namespace)) [
  | inl t ↦ ap (λ (p : List ℕ). record { name = record { prefix = p; local = e.name.local }; value = e.value }) (any (number_among 1 nss e.name.namespace) k e.name.namespace t)
  | inr f ↦ ap (λ (j : ℕ). numbered_attribute j e) (h f)
]
  where
    any : (j k : ℕ) (n : List ℕ) → needs_none n ≡ true → numbered_prefix j n ≡ numbered_prefix k n
    any j k n t = step (bytes_eq n []) (is_xml n) t
      where
        step : (a b : Bool) → (a || b) ≡ true → (if a then [] else (if b then codes "xml" else prefix_of j)) ≡ (if a then [] else (if b then codes "xml" else prefix_of k))
        step true b e = refl
        step false true e = refl
        step false false e = absurd cc

-- one more attribute is written
pub attribute_step : (old new whole : List ℕ) (all : List Entry) (e : Entry) (es left : List Entry) (number : ℕ) → left ≡ e ∷ es
    → (needs_none e.name.namespace ≡ false → number_among 1 (namespaces_of all) e.name.namespace ≡ number)
    → new ≡ old ++ written_text (numbered_attribute number e)
    → old ++ flat_map written_text (map (attribute_written (namespaces_of all)) left) ≡ whole
    → new ++ flat_map written_text (map (attribute_written (namespaces_of all)) es) ≡ whole
attribute_step old new whole all e es left number split is pushed before =
    let nss : List (List ℕ) = namespaces_of all in
    let more : List ℕ = flat_map written_text (map (attribute_written nss) es) in
    ap (λ (l : List ℕ). l ++ more) pushed ∙ (append_assoc old (written_text (numbered_attribute number e)) more
    ∙ (ap (λ (w : Written). old ++ (written_text w ++ more)) (sym (numbered_is nss e number is)) ∙ (ap (λ (l : List Entry). old ++ flat_map written_text (map (attribute_written nss) l)) (sym split) ∙ before)))

-- a namespace that needs a declaration has a number
pub started : (number : ℕ) (last n : List ℕ) → (needs_none last ≡ false → 0 < number) → needs_none n ≡ false → 0 < number_behind number last n
started number last n h f = elim (cases_Bool (bytes_eq n last)) [
  | inl t ↦ (let l : 0 < number = h (ap needs_none (sym (equal_bytes n last t)) ∙ f) in
      subst (λ (k : ℕ). 0 < k) (sym (cond-false (is_new last n) (number + 1) number (ap₂ (λ (a b : Bool). not a && not b) f t))) l)
  | inr z ↦ subst (λ (k : ℕ). 0 < k) (sym (cond-true (is_new last n) (number + 1) number (ap₂ (λ (a b : Bool). not a && not b) f z))) (omega arith)
]

pub started_later : (number : ℕ) (last n : List ℕ) → (needs_none last ≡ false → 0 < number) → needs_none (later last n) ≡ false → 0 < number_behind number last n
started_later number last n h f = elim (cases_Bool (needs_none n)) [
  | inl t ↦ (let lat : later last n ≡ last = cond-true (needs_none n) last n t in
      subst (λ (k : ℕ). 0 < k) (sym (cond-false (is_new last n) (number + 1) number (ap (λ (b : Bool). not b && not (bytes_eq n last)) t))) (h (ap needs_none (sym lat) ∙ f)))
  | inr g ↦ started number last n h g
]

pub next_within : (number : ℕ) (last n : List ℕ) → number_behind number last n ≤ number + 1
next_within number last n = elim (cases_Bool (is_new last n)) [
  | inl t ↦ subst (λ (k : ℕ). k ≤ number + 1) (sym (cond-true (is_new last n) (number + 1) number t)) (omega arith)
  | inr f ↦ subst (λ (k : ℕ). k ≤ number + 1) (sym (cond-false (is_new last n) (number + 1) number f)) (omega arith)
]

-- the loop goes on with the next attribute
pub attribute_preserved : (all es left : List Entry) (e : Entry) (old new whole last n m l : List ℕ) (number k : ℕ) → left ≡ e ∷ es → n ≡ e.name.namespace → m ≡ e.name.namespace → k ≡ number_behind number last n → l ≡ later last m
    → new ≡ old ++ written_text (numbered_attribute k e)
    → (AreSortedEntries all → AreNumbered all left last number × (old ++ flat_map written_text (map (attribute_written (namespaces_of all)) left) ≡ whole))
    → AreSortedEntries all → AreNumbered all es l k × (new ++ flat_map written_text (map (attribute_written (namespaces_of all)) es) ≡ whole)
attribute_preserved all es left e old new whole last n m l number k split is_n is_m is_k is_l pushed before sorted =
    let h = before sorted in
    let next = next_numbered all e es last number (subst (λ (es : List Entry). AreNumbered all es last number) split h.0) in
    let same_k : k ≡ number_behind number last e.name.namespace = is_k ∙ ap (λ (x : List ℕ). number_behind number last x) is_n in
    let same_l : l ≡ later last e.name.namespace = is_l ∙ ap (λ (x : List ℕ). later last x) is_m in (
      subst (λ (x : List ℕ). AreNumbered all es x k) (sym same_l) (subst (λ (j : ℕ). AreNumbered all es (later last e.name.namespace) j) (sym same_k) next.rest),
      attribute_step old new whole all e es left k split (λ needed. next.this needed ∙ sym same_k) pushed h.1,
    )

pub started_preserved : (number k : ℕ) (last n m l : List ℕ) → n ≡ m → k ≡ number_behind number last n → l ≡ later last m → (needs_none last ≡ false → 0 < number) → needs_none l ≡ false → 0 < k
started_preserved number k last n m l same is_k is_l h f =
    subst (λ (j : ℕ). 0 < j) (sym (is_k ∙ ap (λ (x : List ℕ). number_behind number last x) same)) (started_later number last m h (ap needs_none (sym is_l) ∙ f))
