-- What a reader has told of a fragment is a front of its tree's events.
use Rattle.std.proofs.Common.{◌≡◌, ◌≤◌, ℕ, length, List, [], ◌∷◌, ◌++◌, map, refl, sym, ap, subst, ◌∙◌, append_assoc, append-nil}
use Rattle.std.specs.List.{AllByRecursion}
use Rattle.std.proofs.lemmas.List.{append_cancel_left}
use Rattle.lexical_core.specs.Tree.{Item, Starts, Char, Ends, Skipped, Tree, TreeIs, flat, tree_items}
use Rattle.markup.specs.Token.{Token}
use Rattle.markup.specs.Marks.{Front, no_limit}
use Rattle.markup.specs.Events.{Placed, events}
use Rattle.markup.specs.EventItems.{item_of, placed_event}
use Rattle.markup.specs.Faults.{IsWholeUnder, MarkFaultUnder, Fault}
use Rattle.markup.specs.Reading.{HasTakenUnder, GoesOnUnder, IsWhollyUnder}
use Rattle.markup.specs.declared.event.Event.{Event}
use Rattle.markup.specs.declared.reader.Reader.{Reader}
use Rattle.markup.proofs.OneFault.{whole_has_none}
use Rattle.markup.proofs.Stays.{events_stay}
use Rattle.markup.proofs.TokensBehind.{items_in, tokens_behind, events_items}
use Rattle.fragments.specs.Plain.{IsPlain}
use Rattle.respell.specs.Laws.{ReadsTree, IsPlainItem}
use Rattle.respell.specs.Respelling.{HasSortedAttributes, AreOf, told_of}
use Rattle.respell.specs.inner.FragmentReading.{NoneForeign, IsFragment, event_items}
use Rattle.respell.proofs.Fronts.{front_of}
use Rattle.respell.proofs.OneTree.{read_back}
use Rattle.respell.proofs.Outside.{outside_parts, tree_inside, told_counted, told_tree}
use Rattle.respell.proofs.Runs.{items-append}
use Rattle.respell.proofs.WholePlain.{events_are_plain, plain_tree}
use Rattle.respell.proofs.WholeTree.{whole_tree}

abbrev pub items : List Placed → List Item
items told = map (λ (p : Placed). p.item) told

-- ---- a fragment to come

pub reads_of : (bytes : List ℕ) (f : IsFragment bytes) → ReadsTree no_limit bytes f.tree
reads_of bytes f = subst (λ (b : List ℕ). ReadsTree no_limit b f.tree) f.spelled (read_back f.tree no_limit f.plain (subst (λ (b : List ℕ). length b ≤ no_limit) (sym f.spelled) f.within))

whole_of : (bytes : List ℕ) → IsFragment bytes → IsWholeUnder no_limit bytes
whole_of bytes f = let r = reads_of bytes f in record { tokens = r.tokens; marks = r.marks; clean = r.clean; over = r.over }

pub no_fault : (bytes : List ℕ) (fault : Fault) → MarkFaultUnder no_limit bytes fault → IsFragment bytes → ⊥
no_fault bytes fault m f = whole_has_none bytes fault (whole_of bytes f) m

-- the events of tokens at the front of its bytes
front_told : (bytes : List ℕ) (f : IsFragment bytes) (tokens : List Token) (rest : List ℕ) → Front no_limit [] bytes tokens rest → (more : List Item) × (items (events [] 0 tokens) ++ more ≡ flat f.tree)
front_told bytes f tokens rest front =
    let r = reads_of bytes f in
    let m = front_of no_limit bytes tokens r.tokens rest front r.marks in (
      items_in (tokens_behind [] tokens) m.0,
      ap (λ (l : List Item). l ++ items_in (tokens_behind [] tokens) m.0) (events_items [] 0 tokens) ∙ (sym (items-append [] tokens m.0) ∙ (ap (items_in []) (sym m.1) ∙ (sym (events_items [] 0 r.tokens) ∙ r.told))),
    )

pub told_front : (reader : Reader) (bytes behind_them : List ℕ) (told : List Placed) → HasTakenUnder no_limit reader bytes told → (f : IsFragment (bytes ++ behind_them)) → (more : List Item) × (items told ++ more ≡ flat f.tree)
told_front reader bytes behind_them told h f =
    let (tokens, rest, front, clean, is) = events_stay reader bytes told h behind_them in
    let e = front_told (bytes ++ behind_them) f tokens rest front in
    (e.0, ap (λ (l : List Placed). items l ++ e.0) is ∙ e.1)

pub told_inside : (reader : Reader) (bytes more : List ℕ) (told : List Placed) → HasTakenUnder no_limit reader bytes told → IsFragment (bytes ++ more) → NoneForeign 0 (items told)
told_inside reader bytes more told h f =
    let e = told_front reader bytes more told h f in
    (outside_parts 0 (items told) e.0 (subst (λ (l : List Item). NoneForeign 0 l) (sym e.1) (tree_inside f.tree))).0

-- ---- what is told is plain

sorted_of : (xs : List Item) → AllByRecursion IsPlainItem xs → AllByRecursion HasSortedAttributes xs
sorted_of [] h = tt
sorted_of (Starts n a ∷ xs) h = (h.0.1.1, sorted_of xs h.1)
sorted_of (Char c ∷ xs) h = (tt, sorted_of xs h.1)
sorted_of (Ends n ∷ xs) h = (tt, sorted_of xs h.1)
sorted_of (Skipped ∷ xs) h = (tt, sorted_of xs h.1)

pub all_behind : (a b : List Item) → AllByRecursion HasSortedAttributes (a ++ b) → AllByRecursion HasSortedAttributes b
all_behind [] b h = h
all_behind (x ∷ a) b h = all_behind a b h.1

told_sorted : (reader : Reader) (bytes : List ℕ) (told : List Placed) → HasTakenUnder no_limit reader bytes told → AllByRecursion HasSortedAttributes (items told)
told_sorted reader bytes told h =
    let (tokens, rest, front, clean, is) = events_stay reader bytes told h [] in
    subst (λ (l : List Placed). AllByRecursion HasSortedAttributes (items l)) (sym is) (sorted_of (items (events [] 0 tokens)) (events_are_plain no_limit (bytes ++ []) tokens rest front clean))

pub items-append_placed : (a b : List Placed) → items (a ++ b) ≡ items a ++ items b
items-append_placed [] b = refl
items-append_placed (p ∷ a) b = ap (λ (l : List Item). p.item ∷ l) (items-append_placed a b)

items_placed : (es : List Event) → items (map placed_event es) ≡ event_items es
items_placed [] = refl
items_placed (e ∷ es) = ap (λ (l : List Item). item_of e.what ∷ l) (items_placed es)

-- the events of one more byte
pub items_more : (reader : Reader) (bytes : List ℕ) (told : List Placed) (old new : List Event) (g : GoesOnUnder no_limit reader bytes told old new) → old ≡ [] → items (told ++ g.more) ≡ items told ++ event_items new
items_more reader bytes told old new g none =
    let new_is : new ≡ g.tells.more = g.tells.appended ∙ ap (λ (l : List Event). l ++ g.tells.more) none in
    items-append_placed told g.more ∙ ap (λ (l : List Item). items told ++ l) (ap items (sym g.tells.told_are) ∙ (items_placed g.tells.more ∙ ap event_items (sym new_is)))

pub more_sorted : (reader : Reader) (bytes : List ℕ) (told : List Placed) (old new : List Event) (g : GoesOnUnder no_limit reader bytes told old new) → old ≡ [] → AllByRecursion HasSortedAttributes (event_items new)
more_sorted reader bytes told old new g none =
    all_behind (items told) (event_items new) (subst (AllByRecursion HasSortedAttributes) (items_more reader bytes told old new g none) (told_sorted reader bytes (told ++ g.more) g.taken_are))

-- ---- the end

pub record EndsTree (bytes : List ℕ) (told : List Placed) : Type 0 where
  pub tree : Tree
  pub plain : IsPlain tree
  pub are : AreOf (items told) tree

-- all events are those of a plain tree
pub ends_tree : (bytes : List ℕ) (told : List Placed) → IsWhollyUnder no_limit bytes told → NoneForeign 0 (items told) → EndsTree bytes told
ends_tree bytes told (tokens, marks, clean, over, is) inside =
    let (t, tree_is) = whole_tree tokens clean over in
    let same : items told ≡ items_in [] tokens = ap items is ∙ events_items [] 0 tokens in
    let are : TreeIs (items (events [] 0 tokens)) t = ap (tree_items 0) (events_items [] 0 tokens) ∙ tree_is in
    let plain = plain_tree no_limit bytes tokens t marks clean are in
    record {
      tree = t;
      plain = plain;
      are = told_counted 0 (items told) inside ∙ (ap (λ (l : List Placed). tree_items 0 (items l)) is ∙ are);
    }

-- the tree of a fragment is the one that was told
pub fragment_told : (bytes : List ℕ) (told : List Placed) → IsWhollyUnder no_limit bytes told → (f : IsFragment bytes) → AreOf (items told) f.tree
fragment_told bytes told (tokens, marks, clean, over, is) f =
    let r = reads_of bytes f in
    let m = front_of no_limit bytes tokens r.tokens [] marks r.marks in
    let n = front_of no_limit bytes r.tokens tokens [] r.marks marks in
    let same : items told ≡ flat f.tree = ap items is ∙ (ap (λ (ts : List Token). items (events [] 0 ts)) (equal tokens r.tokens m.0 n.0 m.1 n.1) ∙ r.told) in
    ap told_of same ∙ told_tree f.tree
  where
    longer : (a b c : List Token) → a ≡ (a ++ b) ++ c → b ≡ []
    longer a b c e = front_none b c (sym (append_cancel_left a [] (b ++ c) (append-nil a ∙ (e ∙ append_assoc a b c))))
      where
        front_none : (b c : List Token) → b ++ c ≡ [] → b ≡ []
        front_none [] c e = refl
        front_none (x ∷ b) c e = absurd cc

    equal : (a b m n : List Token) → b ≡ a ++ m → a ≡ b ++ n → a ≡ b
    equal a b m n e f = sym (e ∙ (ap (λ (l : List Token). a ++ l) (longer a m n (f ∙ ap (λ (l : List Token). l ++ n) e)) ∙ append-nil a))
