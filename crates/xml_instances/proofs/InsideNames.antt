-- Elements in an envelope: those that are written again are those that are open.
use Rattle.std.proofs.Common.{◌≡◌, ℕ, true, false, List, [], ◌∷◌, ◌++◌, drop, Option, Some, None, refl, sym, ap, ◌∙◌, subst}
use Rattle.std.specs.Str.{bytes_eq}
use Rattle.lexical_core.specs.Tree.{Expanded, Entry, Item, Starts, Char, Ends, Skipped}
use Rattle.data_types.specs.Value.{Edge}
use Rattle.facets.specs.declared.simple.Simple.{Simple}
use Rattle.markup.specs.Events.{Placed}
use Rattle.markup.specs.PlainTags.{open_after, open_behind, innermost_namespace, name_behind}
use Rattle.respell.specs.Kept.{opened_by, IsInDefault}
use Rattle.respell.proofs.KeptLemmas.{opened-append}
use Rattle.reference_check.specs.Forms.{Form}
use Rattle.reference_check.specs.Forms as form
use Rattle.reference_check.specs.Steps.{next}
use Rattle.message_model.specs.Message.{Message}
use Rattle.message_model.specs.Tables.{Tables, message_of}
use Rattle.xml_instances.proofs.Accepts.{Comes, comes, no_fault, unless_in, if_else}
use Rattle.xml_instances.specs.Levels.{Level, Parent, Leaf, Envelope, Foreign, begun_level, with_char, levels_after, levels_over, form_of_start, round_start, path_in}
use Rattle.xml_instances.specs.EventFaults.{EventFault, AreFine, AttributeFault, place_fault, next_fault}
use Rattle.xml_instances.specs.XmlFaults.{items_told}
use Rattle.xml_instances.specs.Built.{Shown, nothing_shown, with_inside, with_begun, close_shown, closed_at, edge_of_start, CodeShown, ShowsBeside, EventShows, EventsShow}
use Rattle.xml_instances.specs.Keeping.{PiecesKept, IsBuilt, MayShow, MayShowName}
use Rattle.xml_instances.specs.Open.{StandsOpen}
use Rattle.xml_instances.specs.declared.content.OpenText.{OpenText}
use Rattle.xml_instances.specs.declared.opened.Opened.{Opened}
use Rattle.xml_instances.specs.declared.opened.Opened.TheVariants as opened

-- as many elements are open, and none in an envelope
abbrev NoneWithin : List (Level ℕ) → List Expanded → Type 0
NoneWithin [] [] = Unit {0}
NoneWithin (Parent f d ∷ ls) (n ∷ ns) = NoneWithin ls ns
NoneWithin (Leaf simple text ∷ ls) (n ∷ ns) = NoneWithin ls ns
NoneWithin (Envelope filled ∷ ls) (n ∷ ns) = NoneWithin ls ns
NoneWithin _ _ = ⊥

-- as many elements are open, and of those in an envelope, which are the innermost, these are the names
abbrev AreWithin : List (Level ℕ) → List Expanded → List Expanded → Type 0
AreWithin (Foreign ∷ ls) (n ∷ ns) inside = (more : List Expanded) × (inside ≡ n ∷ more) × AreWithin ls ns more
AreWithin (Foreign ∷ ls) [] inside = ⊥
AreWithin ls ns inside = (inside ≡ []) × NoneWithin ls ns

none_within : (ls : List (Level ℕ)) (ns : List Expanded) → NoneWithin ls ns → AreWithin ls ns []
none_within [] [] h = (refl, tt)
none_within [] (n ∷ ns) h = absurd h
none_within (l ∷ ls) [] h = absurd (nothing l h)
  where
    nothing : (l : Level ℕ) → NoneWithin (l ∷ ls) [] → ⊥
    nothing (Parent f d) h = h
    nothing (Leaf simple text) h = h
    nothing (Envelope filled) h = h
    nothing Foreign h = h
none_within (Parent f d ∷ ls) (n ∷ ns) h = (refl, h)
none_within (Leaf simple text ∷ ls) (n ∷ ns) h = (refl, h)
none_within (Envelope filled ∷ ls) (n ∷ ns) h = (refl, h)
none_within (Foreign ∷ ls) (n ∷ ns) h = absurd h

-- ---- what an event leaves of the events of an envelope's element

begun_inside : (o : Option Edge) (s : Shown) → (with_begun o s).inside ≡ s.inside
begun_inside None s = refl
begun_inside (Some e) s = refl

code_inside : (T : Tables) (f : Option (Form ℕ Simple)) (attributes : List Entry) (s t : Shown) → CodeShown T f attributes s t → t.inside ≡ s.inside
code_inside T None attributes s t h = ap (λ v. v.inside) h
code_inside T (Some (form.Sequence fs)) attributes s t h = ap (λ v. v.inside) h
code_inside T (Some (form.Choice fs)) attributes s t h = ap (λ v. v.inside) h
code_inside T (Some (form.Simple simple)) attributes s t h = ap (λ v. v.inside) h
code_inside T (Some (form.Money code number)) attributes s t (w, l, found, spelled, is) = ap (λ v. v.inside) is
code_inside T (Some form.Envelope) attributes s t h = ap (λ v. v.inside) h
code_inside T (Some form.LeftOut) attributes s t h = ap (λ v. v.inside) h
code_inside T (Some form.Missing) attributes s t h = ap (λ v. v.inside) h

start_inside : (T : Tables) (ls : List (Level ℕ)) (n : Expanded) (attributes : List Entry) (s t : Shown) → ShowsBeside T ls (Starts n attributes) s t → t.inside ≡ s.inside
start_inside T ls n attributes s t (u, begins, code) = code_inside T (form_of_start (message_of T) ls n) attributes u t code ∙ (ap (λ v. v.inside) begins ∙ begun_inside (edge_of_start s.edges ls n.local) s)

closed_inside : (es : List Edge) (s : Shown) → (closed_at es s).inside ≡ s.inside
closed_inside [] s = refl
closed_inside (e ∷ es) s = refl

ended_inside : (s t u : Shown) → t ≡ close_shown u → t.inside ≡ u.inside
ended_inside s t u e = ap (λ v. v.inside) e ∙ closed_inside u.edges u

-- ---- the names of those that are open

-- the names inside are the same
abbrev SameWithin : List (Level ℕ) → List Expanded → Shown → Shown → Type 0
SameWithin ls ns s t = t.inside ≡ s.inside → AreWithin ls ns (opened_by [] s.inside) → AreWithin ls ns (opened_by [] t.inside)

same_within : (ls : List (Level ℕ)) (ns : List Expanded) (s t : Shown) → SameWithin ls ns s t
same_within ls ns s t e h = subst (λ (is : List Item). AreWithin ls ns (opened_by [] is)) (sym e) h

one_inside : (s : Shown) (item : Item) → opened_by [] (s.inside ++ item ∷ []) ≡ open_after (opened_by [] s.inside) item
one_inside s item = opened-append [] s.inside (item ∷ [])

begun_within : (f : Form ℕ Simple) (ls : List (Level ℕ)) (n : Expanded) (ns inside : List Expanded) → inside ≡ [] → NoneWithin ls ns → AreWithin (begun_level f ∷ ls) (n ∷ ns) inside
begun_within (form.Sequence fs) ls n ns inside e h = (e, h)
begun_within (form.Choice fs) ls n ns inside e h = (e, h)
begun_within (form.Simple simple) ls n ns inside e h = (e, h)
begun_within (form.Money c simple) ls n ns inside e h = (e, h)
begun_within form.Envelope ls n ns inside e h = (e, h)
begun_within form.LeftOut ls n ns inside e h = (e, h)
begun_within form.Missing ls n ns inside e h = (e, h)

-- names inside where no element in an envelope is the innermost
ended_within : (ls : List (Level ℕ)) (ns : List Expanded) (t : Shown) → opened_by [] t.inside ≡ [] → NoneWithin ls ns → AreWithin ls ns (opened_by [] t.inside)
ended_within ls ns t e h = subst (λ (x : List Expanded). AreWithin ls ns x) (sym e) (none_within ls ns h)

within_start : (T : Tables) (ls : List (Level ℕ)) (n : Expanded) (attributes : List Entry) (s t : Shown) (ns : List Expanded) → EventFault (message_of T) ls (Starts n attributes) None → AreWithin ls ns (opened_by [] s.inside) → EventShows T ls (Starts n attributes) s t
    → AreWithin (levels_after (message_of T) ls (Starts n attributes)) (n ∷ ns) (opened_by [] t.inside)
within_start T [] n attributes s t ns fine h x = begun_within ((message_of T).forms (message_of T).root) [] n ns (opened_by [] t.inside) (ap (opened_by []) (start_inside T [] n attributes s t x) ∙ h.0) h.1
within_start T (Parent f d ∷ ls) n attributes s t [] fine h x = absurd h.1
within_start T (Parent f d ∷ ls) n attributes s t (p ∷ ns) fine h x =
    let m : Message ℕ = message_of T in
    let place : (bytes_eq n.namespace m.namespace ≡ true) × (next_fault (path_in ls) f (next f d n.local) ≡ None) =
    if_else _ _ _ (unless_in (place_fault m (Parent f d ∷ ls) n) (AttributeFault m (form_of_start m (Parent f d ∷ ls) n) attributes (path_in (round_start (Parent f d ∷ ls) n))) fine).0 in
    of_comes (comes (path_in ls) f d n.local place.1)
  where
    of_comes : Comes f d n.local → AreWithin (levels_after (message_of T) (Parent f d ∷ ls) (Starts n attributes)) (n ∷ p ∷ ns) (opened_by [] t.inside)
    of_comes (j, slot, found, tag, fine, slotted) = rw (slotted, found) (begun_within ((message_of T).forms slot.target) (Parent f (d ++ j ∷ []) ∷ ls) n (p ∷ ns) (opened_by [] t.inside) (ap (opened_by []) (start_inside T (Parent f d ∷ ls) n attributes s t x) ∙ h.0) h.1)
within_start T (Leaf simple text ∷ ls) n attributes s t ns fine h x = no_fault _ (sym fine)
within_start T (Envelope true ∷ ls) n attributes s t ns fine h x = no_fault _ (sym fine)
within_start T (Envelope false ∷ ls) n attributes s t ns fine h x =
    ([], ap (opened_by []) (start_inside T (Envelope false ∷ ls) n attributes (with_inside (Starts n attributes) s) t x) ∙ (one_inside s (Starts n attributes) ∙ ap (λ (l : List Expanded). n ∷ l) h.0), (refl, filled ns h.1))
  where
    filled : (ns : List Expanded) → NoneWithin (Envelope false ∷ ls) ns → NoneWithin (Envelope true ∷ ls) ns
    filled [] h = absurd h
    filled (p ∷ ns) h = h
within_start T (Foreign ∷ ls) n attributes s t ns fine h x =
    (opened_by [] s.inside, ap (opened_by []) (start_inside T (Foreign ∷ ls) n attributes (with_inside (Starts n attributes) s) t x) ∙ one_inside s (Starts n attributes), h)

within_end : (T : Tables) (l : Level ℕ) (ls : List (Level ℕ)) (n : Expanded) (s t : Shown) (ns : List Expanded) → AreWithin (l ∷ ls) ns (opened_by [] s.inside) → EventShows T (l ∷ ls) (Ends n) s t → AreWithin ls (drop 1 ns) (opened_by [] t.inside)
within_end T (Parent f d) ls n s t [] h x = absurd h.1
within_end T (Parent f d) ls n s t (p ∷ ns) h (u, leaf, end) = ended_within ls ns t (ap (opened_by []) (ended_inside s t u end ∙ ap (λ v. v.inside) leaf) ∙ h.0) h.1
within_end T (Leaf simple text) ls n s t [] h x = absurd h.1
within_end T (Leaf simple text) ls n s t (p ∷ ns) h (u, (l, gives, leaf), end) = ended_within ls ns t (ap (opened_by []) (ended_inside s t u end ∙ ap (λ v. v.inside) leaf) ∙ h.0) h.1
within_end T (Envelope has) ls n s t [] h x = absurd h.1
within_end T (Envelope has) ls n s t (p ∷ ns) h (u, (bytes, are, leaf), end) = ended_within ls ns t (ap (opened_by []) (ended_inside s t u end ∙ ap (λ v. v.inside) leaf)) h.1
within_end T Foreign ls n s t [] h x = absurd h
within_end T Foreign ls n s t (p ∷ ns) (more, e, h) (u, leaf, end) =
    subst (λ (x : List Expanded). AreWithin ls ns x) (sym (ap (λ v. opened_by [] v.inside) (end ∙ leaf) ∙ (one_inside s (Ends n) ∙ ap (λ (x : List Expanded). drop 1 x) e))) h

within_char : (T : Tables) (l : Level ℕ) (ls : List (Level ℕ)) (c : ℕ) (s t : Shown) (ns : List Expanded) → AreWithin (l ∷ ls) ns (opened_by [] s.inside) → EventShows T (l ∷ ls) (Char c) s t → AreWithin (with_char l c ∷ ls) ns (opened_by [] t.inside)
within_char T (Parent f d) ls c s t ns h x = same_within (Parent f d ∷ ls) ns s t (ap (λ v. v.inside) x) h
within_char T (Leaf simple text) ls c s t ns h x = taken ns (same_within (Leaf simple text ∷ ls) ns s t (ap (λ v. v.inside) x) h)
  where
    taken : (ns : List Expanded) → AreWithin (Leaf simple text ∷ ls) ns (opened_by [] t.inside) → AreWithin (Leaf simple (text ++ c ∷ []) ∷ ls) ns (opened_by [] t.inside)
    taken [] h = absurd h.1
    taken (p ∷ ns) h = h
within_char T (Envelope has) ls c s t ns h x = same_within (Envelope has ∷ ls) ns s t (ap (λ v. v.inside) x) h
within_char T Foreign ls c s t ns h x = subst (λ (y : List Expanded). AreWithin (Foreign ∷ ls) ns y) (sym (ap (λ v. opened_by [] v.inside) x ∙ one_inside s (Char c))) h

within_after : (T : Tables) (ls : List (Level ℕ)) (item : Item) (s t : Shown) (ns : List Expanded) → EventFault (message_of T) ls item None → AreWithin ls ns (opened_by [] s.inside) → EventShows T ls item s t
    → AreWithin (levels_after (message_of T) ls item) (open_after ns item) (opened_by [] t.inside)
within_after T ls (Starts n attributes) s t ns fine h x = within_start T ls n attributes s t ns fine h x
within_after T [] (Char c) s t ns fine h x = same_within [] ns s t (ap (λ v. v.inside) x) h
within_after T [] (Ends n) s t [] fine h x = same_within [] [] s t (ap (λ v. v.inside) x) h
within_after T [] (Ends n) s t (p ∷ ns) fine h x = absurd h.1
within_after T [] Skipped s t ns fine h x = same_within [] ns s t (ap (λ v. v.inside) x) h
within_after T (l ∷ ls) (Char c) s t ns fine h x = within_char T l ls c s t ns h x
within_after T (l ∷ ls) (Ends n) s t ns fine h x = within_end T l ls n s t ns h x
within_after T (l ∷ ls) Skipped s t ns fine h x = same_within (l ∷ ls) ns s t (ap (λ v. v.inside) (skipped l x)) h
  where
    skipped : (l : Level ℕ) → EventShows T (l ∷ ls) Skipped s t → t ≡ s
    skipped (Parent f d) x = x
    skipped (Leaf simple text) x = x
    skipped (Envelope has) x = x
    skipped Foreign x = x

within_over : (T : Tables) (ls : List (Level ℕ)) (told : List Placed) (s t : Shown) (ns : List Expanded) → AreFine (message_of T) ls (items_told told) → AreWithin ls ns (opened_by [] s.inside) → EventsShow T ls (items_told told) s t
    → AreWithin (levels_over (message_of T) ls (items_told told)) (open_behind ns told) (opened_by [] t.inside)
within_over T ls [] s t ns fine h x = same_within ls ns s t (ap (λ v. v.inside) x) h
within_over T ls (e ∷ es) s t ns fine h (u, x, more) = within_over T (levels_after (message_of T) ls e.item) es u t (open_after ns e.item) fine.1 (within_after T ls e.item s u ns fine.0 h x) more

-- the innermost element that is open inside is that which is open
innermost_within : (T : Tables) (text : Option OpenText) (round : List Opened) (ls : List (Level ℕ)) (ns inside : List Expanded) → StandsOpen (message_of T) text (Some opened.Foreign) round ls → AreWithin ls ns inside → innermost_namespace inside ≡ innermost_namespace ns
innermost_within T text round [] ns inside o h = absurd o
innermost_within T text round (Parent f d ∷ ls) ns inside o h = absurd o.0
innermost_within T text round (Leaf simple t ∷ ls) ns inside o h = absurd o.0
innermost_within T text round (Envelope has ∷ ls) ns inside o h = absurd o.0
innermost_within T text round (Foreign ∷ ls) [] inside o h = absurd h
innermost_within T text round (Foreign ∷ ls) (n ∷ ns) inside o (more, e, h) = ap innermost_namespace e

-- a name in the namespace of the innermost element, behind events that break no rule
pub may_show_name : (T : Tables) (told : List Placed) (local : List ℕ) (text : Option OpenText) (round : List Opened) (o : Option Opened) (p : Option PiecesKept) → AreFine (message_of T) [] (items_told told) → StandsOpen (message_of T) text o round (levels_over (message_of T) [] (items_told told))
    → IsBuilt p T (items_told told) → MayShow p o → MayShowName p o (name_behind told local)
may_show_name T told local text round o None fine h built may = tt
may_show_name T told local text round None (Some p) fine h built may = tt
may_show_name T told local text round (Some opened.Text) (Some p) fine h built may = tt
may_show_name T told local text round (Some (opened.Parent n last count)) (Some p) fine h built may = tt
may_show_name T told local text round (Some (opened.Envelope filled)) (Some p) fine h built may = may
may_show_name T told local text round (Some opened.Foreign) (Some p) fine h (s, shows, kept) may =
    subst (λ (x : List ℕ). IsInDefault p.element x) (innermost_within T text round (levels_over (message_of T) [] (items_told told)) (open_behind [] told) (opened_by [] s.inside) h (within_over T [] told nothing_shown s [] fine (refl, tt) shows)) (may s kept)
