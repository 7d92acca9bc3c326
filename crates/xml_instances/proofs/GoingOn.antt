-- Pieces that are kept, from one step to the next.
use Rattle.std.proofs.Common.{◌≡◌, ℕ, Bool, true, List, [], ◌∷◌, ◌++◌, Option, Some, None, refl, sym, ap, ◌∙◌, subst, append_assoc, append-nil}
use Rattle.std.specs.Prelude.{Result, Ok, Err, OnOk, map}
use Rattle.std.specs.Str.{bytes_eq, chars}
use Rattle.std.proofs.lemmas.Result.{on_ok_weaker}
use Rattle.lexical_core.specs.Tree.{Expanded, Entry, Item, Starts, Char, Ends}
use Rattle.lexical_core.specs.declared.rule.Rule.{Rule}
use Rattle.lexical_core.specs.Names.{attribute_value}
use Rattle.facets.specs.LeafUnder.{GivesLeaf}
use Rattle.facets.specs.declared.simple.Simple.{Simple}
use Rattle.markup.specs.PlainTags.{tag_items}
use Rattle.markup.specs.declared.plain_tag.TagKind.{TagKind}
use Rattle.markup.specs.declared.plain_tag.TagKind.TheVariants.{Start, Empty, End}
use Rattle.reference_check.specs.Forms.{Graph, Form, text_type}
use Rattle.reference_check.specs.Forms as form
use Rattle.reference_check.specs.Steps.{next}
use Rattle.message_model.specs.Message.{Message}
use Rattle.message_model.specs.Tables.{Tables, message_of, types_of}
use Rattle.message_model.specs.Writes.{name_in_namespace, currency, SpellsCode}
use Rattle.xml_instances.specs.Levels.{Level, Parent, Leaf, Envelope, Foreign, begun_level, levels_after, levels_over, form_of_start, round_start, path_in}
use Rattle.xml_instances.specs.EventFaults.{EventFault, AreFine, AttributeFault, place_fault, next_fault}
use Rattle.xml_instances.specs.Built.{Shown, nothing_shown, with_event, with_inside, TextShown, CurrencyShown, CodeShown, LeafShown, EndShown, StartShown, ShowsBeside, EventShows, EventsShow}
use Rattle.xml_instances.specs.Keeping.{PiecesKept, GoOn, KeepsSomeShown, IsBuilt, MayShowName, TagShowsBeside, with_all_inside, with_events}
use Rattle.xml_instances.specs.Open.{StandsOpen, StandsFor, HoldsText, IsOpen, IsCodeForm, form_at, AreMade, AreKept, IsTextMade, IsTextInnermost}
use Rattle.xml_instances.specs.inner.Quick.{AreItemsTaken}
use Rattle.xml_instances.specs.declared.opened.Refusal.{Refusal}
use Rattle.xml_instances.specs.declared.spare.Checks.{Checks}
use Rattle.xml_instances.specs.declared.content.Content.{Content}
use Rattle.xml_instances.specs.declared.content.OpenText.{OpenText}
use Rattle.xml_instances.specs.declared.opened.Opened.{Opened}
use Rattle.xml_instances.specs.declared.opened.Opened.TheVariants as opened
use Rattle.xml_instances.proofs.Accepts.{Comes, comes, no_fault, unless_in, if_else}

-- the innermost element is none in an envelope
abbrev pub IsNoForeign : Option Opened → Type 0
IsNoForeign (Some opened.Foreign) = ⊥
IsNoForeign o = Unit {0}

-- one step after another
pub go_then : {Q R S : Shown → Shown → Type 0} (a b c : Option PiecesKept) → ((s u t : Shown) → R s u → S u t → Q s t) → GoOn a b R → GoOn b c S → GoOn a c Q
go_then None None None join f g = tt
go_then (Some p) (Some q) (Some r) join f g = λ s h.
    let x = f s h in
    let y = g x.0 x.2 in
    (y.0, join s x.0 y.0 x.1 y.1, y.2)
go_then None None (Some r) join f g = absurd g
go_then None (Some q) c join f g = absurd f
go_then (Some p) None c join f g = absurd f
go_then (Some p) (Some q) None join f g = absurd g

pub go_as : {R S : Shown → Shown → Type 0} (a b : Option PiecesKept) → ((s t : Shown) → R s t → S s t) → GoOn a b R → GoOn a b S
go_as None None as_ f = tt
go_as (Some p) (Some q) as_ f = λ s h. (let x = f s h in (x.0, as_ s x.0 x.1, x.2))
go_as None (Some q) as_ f = absurd f
go_as (Some p) None as_ f = absurd f

pub go_still : (a b : Option PiecesKept) → b ≡ a → GoOn a b (λ s t. t ≡ s)
go_still a b e = subst (λ (x : Option PiecesKept). GoOn a x (λ s t. t ≡ s)) (sym e) (same a)
  where
    same : (a : Option PiecesKept) → GoOn a a (λ s t. t ≡ s)
    same None = tt
    same (Some p) = λ s h. (s, refl, h)

-- ---- the end of an element

pub text_leaf : {T E : Type 0} (m : Message ℕ) (text : Option OpenText) (o : Option Opened) (e : Opened) (l : Level ℕ) (r : Result T E) (a b : Option PiecesKept) → o ≡ Some opened.Text → o ≡ Some e → StandsFor m text e l
    → ((simple : Simple) (t : List ℕ) → HoldsText m text simple t → OnOk r (GoOn a b (TextShown simple t))) → OnOk r (GoOn a b (LeafShown l))
text_leaf {T} {E} m text o e l r a b is same h k = go l (subst (λ (x : Opened). StandsFor m text x l) (let q : Some e ≡ Some opened.Text = sym same ∙ is in let q2 : e ≡ opened.Text = cc in q2) h)
  where
    go : (l : Level ℕ) → StandsFor m text opened.Text l → OnOk r (GoOn a b (LeafShown l))
    go (Leaf simple t) h = k simple t h
    go (Parent f d) h = absurd h
    go (Envelope has) h = absurd h
    go Foreign h = absurd h

pub text_shown : {T E : Type 0} (simple other : Simple) (text : List ℕ) (rule : Option Rule) (r : Result T E) (a b : Option PiecesKept) → other ≡ simple → OnOk r (rule ≡ None) → (rule ≡ None → GoOn a b (TextShown other text)) → OnOk r (GoOn a b (TextShown simple text))
text_shown simple other text rule r a b same ok shown = on_ok_weaker r (λ none. subst (λ (x : Simple). GoOn a b (TextShown x text)) same (shown none)) ok

pub end_shown : (T : Tables) (ls : List (Level ℕ)) (n : Expanded) (o : Option Opened) (text : Option OpenText) (round : List Opened) (a b : Option PiecesKept) → StandsOpen (message_of T) text o round ls
    → (o ≡ None → b ≡ a) → ((l : Level ℕ) (e : Opened) → o ≡ Some e → StandsFor (message_of T) text e l → GoOn a b (EndShown l)) → GoOn a b (ShowsBeside T ls (Ends n))
end_shown T [] n None text round a b h out ends = go_still a b (out refl)
end_shown T [] n (Some e) text round a b h out ends = absurd h
end_shown T (l ∷ ls) n None text round a b h out ends = absurd h
end_shown T (l ∷ ls) n (Some e) text round a b h out ends = ends l e refl h.0

-- ---- the start of one

pub start_shown : {T E : Type 0} (tables : Tables) (ls : List (Level ℕ)) (n : Expanded) (attributes : List Entry) (type : Option ℕ) (a b c : Option PiecesKept) (r : Result T E) → form_of_start (message_of tables) ls n ≡ form_at (message_of tables) type
    → GoOn a b (StartShown ls n.local) → OnOk r (GoOn b c (CodeShown tables (form_at (message_of tables) type) attributes)) → OnOk r (GoOn a c (ShowsBeside tables ls (Starts n attributes)))
start_shown tables ls n attributes type a b c r is first = on_ok_weaker r (λ then_.
    go_then {Q = ShowsBeside tables ls (Starts n attributes)} {R = StartShown ls n.local} {S = CodeShown tables (form_at (message_of tables) type) attributes} a b c
    (λ s u t x y. (u, x, subst (λ (f : Option (Form ℕ Simple)). CodeShown tables f attributes u t) (sym is) y)) first then_)

pub start_shown_at : {T E : Type 0} (tables : Tables) (ls : List (Level ℕ)) (a b : Option PiecesKept) (r : Result T E) (ns space local tag : List ℕ) (attributes more : List Entry) → ns ≡ space → local ≡ tag → attributes ≡ more
    → OnOk r (GoOn a b (ShowsBeside tables ls (Starts (name_in_namespace ns local) attributes))) → OnOk r (GoOn a b (ShowsBeside tables ls (Starts (name_in_namespace space tag) more)))
start_shown_at tables ls a b r ns space local tag attributes more e f g h =
    subst (λ (x : List ℕ). OnOk r (GoOn a b (ShowsBeside tables ls (Starts (name_in_namespace x tag) more)))) e
    (subst (λ (x : List ℕ). OnOk r (GoOn a b (ShowsBeside tables ls (Starts (name_in_namespace ns x) more)))) f
    (subst (λ (x : List Entry). OnOk r (GoOn a b (ShowsBeside tables ls (Starts (name_in_namespace ns local) x)))) g h))

pub currency_shown : {T E : Type 0} (f : Form ℕ Simple) (simple : Simple) (value : List ℕ) (attributes : List Entry) (rule : Option Rule) (r : Result T E) (a b : Option PiecesKept) → IsCodeForm f → Some simple ≡ text_type f → Some value ≡ attribute_value currency attributes
    → OnOk r (rule ≡ None) → (rule ≡ None → GoOn a b (TextShown simple (chars value))) → OnOk r (GoOn a b (CurrencyShown f attributes))
currency_shown f simple value attributes rule r a b (s, code) e found ok shown = on_ok_weaker r (λ none.
    go_as {R = TextShown simple (chars value)} {S = CurrencyShown f attributes} a b
    (λ x y (l, gives, is). (value, l, sym found, subst (λ (g : Form ℕ Simple). SpellsCode g (chars value) l) (sym code) (subst (λ (z : Simple). GivesLeaf z (chars value) l) same gives), is)) (shown none)) ok
  where
    same : simple ≡ s
    same = (let k : Some simple ≡ Some s = e ∙ ap text_type code in cc)

pub code_of_form : {T E : Type 0} (tables : Tables) (f : Form ℕ Simple) (code : ℕ) (number : Simple) (attributes : List Entry) (a b : Option PiecesKept) (r : Result T E) → f ≡ form.Money code number
    → OnOk r (GoOn a b (CurrencyShown (types_of tables code) attributes)) → OnOk r (GoOn a b (CodeShown tables (Some f) attributes))
code_of_form tables f code number attributes a b r is h = subst (λ (g : Form ℕ Simple). OnOk r (GoOn a b (CodeShown tables (Some g) attributes))) (sym is) h

-- ---- an element without content

begun_ends : (f : Form ℕ Simple) (ls : List (Level ℕ)) (n : Expanded) (s : Shown) → with_event (begun_level f ∷ ls) (Ends n) s ≡ s
begun_ends (form.Sequence fs) ls n s = refl
begun_ends (form.Choice fs) ls n s = refl
begun_ends (form.Simple simple) ls n s = refl
begun_ends (form.Money c simple) ls n s = refl
begun_ends form.Envelope ls n s = refl
begun_ends form.LeftOut ls n s = refl
begun_ends form.Missing ls n s = refl

-- the innermost element is neither an envelope nor in one
abbrev pub IsBeside : List (Level ℕ) → Type 0
IsBeside [] = Unit {0}
IsBeside (Parent f d ∷ ls) = Unit {0}
IsBeside (Leaf simple t ∷ ls) = Unit {0}
IsBeside (Envelope has ∷ ls) = ⊥
IsBeside (Foreign ∷ ls) = ⊥

pub beside_event : (ls : List (Level ℕ)) (item : Item) (s : Shown) → IsBeside ls → with_event ls item s ≡ s
beside_event [] item s h = refl
beside_event (Parent f d ∷ ls) item s h = refl
beside_event (Leaf simple t ∷ ls) item s h = refl
beside_event (Envelope has ∷ ls) item s h = absurd h
beside_event (Foreign ∷ ls) item s h = absurd h

beside_events : (ls : List (Level ℕ)) (items : List Item) (s : Shown) → IsBeside ls → with_events ls items s ≡ s
beside_events [] items s h = refl
beside_events (Parent f d ∷ ls) items s h = refl
beside_events (Leaf simple t ∷ ls) items s h = refl
beside_events (Envelope has ∷ ls) items s h = absurd h
beside_events (Foreign ∷ ls) items s h = absurd h

-- behind a start that breaks no rule the end of the element is none of the element of an envelope
pub end_behind : (m : Message ℕ) (ls : List (Level ℕ)) (n : Expanded) (attributes : List Entry) (k : Expanded) (s : Shown) → IsBeside ls → EventFault m ls (Starts n attributes) None → with_event (levels_after m ls (Starts n attributes)) (Ends k) s ≡ s
end_behind m [] n attributes k s h fine = begun_ends (m.forms m.root) [] k s
end_behind m (Parent f d ∷ ls) n attributes k s h fine =
    let place : (bytes_eq n.namespace m.namespace ≡ true) × (next_fault (path_in ls) f (next f d n.local) ≡ None) =
    if_else _ _ _ (unless_in (place_fault m (Parent f d ∷ ls) n) (AttributeFault m (form_of_start m (Parent f d ∷ ls) n) attributes (path_in (round_start (Parent f d ∷ ls) n))) fine).0 in
    of_comes (comes (path_in ls) f d n.local place.1)
  where
    of_comes : Comes f d n.local → with_event (levels_after m (Parent f d ∷ ls) (Starts n attributes)) (Ends k) s ≡ s
    of_comes (j, slot, found, tag, fine, slotted) = rw (slotted, found) (begun_ends (m.forms slot.target) _ k s)
end_behind m (Leaf simple t ∷ ls) n attributes k s h fine = no_fault _ (sym fine)
end_behind m (Envelope has ∷ ls) n attributes k s h fine = absurd h
end_behind m (Foreign ∷ ls) n attributes k s h fine = absurd h

-- ---- a tag

beside_tag : (T : Tables) (ls : List (Level ℕ)) (kind : TagKind) (n : Expanded) (s t : Shown) → IsBeside ls → AreFine (message_of T) ls (tag_items kind n) → TagShowsBeside T ls kind n s t → EventsShow T ls (tag_items kind n) s t
beside_tag T ls Start n s t h fine x = (t, subst (λ (y : Shown). ShowsBeside T ls (Starts n []) y t) (sym (beside_event ls (Starts n []) s h)) x, refl)
beside_tag T ls End n s t h fine x = (t, subst (λ (y : Shown). ShowsBeside T ls (Ends n) y t) (sym (beside_event ls (Ends n) s h)) x, refl)
beside_tag T ls Empty n s t h fine (u, x, y) = (
  u,
  subst (λ (z : Shown). ShowsBeside T ls (Starts n []) z u) (sym (beside_event ls (Starts n []) s h)) x,
  (t, subst (λ (z : Shown). ShowsBeside T (levels_after (message_of T) ls (Starts n [])) (Ends n) z t) (sym (end_behind (message_of T) ls n [] n u h fine.0)) y, refl),
)

foreign_tag : (T : Tables) (ls : List (Level ℕ)) (kind : TagKind) (n : Expanded) (s u t : Shown) → u ≡ with_all_inside (tag_items kind n) s → TagShowsBeside T (Foreign ∷ ls) kind n u t → EventsShow T (Foreign ∷ ls) (tag_items kind n) s t
foreign_tag T ls Start n s u t e x = (t, subst (λ (y : Shown). ShowsBeside T (Foreign ∷ ls) (Starts n []) y t) e x, refl)
foreign_tag T ls End n s u t e x = (t, subst (λ (y : Shown). ShowsBeside T (Foreign ∷ ls) (Ends n) y t) e x, refl)
foreign_tag T ls Empty n s u t e (v, (a, x1, x2), (b, y1, y2)) = (
  with_inside (Starts n []) s,
  (with_inside (Starts n []) s, refl, refl),
  (
    with_inside (Ends n) (with_inside (Starts n []) s),
    (with_inside (Ends n) (with_inside (Starts n []) s), refl, refl),
    y2 ∙ (y1 ∙ (x2 ∙ (x1 ∙ (e ∙ ap (λ (is : List Item). record { edges = s.edges; inside = is; pieces = s.pieces }) (sym (append_assoc s.inside (Starts n [] ∷ []) (Ends n ∷ []))))))),
  ),
)

tag_shown : (T : Tables) (ls : List (Level ℕ)) (kind : TagKind) (n : Expanded) (o : Option Opened) (text : Option OpenText) (round : List Opened) (p : PiecesKept) (s u t : Shown) → StandsOpen (message_of T) text o round ls → MayShowName (Some p) o n
    → AreFine (message_of T) ls (tag_items kind n) → u ≡ with_events ls (tag_items kind n) s → TagShowsBeside T ls kind n u t → EventsShow T ls (tag_items kind n) s t
tag_shown T ls kind n o text round p s u t h may fine e x = by ls o h may fine e x
  where
    beside : (ls : List (Level ℕ)) → IsBeside ls → AreFine (message_of T) ls (tag_items kind n) → u ≡ with_events ls (tag_items kind n) s → TagShowsBeside T ls kind n u t → EventsShow T ls (tag_items kind n) s t
    beside ls b fine e x = beside_tag T ls kind n s t b fine (subst (λ (y : Shown). TagShowsBeside T ls kind n y t) (e ∙ beside_events ls (tag_items kind n) s b) x)

    envelope : (e : Opened) (has : Bool) → StandsFor (message_of T) text e (Envelope has) → MayShowName (Some p) (Some e) n → ⊥
    envelope (opened.Envelope filled) has h may = may
    envelope opened.Foreign has h may = h
    envelope opened.Text has h may = h
    envelope (opened.Parent x last count) has h may = h

    by : (ls : List (Level ℕ)) (o : Option Opened) → StandsOpen (message_of T) text o round ls → MayShowName (Some p) o n → AreFine (message_of T) ls (tag_items kind n) → u ≡ with_events ls (tag_items kind n) s → TagShowsBeside T ls kind n u t
        → EventsShow T ls (tag_items kind n) s t
    by [] o h may fine e x = beside [] tt fine e x
    by (Parent f d ∷ ls) o h may fine e x = beside (Parent f d ∷ ls) tt fine e x
    by (Leaf simple w ∷ ls) o h may fine e x = beside (Leaf simple w ∷ ls) tt fine e x
    by (Envelope has ∷ ls) None h may fine e x = absurd h
    by (Envelope has ∷ ls) (Some k) h may fine e x = absurd (envelope k has h.0 may)
    by (Foreign ∷ ls) o h may fine e x = foreign_tag T ls kind n s u t e x

-- a tag whose events are kept first
pub tag_goes_on : (T : Tables) (ls : List (Level ℕ)) (kind : TagKind) (n : Expanded) (o : Option Opened) (text : Option OpenText) (round : List Opened) (a b c : Option PiecesKept) → StandsOpen (message_of T) text o round ls → MayShowName a o n
    → AreFine (message_of T) ls (tag_items kind n) → GoOn a b (λ s u. u ≡ with_events ls (tag_items kind n) s) → GoOn b c (TagShowsBeside T ls kind n) → GoOn a c (EventsShow T ls (tag_items kind n))
tag_goes_on T ls kind n o text round None None None h may fine f g = tt
tag_goes_on T ls kind n o text round None None (Some r) h may fine f g = absurd g
tag_goes_on T ls kind n o text round None (Some q) c h may fine f g = absurd f
tag_goes_on T ls kind n o text round (Some p) b c h may fine f g =
    go_then {Q = EventsShow T ls (tag_items kind n)} {R = λ s u. u ≡ with_events ls (tag_items kind n) s} {S = TagShowsBeside T ls kind n} (Some p) b c (λ s u t e x. tag_shown T ls kind n o text round p s u t h may fine e x) f g

pub tag_held : (T : Tables) (ls : List (Level ℕ)) (kind : TagKind) (n : Expanded) (o : Option Opened) (text : Option OpenText) (round : List Opened) (a b : Option PiecesKept) (new : Content) (r : Result (Unit {0}) Refusal) → StandsOpen (message_of T) text o round ls → MayShowName a o n
    → GoOn a b (λ s u. u ≡ with_events ls (tag_items kind n) s) → AreItemsTaken (message_of T) ls (tag_items kind n) new r → OnOk r (GoOn b new.pieces (TagShowsBeside T ls kind n)) → OnOk r (GoOn a new.pieces (EventsShow T ls (tag_items kind n)))
tag_held T ls kind n o text round a b new (Ok x) h may f taken g = tag_goes_on T ls kind n o text round a b new.pieces h may taken.0 f g
tag_held T ls kind n o text round a b new (Err e) h may f taken g = tt

-- the events of a tag in an envelope are kept, of another none
pub tag_kept : (m : Message ℕ) (ls : List (Level ℕ)) (items : List Item) (o : Option Opened) (text : Option OpenText) (round : List Opened) (a b : Option PiecesKept) → StandsOpen m text o round ls → o ≡ Some opened.Foreign → GoOn a b (λ s t. t ≡ with_all_inside items s)
    → GoOn a b (λ s t. t ≡ with_events ls items s)
tag_kept m ls items o text round a b h is go = by ls (subst (λ (x : Option Opened). StandsOpen m text x round ls) is h)
  where
    by : (ls : List (Level ℕ)) → StandsOpen m text (Some opened.Foreign) round ls → GoOn a b (λ s t. t ≡ with_events ls items s)
    by [] h = absurd h
    by (Foreign ∷ ls) h = go
    by (Parent f d ∷ ls) h = absurd h.0
    by (Leaf simple t ∷ ls) h = absurd h.0
    by (Envelope has ∷ ls) h = absurd h.0

-- ---- characters

-- a run of characters beside the elements in an envelope shows nothing
run_shown : (T : Tables) (ls : List (Level ℕ)) (cs : List ℕ) (o : Option Opened) (text : Option OpenText) (round : List Opened) (s : Shown) → StandsOpen (message_of T) text o round ls → IsNoForeign o → EventsShow T ls (map (λ c. Char c) cs) s s
run_shown T ls cs o text round s h may = by o ls h may
  where
    none : (cs : List ℕ) → EventsShow T [] (map (λ c. Char c) cs) s s
    none [] = refl
    none (c ∷ cs) = (s, refl, none cs)

    parent : (f : Form ℕ Simple) (d : List ℕ) (ls : List (Level ℕ)) (cs : List ℕ) → EventsShow T (Parent f d ∷ ls) (map (λ c. Char c) cs) s s
    parent f d ls [] = refl
    parent f d ls (c ∷ cs) = (s, refl, parent f d ls cs)

    envelope : (has : Bool) (ls : List (Level ℕ)) (cs : List ℕ) → EventsShow T (Envelope has ∷ ls) (map (λ c. Char c) cs) s s
    envelope has ls [] = refl
    envelope has ls (c ∷ cs) = (s, refl, envelope has ls cs)

    in_text : (simple : Simple) (t : List ℕ) (ls : List (Level ℕ)) (cs : List ℕ) → EventsShow T (Leaf simple t ∷ ls) (map (λ c. Char c) cs) s s
    in_text simple t ls [] = refl
    in_text simple t ls (c ∷ cs) = (s, refl, in_text simple (t ++ c ∷ []) ls cs)

    at : (e : Opened) (l : Level ℕ) (ls : List (Level ℕ)) → StandsFor (message_of T) text e l → IsNoForeign (Some e) → EventsShow T (l ∷ ls) (map (λ c. Char c) cs) s s
    at e (Parent f d) ls h may = parent f d ls cs
    at e (Envelope has) ls h may = envelope has ls cs
    at e (Leaf simple t) ls h may = in_text simple t ls cs
    at opened.Foreign Foreign ls h may = absurd may
    at opened.Text Foreign ls h may = absurd h
    at (opened.Envelope filled) Foreign ls h may = absurd h
    at (opened.Parent n last count) Foreign ls h may = absurd h

    by : (o : Option Opened) (ls : List (Level ℕ)) → StandsOpen (message_of T) text o round ls → IsNoForeign o → EventsShow T ls (map (λ c. Char c) cs) s s
    by None [] h may = none cs
    by None (l ∷ ls) h may = absurd h
    by (Some e) [] h may = absurd h
    by (Some e) (l ∷ ls) h may = at e l ls h.0 may

-- ---- the content as it stands, where only pieces changed

pub open_same : (m : Message ℕ) (old new : Content) (ls : List (Level ℕ)) → new.text ≡ old.text → new.innermost ≡ old.innermost → new.round ≡ old.round → IsOpen old m ls → IsOpen new m ls
open_same m old new ls t i r h =
    subst (λ (x : Option OpenText). StandsOpen m x new.innermost new.round.items ls) (sym t)
    (subst (λ (x : Option Opened). StandsOpen m old.text x new.round.items ls) (sym i) (subst (λ (x : List Opened). StandsOpen m old.text old.innermost x ls) (sym (ap (λ v. v.items) r)) h))

-- ---- several events

pub shown_joined : (T : Tables) (ls : List (Level ℕ)) (a b : List Item) (s u t : Shown) → EventsShow T ls a s u → EventsShow T (levels_over (message_of T) ls a) b u t → EventsShow T ls (a ++ b) s t
shown_joined T ls [] b s u t h k = subst (λ (x : Shown). EventsShow T ls b x t) h k
shown_joined T ls (item ∷ a) b s u t (v, x, h) k = (v, x, shown_joined T (levels_after (message_of T) ls item) a b v u t h k)

pub go_on : (T : Tables) (ls : List (Level ℕ)) (before more : List Item) (a b c : Option PiecesKept) → GoOn a b (EventsShow T ls before) → GoOn b c (EventsShow T (levels_over (message_of T) ls before) more) → GoOn a c (EventsShow T ls (before ++ more))
go_on T ls before more a b c f g =
    go_then {Q = EventsShow T ls (before ++ more)} {R = EventsShow T ls before} {S = EventsShow T (levels_over (message_of T) ls before) more} a b c (λ s u t x y. shown_joined T ls before more s u t x y) f g

-- one event more
pub go_one : (T : Tables) (ls : List (Level ℕ)) (item : Item) (a b : Option PiecesKept) → GoOn a b (EventShows T ls item) → GoOn a b (EventsShow T ls (item ∷ []))
go_one T ls item a b f = go_as {R = EventShows T ls item} {S = EventsShow T ls (item ∷ [])} a b (λ s t x. (t, x, refl)) f

pub built_on : (T : Tables) (before more : List Item) (a b : Option PiecesKept) → IsBuilt a T before → GoOn a b (EventsShow T (levels_over (message_of T) [] before) more) → IsBuilt b T (before ++ more)
built_on T before more None None h go = tt
built_on T before more None (Some q) h go = absurd go
built_on T before more (Some p) None h go = absurd go
built_on T before more (Some p) (Some q) (s, shows, kept) go = (let x = go s kept in (x.0, shown_joined T [] before more nothing_shown s x.0 shows x.1, x.2))

pub built_still : (T : Tables) (items : List Item) (a b : Option PiecesKept) → b ≡ a → IsBuilt a T items → IsBuilt b T items
built_still T items a b e h = subst (λ (x : Option PiecesKept). IsBuilt x T items) (sym e) h

-- a run of characters
pub run_goes_on : (T : Tables) (ls : List (Level ℕ)) (cs : List ℕ) (o : Option Opened) (text : Option OpenText) (round : List Opened) (a b : Option PiecesKept) → b ≡ a → StandsOpen (message_of T) text o round ls → IsNoForeign o → GoOn a b (EventsShow T ls (map (λ c. Char c) cs))
run_goes_on T ls cs o text round a b e h may = subst (λ (x : Option PiecesKept). GoOn a x (EventsShow T ls (map (λ c. Char c) cs))) (sym e) (by a)
  where
    by : (a : Option PiecesKept) → GoOn a a (EventsShow T ls (map (λ c. Char c) cs))
    by None = tt
    by (Some p) = λ s k. (s, run_shown T ls cs o text round s h may, k)

-- in an element in an envelope it is kept
foreign_run : (T : Tables) (ls : List (Level ℕ)) (cs : List ℕ) (s : Shown) → EventsShow T (Foreign ∷ ls) (map (λ c. Char c) cs) s (with_all_inside (map (λ c. Char c) cs) s)
foreign_run T ls [] s = ap (λ (is : List Item). record { edges = s.edges; inside = is; pieces = s.pieces }) (append-nil s.inside)
foreign_run T ls (c ∷ cs) s = (
  with_inside (Char c) s,
  refl,
  subst (λ (is : List Item). EventsShow T (Foreign ∷ ls) (map (λ c. Char c) cs) (with_inside (Char c) s) (record { edges = s.edges; inside = is; pieces = s.pieces })) (append_assoc s.inside (Char c ∷ []) (map (λ c. Char c) cs)) (foreign_run T ls cs (with_inside (Char c) s)),
)

pub run_kept : (T : Tables) (ls : List (Level ℕ)) (cs : List ℕ) (o : Option Opened) (text : Option OpenText) (round : List Opened) (a b : Option PiecesKept) → StandsOpen (message_of T) text o round ls → o ≡ Some opened.Foreign → GoOn a b (λ s t. t ≡ with_all_inside (map (λ c. Char c) cs) s)
    → GoOn a b (EventsShow T ls (map (λ c. Char c) cs))
run_kept T ls cs o text round a b h is go = by ls (subst (λ (x : Option Opened). StandsOpen (message_of T) text x round ls) is h)
  where
    by : (ls : List (Level ℕ)) → StandsOpen (message_of T) text (Some opened.Foreign) round ls → GoOn a b (EventsShow T ls (map (λ c. Char c) cs))
    by [] h = absurd h
    by (Foreign ∷ ls) h = go_as {R = λ s t. t ≡ with_all_inside (map (λ c. Char c) cs) s} {S = EventsShow T (Foreign ∷ ls) (map (λ c. Char c) cs)} a b
        (λ s t e. subst (λ (x : Shown). EventsShow T (Foreign ∷ ls) (map (λ c. Char c) cs) s x) (sym e) (foreign_run T ls cs s)) go
    by (Parent f d ∷ ls) h = absurd h.0
    by (Leaf simple t ∷ ls) h = absurd h.0
    by (Envelope has ∷ ls) h = absurd h.0

-- pieces are kept from the start
pub built_first : (T : Tables) (a : Option PiecesKept) → KeepsSomeShown a nothing_shown → IsBuilt a T []
built_first T None h = absurd h
built_first T (Some p) h = (nothing_shown, refl, h)

pub made_same : (types : Graph ℕ Simple) (old new : Content) → new.checks ≡ old.checks → new.text ≡ old.text → new.innermost ≡ old.innermost → AreMade types old → AreMade types new
made_same types old new c t i h = record {
  kept = subst (λ (x : Checks). AreKept types x) (sym c) h.kept;
  text = subst (λ (x : Option OpenText). IsTextMade types x) (sym t) h.text;
  innermost = subst (λ (x : Option Opened). IsTextInnermost x new.text) (sym i) (subst (λ (x : Option OpenText). IsTextInnermost old.innermost x) (sym t) h.innermost);
}
