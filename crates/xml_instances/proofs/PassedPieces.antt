-- Tags that break no rule, where pieces are kept.
use Rattle.std.proofs.Common.{◌≡◌, ℕ, Bool, true, false, List, [], ◌∷◌, Option, Some, refl, sym, ap, ◌∙◌, subst}
use Rattle.std.specs.Prelude.{Result, Ok, Err, IfOk}
use Rattle.lexical_core.specs.Tree.{Expanded, Item, Starts, Ends}
use Rattle.data_types.specs.Value.{Edge}
use Rattle.facets.specs.declared.simple.Simple.{Simple}
use Rattle.reference_check.specs.Forms.{Form}
use Rattle.reference_check.specs.Forms as form
use Rattle.reference_check.specs.Steps.{Came, EndsWith, Slotted, next}
use Rattle.message_model.specs.Tables.{Tables, message_of, types_of}
use Rattle.xml_instances.specs.Levels.{Level, Parent, Leaf, Envelope, Foreign, form_by}
use Rattle.xml_instances.specs.EventFaults.{has_currency}
use Rattle.xml_instances.specs.Built.{Shown, type_at, edge_by, with_begun, with_end, CodeShown, TextShown, EventShows, EventsShow}
use Rattle.xml_instances.specs.Keeping.{PiecesKept, GoOn}
use Rattle.xml_instances.specs.Open.{StandsOpen, StandsFor, HoldsText}
use Rattle.xml_instances.specs.inner.Quick.{IsTargetOf}
use Rattle.xml_instances.specs.declared.content.OpenText.{OpenText}
use Rattle.xml_instances.specs.declared.opened.Opened.{Opened}
use Rattle.xml_instances.specs.declared.opened.Opened.TheVariants as opened
use Rattle.xml_instances.proofs.GoingOn.{go_as, go_then, go_one}

-- an element that wants no currency shows none
no_code : (T : Tables) (f : Form ℕ Simple) (s : Shown) → has_currency f ≡ false → CodeShown T (Some f) [] s s
no_code T (form.Sequence slots) s e = refl
no_code T (form.Choice slots) s e = refl
no_code T (form.Simple simple) s e = refl
no_code T (form.Money code number) s e = (let h : true ≡ false = e in cc)
no_code T form.Envelope s e = refl
no_code T form.Missing s e = refl
no_code T form.LeftOut s e = refl

begins : (T : Tables) (ls : List (Level ℕ)) (d : List ℕ) (n : Expanded) (local : List ℕ) (number k target : ℕ) (s t : Shown) → n.local ≡ local → next (types_of T number) d local ≡ Slotted k → IsTargetOf (types_of T) number k target
    → t ≡ with_begun (Some (record { slot = k; target = target; parent = type_at s.edges })) s → EventShows T (Parent (types_of T number) d ∷ ls) (Starts n []) s t
begins T ls d n local number k target s t e comes (slot, found, aim, none) q = (t, q ∙ ap (λ (x : Option Edge). with_begun x s) edge, code)
  where
    edge : Some (record { slot = k; target = target; parent = type_at s.edges }) ≡ edge_by (type_at s.edges) (types_of T number) (next (types_of T number) d n.local)
    edge = rw (e, comes, found, aim) refl

    code : CodeShown T (form_by (types_of T) (types_of T number) (next (types_of T number) d n.local)) [] t t
    code = rw (e, comes, found, ← aim) (no_code T (types_of T target) t none)

-- an element starts in one with elements
pub started_shown : (T : Tables) (ls : List (Level ℕ)) (n : Expanded) (local : List ℕ) (o : Option Opened) (number : ℕ) (last : Option ℕ) (count : ℕ) (text : Option OpenText) (round : List Opened) (a b c : Option PiecesKept) (k target : ℕ)
    → o ≡ Some (opened.Parent number last count) → StandsOpen (message_of T) text o round ls → n.local ≡ local → IsTargetOf (types_of T) number k target
    → ((d : List ℕ) → Came (types_of T number) d → EndsWith d last count → next (types_of T number) d local ≡ Slotted k) → c ≡ b
    → GoOn a b (λ s t. t ≡ with_begun (Some (record { slot = k; target = target; parent = type_at s.edges })) s) → GoOn a c (EventShows T ls (Starts n []))
started_shown T ls n local o number last count text round a b c k target is h e aim comes same go =
    subst (λ (x : Option PiecesKept). GoOn a x (EventShows T ls (Starts n []))) (sym same) (by ls (subst (λ (x : Option Opened). StandsOpen (message_of T) text x round ls) is h))
  where
    by : (ls : List (Level ℕ)) → StandsOpen (message_of T) text (Some (opened.Parent number last count)) round ls → GoOn a b (EventShows T ls (Starts n []))
    by [] h = absurd h
    by (Parent f d ∷ ls) ((same, came, ends), others) =
        go_as {R = λ s t. t ≡ with_begun (Some (record { slot = k; target = target; parent = type_at s.edges })) s} {S = EventShows T (Parent f d ∷ ls) (Starts n [])} a b
        (λ s t q. subst (λ (g : Form ℕ Simple). EventShows T (Parent g d ∷ ls) (Starts n []) s t) same
        (begins T ls d n local number k target s t e (comes d (subst (λ (g : Form ℕ Simple). Came g d) (sym same) came) ends) aim q)) go
    by (Leaf simple t ∷ ls) h = absurd h.0
    by (Envelope has ∷ ls) h = absurd h.0
    by (Foreign ∷ ls) h = absurd h.0

-- one with a text ends
pub text_closed : (T : Tables) (ls : List (Level ℕ)) (n : Expanded) (o : Option Opened) (text : Option OpenText) (round : List Opened) (a b c : Option PiecesKept) → o ≡ Some opened.Text → StandsOpen (message_of T) text o round ls
    → ((simple : Simple) (t : List ℕ) → HoldsText (message_of T) text simple t → GoOn a b (TextShown simple t)) → ((l : Level ℕ) → StandsFor (message_of T) text opened.Text l → GoOn b c (λ s t. t ≡ with_end l s))
    → GoOn a c (EventShows T ls (Ends n))
text_closed T ls n o text round a b c is h leaf close = by ls (subst (λ (x : Option Opened). StandsOpen (message_of T) text x round ls) is h)
  where
    by : (ls : List (Level ℕ)) → StandsOpen (message_of T) text (Some opened.Text) round ls → GoOn a c (EventShows T ls (Ends n))
    by [] h = absurd h
    by (Leaf simple w ∷ ls) h =
        go_then {Q = EventShows T (Leaf simple w ∷ ls) (Ends n)} {R = TextShown simple w} {S = λ s t. t ≡ with_end (Leaf simple w) s} a b c (λ s u t x y. (u, x, y)) (leaf simple w h.0) (close (Leaf simple w) h.0)
    by (Parent f d ∷ ls) h = absurd h.0
    by (Envelope has ∷ ls) h = absurd h.0
    by (Foreign ∷ ls) h = absurd h.0

-- one with elements ends
pub parent_closed : (T : Tables) (ls : List (Level ℕ)) (n : Expanded) (o : Option Opened) (number : ℕ) (last : Option ℕ) (count : ℕ) (text : Option OpenText) (round : List Opened) (a c : Option PiecesKept) → o ≡ Some (opened.Parent number last count)
    → StandsOpen (message_of T) text o round ls → ((l : Level ℕ) → StandsFor (message_of T) text (opened.Parent number last count) l → GoOn a c (λ s t. t ≡ with_end l s)) → GoOn a c (EventShows T ls (Ends n))
parent_closed T ls n o number last count text round a c is h close = by ls (subst (λ (x : Option Opened). StandsOpen (message_of T) text x round ls) is h)
  where
    by : (ls : List (Level ℕ)) → StandsOpen (message_of T) text (Some (opened.Parent number last count)) round ls → GoOn a c (EventShows T ls (Ends n))
    by [] h = absurd h
    by (Parent f d ∷ ls) h = go_as {R = λ s t. t ≡ with_end (Parent f d) s} {S = EventShows T (Parent f d ∷ ls) (Ends n)} a c (λ s t q. (s, refl, q)) (close (Parent f d) h.0)
    by (Leaf simple w ∷ ls) h = absurd h.0
    by (Envelope has ∷ ls) h = absurd h.0
    by (Foreign ∷ ls) h = absurd h.0

-- one event is all that a tag shows
pub shows_one : {E : Type 0} (T : Tables) (ls : List (Level ℕ)) (item : Item) (a b : Option PiecesKept) (r : Result Bool E) → IfOk r (λ done. done ≡ true → GoOn a b (EventShows T ls item)) → IfOk r (λ done. done ≡ true → GoOn a b (EventsShow T ls (item ∷ [])))
shows_one T ls item a b (Ok done) h = λ q. go_one T ls item a b (h q)
shows_one T ls item a b (Err e) h = tt
