-- The names of what is open are those that a reader's levels tell.
use Rattle.std.proofs.Common.{◌≡◌, ℕ, zero, suc, ◌<◌, ◌-◌, Bool, true, false, List, [], ◌∷◌, ◌++◌, length, take, Some, refl, sym, ap, ◌∙◌, arith}
use Rattle.std.specs.Prelude.{slice_get, if◌then◌else◌, codes}
use Rattle.facets.specs.declared.simple.Simple.{Simple}
use Rattle.reference_check.specs.Forms as graph
use Rattle.reference_check.specs.Forms.{Graph}
use Rattle.der_model.specs.DerMessage.{DerMessage}
use Rattle.der_model.specs.Structures as structures
use Rattle.der_model.specs.Structures.{Element, Listed, is_single, component, components, item_components, amount_components, form_structure, number_structure, structure}
use Rattle.der_model.specs.States as states
use Rattle.der_model.specs.States.{PathName, Numbered, ListName, State, Start, AwaitsLength, AwaitsContents, Within, label_names, next_number}
use Rattle.der_model.specs.Paths.{path_text, path_of, names_of}
use Rattle.der_model.specs.OpenParts.{components_of}
use Rattle.der_codec.specs.Levels.{IsSpot, IsLevel, AreLevels, inwards, rest_of}
use Rattle.der_codec.specs.Decoding.{IsOpenState, AwaitsValue}
use Rattle.der_codec.specs.inner.OpenNames.{label_of, names_of_part, names_at, document_names, names_within, AreNamed, IsNamed, slot_names, amount_names, form_names, alternative_names, item_names, spot_names, numbered_names, level_names, names_over}
use Rattle.der_codec.specs.declared.level.Spot.{Spot}
use Rattle.der_codec.specs.declared.level.Spot.TheVariants as spots
use Rattle.der_codec.specs.declared.level.Level as levels
use Rattle.der_codec.specs.declared.decoder.Due.{Due}
use Rattle.der_codec.specs.declared.decoder.Due.TheVariants as due
use Rattle.der_codec.proofs.Inwards.{pop_inwards}

-- ---- the component that came last

slot_label : (g : Graph ℕ Simple) (p i : ℕ) (s : graph.Slot ℕ) → label_names (component g p i s).label ≡ slot_names (Some s)
slot_label g p i s = go (is_single s)
  where
    go : (b : Bool) → label_names (if b then Element s.tag else Listed s.tag) ≡ (if b then Numbered s.tag 1 ∷ [] else ListName s.tag ∷ [])
    go true = refl
    go false = refl

slot_labels : (g : Graph ℕ Simple) (p i : ℕ) (slots : List (graph.Slot ℕ)) (k : ℕ) → label_names (label_of (slice_get (components g p i slots) k)) ≡ slot_names (slice_get slots k)
slot_labels g p i [] k = refl
slot_labels g p i (s ∷ slots) zero = slot_label g p i s
slot_labels g p i (s ∷ slots) (suc k) = slot_labels g p (suc i) slots k

amount_labels : (p code k : ℕ) → label_names (label_of (slice_get (amount_components p code) k)) ≡ amount_names k
amount_labels p code zero = refl
amount_labels p code (suc zero) = refl
amount_labels p code (suc (suc k)) = refl

form_part : (g : Graph ℕ Simple) (p : ℕ) (f : graph.Form ℕ Simple) (came : List ℕ) (k : ℕ) → names_of_part (form_structure g p f) came (slice_get (components_of (form_structure g p f)) k) ≡ form_names f k
form_part g p (graph.Sequence slots) came k = slot_labels g p 0 slots k
form_part g p (graph.Choice slots) came k = slot_labels g p 0 slots k
form_part g p (graph.Money code number) came k = amount_labels p code k
form_part g p f came k = refl

item_labels : (g : Graph ℕ Simple) (p : ℕ) (f : graph.Form ℕ Simple) (k : ℕ) → label_names (label_of (slice_get (item_components g p f) k)) ≡ alternative_names f k
item_labels g p (graph.Choice slots) k = slot_labels g p 0 slots k
item_labels g p f zero = refl
item_labels g p f (suc k) = refl

number_part : (f : graph.Form ℕ Simple) (came : List ℕ) (k : ℕ) → names_of_part (number_structure f) came (slice_get (components_of (number_structure f)) k) ≡ []
number_part (graph.Money code number) came k = refl
number_part f came k = refl

spot_part : (m : DerMessage ℕ) → m.root ≡ 0 → (x : Spot) (of : structures.Spot ℕ) (came : List ℕ) (count k : ℕ) → IsSpot m.forms x of → count ≡ suc (length came)
    → names_of_part (structure m of) came (slice_get (components_of (structure m of)) k) ≡ spot_names m.forms x count k
spot_part m root spots.Instance of came count k is n =
    ap (λ z. names_of_part (structure m z) came (slice_get (components_of (structure m z)) k)) is
    ∙ (form_part m.forms m.root (m.forms m.root) came k ∙ ap (λ z. form_names (m.forms z) k) root)
spot_part m root (spots.Value p) of came count k is n =
    ap (λ z. names_of_part (structure m z) came (slice_get (components_of (structure m z)) k)) is ∙ form_part m.forms p (m.forms p) came k
spot_part m root (spots.Number p) of came count k is n =
    ap (λ z. names_of_part (structure m z) came (slice_get (components_of (structure m z)) k)) is ∙ number_part (m.forms p) came k
spot_part m root (spots.List p j) of came count k (s, there, is) n =
    ap (λ z. names_of_part (structure m z) came (slice_get (components_of (structure m z)) k)) is
    ∙ (ap (λ z. Numbered s.tag (suc (length came)) ∷ z) (item_labels m.forms s.target (m.forms s.target) k)
    ∙ (ap (λ z. Numbered s.tag z ∷ alternative_names (m.forms s.target) k) (sym n) ∙ sym (ap (λ z. item_names m.forms z count k) there)))

level_named : (m : DerMessage ℕ) → m.root ≡ 0 → (x : levels.Level) (l : states.DerLevel ℕ) → IsLevel m.forms x l → names_at (structure m l.spot) l.came ≡ level_names m.forms x
level_named m root x l is = by l.came is.next is.count
  where
    by : (came : List ℕ) → x.next ≡ next_number came → x.count ≡ length came → names_at (structure m l.spot) came ≡ level_names m.forms x
    by [] e n = sym (ap (λ z. numbered_names m.forms x.spot z x.count) e)
    by (k ∷ came) e n = spot_part m root x.spot l.spot came x.count k is.spot n ∙ sym (ap (λ z. numbered_names m.forms x.spot z x.count) e)

-- ---- all of them

-- names, and those of what began in these values, the innermost first
begun_in : Graph ℕ Simple → List PathName → List levels.Level → List PathName
begun_in types base [] = base
begun_in types base (x ∷ xs) = begun_in types base xs ++ level_names types x

begun_more : (types : Graph ℕ Simple) (base : List PathName) (xs : List levels.Level) (y : levels.Level) → begun_in types base (xs ++ y ∷ []) ≡ begun_in types (base ++ level_names types y) xs
unfolding begun_in
begun_more types base [] y = refl
begun_more types base (x ∷ xs) y = ap (λ z. z ++ level_names types x) (begun_more types base xs y)

outwards : (types : Graph ℕ Simple) (base : List PathName) (xs : List levels.Level) → begun_in types base (inwards xs) ≡ names_over types base xs
unfolding begun_in
outwards types base [] = refl
outwards types base (x ∷ xs) = begun_more types base (inwards xs) x ∙ outwards types (base ++ level_names types x) xs

-- with the names of one that has begun
within_named : (m : DerMessage ℕ) → m.root ≡ 0 → (xs : List levels.Level) (ls : List (states.DerLevel ℕ)) → AreLevels m.forms xs ls → AreNamed m ls → names_of ls ++ names_within m ls ≡ begun_in m.forms document_names xs
unfolding begun_in
within_named m root [] [] are named = refl
within_named m root (x ∷ xs) (l ∷ ls) are named =
    ap (λ z. (names_of ls ++ z) ++ names_at (structure m l.spot) l.came) named.0
    ∙ (ap (λ z. z ++ names_at (structure m l.spot) l.came) (within_named m root xs ls are.1 named.1)
    ∙ ap (λ z. begun_in m.forms document_names xs ++ z) (level_named m root x l are.0))
within_named m root [] (l ∷ ls) are named = absurd are
within_named m root (x ∷ xs) [] are named = absurd are

-- the path of a value that has begun
pub begun_path : (m : DerMessage ℕ) → m.root ≡ 0 → (xs : List levels.Level) (d : Due) (s : State ℕ) → IsOpenState m (inwards xs) d s → IsNamed m s → AwaitsValue d → path_text (names_over m.forms document_names xs) ≡ path_of s
begun_path m root xs (due.Length c spot step) (AwaitsLength b of names ls) op named begun =
    ap path_text (sym (ap (λ z. names_of ls ++ z) named.0 ∙ (within_named m root (inwards xs) ls op.2 named.1 ∙ outwards m.forms document_names xs)))
begun_path m root xs (due.Contents spot left) (AwaitsContents of names n ls) op named begun =
    ap path_text (sym (ap (λ z. names_of ls ++ z) named.0 ∙ (within_named m root (inwards xs) ls op.1 named.1 ∙ outwards m.forms document_names xs)))
begun_path m root xs (due.Tag step) s op named begun = absurd begun
begun_path m root xs due.Over s op named begun = absurd begun
begun_path m root xs d s op named begun = absurd op

-- the path of the innermost open value
open_names : (m : DerMessage ℕ) → m.root ≡ 0 → (xs : List levels.Level) (ls : List (states.DerLevel ℕ)) → AreLevels m.forms xs ls → AreNamed m ls → 0 < length xs → names_of ls ≡ begun_in m.forms document_names (rest_of xs)
open_names m root [] ls are named some = absurd (omega arith)
open_names m root (x ∷ xs) [] are named some = absurd are
open_names m root (x ∷ xs) (l ∷ ls) are named some = ap (λ z. names_of ls ++ z) named.0 ∙ within_named m root xs ls are.1 named.1

some_inwards : (xs : List levels.Level) → 0 < length xs → 0 < length (inwards xs)
some_inwards [] h = absurd (omega arith)
some_inwards (x ∷ xs) h = go (inwards xs)
  where
    go : (ys : List levels.Level) → 0 < length (ys ++ x ∷ [])
    go [] = omega arith
    go (y ∷ ys) = omega arith

pub open_path : (m : DerMessage ℕ) → m.root ≡ 0 → (xs : List levels.Level) (d : Due) (s : State ℕ) → IsOpenState m (inwards xs) d s → IsNamed m s → (AwaitsValue d → ⊥) → 0 < length xs
    → path_text (names_over m.forms document_names (take (length xs - 1) xs)) ≡ path_of s
open_path m root xs d s op named none some = by (inwards xs) d s op named none (some_inwards xs some) (pop_inwards xs)
  where
    by : (ys : List levels.Level) (d : Due) (s : State ℕ) → IsOpenState m ys d s → IsNamed m s → (AwaitsValue d → ⊥) → 0 < length ys → rest_of ys ≡ inwards (take (length xs - 1) xs)
        → path_text (names_over m.forms document_names (take (length xs - 1) xs)) ≡ path_of s
    by ys (due.Tag step) Start op named none some e = (let z = ap length op in absurd (omega arith))
    by ys (due.Tag step) (Within (l ∷ ls)) op named none some e =
        ap path_text (sym (open_names m root ys (l ∷ ls) op named some ∙ (ap (begun_in m.forms document_names) e ∙ outwards m.forms document_names (take (length xs - 1) xs))))
    by ys due.Over (Within []) op named none some e = (let z = ap length op in absurd (omega arith))
    by ys (due.Length c spot step) s op named none some e = absurd (none tt)
    by ys (due.Contents spot left) s op named none some e = absurd (none tt)
    by ys d s op named none some e = absurd op

-- nothing is open
pub no_path : (m : DerMessage ℕ) (xs : List levels.Level) (d : Due) (s : State ℕ) → IsOpenState m (inwards xs) d s → (AwaitsValue d → ⊥) → length xs ≡ 0 → codes "/" ≡ path_of s
no_path m [] (due.Tag step) Start op none z0 = refl
no_path m [] (due.Tag step) (Within (l ∷ ls)) op none z0 = absurd op
no_path m [] due.Over (Within []) op none z0 = refl
no_path m [] (due.Length c spot step) s op none z0 = absurd (none tt)
no_path m [] (due.Contents spot left) s op none z0 = absurd (none tt)
no_path m [] d s op none z0 = absurd op
no_path m (x ∷ xs) d s op none z0 = absurd (omega arith)
