-- A reader of a fragment, byte by byte.
use Rattle.std.proofs.Common.{◌≡◌, ◌<◌, ◌≤◌, ◌^◌, ℕ, true, arith, append-nil, length, Bool, false, List, [], ◌∷◌, ◌++◌, take, drop, sym, ap, ap₂, subst, ◌∙◌, append_assoc}
use Rattle.std.specs.Prelude.{◌↔◌, ◌==◌, IsTrue, IfOk, Result, Ok, Err}
use Rattle.std.specs.List.{AllByRecursion}
use Rattle.std.specs.Str.{bytes_eq}
use Rattle.std.proofs.lemmas.Bool.{true≢false}
use Rattle.std.proofs.Math.Seq.{take-append_seam}
use Rattle.std.proofs.lemmas.List.{append_cancel_left, take-append-drop}
use Rattle.lexical_core.specs.Tree.{Item, Tree}
use Rattle.lexical_core.proofs.EqualBytes.{equal_bytes, bytes_equal}
use Rattle.lexical_core.proofs.Lists.{none_left}
use Rattle.markup.specs.Marks.{no_limit}
use Rattle.markup.specs.Reading.{GoesOnUnder, RefusesUnder, IsWhollyUnder, StopsUnder, EndsEarlyUnder, fault_of}
use Rattle.markup.specs.declared.event.Event.{Event}
use Rattle.markup.specs.declared.reader.MarkError.{MarkError}
use Rattle.markup.specs.declared.reader.MarkError.TheVariants.{Refused, Memory}
use Rattle.markup.specs.declared.reader.MarkFault.{MarkFault as Told}
use Rattle.fragments.specs.Plain.{IsPlain}
use Rattle.fragments.specs.Fragment.{fragment}
use Rattle.respell.specs.Respelling.{HasSortedAttributes, AreOf, respelled_text, defaults_behind}
use Rattle.respell.specs.Kept.{HasWritten}
use Rattle.respell.specs.inner.FragmentReading.{NoneForeign, HasReadFront, IsFragment, event_items}
use Rattle.respell.specs.declared.fragment_reader.FragmentReader.{FragmentReader}
use Rattle.respell.proofs.Outside.{outside_parts}
use Rattle.respell.proofs.RespelledTrees.{respelled_tree, respelled-append, whole_text}
use Rattle.respell.proofs.FragmentFronts.{items, items_more, more_sorted, told_inside, told_front, no_fault, ends_tree, fragment_told, all_behind}

-- ---- the events of a byte, one after another

one_more : (all front told rest : List Item) (i : Item) (left : List Item) → front ++ left ≡ told → left ≡ i ∷ rest → all ++ told ≡ ((all ++ front) ++ i ∷ []) ++ rest
one_more all front told rest i left e is =
    ap (λ (l : List Item). all ++ l) (sym e ∙ ap (λ (l : List Item). front ++ l) is) ∙ (sym (append_assoc all front (i ∷ rest)) ∙ sym (append_assoc (all ++ front) (i ∷ []) rest))

pub event_outside : (all front told rest : List Item) (i : Item) (left : List Item) → front ++ left ≡ told → left ≡ i ∷ rest → NoneForeign 0 (all ++ told) → NoneForeign 0 ((all ++ front) ++ i ∷ [])
event_outside all front told rest i left e is h = (outside_parts 0 ((all ++ front) ++ i ∷ []) rest (subst (λ (l : List Item). NoneForeign 0 l) (one_more all front told rest i left e is) h)).0

pub event_sorted : (front told rest : List Item) (i : Item) (left : List Item) → front ++ left ≡ told → left ≡ i ∷ rest → AllByRecursion HasSortedAttributes told → HasSortedAttributes i
event_sorted front told rest i left e is h = (all_behind front (i ∷ rest) (subst (AllByRecursion HasSortedAttributes) (sym e ∙ ap (λ (l : List Item). front ++ l) is) h)).0

pub event_front : (front told rest : List Item) (i : Item) (left : List Item) → front ++ left ≡ told → left ≡ i ∷ rest → (front ++ i ∷ []) ++ rest ≡ told
event_front front told rest i left e is = append_assoc front (i ∷ []) rest ∙ (ap (λ (l : List Item). front ++ l) (sym is) ∙ e)

pub regroup : (P : List Item → Type 0) (all front : List Item) (i : Item) → P ((all ++ front) ++ i ∷ []) → P (all ++ (front ++ i ∷ []))
regroup P all front i h = subst P (append_assoc all front (i ∷ [])) h

-- ---- a byte

pub if_ok : {A E : Type 0} (P Q : A → Type 0) (r : Result A E) → IfOk r P → ((x : A) → P x → Q x) → IfOk r Q
if_ok P Q (Ok x) h f = f x h
if_ok P Q (Err e) h f = h

pub read_more : (old new : FragmentReader) (bytes forgotten : List ℕ) (byte : ℕ) (before after given : List Event) (h : HasReadFront old bytes forgotten) → GoesOnUnder no_limit new.reader (bytes ++ byte ∷ []) h.told before after → before ≡ [] → given ≡ after
    → HasWritten new.respell forgotten (items h.told ++ event_items given) × NoneForeign 0 (items h.told ++ event_items given) → HasReadFront new (bytes ++ byte ∷ []) forgotten
read_more old new bytes forgotten byte before after given h g none same t =
    let is : items h.told ++ event_items given ≡ items (h.told ++ g.more) = ap (λ (es : List Event). items h.told ++ event_items es) same ∙ sym (items_more new.reader (bytes ++ byte ∷ []) h.told before after g none) in record {
      told = h.told ++ g.more;
      reads = g.taken_are;
      writes = subst (λ (l : List Item). HasWritten new.respell forgotten l) is t.0;
      inside = subst (λ (l : List Item). NoneForeign 0 l) is t.1;
    }

pub given_sorted : (old new : FragmentReader) (bytes forgotten : List ℕ) (byte : ℕ) (before after given : List Event) (h : HasReadFront old bytes forgotten) → GoesOnUnder no_limit new.reader (bytes ++ byte ∷ []) h.told before after → before ≡ [] → given ≡ after
    → AllByRecursion HasSortedAttributes (event_items given)
given_sorted old new bytes forgotten byte before after given h g none same = subst (λ (es : List Event). AllByRecursion HasSortedAttributes (event_items es)) (sym same) (more_sorted new.reader (bytes ++ byte ∷ []) h.told before after g none)

pub given_inside : (old new : FragmentReader) (bytes forgotten more : List ℕ) (byte : ℕ) (before after given : List Event) (h : HasReadFront old bytes forgotten) → GoesOnUnder no_limit new.reader (bytes ++ byte ∷ []) h.told before after → before ≡ [] → given ≡ after
    → IsFragment ((bytes ++ byte ∷ []) ++ more) → NoneForeign 0 (items h.told ++ event_items given)
given_inside old new bytes forgotten more byte before after given h g none same f =
    subst (λ (l : List Item). NoneForeign 0 l) (items_more new.reader (bytes ++ byte ∷ []) h.told before after g none ∙ ap (λ (es : List Event). items h.told ++ event_items es) (sym same))
    (told_inside new.reader (bytes ++ byte ∷ []) more (h.told ++ g.more) g.taken_are f)

pub byte_refused : (old : FragmentReader) (bytes forgotten more : List ℕ) (before after : List Event) (e : MarkError) (fault : Told) (h : HasReadFront old bytes forgotten) (byte : ℕ) → e ≡ Refused fault → StopsUnder no_limit (bytes ++ byte ∷ []) h.told before after e
    → IsFragment ((bytes ++ byte ∷ []) ++ more) → ⊥
byte_refused old bytes forgotten more before after e fault h byte is stops f =
    let r : RefusesUnder no_limit (bytes ++ byte ∷ []) h.told before after fault = subst (λ (x : MarkError). StopsUnder no_limit (bytes ++ byte ∷ []) h.told before after x) is stops in
    no_fault ((bytes ++ byte ∷ []) ++ more) (fault_of fault) (r.has_fault more) f

-- ---- what was written

-- the text is a front of the fragment
pub text_front : (r : FragmentReader) (front forgotten others : List ℕ) (h : HasReadFront r front forgotten) → IsFragment (front ++ others) → (more : List ℕ) × ((forgotten ++ r.respell.text) ++ more ≡ front ++ others)
text_front r front forgotten others h f =
    let m = told_front r.reader front others h.told h.reads f in (
      respelled_text (defaults_behind [] (items h.told)) m.0,
      ap (λ (l : List ℕ). l ++ respelled_text (defaults_behind [] (items h.told)) m.0) h.writes.text_is ∙ (sym (respelled-append [] (items h.told) m.0) ∙ (ap (respelled_text []) m.1 ∙ (respelled_tree f.tree ∙ f.spelled))),
    )

-- the rest behind what is forgotten
pub rest_uncompared : (forgotten text rest uncompared bytes : List ℕ) → text ++ rest ≡ uncompared → forgotten ++ uncompared ≡ bytes → (forgotten ++ text) ++ rest ≡ bytes
rest_uncompared forgotten text rest uncompared bytes e u = append_assoc forgotten text rest ∙ (ap (λ (l : List ℕ). forgotten ++ l) e ∙ u)

-- ---- the end

pub ends_whole : (r : FragmentReader) (bytes forgotten uncompared : List ℕ) (b : Bool) (h : HasReadFront r bytes forgotten) → IsWhollyUnder no_limit bytes h.told → r.respell.text ≡ [] → forgotten ++ uncompared ≡ bytes → b ≡ (length uncompared == 0) → length bytes ≤ no_limit → IsTrue b ↔ IsFragment bytes
ends_whole r bytes forgotten uncompared b h w none u is within =
    let e = ends_tree bytes h.told w h.inside in
    let written : (t : Tree) → AreOf (items h.told) t → forgotten ≡ fragment t = λ t are. sym (append-nil forgotten) ∙ (ap (λ (l : List ℕ). forgotten ++ l) (sym none) ∙ (h.writes.text_is ∙ whole_text (items h.told) t are)) in (
      λ met. let same : fragment e.tree ≡ bytes = sym (written e.tree e.are) ∙ (sym (append-nil forgotten) ∙ (ap (λ (l : List ℕ). forgotten ++ l) (sym (none_left uncompared (sym is ∙ met))) ∙ u)) in record { tree = e.tree; plain = e.plain; within = within; spelled = same },
      λ f. let all : forgotten ≡ bytes = written f.tree (fragment_told bytes h.told w f) ∙ f.spelled in is ∙ ap (λ (l : List ℕ). length l == 0) (append_cancel_left forgotten uncompared [] (u ∙ (sym all ∙ sym (append-nil forgotten)))),
    )

pub ends_refused : (bytes : List ℕ) (e : MarkError) → EndsEarlyUnder no_limit bytes e → IsFragment bytes → ⊥
ends_refused bytes (Refused fault) early f = no_fault bytes (fault_of fault) early f
ends_refused bytes Memory early f = early

pub read_whole : (b : Bool) (bytes : List ℕ) → length bytes < 2 ^ 40 → IsTrue b ↔ IsFragment bytes → IsTrue b ↔ ((t : Tree) × IsPlain t × (fragment t ≡ bytes))
read_whole b bytes short each = (λ met. let f = each.0 met in (f.tree, f.plain, f.spelled), λ (t, plain, is). each.1 (record { tree = t; plain = plain; within = omega (arith, short); spelled = is }))

pub never : (bytes : List ℕ) → (IsFragment bytes → ⊥) → IsTrue false ↔ IsFragment bytes
never bytes k = (λ met. absurd (true≢false (sym met)), λ f. absurd (k f))

-- ---- the text so far

-- bytes that begin with the text begin with its characters
pub begins_taken : (bytes text rest : List ℕ) → bytes ≡ text ++ rest → bytes_eq (take (length text) bytes) text ≡ true
begins_taken bytes text rest e = bytes_equal (take (length text) bytes) text (ap (λ (l : List ℕ). take (length text) l) e ∙ take-append_seam text rest)

pub joins_taken : (bytes text rest : List ℕ) → bytes_eq (take (length text) bytes) text ≡ true → rest ≡ drop (length text) bytes → text ++ rest ≡ bytes
joins_taken bytes text rest same is = ap₂ (λ (a b : List ℕ). a ++ b) (sym (equal_bytes (take (length text) bytes) text same)) is ∙ take-append-drop (length text) bytes

-- nothing is left
pub front_all : (front left bytes : List ℕ) (b : Bool) → front ++ left ≡ bytes → b ≡ (length left == 0) → IsTrue b → front ≡ bytes
front_all front left bytes b e is none = sym (append-nil front) ∙ (ap (λ (l : List ℕ). front ++ l) (sym (none_left left (sym is ∙ none))) ∙ e)
