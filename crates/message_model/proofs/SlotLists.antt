-- Slots that are made of elements one by one.
use Rattle.std.proofs.Common.{◌≡◌, ℕ, ◌+◌, ◌<◌, List, [], ◌∷◌, ◌++◌, length, map, take, get_or, Some, sym, ap, ◌∙◌}
use Rattle.std.specs.Prelude.{Contains}
use Rattle.std.proofs.lemmas.List.{take_more, map-append}
use Rattle.facets.specs.declared.simple.Simple.{Simple}
use Rattle.repo_objects.specs.declared.objects.ElementDef.{ElementDef}
use Rattle.repo_objects.specs.declared.objects.Object.{Object}
use Rattle.repo_objects.specs.declared.objects.Kinds.{Kinds}
use Rattle.repo_objects.specs.declared.objects.Kinds.TheVariants as kinds
use Rattle.repo_objects.specs.declared.objects.ObjectKind.TheVariants as object
use Rattle.repo_objects.specs.Repository.{Contents}
use Rattle.reference_check.specs.Forms.{Slot, Money, slot_to, form_to}
use Rattle.reference_check.specs.Graph.{Place, entry, references, one_of, slot_of, simple_form}
use Rattle.reference_check.specs.Reach.{kind_currency}
use Rattle.message_model.specs.SimpleTypes.{facets_of}
use Rattle.message_model.specs.Views.{slot_info, slots_view}
use Rattle.message_model.specs.inner.Numbers.{StandsAmong, IsCompilable}
use Rattle.message_model.specs.declared.slot_list.SlotInfo.{SlotInfo}
use Rattle.message_model.specs.declared.slot_list.Ahead.{Ahead}

-- a slot of the element's tag and bounds, whose number stands for what the element names
pub slot_same : (h : ℕ → Place) (e : ElementDef) (tag : List ℕ) (n : ℕ) (ahead : Ahead) (id : List ℕ) → tag ≡ e.tag → references e ≡ id ∷ [] → h n ≡ entry id
    → slot_to h (slot_info (record { tag = tag; min = e.min; max = e.max; target = n; ahead = ahead })) ≡ slot_of e
slot_same h e tag n ahead id same one leads =
    let by_tag : List ℕ → Slot Place = λ t. record { tag = t; min = e.min; max = e.max; target = h n } in
    let by_target : Place → Slot Place = λ q. record { tag = e.tag; min = e.min; max = e.max; target = q } in
    ap by_tag same ∙ ap by_target (leads ∙ sym (ap one_of one))

-- what is read of a list is in it
pub read_in : {A : Type 0} (xs : List A) (i : ℕ) (x : A) → i < length xs → x ≡ get_or xs i x → Contains xs x
read_in xs i x lt is = (i, lt, sym is)

-- the slots of one more element
pub slots_more : (h : ℕ → Place) (slots : List SlotInfo) (s : SlotInfo) (es : List ElementDef) (i : ℕ) (e : ElementDef) (new : List SlotInfo) → new ≡ slots ++ s ∷ []
    → i < length es → e ≡ get_or es i e → map (slot_to h) (slots_view slots) ≡ map slot_of (take i es) → slot_to h (slot_info s) ≡ slot_of e
    → map (slot_to h) (slots_view new) ≡ map slot_of (take (i + 1) es)
slots_more h slots s es i e new grown lt is before same =
    let left : map (slot_to h) (slots_view new) ≡ map (slot_to h) (slots_view slots) ++ slot_to h (slot_info s) ∷ [] =
    ap (λ xs. map (slot_to h) (slots_view xs)) grown ∙ (ap (map (slot_to h)) (map-append slot_info slots (s ∷ [])) ∙ map-append (slot_to h) (slots_view slots) (slot_info s ∷ [])) in
    let right : map slot_of (take (i + 1) es) ≡ map slot_of (take i es) ++ slot_of e ∷ [] =
    ap (map slot_of) (take_more es i e lt ∙ ap (λ x. take i es ++ x ∷ []) (sym is)) ∙ map-append slot_of (take i es) (e ∷ []) in
    left ∙ (ap (λ xs. xs ++ slot_to h (slot_info s) ∷ []) before ∙ (ap (λ x. map slot_of (take i es) ++ x ∷ []) same ∙ sym right))

-- ---- amounts

pub money_stands : (R : Contents) (places : List ℕ) (o : Object) (k : Kinds) (id : List ℕ) → IsCompilable R places o → o.kind ≡ object.Simple k → k ≡ kinds.Amount → o.currency ≡ Some id
    → StandsAmong R.objects places id
money_stands R places o k id can is amount given = can.currency id (ap (λ x. kind_currency x o.currency) (is ∙ ap object.Simple amount) ∙ given)

pub money_same : (R : Contents) (h : ℕ → Place) (o : Object) (k : Kinds) (id : List ℕ) (n : ℕ) (base : Simple) → k ≡ kinds.Amount → o.currency ≡ Some id → h n ≡ entry id → base ≡ facets_of R o
    → form_to h (λ x. x) (Money n base) ≡ form_to (λ q. q) (facets_of R) (simple_form R o k o.currency)
money_same R h o k id n base amount given leads is =
    let left : Money (h n) base ≡ Money (entry id) (facets_of R o) = ap (λ q. Money q base) leads ∙ ap (Money (entry id)) is in
    let right : form_to (λ q. q) (facets_of R) (simple_form R o k o.currency) ≡ Money (entry id) (facets_of R o) =
    ap (λ x. form_to (λ q. q) (facets_of R) (simple_form R o x o.currency)) amount ∙ ap (λ x. form_to (λ q. q) (facets_of R) (simple_form R o kinds.Amount x)) given in
    left ∙ sym right
