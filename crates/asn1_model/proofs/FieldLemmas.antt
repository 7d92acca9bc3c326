-- Fields and types, one by one.
use Rattle.std.proofs.Common.{◌≡◌, ℕ, zero, suc, ◌+◌, ◌<◌, List, [], ◌∷◌, ◌++◌, length, map, take, drop, get_or, Option, Some, None, refl, sym, ap, ◌∙◌, append-nil, arith}
use Rattle.std.specs.Prelude.{slice_get}
use Rattle.std.proofs.Math.Seq.{drop-cons}
use Rattle.std.proofs.lemmas.List.{map-append, append_assoc, drop_more}
use Rattle.std.proofs.lemmas.Option.{slice_get_within, get_or_from_slice_get}
use Rattle.lexical_core.proofs.Lists.{take_item}
use Rattle.message_model.specs.declared.model.Slot.{Slot}
use Rattle.message_model.specs.Tables.{Tables, types_of}
use Rattle.asn1_model.specs.declared.module.AsnShape.{AsnShape}
use Rattle.asn1_model.specs.declared.module.AsnType.{AsnType}
use Rattle.asn1_model.specs.declared.module.Field.{Field}
use Rattle.asn1_model.specs.declared.order.NamedType.{NamedType}
use Rattle.asn1_model.specs.inner.Fields.{slot_in}
use Rattle.asn1_model.specs.ModuleOf.{field_of, fields_with, asn_name_of, shape_of, types_with, with_shape}
use Rattle.asn1_model.specs.inner.Order.{numbered_type}

-- what is left of a list, with the item that is told at its place
drop_item : {X : Type 0} (xs : List X) (n : ℕ) (x : X) → slice_get xs n ≡ Some x → drop n xs ≡ x ∷ drop (n + 1) xs
drop_item xs n x e =
    let next : suc n ≡ n + 1 = omega arith in
    drop-cons xs n x (slice_get_within xs n x e) ∙ ap (λ y. y ∷ drop (suc n) xs) (get_or_from_slice_get xs n x x e) ∙ ap (λ m. x ∷ drop m xs) next

drop_none : {X : Type 0} (xs : List X) (n : ℕ) → None ≡ slice_get xs n → drop n xs ≡ []
drop_none [] zero e = refl
drop_none [] (suc n) e = refl
drop_none (x ∷ xs) zero e = absurd cc
drop_none (x ∷ xs) (suc n) e = drop_none xs n e

-- one more slot
pub slots_more : {X Y : Type 0} (f : X → Y) (ys : List Y) (n : ℕ) (xs new : List X) (x : X) → Some (f x) ≡ slice_get ys n → map f xs ≡ take n ys → new ≡ xs ++ x ∷ [] → map f new ≡ take (n + 1) ys
slots_more f ys n xs new x there before grown =
    ap (map f) grown ∙ map-append f xs (x ∷ []) ∙ ap (λ l. l ++ f x ∷ []) before ∙ sym (take_item ys n (f x) (sym there))

-- one more field
pub fields_more : (name : ℕ → List ℕ) (slots : List Slot) (given : List (List ℕ)) (all old new : List Field) (n : ℕ) (d : Slot) (g : List ℕ) → n < length slots → Some g ≡ slice_get given n
    → all ≡ old ++ fields_with name (map slot_in (drop n slots)) (drop n given) → new ≡ old ++ field_of name (slot_in (get_or slots n d)) g ∷ []
    → all ≡ new ++ fields_with name (map slot_in (drop (n + 1) slots)) (drop (n + 1) given)
fields_more name slots given all old new n d g lt there before grown =
    before
    ∙ (ap (λ l. old ++ fields_with name (map slot_in l) (drop n given)) (drop_more slots n d lt)
    ∙ (ap (λ l. old ++ fields_with name (slot_in (get_or slots n d) ∷ map slot_in (drop (n + 1) slots)) l) (drop_item given n g (sym there))
    ∙ (sym (append_assoc old (field_of name (slot_in (get_or slots n d)) g ∷ []) (fields_with name (map slot_in (drop (n + 1) slots)) (drop (n + 1) given)))
    ∙ ap (λ l. l ++ fields_with name (map slot_in (drop (n + 1) slots)) (drop (n + 1) given)) (sym grown))))

-- no more names
pub fields_end : (name : ℕ → List ℕ) (slots : List Slot) (given : List (List ℕ)) (all old : List Field) (n : ℕ) → None ≡ slice_get given n
    → all ≡ old ++ fields_with name (map slot_in (drop n slots)) (drop n given) → old ≡ all
fields_end name slots given all old n there before =
    sym (before ∙ ap (λ l. old ++ fields_with name (map slot_in (drop n slots)) l) (drop_none given n there) ∙ ap (λ l. old ++ l) (nameless (map slot_in (drop n slots))) ∙ append-nil old)
  where
    nameless : (ss : List _) → fields_with name ss [] ≡ []
    nameless [] = refl
    nameless (s ∷ ss) = refl

-- the type before the others
with_rest : (name : List ℕ) (shape : Option AsnShape) (rest : List AsnType) → with_shape name shape rest ≡ with_shape name shape [] ++ rest
with_rest name None rest = refl
with_rest name (Some s) rest = refl

-- one more type
pub types_more : (T : Tables) (order : List NamedType) (given : List (List ℕ)) (all old new : List AsnType) (n : ℕ) (d : NamedType) (g : List ℕ) → n < length order → Some g ≡ slice_get given n
    → all ≡ old ++ types_with T (map numbered_type (drop n order)) (drop n given)
    → new ≡ old ++ with_shape g (shape_of (asn_name_of T) (types_of T (get_or order n d).number)) []
    → all ≡ new ++ types_with T (map numbered_type (drop (n + 1) order)) (drop (n + 1) given)
types_more T order given all old new n d g lt there before grown =
    before
    ∙ (ap (λ l. old ++ types_with T (map numbered_type l) (drop n given)) (drop_more order n d lt)
    ∙ (ap (λ l. old ++ types_with T (numbered_type t ∷ map numbered_type (drop (n + 1) order)) l) (drop_item given n g (sym there))
    ∙ (ap (λ l. old ++ l) (with_rest g shape rest)
    ∙ (sym (append_assoc old (with_shape g shape []) rest) ∙ ap (λ l. l ++ rest) (sym grown)))))
  where
    t : NamedType
    t = get_or order n d

    shape : Option AsnShape
    shape = shape_of (asn_name_of T) (types_of T t.number)

    rest : List AsnType
    rest = types_with T (map numbered_type (drop (n + 1) order)) (drop (n + 1) given)

-- no more names
pub types_end : (T : Tables) (order : List NamedType) (given : List (List ℕ)) (all old : List AsnType) (n : ℕ) → None ≡ slice_get given n
    → all ≡ old ++ types_with T (map numbered_type (drop n order)) (drop n given) → old ≡ all
types_end T order given all old n there before =
    sym (before ∙ ap (λ l. old ++ types_with T (map numbered_type (drop n order)) l) (drop_none given n there) ∙ ap (λ l. old ++ l) (nameless (map numbered_type (drop n order))) ∙ append-nil old)
  where
    nameless : (ts : List _) → types_with T ts [] ≡ []
    nameless [] = refl
    nameless (t ∷ ts) = refl
