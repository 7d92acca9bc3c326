-- The places of types, written from the last type to the first.
use Rattle.std.proofs.Common.{◌≡◌, ◌≢◌, ◌⊎◌, inl, inr, ℕ, suc, ◌<◌, true, false, eqb, List, [], ◌∷◌, map, length, drop, get_or, sym, ap, ◌∙◌, arith}
use Rattle.std.specs.Bool.{if◌then◌else◌}
use Rattle.std.specs.Prelude.{slice_set, replicate}
use Rattle.std.proofs.lemmas.Bool.Decides.{eqb_tells}
use Rattle.std.proofs.lemmas.Grind.{get_or-set_at}
use Rattle.std.proofs.lemmas.List.{get_or-set_other, get_or-replicate, get_or_past, drop_all}
use Rattle.std.proofs.Math.Seq.{drop-cons}
use Rattle.asn1_model.specs.declared.order.NamedType.{NamedType}
use Rattle.asn1_model.specs.ModuleOf.{name_in}
use Rattle.asn1_model.specs.inner.Order.{numbered_type}
use Rattle.asn1_model.specs.inner.Places.{name_at}

-- what is written of one more type
pub place_more : (types : List NamedType) (given : List (List ℕ)) (places : List ℕ) (i p : ℕ) (d : NamedType) → i < length types → length given ≡ length types → p < length places
    → name_at places given p ≡ name_in (map numbered_type (drop (suc i) types)) (drop (suc i) given) p
    → name_at (slice_set places (get_or types i d).number i) given p ≡ name_in (map numbered_type (drop i types)) (drop i given) p
place_more types given places i p d lt same inside before = by (eqb_tells t.number p) ∙ sym split
  where
    t : NamedType
    t = get_or types i d

    rest : List ℕ
    rest = name_in (map numbered_type (drop (suc i) types)) (drop (suc i) given) p

    split : name_in (map numbered_type (drop i types)) (drop i given) p ≡ (if eqb t.number p then get_or given i [] else rest)
    split = ap (λ ts. name_in (map numbered_type ts) (drop i given) p) (drop-cons types i d lt) ∙ ap (λ ns. name_in (map numbered_type (t ∷ drop (suc i) types)) ns p) (drop-cons given i [] (omega arith))

    by : ((eqb t.number p ≡ true) × (t.number ≡ p)) ⊎ ((eqb t.number p ≡ false) × (t.number ≢ p)) → name_at (slice_set places t.number i) given p ≡ (if eqb t.number p then get_or given i [] else rest)
    by (inl (e, is)) =
        ap (λ k. get_or given k []) (get_or-set_at places t.number p i (length given) (sym is) (omega (arith, is, inside)))
        ∙ sym (ap (λ b. if b then get_or given i [] else rest) e)
    by (inr (e, other)) =
        ap (λ k. get_or given k []) (get_or-set_other places t.number p i (length given) (λ is. other (sym is)))
        ∙ before ∙ sym (ap (λ b. if b then get_or given i [] else rest) e)

-- before any is written
pub place_none : (types : List NamedType) (given : List (List ℕ)) (count p : ℕ) → length given ≡ length types → p < count
    → name_at (replicate count (length types)) given p ≡ name_in (map numbered_type (drop (length types) types)) (drop (length types) given) p
place_none types given count p same lt =
    ap (λ k. get_or given k []) (get_or-replicate count p (length types) (length given) lt) ∙ get_or_past given (length types) [] (omega arith)
    ∙ sym (ap (λ ts. name_in (map numbered_type ts) (drop (length types) given) p) (drop_all (length types) types (omega arith)))
