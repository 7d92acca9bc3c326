-- The names are those of the types, in their order, and are found by their places.
use Rattle.std.proofs.Common.{◌≡◌, List, length, map, ap, ◌∙◌, arith}
use Rattle.asn1_model.specs.Names.{given_names}
use Rattle.asn1_model.specs.ModuleOf.{Numbered, name_in, type_name_of}
use Rattle.asn1_model.specs.inner.Order.{numbered_type}
use Rattle.asn1_model.proofs.TypeNameLemmas.{length-names, names_are}
use Rattle.asn1_model.proofs.type_names.TypeNames.new.Goals as goal

pub returns : goal.returns
returns c T same count =
    let types = c.args.types.now in
    let given = c.in_ok-given.given in
    let bare : given ≡ given_names (map type_name_of (map numbered_type types)) = c.in_ok-given.ensures ∙ ap given_names (c.deref.ensures.value ∙ c.in_ok-bare.ensures) in
    let long : length given ≡ length types = ap length bare ∙ length-names types in
    names_are (record { given = given; places = c.in_ok-places.places }) T (bare ∙ ap (λ (ts : List Numbered). given_names (map type_name_of ts)) same) (c.in_ok-places.ensures.count ∙ count)
    (λ p lt. c.in_ok-places.ensures.name given long p (omega (arith, lt, count)) ∙ ap (λ (ts : List Numbered). name_in ts given p) same)
