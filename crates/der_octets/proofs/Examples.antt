-- Octets of examples, computed.
use Rattle.std.proofs.Common.{◌≡◌, true, false, [], ◌∷◌, refl}
use Rattle.std.specs.Prelude.{codes}
use Rattle.der_octets.specs.Octets.{Nothing, Primitive, Constructed, Application, universal, context, identifier, length_octets, wrapped, octets}

pub length_example : length_octets 201 ≡ 129 ∷ 201 ∷ []
unfolding length_octets
length_example = refl

pub sequence_example : octets (Constructed (universal 16) (Primitive (universal 22) (codes "Smith") (Primitive (universal 1) (255 ∷ []) Nothing)) Nothing) ≡ 48 ∷ 10 ∷ 22 ∷ 5 ∷ 83 ∷ 109 ∷ 105 ∷ 116 ∷ 104 ∷ 1 ∷ 1 ∷ 255 ∷ []
unfolding wrapped identifier length_octets
sequence_example = refl

pub explicit_example : octets (Constructed (context 2) (Primitive (record { class = Application; number = 3 }) (codes "Jones") Nothing) Nothing) ≡ 162 ∷ 7 ∷ 67 ∷ 5 ∷ 74 ∷ 111 ∷ 110 ∷ 101 ∷ 115 ∷ []
unfolding wrapped identifier length_octets
explicit_example = refl

pub two_octets_example : identifier false (context 31) ≡ 159 ∷ 31 ∷ []
unfolding identifier
two_octets_example = refl

pub three_octets_example : identifier true (context 200) ≡ 191 ∷ 129 ∷ 72 ∷ []
unfolding identifier
three_octets_example = refl

pub length_examples : (length_octets 127 ≡ 127 ∷ []) × (length_octets 128 ≡ 129 ∷ 128 ∷ []) × (length_octets 256 ≡ 130 ∷ 1 ∷ 0 ∷ [])
unfolding length_octets
length_examples = (refl, refl, refl)
