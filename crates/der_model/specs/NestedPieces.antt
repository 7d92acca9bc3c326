-- Which elements are open behind the pieces that parts of DER show.
use Rattle.std.specs.Prelude.{◌≡◌, ℕ, List, [], ◌∷◌, ◌++◌, reverse}
use Rattle.data_types.specs.Value.{Edge, Piece, Begins, Holds, Ends}
use Rattle.der_model.specs.DerMessage.{DerMessage}
use Rattle.der_model.specs.States.{DerLevel, State, Start, AwaitsLength, AwaitsContents, Within}
use Rattle.der_model.specs.ShownPieces.{last_elements}

-- Where the first elements are open, the innermost first, each that ends is the innermost that is open, and the last are open behind the pieces.
abbrev pub Nests : List Edge → List Piece → List Edge → Type 0
Nests outer [] inner = outer ≡ inner
Nests outer (Begins edge ∷ shown) inner = Nests (edge ∷ outer) shown inner
Nests outer (Holds leaf ∷ shown) inner = Nests outer shown inner
Nests [] (Ends edge ∷ shown) inner = ⊥
Nests (open_edge ∷ outer) (Ends edge ∷ shown) inner = (open_edge ≡ edge) × Nests outer shown inner

-- the elements that the last component of each level is, the innermost first
abbrev pub elements_around : DerMessage ℕ → List (DerLevel ℕ) → List Edge
elements_around m [] = []
elements_around m (l ∷ around) = reverse (last_elements m l.spot l.came) ++ elements_around m around

-- The elements that are open in a state: of the innermost level the last component has ended.
abbrev pub open_elements : DerMessage ℕ → State ℕ → List Edge
open_elements m Start = []
open_elements m (AwaitsLength constructed spot names around) = elements_around m around
open_elements m (AwaitsContents spot names count around) = elements_around m around
open_elements m (Within []) = []
open_elements m (Within (l ∷ around)) = elements_around m around
