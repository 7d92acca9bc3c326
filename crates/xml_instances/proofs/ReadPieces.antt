-- What is kept at the end is the pieces of the value that is spelled.
use Rattle.std.proofs.Common.{ℕ, List, [], Option, Some, None, sym, ◌∙◌, subst}
use Rattle.lexical_core.specs.Tree.{Item}
use Rattle.data_types.specs.Value.{Piece}
use Rattle.message_model.specs.Tables.{Tables, types_of}
use Rattle.message_model.specs.Sound.{AreSound, HaveSortedCodes}
use Rattle.xml_instances.specs.Built.{nothing_shown, EventsShow}
use Rattle.xml_instances.specs.Keeping.{PiecesKept, IsBuilt, AreKeptPieces}
use Rattle.xml_instances.specs.Laws.{PiecesAreShown}
use Rattle.xml_instances.specs.Checking.{IsSpelledBy, IsSpelledAs}

pub pieces_read : (T : Tables) (bytes : List ℕ) (items : List Item) (a : Option PiecesKept) (pieces : List Piece) → PiecesAreShown → AreSound (types_of T) → HaveSortedCodes (types_of T)
    → IsBuilt a T items → IsSpelledBy T bytes items → AreKeptPieces a pieces → IsSpelledAs T bytes pieces
pieces_read T bytes items None pieces law sound sorted built spelled kept = absurd kept
pieces_read T bytes items (Some k) pieces law sound sorted (t, shows, h) (v, s, told) kept =
    (v, s, kept ∙ (h.pieces_are ∙ law T bytes v t sound sorted s (subst (λ (x : List Item). EventsShow T [] x nothing_shown t) (sym told) shows)))
