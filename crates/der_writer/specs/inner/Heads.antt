-- What heads and places of the code stand for.
use Rattle.std.specs.Prelude.{ℕ, List, [], Option, Some, None}
use Rattle.der_octets.specs.Octets as octet
use Rattle.der_octets.specs.Octets.{Tag}
use Rattle.inst_pool.specs.Pieces.{edge_of}
use Rattle.der_writer.specs.inner.PieceOctets as piece
use Rattle.der_writer.specs.inner.PieceOctets.{head}
use Rattle.der_writer.specs.declared.head.Class.{Class}
use Rattle.der_writer.specs.declared.head.Class.TheVariants as class
use Rattle.der_writer.specs.declared.head.Head.{Head}
use Rattle.der_writer.specs.declared.pieces.Before.{Before}
use Rattle.der_writer.specs.declared.pieces.Before.TheVariants as before

abbrev pub class_of : Class → octet.Class
class_of class.Universal = octet.Universal
class_of class.Context = octet.Context

abbrev pub tag_of : Head → Tag
tag_of h = record { class = class_of h.class; number = h.number }

-- the octets of a head before so many contents octets; none where there is no head
abbrev pub head_octets : Option Head → ℕ → List ℕ
head_octets None len = []
head_octets (Some h) len = head h.constructed (tag_of h) len

-- what stands before a piece
abbrev pub before_view : Before → piece.Before
before_view (before.Begun edge) = piece.Begun (edge_of edge)
before_view before.Filled = piece.Filled
before_view (before.Ended edge) = piece.Ended (edge_of edge)
