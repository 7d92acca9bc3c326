-- A message whose instances are written in DER: the forms of its types, the type of `Document`, which has one slot, for the message, and
-- the canonical fragment of each tree, which is what an envelope holds.
use Rattle.std.specs.Prelude.{ℕ, List}
use Rattle.lexical_core.specs.Tree.{Tree}
use Rattle.facets.specs.declared.simple.Simple.{Simple}
use Rattle.fragments.specs.Fragment.{fragment}
use Rattle.reference_check.specs.Forms.{Graph}
use Rattle.message_model.specs.Message.{Message}
use Rattle.message_model.specs.Tables.{Tables, message_of}

pub record DerMessage (P : Type 0) : Type 0 where
  pub forms : Graph P Simple
  pub root : P
  pub fragment : Tree → List ℕ

-- the message with these fragments
abbrev pub in_der : {P : Type 0} → (Tree → List ℕ) → Message P → DerMessage P
in_der given m = record { forms = m.forms; root = m.root; fragment = given }

-- the message of these tables, whose envelopes hold canonical fragments
abbrev pub der_message : Tables → DerMessage ℕ
der_message T = in_der fragment (message_of T)
