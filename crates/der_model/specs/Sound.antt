-- What the laws on the DER of a message ask of it.
use Rattle.std.specs.Prelude.{◌≡◌, ℕ, List}
use Rattle.lexical_core.specs.Tree.{Tree}
use Rattle.fragments.specs.Plain.{IsPlain}
use Rattle.reference_check.specs.Forms.{Slot}
use Rattle.reference_check.specs.Forms as form
use Rattle.message_model.specs.Sound.{AreSound, HaveCodes, HaveSortedCodes}
use Rattle.der_model.specs.DerMessage.{DerMessage}

-- different trees that XML can spell have different texts
abbrev pub TellsApart : (Tree → List ℕ) → Type 0
TellsApart text = (t u : Tree) → IsPlain t → IsPlain u → text t ≡ text u → t ≡ u

-- fragments of different trees differ
abbrev pub FragmentsApart : {P : Type 0} → DerMessage P → Type 0
FragmentsApart m = TellsApart m.fragment

-- The message breaks no rule of the repository; `Document` is a sequence; and where there are envelopes, their fragments tell their trees apart.
pub record IsSoundDer {P : Type 0} (m : DerMessage P) : Type 0 where
  pub forms : AreSound m.forms
  pub codes : HaveCodes m.forms
  pub sorted : HaveSortedCodes m.forms
  pub root : (slots : List (Slot P)) × (m.forms m.root ≡ form.Sequence slots)
  pub fragments : (p : P) → m.forms p ≡ form.Envelope → FragmentsApart m
