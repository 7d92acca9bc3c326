-- An envelope holds bytes.
use Rattle.std.proofs.Common.{◌≡◌, ℕ, Bool, List, Some, sym, ap}
use Rattle.data_types.specs.Leaf.{Leaf, Bytes}
use Rattle.data_types.specs.LeafAnswers.{leaf_of}
use Rattle.facets.specs.declared.simple.Simple.{Simple}
use Rattle.reference_check.specs.Forms.{Graph, Form}
use Rattle.reference_check.specs.Forms as form
use Rattle.message_model.specs.Tables.{types_of}
use Rattle.message_model.specs.Views.{IsFormOf}
use Rattle.message_model.specs.declared.model.Form.TheVariants as told
use Rattle.xml_writer.specs.inner.PieceTexts.{IsHeldText}
use Rattle.xml_writer.proofs.leaves.push_held.Goals as goal

holds_bytes : (g : Graph ℕ Simple) (unended : Bool) (f : Form ℕ Simple) (l : Leaf) (bytes : List ℕ) → IsFormOf (Some told.Envelope) f → IsHeldText g unended f l bytes → l ≡ Bytes bytes
holds_bytes g unended form.Envelope (Bytes octets) bytes is e = ap Bytes (sym e)
holds_bytes g unended form.Envelope l bytes is e = absurd e
holds_bytes g unended f l bytes is e = absurd is

pub returns-in-Some-Envelope : goal.returns-in-Some-Envelope
returns-in-Some-Envelope g c = λ bytes h.
    let is : IsFormOf (Some told.Envelope) (types_of c.args.model.now c.args.innermost.number) = rw (← c.in-Some-Envelope.field-0-is) c.in-Some-Envelope.ensures.form in
    c.push_fragment.ensures bytes (holds_bytes (types_of c.args.model.now) c.args.innermost.unended (types_of c.args.model.now c.args.innermost.number) (leaf_of c.args.leaf.now) bytes is h)
