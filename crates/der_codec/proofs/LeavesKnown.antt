-- What is known of contents in a value, by what is known under its simple type.
use Rattle.std.proofs.Common.{ℕ, List, Some, Ok, subst, Bor}
use Rattle.data_types.specs.Leaf.{Leaf, Bytes, Code}
use Rattle.facets.specs.declared.simple.Simple.{Simple}
use Rattle.reference_check.specs.Forms as graph
use Rattle.reference_check.specs.Forms.{Graph}
use Rattle.message_model.specs.Views.{IsFormOf}
use Rattle.message_model.specs.declared.model.Form.TheVariants as form
use Rattle.der_model.specs.DerMessage.{DerMessage}
use Rattle.der_model.specs.LeafContents.{ContentsUnder}
use Rattle.der_model.specs.Faults.{IsHeldIn}
use Rattle.der_model.specs.Structures.{form_structure, number_structure}
use Rattle.der_codec.specs.inner.KnownLeaves.{IsKnownUnder, IsKnownAt}
use Rattle.der_codec.specs.declared.known.Known.{Known}
use Rattle.der_codec.specs.declared.known.Known.TheVariants as known

pub simple_known : (m : DerMessage ℕ) (g : Graph ℕ Simple) (p : ℕ) (f : graph.Form ℕ Simple) (told : Bor Simple) (octets : List ℕ) (k : Known) → IsFormOf (Some (form.Simple told)) f → IsKnownUnder told.now octets k → IsKnownAt m (form_structure g p f) octets k
simple_known m g p (graph.Simple simple) told octets known.Octets is h = subst (λ z. ContentsUnder z octets (Ok (Bytes octets))) is h
simple_known m g p (graph.Simple simple) told octets (known.Code place) is h = subst (λ z. ContentsUnder z octets (Ok (Code place))) is h
simple_known m g p (graph.Simple simple) told octets known.Nothing is h = tt
simple_known m g p f told octets k is h = absurd is

-- the number of an amount that is some leaf
pub amount_held : (m : DerMessage ℕ) (f : graph.Form ℕ Simple) (told : ℕ) (base : Bor Simple) (octets : List ℕ) → IsFormOf (Some (form.Money told base)) f → (leaf : Leaf) × ContentsUnder base.now octets (Ok leaf) → IsHeldIn m (number_structure f) octets
amount_held m (graph.Money code number) told base octets is h = (h.0, subst (λ z. ContentsUnder z octets (Ok h.0)) is.1 h.1)
amount_held m f told base octets is h = absurd is
