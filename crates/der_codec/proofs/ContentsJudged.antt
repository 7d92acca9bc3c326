-- Contents in a value, by those of its simple type.
use Rattle.std.proofs.Common.{◌≡◌, ℕ, List, Some, Result, Ok, Err, refl, sym, ap, subst, Bor}
use Rattle.data_types.specs.Leaf.{Leaf}
use Rattle.data_types.specs.declared.leaf.LeafRef.{LeafRef}
use Rattle.facets.specs.declared.simple.Simple.{Simple}
use Rattle.reference_check.specs.Forms as graph
use Rattle.reference_check.specs.Forms.{Graph, text_type}
use Rattle.message_model.specs.Views.{IsFormOf}
use Rattle.message_model.specs.declared.model.Form.TheVariants as form
use Rattle.der_model.specs.DerMessage.{DerMessage}
use Rattle.der_model.specs.Faults.{IsHeldIn}
use Rattle.der_model.specs.Structures.{Structure, Holds, LeafOf, Fragment, form_structure, number_structure}
use Rattle.der_codec.specs.Judging.{IsJudged, HoldsLeaf, IsJudgedAt}
use Rattle.der_codec.specs.Rooms.{HasNoEnvelopes}
use Rattle.der_codec.specs.declared.checks.Refusal.TheVariants as refused
use Rattle.der_codec.specs.declared.checks.Refusal.{Refusal}

pub judged : (m : DerMessage ℕ) (simple : Simple) (octets : List ℕ) (result : Result LeafRef Refusal) → IsJudged simple octets result → IsJudgedAt m (Holds (LeafOf simple)) octets result
judged m simple octets (Ok a) h = h
judged m simple octets (Err (refused.Breaks rule)) h = h
judged m simple octets (Err refused.Memory) h = tt

pub money_judged : (m : DerMessage ℕ) (f : graph.Form ℕ Simple) (told : ℕ) (base : Bor Simple) (octets : List ℕ) (result : Result LeafRef Refusal) → IsFormOf (Some (form.Money told base)) f → IsJudged base.now octets result → IsJudgedAt m (number_structure f) octets result
money_judged m (graph.Money code number) told base octets result is h = judged m number octets result (subst (λ z. IsJudged z octets result) is.1 h)
money_judged m f told base octets result is h = absurd is

pub simple_judged : (m : DerMessage ℕ) (g : Graph ℕ Simple) (p : ℕ) (f : graph.Form ℕ Simple) (told : Bor Simple) (octets : List ℕ) (result : Result LeafRef Refusal) → IsFormOf (Some (form.Simple told)) f → IsJudged told.now octets result → IsJudgedAt m (form_structure g p f) octets result
simple_judged m g p (graph.Simple simple) told octets result is h = judged m simple octets result (subst (λ z. IsJudged z octets result) is h)
simple_judged m g p f told octets result is h = absurd is

pub envelope_judged : (m : DerMessage ℕ) (g : Graph ℕ Simple) (p : ℕ) (f : graph.Form ℕ Simple) (octets : List ℕ) (result : Result LeafRef Refusal) → IsFormOf (Some form.Envelope) f → IsJudgedAt m (Holds Fragment) octets result → IsJudgedAt m (form_structure g p f) octets result
envelope_judged m g p graph.Envelope octets result is h = h
envelope_judged m g p f octets result is h = absurd is

-- the simple type of the number of an amount, and of a value
pub money_text : (f : graph.Form ℕ Simple) (told : ℕ) (base : Bor Simple) → IsFormOf (Some (form.Money told base)) f → text_type f ≡ Some base.now
money_text (graph.Money code number) told base is = ap Some (sym is.1)
money_text f told base is = absurd is

pub simple_text : (f : graph.Form ℕ Simple) (told : Bor Simple) → IsFormOf (Some (form.Simple told)) f → text_type f ≡ Some told.now
simple_text (graph.Simple simple) told is = ap Some (sym is)
simple_text f told is = absurd is

-- a leaf that is held is some contents
pub holds : (m : DerMessage ℕ) (s : Structure ℕ) (octets : List ℕ) (leaf : Leaf) → HoldsLeaf m s octets leaf → IsHeldIn m s octets
holds m (Holds (LeafOf simple)) octets leaf h = (leaf, h)
holds m (Holds Fragment) octets leaf h = h.0
holds m s octets leaf h = absurd h

-- the form of a type, where it is a simple one or an envelope
pub simple_form : (f : graph.Form ℕ Simple) (told : Bor Simple) → IsFormOf (Some (form.Simple told)) f → f ≡ graph.Simple told.now
simple_form (graph.Simple simple) told is = ap graph.Simple (sym is)
simple_form f told is = absurd is

pub envelope_form : (f : graph.Form ℕ Simple) → IsFormOf (Some form.Envelope) f → f ≡ graph.Envelope
envelope_form graph.Envelope is = refl
envelope_form f is = absurd is

pub no_envelope : (g : Graph ℕ Simple) (p : ℕ) → HasNoEnvelopes g → IsFormOf (Some form.Envelope) (g p) → ⊥
no_envelope g p none is = none p (envelope_form (g p) is)
