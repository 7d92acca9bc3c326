-- How many bytes are held for the text of the innermost element.
use Rattle.std.proofs.Common.{◌≡◌, ℕ, List, [], ◌∷◌, Option, Some, None, refl, sym, subst, ◌∙◌, length}
use Rattle.facets.specs.declared.simple.Simple.{Simple}
use Rattle.facets.specs.LeafChecks.{IsHeldWithin, leaf_limit}
use Rattle.facets.specs.LeafVerdicts.{IsFreeText}
use Rattle.message_model.specs.Message.{Message}
use Rattle.xml_instances.specs.Levels.{Level, Parent, Leaf, Envelope, Foreign}
use Rattle.xml_instances.specs.Open.{HoldsText, StandsFor, StandsOpen}
use Rattle.xml_instances.specs.Scratch.{IsScratchWithin}
use Rattle.xml_instances.specs.Verdicts.{HasFreeText, AreVerdicts, IsTextVerdict, IsLean}
use Rattle.xml_instances.specs.declared.spare.Checks.{Checks}
use Rattle.xml_instances.specs.declared.content.Content.{Content}
use Rattle.xml_instances.specs.declared.content.OpenText.{OpenText}
use Rattle.xml_instances.specs.declared.opened.Opened.{Opened}
use Rattle.xml_instances.specs.declared.opened.Opened.TheVariants as opened
use Rattle.xml_instances.proofs.QuickRuns.{IsNoText}

-- that of its judge, where it has a text
pub of_text : (m : Message ℕ) (ls : List (Level ℕ)) (text : Option OpenText) (o : Option Opened) (round : List Opened) (bytes : ℕ) → o ≡ Some opened.Text
    → ((simple : Simple) (taken : List ℕ) → HoldsText m text simple taken → IsHeldWithin (leaf_limit simple) (length taken) bytes) → StandsOpen m text o round ls → IsScratchWithin ls bytes
of_text m ls text o round bytes is bound h = by ls (subst (λ (x : Option Opened). StandsOpen m text x round ls) is h)
  where
    at : (l : Level ℕ) (ls : List (Level ℕ)) → StandsFor m text opened.Text l → IsScratchWithin (l ∷ ls) bytes
    at (Leaf simple taken) ls s = bound simple taken s
    at (Parent f d) ls s = absurd s
    at (Envelope has) ls s = absurd s
    at Foreign ls s = absurd s

    by : (ls : List (Level ℕ)) → StandsOpen m text (Some opened.Text) round ls → IsScratchWithin ls bytes
    by [] h = absurd h
    by (l ∷ ls) h = at l ls h.0

-- none, where it has none
pub of_none : (m : Message ℕ) (ls : List (Level ℕ)) (text : Option OpenText) (o p : Option Opened) (round : List Opened) → o ≡ p → IsNoText p → StandsOpen m text o round ls → IsScratchWithin ls 0
of_none m ls text o p round is none h = by p ls none (subst (λ (x : Option Opened). StandsOpen m text x round ls) is h)
  where
    at : (e : Opened) (l : Level ℕ) (ls : List (Level ℕ)) → IsNoText (Some e) → StandsFor m text e l → IsScratchWithin (l ∷ ls) 0
    at e (Parent f d) ls none s = refl
    at e (Envelope has) ls none s = refl
    at e Foreign ls none s = refl
    at opened.Text (Leaf simple taken) ls none s = absurd none
    at opened.Foreign (Leaf simple taken) ls none s = absurd s
    at (opened.Envelope filled) (Leaf simple taken) ls none s = absurd s
    at (opened.Parent n last count) (Leaf simple taken) ls none s = absurd s

    by : (o : Option Opened) (ls : List (Level ℕ)) → IsNoText o → StandsOpen m text o round ls → IsScratchWithin ls 0
    by None [] none h = refl
    by None (l ∷ ls) none h = absurd h
    by (Some e) [] none h = absurd h
    by (Some e) (l ∷ ls) none h = at e l ls none h.0

-- of a text without codes
pub of_free : (m : Message ℕ) (ls : List (Level ℕ)) (text : Option OpenText) (o : Option Opened) (round : List Opened) (bytes : ℕ) → o ≡ Some opened.Text
    → ((simple : Simple) (taken : List ℕ) → HoldsText m text simple taken → IsFreeText simple → bytes ≡ 0) → StandsOpen m text o round ls → HasFreeText ls → bytes ≡ 0
of_free m ls text o round bytes is none h free = by ls (subst (λ (x : Option Opened). StandsOpen m text x round ls) is h) free
  where
    at : (l : Level ℕ) (ls : List (Level ℕ)) → StandsFor m text opened.Text l → HasFreeText (l ∷ ls) → bytes ≡ 0
    at (Leaf simple taken) ls s free = none simple taken s free
    at (Parent f d) ls s free = absurd free
    at (Envelope has) ls s free = absurd free
    at Foreign ls s free = absurd free

    by : (ls : List (Level ℕ)) → StandsOpen m text (Some opened.Text) round ls → HasFreeText ls → bytes ≡ 0
    by [] h free = absurd free
    by (l ∷ ls) h free = at l ls h.0 free

-- what keeps no leaf goes on so where its parts are the same
pub lean_same : (old new : Content) → new.pieces ≡ old.pieces → new.checks ≡ old.checks → new.text ≡ old.text → IsLean old → IsLean new
lean_same old new p c t h = record { bare = p ∙ h.bare; kept = subst (λ (x : Checks). AreVerdicts x) (sym c) h.kept; text = subst (λ (x : Option OpenText). IsTextVerdict x) (sym t) h.text }
