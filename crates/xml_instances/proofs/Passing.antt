-- Tags that break no rule.
use Rattle.std.proofs.Common.{◌≡◌, ℕ, false, List, [], ◌∷◌, ◌++◌, Option, Some, None, refl, sym, ap, subst, ◌∙◌, reverse}
use Rattle.std.specs.Prelude.{Result, Ok, Err, IfOk, Bool, true, option_to_list}
use Rattle.std.specs.declared.alloc.AllocError.{AllocError}
use Rattle.lexical_core.specs.Tree.{Expanded, Item, Starts}
use Rattle.facets.specs.declared.simple.Simple.{Simple}
use Rattle.reference_check.specs.Forms.{Form}
use Rattle.reference_check.specs.Forms as form
use Rattle.reference_check.specs.Steps.{Came, EndsWith, Slotted, next}
use Rattle.message_model.specs.Message.{Message}
use Rattle.message_model.specs.Sound.{count_with}
use Rattle.xml_instances.specs.Levels.{Level, begun_level, path_in, round_start}
use Rattle.xml_instances.specs.EventFaults.{AttributeFault, has_currency}
use Rattle.xml_instances.specs.Open.{IsOpen, IsRound, IsElementBegun, IsEntered, IsStepped, IsPlaced, StandsOpen, StandFor, path_round}
use Rattle.xml_instances.specs.inner.Quick.{IsOurs, IsTargetOf, Passes, PassAll}
use Rattle.xml_instances.specs.declared.content.Content.{Content}
use Rattle.xml_instances.specs.declared.opened.Opened.{Opened}
use Rattle.xml_instances.specs.declared.opened.Opened.TheVariants as opened
use Rattle.xml_instances.proofs.Contents.{child_slot, in_round, placed_entered}
use Rattle.xml_instances.proofs.QuickRuns.{one_item}
use Rattle.xml_instances.proofs.QuickTags.{place_ours}

-- an element without attributes breaks no rule of them, unless it wants a currency
no_attributes : (m : Message ℕ) (f : Form ℕ Simple) (path : List ℕ) → has_currency f ≡ false → AttributeFault m (Some f) [] path None
no_attributes m (form.Sequence slots) path e = refl
no_attributes m (form.Choice slots) path e = refl
no_attributes m (form.Simple simple) path e = refl
no_attributes m (form.Money code number) path e = cc
no_attributes m form.Envelope path e = refl
no_attributes m form.Missing path e = refl
no_attributes m form.LeftOut path e = refl

entered : (m : Message ℕ) (ls : List (Level ℕ)) (between gone content : Content) (n : ℕ) → IsRound between m ls → gone.round.items ≡ between.round.items ++ option_to_list between.innermost → content.round ≡ gone.round
    → has_currency (m.forms n) ≡ false → IsElementBegun {T = Unit {0}} {E = AllocError} m (m.forms n) content (Ok tt) → IsEntered {T = Unit {0}} m ls (Some (m.forms n)) [] content (Ok tt)
entered m ls between gone content n h e same none (o, is, stands) = (
  no_attributes m (m.forms n) (path_in ls) none,
  subst (λ (x : Option Opened). StandsOpen m content.text x content.round.items (begun_level (m.forms n) ∷ ls)) (sym is)
      (stands, subst (λ (x : List Opened). StandFor m (reverse x) ls) (sym (ap (λ v. v.items) same)) (in_round m ls between gone h e)),
)

-- an element starts in one with elements
pub started : (m : Message ℕ) (ls : List (Level ℕ)) (n : Expanded) (local : List ℕ) (old between gone content : Content) (number target k : ℕ) (last : Option ℕ) (count again : ℕ)
    → old.innermost ≡ Some (opened.Parent number last count) → between.innermost ≡ Some (opened.Parent number (Some k) again) → again ≡ count_with last count k → between.round ≡ old.round
    → IsOpen old m ls → IsOurs m ls n → n.local ≡ local → IsTargetOf m.forms number k target → ((d : List ℕ) → Came (m.forms number) d → EndsWith d last count → next (m.forms number) d local ≡ Slotted k)
    → ((d : List ℕ) → Came (m.forms number) d → EndsWith d last count → next (m.forms number) d local ≡ Slotted k → Came (m.forms number) (d ++ k ∷ []) × EndsWith (d ++ k ∷ []) (Some k) (count_with last count k))
    → gone.round.items ≡ between.round.items ++ option_to_list between.innermost → content.round ≡ gone.round → IsElementBegun {T = Unit {0}} {E = AllocError} m (m.forms target) content (Ok tt) → Passes m ls (Starts n []) content
started m ls n local old between gone content number target k last count again is is_then counted same h ours e (s, found, aim, none) longer comes gone_in kept begins =
    let stepped : IsStepped m.forms number last count k between.innermost (Ok (Some target)) = (s, found, ap Some aim, is_then ∙ ap (λ x. Some (opened.Parent number (Some k) x)) counted) in
    let placed : IsPlaced m ls n between (Ok (Some target)) =
    place_ours m ls n local between old.innermost number last count old.text old.round.items (Ok (Some target)) is (ap (λ v. v.items) same) h ours e
    (λ d came ends. child_slot m number d local (path_round m.forms old.round.items) last count k between.innermost (Ok (Some target)) stepped (longer d came ends) (comes d came ends (longer d came ends))) in
    placed_entered {T = Unit {0}} m ls n [] between content (Some target) (Ok tt) placed (λ round. entered m (round_start ls n) between gone content target round gone_in kept none begins)

-- one event is all that a tag has
pub passes_one : {E : Type 0} (m : Message ℕ) (ls : List (Level ℕ)) (item : Item) (content : Content) (r : Result Bool E) → IfOk r (λ done. done ≡ true → Passes m ls item content) → IfOk r (λ done. done ≡ true → PassAll m ls (item ∷ []) content)
passes_one m ls item content (Ok done) h = λ q. one_item {T = Unit {0}} m ls item content (Ok tt) (h q)
passes_one m ls item content (Err e) h = tt
