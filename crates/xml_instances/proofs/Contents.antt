-- The parts of the content, one by one.
use Rattle.std.proofs.Common.{◌≡◌, ℕ, ◌+◌, Bool, true, false, List, [], ◌∷◌, ◌++◌, Option, Some, None, refl, sym, ap, subst, ◌∙◌, reverse, take, append-nil, ◌-◌, ◌&&◌}
use Rattle.std.specs.Prelude.{Result, Ok, Err, OnOk, MatchOption, is_err, not, codes, option_to_list}
use Rattle.std.specs.Borrow.{Bor}
use Rattle.std.proofs.lemmas.List.{reverse-append}
use Rattle.std.specs.Str.{bytes_eq, chars}
use Rattle.lexical_core.specs.declared.rule.Rule.{Rule}
use Rattle.lexical_core.specs.declared.rule.Rule.TheVariants as rule
use Rattle.lexical_core.specs.Tree.{Expanded, Entry, Starts, Char, Ends}
use Rattle.lexical_core.specs.Names.{attribute_value}
use Rattle.facets.specs.declared.simple.Simple.{Simple}
use Rattle.markup.specs.Chars.{is_space}
use Rattle.reference_check.specs.Forms.{Graph, Form, text_type}
use Rattle.reference_check.specs.Forms as form
use Rattle.reference_check.specs.Steps.{NextSlot, Slotted, next, Came, EndsWith}
use Rattle.message_model.specs.Message.{Message}
use Rattle.message_model.specs.Views.{IsFormOf}
use Rattle.message_model.specs.declared.model.Form.{Form as ToldForm}
use Rattle.message_model.specs.declared.model.Form.TheVariants as told_form
use Rattle.message_model.specs.Writes.{name_in_namespace, currency}
use Rattle.message_model.specs.Sound.{count_with}
use Rattle.xml_instances.specs.Judges.{HasJudgeTaken}
use Rattle.xml_instances.specs.Levels.{Level, Parent, Leaf, Envelope, Foreign, levels_after, with_char, level_of_start, begun_level, slot_form, form_by, form_of_start, round_start, with_slot, path_in}
use Rattle.xml_instances.specs.EventFaults.{Broken, broken_rule, EventFault, AttributeFault, EndFault, LeafFault, place_fault, next_fault, Unless, space_fault, is_bare, char_fault, has_currency, CurrencyFault}
use Rattle.xml_instances.specs.inner.Known.{has_unknown}
use Rattle.xml_instances.specs.Open.{IsOpen, IsCodeForm, HoldsText, StandsFor, StandFor, StandsOpen, IsRound, path_round, RefusesWith, Says, IsItemTaken, form_at, IsPlaced, IsEntered, IsEnvelopeFilled, IsChild, IsStepped, IsElementBegun}
use Rattle.xml_instances.specs.Verdicts.{IsVerdictJudge, IsTextVerdict}
use Rattle.xml_instances.specs.declared.content.Content.{Content}
use Rattle.xml_instances.specs.declared.content.OpenText.{OpenText}
use Rattle.xml_instances.specs.declared.opened.Opened.{Opened}
use Rattle.xml_instances.specs.declared.opened.Opened.TheVariants as opened
use Rattle.xml_instances.specs.declared.opened.Refusal.{Refusal}
use Rattle.xml_instances.specs.declared.opened.Refusal.TheVariants.{Breaks, Memory}
use Rattle.xml_instances.proofs.Paths.{names_are}

-- what the open text has is what its check has
pub text_simple : (m : Message ℕ) (t : OpenText) (s simple : Simple) (text : List ℕ) → text_type (m.forms t.number) ≡ Some s → HoldsText m (Some t) simple text → (s ≡ simple) × HasJudgeTaken t.judge.value s text
text_simple m t s simple text e h = (let same : s ≡ simple = (let q : Some s ≡ Some simple = sym e ∙ h.0 in cc) in (same, subst (λ (x : Simple). HasJudgeTaken t.judge.value x text) (sym same) h.1))

pub held : (m : Message ℕ) (text : Option OpenText) (t : OpenText) (simple : Simple) (taken : List ℕ) → text ≡ Some t → HoldsText m text simple taken → HoldsText m (Some t) simple taken
held m text t simple taken e h = subst (λ (x : Option OpenText). HoldsText m x simple taken) e h

pub verdict_text : (text : Option OpenText) (t : OpenText) → text ≡ Some t → IsTextVerdict text → IsVerdictJudge t.judge.value
verdict_text text t e h = subst IsTextVerdict e h

pub says_at : {T : Type 0} (simple s : Simple) (text path : List ℕ) (r : Result T Refusal) → s ≡ simple → Says (LeafFault s text (path ++ [])) r → Says (LeafFault simple text path) r
says_at simple s text path r e h = subst (λ (x : Simple). Says (LeafFault x text path) r) e (subst (λ (p : List ℕ). Says (LeafFault s text p) r) (append-nil path) h)

-- ---- an element that begins

begun_text : {E : Type 0} (m : Message ℕ) (f : Form ℕ Simple) (simple : Simple) (content : Content) (r : Result (Unit {0}) E) → begun_level f ≡ Leaf simple []
    → OnOk r ((content.innermost ≡ Some opened.Text) × HoldsText m content.text simple []) → IsElementBegun m f content r
begun_text m f simple content (Ok x) e h = (opened.Text, h.0, subst (StandsFor m content.text opened.Text) (sym e) h.1)
begun_text m f simple content (Err x) e h = tt

-- the form that is told
simple_form : (f : Form ℕ Simple) (told : ToldForm) (simple : Bor Simple) → told ≡ told_form.Simple simple → IsFormOf (Some told) f → f ≡ form.Simple simple.now
simple_form f told simple e h = go f (subst (λ (x : ToldForm). IsFormOf (Some x) f) e h)
  where
    go : (f : Form ℕ Simple) → IsFormOf (Some (told_form.Simple simple)) f → f ≡ form.Simple simple.now
    go (form.Simple s) h = ap (λ x. form.Simple x) (sym h)
    go (form.Sequence s) h = absurd h
    go (form.Choice s) h = absurd h
    go (form.Money c s) h = absurd h
    go form.Envelope h = absurd h
    go form.LeftOut h = absurd h
    go form.Missing h = absurd h

pub money_form : (f : Form ℕ Simple) (told : ToldForm) (code : ℕ) (base : Bor Simple) → told ≡ told_form.Money code base → IsFormOf (Some told) f → f ≡ form.Money code base.now
money_form f told code base e h = go f (subst (λ (x : ToldForm). IsFormOf (Some x) f) e h)
  where
    go : (f : Form ℕ Simple) → IsFormOf (Some (told_form.Money code base)) f → f ≡ form.Money code base.now
    go (form.Money c s) h = ap (λ x. form.Money x s) (sym h.0) ∙ ap (λ x. form.Money code x) (sym h.1)
    go (form.Simple s) h = absurd h
    go (form.Sequence s) h = absurd h
    go (form.Choice s) h = absurd h
    go form.Envelope h = absurd h
    go form.LeftOut h = absurd h
    go form.Missing h = absurd h

pub begun_simple : {E : Type 0} (m : Message ℕ) (f : Form ℕ Simple) (told : ToldForm) (simple : Bor Simple) (content : Content) (r : Result (Unit {0}) E) → told ≡ told_form.Simple simple → IsFormOf (Some told) f
    → OnOk r ((content.innermost ≡ Some opened.Text) × HoldsText m content.text simple.now []) → IsElementBegun m f content r
begun_simple m f told simple content r e h k = begun_text m f simple.now content r (ap begun_level (simple_form f told simple e h)) k

pub begun_money : {E : Type 0} (m : Message ℕ) (f : Form ℕ Simple) (told : ToldForm) (code : ℕ) (base : Bor Simple) (content : Content) (r : Result (Unit {0}) E) → told ≡ told_form.Money code base → IsFormOf (Some told) f
    → OnOk r ((content.innermost ≡ Some opened.Text) × HoldsText m content.text base.now []) → IsElementBegun m f content r
begun_money m f told code base content r e h k = begun_text m f base.now content r (ap begun_level (money_form f told code base e h)) k

-- ---- the end of an element

-- an element round another stands as well whatever text is open
pub stands_in : (m : Message ℕ) (text : Option OpenText) (e : Opened) (l : Level ℕ) → StandsFor m None e l → StandsFor m text e l
stands_in m text (opened.Parent n last count) (Parent f d) h = h
stands_in m text (opened.Envelope filled) (Envelope has) h = h
stands_in m text opened.Foreign Foreign h = tt
stands_in m text opened.Text (Leaf simple taken) h = absurd h
stands_in m text (opened.Parent n last count) (Leaf simple taken) h = absurd h
stands_in m text (opened.Parent n last count) (Envelope has) h = absurd h
stands_in m text (opened.Parent n last count) Foreign h = absurd h
stands_in m text (opened.Envelope filled) (Parent f d) h = absurd h
stands_in m text (opened.Envelope filled) (Leaf simple taken) h = absurd h
stands_in m text (opened.Envelope filled) Foreign h = absurd h
stands_in m text opened.Foreign (Parent f d) h = absurd h
stands_in m text opened.Foreign (Leaf simple taken) h = absurd h
stands_in m text opened.Foreign (Envelope has) h = absurd h
stands_in m text opened.Text (Parent f d) h = absurd h
stands_in m text opened.Text (Envelope has) h = absurd h
stands_in m text opened.Text Foreign h = absurd h

-- the last of those round it is innermost then
pub stands_popped : (m : Message ℕ) (text : Option OpenText) (round rest : List Opened) (o : Option Opened) (ls : List (Level ℕ)) → round ≡ rest ++ option_to_list o → StandFor m (reverse round) ls → (o ≡ None → rest ≡ []) → StandsOpen m text o rest ls
stands_popped m text round rest None [] e h none = none refl
stands_popped m text round rest None (l ∷ ls) e h none = absurd (subst (λ (x : List Opened). StandFor m (reverse x) (l ∷ ls)) (e ∙ (append-nil rest ∙ none refl)) h)
stands_popped m text round rest (Some x) ls e h none = by ls (subst (λ (x : List Opened). StandFor m x ls) (ap reverse e ∙ reverse-append rest (x ∷ [])) h)
  where
    by : (ls : List (Level ℕ)) → StandFor m (x ∷ reverse rest) ls → StandsOpen m text (Some x) rest ls
    by [] h = absurd h
    by (l ∷ ls) h = (stands_in m text x l h.0, h.1)

pub ended : (m : Message ℕ) (ls : List (Level ℕ)) (n : Expanded) (content : Content) (e : Opened) (text : Option OpenText) (round : List Opened) → StandsOpen m text (Some e) round ls
    → ((l : Level ℕ) → StandsFor m text e l → EndFault l (path_round m.forms round) None) → round ≡ content.round.items ++ option_to_list content.innermost → (content.innermost ≡ None → content.round.items ≡ [])
    → EventFault m ls (Ends n) None × IsOpen content m (levels_after m ls (Ends n))
ended m [] n content e text round h fine q none = absurd h
ended m (l ∷ ls) n content e text round h fine q none =
    (subst (λ (p : List ℕ). EndFault l p None) (names_are m (reverse round) ls h.1) (fine l h.0), stands_popped m content.text round content.round.items content.innermost ls q h.1 none)

pub ended_out : (m : Message ℕ) (ls : List (Level ℕ)) (n : Expanded) (content : Content) (text : Option OpenText) (round : List Opened) → StandsOpen m text None round ls → round ≡ content.round.items ++ option_to_list content.innermost
    → EventFault m ls (Ends n) None × IsOpen content m (levels_after m ls (Ends n))
ended_out m [] n content text round h q = (refl, stands_popped m content.text round content.round.items content.innermost [] q (subst (λ (x : List Opened). StandFor m (reverse x) []) (sym h) tt) (λ e. sym (append-nil _) ∙ (ap (λ o. content.round.items ++ option_to_list o) (sym e) ∙ (sym q ∙ h))))
ended_out m (l ∷ ls) n content text round h q = absurd h

pub not_ended : (T : Type 0) (m : Message ℕ) (ls : List (Level ℕ)) (n : Expanded) (content : Content) (e : Opened) (text : Option OpenText) (round : List Opened) (r : Refusal) → StandsOpen m text (Some e) round ls
    → ((l : Level ℕ) → StandsFor m text e l → Says {T = T} (EndFault l (path_round m.forms round)) (Err r)) → IsItemTaken {T = T} m ls (Ends n) content (Err r)
not_ended T m [] n content e text round r h broken = absurd h
not_ended T m (l ∷ ls) n content e text round (Breaks rule path) h broken = subst (λ (p : List ℕ). EndFault l p (Some (record { rule = rule; path = path }))) (names_are m (reverse round) ls h.1) (broken l h.0)
not_ended T m (l ∷ ls) n content e text round Memory h broken = tt

pub ended_all : (m : Message ℕ) (ls : List (Level ℕ)) (n : Expanded) (content : Content) (o : Option Opened) (text : Option OpenText) (round : List Opened) → StandsOpen m text o round ls
    → ((l : Level ℕ) (e : Opened) → o ≡ Some e → StandsFor m text e l → EndFault l (path_round m.forms round) None) → round ≡ content.round.items ++ option_to_list content.innermost → (content.innermost ≡ None → content.round.items ≡ [])
    → EventFault m ls (Ends n) None × IsOpen content m (levels_after m ls (Ends n))
ended_all m ls n content (Some e) text round h fine q none = ended m ls n content e text round h (λ l s. fine l e refl s) q none
ended_all m ls n content None text round h fine q none = ended_out m ls n content text round h q

pub not_ended_all : (T : Type 0) (m : Message ℕ) (ls : List (Level ℕ)) (n : Expanded) (content : Content) (o : Option Opened) (text : Option OpenText) (round : List Opened) (r : Refusal) → StandsOpen m text o round ls
    → (o ≡ None → ⊥) → ((l : Level ℕ) (e : Opened) → o ≡ Some e → StandsFor m text e l → Says {T = T} (EndFault l (path_round m.forms round)) (Err r)) → IsItemTaken {T = T} m ls (Ends n) content (Err r)
not_ended_all T m ls n content (Some e) text round r h some fault = not_ended T m ls n content e text round r h (λ l s. fault l e refl s)
not_ended_all T m ls n content None text round r h some fault = absurd (some refl)

pub popped_none : (o : Option Opened) (n k : ℕ) (xs rest : List Opened) → MatchOption o ((n ≡ 0) × (k ≡ 0)) (λ _. k + 1 ≡ n) → rest ≡ take (n - 1) xs → o ≡ None → rest ≡ []
popped_none (Some x) n k xs rest h e q = cc
popped_none None n k xs rest h e q = e ∙ ap (λ v. take (v - 1) xs) h.0

pub text_ended : {T : Type 0} (m : Message ℕ) (text : Option OpenText) (o : Option Opened) (e : Opened) (l : Level ℕ) (path : List ℕ) (r : Result T Refusal) → o ≡ Some opened.Text → o ≡ Some e → StandsFor m text e l
    → ((simple : Simple) (t : List ℕ) → HoldsText m text simple t → Says (LeafFault simple t path) r) → Says (EndFault l path) r
text_ended {T} m text o e l path r is same h k = go l (subst (λ (x : Opened). StandsFor m text x l) (let q : Some e ≡ Some opened.Text = sym same ∙ is in let q2 : e ≡ opened.Text = cc in q2) h)
  where
    go : (l : Level ℕ) → StandsFor m text opened.Text l → Says (EndFault l path) r
    go (Leaf simple t) h = k simple t h
    go (Parent f d) h = absurd h
    go (Envelope has) h = absurd h
    go Foreign h = absurd h

-- ---- a character

pub char_text : (m : Message ℕ) (ls : List (Level ℕ)) (c : ℕ) (content : Content) (old : Option OpenText) (o : Option Opened) (round : List Opened) → o ≡ Some opened.Text → content.innermost ≡ o → content.round.items ≡ round → StandsOpen m old o round ls
    → ((simple : Simple) (t : List ℕ) → HoldsText m old simple t → HoldsText m content.text simple (t ++ c ∷ [])) → EventFault m ls (Char c) None × IsOpen content m (levels_after m ls (Char c))
char_text m ls c content old o round is kept same h taken = by ls (subst (λ (x : Option Opened). StandsOpen m old x round ls) is h)
  where
    here : (l : Level ℕ) (ls : List (Level ℕ)) → StandsFor m old opened.Text l → StandFor m (reverse round) ls → EventFault m (l ∷ ls) (Char c) None × StandsOpen m content.text (Some opened.Text) round (levels_after m (l ∷ ls) (Char c))
    here (Leaf simple t) ls s r = (refl, (taken simple t s, r))
    here (Parent f d) ls s r = absurd s
    here (Envelope has) ls s r = absurd s
    here Foreign ls s r = absurd s

    by : (ls : List (Level ℕ)) → StandsOpen m old (Some opened.Text) round ls → EventFault m ls (Char c) None × IsOpen content m (levels_after m ls (Char c))
    by [] h = absurd h
    by (l ∷ ls) h =
        let k = here l ls h.0 h.1 in
        (k.0, subst (λ (x : Option Opened). StandsOpen m content.text x content.round.items (levels_after m (l ∷ ls) (Char c))) (sym (kept ∙ is)) (subst (λ (x : List Opened). StandsOpen m content.text (Some opened.Text) x (levels_after m (l ∷ ls) (Char c))) (sym same) k.1))

char_space : {T : Type 0} (m : Message ℕ) (ls : List (Level ℕ)) (c : ℕ) (content : Content) (e : Opened) (fits : Bool) (r : Result T Refusal) → content.innermost ≡ Some e → IsOpen content m ls
    → ((l : Level ℕ) (path : List ℕ) → StandsFor m content.text e l → (char_fault l path c ≡ space_fault fits path) × (with_char l c ≡ l)) → Says (λ o. o ≡ space_fault fits (path_round m.forms content.round.items)) r → IsItemTaken m ls (Char c) content r
char_space {T} m ls c content e fits r is h same says = by ls h (subst (λ (x : Option Opened). StandsOpen m content.text x content.round.items ls) is h)
  where
    of_path : (l : Level ℕ) (ls : List (Level ℕ)) → StandsFor m content.text e l → StandFor m (reverse content.round.items) ls → char_fault l (path_in ls) c ≡ space_fault fits (path_round m.forms content.round.items)
    of_path l ls s k = (same l (path_in ls) s).0 ∙ ap (space_fault fits) (sym (names_are m (reverse content.round.items) ls k))

    answer : (r : Result T Refusal) (l : Level ℕ) (ls : List (Level ℕ)) → Says (λ o. o ≡ space_fault fits (path_round m.forms content.round.items)) r → IsOpen content m (l ∷ ls) → StandsFor m content.text e l → StandFor m (reverse content.round.items) ls → IsItemTaken m (l ∷ ls) (Char c) content r
    answer (Ok x) l ls w h s k = (w ∙ sym (of_path l ls s k), subst (λ (y : Level ℕ). IsOpen content m (y ∷ ls)) (sym (same l (path_in ls) s).1) h)
    answer (Err (Breaks q p)) l ls w h s k = w ∙ sym (of_path l ls s k)
    answer (Err Memory) l ls w h s k = tt

    by : (ls : List (Level ℕ)) → IsOpen content m ls → StandsOpen m content.text (Some e) content.round.items ls → IsItemTaken m ls (Char c) content r
    by [] h k = absurd k
    by (l ∷ ls) h k = answer r l ls says h k.0 k.1

pub char_envelope : {T : Type 0} (m : Message ℕ) (ls : List (Level ℕ)) (c : ℕ) (content : Content) (filled fits : Bool) (r : Result T Refusal) → content.innermost ≡ Some (opened.Envelope filled) → IsOpen content m ls
    → fits ≡ is_space c → Says (λ o. o ≡ space_fault fits (path_round m.forms content.round.items)) r → IsItemTaken m ls (Char c) content r
char_envelope m ls c content filled fits r is h e says = char_space m ls c content (opened.Envelope filled) fits r is h same says
  where
    same : (l : Level ℕ) (path : List ℕ) → StandsFor m content.text (opened.Envelope filled) l → (char_fault l path c ≡ space_fault fits path) × (with_char l c ≡ l)
    same (Envelope has) path h = (ap (λ v. space_fault v path) (sym e), refl)
    same (Parent f d) path h = absurd h
    same (Leaf simple t) path h = absurd h
    same Foreign path h = absurd h

pub char_parent : {T : Type 0} (m : Message ℕ) (ls : List (Level ℕ)) (c : ℕ) (content : Content) (n : ℕ) (last : Option ℕ) (count : ℕ) (fits : Bool) (r : Result T Refusal) → content.innermost ≡ Some (opened.Parent n last count) → IsOpen content m ls
    → fits ≡ (not (is_bare (m.forms n)) && is_space c) → Says (λ o. o ≡ space_fault fits (path_round m.forms content.round.items)) r → IsItemTaken m ls (Char c) content r
char_parent m ls c content n last count fits r is h e says = char_space m ls c content (opened.Parent n last count) fits r is h same says
  where
    same : (l : Level ℕ) (path : List ℕ) → StandsFor m content.text (opened.Parent n last count) l → (char_fault l path c ≡ space_fault fits path) × (with_char l c ≡ l)
    same (Parent f d) path h = (ap (λ v. space_fault v path) (ap (λ g. not (is_bare g) && is_space c) (sym h.0) ∙ sym e), refl)
    same (Envelope has) path h = absurd h
    same (Leaf simple t) path h = absurd h
    same Foreign path h = absurd h

-- ---- the place of an element that starts

pub child_slot : (m : Message ℕ) (n : ℕ) (d tag path : List ℕ) (last : Option ℕ) (count k : ℕ) (innermost : Option Opened) (r : Result (Option ℕ) Refusal) → IsStepped m.forms n last count k innermost r → next (m.forms n) d tag ≡ Slotted k
    → Came (m.forms n) (d ++ k ∷ []) × EndsWith (d ++ k ∷ []) (Some k) (count_with last count k) → IsChild m (m.forms n) d path tag innermost r
child_slot m n d tag path last count k innermost (Ok type) (s, found, t, i) e longer =
    subst (λ (o : Option Opened). IsChild m (m.forms n) d path tag o (Ok type)) (sym i) (k, e, (ap (slot_form m.forms) found ∙ ap (form_at m) (sym t)), (refl, longer.0, longer.1))
child_slot m n d tag path last count k innermost (Err (Breaks q p)) h e longer = absurd h
child_slot m n d tag path last count k None (Err Memory) h e longer = tt
child_slot m n d tag path last count k (Some x) (Err Memory) h e longer = tt

same_broken : (rule q : Rule) (path p : List ℕ) → q ≡ rule → p ≡ path ++ [] → broken_rule rule path ≡ Some (record { rule = q; path = p })
same_broken rule q path p e f = rw (e, f, append-nil path) refl

refused_at : (m : Message ℕ) (ls : List (Level ℕ)) (n : Expanded) (content : Content) (e : Opened) (old : Option OpenText) (round : List Opened) (rule : Rule) (r : Refusal) → StandsOpen m old (Some e) round ls
    → ((l : Level ℕ) (ls : List (Level ℕ)) → StandsFor m old e l → place_fault m (l ∷ ls) n ≡ broken_rule rule (path_in ls)) → RefusesWith rule (path_round m.forms round ++ []) r → IsPlaced m ls n content (Err r)
refused_at m [] n content e old round rule r h fault told = absurd h
refused_at m (l ∷ ls) n content e old round rule (Breaks q p) h fault told =
    fault l ls h.0 ∙ (ap (broken_rule rule) (sym (names_are m (reverse round) ls h.1)) ∙ same_broken rule q (path_round m.forms round) p told.0 told.1)
refused_at m (l ∷ ls) n content e old round rule Memory h fault told = tt

pub place_text : (m : Message ℕ) (ls : List (Level ℕ)) (n : Expanded) (content : Content) (o : Option Opened) (old : Option OpenText) (round : List Opened) (r : Refusal) → o ≡ Some opened.Text → StandsOpen m old o round ls
    → RefusesWith rule.ElementInSimple (path_round m.forms round ++ []) r → IsPlaced m ls n content (Err r)
place_text m ls n content o old round r is h told = refused_at m ls n content opened.Text old round rule.ElementInSimple r (subst (λ (x : Option Opened). StandsOpen m old x round ls) is h) fault told
  where
    fault : (l : Level ℕ) (ls : List (Level ℕ)) → StandsFor m old opened.Text l → place_fault m (l ∷ ls) n ≡ broken_rule rule.ElementInSimple (path_in ls)
    fault (Leaf simple t) ls h = refl
    fault (Parent f d) ls h = absurd h
    fault (Envelope has) ls h = absurd h
    fault Foreign ls h = absurd h

pub place_other : (m : Message ℕ) (ls : List (Level ℕ)) (n : Expanded) (content : Content) (o : Option Opened) (number : ℕ) (last : Option ℕ) (count : ℕ) (old : Option OpenText) (round : List Opened) (r : Refusal)
    → o ≡ Some (opened.Parent number last count) → StandsOpen m old o round ls → bytes_eq n.namespace m.namespace ≡ false → RefusesWith rule.UnknownElement (path_round m.forms round ++ []) r → IsPlaced m ls n content (Err r)
place_other m ls n content o number last count old round r is h other told =
    refused_at m ls n content (opened.Parent number last count) old round rule.UnknownElement r (subst (λ (x : Option Opened). StandsOpen m old x round ls) is h) fault told
  where
    fault : (l : Level ℕ) (ls : List (Level ℕ)) → StandsFor m old (opened.Parent number last count) l → place_fault m (l ∷ ls) n ≡ broken_rule rule.UnknownElement (path_in ls)
    fault (Parent f d) ls h = rw other refl
    fault (Leaf simple t) ls h = absurd h
    fault (Envelope has) ls h = absurd h
    fault Foreign ls h = absurd h

round_of : (m : Message ℕ) (round : List Opened) (e : Opened) (l : Level ℕ) (ls : List (Level ℕ)) → StandsFor m None e l → StandFor m (reverse round) ls → StandFor m (reverse (round ++ e ∷ [])) (l ∷ ls)
round_of m round e l ls h k = subst (λ (x : List Opened). StandFor m x (l ∷ ls)) (sym (reverse-append round (e ∷ []))) (h, k)

is_round : (m : Message ℕ) (content : Content) (round : List Opened) (e : Opened) (l : Level ℕ) (ls : List (Level ℕ)) → content.round.items ≡ round → content.innermost ≡ Some e → StandsFor m None e l → StandFor m (reverse round) ls → IsRound content m (l ∷ ls)
is_round m content round e l ls q i h k =
    subst (λ (x : Option Opened). StandFor m (reverse (content.round.items ++ option_to_list x)) (l ∷ ls)) (sym i)
    (subst (λ (x : List Opened). StandFor m (reverse (x ++ e ∷ [])) (l ∷ ls)) (sym q) (round_of m round e l ls h k))

pub place_envelope : (m : Message ℕ) (ls : List (Level ℕ)) (n : Expanded) (content : Content) (o : Option Opened) (filled : Bool) (old : Option OpenText) (round : List Opened) (r : Result (Option ℕ) Refusal)
    → o ≡ Some (opened.Envelope filled) → content.round.items ≡ round → StandsOpen m old o round ls → IsEnvelopeFilled filled (path_round m.forms round) content.innermost r → IsPlaced m ls n content r
place_envelope m ls n content o filled old round r is q h told = by ls r (subst (λ (x : Option Opened). StandsOpen m old x round ls) is h) told
  where
    of_path : (has : Bool) (ls : List (Level ℕ)) (q : Rule) (p : List ℕ) → has ≡ true → StandFor m (reverse round) ls → q ≡ rule.TooMany → p ≡ path_round m.forms round → place_fault m (Envelope has ∷ ls) n ≡ Some (record { rule = q; path = p })
    of_path has ls q p e k f g = rw (e, f, g) (ap (broken_rule rule.TooMany) (sym (names_are m (reverse round) ls k)))

    here : (l : Level ℕ) (ls : List (Level ℕ)) (r : Result (Option ℕ) Refusal) → StandsFor m old (opened.Envelope filled) l → StandFor m (reverse round) ls → IsEnvelopeFilled filled (path_round m.forms round) content.innermost r → IsPlaced m (l ∷ ls) n content r
    here (Envelope has) ls (Ok type) s k (empty, t, i) = (let e : has ≡ false = sym s ∙ empty in rw e refl, ap (form_at m) (sym t), is_round m content round (opened.Envelope true) (Envelope true) ls q i refl k)
    here (Envelope has) ls (Err (Breaks f p)) s k (full, w, v) = of_path has ls f p (sym s ∙ full) k w v
    here (Envelope has) ls (Err Memory) s k t = tt
    here (Parent f d) ls r s k t = absurd s
    here (Leaf simple x) ls r s k t = absurd s
    here Foreign ls r s k t = absurd s

    by : (ls : List (Level ℕ)) (r : Result (Option ℕ) Refusal) → StandsOpen m old (Some (opened.Envelope filled)) round ls → IsEnvelopeFilled filled (path_round m.forms round) content.innermost r → IsPlaced m ls n content r
    by [] r h t = absurd h
    by (l ∷ ls) r h t = here l ls r h.0 h.1 t

pub place_child : (m : Message ℕ) (ls : List (Level ℕ)) (n : Expanded) (content : Content) (o : Option Opened) (number : ℕ) (last : Option ℕ) (count : ℕ) (old : Option OpenText) (round : List Opened) (r : Result (Option ℕ) Refusal)
    → o ≡ Some (opened.Parent number last count) → content.round.items ≡ round → StandsOpen m old o round ls → bytes_eq n.namespace m.namespace ≡ true
    → ((d : List ℕ) → Came (m.forms number) d → EndsWith d last count → IsChild m (m.forms number) d (path_round m.forms round) n.local content.innermost r) → IsPlaced m ls n content r
place_child m ls n content o number last count old round r is q h own child = by ls (subst (λ (x : Option Opened). StandsOpen m old x round ls) is h)
  where
    placed : (f : Form ℕ Simple) (d : List ℕ) (ls : List (Level ℕ)) (i : Option Opened) (r : Result (Option ℕ) Refusal) → content.innermost ≡ i → StandFor m (reverse round) ls → IsChild m f d (path_round m.forms round) n.local i r → IsPlaced m (Parent f d ∷ ls) n content r
    placed f d ls None (Ok type) e k c = absurd c
    placed f d ls (Some x) (Ok type) e k (slot, came, target, stands) =
        (rw (own, came) refl, ap (form_by m.forms f) came ∙ target, subst (λ (w : NextSlot). IsRound content m (Parent f (with_slot d w) ∷ ls)) (sym came) (is_round m content round x (Parent f (d ++ slot ∷ [])) ls q e stands k))
    placed f d ls None (Err (Breaks z p)) e k c = rw own (ap (λ v. next_fault v f (next f d n.local)) (sym (names_are m (reverse round) ls k)) ∙ c)
    placed f d ls (Some x) (Err (Breaks z p)) e k c = rw own (ap (λ v. next_fault v f (next f d n.local)) (sym (names_are m (reverse round) ls k)) ∙ c)
    placed f d ls None (Err Memory) e k c = tt
    placed f d ls (Some x) (Err Memory) e k c = tt

    here : (l : Level ℕ) (ls : List (Level ℕ)) → StandsFor m old (opened.Parent number last count) l → StandFor m (reverse round) ls → IsPlaced m (l ∷ ls) n content r
    here (Parent f d) ls (e, came, ends) k =
        placed f d ls content.innermost r refl k (subst (λ (g : Form ℕ Simple). IsChild m g d (path_round m.forms round) n.local content.innermost r) e (child d (subst (λ (g : Form ℕ Simple). Came g d) (sym e) came) ends))
    here (Envelope has) ls s k = absurd s
    here (Leaf simple x) ls s k = absurd s
    here Foreign ls s k = absurd s

    by : (ls : List (Level ℕ)) → StandsOpen m old (Some (opened.Parent number last count)) round ls → IsPlaced m ls n content r
    by [] h = absurd h
    by (l ∷ ls) h = here l ls h.0 h.1

pub placed_entered : {T : Type 0} (m : Message ℕ) (ls : List (Level ℕ)) (n : Expanded) (attributes : List Entry) (between content : Content) (type : Option ℕ) (r : Result T Refusal) → IsPlaced m ls n between (Ok type)
    → (IsRound between m (round_start ls n) → IsEntered m (round_start ls n) (form_at m type) attributes content r) → IsItemTaken m ls (Starts n attributes) content r
placed_entered {T} m ls n attributes between content type r (place, form_is, round) entered = go r (entered round)
  where
    unless : (o : Option Broken) → AttributeFault m (form_at m type) attributes (path_in (round_start ls n)) o → Unless (place_fault m ls n) (AttributeFault m (form_of_start m ls n) attributes (path_in (round_start ls n))) o
    unless o h = subst (λ (p : Option Broken). Unless p (AttributeFault m (form_of_start m ls n) attributes (path_in (round_start ls n))) o) (sym place)
        (subst (λ (f : Option (Form ℕ Simple)). AttributeFault m f attributes (path_in (round_start ls n)) o) (sym form_is) h)

    go : (r : Result T Refusal) → IsEntered m (round_start ls n) (form_at m type) attributes content r → IsItemTaken m ls (Starts n attributes) content r
    go (Ok x) (h, k) = (unless None h, subst (λ (f : Option (Form ℕ Simple)). IsOpen content m (level_of_start f ∷ round_start ls n)) (sym form_is) k)
    go (Err (Breaks q p)) h = unless (Some (record { rule = q; path = p })) h
    go (Err Memory) h = tt

pub placed_wrong : (T : Type 0) (m : Message ℕ) (ls : List (Level ℕ)) (n : Expanded) (attributes : List Entry) (content : Content) (r : Refusal) → IsPlaced m ls n content (Err r) → IsItemTaken {T = T} m ls (Starts n attributes) content (Err r)
placed_wrong T m ls n attributes content (Breaks q p) h =
    subst (λ (o : Option Broken). Unless o (AttributeFault m (form_of_start m ls n) attributes (path_in (round_start ls n))) (Some (record { rule = q; path = p }))) (sym h) refl
placed_wrong T m ls n attributes content Memory h = tt

-- ---- attributes

pub currency_said : {T : Type 0} (f : Form ℕ Simple) (s : Simple) (o : Option (List ℕ)) (value path : List ℕ) (r : Result T Refusal) → IsCodeForm f → Some s ≡ text_type f → Some value ≡ o → Says (LeafFault s (chars value) path) r → Says (CurrencyFault f o path) r
currency_said {T} f s o value path r (simple, code) e q h = subst (λ (x : Option (List ℕ)). Says (CurrencyFault f x path) r) q (subst (λ (g : Form ℕ Simple). Says (CurrencyFault g (Some value) path) r) (sym code) (subst (λ (x : Simple). Says (LeafFault x (chars value) path) r) same h))
  where
    same : s ≡ simple
    same = (let k : Some s ≡ Some simple = e ∙ ap text_type code in cc)

pub unknown_said : (T : Type 0) (m : Message ℕ) (f : Form ℕ Simple) (attributes : List Entry) (path : List ℕ) (money : Bool) (r : Refusal) → money ≡ has_currency f → has_unknown money attributes ≡ true → RefusesWith rule.UnknownAttribute (path ++ []) r
    → Says {T = T} (AttributeFault m (Some f) attributes path) (Err r)
unknown_said T m f attributes path money (Breaks q p) e h told = (let k : has_unknown (has_currency f) attributes ≡ true = ap (λ b. has_unknown b attributes) (sym e) ∙ h in rw k (sym (same_broken rule.UnknownAttribute q path p told.0 told.1)))
unknown_said T m f attributes path money Memory e h told = tt

pub money_said : {T : Type 0} (m : Message ℕ) (f : Form ℕ Simple) (code : ℕ) (number : Simple) (attributes : List Entry) (path : List ℕ) (money : Bool) (r : Result T Refusal) → f ≡ form.Money code number → money ≡ has_currency f → has_unknown money attributes ≡ false
    → Says (CurrencyFault (m.forms code) (attribute_value currency attributes) (path ++ codes "/@Ccy")) r → Says (AttributeFault m (Some f) attributes path) r
money_said {T} m f code number attributes path money r is e h told = subst (λ (g : Form ℕ Simple). Says (AttributeFault m (Some g) attributes path) r) (sym is) (go r told)
  where
    known : has_unknown true attributes ≡ false
    known = ap (λ b. has_unknown b attributes) (sym (e ∙ ap has_currency is)) ∙ h

    go : (r : Result T Refusal) → Says (CurrencyFault (m.forms code) (attribute_value currency attributes) (path ++ codes "/@Ccy")) r → Says (AttributeFault m (Some (form.Money code number)) attributes path) r
    go (Ok x) t = rw known t
    go (Err (Breaks q p)) t = rw known t
    go (Err Memory) t = tt

-- ---- an element goes in

pub in_round : (m : Message ℕ) (ls : List (Level ℕ)) (old new : Content) → IsRound old m ls → new.round.items ≡ old.round.items ++ option_to_list old.innermost → StandFor m (reverse new.round.items) ls
in_round m ls old new h e = subst (λ (x : List Opened). StandFor m (reverse x) ls) (sym e) h

pub entered_wrong : (T : Type 0) (m : Message ℕ) (ls : List (Level ℕ)) (attributes : List Entry) (content : Content) (round : List Opened) (number : Option ℕ) (n : ℕ) (r : Refusal) → number ≡ Some n → StandFor m (reverse round) ls
    → Says {T = T} (AttributeFault m (Some (m.forms n)) attributes (path_round m.forms round)) (Err r) → IsEntered {T = T} m ls (form_at m number) attributes content (Err r)
entered_wrong T m ls attributes content round number n (Breaks q p) is h k =
    subst (λ (o : Option ℕ). AttributeFault m (form_at m o) attributes (path_in ls) (Some (record { rule = q; path = p }))) (sym is)
    (subst (λ (v : List ℕ). AttributeFault m (Some (m.forms n)) attributes v (Some (record { rule = q; path = p }))) (names_are m (reverse round) ls h) k)
entered_wrong T m ls attributes content round number n Memory is h k = tt

pub says_round : {T : Type 0} (types : Graph ℕ Simple) (simple : Simple) (text tail : List ℕ) (a b : List Opened) (r : Result T Refusal) → a ≡ b → Says (LeafFault simple text (path_round types a ++ tail)) r → Says (LeafFault simple text (path_round types b ++ tail)) r
says_round types simple text tail a b r e h = subst (λ (x : List Opened). Says (LeafFault simple text (path_round types x ++ tail)) r) e h

pub start_at : {T : Type 0} (m : Message ℕ) (ls : List (Level ℕ)) (content : Content) (r : Result T Refusal) (ns space local tag : List ℕ) (attributes more : List Entry) → ns ≡ space → local ≡ tag → attributes ≡ more
    → IsItemTaken m ls (Starts (name_in_namespace ns local) attributes) content r → IsItemTaken m ls (Starts (name_in_namespace space tag) more) content r
start_at m ls content r ns space local tag attributes more e f g h =
    subst (λ (x : List ℕ). IsItemTaken m ls (Starts (name_in_namespace x tag) more) content r) e
    (subst (λ (x : List ℕ). IsItemTaken m ls (Starts (name_in_namespace ns x) more) content r) f
    (subst (λ (x : List Entry). IsItemTaken m ls (Starts (name_in_namespace ns local) x) content r) g h))

pub was_ok : {T E : Type 0} (P : Type 0) (r : Result T E) → is_err r ≡ false → OnOk r P → P
was_ok P (Ok x) e h = h
was_ok P (Err x) e h = cc
