-- Runs of characters, and the events of a tag, held to the content.
use Rattle.std.proofs.Common.{◌≡◌, ℕ, true, false, List, [], ◌∷◌, ◌++◌, Option, Some, None, refl, sym, ap, subst, ◌∙◌, reverse, append-nil, append_assoc, inl, inr}
use Rattle.std.specs.Prelude.{Result, Ok, Err, OnOk, OnErr}
use Rattle.std.specs.List.{list_all}
use Rattle.std.proofs.lemmas.Bool.{and_parts}
use Rattle.lexical_core.specs.Tree.{Item}
use Rattle.lexical_core.specs.XmlRuns.{IsXmlRun}
use Rattle.facets.specs.declared.simple.Simple.{Simple}
use Rattle.markup.specs.Chars.{is_space}
use Rattle.markup.specs.Literals.{IsRun}
use Rattle.respell.proofs.TakenRuns.{chars_of}
use Rattle.reference_check.specs.Forms.{Form}
use Rattle.message_model.specs.Message.{Message}
use Rattle.xml_instances.specs.declared.judge.Judge.{Judge}
use Rattle.xml_instances.specs.Judges.{HasJudgeTaken, IsJudgeMadeFor}
use Rattle.xml_instances.specs.Levels.{Level, Parent, Leaf, Envelope, Foreign, levels_after, levels_over, with_char, path_in}
use Rattle.xml_instances.specs.EventFaults.{AreFine, char_fault, is_bare}
use Rattle.xml_instances.specs.Open.{IsOpen, HoldsText, StandsFor, StandFor, StandsOpen, IsItemTaken}
use Rattle.xml_instances.specs.inner.Quick.{MayTake, IsRunTaken, AreItemsTaken}
use Rattle.xml_instances.specs.declared.content.Content.{Content}
use Rattle.xml_instances.specs.declared.content.OpenText.{OpenText}
use Rattle.xml_instances.specs.declared.opened.Opened.{Opened}
use Rattle.xml_instances.specs.declared.opened.Opened.TheVariants as opened
use Rattle.xml_instances.specs.declared.opened.Refusal.{Refusal}
use Rattle.xml_instances.specs.declared.opened.Refusal.TheVariants.{Breaks, Memory}

-- ---- a run of characters

-- it is one of XML
abbrev pub xml_run : (bytes : List ℕ) (count : ℕ) → IsRun bytes count → IsXmlRun bytes count
xml_run bytes count r = record { chars = r.characters; spelled = r.bytes_are; count_is = r.count_is; are = r.allowed }

text_chars : (m : Message ℕ) (simple : Simple) (t : List ℕ) (ls : List (Level ℕ)) (cs : List ℕ)
    → AreFine m (Leaf simple t ∷ ls) (chars_of cs) × (levels_over m (Leaf simple t ∷ ls) (chars_of cs) ≡ Leaf simple (t ++ cs) ∷ ls)
text_chars m simple t ls [] = (tt, ap (λ v. Leaf simple v ∷ ls) (sym (append-nil t)))
text_chars m simple t ls (c ∷ cs) =
    let k = text_chars m simple (t ++ c ∷ []) ls cs in
    ((refl, k.0), k.1 ∙ ap (λ v. Leaf simple v ∷ ls) (append_assoc t (c ∷ []) cs))

foreign_chars : (m : Message ℕ) (ls : List (Level ℕ)) (cs : List ℕ) → AreFine m (Foreign ∷ ls) (chars_of cs) × (levels_over m (Foreign ∷ ls) (chars_of cs) ≡ Foreign ∷ ls)
foreign_chars m ls [] = (tt, refl)
foreign_chars m ls (c ∷ cs) = let k = foreign_chars m ls cs in ((refl, k.0), k.1)

no_chars : (m : Message ℕ) (cs : List ℕ) → AreFine m [] (chars_of cs) × (levels_over m [] (chars_of cs) ≡ [])
no_chars m [] = (tt, refl)
no_chars m (c ∷ cs) = let k = no_chars m cs in ((refl, k.0), k.1)

-- white space in an element that stays as it is
blank_chars : (m : Message ℕ) (l : Level ℕ) (ls : List (Level ℕ)) (cs : List ℕ) → ((c : ℕ) → is_space c ≡ true → (None ≡ char_fault l (path_in ls) c) × (with_char l c ≡ l)) → list_all is_space cs ≡ true
    → AreFine m (l ∷ ls) (chars_of cs) × (levels_over m (l ∷ ls) (chars_of cs) ≡ l ∷ ls)
blank_chars m l ls [] still h = (tt, refl)
blank_chars m l ls (c ∷ cs) still h =
    let b = and_parts (is_space c) (list_all is_space cs) h in
    let s = still c b.0 in
    let k = blank_chars m l ls cs still b.1 in
    ((s.0, subst (λ (x : Level ℕ). AreFine m (x ∷ ls) (chars_of cs)) (sym s.1) k.0), ap (λ x. levels_over m (x ∷ ls) (chars_of cs)) s.1 ∙ k.1)

parent_blank : (m : Message ℕ) (n : ℕ) (f : Form ℕ Simple) (d : List ℕ) (path : List ℕ) (c : ℕ) → m.forms n ≡ f → is_bare (m.forms n) ≡ false → is_space c ≡ true → None ≡ char_fault (Parent f d) path c
parent_blank m n f d path c e bare blank = rw (sym (ap is_bare e) ∙ bare, blank) refl

pub run_text : (m : Message ℕ) (ls : List (Level ℕ)) (cs : List ℕ) (content : Content) (old : Option OpenText) (o : Option Opened) (round : List Opened) → o ≡ Some opened.Text → content.innermost ≡ o → content.round.items ≡ round → StandsOpen m old o round ls
    → ((simple : Simple) (t : List ℕ) → HoldsText m old simple t → HoldsText m content.text simple (t ++ cs)) → IsRunTaken m ls cs content
run_text m ls cs content old o round is kept same h taken = by ls (subst (λ (x : Option Opened). StandsOpen m old x round ls) is h)
  where
    here : (l : Level ℕ) (ls : List (Level ℕ)) → StandsFor m old opened.Text l → StandFor m (reverse round) ls → AreFine m (l ∷ ls) (chars_of cs) × StandsOpen m content.text (Some opened.Text) round (levels_over m (l ∷ ls) (chars_of cs))
    here (Leaf simple t) ls s r =
        let k = text_chars m simple t ls cs in
        (k.0, subst (λ (x : List (Level ℕ)). StandsOpen m content.text (Some opened.Text) round x) (sym k.1) (taken simple t s, r))
    here (Parent f d) ls s r = absurd s
    here (Envelope has) ls s r = absurd s
    here Foreign ls s r = absurd s

    by : (ls : List (Level ℕ)) → StandsOpen m old (Some opened.Text) round ls → IsRunTaken m ls cs content
    by [] h = absurd h
    by (l ∷ ls) h =
        let k = here l ls h.0 h.1 in
        (k.0, subst (λ (x : Option Opened). StandsOpen m content.text x content.round.items (levels_over m (l ∷ ls) (chars_of cs))) (sym (kept ∙ is)) (subst (λ (x : List Opened). StandsOpen m content.text (Some opened.Text) x (levels_over m (l ∷ ls) (chars_of cs))) (sym same) k.1))

-- the innermost element has no text of its own
abbrev pub IsNoText : Option Opened → Type 0
IsNoText None = Unit {0}
IsNoText (Some opened.Text) = ⊥
IsNoText (Some opened.Foreign) = Unit {0}
IsNoText (Some (opened.Envelope filled)) = Unit {0}
IsNoText (Some (opened.Parent n last count)) = Unit {0}

pub run_other : (m : Message ℕ) (ls : List (Level ℕ)) (bytes : List ℕ) (count : ℕ) (r : IsRun bytes count) (content : Content) (o : Option Opened) → content.innermost ≡ o → IsNoText o → MayTake m.forms content.innermost bytes → IsOpen content m ls → IsRunTaken m ls r.characters content
run_other m ls bytes count r content o is none may h = by o ls none (subst (λ (x : Option Opened). MayTake m.forms x bytes) is may) (subst (λ (x : Option Opened). StandsOpen m content.text x content.round.items ls) is h) h
  where
    same : (ls : List (Level ℕ)) → AreFine m ls (chars_of r.characters) × (levels_over m ls (chars_of r.characters) ≡ ls) → IsOpen content m ls → IsRunTaken m ls r.characters content
    same ls k h = (k.0, subst (λ (x : List (Level ℕ)). IsOpen content m x) (sym k.1) h)

    blank : list_all is_space bytes ≡ true → list_all is_space r.characters ≡ true
    blank e = sym r.blank_is ∙ e

    at : (e : Opened) (l : Level ℕ) (ls : List (Level ℕ)) → IsNoText (Some e) → MayTake m.forms (Some e) bytes → StandsFor m content.text e l → AreFine m (l ∷ ls) (chars_of r.characters) × (levels_over m (l ∷ ls) (chars_of r.characters) ≡ l ∷ ls)
    at opened.Text l ls none may s = absurd none
    at opened.Foreign Foreign ls none may s = foreign_chars m ls r.characters
    at opened.Foreign (Parent f d) ls none may s = absurd s
    at opened.Foreign (Leaf simple t) ls none may s = absurd s
    at opened.Foreign (Envelope has) ls none may s = absurd s
    at (opened.Envelope filled) (Envelope has) ls none may s = blank_chars m (Envelope has) ls r.characters (λ c e. (rw e refl, refl)) (blank may)
    at (opened.Envelope filled) (Parent f d) ls none may s = absurd s
    at (opened.Envelope filled) (Leaf simple t) ls none may s = absurd s
    at (opened.Envelope filled) Foreign ls none may s = absurd s
    at (opened.Parent n last k) (Parent f d) ls none may s = blank_chars m (Parent f d) ls r.characters (λ c e. (parent_blank m n f d (path_in ls) c s.0 may.0 e, refl)) (blank may.1)
    at (opened.Parent n last k) (Leaf simple t) ls none may s = absurd s
    at (opened.Parent n last k) (Envelope has) ls none may s = absurd s
    at (opened.Parent n last k) Foreign ls none may s = absurd s

    by : (o : Option Opened) (ls : List (Level ℕ)) → IsNoText o → MayTake m.forms o bytes → StandsOpen m content.text o content.round.items ls → IsOpen content m ls → IsRunTaken m ls r.characters content
    by None [] none may k h = same [] (no_chars m r.characters) h
    by None (l ∷ ls) none may k h = absurd k
    by (Some e) [] none may k h = absurd k
    by (Some e) (l ∷ ls) none may k h = same (l ∷ ls) (at e l ls none may k.0) h

pub run_text_all : {E : Type 0} (m : Message ℕ) (bytes : List ℕ) (count : ℕ) (res : Result (Unit {0}) E) (content : Content) (old : Option OpenText) (o : Option Opened) (round : List Opened) → o ≡ Some opened.Text → content.innermost ≡ o → content.round.items ≡ round
    → ((r : IsRun bytes count) (simple : Simple) (t : List ℕ) → HoldsText m old simple t → OnOk res (HoldsText m content.text simple (t ++ r.characters))) → OnOk res ((r : IsRun bytes count) (ls : List (Level ℕ)) → StandsOpen m old o round ls → IsRunTaken m ls r.characters content)
run_text_all m bytes count (Ok x) content old o round is kept same taken = λ r ls h. run_text m ls r.characters content old o round is kept same h (λ simple t k. taken r simple t k)
run_text_all m bytes count (Err x) content old o round is kept same taken = tt

-- ---- the check of a text

pub run_taken : {T E : Type 0} (res : Result T E) (bytes : List ℕ) (count : ℕ) (old new : Judge) (simple : Simple) → OnOk res ((r : IsXmlRun bytes count) (text : List ℕ) → HasJudgeTaken old simple text → HasJudgeTaken new simple (text ++ r.chars))
    → OnOk res ((r : IsRun bytes count) (text : List ℕ) → HasJudgeTaken old simple text → HasJudgeTaken new simple (text ++ r.characters))
run_taken (Ok x) bytes count old new simple h = λ r text t. h (xml_run bytes count r) text t
run_taken (Err x) bytes count old new simple h = tt

pub run_made : {T E : Type 0} (res : Result T E) (bytes : List ℕ) (count : ℕ) (old new : Judge) (simple : Simple) → IsXmlRun bytes count → OnOk res ((r : IsXmlRun bytes count) (text : List ℕ) → HasJudgeTaken old simple text → HasJudgeTaken new simple (text ++ r.chars))
    → OnErr res (new ≡ old) → IsJudgeMadeFor old simple → IsJudgeMadeFor new simple
run_made (Ok x) bytes count old new simple r h e (text, t) = (text ++ r.chars, h r text t)
run_made (Err x) bytes count old new simple r h e made = subst (λ (v : Judge). IsJudgeMadeFor v simple) (sym e) made

-- ---- the events of a tag

pub one_item : {T : Type 0} (m : Message ℕ) (ls : List (Level ℕ)) (item : Item) (content : Content) (r : Result T Refusal) → IsItemTaken m ls item content r → AreItemsTaken m ls (item ∷ []) content r
one_item m ls item content (Ok x) h = ((h.0, tt), h.1)
one_item m ls item content (Err (Breaks rule path)) h = inl h
one_item m ls item content (Err Memory) h = tt

pub first_wrong : (T : Type 0) (m : Message ℕ) (ls : List (Level ℕ)) (item : Item) (more : List Item) (content : Content) (r : Refusal) → IsItemTaken {T = T} m ls item content (Err r) → AreItemsTaken {T = T} m ls (item ∷ more) content (Err r)
first_wrong T m ls item more content (Breaks rule path) h = inl h
first_wrong T m ls item more content Memory h = tt

pub two_items : {T U : Type 0} (m : Message ℕ) (ls : List (Level ℕ)) (a b : Item) (between content : Content) (x : U) (r : Result T Refusal) → IsItemTaken {T = U} m ls a between (Ok x)
    → (IsOpen between m (levels_after m ls a) → IsItemTaken m (levels_after m ls a) b content r) → AreItemsTaken m ls (a ∷ b ∷ []) content r
two_items m ls a b between content x r h k = by r (k h.1)
  where
    by : {T : Type 0} (r : Result T Refusal) → IsItemTaken m (levels_after m ls a) b content r → AreItemsTaken m ls (a ∷ b ∷ []) content r
    by (Ok x) k = ((h.0, (k.0, tt)), k.1)
    by (Err (Breaks rule path)) k = inr (h.0, inl k)
    by (Err Memory) k = tt
