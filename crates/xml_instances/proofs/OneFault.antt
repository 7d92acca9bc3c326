-- An input has at most one first fault, and none where it spells a value.
use Rattle.std.proofs.Common.{◌≡◌, ℕ, ◌+◌, true, false, List, [], ◌∷◌, ◌++◌, Option, Some, None, refl, sym, ap, ◌∙◌, length, reverse, arith, subst, inl, inr, length-append}
use Rattle.std.specs.List.{flat_map}
use Rattle.std.specs.Str.{chars}
use Rattle.std.proofs.lemmas.Option.{same_Some}
use Rattle.lexical_core.specs.declared.rule.Rule.{Rule}
use Rattle.lexical_core.specs.Tree.{Item, Entry, Starts, Char, Ends, Skipped}
use Rattle.lexical_core.specs.Names.{attribute_value}
use Rattle.facets.specs.declared.simple.Simple.{Simple}
use Rattle.facets.specs.Rules.{BreaksFirst}
use Rattle.markup.specs.Token.{Token, token_bytes}
use Rattle.markup.specs.Marks.{Cell, Front, is_short, tag_limit, OneToken}
use Rattle.markup.specs.Events.{items_of}
use Rattle.markup.specs.Faults.{Next, IsClean, rule_of, is_over}
use Rattle.markup.proofs.TokensBehind.{items_in, tokens_behind, behind as reversed}
use Rattle.reference_check.specs.Forms.{Form}
use Rattle.reference_check.specs.Forms as form
use Rattle.message_model.specs.Writes.{currency}
use Rattle.message_model.specs.Message.{Message}
use Rattle.xml_instances.specs.Levels.{Level, Parent, Leaf as LeafLevel, Envelope, Foreign, levels_after, levels_over, form_of_start, round_start, path_in}
use Rattle.xml_instances.specs.EventFaults.{Broken, EventFault, AreFine, FirstFault, Unless, AttributeFault, RequiredFault, CurrencyFault, CodeFault, LeafFault, EndFault, place_fault, unknown_fault}
use Rattle.xml_instances.specs.XmlFaults.{NextFault, markup, content, FaultInXml, XmlFault}
use Rattle.xml_instances.proofs.Whole.{items_are}

none_some : {A : Type 0} (b : Broken) → ◌≡◌ {A = Option Broken} None (Some b) → A
none_some b e = absurd cc

broken_same : (a b : Rule) (p q : List ℕ) → a ≡ b → p ≡ q → ◌≡◌ {A = Broken} (record { rule = a; path = p }) (record { rule = b; path = q })
broken_same a b p q e f = cc

-- one fault of an event
module _ {P : Type 0} (m : Message P) (first_rule : (s : Simple) (w : List ℕ) (r q : Rule) → BreaksFirst s w r → BreaksFirst s w q → r ≡ q) where
  leaf_same : (s : Simple) (w path : List ℕ) (o p : Option Broken) → LeafFault s w path o → LeafFault s w path p → o ≡ p
  leaf_same s w path None None h k = refl
  leaf_same s w path None (Some b) (l, h) k = absurd (h.sound b.rule k.0.broken)
  leaf_same s w path (Some b) None h (l, k) = absurd (k.sound b.rule h.0.broken)
  leaf_same s w path (Some b) (Some c) h k = ap Some (broken_same b.rule c.rule b.path c.path (first_rule s w b.rule c.rule h.0 k.0) (h.1 ∙ sym k.1))

  code_same : (f : Form P Simple) (w path : List ℕ) (o p : Option Broken) → CodeFault f w path o → CodeFault f w path p → o ≡ p
  code_same (form.Simple s) w path o p h k = leaf_same s w path o p h k
  code_same _ w path o p h k = absurd h

  currency_same : (f : Form P Simple) (v : Option (List ℕ)) (path : List ℕ) (o p : Option Broken) → CurrencyFault f v path o → CurrencyFault f v path p → o ≡ p
  currency_same f None path o p h k = h ∙ sym k
  currency_same f (Some w) path o p h k = code_same f (chars w) path o p h k

  required_same : (f : Form P Simple) (a : List Entry) (path : List ℕ) (o p : Option Broken) → RequiredFault m f a path o → RequiredFault m f a path p → o ≡ p
  required_same (form.Money c s) a path o p h k = currency_same (m.forms c) (attribute_value currency a) _ o p h k
  required_same _ a path o p h k = h ∙ sym k

  unless_same : (first : Option Broken) (Other : Option Broken → Type 0) (o p : Option Broken) → (Other o → Other p → o ≡ p) → Unless first Other o → Unless first Other p → o ≡ p
  unless_same None Other o p same h k = same h k
  unless_same (Some b) Other o p same h k = h ∙ sym k

  attributes_same : (f : Option (Form P Simple)) (a : List Entry) (path : List ℕ) (o p : Option Broken) → AttributeFault m f a path o → AttributeFault m f a path p → o ≡ p
  attributes_same None a path o p h k = h ∙ sym k
  attributes_same (Some f) a path o p h k = unless_same (unknown_fault f a path) (RequiredFault m f a path) o p (required_same f a path o p) h k

  end_same : (l : Level P) (path : List ℕ) (o p : Option Broken) → EndFault l path o → EndFault l path p → o ≡ p
  end_same (Parent f d) path o p h k = h ∙ sym k
  end_same (LeafLevel s w) path o p h k = leaf_same s w path o p h k
  end_same (Envelope true) path o p h k = h ∙ sym k
  end_same (Envelope false) path o p h k = h ∙ sym k
  end_same Foreign path o p h k = h ∙ sym k

  pub event_same : (ls : List (Level P)) (i : Item) (o p : Option Broken) → EventFault m ls i o → EventFault m ls i p → o ≡ p
  event_same ls (Starts n a) o p h k =
      unless_same (place_fault m ls n) (AttributeFault m (form_of_start m ls n) a (path_in (round_start ls n))) o p (attributes_same (form_of_start m ls n) a (path_in (round_start ls n)) o p) h k
  event_same [] (Char c) o p h k = h ∙ sym k
  event_same [] (Ends n) o p h k = h ∙ sym k
  event_same [] Skipped o p h k = h ∙ sym k
  event_same (l ∷ ls) (Char c) o p h k = h ∙ sym k
  event_same (l ∷ ls) (Ends n) o p h k = end_same l (path_in ls) o p h k
  event_same (l ∷ ls) Skipped o p h k = h ∙ sym k

  first_same : (ls : List (Level P)) (is : List Item) (b c : Broken) → FirstFault m ls is b → FirstFault m ls is c → b ≡ c
  first_same ls [] b c h k = absurd h
  first_same ls (i ∷ is) b c (inl h) (inl k) = same_Some b c (event_same ls i (Some b) (Some c) h k)
  first_same ls (i ∷ is) b c (inl h) (inr k) = none_some b (event_same ls i None (Some b) k.0 h)
  first_same ls (i ∷ is) b c (inr h) (inl k) = none_some c (event_same ls i None (Some c) h.0 k)
  first_same ls (i ∷ is) b c (inr h) (inr k) = first_same (levels_after m ls i) is b c h.1 k.1

  -- events that are fine have no fault
  pub fine_none : (ls : List (Level P)) (is js : List Item) (b : Broken) → AreFine m ls (is ++ js) → FirstFault m ls is b → ⊥
  fine_none ls [] js b f h = h
  fine_none ls (i ∷ is) js b f (inl h) = none_some b (event_same ls i None (Some b) f.0 h)
  fine_none ls (i ∷ is) js b f (inr h) = fine_none (levels_after m ls i) is js b f.1 h.1

  fine_behind : (ls : List (Level P)) (is js : List Item) → AreFine m ls (is ++ js) → AreFine m (levels_over m ls is) js
  fine_behind ls [] js f = f
  fine_behind ls (i ∷ is) js f = fine_behind (levels_after m ls i) is js f.1

  over-append : (ls : List (Level P)) (is js : List Item) → levels_over m ls (is ++ js) ≡ levels_over m (levels_over m ls is) js
  over-append ls [] js = refl
  over-append ls (i ∷ is) js = over-append (levels_after m ls i) is js

  module _ (one_token : OneToken)
      (next_same : (before : List Token) (bytes : List ℕ) (r q : Rule) (a b : ℕ) → Next tag_limit before bytes r a → Next tag_limit before bytes q b → (r ≡ q) × (a ≡ b))
      (next_none : (before : List Token) (bytes : List ℕ) (u : Token) (x : List ℕ) (r : Rule) (a : ℕ) → Next tag_limit before bytes r a → Cell before u bytes x → is_short tag_limit u ≡ true → rule_of before u ≡ None → ⊥) where
    next_fault_same : (before : List Token) (ls : List (Level P)) (bytes : List ℕ) (b c : Broken) (i j : ℕ) → NextFault m before ls bytes b i → NextFault m before ls bytes c j → (b ≡ c) × (i ≡ j)
    next_fault_same before ls bytes b c i j (markup n p) (markup k q) =
        let s : (b.rule ≡ c.rule) × (i ≡ j) = next_same before bytes b.rule c.rule i j n k in
        (broken_same b.rule c.rule b.path c.path s.0 (p ∙ sym q), s.1)
    next_fault_same before ls bytes b c i j (markup n p) (content t x cell short clean first at) = absurd (next_none before bytes t x b.rule i n cell short clean)
    next_fault_same before ls bytes b c i j (content t x cell short clean first at) (markup n p) = absurd (next_none before bytes t x c.rule j n cell short clean)
    next_fault_same before ls bytes b c i j (content t x cell short clean first at) (content u y cell' short' clean' first' at') =
        let o : (t ≡ u) × (x ≡ y) = one_token before t u bytes x y cell cell' in
        (first_same ls (items_of before t) b c first (subst (λ (v : Token). FirstFault m ls (items_of before v) c) (sym o.0) first'), at ∙ sym at')

    -- behind a token that is fine nothing is wrong at its place
    fault_none : (before : List Token) (ls : List (Level P)) (bytes : List ℕ) (u : Token) (y : List ℕ) (more : List Item) (b : Broken) (i : ℕ) → NextFault m before ls bytes b i → Cell before u bytes y → is_short tag_limit u ≡ true → rule_of before u ≡ None
        → AreFine m ls (items_of before u ++ more) → ⊥
    fault_none before ls bytes u y more b i (markup n p) cell short clean fine = next_none before bytes u y b.rule i n cell short clean
    fault_none before ls bytes u y more b i (content t x cell short clean first at) cell' short' clean' fine =
        let o : (t ≡ u) × (x ≡ y) = one_token before t u bytes x y cell cell' in
        fine_none ls (items_of before u) more b fine (subst (λ (v : Token). FirstFault m ls (items_of before v) b) o.0 first)

    count : (t u : Token) (ts us : List Token) (i j : ℕ) → t ≡ u → length (flat_map token_bytes ts) + i ≡ length (flat_map token_bytes us) + j → length (flat_map token_bytes (t ∷ ts)) + i ≡ length (flat_map token_bytes (u ∷ us)) + j
    count t u ts us i j e f = omega (arith, length-append (token_bytes t) (flat_map token_bytes ts), length-append (token_bytes u) (flat_map token_bytes us), ap (λ v. length (token_bytes v)) e, f)

    -- the faults behind tokens from one place
    record Behind (before : List Token) (ls : List (Level P)) (bytes : List ℕ) (ts : List Token) (rest : List ℕ) (b : Broken) (i : ℕ) : Type 0 where
      front : Front tag_limit before bytes ts rest
      clean : IsClean before ts
      fine : AreFine m ls (items_in before ts)
      next : NextFault m (tokens_behind before ts) (levels_over m ls (items_in before ts)) rest b i

    tail : (before : List Token) (ls : List (Level P)) (bytes : List ℕ) (t : Token) (ts : List Token) (rest : List ℕ) (b : Broken) (i : ℕ) (h : Behind before ls bytes (t ∷ ts) rest b i) → Behind (t ∷ before) (levels_over m ls (items_of before t)) h.front.0 ts rest b i
    tail before ls bytes t ts rest b i h = record {
      front = h.front.3;
      clean = h.clean.1;
      fine = fine_behind ls (items_of before t) (items_in (t ∷ before) ts) h.fine;
      next = subst (λ (x : List (Level P)). NextFault m (tokens_behind (t ∷ before) ts) x rest b i) (over-append ls (items_of before t) (items_in (t ∷ before) ts)) h.next;
    }

    same_from : (before : List Token) (ls : List (Level P)) (bytes : List ℕ) (ts us : List Token) (x y : List ℕ) (b c : Broken) (i j : ℕ) → Behind before ls bytes ts x b i → Behind before ls bytes us y c j
        → (b ≡ c) × (length (flat_map token_bytes ts) + i ≡ length (flat_map token_bytes us) + j)
    same_from before ls bytes [] [] x y b c i j h k =
        let s : (b ≡ c) × (i ≡ j) = next_fault_same before ls bytes b c i j (subst (λ (v : List ℕ). NextFault m before ls v b i) (sym h.front) h.next) (subst (λ (v : List ℕ). NextFault m before ls v c j) (sym k.front) k.next) in
        (s.0, ap (λ a. 0 + a) s.1)
    same_from before ls bytes [] (u ∷ us) x y b c i j h k =
        absurd (fault_none before ls bytes u k.front.0 (items_in (u ∷ before) us) b i (subst (λ (v : List ℕ). NextFault m before ls v b i) (sym h.front) h.next) k.front.1 k.front.2 k.clean.0 k.fine)
    same_from before ls bytes (t ∷ ts) [] x y b c i j h k =
        absurd (fault_none before ls bytes t h.front.0 (items_in (t ∷ before) ts) c j (subst (λ (v : List ℕ). NextFault m before ls v c j) (sym k.front) k.next) h.front.1 h.front.2 h.clean.0 h.fine)
    same_from before ls bytes (t ∷ ts) (u ∷ us) x y b c i j h k =
        go (one_token before t u bytes h.front.0 k.front.0 h.front.1 k.front.1) (λ k'. same_from (t ∷ before) (levels_over m ls (items_of before t)) h.front.0 ts us x y b c i j (tail before ls bytes t ts x b i h) k')
      where
        go : ((t ≡ u) × (h.front.0 ≡ k.front.0)) → (Behind (t ∷ before) (levels_over m ls (items_of before t)) h.front.0 us y c j → (b ≡ c) × (length (flat_map token_bytes ts) + i ≡ length (flat_map token_bytes us) + j))
            → (b ≡ c) × (length (flat_map token_bytes (t ∷ ts)) + i ≡ length (flat_map token_bytes (u ∷ us)) + j)
        go (e, f) later =
            let k' : Behind (t ∷ before) (levels_over m ls (items_of before t)) h.front.0 us y c j =
            subst (λ (v : Token). Behind (v ∷ before) (levels_over m ls (items_of before v)) h.front.0 us y c j) (sym e)
            (subst (λ (v : List ℕ). Behind (u ∷ before) (levels_over m ls (items_of before u)) v us y c j) (sym f) (tail before ls bytes u us y c j k)) in
            let s : (b ≡ c) × (length (flat_map token_bytes ts) + i ≡ length (flat_map token_bytes us) + j) = later k' in
            (s.0, count t u ts us i j e s.1)

    behind_of : (bytes : List ℕ) (f : FaultInXml) (h : XmlFault m bytes f) → Behind [] [] bytes h.tokens h.rest f.broken h.at
    behind_of bytes f h = record {
      front = h.front;
      clean = h.clean;
      fine = rw (items_are h.tokens) at h.fine;
      next = subst (λ (x : List Token). NextFault m x (levels_over m [] (items_in [] h.tokens)) h.rest f.broken h.at) (reversed h.tokens)
          (subst (λ (x : List Item). NextFault m (reverse h.tokens) (levels_over m [] x) h.rest f.broken h.at) (items_are h.tokens) h.next);
    }

    fault_same : (b c : Broken) (p q : ℕ) → b ≡ c → p ≡ q → ◌≡◌ {A = FaultInXml} (record { broken = b; place = p }) (record { broken = c; place = q })
    fault_same b c p q e f = cc

    pub one_fault : (bytes : List ℕ) (f g : FaultInXml) → XmlFault m bytes f → XmlFault m bytes g → f ≡ g
    one_fault bytes f g h k =
        let s : (f.broken ≡ g.broken) × (length (flat_map token_bytes h.tokens) + h.at ≡ length (flat_map token_bytes k.tokens) + k.at) =
        same_from [] [] bytes h.tokens k.tokens h.rest k.rest f.broken g.broken h.at k.at (behind_of bytes f h) (behind_of bytes g k) in
        fault_same f.broken g.broken f.place g.place s.0 (h.place ∙ (s.1 ∙ sym k.place))

    module _ (next_over : (before : List Token) (r : Rule) (a : ℕ) → Next tag_limit before [] r a → is_over before ≡ true → ⊥)
        (nothing_stands : (before : List Token) (t : Token) (x : List ℕ) → Cell before t [] x → ⊥) where
      end_none : (before : List Token) (ls : List (Level P)) (c : Broken) (j : ℕ) → is_over before ≡ true → NextFault m before ls [] c j → ⊥
      end_none before ls c j over (markup n p) = next_over before c.rule j n over
      end_none before ls c j over (content t x cell short clean first at) = nothing_stands before t x cell

      none_from : (before : List Token) (ls : List (Level P)) (bytes : List ℕ) (ts us : List Token) (y : List ℕ) (c : Broken) (j : ℕ) → Front tag_limit before bytes ts [] → IsClean before ts → is_over (tokens_behind before ts) ≡ true
          → AreFine m ls (items_in before ts) → Behind before ls bytes us y c j → ⊥
      none_from before ls bytes [] [] y c j f clean over fine k = end_none before ls c j over (subst (λ (v : List ℕ). NextFault m before ls v c j) (sym k.front ∙ f) k.next)
      none_from before ls bytes [] (u ∷ us) y c j f clean over fine k = nothing_stands before u k.front.0 (subst (λ (v : List ℕ). Cell before u v k.front.0) f k.front.1)
      none_from before ls bytes (t ∷ ts) [] y c j f clean over fine k =
          fault_none before ls bytes t f.0 (items_in (t ∷ before) ts) c j (subst (λ (v : List ℕ). NextFault m before ls v c j) (sym k.front) k.next) f.1 f.2 clean.0 fine
      none_from before ls bytes (t ∷ ts) (u ∷ us) y c j f clean over fine k =
          go (one_token before t u bytes f.0 k.front.0 f.1 k.front.1) (λ k'. none_from (t ∷ before) (levels_over m ls (items_of before t)) f.0 ts us y c j f.3 clean.1 over (fine_behind ls (items_of before t) (items_in (t ∷ before) ts) fine) k')
        where
          go : ((t ≡ u) × (f.0 ≡ k.front.0)) → (Behind (t ∷ before) (levels_over m ls (items_of before t)) f.0 us y c j → ⊥) → ⊥
          go (e, g) later =
              later (subst (λ (v : Token). Behind (v ∷ before) (levels_over m ls (items_of before v)) f.0 us y c j) (sym e)
              (subst (λ (v : List ℕ). Behind (u ∷ before) (levels_over m ls (items_of before u)) v us y c j) (sym g) (tail before ls bytes u us y c j k)))

      pub fine_has_none : (bytes : List ℕ) (ts : List Token) (f : FaultInXml) → Front tag_limit [] bytes ts [] → IsClean [] ts → is_over (tokens_behind [] ts) ≡ true → AreFine m [] (items_in [] ts) → XmlFault m bytes f → ⊥
      fine_has_none bytes ts f front clean over fine h = none_from [] [] bytes ts h.tokens h.rest f.broken h.at front clean over fine (behind_of bytes f h)
