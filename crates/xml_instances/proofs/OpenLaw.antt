-- Events that are the first of a tree break nothing exactly where they go on to those of an instance.
use Rattle.std.proofs.Common.{subst, ◌≡◌, ℕ, suc, ◌-◌, Bool, true, false, List, [], ◌∷◌, ◌++◌, Some, None, refl, sym, ap, ◌∙◌, arith, length}
use Rattle.std.specs.Prelude.{◌↔◌, codes}
use Rattle.std.proofs.lemmas.List.{nil_from_length}
use Rattle.lexical_core.specs.Tree.{Expanded, Tree, Item, Starts, Char, Ends, Skipped, tree_items, flat}
use Rattle.lexical_core.specs.Tree as tree
use Rattle.lexical_core.specs.declared.rule.Rule.{Rule}
use Rattle.facets.specs.declared.simple.Simple.{Simple}
use Rattle.facets.specs.Rules.{BreaksFirst}
use Rattle.markup.specs.Standing.{EventsStay}
use Rattle.markup.specs.Token.{Token}
use Rattle.markup.specs.Marks.{Front, tag_limit}
use Rattle.markup.specs.Events.{events}
use Rattle.markup.specs.Faults.{IsClean}
use Rattle.respell.proofs.WholeTree.{Rest, Begun, element_more, char_more, root_of, rest_true}
use Rattle.reference_check.specs.Forms.{Form}
use Rattle.reference_check.specs.Words.{IsWordOf}
use Rattle.reference_check.specs.Steps.{Fine, end_after, Came}
use Rattle.reference_check.specs.Shapes.{Shape, HasShape, WordGoesOn, AreFinite}
use Rattle.message_model.specs.Tables.{message_of}
use Rattle.message_model.specs.Continued.{CameGoesOn}
use Rattle.message_model.specs.Sound.{AreSound, SoundFormsAgree}
use Rattle.message_model.specs.Writes.{name_in_namespace}
use Rattle.message_model.specs.Message.{Message}
use Rattle.xml_instances.proofs.OneFault.{event_same}
use Rattle.xml_instances.specs.XmlFaults.{items, items_told}
use Rattle.xml_instances.specs.Levels.{Level, levels_after, levels_over}
use Rattle.xml_instances.specs.EventFaults.{AreFine, EventFault, Broken}
use Rattle.xml_instances.specs.OpenLaws.{FineIsOpen, OneMoreIsOpen, CleanAreFronts, BrokenEventIsNotOpen, FedIsOpen}
use Rattle.xml_instances.specs.OpenInstances.{IsSoFar, AreEventsOpen, IsTreeFront}
use Rattle.xml_instances.proofs.Counted.{round_length, fine_counted, counted_fine}
use Rattle.xml_instances.proofs.Runs.{IsSteady}
use Rattle.xml_instances.proofs.Following.{MayFollow, may_is_fine, fine_may, fine_append, fine_behind}
use Rattle.xml_instances.proofs.CleanFronts.{clean_front, front_of_front}
use Rattle.xml_instances.proofs.OpenRuns.{root_may}
use Rattle.xml_instances.proofs.OpenAccepts.{root_so}
use Rattle.xml_instances.proofs.Completion.{Nested, tree_nested, Made, made_at, over_stands, Completed, complete}

parse_nested : (begun : Bool) (ns : List Expanded) (items : List Item) → Begun begun ns → Nested begun ns items → Rest begun ns items
parse_nested true [] [] b h = refl
parse_nested false [] [] b h = absurd cc
parse_nested begun (n ∷ ns) [] b h = absurd h
parse_nested true [] (Starts n a ∷ items) b h = (let e : ◌≡◌ {A = Bool} true false = h.0 in absurd cc)
parse_nested false [] (Starts n a ∷ items) b h = root_of n a items (parse_nested true (n ∷ []) items refl h.1)
parse_nested true (m ∷ ns) (Starts n a ∷ items) b h = element_more n m a items ns (parse_nested true (n ∷ m ∷ ns) items refl h)
parse_nested false (m ∷ ns) (Starts n a ∷ items) b h = absurd cc
parse_nested begun [] (Ends n ∷ items) b h = absurd h
parse_nested true (m ∷ ns) (Ends n ∷ items) b h = (tree.Nothing, items, ap (λ x. Ends x ∷ items) h.0, rest_true ns items (parse_nested true ns items (begun_all ns) h.1))
  where
    begun_all : (ns : List Expanded) → Begun true ns
    begun_all [] = tt
    begun_all (n ∷ ns) = refl
parse_nested false (m ∷ ns) (Ends n ∷ items) b h = absurd cc
parse_nested begun [] (Char c ∷ items) b h = absurd h
parse_nested true (n ∷ ns) (Char c ∷ items) b h = char_more c n ns items (parse_nested true (n ∷ ns) items b h)
parse_nested false (n ∷ ns) (Char c ∷ items) b h = absurd cc
parse_nested begun [] (Skipped ∷ items) b h = absurd h
parse_nested begun (n ∷ ns) (Skipped ∷ items) b h = absurd h

module _ {P : Type 0} (m : Message P) (finite : AreFinite m.forms m.root) (steady : IsSteady m.forms)
    (goes : (p : P) (f : Form P Simple) (d : List ℕ) → m.forms p ≡ f → WordGoesOn f [] → Came f d → WordGoesOn f d)
    (whole : (p : P) (d : List ℕ) → Came (m.forms p) d → end_after (m.forms p) d ≡ Fine → IsWordOf (m.forms p) d) where
  -- which names are open behind events, and how the events go on
  abbrev pub Splits : Bool → List Expanded → List (Level P) → List Item → Type 0
  Splits begun ns ls items =
      (b : Bool) × (left : List Expanded) × Begun b left × (length (levels_over m ls items) ≡ length left) × ((more : List Item) → Nested b left more → Nested begun ns (items ++ more))

  begun_still : (begun : Bool) (m : Expanded) (ns : List Expanded) → Begun begun (m ∷ ns) → Begun begun ns
  begun_still begun m [] b = tt
  begun_still begun m (n ∷ ns) b = b

  splits : (begun : Bool) (ns : List Expanded) (ls : List (Level P)) (items behind : List Item) → Begun begun ns → length ls ≡ length ns → Nested begun ns (items ++ behind) → Splits begun ns ls items
  splits begun ns ls [] behind b e h = (begun, ns, b, e, λ more h. h)
  splits begun [] ls (Starts n a ∷ items) behind b e h =
      let r : Splits true (n ∷ []) (levels_after m ls (Starts n a)) items = splits true (n ∷ []) (levels_after m ls (Starts n a)) items behind refl (ap suc (round_length m ls n ∙ e)) h.1 in
      (r.0, r.1, r.2, r.3, λ more k. (h.0, r.4 more k))
  splits begun (j ∷ ns) ls (Starts n a ∷ items) behind b e h =
      let r : Splits true (n ∷ j ∷ ns) (levels_after m ls (Starts n a)) items = splits true (n ∷ j ∷ ns) (levels_after m ls (Starts n a)) items behind refl (ap suc (round_length m ls n ∙ e)) h in
      (r.0, r.1, r.2, r.3, r.4)
  splits begun [] ls (Ends n ∷ items) behind b e h = absurd h
  splits begun (j ∷ ns) [] (Ends n ∷ items) behind b e h = absurd cc
  splits begun (j ∷ ns) (l ∷ ls) (Ends n ∷ items) behind b e h =
      let r : Splits begun ns ls items = splits begun ns ls items behind (begun_still begun j ns b) (omega (arith, e)) h.1 in
      (r.0, r.1, r.2, r.3, λ more k. (h.0, r.4 more k))
  splits begun [] ls (Char c ∷ items) behind b e h = absurd h
  splits begun (j ∷ ns) [] (Char c ∷ items) behind b e h = absurd cc
  splits begun (j ∷ ns) (l ∷ ls) (Char c ∷ items) behind b e h =
      let r : Splits begun (j ∷ ns) (levels_after m (l ∷ ls) (Char c)) items = splits begun (j ∷ ns) (levels_after m (l ∷ ls) (Char c)) items behind b e h in
      (r.0, r.1, r.2, r.3, r.4)
  splits begun [] ls (Skipped ∷ items) behind b e h = absurd h
  splits begun (j ∷ ns) ls (Skipped ∷ items) behind b e h = absurd h

  -- what may follow behind events that break nothing makes them open
  open_by : (items rest : List Item) → AreFine m [] (tree_items 0 items) → MayFollow m 0 (levels_over m [] (tree_items 0 items)) rest → Nested false [] (tree_items 0 items ++ rest) → AreEventsOpen m items
  open_by items rest fine may nested = of_tree (parse_nested false [] (tree_items 0 items ++ rest) tt nested)
    where
      of_shape : (t : Tree) → tree_items 0 items ++ rest ≡ flat t → ((v : Shape) × HasShape m.forms (m.forms m.root) v × IsSoFar m (length (tree_items 0 items)) v t) → AreEventsOpen m items
      of_shape t e (v, has, so_far) = record { shape = v; has_shape = has; tree = t; behind = rest; goes_on = e; so_far = so_far }

      of_tree : ((t : Tree) × (tree_items 0 items ++ rest ≡ flat t)) → AreEventsOpen m items
      of_tree (t, e) =
          of_shape t e (root_so m whole (length (tree_items 0 items)) t
          (subst (λ (x : List Item). MayFollow m (length (tree_items 0 items)) [] x) e (fine_may m (length (tree_items 0 items)) 0 [] (tree_items 0 items) rest (omega arith) fine may)))

  -- where no root has begun
  open_at_once : (items : List Item) → AreFine m [] (tree_items 0 items) → levels_over m [] (tree_items 0 items) ≡ [] → ((more : List Item) → Nested false [] more → Nested false [] (tree_items 0 items ++ more)) → AreEventsOpen m items
  open_at_once items fine none goes_on = of_made (made_at m finite.kinds (0 - 1) m.root finite.document.0 (omega arith) finite.document.1)
    where
      of_made : Made m finite.kinds (0 - 1) (m.forms m.root) finite.document.0 → AreEventsOpen m items
      of_made (nodes, holds, content) =
          let t : Tree = record { name = name_in_namespace m.namespace (codes "Document"); attributes = []; children = nodes } in
          let may : MayFollow m 0 [] (flat t) = root_may m steady 0 t finite.document.0 finite.document.1 (record { name = refl; attributes = λ some. absurd (omega arith); holds = holds; content = content }) in
          open_by items (flat t) fine (subst (λ (x : List (Level P)). MayFollow m 0 x (flat t)) (sym none) may) (goes_on (flat t) (tree_nested t))

  pub fine_is_open : (items : List Item) → IsTreeFront items → AreFine m [] items → AreEventsOpen m items
  fine_is_open items (behind, t, e) fine = go (splits false [] [] (tree_items 0 items) behind tt refl (subst (λ (x : List Item). Nested false [] x) (sym e) (tree_nested t)))
    where
      here : AreFine m [] (tree_items 0 items)
      here = fine_counted m 0 [] items refl fine

      of_completed : (left : List Expanded) → ((more : List Item) → Nested true left more → Nested false [] (tree_items 0 items ++ more)) → Completed m finite steady goes (levels_over m [] (tree_items 0 items)) left → AreEventsOpen m items
      of_completed left goes_on (rest, may, nested) = open_by items rest here may (goes_on rest nested)

      go : Splits false [] [] (tree_items 0 items) → AreEventsOpen m items
      go (true, left, b, size, goes_on) = of_completed left goes_on (complete m finite steady goes (levels_over m [] (tree_items 0 items)) left size (over_stands m finite [] (tree_items 0 items) tt here))
      go (false, [], b, size, goes_on) = open_at_once items here (nil_from_length _ size) goes_on
      go (false, n ∷ left, b, size, goes_on) = absurd cc

  pub open_is_fine : (items : List Item) → AreEventsOpen m items → AreFine m [] items
  open_is_fine items o =
      counted_fine m 0 [] items refl (may_is_fine m (length (tree_items 0 items)) [] (tree_items 0 items) o.behind (omega arith)
      (subst (λ (x : List Item). MayFollow m (length (tree_items 0 items)) [] x) (sym o.goes_on) (root_may m steady (length (tree_items 0 items)) o.tree o.shape o.has_shape o.so_far)))

steady_of : SoundFormsAgree → (m : Message ℕ) → AreSound m.forms → IsSteady m.forms
steady_of agree m sound = record { tagged = λ p. (agree (m.forms p) (sound p)).tagged; goes_on = λ p. (agree (m.forms p) (sound p)).goes_on; ends = λ p. (agree (m.forms p) (sound p)).ends }

goes_of : CameGoesOn → (m : Message ℕ) → AreSound m.forms → (p : ℕ) (f : Form ℕ Simple) (d : List ℕ) → m.forms p ≡ f → WordGoesOn f [] → Came f d → WordGoesOn f d
goes_of goes m sound p f d at = subst (λ (f : Form ℕ Simple). WordGoesOn f [] → Came f d → WordGoesOn f d) at (λ start came. goes (m.forms p) d (sound p) start came)

pub fine_are_open : SoundFormsAgree → CameGoesOn → FineIsOpen
fine_are_open agree goes m items sound finite front = (
  fine_is_open m finite (steady_of agree m sound) (goes_of goes m sound) (λ p d came ends. (agree (m.forms p) (sound p)).whole d came ends) items front,
  open_is_fine m finite (steady_of agree m sound) (goes_of goes m sound) (λ p d came ends. (agree (m.forms p) (sound p)).whole d came ends) items,
)

pub one_more_is_open : SoundFormsAgree → CameGoesOn → OneMoreIsOpen
one_more_is_open agree goes m before item sound finite front fine = (to, back)
  where
    both : AreFine m [] (before ++ item ∷ []) ↔ AreEventsOpen m (before ++ item ∷ [])
    both = fine_are_open agree goes m (before ++ item ∷ []) sound finite front

    to : EventFault m (levels_over m [] before) item None → AreEventsOpen m (before ++ item ∷ [])
    to h = both.0 (fine_append m [] before (item ∷ []) fine (h, tt))

    back : AreEventsOpen m (before ++ item ∷ []) → EventFault m (levels_over m [] before) item None
    back o = (fine_behind m [] before (item ∷ []) (both.1 o)).0

pub clean_are_fronts : CleanAreFronts
clean_are_fronts tokens before behind clean e = front_of_front before behind (subst (λ (x : List Item). IsTreeFront x) e (clean_front tokens clean))

pub broken_is_not_open : ((s : Simple) (w : List ℕ) (r q : Rule) → BreaksFirst s w r → BreaksFirst s w q → r ≡ q) → SoundFormsAgree → CameGoesOn → BrokenEventIsNotOpen
broken_is_not_open first_rule agree goes m before item b sound finite front fine broken o =
    none_some (event_same m first_rule (levels_over m [] before) item None (Some b) ((one_more_is_open agree goes m before item sound finite front fine).1 o) broken)
  where
    none_some : ◌≡◌ {A = Rattle.std.specs.Prelude.Option Broken} None (Some b) → ⊥
    none_some e = absurd cc

pub fed_is_open : EventsStay → SoundFormsAgree → CameGoesOn → FedIsOpen
fed_is_open stay agree goes T checker bytes sound finite h = of_tokens (stay checker.reader bytes h.told h.given [])
  where
    of_tokens : ((tokens : List Token) × (rest : List ℕ) × Front tag_limit [] (bytes ++ []) tokens rest × IsClean [] tokens × (h.told ≡ events [] 0 tokens)) → AreEventsOpen (message_of T) (items_told h.told)
    of_tokens (tokens, rest, front, clean, e) =
        let same : items tokens ≡ items_told h.told = ap items_told (sym e) in
        (fine_are_open agree goes (message_of T) (items_told h.told) sound finite (subst (λ (x : List Item). IsTreeFront x) same (clean_front tokens clean))).0 h.fine
