-- What completes a tag behind one more character completes it with that character.
use Rattle.std.proofs.Common.{◌≡◌, ℕ, Bool, true, false, not, ◌==◌, ◌||◌, ◌&&◌, inl, inr, List, [], ◌∷◌, ◌++◌, refl, sym, ◌∙◌, ap, subst}
use Rattle.std.specs.List.{list_all, flat_map}
use Rattle.std.proofs.lemmas.Bool.{and_from, not_from_false, eqb-true}
use Rattle.markup.specs.Chars.{is_xml_char, is_name_start, is_space}
use Rattle.markup.specs.Name.{name_text}
use Rattle.markup.specs.Attribute.{Literal, Refers, piece_text, Attribute, attribute_text}
use Rattle.markup.specs.inner.ReferenceScans.{reference_step}
use Rattle.markup.specs.inner.Scans.{name_step, name_turn, close_step, behind_attribute_step, gap_step, before_equals_step, after_equals_step, value_step, end_gap_step, referring, referring_in}
use Rattle.markup.specs.declared.reference.ReferenceScan.{ReferenceScan}
use Rattle.markup.specs.declared.reference.ReferenceTurn.{ReferenceTurn}
use Rattle.markup.specs.declared.reference.ReferenceTurn.TheVariants.{Continues, Gives, Breaks}
use Rattle.markup.specs.declared.scan.NameScan.{NameScan}
use Rattle.markup.specs.declared.scan.NameTurn.{NameTurn}
use Rattle.markup.specs.declared.scan.NameTurn.TheVariants.{Remains, Ends, Fails}
use Rattle.markup.specs.declared.scan.Position.{Position}
use Rattle.markup.specs.declared.scan.Scan.{Scan}
use Rattle.markup.specs.declared.scan.Scan.TheVariants.{StartName, AttributeName, EndName}
use Rattle.markup.specs.declared.scan.Turn.{Turn}
use Rattle.markup.specs.declared.scan.Turn.TheVariants.{Stuck}
use Rattle.markup.proofs.ReferenceLemmas.{body}
use Rattle.markup.proofs.AttributeLemmas.{attribute_then, attributes_then, refers_begins}
use Rattle.markup.proofs.TokenLemmas.{close}
use Rattle.markup.proofs.NameSound.{on_if, at_char, reference_sound, NameTurnThen, name_sound, name_begun}
use Rattle.markup.proofs.Residuals.{IsReference, ReferenceRest, ReferenceThen, NameRest, Spaced, Tail, InValue, Quoted, Equalled, GapThen, EndClose, Rest, Then}

pub cons_same : (c d : ℕ) (x y : List ℕ) → c ≡ d → x ≡ y → (c ∷ x) ≡ (d ∷ y)
cons_same c d x y e f = cc

pub spaced_more : (K : List ℕ → Type 0) (c : ℕ) (w : List ℕ) → is_space c ≡ true → Spaced K w → Spaced K (c ∷ w)
spaced_more K c w h r = record { gap = c ∷ r.gap; after = r.after; are = and_from _ _ h r.are; text = ap (λ u. c ∷ u) r.text; next = r.next }

pub spaced_none : (K : List ℕ → Type 0) (w : List ℕ) → K w → Spaced K w
spaced_none K w k = record { gap = []; after = w; are = refl; text = refl; next = k }

-- an attribute from its white space on, by its parts
pub attribute_joined : (g n b a p x : List ℕ) (q : ℕ) (w v1 v2 v3 v4 v5 v6 v7 : List ℕ) → w ≡ g ++ v1 → v1 ≡ n ++ v2 → v2 ≡ b ++ v3 → v3 ≡ 61 ∷ v4 → v4 ≡ a ++ v5 → v5 ≡ q ∷ v6 → v6 ≡ p ++ q ∷ v7 → v7 ≡ x
    → w ≡ g ++ (n ++ (b ++ 61 ∷ (a ++ q ∷ (p ++ q ∷ x))))
attribute_joined g n b a p x q w v1 v2 v3 v4 v5 v6 v7 e1 e2 e3 e4 e5 e6 e7 e8 = cc

-- white space begins an attribute, or stands before the close
tail_of_gap : (c : ℕ) (w : List ℕ) → is_space c ≡ true → Spaced GapThen w → Tail (c ∷ w)
tail_of_gap c w h s = by s.gap s.after s.are s.text s.next where
  by : (g after : List ℕ) → list_all is_space g ≡ true → w ≡ g ++ after → GapThen after → Tail (c ∷ w)
  by g after a e (inl k) = record { attributes = []; gap = c ∷ g; is_empty = k.0; are = refl; spaces = and_from _ _ h a; text = ap (λ u. c ∷ u) (e ∙ ap (λ u. g ++ u) k.1) }
  by g after a e (inr n) =
      let b = n.next in let q = b.next.next in let v = q.next.next in let t = v.next in
      let m : Attribute = record { gap = c ∷ g; name = n.name; before = b.gap; after = b.next.next.gap; quote = q.next.quote; value = v.pieces } in
      record {
        attributes = m ∷ t.attributes;
        gap = t.gap;
        is_empty = t.is_empty;
        are = and_from _ _ (and_from _ _ (and_from _ _ (and_from _ _ (and_from _ _ (and_from _ _ (and_from _ _ h a) n.is) b.are) q.are) q.next.is) v.are) t.are;
        spaces = t.spaces;
        text = attribute_joined (c ∷ g) (name_text n.name) b.gap q.gap (flat_map piece_text v.pieces) (flat_map attribute_text t.attributes ++ (t.gap ++ close t.is_empty)) q.next.quote (c ∷ w) after n.after b.after b.next.more q.after q.next.more v.after
            (ap (λ u. c ∷ u) e) n.text b.text b.next.text q.text q.next.text v.text t.text
            ∙ sym (attributes_then m t.attributes (t.gap ++ close t.is_empty) ∙ attribute_then m (flat_map attribute_text t.attributes ++ (t.gap ++ close t.is_empty)));
      }

module _ (W : Position → List ℕ → Type 0) where
  -- a turn of a name that is read by the scans at
  turn_of_name : (K : List ℕ → Type 0) (at : NameScan → Scan) (behind : Turn) (c : ℕ) (w : List ℕ) (t : NameTurn) → ((n : NameScan) → Rest W (at n) w → NameRest K n w) → (Then W w behind → K (c ∷ w)) → Then W w (name_turn at behind t) → NameTurnThen K c w t
  turn_of_name K at behind c w (Remains n) f g h = f n h
  turn_of_name K at behind c w Ends f g h = g h
  turn_of_name K at behind c w Fails f g h = h

  pub close_sound : (c : ℕ) (w : List ℕ) → Then W w (close_step c) → (e : Bool) × (c ∷ w ≡ close e)
  close_sound c w h = on_if (Then W w) (c == 47) _ _ h
      (λ e r. (true, cons_same c 47 w (62 ∷ []) (eqb-true c 47 e) r))
      (λ _ h. on_if (Then W w) (c == 62) _ Stuck h (λ e r. (false, cons_same c 62 w [] (eqb-true c 62 e) r)) (λ _ k. absurd k))

  pub behind_sound : (c : ℕ) (w : List ℕ) → Then W w (behind_attribute_step c) → Tail (c ∷ w)
  behind_sound c w h = on_if (Then W w) (is_space c) _ _ h
      (λ e r. tail_of_gap c w e r)
      (λ _ h. let k = close_sound c w h in record { attributes = []; gap = []; is_empty = k.0; are = refl; spaces = refl; text = k.1 })

  pub gap_sound : (c : ℕ) (w : List ℕ) → Then W w (gap_step c) → Spaced GapThen (c ∷ w)
  gap_sound c w h = on_if (Then W w) (is_name_start c) _ _ h
      (λ e r. spaced_none GapThen (c ∷ w) (inr (name_begun (Spaced Equalled) c w e r)))
      (λ _ h. on_if (Then W w) (is_space c) _ _ h
      (λ e r. spaced_more GapThen c w e r)
      (λ _ h. spaced_none GapThen (c ∷ w) (inl (close_sound c w h))))

  pub before_equals_sound : (c : ℕ) (w : List ℕ) → Then W w (before_equals_step c) → Spaced Equalled (c ∷ w)
  before_equals_sound c w h = on_if (Then W w) (is_space c) _ _ h
      (λ e r. spaced_more Equalled c w e r)
      (λ _ h. on_if (Then W w) (c == 61) _ Stuck h
      (λ e r. spaced_none Equalled (c ∷ w) (record { more = w; text = ap (λ d. d ∷ w) (eqb-true c 61 e); next = r }))
      (λ _ k. absurd k))

  pub after_equals_sound : (c : ℕ) (w : List ℕ) → Then W w (after_equals_step c) → Spaced Quoted (c ∷ w)
  after_equals_sound c w h = on_if (Then W w) (is_space c) _ _ h
      (λ e r. spaced_more Quoted c w e r)
      (λ _ h. on_if (Then W w) (c == 34 || c == 39) _ Stuck h
      (λ e r. spaced_none Quoted (c ∷ w) (record { quote = c; more = w; is = e; text = refl; next = r }))
      (λ _ k. absurd k))

  refers_value : (q : ℕ) (w v : List ℕ) → IsReference w v → InValue q v → InValue q (38 ∷ w)
  refers_value q w v r i = record {
    pieces = Refers r.reference ∷ i.pieces;
    after = i.after;
    are = and_from _ _ r.is i.are;
    text = ap (λ u. 38 ∷ u) (r.text ∙ ap (λ u. body r.reference ++ 59 ∷ u) i.text) ∙ sym (refers_begins r.reference i.pieces (q ∷ i.after));
    next = i.next;
  }

  literal_value : (q c : ℕ) (w : List ℕ) → (c == q) ≡ false → (c == 38) ≡ false → (is_xml_char c && not (c == 60)) ≡ true → InValue q w → InValue q (c ∷ w)
  literal_value q c w h k l i = record {
    pieces = Literal c ∷ i.pieces;
    after = i.after;
    are = and_from _ _ (and_from _ _ (and_from _ _ l (not_from_false _ k)) (not_from_false _ h)) i.are;
    text = ap (λ u. c ∷ u) i.text;
    next = i.next;
  }

  pub value_sound : (q c : ℕ) (w : List ℕ) → Then W w (value_step q c) → InValue q (c ∷ w)
  value_sound q c w h = on_if (Then W w) (c == q) _ _ h
      (λ e r. record { pieces = []; after = w; are = refl; text = ap (λ d. d ∷ w) (eqb-true c q e); next = r })
      (λ e1 h. on_if (Then W w) (c == 38) _ _ h
      (λ e r. at_char (λ d. InValue q (d ∷ w)) c 38 e (refers_value q w r.0 r.1 r.2))
      (λ e2 h. on_if (Then W w) (is_xml_char c && not (c == 60)) _ Stuck h
      (λ e r. literal_value q c w e1 e2 e r)
      (λ _ k. absurd k)))

  pub value_reference_sound : (q : ℕ) (r : ReferenceScan) (c : ℕ) (w : List ℕ) → Then W w (referring_in q (reference_step r c)) → (v : List ℕ) × ReferenceRest r (c ∷ w) v × InValue q v
  value_reference_sound q r c w h = by (reference_step r c) refl h where
    by : (t : ReferenceTurn) → reference_step r c ≡ t → Then W w (referring_in q t) → (v : List ℕ) × ReferenceRest r (c ∷ w) v × InValue q v
    by (Continues s) e k = (k.0, reference_sound r c w k.0 (subst (ReferenceThen w k.0) (sym e) k.1), k.2)
    by (Gives g) e k = (w, reference_sound r c w w (subst (ReferenceThen w w) (sym e) refl), k)
    by Breaks e k = absurd k

  pub reference_turn_sound : (r : ReferenceScan) (c : ℕ) (w : List ℕ) → Then W w (referring (reference_step r c)) → ReferenceRest r (c ∷ w) []
  reference_turn_sound r c w h = by (reference_step r c) refl h where
    by : (t : ReferenceTurn) → reference_step r c ≡ t → Then W w (referring t) → ReferenceRest r (c ∷ w) []
    by (Continues s) e k = reference_sound r c w [] (subst (ReferenceThen w []) (sym e) k)
    by (Gives g) e k = reference_sound r c w [] (subst (ReferenceThen w []) (sym e) k)
    by Breaks e k = absurd k

  pub end_gap_sound : (c : ℕ) (w : List ℕ) → Then W w (end_gap_step c) → Spaced EndClose (c ∷ w)
  end_gap_sound c w h = on_if (Then W w) (is_space c) _ _ h
      (λ e r. spaced_more EndClose c w e r)
      (λ _ h. on_if (Then W w) (c == 62) _ Stuck h
      (λ e r. spaced_none EndClose (c ∷ w) (cons_same c 62 w [] (eqb-true c 62 e) r))
      (λ _ k. absurd k))

  pub start_name_sound : (n : NameScan) (c : ℕ) (w : List ℕ) → Then W w (name_turn StartName (behind_attribute_step c) (name_step n c)) → NameRest Tail n (c ∷ w)
  start_name_sound n c w h = name_sound Tail n c w (turn_of_name Tail StartName (behind_attribute_step c) c w (name_step n c) (λ m r. r) (behind_sound c w) h)

  pub attribute_name_sound : (n : NameScan) (c : ℕ) (w : List ℕ) → Then W w (name_turn AttributeName (before_equals_step c) (name_step n c)) → NameRest (Spaced Equalled) n (c ∷ w)
  attribute_name_sound n c w h = name_sound (Spaced Equalled) n c w (turn_of_name (Spaced Equalled) AttributeName (before_equals_step c) c w (name_step n c) (λ m r. r) (before_equals_sound c w) h)

  pub end_name_sound : (n : NameScan) (c : ℕ) (w : List ℕ) → Then W w (name_turn EndName (end_gap_step c) (name_step n c)) → NameRest (Spaced EndClose) n (c ∷ w)
  end_name_sound n c w h = name_sound (Spaced EndClose) n c w (turn_of_name (Spaced EndClose) EndName (end_gap_step c) c w (name_step n c) (λ m r. r) (end_gap_sound c w) h)
