-- From place to place: what was put into the buffer, and what is still to be written.
use Rattle.std.proofs.Common.{◌≡◌, ℕ, suc, ◌+◌, ◌<◌, ◌≤◌, true, false, List, Option, Result, [], ◌++◌, length, drop, sym, ap, ap₂, ◌∙◌, subst, arith, append_assoc}
use Rattle.std.proofs.lemmas.Option.{slice_get_within}
use Rattle.data_types.specs.Leaf.{Leaf}
use Rattle.data_types.specs.Value.{Edge, Piece, Ends}
use Rattle.facets.specs.declared.simple.Simple.{Simple}
use Rattle.der_octets.specs.Octets.{context}
use Rattle.outside.specs.Pushes.{Pushes}
use Rattle.outside.specs.declared.errors.SinkError.{SinkError}
use Rattle.outside.proofs.Pushing.{stopped}
use Rattle.outside.proofs.PushedFronts.{IsPushedTo, to_ends, to_more, to_stops}
use Rattle.inst_pool.specs.Pieces.{Held, IsLeafElement}
use Rattle.reference_check.specs.Forms.{Graph}
use Rattle.der_model.specs.LeafContents.{leaf_contents}
use Rattle.der_writer.specs.declared.write.Place.{Place}
use Rattle.der_writer.specs.inner.PieceOctets.{empty_slots, head, next_slot, pieces_octets, plain_edge, sequence_slots, slots_between}
use Rattle.der_writer.specs.inner.Measuring.{before_place, behind_piece, octets_at}
use Rattle.der_writer.specs.inner.Writing.{IsWritingPlace, IsNextPlace, HasPutOctets, octets_from}
use Rattle.der_writer.proofs.Plain.{plain_octets}
use Rattle.der_writer.proofs.Told.{stops, told_done, told_stopped, went}
use Rattle.der_writer.proofs.Whole.{octets_end, octets_on}

module _ (g : Graph ℕ Simple) (held : Held) where
  abbrev ps : List Piece
  ps = held.region.pieces

  -- what is written from a place on, by the place behind the piece there
  next_octets : (p behind : Place) → p.at < length ps → IsNextPlace g ps p behind → octets_from g held p ≡ octets_at g held p.at p.left ++ octets_from g held behind
  next_octets p behind within next =
      octets_on g held p.at p.left within
      ∙ ap₂ (λ n l. octets_at g held p.at p.left ++ pieces_octets g (before_place ps n) (drop n ps) held.lens held.groups l) (sym next.at) (sym next.left)

  -- the piece there was put into the buffer
  pub put_one : (p behind : Place) (old new : List ℕ) → p.at < length ps → IsNextPlace g ps p behind → new ≡ old ++ octets_at g held p.at p.left → HasPutOctets g held p old behind new
  put_one p behind old new within next is = record {
    place = next.place;
    later = (let at = next.at in omega (arith, at));
    octets = ap (λ t. old ++ t) (next_octets p behind within next) ∙ (sym (append_assoc old (octets_at g held p.at p.left) (octets_from g held behind)) ∙ ap (λ t. t ++ octets_from g held behind) (sym is));
  }

  -- the three pieces of a plain element were
  pub put_three : (p behind : Place) (edge : Edge) (leaf : Leaf) (old new : List ℕ) → IsWritingPlace ps p → IsLeafElement ps p.at edge leaf → plain_edge g edge ≡ true
      → behind.at ≡ p.at + 3 → behind.next ≡ suc edge.slot → behind.left ≡ p.left
      → new ≡ old ++ (slots_between g edge.parent (before_place ps p.at) edge.slot ++ (head false (context edge.slot) (length (leaf_contents leaf)) ++ leaf_contents leaf)) → HasPutOctets g held p old behind new
  put_three p behind edge leaf old new place is plain at slot left put = record {
    place = record {
      at = omega (arith, within, at);
      next = slot ∙ sym (ap (λ n. next_slot (before_place ps n)) last ∙ ap (λ o. next_slot (behind_piece o)) is.ends);
      left = (let few = place.left in omega (arith, left, few));
    };
    later = omega (arith, at);
    octets = ap (λ t. old ++ t) octets ∙ (sym (append_assoc old one (octets_from g held behind)) ∙ ap (λ t. t ++ octets_from g held behind) (sym put));
  }
    where
      within : p.at + 2 < length ps
      within = slice_get_within ps (p.at + 2) (Ends edge) is.ends

      last : behind.at ≡ suc (p.at + 2)
      last = omega (arith, at)

      one : List ℕ
      one = slots_between g edge.parent (before_place ps p.at) edge.slot ++ (head false (context edge.slot) (length (leaf_contents leaf)) ++ leaf_contents leaf)

      octets : octets_from g held p ≡ one ++ octets_from g held behind
      octets = plain_octets g held p.at p.left edge leaf is plain ∙ ap₂ (λ n l. one ++ pieces_octets g (before_place ps n) (drop n ps) held.lens held.groups l) (sym at) (sym left)

  module _ {S : Type 0} (pushed : S → Option (List ℕ)) (faults room : S → ℕ) (whole : List ℕ) where
    -- some of it was put into the buffer
    pub ahead_put : (a b : S) (p q : Place) (old new : List ℕ) → IsPushedTo pushed faults room a b whole (old ++ octets_from g held p) → HasPutOctets g held p old q new → IsPushedTo pushed faults room a b whole (new ++ octets_from g held q)
    ahead_put a b p q old new h put = subst (λ t. IsPushedTo pushed faults room a b whole t) put.octets h

    -- the buffer and the piece at the place were pushed
    pub ahead_past : (a b c : S) (p behind : Place) (old new : List ℕ) → p.at < length ps → IsPushedTo pushed faults room a b whole (old ++ octets_from g held p) → Pushes pushed faults room b c (went behind) (old ++ octets_at g held p.at p.left)
        → IsNextPlace g ps p behind → new ≡ [] → IsPushedTo pushed faults room a c whole (new ++ octets_from g held behind)
    ahead_past a b c p behind old new within h push next none =
        subst (λ t. IsPushedTo pushed faults room a c whole (t ++ octets_from g held behind)) (sym none)
        (to_more pushed faults room a b c whole (old ++ octets_from g held p) (old ++ octets_at g held p.at p.left) (octets_from g held behind)
        (ap (λ t. old ++ t) (next_octets p behind within next) ∙ sym (append_assoc old (octets_at g held p.at p.left) (octets_from g held behind))) h
        (told_done pushed faults room behind tt b c (old ++ octets_at g held p.at p.left) push))

    -- they were not
    pub stops_past : (a b c : S) (p : Place) (old : List ℕ) (error : SinkError) → p.at < length ps → IsPushedTo pushed faults room a b whole (old ++ octets_from g held p)
        → Pushes pushed faults room b c (stops {T = Place} error) (old ++ octets_at g held p.at p.left) → Pushes pushed faults room a c (stopped error) whole
    stops_past a b c p old error within h push =
        to_stops pushed faults room a b c whole (old ++ octets_from g held p) (old ++ octets_at g held p.at p.left) _ error
        (ap (λ t. old ++ t) (octets_on g held p.at p.left within) ∙ sym (append_assoc old (octets_at g held p.at p.left) _)) h
        (told_stopped pushed faults room {T = Place} {U = Unit {0}} error b c (old ++ octets_at g held p.at p.left) push)

    -- behind the last piece
    pub ends_behind : (a b c : S) (p : Place) (old : List ℕ) (r : Result (Unit {0}) SinkError) → length ps ≤ p.at → IsWritingPlace ps p → IsPushedTo pushed faults room a b whole (old ++ octets_from g held p)
        → Pushes pushed faults room b c r (old ++ empty_slots p.next (drop p.next (sequence_slots (g 0)))) → Pushes pushed faults room a c r whole
    ends_behind a b c p old r past place h push =
        let slots = λ (n : ℕ). empty_slots n (drop n (sequence_slots (g 0))) in
        let end : slots p.next ≡ octets_from g held p = ap slots place.next ∙ sym (octets_end g (before_place ps p.at) ps held.lens held.groups p.left p.at past) in
        to_ends pushed faults room a b c whole (old ++ octets_from g held p) r h (subst (λ t. Pushes pushed faults room b c r (old ++ t)) end push)
