-- Examples of the definitions, computed.
use Rattle.std.proofs.Common.{◌≡◌, ℕ, zero, suc, ◌≤◌, true, false, List, [], ◌∷◌, ◌++◌, length, Some, None, refl, subst, arith, pos, lit≤, lit<}
use Rattle.std.specs.Prelude.{codes, slice_get}
use Rattle.std.specs.Fmt.{decimal}
use Rattle.std.proofs.lemmas.Fmt.{decimal_digit}
use Rattle.std.proofs.lemmas.Option.{same_Some}
use Rattle.lexical_core.specs.declared.rule.Rule.TheVariants.{UnexpectedTag, DerMissing, TooFew, Overrun}
use Rattle.data_types.specs.Leaf.{Bytes}
use Rattle.data_types.specs.Value as value
use Rattle.data_types.specs.declared.kind.Kind.{Kind}
use Rattle.data_types.specs.declared.kind.Kind.TheVariants as kind
use Rattle.facets.specs.LeafUnder.{HasSortedCodes}
use Rattle.facets.specs.LeafChecks.{IsWithinLimits}
use Rattle.facets.specs.declared.simple.Simple.{Simple}
use Rattle.der_octets.specs.Octets.{universal, context, identifier, length_octets, wrapped}
use Rattle.reference_check.specs.Forms.{Slot}
use Rattle.reference_check.specs.Forms as form
use Rattle.reference_check.specs.Words.{UpTo}
use Rattle.reference_check.specs.Steps.{find_slot, has_room}
use Rattle.message_model.specs.Sound.{IsSoundForm, AreSound, HaveCodes, HaveSortedCodes}
use Rattle.der_model.specs.RealContents.{real_contents}
use Rattle.der_model.specs.LeafContents.{integer_octets}
use Rattle.der_model.specs.Structures.{Instance, Value, ListOf}
use Rattle.der_model.specs.Sound.{IsSoundDer}
use Rattle.der_model.specs.Der.{der_of}
use Rattle.der_model.specs.States.{Identifier, Length, End, State, Start, AwaitsLength, Within, Numbered, ListName}
use Rattle.der_model.specs.Faults.{DerFault, DerFront, broken}
use Rattle.der_model.specs.Examples.{plain, text_slot, list_slot, amount_slot, forms, note, with_note, one_character}

-- 30 06 A0 04 80 02 41 31
pub row_text : der_of (note (text_slot (Some 1) ∷ [])) (with_note (value.Child 0 (value.Simple (Bytes (65 ∷ 49 ∷ []))) value.Nothing)) ≡ 48 ∷ 6 ∷ 160 ∷ 4 ∷ 128 ∷ 2 ∷ 65 ∷ 49 ∷ []
unfolding plain forms identifier length_octets wrapped
row_text = refl

-- 30 0A A0 08 A0 06 0C 01 41 0C 01 42
pub row_list : der_of (note (text_slot None ∷ [])) (with_note (value.Child 0 (one_character 65) (value.Child 0 (one_character 66) value.Nothing))) ≡ 48 ∷ 10 ∷ 160 ∷ 8 ∷ 160 ∷ 6 ∷ 12 ∷ 1 ∷ 65 ∷ 12 ∷ 1 ∷ 66 ∷ []
unfolding plain forms identifier length_octets wrapped
row_list = refl

-- 30 04 A0 02 A0 00
pub row_empty : der_of (note (text_slot None ∷ [])) (with_note value.Nothing) ≡ 48 ∷ 4 ∷ 160 ∷ 2 ∷ 160 ∷ 0 ∷ []
unfolding plain forms identifier length_octets wrapped
row_empty = refl

-- 03 31 35 2E 45 2D 31
pub row_real : real_contents (record { whole = pos 15; scale = 1 }) ≡ 3 ∷ (decimal 15 ++ (46 ∷ 69 ∷ 45 ∷ decimal 1))
unfolding real_contents
row_real = refl

-- 00 80
pub row_code : integer_octets 128 ≡ 0 ∷ 128 ∷ []
unfolding integer_octets
row_code = refl

-- 30 04 A0 02 81 00: UnexpectedTag at 4 in /Document[1]/Note[1]
pub row_tag_fault : DerFault (note (text_slot (Some 1) ∷ [])) (48 ∷ 4 ∷ 160 ∷ 2 ∷ 129 ∷ 0 ∷ []) (record { rule = UnexpectedTag; place = 4; path = codes "/Document[1]/Note[1]" })
unfolding plain forms identifier length_octets wrapped
row_tag_fault =
    let front : DerFront (note (text_slot (Some 1) ∷ [])) Start 0 (48 ∷ 4 ∷ 160 ∷ 2 ∷ 129 ∷ 0 ∷ []) (Identifier true (universal 16) ∷ Length 4 ∷ Identifier true (context 0) ∷ Length 2 ∷ [])
    (Within (record { spot = Value 1; names = Numbered (codes "Note") 1 ∷ []; came = []; end = 6 } ∷ record { spot = Instance; names = Numbered (codes "Document") 1 ∷ []; came = 0 ∷ []; end = 6 } ∷ [])) 4 (129 ∷ 0 ∷ []) =
    (4 ∷ 160 ∷ 2 ∷ 129 ∷ 0 ∷ [], refl, lit< tt, tt, refl, (160 ∷ 2 ∷ 129 ∷ 0 ∷ [], refl, lit< tt, tt, tt, (2 ∷ 129 ∷ 0 ∷ [], refl, (lit< tt, lit< tt), lit≤ tt, (0, _, refl), (129 ∷ 0 ∷ [], refl, lit< tt, lit≤ tt, lit≤ tt, (refl, refl, refl))))) in
    record {
      parts = Identifier true (universal 16) ∷ Length 4 ∷ Identifier true (context 0) ∷ Length 2 ∷ [];
      state = Within (record { spot = Value 1; names = Numbered (codes "Note") 1 ∷ []; came = []; end = 6 } ∷ record { spot = Instance; names = Numbered (codes "Document") 1 ∷ []; came = 0 ∷ []; end = 6 } ∷ []);
      at = 4;
      rest = 129 ∷ 0 ∷ [];
      off = 0;
      added = [];
      front = front;
      next = broken (Identifier false (context 1)) (0 ∷ []) refl (lit< tt, lit< tt) (lit≤ tt) refl refl;
      place = refl;
      path = rw (decimal_digit 1 (lit< tt)) refl;
    }

-- 30 02 A0 00, where the slot is a list: Missing at 4 in /Document[1]/Note[1]/Id
pub row_missing : DerFault (note (text_slot None ∷ [])) (48 ∷ 2 ∷ 160 ∷ 0 ∷ []) (record { rule = DerMissing; place = 4; path = codes "/Document[1]/Note[1]/Id" })
unfolding plain forms identifier length_octets wrapped
row_missing =
    let state : State ℕ = Within (record { spot = Value 1; names = Numbered (codes "Note") 1 ∷ []; came = []; end = 4 } ∷ record { spot = Instance; names = Numbered (codes "Document") 1 ∷ []; came = 0 ∷ []; end = 4 } ∷ []) in
    let front : DerFront (note (text_slot None ∷ [])) Start 0 (48 ∷ 2 ∷ 160 ∷ 0 ∷ []) (Identifier true (universal 16) ∷ Length 2 ∷ Identifier true (context 0) ∷ Length 0 ∷ []) state 4 [] =
    (2 ∷ 160 ∷ 0 ∷ [], refl, lit< tt, tt, refl, (160 ∷ 0 ∷ [], refl, lit< tt, tt, tt, (0 ∷ [], refl, (lit< tt, lit< tt), lit≤ tt, (0, _, refl), ([], refl, lit< tt, lit≤ tt, lit≤ tt, (refl, refl, refl))))) in
    record {
      parts = Identifier true (universal 16) ∷ Length 2 ∷ Identifier true (context 0) ∷ Length 0 ∷ [];
      state = state;
      at = 4;
      rest = [];
      off = 0;
      added = codes "/Id";
      front = front;
      next = broken End [] refl refl (lit≤ tt) refl refl;
      place = refl;
      path = rw (decimal_digit 1 (lit< tt)) refl;
    }

-- 30 06 A0 04 A0 00 81 00, where the list wants an item: TooFew at 6 in /Document[1]/Note[1]/Id
pub row_few : DerFault (note (text_slot None ∷ [])) (48 ∷ 6 ∷ 160 ∷ 4 ∷ 160 ∷ 0 ∷ 129 ∷ 0 ∷ []) (record { rule = TooFew; place = 6; path = codes "/Document[1]/Note[1]/Id" })
unfolding plain forms identifier length_octets wrapped
row_few =
    let state : State ℕ = Within (record { spot = ListOf 1 0 (text_slot None); names = ListName (codes "Id") ∷ []; came = []; end = 6 } ∷ record { spot = Value 1; names = Numbered (codes "Note") 1 ∷ []; came = 0 ∷ []; end = 8 } ∷ record { spot = Instance; names = Numbered (codes "Document") 1 ∷ []; came = 0 ∷ []; end = 8 } ∷ []) in
    let parts = Identifier true (universal 16) ∷ Length 6 ∷ Identifier true (context 0) ∷ Length 4 ∷ Identifier true (context 0) ∷ Length 0 ∷ [] in
    let front : DerFront (note (text_slot None ∷ [])) Start 0 (48 ∷ 6 ∷ 160 ∷ 4 ∷ 160 ∷ 0 ∷ 129 ∷ 0 ∷ []) parts state 6 (129 ∷ 0 ∷ []) = (
      6 ∷ 160 ∷ 4 ∷ 160 ∷ 0 ∷ 129 ∷ 0 ∷ [],
      refl,
      lit< tt,
      tt,
      refl,
      (
        160 ∷ 4 ∷ 160 ∷ 0 ∷ 129 ∷ 0 ∷ [],
        refl,
        lit< tt,
        tt,
        tt,
        (
          4 ∷ 160 ∷ 0 ∷ 129 ∷ 0 ∷ [],
          refl,
          (lit< tt, lit< tt),
          lit≤ tt,
          (0, _, refl),
          (
            160 ∷ 0 ∷ 129 ∷ 0 ∷ [],
            refl,
            lit< tt,
            lit≤ tt,
            lit≤ tt,
            (0 ∷ 129 ∷ 0 ∷ [], refl, (lit< tt, lit< tt), lit≤ tt, (0, _, refl), (129 ∷ 0 ∷ [], refl, lit< tt, lit≤ tt, lit≤ tt, (refl, refl, refl))),
          ),
        ),
      ),
    ) in
    record {
      parts = parts;
      state = state;
      at = 6;
      rest = 129 ∷ 0 ∷ [];
      off = 0;
      added = [];
      front = front;
      next = broken End (129 ∷ 0 ∷ []) refl refl (lit≤ tt) refl refl;
      place = refl;
      path = rw (decimal_digit 1 (lit< tt)) refl;
    }

-- 30 06 A0 05 80 02 41 31: Overrun at 3 in /Document[1]/Note[1]
pub row_overrun : DerFault (note (text_slot (Some 1) ∷ [])) (48 ∷ 6 ∷ 160 ∷ 5 ∷ 128 ∷ 2 ∷ 65 ∷ 49 ∷ []) (record { rule = Overrun; place = 3; path = codes "/Document[1]/Note[1]" })
unfolding plain forms identifier length_octets wrapped
row_overrun =
    let state : State ℕ = AwaitsLength true (Value 1) (Numbered (codes "Note") 1 ∷ []) (record { spot = Instance; names = Numbered (codes "Document") 1 ∷ []; came = 0 ∷ []; end = 8 } ∷ []) in
    let parts = Identifier true (universal 16) ∷ Length 6 ∷ Identifier true (context 0) ∷ [] in
    let front : DerFront (note (text_slot (Some 1) ∷ [])) Start 0 (48 ∷ 6 ∷ 160 ∷ 5 ∷ 128 ∷ 2 ∷ 65 ∷ 49 ∷ []) parts state 3 (5 ∷ 128 ∷ 2 ∷ 65 ∷ 49 ∷ []) =
    (6 ∷ 160 ∷ 5 ∷ 128 ∷ 2 ∷ 65 ∷ 49 ∷ [], refl, lit< tt, tt, refl, (160 ∷ 5 ∷ 128 ∷ 2 ∷ 65 ∷ 49 ∷ [], refl, lit< tt, tt, tt, (5 ∷ 128 ∷ 2 ∷ 65 ∷ 49 ∷ [], refl, (lit< tt, lit< tt), lit≤ tt, (0, _, refl), (refl, refl, refl)))) in
    let past : 9 ≤ 8 → ⊥ = λ h. absurd (omega arith) in
    record {
      parts = parts;
      state = state;
      at = 3;
      rest = 5 ∷ 128 ∷ 2 ∷ 65 ∷ 49 ∷ [];
      off = 0;
      added = [];
      front = front;
      next = broken (Length 5) (128 ∷ 2 ∷ 65 ∷ 49 ∷ []) refl (lit< tt) (lit≤ tt) (past, refl, refl) refl;
      place = refl;
      path = rw (decimal_digit 1 (lit< tt)) refl;
    }

-- the message with a text, a list of texts and an amount meets what is asked of one
abbrev slots_of_note : List (Slot ℕ)
slots_of_note = text_slot (Some 1) ∷ list_slot ∷ amount_slot ∷ []

record IsFine (slots : List (Slot ℕ)) (k : ℕ) (s : Slot ℕ) : Type 0 where
  tagged : find_slot 0 slots s.tag ≡ Some k
  bounds : UpTo s.min s.max
  room : has_room 0 s.max ≡ true

fine_note : (k : ℕ) (s : Slot ℕ) → slice_get slots_of_note k ≡ Some s → IsFine slots_of_note k s
fine_note zero s e = subst (IsFine slots_of_note 0) (same_Some _ s e) (record { tagged = refl; bounds = lit≤ tt; room = refl })
fine_note (suc zero) s e = subst (IsFine slots_of_note 1) (same_Some _ s e) (record { tagged = refl; bounds = tt; room = refl })
fine_note (suc (suc zero)) s e = subst (IsFine slots_of_note 2) (same_Some _ s e) (record { tagged = refl; bounds = lit≤ tt; room = refl })
fine_note (suc (suc (suc k))) s e = absurd cc

abbrev slots_of_document : List (Slot ℕ)
slots_of_document = record { tag = codes "Note"; min = 1; max = Some 1; target = 1 } ∷ []

fine_document : (k : ℕ) (s : Slot ℕ) → slice_get slots_of_document k ≡ Some s → IsFine slots_of_document k s
fine_document zero s e = subst (IsFine slots_of_document 0) (same_Some _ s e) (record { tagged = refl; bounds = lit≤ tt; room = refl })
fine_document (suc k) s e = absurd cc

plain_within : (k : Kind) → IsWithinLimits (plain k)
unfolding plain
plain_within k = record { codes = tt; total = λ e. lit≤ tt }

sequence_sound : (slots : List (Slot ℕ)) → length slots ≤ 4096 → ((k : ℕ) (s : Slot ℕ) → slice_get slots k ≡ Some s → IsFine slots k s) → IsSoundForm {P = ℕ} (form.Sequence slots)
sequence_sound slots few fine = record {
  tags = λ k s e. (fine k s e).tagged;
  bounds = λ k s e. (fine k s e).bounds;
  room = λ k s e. (fine k s e).room;
  short = few;
  alternatives = tt;
  number = tt;
  limits = λ simple e. absurd cc;
}

text_sound : IsSoundForm {P = ℕ} (form.Simple (plain kind.Text))
text_sound = record {
  tags = λ k s e. absurd cc;
  bounds = λ k s e. absurd cc;
  room = λ k s e. absurd cc;
  short = lit≤ tt;
  alternatives = tt;
  number = tt;
  limits = λ simple e. subst IsWithinLimits (same_Some _ simple e) (plain_within kind.Text);
}

amount_sound : IsSoundForm {P = ℕ} (form.Money 2 (plain kind.Decimal))
unfolding plain
amount_sound = record {
  tags = λ k s e. absurd cc;
  bounds = λ k s e. absurd cc;
  room = λ k s e. absurd cc;
  short = lit≤ tt;
  alternatives = tt;
  number = refl;
  limits = λ simple e. subst IsWithinLimits (same_Some _ simple e) (plain_within kind.Decimal);
}

missing_sound : IsSoundForm {P = ℕ} form.Missing
missing_sound = record {
  tags = λ k s e. absurd cc;
  bounds = λ k s e. absurd cc;
  room = λ k s e. absurd cc;
  short = lit≤ tt;
  alternatives = tt;
  number = tt;
  limits = λ simple e. absurd cc;
}

forms_sound : AreSound (forms slots_of_note)
unfolding forms
forms_sound zero = sequence_sound slots_of_document (lit≤ tt) fine_document
forms_sound (suc zero) = sequence_sound slots_of_note (lit≤ tt) fine_note
forms_sound (suc (suc zero)) = text_sound
forms_sound (suc (suc (suc zero))) = amount_sound
forms_sound (suc (suc (suc (suc n)))) = missing_sound

codes_there : HaveCodes (forms slots_of_note)
unfolding forms
codes_there zero code number e = absurd cc
codes_there (suc zero) code number e = absurd cc
codes_there (suc (suc zero)) code number e = absurd cc
codes_there (suc (suc (suc zero))) code number e = code_text code (let same : 2 ≡ code = cc in same)
  where
    code_text : (code : ℕ) → 2 ≡ code → (simple : Simple) × (forms slots_of_note code ≡ form.Simple simple)
    code_text code same = subst (λ z. (simple : Simple) × (forms slots_of_note z ≡ form.Simple simple)) same (plain kind.Text, refl)
codes_there (suc (suc (suc (suc n)))) code number e = absurd cc

none_listed : (k : Kind) → HasSortedCodes (plain k)
unfolding plain
none_listed k = tt

codes_sorted : HaveSortedCodes (forms slots_of_note)
unfolding forms
codes_sorted zero simple e = absurd cc
codes_sorted (suc zero) simple e = absurd cc
codes_sorted (suc (suc zero)) simple e = subst HasSortedCodes (same_Some _ simple e) (none_listed kind.Text)
codes_sorted (suc (suc (suc zero))) simple e = subst HasSortedCodes (same_Some _ simple e) (none_listed kind.Decimal)
codes_sorted (suc (suc (suc (suc n)))) simple e = absurd cc

no_envelope : (n : ℕ) → forms slots_of_note n ≡ form.Envelope → ⊥
unfolding forms
no_envelope zero e = absurd cc
no_envelope (suc zero) e = absurd cc
no_envelope (suc (suc zero)) e = absurd cc
no_envelope (suc (suc (suc zero))) e = absurd cc
no_envelope (suc (suc (suc (suc n)))) e = absurd cc

pub row_sound : IsSoundDer (note slots_of_note)
unfolding forms
row_sound = record {
  forms = forms_sound;
  codes = codes_there;
  sorted = codes_sorted;
  root = (slots_of_document, refl);
  fragments = λ n e. absurd (no_envelope n e);
}
