-- A fragment is that of one tree, and no front of another's.
use Rattle.std.proofs.Common.{◌≡◌, ℕ, ◌≤◌, ◌⊎◌, inl, inr, true, List, [], ◌∷◌, ◌++◌, length, refl, sym, ap, subst, ◌∙◌, Option, None, Some, arith, append-nil, length-append}
use Rattle.std.specs.List.{flat_map, AllByRecursion}
use Rattle.std.proofs.lemmas.Bool.{le-leb}
use Rattle.std.proofs.lemmas.List.{append_cancel_left}
use Rattle.lexical_core.specs.Tree.{Expanded, Entry, Item, Starts, Char, Ends, Skipped, Nothing, Element, Tree, flat}
use Rattle.lexical_core.proofs.SameTrees.{same_tree}
use Rattle.markup.specs.Token.{Token, Mark, Declaration, Comment, Instruction, Opener, Closer, TypeDeclaration, Start, End, Refer, LineEnd, Character, token_bytes}
use Rattle.markup.specs.Marks.{Front, is_short}
use Rattle.markup.specs.declared.tag.Opening.{Opening}
use Rattle.markup.specs.Reference.{referred_character}
use Rattle.markup.specs.Events.{open_tags, end_tag_items, end_items}
use Rattle.markup.specs.Faults.{is_over, has_start}
use Rattle.markup.proofs.TokenLaw.{fronts_agree}
use Rattle.markup.proofs.TokensBehind.{items_in, tokens_behind, events_items}
use Rattle.fragments.specs.Plain.{IsPlain}
use Rattle.fragments.specs.Fragment.{fragment}
use Rattle.respell.specs.ShortTags.{HaveShortTags}
use Rattle.respell.specs.Laws.{OneTree, NoProperFront, ReadBack}
use Rattle.respell.proofs.Runs.{items-append, runs_front}
use Rattle.respell.proofs.Trees.{Stays, fragment_stays}

-- no tag is longer than all of the text
within_all : (limit : ℕ) (t : Token) → length (token_bytes t) ≤ limit → is_short limit t ≡ true
within_all limit Mark h = refl
within_all limit (Declaration f g) h = refl
within_all limit (Comment c) h = refl
within_all limit (Instruction a b) h = refl
within_all limit Opener h = refl
within_all limit Closer h = refl
within_all limit TypeDeclaration h = refl
within_all limit (Start tag) h = le-leb _ _ h
within_all limit (End n g) h = le-leb _ _ h
within_all limit (Refer r) h = refl
within_all limit (LineEnd l) h = refl
within_all limit (Character c) h = refl

pub all_within : (limit : ℕ) (ts : List Token) → length (flat_map token_bytes ts) ≤ limit → AllByRecursion (λ t. is_short limit t ≡ true) ts
all_within limit [] h = tt
all_within limit (t ∷ ts) h =
    let l = length-append (token_bytes t) (flat_map token_bytes ts) in
    (within_all limit t (omega (arith, l, h)), all_within limit ts (omega (arith, l, h)))

abbrev pub FragmentStays : Tree → Type 0
FragmentStays t = Stays [] (flat t) (fragment t) (λ limit. HaveShortTags limit None (Element t.name t.attributes t.children Nothing))

fragment_front : (t : Tree) (s : FragmentStays t) (limit : ℕ) (rest : List ℕ) → length (fragment t) ≤ limit → Front limit [] (fragment t ++ rest) s.run.tokens rest
fragment_front t s limit rest h =
    subst (λ (b : List ℕ). Front limit [] (b ++ rest) s.run.tokens rest) s.run.bytes
    (runs_front limit [] s.run.tokens rest s.run.stand (all_within limit s.run.tokens (subst (λ (b : List ℕ). length b ≤ limit) (sym s.run.bytes) h)))

-- a fragment at the front of another
pub fronts_same : (t u : Tree) (rest : List ℕ) → IsPlain t → IsPlain u → fragment t ++ rest ≡ fragment u → t ≡ u
fronts_same t u rest p q e =
    let s = fragment_stays t p in let r = fragment_stays u q in
    let limit = length (fragment u) in
    let l = length-append (fragment t) rest in let k : length (fragment t ++ rest) ≡ length (fragment u) = ap length e in
    let f : Front limit [] (fragment u) s.run.tokens rest = subst (λ (b : List ℕ). Front limit [] b s.run.tokens rest) e (fragment_front t s limit rest (omega (arith, l, k))) in
    let g : Front limit [] (fragment u) r.run.tokens [] = subst (λ (b : List ℕ). Front limit [] b r.run.tokens []) (append-nil (fragment u)) (fragment_front u r limit [] (omega arith)) in
    elim (fronts_agree limit [] (fragment u) s.run.tokens r.run.tokens rest [] f g) as (λ _. t ≡ u) [
      | inl (more, is) ↦ same_tree t u (items_in (tokens_behind [] s.run.tokens) more) (ap (λ (x : List Item). x ++ items_in (tokens_behind [] s.run.tokens) more) (sym s.run.told) ∙ (sym (items-append [] s.run.tokens more) ∙ (ap (items_in []) (sym is) ∙ r.run.told)))
      | inr (more, is) ↦ sym (same_tree u t (items_in (tokens_behind [] r.run.tokens) more) (ap (λ (x : List Item). x ++ items_in (tokens_behind [] r.run.tokens) more) (sym r.run.told) ∙ (sym (items-append [] r.run.tokens more) ∙ (ap (items_in []) (sym is) ∙ s.run.told))))
    ]

pub one_tree : OneTree
one_tree t u p q e = fronts_same t u [] p q (append-nil (fragment t) ∙ e)

pub no_proper_front : NoProperFront
no_proper_front t u rest p q e =
    let same = fronts_same t u rest p q e in
    append_cancel_left (fragment t) rest [] (e ∙ (ap fragment (sym same) ∙ sym (append-nil (fragment t))))

-- the root has come
started : (before ts : List Token) → has_start before ≡ true → has_start (tokens_behind before ts) ≡ true
started before [] h = h
started before (Start tag ∷ ts) h = started (Start tag ∷ before) ts refl
started before (Mark ∷ ts) h = started (Mark ∷ before) ts h
started before (Declaration f g ∷ ts) h = started (Declaration f g ∷ before) ts h
started before (Comment c ∷ ts) h = started (Comment c ∷ before) ts h
started before (Instruction a b ∷ ts) h = started (Instruction a b ∷ before) ts h
started before (Opener ∷ ts) h = started (Opener ∷ before) ts h
started before (Closer ∷ ts) h = started (Closer ∷ before) ts h
started before (TypeDeclaration ∷ ts) h = started (TypeDeclaration ∷ before) ts h
started before (End n g ∷ ts) h = started (End n g ∷ before) ts h
started before (Refer r ∷ ts) h = started (Refer r ∷ before) ts h
started before (LineEnd l ∷ ts) h = started (LineEnd l ∷ before) ts h
started before (Character c ∷ ts) h = started (Character c ∷ before) ts h

pub heads_same : (i j : Item) (r s : List Item) → i ∷ r ≡ j ∷ s → i ≡ j
heads_same i j r s e = cc

ended_cases : (o : Option Expanded) → (end_tag_items o ≡ []) ⊎ ((n : Expanded) × (end_tag_items o ≡ Ends n ∷ []))
ended_cases None = inl refl
ended_cases (Some n) = inr (n, refl)

end_cases : (tags : List Opening) → (end_items tags ≡ []) ⊎ ((n : Expanded) × (end_items tags ≡ Ends n ∷ []))
end_cases [] = inl refl
end_cases (t ∷ tags) = ended_cases _

-- without a start tag nothing starts
pub no_starts : (before ts : List Token) (n : Expanded) (a : List Entry) (r : List Item) → items_in before ts ≡ Starts n a ∷ r → has_start (tokens_behind before ts) ≡ true
no_starts before [] n a r e = absurd (let h : [] ≡ Starts n a ∷ r = e in cc)
no_starts before (Start tag ∷ ts) n a r e = started (Start tag ∷ before) ts refl
no_starts before (Mark ∷ ts) n a r e = absurd (let h : Skipped ≡ Starts n a = heads_same _ _ _ _ e in cc)
no_starts before (Declaration f g ∷ ts) n a r e = absurd (let h : Skipped ≡ Starts n a = heads_same _ _ _ _ e in cc)
no_starts before (Comment c ∷ ts) n a r e = absurd (let h : Skipped ≡ Starts n a = heads_same _ _ _ _ e in cc)
no_starts before (Instruction p q ∷ ts) n a r e = absurd (let h : Skipped ≡ Starts n a = heads_same _ _ _ _ e in cc)
no_starts before (Opener ∷ ts) n a r e = absurd (let h : Skipped ≡ Starts n a = heads_same _ _ _ _ e in cc)
no_starts before (Closer ∷ ts) n a r e = absurd (let h : Skipped ≡ Starts n a = heads_same _ _ _ _ e in cc)
no_starts before (TypeDeclaration ∷ ts) n a r e = absurd (let h : Skipped ≡ Starts n a = heads_same _ _ _ _ e in cc)
no_starts before (End m g ∷ ts) n a r e = elim (end_cases (open_tags before)) [
  | inl z ↦ no_starts (End m g ∷ before) ts n a r (ap (λ (l : List Item). l ++ items_in (End m g ∷ before) ts) (sym z) ∙ e)
  | inr (x, z) ↦ absurd (let h : Ends x ≡ Starts n a = heads_same _ _ _ _ (ap (λ (l : List Item). l ++ items_in (End m g ∷ before) ts) (sym z) ∙ e) in cc)
]
no_starts before (Refer x ∷ ts) n a r e = absurd (let h : Char (referred_character x) ≡ Starts n a = heads_same _ _ _ _ e in cc)
no_starts before (LineEnd l ∷ ts) n a r e = absurd (let h : Char 10 ≡ Starts n a = heads_same _ _ _ _ e in cc)
no_starts before (Character c ∷ ts) n a r e = absurd (let h : Char c ≡ Starts n a = heads_same _ _ _ _ e in cc)

pub over_of : (before : List Token) → has_start before ≡ true → open_tags before ≡ [] → is_over before ≡ true
over_of before h e = rw (h, e) refl

pub read_back : ReadBack
read_back t limit p h =
    let s = fragment_stays t p in record {
      tokens = s.run.tokens;
      marks = subst (λ (b : List ℕ). Front limit [] b s.run.tokens []) (append-nil (fragment t)) (fragment_front t s limit [] h);
      clean = s.run.clean;
      over = over_of (tokens_behind [] s.run.tokens) (no_starts [] s.run.tokens t.name t.attributes _ s.run.told) s.tags;
      told = events_items [] 0 s.run.tokens ∙ s.run.told;
    }
