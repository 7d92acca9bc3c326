-- Groups that are begun stay so, whatever stands behind them.
use Rattle.std.proofs.Common.{◌≡◌, ℕ, suc, ◌+◌, ◌≤◌, ◌<◌, Option, Some, List, [], ◌∷◌, ◌++◌, length, reverse, take, drop, get_or, refl, sym, ap, ◌∙◌, subst, arith, length-append}
use Rattle.std.specs.Option.{option_to_list}
use Rattle.std.proofs.lemmas.List.{take-append-drop, take-append-le, drop-append-le, reverse-append}
use Rattle.std.proofs.Math.Seq.{take-append_seam, drop-append_seam, drop-cons}
use Rattle.std.proofs.Math.ListN.{drop_of_length-le}
use Rattle.pattern_match.specs.declared.instruction.Instruction.{Instruction}
use Rattle.pattern_match.specs.declared.instruction.Place.{Place}
use Rattle.pattern_match.specs.declared.instruction.Group.{Group}
use Rattle.pattern_match.specs.declared.token.Token.{Token}
use Rattle.pattern_match.specs.declared.token.Token.TheVariants.{Open, Close, Bar, Single, Dot, Spaces, ClassStart, Member, Times}
use Rattle.pattern_match.specs.Building.{Built, after, build_behind}
use Rattle.pattern_match.specs.inner.Drafting.{live, Leads, next_cell_place, IsPlace, IsGroupBegun, KeepsFront, group_place, AreBegun, Drafted, last_place, MayRepeatLast, groups_begun, ready_after, AreFollowing, Leaves, IsFed}
use Rattle.pattern_match.proofs.DraftLemmas.{leads_append}

place_more : (cells more : List (Option Instruction)) (p : Place) → Leads more → IsPlace cells p → IsPlace (cells ++ more) p
place_more cells more p l h = record {
  within = let a = length-append cells more in let b = h.within in omega arith;
  count = h.count ∙ ap (λ x. length (live x)) (sym (take-append-le p.cell cells more h.within));
  leads = subst Leads (sym (drop-append-le p.cell cells more h.within)) (leads_append (drop p.cell cells) more h.leads l);
}

pub begun_more : (groups : List Group) (cells more : List (Option Instruction)) → Leads more → AreBegun cells groups → AreBegun (cells ++ more) groups
begun_more [] cells more l h = leads_append cells more h l
begun_more (g ∷ groups) cells more l h =
    let b : IsGroupBegun cells (group_place g) = h.0 in
    let n : g.cell + 1 ≤ length cells = let z = b.here in omega arith in (
      record {
        group = record {
          place_is = place_more cells more (group_place g) l b.group.place_is;
          inside = subst Leads (sym (drop-append-le (g.cell + 1) cells more n)) (leads_append (drop (g.cell + 1) cells) more b.group.inside l);
        };
        here = let a = length-append cells more in omega arith;
      },
      subst (λ x. AreBegun x groups) (sym (take-append-le g.cell cells more b.group.place_is.within)) h.1,
    )

-- one more instruction
pub end_place : (cells new : List (Option Instruction)) (i : Instruction) → new ≡ cells ++ Some i ∷ [] → IsPlace new (next_cell_place cells)
end_place cells new i e = subst (λ x. IsPlace x (next_cell_place cells)) (sym e) (record {
  within = let a = length-append cells (Some i ∷ []) in omega arith;
  count = ap (λ x. length (live x)) (sym (take-append_seam cells (Some i ∷ [])));
  leads = subst Leads (sym (drop-append_seam cells (Some i ∷ []))) tt;
})

pub front_begun : (groups : List Group) (cells new : List (Option Instruction)) (i : Instruction) → new ≡ cells ++ Some i ∷ [] → AreBegun cells groups
    → AreBegun (take (length cells) new) groups
front_begun groups cells new i e h = subst (λ x. AreBegun x groups) (sym (ap (λ x. take (length cells) x) e ∙ take-append_seam cells (Some i ∷ []))) h

pub one_more : (groups : List Group) (cells new : List (Option Instruction)) (i : Instruction) → new ≡ cells ++ Some i ∷ [] → AreBegun cells groups → AreBegun new groups
one_more groups cells new i e h = subst (λ x. AreBegun x groups) (sym e) (begun_more groups cells (Some i ∷ []) tt h)

pub opened : (groups : List Group) (g : Group) (cells new : List (Option Instruction)) (i : Instruction) → new ≡ cells ++ Some i ∷ [] → group_place g ≡ next_cell_place cells
    → AreBegun cells groups → AreBegun new (g ∷ groups)
opened groups g cells new i e p h = (
  record {
    group = record {
      place_is = subst (λ x. IsPlace new x) (sym p) (end_place cells new i e);
      inside = subst Leads (sym (drop_of_length-le new (omega (arith, size, at)))) tt;
    };
    here = omega (arith, size, at);
  },
  subst (λ k. AreBegun (take k new) groups) (sym at) (front_begun groups cells new i e h),
)
  where
    size : length new ≡ length cells + 1
    size = ap (λ x. length x) e ∙ length-append cells (Some i ∷ [])

    at : g.cell ≡ length cells
    at = ap (λ (x : Place). x.cell) p

-- behind a piece
pub ready_begun : (d : Drafted) → MayRepeatLast d → AreBegun d.cells d.groups
ready_begun d h =
    subst (λ x. AreBegun x d.groups) (take-append-drop d.cell d.cells) (begun_more d.groups (take d.cell d.cells) (drop d.cell d.cells) h.place.leads h.begun)

-- what is kept of the cells
pub kept_ready : (old : List (Option Instruction)) (d : Drafted) → KeepsFront old d.cells (last_place d) → AreBegun (take d.cell old) d.groups → MayRepeatLast d
kept_ready old d k h = record { place = k.place_is; begun = subst (λ x. AreBegun x d.groups) (sym k.front) h }

pub fed_on : (token : Token) (tokens : List Token) (old new : Drafted) → IsFed old (token ∷ tokens) → Leaves token old new → IsFed new tokens
fed_on token tokens old new h l = record {
  ready = ready_after token (length old.groups) h.ready;
  begun = l.begun;
  is_ready = λ t. l.ready h.ready h.is_ready t;
  follow = subst (λ n. AreFollowing n (ready_after token (length old.groups) h.ready) tokens) (sym l.depth) h.follow.1;
}

-- what an atom leaves
pub piece_leaves : (token : Token) (old new : Drafted) → groups_begun token (length old.groups) ≡ length old.groups → MayRepeatLast new → new.groups ≡ old.groups → Leaves token old new
piece_leaves token old new e r g = record {
  begun = ready_begun new r;
  depth = ap (λ x. length x) g ∙ sym e;
  ready = λ b k t. r;
}

pub bar_leaves : (old new : Drafted) → AreBegun new.cells new.groups → new.groups ≡ old.groups → Leaves Bar old new
bar_leaves old new b g = record { begun = b; depth = ap (λ x. length x) g; ready = λ r k t. absurd (cc) }

pub atom_depth : (token : Token) → (token ≡ Open → ⊥) → (token ≡ Close → ⊥) → (n : ℕ) → groups_begun token n ≡ n
atom_depth Open h k n = absurd (h refl)
atom_depth Close h k n = absurd (k refl)
atom_depth Bar h k n = refl
atom_depth (Single c) h k n = refl
atom_depth Dot h k n = refl
atom_depth Spaces h k n = refl
atom_depth (ClassStart negated) h k n = refl
atom_depth (Member low high) h k n = refl
atom_depth (Times least most) h k n = refl

-- a group that has ended
pub popped : (xs ys : List Group) (o : Option Group) (g : Group) → xs ≡ ys ++ option_to_list o → o ≡ Some g → reverse xs ≡ g ∷ reverse ys
popped xs ys o g e i = ap reverse (e ∙ ap (λ x. ys ++ option_to_list x) i) ∙ reverse-append ys (g ∷ [])

pub close_leaves : (old new : Drafted) (g : Group) → old.groups ≡ g ∷ new.groups → AreBegun old.cells old.groups → KeepsFront old.cells new.cells (group_place g)
    → last_place new ≡ group_place g → Leaves Close old new
close_leaves old new g e h k p = record {
  begun = ready_begun new is_ready;
  depth = sym (ap (λ x. groups_begun Close (length x)) e);
  ready = λ r i t. is_ready;
}
  where
    both : AreBegun old.cells (g ∷ new.groups)
    both = subst (AreBegun old.cells) e h

    is_ready : MayRepeatLast new
    is_ready = record {
      place = subst (IsPlace new.cells) (sym p) k.place_is;
      begun = subst (λ (q : Place). AreBegun (take q.cell new.cells) new.groups) (sym p) (subst (λ x. AreBegun x new.groups) (sym k.front) both.1);
    }

-- one token of those that are left
next_token : (tokens : List Token) (at : ℕ) (d : Token) → at < length tokens → drop at tokens ≡ get_or tokens at d ∷ drop (at + 1) tokens
next_token tokens at d l = drop-cons tokens at d l ∙ ap (λ k. get_or tokens at d ∷ drop k tokens) (let z : suc at ≡ at + 1 = omega arith in z)

pub one_token : (tokens : List Token) (at : ℕ) (d : Token) (old new : Drafted) (whole : Built) → at < length tokens
    → new.built ≡ after (get_or tokens at d) at old.built → Leaves (get_or tokens at d) old new
    → build_behind at (drop at tokens) old.built ≡ whole → IsFed old (drop at tokens)
    → (build_behind (at + 1) (drop (at + 1) tokens) new.built ≡ whole) × IsFed new (drop (at + 1) tokens)
one_token tokens at d old new whole l e k h f = (
  ap (build_behind (at + 1) (drop (at + 1) tokens)) e ∙ sym (ap (λ x. build_behind at x old.built) next) ∙ h,
  fed_on (get_or tokens at d) (drop (at + 1) tokens) old new (subst (IsFed old) next f) k,
)
  where
    next : drop at tokens ≡ get_or tokens at d ∷ drop (at + 1) tokens
    next = next_token tokens at d l
