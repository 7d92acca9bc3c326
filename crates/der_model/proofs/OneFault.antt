-- Bytes have at most one first fault, and none where they are whole.
use Rattle.std.proofs.Common.{◌≡◌, ℕ, ◌+◌, ◌≤◌, ◌<◌, Bool, true, false, List, [], ◌∷◌, ◌++◌, length, Option, Some, sym, ap, ◌∙◌, subst, arith, append_assoc, append-nil, length-append}
use Rattle.std.specs.Prelude.{Result, Ok, Err}
use Rattle.lexical_core.specs.declared.rule.Rule.{Rule}
use Rattle.data_types.specs.Leaf.{Leaf}
use Rattle.reference_check.specs.Words.{UpTo}
use Rattle.der_model.specs.DerMessage.{DerMessage}
use Rattle.der_model.specs.Structures.{Spot, LeafOf, Fragment, Structure, Holds, Fields, OneOf, Items, Empty, structure, Component}
use Rattle.der_model.specs.States.{Part, Identifier, Length, End, part_octets, DerLevel, State, Start, AwaitsLength, AwaitsContents, Within, PathName, IdentifierAnswer, Begins, Breaks, EndAnswer, Fine, EndBreaks, state_after, innermost_end, IsHeader, Stands}
use Rattle.der_model.specs.States as states
use Rattle.der_model.specs.Paths.{path_of}
use Rattle.der_model.specs.Faults.{IsHeldIn, BreaksIn, IsCleanPart, BreaksRule, DerFront, IsHeaderFront, IsNoHeader, NextPart, broken, halts, overruns, cut, short, trailing, FaultInDer, DerFault, IsWholeDer}
use Rattle.der_model.proofs.Lists.{shorter_front, none_left}
use Rattle.der_model.proofs.SoundMessages.{HasSorted, IsSorted}
use Rattle.der_model.proofs.ContentsLaws.{one_contents, err_same}
use Rattle.der_model.proofs.OnePart.{one_part, part_is_header, no_longer, goes_on}

true_false : (b : Bool) → b ≡ true → b ≡ false → ⊥
true_false b p q = absurd (let e : true ≡ false = sym p ∙ q in cc)

ok_err : (l : Leaf) (r : Rule) → ◌≡◌ {A = Result Leaf Rule} (Ok l) (Err r) → ⊥
ok_err l r e = absurd cc

begins_breaks : {P : Type 0} (a : IdentifierAnswer P) (k : ℕ) (c : Component P) (rule : Rule) (added : List ℕ) → a ≡ Begins k c → a ≡ Breaks rule added → ⊥
begins_breaks a k c rule added p q = absurd (let e = sym p ∙ q in cc)

same_answer : {P : Type 0} (a : IdentifierAnswer P) (r s : Rule) (x y : List ℕ) → a ≡ Breaks r x → a ≡ Breaks s y → (r ≡ s) × (x ≡ y)
same_answer a r s x y p q = (let e : Breaks r x ≡ Breaks s y = sym p ∙ q in (cc, cc))

fine_breaks : (a : EndAnswer) (rule : Rule) (added : List ℕ) → a ≡ Fine → a ≡ EndBreaks rule added → ⊥
fine_breaks a rule added p q = absurd (let e = sym p ∙ q in cc)

same_end : (a : EndAnswer) (r s : Rule) (x y : List ℕ) → a ≡ EndBreaks r x → a ≡ EndBreaks s y → (r ≡ s) × (x ≡ y)
same_end a r s x y p q = (let e : EndBreaks r x ≡ EndBreaks s y = sym p ∙ q in (cc, cc))

held_breaks : {P : Type 0} (m : DerMessage P) (sh : Structure P) → HasSorted sh → (octets : List ℕ) (rule : Rule) → IsHeldIn m sh octets → BreaksIn m sh octets rule → ⊥
held_breaks m (Holds (LeafOf simple)) one octets rule (leaf, h) b = ok_err leaf rule (one_contents simple octets (Ok leaf) (Err rule) one h b)
held_breaks m (Holds Fragment) one octets rule (tree, plain, e) b = b.1 tree plain e
held_breaks m (Fields cs) one octets rule h b = absurd h
held_breaks m (OneOf cs) one octets rule h b = absurd h
held_breaks m (Items s cs) one octets rule h b = absurd h
held_breaks m Empty one octets rule h b = absurd h

breaks_same : {P : Type 0} (m : DerMessage P) (sh : Structure P) → HasSorted sh → (octets : List ℕ) (r s : Rule) → BreaksIn m sh octets r → BreaksIn m sh octets s → r ≡ s
breaks_same m (Holds (LeafOf simple)) one octets r s h b = err_same r s (one_contents simple octets (Err r) (Err s) one h b)
breaks_same m (Holds Fragment) one octets r s h b = h.0 ∙ sym b.0
breaks_same m (Fields cs) one octets r s h b = absurd h
breaks_same m (OneOf cs) one octets r s h b = absurd h
breaks_same m (Items sl cs) one octets r s h b = absurd h
breaks_same m Empty one octets r s h b = absurd h

-- a part that breaks no rule breaks none
pub clean_breaks : {P : Type 0} (m : DerMessage P) → IsSorted m → (s : State P) (place : ℕ) (p : Part) (rule : Rule) (added : List ℕ) → Stands s place p → IsCleanPart m s place p → BreaksRule m s place p rule added → ⊥
clean_breaks m one Start place (Identifier b t) rule added h c br = true_false _ c br.0
clean_breaks m one (Within (l ∷ ls)) place (Identifier b t) rule added h c br = begins_breaks _ c.0 c.1 rule added c.2 br
clean_breaks m one (AwaitsLength c spot names around) place (Length n) rule added h cl br = br.0 cl
clean_breaks m one (AwaitsContents spot names count around) place (states.Contents o) rule added h c br = held_breaks m (structure m spot) (one spot) o rule c br.0
clean_breaks m one (Within (l ∷ ls)) place End rule added h c br = fine_breaks _ rule added c br
clean_breaks m one s place p rule added h c br = absurd h

-- a part breaks one rule
pub one_rule : {P : Type 0} (m : DerMessage P) → IsSorted m → (s : State P) (place : ℕ) (p : Part) (r t : Rule) (x y : List ℕ) → Stands s place p → BreaksRule m s place p r x → BreaksRule m s place p t y → (r ≡ t) × (x ≡ y)
one_rule m one Start place (Identifier b tag) r t x y h p q = (p.1 ∙ sym q.1, p.2 ∙ sym q.2)
one_rule m one (Within (l ∷ ls)) place (Identifier b tag) r t x y h p q = same_answer _ r t x y p q
one_rule m one (AwaitsLength c spot names around) place (Length n) r t x y h p q = (p.1 ∙ sym q.1, p.2 ∙ sym q.2)
one_rule m one (AwaitsContents spot names count around) place (states.Contents o) r t x y h p q = (breaks_same m (structure m spot) (one spot) o r t p.0 q.0, p.1 ∙ sym q.1)
one_rule m one (Within (l ∷ ls)) place End r t x y h p q = same_end _ r t x y p q
one_rule m one s place p r t x y h u v = absurd h

upto_some : (o : Option ℕ) (end place : ℕ) → o ≡ Some end → UpTo place o → place ≤ end
upto_some o end place e u = subst (λ z. UpTo place z) e u

-- no header may come where a part that is no header is due
no_header_there : {P : Type 0} (s : State P) (spot : Spot P) (names : List PathName) (count : ℕ) (around : List (DerLevel P)) (place : ℕ) (header : List ℕ) → s ≡ AwaitsContents spot names count around → IsHeader s place header → ⊥
no_header_there s spot names count around place header e h = subst (λ z. IsHeader z place header) e h

no_header_over : {P : Type 0} (s : State P) (place : ℕ) (header : List ℕ) → s ≡ Within [] → IsHeader s place header → ⊥
no_header_over s place header e h = subst (λ z. IsHeader z place header) e h

contents_long : {P : Type 0} (s : State P) (spot : Spot P) (names : List PathName) (count : ℕ) (around : List (DerLevel P)) (place : ℕ) (p : Part) (bytes after : List ℕ) → s ≡ AwaitsContents spot names count around → Stands s place p → bytes ≡ part_octets p ++ after → length bytes < count → ⊥
contents_long s spot names count around place p bytes after e h is low = go p (subst (λ z. Stands z place p) e h) is
  where
    go : (p : Part) → Stands (AwaitsContents spot names count around) place p → bytes ≡ part_octets p ++ after → ⊥
    go (states.Contents o) h is = (let sum = length-append o after in let size = ap length is in let same : length o ≡ count = h in omega arith)
    go (Identifier b t) h is = absurd h
    go (Length n) h is = absurd h
    go End h is = absurd h

pub nothing_over : {P : Type 0} (s : State P) (place : ℕ) (p : Part) → s ≡ Within [] → Stands s place p → ⊥
nothing_over {P} s place p e h = go p (subst (λ z. Stands z place p) e h)
  where
    go : (p : Part) → Stands {P = P} (Within []) place p → ⊥
    go (states.Contents o) h = absurd h
    go (Identifier b t) h = absurd h
    go (Length n) h = absurd h
    go End h = absurd h

-- where nothing but a broken part is told, no part stands within the value
pub none_stands : {P : Type 0} (m : DerMessage P) → IsSorted m → (s : State P) (place : ℕ) (bytes after : List ℕ) (p : Part) (rule : Rule) (off : ℕ) (added : List ℕ) → bytes ≡ part_octets p ++ after → Stands s place p → UpTo (place + length (part_octets p)) (innermost_end s) → NextPart m s place bytes rule off added → BreaksRule m s place p rule added × (off ≡ 0)
none_stands m one s place bytes after p rule off added is h u (broken q more is2 h2 u2 br none) =
    let r = one_part s place q p more after h2 h (sym is2 ∙ is) in (subst (λ z. BreaksRule m s place z rule added) r.0 br, none)
none_stands m one s place bytes after p rule off added is h u (halts shown octet more is2 u2 f none r o a) =
    absurd (goes_on s place (part_octets p) shown after more octet (part_is_header s place p (shown ++ f.more) h f.header) f none (sym is ∙ is2))
none_stands m one s place bytes after p rule off added is h u (overruns shown more is2 lim f r o a) =
    absurd (
    let low = no_longer s place (part_octets p) shown after more (part_is_header s place p (shown ++ f.more) h f.header) f (sym is ∙ is2) in
    let high = upto_some (innermost_end s) (place + length shown) (place + length (part_octets p)) lim u in
    omega arith)
none_stands m one s place bytes after p rule off added is h u (cut lim f r o a) =
    absurd (
    let low = no_longer s place (part_octets p) bytes after [] (part_is_header s place p (bytes ++ f.more) h f.header) f (sym is ∙ sym (append-nil bytes)) in
    let size = ap length is in
    let sum = length-append (part_octets p) after in
    omega arith)
none_stands m one s place bytes after p rule off added is h u (short spot names count around e low r o a) = absurd (contents_long s spot names count around place p bytes after e h is low)
none_stands m one s place bytes after p rule off added is h u (trailing e some r o a) = absurd (nothing_over s place p e h)

-- two octets behind what begins a header, at which no header goes on, are one
halts_cut : {P : Type 0} (s : State P) (place : ℕ) (front bytes after : List ℕ) (octet : ℕ) → IsHeaderFront s place bytes → IsNoHeader s place (front ++ octet ∷ []) → bytes ≡ front ++ octet ∷ after → ⊥
halts_cut s place front bytes after octet f none e =
    none (after ++ f.more) (subst (IsHeader s place) (ap (λ z. z ++ f.more) e ∙ (append_assoc front (octet ∷ after) f.more ∙ sym (append_assoc front (octet ∷ []) (after ++ f.more)))) f.header)

halts_overruns : {P : Type 0} (s : State P) (place : ℕ) (front shown x y : List ℕ) (octet : ℕ) → UpTo (place + length front + 1) (innermost_end s) → innermost_end s ≡ Some (place + length shown) → IsHeaderFront s place shown → IsNoHeader s place (front ++ octet ∷ []) → front ++ octet ∷ x ≡ shown ++ y → ⊥
halts_overruns s place front shown x y octet u lim f none e =
    let high = upto_some (innermost_end s) (place + length shown) (place + length front + 1) lim u in
    let sum = length-append front (octet ∷ []) in
    let r = shorter_front (front ++ octet ∷ []) shown x y (omega arith) (append_assoc front (octet ∷ []) x ∙ e) in
    none (r.0 ++ f.more) (subst (IsHeader s place) (ap (λ z. z ++ f.more) r.1 ∙ append_assoc (front ++ octet ∷ []) r.0 f.more) f.header)

some_same : (a b : ℕ) (o : Option ℕ) → o ≡ Some a → o ≡ Some b → a ≡ b
some_same a b o p q = (let e : Some a ≡ Some b = sym p ∙ q in cc)

three : {r s : Rule} {x y : List ℕ} {a b : ℕ} → r ≡ s → a ≡ b → x ≡ y → (r ≡ s) × (a ≡ b) × (x ≡ y)
three p q r = (p, q, r)

-- what stands next is one
pub one_next : {P : Type 0} (m : DerMessage P) → IsSorted m → (s : State P) (place : ℕ) (bytes : List ℕ) (r t : Rule) (a b : ℕ) (x y : List ℕ) → NextPart m s place bytes r a x → NextPart m s place bytes t b y → (r ≡ t) × (a ≡ b) × (x ≡ y)
one_next m one s place bytes r t a b x y (broken p after is h u br none) n =
    let q = none_stands m one s place bytes after p t b y is h u n in
    let same = one_rule m one s place p r t x y h br q.0 in
    three same.0 (none ∙ sym q.1) same.1
one_next m one s place bytes r t a b x y n (broken p after is h u br none) =
    let q = none_stands m one s place bytes after p r a x is h u n in
    let same = one_rule m one s place p r t x y h q.0 br in
    three same.0 (q.1 ∙ sym none) same.1
one_next m one s place bytes r t a b x y (halts f1 o1 a1 is1 u1 h1 n1 r1 z1 e1) (halts f2 o2 a2 is2 u2 h2 n2 r2 z2 e2) = three (r1 ∙ sym r2) (z1 ∙ sym z2) (e1 ∙ sym e2)
one_next m one s place bytes r t a b x y (halts f1 o1 a1 is1 u1 h1 n1 r1 z1 e1) (overruns sh a2 is2 lim h2 r2 z2 e2) = absurd (halts_overruns s place f1 sh a1 a2 o1 u1 lim h2 n1 (sym is1 ∙ is2))
one_next m one s place bytes r t a b x y (overruns sh a2 is2 lim h2 r2 z2 e2) (halts f1 o1 a1 is1 u1 h1 n1 r1 z1 e1) = absurd (halts_overruns s place f1 sh a1 a2 o1 u1 lim h2 n1 (sym is1 ∙ is2))
one_next m one s place bytes r t a b x y (halts f1 o1 a1 is1 u1 h1 n1 r1 z1 e1) (cut lim h2 r2 z2 e2) = absurd (halts_cut s place f1 bytes a1 o1 h2 n1 is1)
one_next m one s place bytes r t a b x y (cut lim h2 r2 z2 e2) (halts f1 o1 a1 is1 u1 h1 n1 r1 z1 e1) = absurd (halts_cut s place f1 bytes a1 o1 h2 n1 is1)
one_next m one s place bytes r t a b x y (overruns s1 a1 is1 l1 h1 r1 z1 e1) (overruns s2 a2 is2 l2 h2 r2 z2 e2) = three (r1 ∙ sym r2) (z1 ∙ sym z2) (e1 ∙ sym e2)
one_next m one s place bytes r t a b x y (overruns s1 a1 is1 l1 h1 r1 z1 e1) (cut lim h2 r2 z2 e2) =
    absurd (let low = lim (place + length s1) l1 in let size = ap length is1 in let sum = length-append s1 a1 in omega arith)
one_next m one s place bytes r t a b x y (cut lim h2 r2 z2 e2) (overruns s1 a1 is1 l1 h1 r1 z1 e1) =
    absurd (let low = lim (place + length s1) l1 in let size = ap length is1 in let sum = length-append s1 a1 in omega arith)
one_next m one s place bytes r t a b x y (cut l1 h1 r1 z1 e1) (cut l2 h2 r2 z2 e2) = three (r1 ∙ sym r2) (z1 ∙ sym z2) (e1 ∙ sym e2)
one_next m one s place bytes r t a b x y (short sp1 nm1 c1 ar1 q1 low1 r1 z1 e1) (short sp2 nm2 c2 ar2 q2 low2 r2 z2 e2) = three (r1 ∙ sym r2) (z1 ∙ sym z2) (e1 ∙ sym e2)
one_next m one s place bytes r t a b x y (trailing q1 some1 r1 z1 e1) (trailing q2 some2 r2 z2 e2) = three (r1 ∙ sym r2) (z1 ∙ sym z2) (e1 ∙ sym e2)
one_next m one s place bytes r t a b x y (halts f1 o1 a1 is1 u1 h1 n1 r1 z1 e1) (short sp nm c ar q low r2 z2 e2) = absurd (no_header_there s sp nm c ar place _ q h1.header)
one_next m one s place bytes r t a b x y (short sp nm c ar q low r2 z2 e2) (halts f1 o1 a1 is1 u1 h1 n1 r1 z1 e1) = absurd (no_header_there s sp nm c ar place _ q h1.header)
one_next m one s place bytes r t a b x y (overruns s1 a1 is1 l1 h1 r1 z1 e1) (short sp nm c ar q low r2 z2 e2) = absurd (no_header_there s sp nm c ar place _ q h1.header)
one_next m one s place bytes r t a b x y (short sp nm c ar q low r2 z2 e2) (overruns s1 a1 is1 l1 h1 r1 z1 e1) = absurd (no_header_there s sp nm c ar place _ q h1.header)
one_next m one s place bytes r t a b x y (cut lim h1 r1 z1 e1) (short sp nm c ar q low r2 z2 e2) = absurd (no_header_there s sp nm c ar place _ q h1.header)
one_next m one s place bytes r t a b x y (short sp nm c ar q low r2 z2 e2) (cut lim h1 r1 z1 e1) = absurd (no_header_there s sp nm c ar place _ q h1.header)
one_next m one s place bytes r t a b x y (halts f1 o1 a1 is1 u1 h1 n1 r1 z1 e1) (trailing q some r2 z2 e2) = absurd (no_header_over s place _ q h1.header)
one_next m one s place bytes r t a b x y (trailing q some r2 z2 e2) (halts f1 o1 a1 is1 u1 h1 n1 r1 z1 e1) = absurd (no_header_over s place _ q h1.header)
one_next m one s place bytes r t a b x y (overruns s1 a1 is1 l1 h1 r1 z1 e1) (trailing q some r2 z2 e2) = absurd (no_header_over s place _ q h1.header)
one_next m one s place bytes r t a b x y (trailing q some r2 z2 e2) (overruns s1 a1 is1 l1 h1 r1 z1 e1) = absurd (no_header_over s place _ q h1.header)
one_next m one s place bytes r t a b x y (cut lim h1 r1 z1 e1) (trailing q some r2 z2 e2) = absurd (no_header_over s place _ q h1.header)
one_next m one s place bytes r t a b x y (trailing q some r2 z2 e2) (cut lim h1 r1 z1 e1) = absurd (no_header_over s place _ q h1.header)
one_next m one s place bytes r t a b x y (short sp nm c ar q low r2 z2 e2) (trailing q2 some r1 z1 e1) = absurd (let e : Within [] ≡ AwaitsContents sp nm c ar = sym q2 ∙ q in cc)
one_next m one s place bytes r t a b x y (trailing q2 some r1 z1 e1) (short sp nm c ar q low r2 z2 e2) = absurd (let e : Within [] ≡ AwaitsContents sp nm c ar = sym q2 ∙ q in cc)

-- where a clean part stands nothing is wrong
pub clean_next : {P : Type 0} (m : DerMessage P) → IsSorted m → (s : State P) (place : ℕ) (bytes after : List ℕ) (p : Part) (rule : Rule) (off : ℕ) (added : List ℕ) → bytes ≡ part_octets p ++ after → Stands s place p → UpTo (place + length (part_octets p)) (innermost_end s) → IsCleanPart m s place p → NextPart m s place bytes rule off added → ⊥
clean_next m one s place bytes after p rule off added is h u c n =
    clean_breaks m one s place p rule added h c (none_stands m one s place bytes after p rule off added is h u n).0

-- what stands next, in the state and at the place that are told otherwise
pub next_as : {P : Type 0} (m : DerMessage P) (s t : State P) (place at : ℕ) (bytes rest : List ℕ) (rule : Rule) (off : ℕ) (added : List ℕ) → s ≡ t → place ≡ at → bytes ≡ rest → NextPart m t at rest rule off added → NextPart m s place bytes rule off added
next_as m s t place at bytes rest rule off added p q r n =
    subst (λ z. NextPart m z place bytes rule off added) (sym p) (subst (λ z. NextPart m t z bytes rule off added) (sym q) (subst (λ z. NextPart m t at z rule off added) (sym r) n))

-- the same front, of a part and bytes that are told otherwise
front_as : {P : Type 0} (m : DerMessage P) (s : State P) (place : ℕ) (p q : Part) (x y : List ℕ) (ps : List Part) (last : State P) (at : ℕ) (rest : List ℕ) → p ≡ q → x ≡ y
    → DerFront m (state_after m s place q) (place + length (part_octets q)) y ps last at rest → DerFront m (state_after m s place p) (place + length (part_octets p)) x ps last at rest
front_as m s place p q x y ps last at rest e d f =
    subst (λ z. DerFront m (state_after m s place z) (place + length (part_octets z)) x ps last at rest) (sym e) (subst (λ z. DerFront m (state_after m s place q) (place + length (part_octets q)) z ps last at rest) (sym d) f)

-- clean parts go on to one place, where something is wrong
pub one_front : {P : Type 0} (m : DerMessage P) → IsSorted m → (s : State P) (place : ℕ) (bytes : List ℕ) (ps qs : List Part) (s1 s2 : State P) (a1 a2 : ℕ) (r1 r2 : List ℕ) (t1 t2 : Rule) (o1 o2 : ℕ) (x1 x2 : List ℕ)
    → DerFront m s place bytes ps s1 a1 r1 → DerFront m s place bytes qs s2 a2 r2 → NextPart m s1 a1 r1 t1 o1 x1 → NextPart m s2 a2 r2 t2 o2 x2 → (s1 ≡ s2) × (a1 ≡ a2) × (r1 ≡ r2)
one_front m one s place bytes [] [] s1 s2 a1 a2 r1 r2 t1 t2 o1 o2 x1 x2 (p, q, r) (p2, q2, r2e) n n2 = (sym p ∙ p2, sym q ∙ q2, sym r ∙ r2e)
one_front m one s place bytes [] (q ∷ qs) s1 s2 a1 a2 r1 r2 t1 t2 o1 o2 x1 x2 (e, d, r) (after, is, h, u, c, f) n n2 =
    absurd (clean_next m one s place bytes after q t1 o1 x1 is h u c (next_as m s s1 place a1 bytes r1 t1 o1 x1 e d r n))
one_front m one s place bytes (p ∷ ps) [] s1 s2 a1 a2 r1 r2 t1 t2 o1 o2 x1 x2 (after, is, h, u, c, f) (e, d, r) n n2 =
    absurd (clean_next m one s place bytes after p t2 o2 x2 is h u c (next_as m s s2 place a2 bytes r2 t2 o2 x2 e d r n2))
one_front m one s place bytes (p ∷ ps) (q ∷ qs) s1 s2 a1 a2 r1 r2 t1 t2 o1 o2 x1 x2 (after, is, h, u, c, f) (after2, is2, h2, u2, c2, f2) n n2 =
    let same = one_part s place p q after after2 h h2 (sym is ∙ is2) in
    one_front m one (state_after m s place p) (place + length (part_octets p)) after ps qs s1 s2 a1 a2 r1 r2 t1 t2 o1 o2 x1 x2 f
    (front_as m s place p q after after2 qs s2 a2 r2 same.0 same.1 f2) n n2

-- bytes have at most one first fault
pub one_fault : {P : Type 0} (m : DerMessage P) → IsSorted m → (bytes : List ℕ) (f g : FaultInDer) → DerFault m bytes f → DerFault m bytes g → f ≡ g
one_fault m one bytes f g p q =
    let w = one_front m one Start 0 bytes p.parts q.parts p.state q.state p.at q.at p.rest q.rest f.rule g.rule p.off q.off p.added q.added p.front q.front p.next q.next in
    let n = one_next m one p.state p.at p.rest f.rule g.rule p.off q.off p.added q.added p.next (next_as m p.state q.state p.at q.at p.rest q.rest g.rule q.off q.added w.0 w.1 w.2 q.next) in
    let places : f.place ≡ g.place = p.place ∙ (ap (λ z. z + p.off) w.1 ∙ (ap (λ z. q.at + z) n.1 ∙ sym q.place)) in
    let paths : f.path ≡ g.path = p.path ∙ (ap (λ z. path_of z ++ p.added) w.0 ∙ (ap (λ z. path_of q.state ++ z) n.2 ∙ sym q.path)) in
    ap (λ z. record { rule = z; place = f.place; path = f.path }) n.0 ∙ (ap (λ z. record { rule = g.rule; place = z; path = f.path }) places ∙ ap (λ z. record { rule = g.rule; place = g.place; path = z }) paths)

-- nothing is wrong behind an instance that has ended, where no bytes are left
over_next : {P : Type 0} (m : DerMessage P) (s : State P) (place : ℕ) (bytes : List ℕ) (rule : Rule) (off : ℕ) (added : List ℕ) → s ≡ Within [] → bytes ≡ [] → NextPart m s place bytes rule off added → ⊥
over_next m s place bytes rule off added e z (broken p after is h u br o) = nothing_over s place p e h
over_next m s place bytes rule off added e z (halts f oc a is u h n r o x) = no_header_over s place _ e h.header
over_next m s place bytes rule off added e z (overruns sh a is l h r o x) = no_header_over s place _ e h.header
over_next m s place bytes rule off added e z (cut l h r o x) = no_header_over s place _ e h.header
over_next m s place bytes rule off added e z (short sp nm c ar q low r o x) = absurd (let d : Within [] ≡ AwaitsContents sp nm c ar = sym e ∙ q in cc)
over_next m s place bytes rule off added e z (trailing q some r o x) = none_left bytes some z

pub whole_clean : {P : Type 0} (m : DerMessage P) → IsSorted m → (s : State P) (place : ℕ) (bytes : List ℕ) (ps qs : List Part) (a1 a2 : ℕ) (s2 : State P) (r2 : List ℕ) (rule : Rule) (off : ℕ) (added : List ℕ)
    → DerFront m s place bytes ps (Within []) a1 [] → DerFront m s place bytes qs s2 a2 r2 → NextPart m s2 a2 r2 rule off added → ⊥
whole_clean m one s place bytes [] [] a1 a2 s2 r2 rule off added (p, q, r) (p2, q2, r2e) n = over_next m s2 a2 r2 rule off added (sym p2 ∙ p) (sym r2e ∙ r) n
whole_clean m one s place bytes [] (q ∷ qs) a1 a2 s2 r2 rule off added (p, d, r) (after, is, h, u, c, f) n = nothing_over s place q p h
whole_clean m one s place bytes (p ∷ ps) [] a1 a2 s2 r2 rule off added (after, is, h, u, c, f) (e, d, r) n =
    clean_next m one s place bytes after p rule off added is h u c (next_as m s s2 place a2 bytes r2 rule off added e d r n)
whole_clean m one s place bytes (p ∷ ps) (q ∷ qs) a1 a2 s2 r2 rule off added (after, is, h, u, c, f) (after2, is2, h2, u2, c2, f2) n =
    let same = one_part s place p q after after2 h h2 (sym is ∙ is2) in
    whole_clean m one (state_after m s place p) (place + length (part_octets p)) after ps qs a1 a2 s2 r2 rule off added f (front_as m s place p q after after2 qs s2 a2 r2 same.0 same.1 f2) n

-- whole bytes have no fault
pub whole_has_none : {P : Type 0} (m : DerMessage P) → IsSorted m → (bytes : List ℕ) (f : FaultInDer) → IsWholeDer m bytes → DerFault m bytes f → ⊥
whole_has_none m one bytes f w p = whole_clean m one Start 0 bytes w.parts p.parts w.at p.at p.state p.rest f.rule p.off p.added w.front p.front p.next
