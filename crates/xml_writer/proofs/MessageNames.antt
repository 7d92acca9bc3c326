-- The namespace of a message is of characters that stand for themselves.
use Rattle.std.proofs.Common.{◌≡◌, ◌≢◌, ◌<◌, ◌+◌, ◌==◌, ◌&&◌, ℕ, zero, suc, Bool, true, List, [], ◌∷◌, ◌++◌, length, take, drop, get_or, flat_map, refl, sym, ap, subst, ◌∙◌, arith}
use Rattle.std.specs.List.{list_all}
use Rattle.std.proofs.Math.Seq.{drop-cons}
use Rattle.std.proofs.lemmas.Bool.{and_parts}
use Rattle.std.proofs.lemmas.Bool.Decides.{nat_tests}
use Rattle.std.proofs.lemmas.List.{drop-drop, drop_all}
use Rattle.lexical_core.specs.Names.{xml_namespace, xmlns_namespace}
use Rattle.lexical_core.proofs.Lists.{first_apart}
use Rattle.data_types.proofs.EscapeLemmas.{escaped_by_chars}
use Rattle.data_types.proofs.VisibleTexts.{IsVisible, AreVisible, join_visible, point_is_visible, visible, all_visible, all_visible_are, own_bytes}
use Rattle.fragments.specs.Fragment.{value_byte}
use Rattle.repo_objects.specs.MessageId.{IsMessageId, is_letter_or_digit, is_lower_letter, is_digit, is_point_at}
use Rattle.message_model.specs.Tables.{namespace_front}
use Rattle.xml_writer.proofs.ValueTexts.{visible_value}

-- ---- texts that are visible

front_visible : AreVisible namespace_front
unfolding visible all_visible
front_visible = all_visible_are namespace_front refl

-- ---- the identifier of a message

sign_visible : (c : ℕ) → is_letter_or_digit c ≡ true → IsVisible c
sign_visible c h = record {
  low = grind (arith, nat_tests);
  high = grind (arith, nat_tests);
  no_ampersand = grind (arith, nat_tests);
  no_less = grind (arith, nat_tests);
  no_greater = grind (arith, nat_tests);
  no_quote = grind (arith, nat_tests);
}

letter_is : (c : ℕ) → is_lower_letter c ≡ true → is_letter_or_digit c ≡ true
letter_is c h = grind (arith, nat_tests)

digit_is : (c : ℕ) → is_digit c ≡ true → is_letter_or_digit c ≡ true
digit_is c h = grind (arith, nat_tests)

signs_visible : (test : ℕ → Bool) → ((c : ℕ) → test c ≡ true → IsVisible c) → (cs : List ℕ) → list_all test cs ≡ true → AreVisible cs
signs_visible test each [] h = tt
signs_visible test each (c ∷ cs) h = (let parts = and_parts (test c) (list_all test cs) h in (each c parts.0, signs_visible test each cs parts.1))

-- the first bytes, and those behind them
both_visible : (n : ℕ) (cs : List ℕ) → AreVisible (take n cs) → AreVisible (drop n cs) → AreVisible cs
both_visible zero cs a b = b
both_visible (suc n) [] a b = tt
both_visible (suc n) (c ∷ cs) a b = (a.0, both_visible n cs a.1 b)

-- a run, a point and what is behind it
run_visible : (at n : ℕ) (cs : List ℕ) → at + n < length cs → AreVisible (take n (drop at cs)) → is_point_at (at + n) cs ≡ true → AreVisible (drop (suc (at + n)) cs) → AreVisible (drop at cs)
run_visible at n cs lt run point rest =
    let there : get_or cs (at + n) 0 ≡ 46 = grind (arith, nat_tests, point) in
    let split : drop (at + n) cs ≡ 46 ∷ drop (suc (at + n)) cs = drop-cons cs (at + n) 0 lt ∙ ap (λ c. c ∷ drop (suc (at + n)) cs) there in
    both_visible n (drop at cs) run (subst AreVisible (sym (drop-drop n at cs ∙ split)) (point_is_visible, rest))

eight : (a b c d e f g h : Bool) → (a && b && c && d && e && f && g && h) ≡ true
    → (a ≡ true) × (b ≡ true) × (c ≡ true) × (d ≡ true) × (e ≡ true) × (f ≡ true) × (g ≡ true) × (h ≡ true)
eight a b c d e f g h k =
    let p7 = and_parts (a && b && c && d && e && f && g) h k in
    let p6 = and_parts (a && b && c && d && e && f) g p7.0 in
    let p5 = and_parts (a && b && c && d && e) f p6.0 in
    let p4 = and_parts (a && b && c && d) e p5.0 in
    let p3 = and_parts (a && b && c) d p4.0 in
    let p2 = and_parts (a && b) c p3.0 in
    let p1 = and_parts a b p2.0 in
    (p1.0, p1.1, p2.1, p3.1, p4.1, p5.1, p6.1, p7.1)

id_visible : (id : List ℕ) → IsMessageId id → AreVisible id
id_visible id h =
    let parts = eight (length id == 15) (list_all is_lower_letter (take 4 id)) (is_point_at 4 id) (list_all is_letter_or_digit (take 3 (drop 5 id))) (is_point_at 8 id)
    (list_all is_digit (take 3 (drop 9 id))) (is_point_at 12 id) (list_all is_digit (take 2 (drop 13 id))) h in
    let size : length id ≡ 15 = (let e = parts.0 in grind (arith, nat_tests, e)) in
    let digits = signs_visible is_digit (λ c k. sign_visible c (digit_is c k)) in
    let none : AreVisible (drop 15 id) = subst AreVisible (sym (drop_all 15 id (omega (arith, size)))) tt in
    let version : AreVisible (drop 13 id) = both_visible 2 (drop 13 id) (digits (take 2 (drop 13 id)) parts.7) (subst AreVisible (sym (drop-drop 2 13 id)) none) in
    let flavour : AreVisible (drop 9 id) = run_visible 9 3 id (omega (arith, size)) (digits (take 3 (drop 9 id)) parts.5) parts.6 version in
    let functionality : AreVisible (drop 5 id) = run_visible 5 3 id (omega (arith, size)) (signs_visible is_letter_or_digit sign_visible (take 3 (drop 5 id)) parts.3) parts.4 flavour in
    run_visible 0 4 id (omega (arith, size)) (signs_visible is_lower_letter (λ c k. sign_visible c (letter_is c k)) (take 4 id) parts.1) parts.2 functionality

-- ---- the namespace

pub namespace_visible : (id : List ℕ) → IsMessageId id → AreVisible (namespace_front ++ id)
namespace_visible id h = join_visible namespace_front id front_visible (id_visible id h)

pub visible_literal : (text : List ℕ) → AreVisible text → flat_map value_byte text ≡ text
visible_literal text v = ap (flat_map value_byte) (sym (own_bytes text v)) ∙ (escaped_by_chars true text ∙ visible_value text v)

pub not_xml_namespace : (id : List ℕ) → namespace_front ++ id ≢ xml_namespace
not_xml_namespace id e = first_apart _ _ _ _ refl e

pub not_xmlns_namespace : (id : List ℕ) → namespace_front ++ id ≢ xmlns_namespace
not_xmlns_namespace id e = first_apart _ _ _ _ refl e
