-- A run of characters that stand by themselves is written as each of them is.
use Rattle.std.proofs.Common.{◌≡◌, ℕ, false, List, [], ◌∷◌, ◌++◌, map, refl, sym, ap, subst, ◌∙◌, Option}
use Rattle.std.specs.List.{flat_map}
use Rattle.lexical_core.specs.Escapes.{escape_of}
use Rattle.lexical_core.specs.Tree.{Expanded, Item, Char}
use Rattle.markup.specs.Literals.{IsRun}
use Rattle.respell.specs.Respelling.{respelled_text, defaults_behind}
use Rattle.respell.specs.Kept.{HasDefaults, HasWritten, opened_by, own_defaults}
use Rattle.respell.specs.inner.RunBytes.{run_bytes}
use Rattle.respell.specs.declared.respell.Respell.{Respell}
use Rattle.respell.proofs.KeptLemmas.{taken_all, same_defaults}
use Rattle.respell.proofs.RunTexts.{run_spelled}

abbrev pub chars_of : List ℕ → List Item
chars_of cs = map (λ c. Char c) cs

run_text : (ds : List (Option (List ℕ))) (cs : List ℕ) → respelled_text ds (chars_of cs) ≡ flat_map (escape_of false) cs
run_text ds [] = refl
run_text ds (c ∷ cs) = ap (λ (l : List ℕ). escape_of false c ++ l) (run_text ds cs)

run_defaults : (ds : List (Option (List ℕ))) (cs : List ℕ) → defaults_behind ds (chars_of cs) ≡ ds
run_defaults ds [] = refl
run_defaults ds (c ∷ cs) = run_defaults ds cs

run_opened : (names : List Expanded) (cs : List ℕ) → opened_by names (chars_of cs) ≡ names
run_opened names [] = refl
run_opened names (c ∷ cs) = run_opened names cs

pub taken_run : (r q : Respell) (forgotten run : List ℕ) (items : List Item) (count : ℕ) (k : IsRun run count) → HasWritten r forgotten items → q.text ≡ r.text ++ run_bytes run → q.defaults ≡ r.defaults → q.declares ≡ r.declares → q.failed ≡ r.failed → q.prefixed ≡ r.prefixed
    → HasWritten q forgotten (items ++ chars_of k.characters)
taken_run r q forgotten run items count k h text defaults declares failed prefixed =
    let ds : List (Option (List ℕ)) = defaults_behind [] items in
    taken_all r q forgotten items (chars_of k.characters) h failed
    (text ∙ ap (λ (l : List ℕ). r.text ++ l) (ap run_bytes k.bytes_are ∙ (run_spelled k.characters k.literal ∙ sym (run_text ds k.characters))))
    (subst (λ (l : List (Option (List ℕ))). HasDefaults q l) (sym (run_defaults ds k.characters)) (same_defaults r q ds defaults declares h.defaults_are))
    (λ none. run_defaults ds k.characters ∙ (h.own_are (sym prefixed ∙ none) ∙ ap own_defaults (sym (run_opened (opened_by [] items) k.characters))))
