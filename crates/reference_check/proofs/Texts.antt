-- The text of a code, trace by trace.
use Rattle.std.proofs.Common.{◌≡◌, ℕ, zero, suc, ◌<◌, ◌≤◌, ◌+◌, ◌-◌, length, drop, List, [], ◌∷◌, Option, Some, None, refl, sym, ap, ◌∙◌, arith}
use Rattle.repo_objects.specs.declared.objects.CodeDef.{CodeDef}
use Rattle.repo_objects.specs.declared.objects.Object.{Object}
use Rattle.repo_objects.specs.Repository.{DictionaryEntry}
use Rattle.reference_check.specs.Graph.{find_entry}
use Rattle.reference_check.specs.CodeTexts.{find_code, text_in, text_in_object, text_in_trace, own_or, text_behind}
use Rattle.reference_check.specs.inner.Traces.{with_object, code_in, code_traced}

pub no_code : (name : List ℕ) (cs : List CodeDef) (i : ℕ) → length cs ≤ i → find_code name (drop i cs) ≡ None
no_code name [] zero l = refl
no_code name [] (suc i) l = refl
no_code name (c ∷ cs) zero l = absurd (omega (arith, l))
no_code name (c ∷ cs) (suc i) l = no_code name cs i (omega (arith, l))

abbrev text_of_traced : (Object → CodeDef → Option (List ℕ)) → Option (Object × CodeDef) → Option (List ℕ)
text_of_traced text None = None
text_of_traced text (Some p) = text p.0 p.1

-- a trace gives the text of the code that it leads to
leads : (text : Object → CodeDef → Option (List ℕ)) (es : List DictionaryEntry) (name : List ℕ) (trace : Option (List ℕ)) → text_in_trace text es name trace ≡ text_of_traced text (code_traced es name trace)
leads text es name None = refl
leads text es name (Some id) = in_object (find_entry id es)
  where
    in_code : (o : Object) (r : Option CodeDef) → text_in text o r ≡ text_of_traced text (with_object o r)
    in_code o None = refl
    in_code o (Some c) = refl

    in_object : (r : Option Object) → text_in_object text name r ≡ text_of_traced text (code_in name r)
    in_object None = refl
    in_object (Some o) = in_code o (find_code name o.codes)

less_one : (i : ℕ) → i < 16 → 16 - i ≡ suc (16 - (i + 1))
less_one i h = omega arith

behind : (i : ℕ) (es : List DictionaryEntry) (o : Object) (c : CodeDef) → i < 16 → text_behind (16 - i) es o c ≡ own_or c.code (text_of_traced (text_behind (16 - (i + 1)) es) (code_traced es c.name o.trace))
behind i es o c h = rw (less_one i h) (ap (own_or c.code) (leads (text_behind (16 - (i + 1)) es) es c.name o.trace))

-- a text of its own
pub behind_own : (i : ℕ) (es : List DictionaryEntry) (o : Object) (c : CodeDef) (text : List ℕ) → i < 16 → Some text ≡ c.code → text_behind (16 - i) es o c ≡ Some text
behind_own i es o c text h is = behind i es o c h ∙ ap (λ r. own_or r (text_of_traced (text_behind (16 - (i + 1)) es) (code_traced es c.name o.trace))) (sym is)

-- no text, and no trace that leads to a code
pub behind_none : (i : ℕ) (es : List DictionaryEntry) (o : Object) (c : CodeDef) → i < 16 → None ≡ c.code → None ≡ code_traced es c.name o.trace → text_behind (16 - i) es o c ≡ None
behind_none i es o c h is none =
    behind i es o c h ∙ ap (λ r. own_or r (text_of_traced (text_behind (16 - (i + 1)) es) (code_traced es c.name o.trace))) (sym is)
    ∙ ap (text_of_traced (text_behind (16 - (i + 1)) es)) (sym none)

-- no text, and a trace that leads to a code
pub behind_trace : (i : ℕ) (es : List DictionaryEntry) (o : Object) (c : CodeDef) (set : Object) (namesake : CodeDef) → i < 16 → None ≡ c.code → Some (set, namesake) ≡ code_traced es c.name o.trace
    → text_behind (16 - i) es o c ≡ text_behind (16 - (i + 1)) es set namesake
behind_trace i es o c set namesake h is leads_to =
    behind i es o c h ∙ ap (λ r. own_or r (text_of_traced (text_behind (16 - (i + 1)) es) (code_traced es c.name o.trace))) (sym is)
    ∙ ap (text_of_traced (text_behind (16 - (i + 1)) es)) (sym leads_to)

-- no trace is left
pub behind_last : (i : ℕ) (es : List DictionaryEntry) (o : Object) (c : CodeDef) → 16 ≤ i → text_behind (16 - i) es o c ≡ c.code
behind_last i es o c h = let none : 16 - i ≡ 0 = omega arith in rw none refl
