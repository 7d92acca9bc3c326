-- The text of a code is one of XML.
use Rattle.std.proofs.Common.{ℕ, zero, suc, Bool, true, false, List, [], ◌∷◌, Option, Some, None, All, arith}
use Rattle.std.specs.Bool.{if◌then◌else◌}
use Rattle.std.specs.Str.{bytes_eq}
use Rattle.std.proofs.lemmas.List.Elements.{All-tail}
use Rattle.repo_objects.specs.declared.objects.CodeDef.{CodeDef}
use Rattle.repo_objects.specs.declared.objects.Object.{Object}
use Rattle.repo_objects.specs.Objects.{HasCodeTexts, HasObjectTexts, IsXmlTextIfAny}
use Rattle.repo_objects.specs.Repository.{DictionaryEntry, HasEntryTexts}
use Rattle.reference_check.specs.Graph.{find_entry}
use Rattle.reference_check.specs.CodeTexts.{find_code, text_in, text_in_object, text_in_trace, own_or, text_behind}

-- P holds of what was found, if something was
abbrev OfFound : {X : Type 0} → (X → Type 0) → Option X → Type 0
OfFound P None = Unit {0}
OfFound P (Some x) = P x

found_code : (name : List ℕ) (cs : List CodeDef) → All HasCodeTexts cs → OfFound HasCodeTexts (find_code name cs)
found_code name [] all = tt
found_code name (c ∷ cs) all = by (bytes_eq c.name name) (found_code name cs (All-tail HasCodeTexts c cs all))
  where
    by : (b : Bool) → OfFound HasCodeTexts (find_code name cs) → OfFound HasCodeTexts (if b then Some c else find_code name cs)
    by true later = all 0 c (omega arith)
    by false later = later

found_object : (id : List ℕ) (es : List DictionaryEntry) → All HasEntryTexts es → OfFound HasObjectTexts (find_entry id es)
found_object id [] all = tt
found_object id (e ∷ es) all = by (bytes_eq e.id id) (found_object id es (All-tail HasEntryTexts e es all))
  where
    by : (b : Bool) → OfFound HasObjectTexts (find_entry id es) → OfFound HasObjectTexts (if b then Some e.object else find_entry id es)
    by true later = let first : HasEntryTexts e = all 0 e (omega arith) in first.object
    by false later = later

-- a text that is found of codes with texts of XML, through a trace
module _ (text : Object → CodeDef → Option (List ℕ)) (every : (o : Object) (c : CodeDef) → HasCodeTexts c → IsXmlTextIfAny (text o c)) where
  through_code : (o : Object) (r : Option CodeDef) → OfFound HasCodeTexts r → IsXmlTextIfAny (text_in text o r)
  through_code o None h = tt
  through_code o (Some c) h = every o c h

  through_object : (name : List ℕ) (r : Option Object) → OfFound HasObjectTexts r → IsXmlTextIfAny (text_in_object text name r)
  through_object name None h = tt
  through_object name (Some o) h = through_code o (find_code name o.codes) (found_code name o.codes h.codes)

  through_trace : (es : List DictionaryEntry) (name : List ℕ) (trace : Option (List ℕ)) → All HasEntryTexts es → IsXmlTextIfAny (text_in_trace text es name trace)
  through_trace es name None all = tt
  through_trace es name (Some id) all = through_object name (find_entry id es) (found_object id es all)

one_or_other : (own other : Option (List ℕ)) → IsXmlTextIfAny own → IsXmlTextIfAny other → IsXmlTextIfAny (own_or own other)
one_or_other None other h k = k
one_or_other (Some text) other h k = h

pub text_of_xml : (n : ℕ) (es : List DictionaryEntry) (o : Object) (c : CodeDef) → All HasEntryTexts es → HasCodeTexts c → IsXmlTextIfAny (text_behind n es o c)
text_of_xml zero es o c all h = h.code
text_of_xml (suc n) es o c all h =
    one_or_other c.code _ h.code (through_trace (text_behind n es) (λ p d k. text_of_xml n es p d all k) es c.name o.trace all)
