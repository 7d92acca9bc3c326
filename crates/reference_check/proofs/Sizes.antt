-- What is too large or too long.
use Rattle.std.proofs.Common.{◌≡◌, ℕ, ◌<◌, ◌≤◌, inl, inr, ◌↔◌, IsTrue, IfOk, Result, Ok, Err, Bool, List, length, get_or, Some, Contains, sym, subst, arith}
use Rattle.std.specs.declared.alloc.AllocError.{AllocError}
use Rattle.lexical_core.specs.Characters.{IsXmlText}
use Rattle.repo_objects.specs.Repository.{Contents}
use Rattle.repo_objects.specs.declared.objects.CodeDef.{CodeDef}
use Rattle.repo_objects.specs.declared.objects.Object.{Object}
use Rattle.repo_objects.specs.declared.objects.ObjectKind.{ObjectKind}
use Rattle.repo_objects.specs.declared.objects.ObjectKind.TheVariants.{Simple}
use Rattle.repo_objects.specs.declared.objects.Kinds.TheVariants as kinds
use Rattle.repo_objects.specs.Objects.{HasCodeTexts, HasObjectTexts, IsXmlTextIfAny}
use Rattle.repo_objects.specs.Repository.{IsRepository}
use Rattle.reference_check.specs.CodeTexts.{text_of_code}
use Rattle.reference_check.specs.Rules.{IsLong, set_codes}
use Rattle.reference_check.specs.inner.Sizes.{IsTooLarge, IsTooLongObject, HasLongCode}
use Rattle.reference_check.proofs.Characters.{fewer_characters}
use Rattle.reference_check.proofs.TextsOfXml.{text_of_xml}

pub short_text : (text : List ℕ) → length text ≤ 65536 → IsLong text → ⊥
short_text text short long = let fewer = fewer_characters text in omega (arith, fewer, short, long)

-- the codes of a set are the object's
among : (kind : ObjectKind) (o : Object) (c : CodeDef) → Contains (set_codes (record o { kind = kind })) c → Contains o.codes c
among (Simple kinds.CodeSet) o c h = h
among _ o c h = absurd (omega (arith, h.1))

-- so they have texts of XML
pub set_code_texts : (o : Object) (items : List CodeDef) (i : ℕ) (c : CodeDef) → HasObjectTexts o → items ≡ set_codes o → i < length items → c ≡ get_or items i c → HasCodeTexts c
set_code_texts o items i c texts are l is =
    let (k, within, same) = among o.kind o c (subst (λ cs. Contains cs c) are (i, l, sym is)) in
    subst HasCodeTexts same (texts.codes k c within)

-- the text of a code is one of XML
pub code_is_xml : (R : Contents) (o : Object) (c : CodeDef) (text : List ℕ) → IsRepository R → HasCodeTexts c → Some text ≡ text_of_code R.objects o c → IsXmlText text
code_is_xml R o c text whole texts found = subst IsXmlTextIfAny (sym found) (text_of_xml 16 R.objects o c whole.object_texts texts)

-- where nothing else is too large, a code decides
pub code_decides : (R : Contents) (o : Object) (long : Bool) → (IsTooLongObject o → ⊥) → (IsTrue long ↔ HasLongCode R o) → IsTrue long ↔ IsTooLarge R o
code_decides R o long fine (there, back) = (λ h. inr (inr (inl (there h))), large)
  where
    large : IsTooLarge R o → IsTrue long
    large (inl elements) = absurd (fine (inl elements))
    large (inr (inl many)) = absurd (fine (inr (inl many)))
    large (inr (inr (inl code))) = back code
    large (inr (inr (inr pattern))) = absurd (fine (inr (inr pattern)))

pub result_decides : (R : Contents) (o : Object) (r : Result Bool AllocError) → (IsTooLongObject o → ⊥) → IfOk r (λ b. IsTrue b ↔ HasLongCode R o) → IfOk r (λ b. IsTrue b ↔ IsTooLarge R o)
result_decides R o (Ok b) fine h = code_decides R o b fine h
result_decides R o (Err e) fine h = tt
