-- The text of a fault, put together from its parts.
use Rattle.std.proofs.Common.{◌≡◌, ◌++◌, codes, refl, append_assoc, append-nil}
use Rattle.std.specs.Str.{IsUtf8, is_utf8}
use Rattle.std.specs.Fmt.{decimal}
use Rattle.std.proofs.lemmas.Str.{IsUtf8-from_is_utf8, is_utf8-from_IsUtf8}
use Rattle.std.proofs.lemmas.Bool.{false_from_ne_true}
use Rattle.lexical_core.specs.Rules.{name_of}
use Rattle.message_model.specs.declared.fault.Fault.{Fault}
use Rattle.message_model.specs.ErrorTexts.{instance_fault_text}

pub with_path : (f : Fault) → IsUtf8 f.path → instance_fault_text f ≡ name_of f.rule ++ (codes " at " ++ (decimal f.place ++ (codes " in " ++ f.path)))
with_path f utf8 = rw (is_utf8-from_IsUtf8 f.path utf8, append_assoc (name_of f.rule ++ codes " at ") (decimal f.place) (codes " in " ++ f.path), append_assoc (name_of f.rule) (codes " at ")) refl

pub without_path : (f : Fault) → (IsUtf8 f.path → ⊥) → instance_fault_text f ≡ name_of f.rule ++ (codes " at " ++ decimal f.place)
without_path f is_none = rw (false_from_ne_true (is_utf8 f.path) (λ is. is_none (IsUtf8-from_is_utf8 f.path is)), append-nil, append_assoc) refl
