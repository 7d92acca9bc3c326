-- Worked modules.
use Rattle.std.proofs.Common.{◌≡◌, ℕ, zero, suc, ◌<◌, List, [], ◌∷◌, ◌++◌, Some, None, refl, ap, subst, inl, lit<, lit≤, ◌∙◌, codes}
use Rattle.std.specs.Fmt.{decimal}
use Rattle.std.proofs.lemmas.Fmt.{decimal_digit, decimal_step}
use Rattle.data_types.specs.Leaf.{Bytes}
use Rattle.data_types.specs.declared.kind.Kind.TheVariants as kind
use Rattle.facets.specs.declared.simple.Simple.{Simple}
use Rattle.der_octets.specs.Octets.{identifier as tag_octets, length_octets, wrapped}
use Rattle.reference_check.specs.Forms as form
use Rattle.reference_check.specs.Words.{UpTo}
use Rattle.message_model.specs.Tables.{Tables, types_of}
use Rattle.der_model.specs.LeafContents.{integer_octets}
use Rattle.der_model.specs.Der.{Octets}
use Rattle.asn1_model.specs.Names.{asn_identifier, asn_type_name, candidate}
use Rattle.asn1_model.specs.ModuleOf.{module_of, code_names, simple_shape}
use Rattle.asn1_model.specs.ModuleText.{module_text}
use Rattle.asn1_model.specs.Values.{One, Sequence, Enumerated, Primitive, NoComponent, Component, contents, asn_der}
use Rattle.asn1_model.specs.Sound.{IsSoundAsn, IsSoundType, MayBeReferredTo}

one : decimal 1 ≡ 49 ∷ []
one = decimal_digit 1 (lit< tt)

thirty_five : decimal 35 ≡ 51 ∷ 53 ∷ []
thirty_five = decimal_step 35 (lit≤ tt) (lit< tt) ∙ ap (λ d. d ++ 53 ∷ []) (decimal_digit 3 (lit< tt))

-- ---- a message with one text of 1 to 35 characters

text_type : Simple
text_type = record { kind = kind.Text; min = 1; max = Some 35; total = 18; fraction = None; low = None; high = None; pattern = None; codes = None }

note : Tables
note = record {
  id = codes "demo.001.001.01";
  types = record { word = codes "Document"; name = codes "Document"; form = form.Sequence (record { tag = codes "Note"; min = 1; max = Some 1; target = 1 } ∷ []) }
      ∷ record { word = codes "Message"; name = codes "NoteV01"; form = form.Sequence (record { tag = codes "Id"; min = 1; max = Some 1; target = 2 } ∷ []) }
      ∷ record { word = codes "Text"; name = codes "Max35Text"; form = form.Simple text_type } ∷ [];
}

note_module : module_text (module_of note) ≡ codes "Demo-001-001-01 DEFINITIONS AUTOMATIC TAGS ::= BEGIN\n\nDocument ::= SEQUENCE {\n  note NoteV01\n}\n\nMax35Text ::= UTF8String (SIZE (1..35)) (CONSTRAINED BY {-- xml characters --})\n\nNoteV01 ::= SEQUENCE {\n  id Max35Text\n}\n\nEND\n"
unfolding note text_type module_of asn_identifier asn_type_name candidate
note_module = rw (one, thirty_five) refl

-- 30 06 A0 04 80 02 41 31
note_der : asn_der (module_of note) (codes "Document") (Sequence (Component 0 (Sequence (Component 0 (Primitive (Bytes (65 ∷ 49 ∷ []))) NoComponent)) NoComponent)) ≡ 48 ∷ 6 ∷ 160 ∷ 4 ∷ 128 ∷ 2 ∷ 65 ∷ 49 ∷ []
unfolding note text_type module_of asn_identifier asn_type_name candidate tag_octets length_octets wrapped
note_der = refl

-- ---- codes

code_set : Simple
code_set = record { kind = kind.Text; min = 0; max = None; total = 18; fraction = None; low = None; high = None; pattern = None; codes = Some (codes "ABCD" ∷ codes "ZB" ∷ []) }

two_codes : code_names (codes "ABCD" ∷ codes "ZB" ∷ []) ≡ codes "aBCD" ∷ codes "zB" ∷ []
unfolding asn_identifier candidate
two_codes = refl

-- codes that would have one identifier
like_codes : code_names (codes "A" ∷ codes "a" ∷ codes "a-1" ∷ []) ≡ codes "a" ∷ codes "a-1" ∷ codes "a-1-1" ∷ []
unfolding asn_identifier candidate
like_codes = rw one refl

-- the second code is numbered 1
second_code : contents (module_of note) (One (Some (simple_shape code_set))) (Enumerated (codes "zB")) ≡ Octets (1 ∷ [])
unfolding code_set asn_identifier candidate integer_octets
second_code = refl

-- ---- the laws' premise is met

note_sound : IsSoundAsn note
unfolding note text_type
note_sound = record {
  forms = λ p. forms p;
  few = lit< tt;
  root = (record { tag = codes "Note"; min = 1; max = Some 1; target = 1 } ∷ [], refl);
  document = (
    record { word = codes "Document"; name = codes "Document"; form = form.Sequence (record { tag = codes "Note"; min = 1; max = Some 1; target = 1 } ∷ []) },
    record { word = codes "Message"; name = codes "NoteV01"; form = form.Sequence (record { tag = codes "Id"; min = 1; max = Some 1; target = 2 } ∷ []) }
        ∷ record { word = codes "Text"; name = codes "Max35Text"; form = form.Simple text_type } ∷ [],
    refl,
    refl,
    (inl refl, (inl refl, tt)),
  );
}
  where
    one_slot : (t : List ℕ) (q : ℕ) → 0 < q → IsSoundType MayBeReferredTo (types_of note) (form.Sequence (record { tag = t; min = 1; max = Some 1; target = q } ∷ []))
    one_slot t q more zero s e = (let is : record { tag = t; min = 1; max = Some 1; target = q } ≡ s = cc in subst (λ x. MayBeReferredTo x.target × UpTo x.min x.max) is (more, lit≤ tt))
    one_slot t q more (suc k) s e = absurd cc

    forms : (p : ℕ) → IsSoundType MayBeReferredTo (types_of note) (types_of note p)
    forms zero = one_slot (codes "Note") 1 (lit< tt)
    forms (suc zero) = one_slot (codes "Id") 2 (lit< tt)
    forms (suc (suc zero)) = record { texts = λ cs e k text at. absurd cc; few = λ cs e. absurd cc; pattern = λ p e. absurd cc }
    forms (suc (suc (suc p))) = tt
