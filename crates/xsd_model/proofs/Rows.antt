-- Worked schemas.
use Rattle.std.proofs.Common.{◌≡◌, inl, inr, false, [], ◌∷◌, Some, None, pos, refl}
use Rattle.std.proofs.Common.{ℕ, ◌<◌, zero, suc, arith, lit≤}
use Rattle.std.specs.Prelude.{codes, flat_map}
use Rattle.std.specs.Fmt.{digits}
use Rattle.std.specs.Str.{bytes_eq}
use Rattle.std.specs.Str.Parse.{AllDigits}
use Rattle.std.proofs.lemmas.Map.Keys.{IsDistinct-cons}
use Rattle.data_types.specs.declared.kind.Kind.TheVariants as kind
use Rattle.facets.specs.declared.simple.Simple.{Simple}
use Rattle.reference_check.specs.Forms as form
use Rattle.message_model.specs.Tables.{types_of}
use Rattle.message_model.specs.Tables.{Tables}
use Rattle.xsd_model.specs.DateSpaces.{IsDateSpace, IsTwoDigits, IsYearNumeral, IsDayNumeral}
use Rattle.xsd_model.specs.SchemaOf.{HasSoundNames, HasSoundFacets}
use Rattle.xsd_model.specs.SchemaOf.{schema_of, types_by}
use Rattle.xsd_model.specs.SchemaText.{schema_text, type_text}
use Rattle.xsd_model.proofs.DistinctNames.{distinct_two}

text_type : Simple
text_type = record { kind = kind.Text; min = 1; max = Some 35; total = 18; fraction = None; low = None; high = None; pattern = None; codes = None }

note : Tables
note = record {
  id = codes "demo.001.001.01";
  types = record { word = codes "Document"; name = codes "Document"; form = form.Sequence (record { tag = codes "Note"; min = 1; max = Some 1; target = 1 } ∷ []) }
      ∷ record { word = codes "Message"; name = codes "NoteV01"; form = form.Sequence (record { tag = codes "Id"; min = 1; max = Some 1; target = 2 } ∷ []) }
      ∷ record { word = codes "Text"; name = codes "Max35Text"; form = form.Simple text_type } ∷ [];
}

note_schema : schema_text (schema_of note) ≡ codes "<?xml version=\"1.0\" encoding=\"UTF-8\"?>\n<xs:schema xmlns=\"urn:iso:std:iso:20022:tech:xsd:demo.001.001.01\" xmlns:xs=\"http://www.w3.org/2001/XMLSchema\" elementFormDefault=\"qualified\" targetNamespace=\"urn:iso:std:iso:20022:tech:xsd:demo.001.001.01\">\n  <xs:element name=\"Document\" type=\"Document\"/>\n  <xs:complexType name=\"Document\">\n    <xs:sequence>\n      <xs:element name=\"Note\" type=\"NoteV01\"/>\n    </xs:sequence>\n  </xs:complexType>\n  <xs:simpleType name=\"Max35Text\">\n    <xs:restriction base=\"xs:string\">\n      <xs:minLength value=\"1\"/>\n      <xs:maxLength value=\"35\"/>\n    </xs:restriction>\n  </xs:simpleType>\n  <xs:complexType name=\"NoteV01\">\n    <xs:sequence>\n      <xs:element name=\"Id\" type=\"Max35Text\"/>\n    </xs:sequence>\n  </xs:complexType>\n</xs:schema>\n"
unfolding note text_type digits
note_schema = refl

date_type : Simple
date_type = record { kind = kind.DateTime; min = 0; max = None; total = 18; fraction = None; low = None; high = None; pattern = Some (codes ".*Z"); codes = None }

normalised : flat_map type_text (types_by (λ n. []) (codes "ISONormalisedDateTime") (form.Simple date_type)) ≡ codes "  <xs:simpleType name=\"ISONormalisedDateTime\">\n    <xs:restriction>\n      <xs:simpleType>\n        <xs:restriction base=\"xs:dateTime\">\n          <xs:pattern value=\"[0-9]{4}-[0-9]{2}-[0-9]{2}T([01][0-9]|2[0-3]):[0-5][0-9]:[0-5][0-9](\\.[0-9]{1,9})?(Z|[+\\-][0-9]{2}:[0-9]{2})?\"/>\n        </xs:restriction>\n      </xs:simpleType>\n      <xs:pattern value=\".*Z\"/>\n    </xs:restriction>\n  </xs:simpleType>\n"
unfolding date_type
normalised = refl

amount : Simple
amount = record { kind = kind.Decimal; min = 0; max = None; total = 18; fraction = Some 5; low = Some (record { value = record { whole = pos 0; scale = 0 }; strict = false }); high = None; pattern = None; codes = None }

amount_types : flat_map type_text (types_by (λ n. codes "ActiveCurrencyCode") (codes "ActiveCurrencyAndAmount") (form.Money 3 amount)) ≡ codes "  <xs:simpleType name=\"ActiveCurrencyAndAmount_SimpleType\">\n    <xs:restriction base=\"xs:decimal\">\n      <xs:totalDigits value=\"18\"/>\n      <xs:fractionDigits value=\"5\"/>\n      <xs:minInclusive value=\"0\"/>\n    </xs:restriction>\n  </xs:simpleType>\n  <xs:complexType name=\"ActiveCurrencyAndAmount\">\n    <xs:simpleContent>\n      <xs:extension base=\"ActiveCurrencyAndAmount_SimpleType\">\n        <xs:attribute name=\"Ccy\" type=\"ActiveCurrencyCode\" use=\"required\"/>\n      </xs:extension>\n    </xs:simpleContent>\n  </xs:complexType>\n"
unfolding amount digits
amount_types = refl

-- ---- the law's premise is met

note_sound : HasSoundNames note
unfolding note text_type
note_sound = record {
  root = refl;
  distinct = IsDistinct-cons bytes_eq _ _ (refl, (refl, tt)) (distinct_two _ _ (λ e. absurd cc));
  some = (omega arith, (omega arith, (omega arith, tt)));
  facets = facets;
}
  where
    facets : (k : ℕ) → k < 3 → HasSoundFacets (types_of note k)
    facets zero lt = tt
    facets (suc zero) lt = tt
    facets (suc (suc zero)) lt = record { no_envelope = λ e. absurd cc; total = λ e. lit≤ tt; codes = tt; pattern = tt }
    facets (suc (suc (suc k))) lt = absurd (omega (arith, lt))

-- ---- the lexical spaces of dates have more than the profile, and no more than the standard

far_date : IsDateSpace kind.Date (codes "-10000-02-29+14:00")
far_date = record {
  portion = codes "-10000-02-29";
  zone = codes "+14:00";
  text_is = refl;
  is_portion = record {
    minus = codes "-";
    year = codes "10000";
    month = codes "02";
    day = codes "29";
    text_is = refl;
    is_minus = inr refl;
    is_year = record { digits = digits_are; least = lit≤ tt; no_zero = λ more e. absurd (omega (arith, e)); some = lit≤ tt };
    is_month = record { two = two_zero_two; least = lit≤ tt; most = lit≤ tt };
    is_day = record { two = record { digits = (lit≤ tt, (lit≤ tt, tt)); two = refl }; least = lit≤ tt; most = lit≤ tt };
  };
  is_zone = inr (inr (record {
    sign = 43;
    hour = codes "14";
    minute = codes "00";
    text_is = refl;
    is_sign = inl refl;
    is_hour = record { digits = (lit≤ tt, (lit≤ tt, tt)); two = refl };
    is_minute = record { digits = (lit≤ tt, (lit≤ tt, tt)); two = refl };
    most = inr (refl, refl);
  }));
}
  where
    digits_are : AllDigits 10 (codes "10000")
    digits_are = (lit≤ tt, (lit≤ tt, (lit≤ tt, (lit≤ tt, (lit≤ tt, tt)))))

    two_zero_two : IsTwoDigits (codes "02")
    two_zero_two = record { digits = (lit≤ tt, (lit≤ tt, tt)); two = refl }

end_of_day : IsDateSpace kind.Time (codes "24:00:00.0000000000")
end_of_day = record {
  portion = codes "24:00:00.0000000000";
  zone = [];
  text_is = refl;
  is_portion = record {
    hour = codes "24";
    minute = codes "00";
    second = codes "00";
    digits = codes "0000000000";
    fraction = codes ".0000000000";
    text_is = refl;
    is_hour = record { digits = (lit≤ tt, (lit≤ tt, tt)); two = refl };
    is_minute = record { digits = (lit≤ tt, (lit≤ tt, tt)); two = refl };
    is_second = record { digits = (lit≤ tt, (lit≤ tt, tt)); two = refl };
    is_fraction = ((lit≤ tt, (lit≤ tt, (lit≤ tt, (lit≤ tt, (lit≤ tt, (lit≤ tt, (lit≤ tt, (lit≤ tt, (lit≤ tt, (lit≤ tt, tt)))))))))), inr (lit≤ tt, refl));
    in_day = inr (record { hours = refl; minutes = refl; seconds = refl; zeros = refl });
  };
  is_zone = inl refl;
}

no_year_zero : IsYearNumeral (codes "0000") → ⊥
no_year_zero y = let some = y.some in omega (arith, some)

no_zero_in_front : IsYearNumeral (codes "02026") → ⊥
no_zero_in_front y = y.no_zero (lit≤ tt) refl

no_day_30 : IsDayNumeral 2024 2 (codes "30") → ⊥
no_day_30 d = let most = d.most in omega (arith, most)
