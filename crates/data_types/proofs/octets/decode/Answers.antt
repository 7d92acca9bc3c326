use Rattle.std.proofs.Common.{◌≡◌, take, drop, subst, sym, ap, ◌∙◌, refl, arith, take-append-drop, Ok}
use Rattle.base64.specs.Engines.{standard}
use Rattle.base64.specs.GeneralPurpose.{IsBytes, decode_of}
use Rattle.base64.proofs.EngineFacts.{front_bytes, decode_of-encode_of, decode_of_strict}
use Rattle.data_types.proofs.octets.decode.Goals as goal

pub returns-in-Ok-clause-some : goal.returns-in-Ok-clause-some
returns-in-Ok-clause-some c =
    let octets = take c.in-Ok.count c.decode_slice_unchecked.new.output in
    let decoded : decode_of standard c.args.group.now ≡ Ok octets = ap (decode_of standard) (sym c.as_slice.ensures) ∙ c.in-Ok.ensures.ok.0 in
    decode_of_strict standard c.args.group.now octets (refl, refl) (λ i. let fits = c.fits-group i in omega (arith, fits)) decoded

pub returns-in-Ok-clause-bytes : goal.returns-in-Ok-clause-bytes
returns-in-Ok-clause-bytes c =
    let octets = c.decode_slice_unchecked.new.output in
    let n = c.in-Ok.count in
    front_bytes (take n octets) (drop n octets) (subst IsBytes (sym (take-append-drop n octets)) (subst IsBytes c.as_slice-in-Ok.ensures c.are_octets.ensures))

pub returns-in-Err-clause-none : goal.returns-in-Err-clause-none
returns-in-Err-clause-none c = λ octets bytes e.
    let decoded = decode_of-encode_of standard octets refl bytes in
    let err = c.in-Err.ensures.err in
    let same = sym decoded ∙ (ap (decode_of standard) (sym (c.as_slice.ensures ∙ e)) ∙ err) in
    absurd (cc)
