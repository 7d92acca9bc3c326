use Rattle.std.proofs.Common.{◌≡◌, ◌++◌, length, take, drop, take-append-drop, sym, ap, subst, ◌∙◌, Some}
use Rattle.std.proofs.Math.Seq.{drop-append_seam}
use Rattle.data_types.specs.Dates.{IsZone}
use Rattle.data_types.proofs.dates.is_rest.Goals as goal

pub returns : goal.returns
returns c =
    let text = c.args.text.now in
    let end = c.in-Some.end in
    let behind = c.split_at.ensures.back in (
      λ e. (
        take end text,
        c.split_at.result.1.now,
        sym (ap (λ x. take end text ++ x) behind ∙ take-append-drop end text),
        c.in-Some.ensures.some.1,
        c.is_zone.ensures.0 e,
      ),
      λ (fraction, zone, e, f, z).
          let only : Some end ≡ Some (length fraction) = c.in-Some.ensures.only fraction zone f z e in
          let ends : end ≡ length fraction = cc in
          c.is_zone.ensures.1 (subst IsZone (sym (behind ∙ (ap (λ k. drop k text) ends ∙ (ap (drop (length fraction)) e ∙ drop-append_seam fraction zone)))) z),
    )
