-- A fragment inside a document.
use Rattle.std.proofs.Common.{ℕ, List, [], ◌++◌, reverse, refl, sym, ap, subst, ◌∙◌}
use Rattle.markup.specs.Token.{Token}
use Rattle.markup.specs.Marks.{Front, in_cdata, tag_limit}
use Rattle.markup.specs.Events.{open_tags}
use Rattle.markup.proofs.TokensBehind.{behind_is, events_items}
use Rattle.respell.specs.Laws.{FragmentWithin}
use Rattle.respell.proofs.PlainTags.{xml_everywhere}
use Rattle.respell.proofs.Runs.{runs_front}
use Rattle.respell.proofs.Trees.{fragment_within}
use Rattle.respell.proofs.WholePlain.{open_sound}

pub fragment_stands : FragmentWithin
fragment_stands t bytes tokens rest p short front clean cdata over =
    let before : List Token = reverse tokens in
    let s = fragment_within t before (open_tags before) p cdata refl over (xml_everywhere (open_tags before) (open_sound tag_limit [] bytes tokens rest tt front clean)) in record {
      tokens = s.run.tokens;
      marks = λ more. subst (λ (b : List ℕ). Front tag_limit before (b ++ more) s.run.tokens more) s.run.bytes (runs_front tag_limit before s.run.tokens more s.run.stand ((s.short tag_limit).0 short));
      clean = s.run.clean;
      told = λ place. events_items before place s.run.tokens ∙ s.run.told;
      tags = ap open_tags (sym (behind_is before s.run.tokens)) ∙ s.tags;
      cdata = ap in_cdata (sym (behind_is before s.run.tokens)) ∙ (s.cdata ∙ cdata);
    }
