use Rattle.std.proofs.Common.{◌≡◌, ℕ, ◌+◌, ◌<◌, List, ◌∷◌, drop, get_or, arith, length, sym, ap, ◌∙◌, Some}
use Rattle.std.proofs.lemmas.List.{at_drop_more}
use Rattle.pattern_match.specs.declared.control.Reading.{Reading}
use Rattle.pattern_match.specs.Control.{next_reading}
use Rattle.pattern_match.specs.inner.Refusal.{refusal_place, refused_from}
use Rattle.pattern_match.proofs.ControlLemmas.{step_keeps}
use Rattle.pattern_match.proofs.refusal.refusal.Goals as goal

one_more : (r after : Reading) (text : List ℕ) (n c : ℕ) → n < length text → c ≡ get_or text n c → next_reading r c ≡ Some after
    → refused_from after (n + 1) (drop (n + 1) text) ≡ refused_from r n (drop n text)
one_more r after text n c l e s =
    ap (λ x. refusal_place x (n + 1) (drop (n + 1) text)) (sym s)
    ∙ ap (λ x. refused_from r n (x ∷ drop (n + 1) text)) e
    ∙ sym (at_drop_more (λ cs. refused_from r n cs) text n c l)

pub loop-c-preserved : goal.loop-c-preserved
loop-c-preserved c =
    let s : next_reading c.loop-c.at c.c-item.result ≡ Some c.in-Some.after = sym c.reading_after.ensures ∙ c.in-Some.is in
    let k = step_keeps c.loop-c.at c.in-Some.after c.c-item.result c.loop-c.invariant.sound s in
    let p : c.loop-c.place ≡ c.loop-c.c-index = c.loop-c.invariant.place in
    let l : c.loop-c.place < length c.args.text.now = omega arith in
    let i : c.c-item.result ≡ get_or c.args.text.now c.loop-c.place c.c-item.result = c.c-item.is ∙ ap (λ x. get_or c.args.text.now x c.c-item.result) (sym p) in
    record {
      place = omega arith;
      rest = one_more c.loop-c.at c.in-Some.after c.args.text.now c.loop-c.place c.c-item.result l i s ∙ c.loop-c.invariant.rest;
      sound = k.0;
      depth = omega arith;
    }
