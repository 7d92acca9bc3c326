use Rattle.std.proofs.Common.{ℕ, List, Option, sym, ap, ◌∙◌, length}
use Rattle.std.specs.Str.{bytes_eq}
use Rattle.fragments.specs.Fragment.{is_default}
use Rattle.respell.proofs.KeptLemmas.{nearest_last, nearest_none}
use Rattle.respell.proofs.respell.Respell.is_default.Goals as goal

pub returns-in-Some : goal.returns-in-Some
returns-in-Some c defaults h =
    c.eq.ensures ∙ (ap (λ (b : List ℕ). bytes_eq b c.args.ns.now) c.bytes.ensures
    ∙ ap (λ (d : Option (List ℕ)). is_default d c.args.ns.now) (sym (nearest_last c.args.self.now defaults c.in-Some.default.now c.in-Some.field-0-1.now (sym c.as_slice.ensures.value ∙ c.in-Some.ensures.cases.0) h)))

pub returns-in-None : goal.returns-in-None
returns-in-None c defaults h =
    ap (λ (d : Option (List ℕ)). is_default d c.args.ns.now) (sym (nearest_none c.args.self.now defaults (ap (λ (l : List (List ℕ)). length l) (sym c.as_slice.ensures.value) ∙ c.in-None.ensures.cases) h))
