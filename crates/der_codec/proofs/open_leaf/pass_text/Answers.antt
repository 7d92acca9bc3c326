use Rattle.std.proofs.Common.{◌++◌, sym, subst}
use Rattle.facets.specs.declared.leaf_verdict.LeafVerdict.{LeafVerdict}
use Rattle.der_codec.specs.OpenLeaves.{IsOpenText, BeginsNoTextAs}
use Rattle.der_codec.proofs.open_leaf.pass_text.Goals as goal

pub returns-in-Err-Breaks : goal.returns-in-Err-Breaks
returns-in-Err-Breaks c = λ before (free, t).
    let here = subst (λ (z : LeafVerdict). IsOpenText z c.args.simple.now c.args.rest.now.items before) (sym c.deref_mut.ensures.value) t in
    (free, c.clear.ensures.items, subst (BeginsNoTextAs (before ++ c.args.octets.now)) c.in-Err-Breaks.field-0-is (c.in-Err-Breaks.ensures.none before here))
