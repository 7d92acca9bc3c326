-- A target and what stands behind it are the instruction.
use Rattle.std.proofs.Common.{◌<◌, ◌∷◌, take, drop, refl, sym, ◌∙◌, ap, arith}
use Rattle.std.proofs.lemmas.List.{length-take-le}
use Rattle.markup.proofs.InstructionTexts.{instruction_aside, instruction_there, behind_target}
use Rattle.markup.proofs.TagScans.{two_parts}
use Rattle.markup.proofs.instructions.instruction_size.Goals as goal

pub returns-then-target-eq0-clause-all : goal.returns-then-target-eq0-clause-all
returns-then-target-eq0-clause-all c target text rest h p a e =
    let t = instruction_there c.args.piece.now target text rest h p e in
    absurd (omega (arith, (c.target_size-target.ensures.all target t.behind t.plain (c.split_at.ensures.back ∙ ap (drop 2) t.spelled) t.stops).1, c.if-target-eq0.true))

pub returns-in-Some-clause-only : goal.returns-in-Some-clause-only
returns-in-Some-clause-only c =
    let o = c.begins_with.ensures.found c.if-not-begins_with.false in
    let named = c.split_at.result.1.now in
    let n = c.target_size-target.result in
    let some : 0 < n = (let k = c.if-target-eq0.false in omega (arith, k)) in
    instruction_aside c.args.piece.now named (take n named) c.split_at-2.result.1.now n c.in-Some.size
    (o.1 ∙ ap (λ v. 60 ∷ 63 ∷ v) (sym (c.split_at.ensures.back ∙ ap (drop 2) o.1)))
    (two_parts named (take n named) c.split_at-2.result.1.now n refl c.split_at-2.ensures.back)
    (sym (length-take-le n named c.target_size-target.ensures.within))
    (c.target_size-target.ensures.named some) c.in-Some.ensures.only

pub returns-in-None-clause-all : goal.returns-in-None-clause-all
returns-in-None-clause-all c target text rest h p a e =
    let t = instruction_there c.args.piece.now target text rest h p e in
    let f = c.split_at.ensures.back ∙ ap (drop 2) t.spelled in
    c.in-None.ensures.all text rest a
    (behind_target c.args.piece.now target text rest c.split_at.result.1.now c.split_at-2.result.1.now c.target_size-target.result t f (c.target_size-target.ensures.all target t.behind t.plain f t.stops).0 c.split_at-2.ensures.back)
