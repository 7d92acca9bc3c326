use Rattle.std.proofs.Common.{◌≢◌, rules}
use Rattle.data_types.specs.LeafAnswers.{leaf_of}
use Rattle.data_types.specs.declared.kind.Kind.TheVariants as kind
use Rattle.facets.proofs.HeldLemmas.{text_verdict, other_seen}
use Rattle.facets.proofs.leaf_verdict.LeafVerdict.finish.Goals as goal

pub check_text-requires-clause-kind : goal.check_text-requires-clause-kind
check_text-requires-clause-kind c = (c.is_free_text.ensures.0 c.if-is_free_text.true).0

pub check_text-requires-clause-codes : goal.check_text-requires-clause-codes
check_text-requires-clause-codes c = (c.is_free_text.ensures.0 c.if-is_free_text.true).1

pub check_text-requires-clause-made : goal.check_text-requires-clause-made
check_text-requires-clause-made c = let (text, had) = c.requires in (_, text, had.seen)

pub returns-then-is_free_text : goal.returns-then-is_free_text
returns-then-is_free_text c = λ text had.
    text_verdict c.args.simple.now text c.check_text.result (c.is_free_text.ensures.0 c.if-is_free_text.true) had.seen.characters (c.check_text.ensures _ text had.seen)

pub check_binary-requires : goal.check_binary-requires
check_binary-requires c = search rules

pub returns-then-eq : goal.returns-then-eq
returns-then-eq c = λ text had. c.check_binary.ensures _ text had.seen

pub leaf-requires : goal.leaf-requires
leaf-requires c =
    let (text, had) = c.requires in
    let other : c.args.simple.now.kind ≢ kind.Binary = search rules in
    (text, other_seen c.args.self.now.progress c.args.simple.now text (λ free. let yes = c.is_free_text.ensures.1 free in let no = c.if-is_free_text.false in absurd cc) other had.seen)

pub returns-in-Ok : goal.returns-in-Ok
returns-in-Ok c = λ text had.
    let other : c.args.simple.now.kind ≢ kind.Binary = search rules in
    (leaf_of c.in-Ok.field-0, c.in-Ok.ensures text (other_seen c.args.self.now.progress c.args.simple.now text (λ free. let yes = c.is_free_text.ensures.1 free in let no = c.if-is_free_text.false in absurd cc) other had.seen))

pub returns-in-Err : goal.returns-in-Err
returns-in-Err c = λ text had.
    let other : c.args.simple.now.kind ≢ kind.Binary = search rules in
    c.in-Err.ensures text (other_seen c.args.self.now.progress c.args.simple.now text (λ free. let yes = c.is_free_text.ensures.1 free in let no = c.if-is_free_text.false in absurd cc) other had.seen)
