use Rattle.std.proofs.Common.{◌+◌, refl, arith, ◌++◌, ap, sym, subst, length, [], rules, ◌≡◌, length-append}
use Rattle.std.proofs.lemmas.List.{nil_from_length}
use Rattle.der_model.specs.DerMessage.{der_message}
use Rattle.der_codec.proofs.Keeping.{keeping_as, grows_same, not_ok}
use Rattle.der_codec.specs.KeptPieces.{HoldsLeafAt}
use Rattle.der_codec.proofs.checker.DerChecker.judge_held.Goals as goal

pub returns-then-is_empty-clause-keeps : goal.returns-then-is_empty-clause-keeps
returns-then-is_empty-clause-keeps c = λ k. keeping_as c.args.model.now c.args.self.now _ refl (omega arith) (omega arith) c.tell.ensures.room c.tell.ensures.grows k

pub returns-in-Err-clause-keeps : goal.returns-in-Err-clause-keeps
returns-in-Err-clause-keeps c = λ k. keeping_as c.args.model.now c.args.self.now _ refl (omega arith) c.extend_from_slice.ensures.capacity (λ bytes h. h) (grows_same c.args.self.now.pieces) k

pub returns-clause-keeps : goal.returns-clause-keeps
returns-clause-keeps c = λ k. keeping_as c.args.model.now c.args.self.now _ refl (omega arith) (let a = c.extend_from_slice.ensures.capacity in let b = c.clear.ensures.capacity in omega (arith, a, b)) c.tell-result.ensures.room c.tell-result.ensures.grows k

pub returns-then-is_empty-clause-within : goal.returns-then-is_empty-clause-within
returns-then-is_empty-clause-within c = λ w is.
    let s = c.args.self.now in
    let front = c.args.front.now in
    let none : s.kept.octets.items ≡ [] = nil_from_length s.kept.octets.items (search rules) in
    c.tell.ensures.within (length s.kept.octets.items + length front) w.checks w.plain (omega arith) w.primitive (λ leaf at. w.leaf leaf (subst (λ z. HoldsLeafAt (der_message c.args.model.now) c.args.spot (z ++ front) leaf) (sym none) at)) is

pub returns-in-Err-clause-within : goal.returns-in-Err-clause-within
returns-in-Err-clause-within c = λ w is. not_ok (c.in-Err.ensures.succeeds (let room = w.room in omega (arith, room)))

pub returns-clause-within : goal.returns-clause-within
returns-clause-within c = λ w is.
    let s = c.args.self.now in
    let front = c.args.front.now in
    let all : c.as_slice.result.now ≡ s.kept.octets.items ++ front = search rules in
    let size = ap length all in
    let sum = length-append s.kept.octets.items front in
    c.tell-result.ensures.within (length s.kept.octets.items + length front) w.checks w.plain (omega (arith, size, sum)) w.primitive (λ leaf at. w.leaf leaf (subst (λ z. HoldsLeafAt (der_message c.args.model.now) c.args.spot z leaf) all at)) is
