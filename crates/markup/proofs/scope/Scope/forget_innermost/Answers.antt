-- A tag that declares nothing leaves the declarations as they are.
use Rattle.std.proofs.Common.{◌≡◌, arith, subst, drop}
use Rattle.markup.specs.inner.Bindings.{Binds}
use Rattle.markup.proofs.ScopeLemmas.{closes_innermost}
use Rattle.markup.proofs.scope.Scope.forget_innermost.Goals as goal

pub returns-then-declared-gt0 : goal.returns-then-declared-gt0
returns-then-declared-gt0 c tag tags is =
    closes_innermost c.args.self.now (record { alloc = c.args.self.now.alloc; names = c.pop-declared.new.self; bindings = c.forget.new.self }) tag tags c.pop-declared.result is c.pop-declared.ensures c.forget.ensures

pub returns-else-declared-gt0 : goal.returns-else-declared-gt0
returns-else-declared-gt0 c tag tags is =
    closes_innermost c.args.self.now (record { alloc = c.args.self.now.alloc; names = c.pop-declared.new.self; bindings = c.args.self.now.bindings }) tag tags c.pop-declared.result is c.pop-declared.ensures
    (λ declared k. subst (λ n. Binds c.args.self.now.bindings (drop n declared)) (let e : 0 ≡ c.pop-declared.result = omega (arith, c.if-declared-gt0.false) in e) k)
