-- A tag that breaks a rule; and one that breaks none, of an empty element and of another.
use Rattle.std.proofs.Common.{refl}
use Rattle.markup.specs.inner.TagParts.{spelled_opening}
use Rattle.markup.proofs.ScopeLemmas.{rule_unbound, rule_bad, rule_over, opens, passes}
use Rattle.markup.proofs.scope.Scope.«open».Goals as goal

pub returns-in_default-namespace : goal.returns-in_default-namespace
returns-in_default-namespace c tags is =
    let tag = spelled_opening c.args.prefix.now c.args.name.now c.args.attributes.now.items c.args.is_empty in
    rule_unbound c.args.over tags tag c.in-Ok.resolved c.resolve.new.attributes.items c.resolve.new.self (c.in-Ok.ensures tags tag is refl refl) c.if-has_clash.false c.in_default-namespace.is

pub returns-then-is_bad : goal.returns-then-is_bad
returns-then-is_bad c tags is =
    let tag = spelled_opening c.args.prefix.now c.args.name.now c.args.attributes.now.items c.args.is_empty in
    rule_bad c.args.over tags tag c.in-Ok.resolved c.resolve.new.attributes.items c.resolve.new.self c.in-Some.ns (c.in-Ok.ensures tags tag is refl refl) c.if-has_clash.false c.in-Some.is c.if-is_bad.true

pub returns-then-over : goal.returns-then-over
returns-then-over c tags is =
    let tag = spelled_opening c.args.prefix.now c.args.name.now c.args.attributes.now.items c.args.is_empty in
    rule_over c.args.over tags tag c.in-Ok.resolved c.resolve.new.attributes.items c.resolve.new.self c.in-Some.ns (c.in-Ok.ensures tags tag is refl refl) c.if-has_clash.false c.in-Some.is c.if-is_bad.false c.if-over.true

pub returns-then-is_empty : goal.returns-then-is_empty
returns-then-is_empty c tags is =
    let tag = spelled_opening c.args.prefix.now c.args.name.now c.args.attributes.now.items c.args.is_empty in
    let found = c.in-Ok.ensures tags tag is refl refl in
    passes c.args.over tags tag c.in-Ok.resolved c.resolve.new.attributes.items c.resolve.new.self (record { alloc = c.resolve.new.self.alloc; names = c.resolve.new.self.names; bindings = c.forget.new.self }) (record { ns = c.in-Some.ns; has_same_ns = c.has_same_ns.result })
    found c.if-has_clash.false c.in-Some.is c.if-is_bad.false c.if-over.false c.if-is_empty.true (c.has_same_ns.ensures tags found.names) refl c.forget.ensures

pub returns-in-Ok-push : goal.returns-in-Ok-push
returns-in-Ok-push c tags is =
    let tag = spelled_opening c.args.prefix.now c.args.name.now c.args.attributes.now.items c.args.is_empty in
    let found = c.in-Ok.ensures tags tag is refl refl in
    opens c.args.over tags tag c.in-Ok.resolved c.resolve.new.attributes.items c.resolve.new.self (record { alloc = c.resolve.new.self.alloc; names = c.push.new.self; bindings = c.resolve.new.self.bindings }) (record { ns = c.in-Some.ns; has_same_ns = c.has_same_ns.result })
    found c.if-has_clash.false c.in-Some.is c.if-is_bad.false c.if-over.false c.if-is_empty.false (c.has_same_ns.ensures tags found.names) c.in-Ok-push.ensures refl
