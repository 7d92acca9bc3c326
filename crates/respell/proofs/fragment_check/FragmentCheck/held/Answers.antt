use Rattle.std.proofs.Common.{sym, arith}
use Rattle.respell.proofs.CheckedFragments.{read_of, unread_of, held_open, held_none, open_token_length_is}
use Rattle.respell.proofs.FragmentPieces.{waiting_open, open_within}
use Rattle.respell.proofs.fragment_check.FragmentCheck.held.Goals as goal

pub returns-in-Some-clause-count : goal.returns-in-Some-clause-count
returns-in-Some-clause-count c bytes h short =
    let r = c.in-Some.reader in
    let read = read_of c.args.self.now r bytes c.in-Some.is h in
    let waits = waiting_open r c.args.self.now.waiting.items bytes read in
    let token = c.token.ensures.within c.args.self.now.waiting.items bytes read in
    let within = open_within r c.args.self.now.waiting.items bytes read in
    let held = c.token.ensures.held c.args.self.now.waiting.items bytes read in
    let sum = held_open c.args.self.now r c.in-Some.is in
    let n = c.len.ensures in
    let s = c.saturating_add.ensures in
    omega (arith, waits, token, within, held, sum, n, s, short)

pub returns-in-Some-clause-within : goal.returns-in-Some-clause-within
returns-in-Some-clause-within c bytes h short =
    let r = c.in-Some.reader in
    let read = read_of c.args.self.now r bytes c.in-Some.is h in
    let waits = waiting_open r c.args.self.now.waiting.items bytes read in
    let token = c.token.ensures.within c.args.self.now.waiting.items bytes read in
    let is = open_token_length_is c.args.self.now r c.in-Some.is in
    let n = c.len.ensures in
    let s = c.saturating_add.ensures in
    omega (arith, waits, token, is, n, s)

pub returns-in-None-clause-count : goal.returns-in-None-clause-count
returns-in-None-clause-count c bytes h short = sym (held_none c.args.self.now c.in-None.is (unread_of c.args.self.now bytes c.in-None.is h).0)
