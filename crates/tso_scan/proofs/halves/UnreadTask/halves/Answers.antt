use Rattle.std.proofs.Common.{◌-◌, arith, drop, length, take}
use Rattle.tso_scan.proofs.HalfLemmas.{if_apart, if_within, no_parts, some_parts}
use Rattle.tso_scan.proofs.PartLemmas.{front_byte}
use Rattle.tso_scan.proofs.halves.UnreadTask.halves.Goals as goal

pub returns-in-empty : goal.returns-in-empty
returns-in-empty c =
    let u = c.args.self.now in
    if_within u (take (length u.bytes.now - 1) (drop 1 u.bytes.now)) c.halves_within.result c.if-self-eq0.false (front_byte 1 u.bytes.now c.in-1.len_at_least (omega arith)) (no_parts u.more.now c.in-empty.len_below) c.halves_within.ensures

pub returns-in-len1-up : goal.returns-in-len1-up
returns-in-len1-up c =
    let u = c.args.self.now in
    if_apart u (take (length u.bytes.now - 1) (drop 1 u.bytes.now)) c.halves_apart.result c.if-self-eq0.false (front_byte 1 u.bytes.now c.in-1.len_at_least (omega arith)) (some_parts u.more.now c.in-len1-up.len_at_least) c.halves_apart.ensures
