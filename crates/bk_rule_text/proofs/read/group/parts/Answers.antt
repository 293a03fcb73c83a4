use Rattle.std.proofs.Common.{sym, map, length, arith}
use Rattle.bk_rule_text.proofs.GroupLoops.{no_part, last_part, no_bar, one_part_more, parts_end, pushed}
use Rattle.bk_rule_text.proofs.read.group.parts.Goals as goal

pub returns-in_default : goal.returns-in_default
returns-in_default c =
    let l = c.loop-turn in
    sym (no_part (length c.args.text.now) l.turn (map (λ part. part.now) l.parts.items) l.rest.now _ l.invariant (omega arith) (sym c.in_default.ensures))

pub returns-in-Some-after : goal.returns-in-Some-after
returns-in-Some-after c =
    let l = c.loop-turn in
    let p = c.in-Some in
    sym (last_part (length c.args.text.now) l.turn (map (λ part. part.now) l.parts.items) (map (λ part. part.now) c.push.new.self.items) l.rest.now p.found.now p.next.now c.in-Some-after.next.now _
    l.invariant (omega arith) (sym p.ensures) (sym c.in-Some-after.ensures) (pushed (λ part. part.now) l.parts.items c.push.new.self.items p.found c.in_ok-push.ensures.items))

pub returns-in_default-after-2 : goal.returns-in_default-after-2
returns-in_default-after-2 c =
    let l = c.loop-turn in
    let p = c.in-Some in
    sym (no_bar (length c.args.text.now) l.turn (map (λ part. part.now) l.parts.items) l.rest.now p.found.now p.next.now _ l.invariant (omega arith) (sym p.ensures) (sym c.in_default-after.ensures) (sym c.in_default-after-2.ensures))

pub loop-turn-preserved : goal.loop-turn-preserved
loop-turn-preserved c =
    let l = c.loop-turn in
    let p = c.in-Some in
    one_part_more (length c.args.text.now) l.turn (map (λ part. part.now) l.parts.items) (map (λ part. part.now) c.push.new.self.items) l.rest.now p.found.now p.next.now c.in-Some-after-2.next.now _
    l.invariant (omega arith) (sym p.ensures) (sym c.in_default-after.ensures) (sym c.in-Some-after-2.ensures) (pushed (λ part. part.now) l.parts.items c.push.new.self.items p.found c.in_ok-push.ensures.items)

pub returns : goal.returns
returns c =
    let l = c.loop-turn in
    sym (parts_end (length c.args.text.now) l.turn (map (λ part. part.now) l.parts.items) l.rest.now _ l.invariant (omega arith))
