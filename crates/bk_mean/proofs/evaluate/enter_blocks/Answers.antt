use Rattle.std.proofs.Common.{◌+◌, ◌-◌, List, Option, ap, ◌∙◌, subst, arith}
use Rattle.std.specs.Prelude.{Vec}
use Rattle.std.specs.declared.alloc.Global.{Global}
use Rattle.bk_mean.specs.declared.machine.Machine.{Machine}
use Rattle.bk_mean.specs.declared.ready.Ready.{Ready}
use Rattle.bk_mean.specs.Running.{held, Advanced, RunsTo}
use Rattle.bk_mean.proofs.Looping.{loop_enters, loop_calls, loop_fails, loop_traps, loop_wilds, loop_returns, loop_spent}
use Rattle.bk_mean.proofs.evaluate.enter_blocks.Goals as goal
use Rattle.bk_mean.proofs.evaluate.enter_blocks.Goals.{in-Enter, in-Call+in_ok-trap-in-Call+in_default}

pub returns-in-Some : goal.returns-in-Some
returns-in-Some c =
    let adv = subst (λ (rs : List (Option Ready)). Advanced c.loop.machine.target c.args.pkg.now rs (held c.loop.machine) (held c.advance.new.self) c.in_ok-advance.field-0) c.deref.ensures.value c.in_ok-advance.ensures.advanced in
    c.loop.invariant.onward _ _
    (loop_fails c.args.machine.now.target c.loop.machine.target c.args.pkg.now c.args.frames.now c.args.stack c.args.bound c.loop.counter c.loop.readies.items (held c.loop.machine) (held c.advance.new.self) c.in_ok-advance.field-0 c.loop.invariant.target adv
    (omega arith) c.in-Call.callee c.in-Call.on_words c.in-Call.is c.advance.new.self.target (c.in_ok-advance.ensures.target ∙ c.loop.invariant.target) c.begin_named.new.readies.items (held c.begin_named.new.machine) c.in_ok-trap-in-Call.trap
    c.in_ok-trap-in-Call.ensures.calls c.in-Some.trap c.in-Some.is)

pub returns-in-Trap : goal.returns-in-Trap
returns-in-Trap c =
    let adv = subst (λ (rs : List (Option Ready)). Advanced c.loop.machine.target c.args.pkg.now rs (held c.loop.machine) (held c.advance.new.self) c.in_ok-advance.field-0) c.deref.ensures.value c.in_ok-advance.ensures.advanced in
    c.loop.invariant.onward _ _
    (loop_traps c.args.machine.now.target c.loop.machine.target c.args.pkg.now c.args.frames.now c.args.stack c.args.bound c.loop.counter c.loop.readies.items (held c.loop.machine) (held c.advance.new.self) c.in_ok-advance.field-0 c.loop.invariant.target adv
    (omega arith) c.in-Trap.number c.in-Trap.is)

pub returns-in-Wild : goal.returns-in-Wild
returns-in-Wild c =
    let adv = subst (λ (rs : List (Option Ready)). Advanced c.loop.machine.target c.args.pkg.now rs (held c.loop.machine) (held c.advance.new.self) c.in_ok-advance.field-0) c.deref.ensures.value c.in_ok-advance.ensures.advanced in
    c.loop.invariant.onward _ _
    (loop_wilds c.args.machine.now.target c.loop.machine.target c.args.pkg.now c.args.frames.now c.args.stack c.args.bound c.loop.counter c.loop.readies.items (held c.loop.machine) (held c.advance.new.self) c.in_ok-advance.field-0 c.loop.invariant.target adv
    (omega arith) c.in-Wild.address c.in-Wild.is)

pub returns-in-Return : goal.returns-in-Return
returns-in-Return c =
    let adv = subst (λ (rs : List (Option Ready)). Advanced c.loop.machine.target c.args.pkg.now rs (held c.loop.machine) (held c.advance.new.self) c.in_ok-advance.field-0) c.deref.ensures.value c.in_ok-advance.ensures.advanced in
    c.loop.invariant.onward _ _
    (loop_returns c.args.machine.now.target c.loop.machine.target c.args.pkg.now c.args.frames.now c.args.stack c.args.bound c.loop.counter c.loop.readies.items (held c.loop.machine) (held c.advance.new.self) c.in_ok-advance.field-0 c.loop.invariant.target adv
    (omega arith) c.in-Return.is c.in_ok-to_vec-in-Return.field-0.items (c.in_ok-to_vec-in-Return.ensures.items_if_clones_equal (λ x y d. d) ∙ c.deref-in-Return.ensures.value))

pub loop-preserved : goal.loop-preserved
loop-preserved c =
    let adv = subst (λ (rs : List (Option Ready)). Advanced c.loop.machine.target c.args.pkg.now rs (held c.loop.machine) (held c.advance.new.self) c.in_ok-advance.field-0) c.deref.ensures.value c.in_ok-advance.ensures.advanced in
    elim c.match-branch-2.branch [
      | in-Enter w ↦ record {
        target = ap (λ (m : Machine). m.target) w.machine-is ∙ c.in_ok-advance.ensures.target ∙ c.loop.invariant.target;
        onward = λ o d rest.
            c.loop.invariant.onward o d
            (loop_enters c.args.machine.now.target c.loop.machine.target c.args.pkg.now c.args.frames.now c.args.stack c.args.bound c.loop.counter c.loop.readies.items (held c.loop.machine) (held c.advance.new.self) c.in_ok-advance.field-0 c.loop.invariant.target adv
            (omega arith) w.in-Enter.is o d
            (subst (λ (v : Vec (Option Ready) Global). RunsTo c.args.machine.now.target c.args.pkg.now c.args.frames.now c.args.stack (c.args.bound - (c.loop.counter + 1)) v.items (held c.advance.new.self) o d) w.readies-is
            (subst (λ (m : Machine). RunsTo c.args.machine.now.target c.args.pkg.now c.args.frames.now c.args.stack (c.args.bound - (c.loop.counter + 1)) c.match-branch-2.readies.items (held m) o d) w.machine-is rest)));
      }
      | in-Call+in_ok-trap-in-Call+in_default w ↦ record {
        target = ap (λ (m : Machine). m.target) w.machine-is ∙ w.in_ok-trap-in-Call.ensures.target ∙ c.in_ok-advance.ensures.target ∙ c.loop.invariant.target;
        onward = λ o d rest.
            c.loop.invariant.onward o d
            (loop_calls c.args.machine.now.target c.loop.machine.target c.args.pkg.now c.args.frames.now c.args.stack c.args.bound c.loop.counter c.loop.readies.items (held c.loop.machine) (held c.advance.new.self) c.in_ok-advance.field-0 c.loop.invariant.target adv
            (omega arith) w.in-Call.callee w.in-Call.on_words w.in-Call.is c.advance.new.self.target (c.in_ok-advance.ensures.target ∙ c.loop.invariant.target) w.begin_named.new.readies.items (held w.begin_named.new.machine) w.in_ok-trap-in-Call.trap
            w.in_ok-trap-in-Call.ensures.calls w.in_default.is o d
            (subst (λ (v : Vec (Option Ready) Global). RunsTo c.args.machine.now.target c.args.pkg.now c.args.frames.now c.args.stack (c.args.bound - (c.loop.counter + 1)) v.items (held w.begin_named.new.machine) o d) w.readies-is
            (subst (λ (m : Machine). RunsTo c.args.machine.now.target c.args.pkg.now c.args.frames.now c.args.stack (c.args.bound - (c.loop.counter + 1)) c.match-branch-2.readies.items (held m) o d) w.machine-is rest)));
      }
    ]

pub returns : goal.returns
returns c =
    c.loop.invariant.onward _ _
    (loop_spent c.args.machine.now.target c.args.pkg.now c.args.frames.now c.args.stack c.args.bound c.loop.counter c.loop.readies.items (held c.loop.machine) (omega arith))
