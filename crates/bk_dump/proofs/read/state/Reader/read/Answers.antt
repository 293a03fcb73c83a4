use Rattle.std.proofs.Common.{◌≡◌, ◌∙◌, sym, subst, false}
use Rattle.bk_dump.specs.declared.read.draft.Stage.TheVariants.{Function, Block}
use Rattle.bk_dump.specs.Drafts.{has_control}
use Rattle.bk_dump.specs.Views.{state, Steps}
use Rattle.bk_dump.proofs.Stages.{read_at, behind_any, inside_any}
use Rattle.bk_dump.proofs.read.state.Reader.read.Goals as goal

pub returns-in-Function : goal.returns-in-Function
returns-in-Function c =
    let s = state c.args.self.now in
    let clean : has_control c.args.line.now ≡ false = cc (c.has_control.ensures, c.if-has_control.false) in
    let e = read_at s c.args.line.now (Function c.in-Function.func) clean (sym c.in-Function.ensures.value) in
    subst (λ o. Steps c.read_behind.result o (state c.read_behind.new.self)) (behind_any s c.replace.new.dest c.in-Function.func c.args.line.now ∙ sym e) c.read_behind.ensures

pub returns-in-Block : goal.returns-in-Block
returns-in-Block c =
    let s = state c.args.self.now in
    let clean : has_control c.args.line.now ≡ false = cc (c.has_control.ensures, c.if-has_control.false) in
    let e = read_at s c.args.line.now (Block c.in-Block.func c.in-Block.block) clean (sym c.in-Block.ensures.value) in
    subst (λ o. Steps c.read_inside.result o (state c.read_inside.new.self)) (inside_any s c.replace.new.dest c.in-Block.func c.in-Block.block c.args.line.now ∙ sym e) c.read_inside.ensures
