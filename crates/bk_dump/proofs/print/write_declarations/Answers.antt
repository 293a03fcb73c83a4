use Rattle.std.proofs.Common.{ap, ◌∙◌, string_bytes}
use Rattle.bk_func.specs.Records.{FuncRecord, PackageRecord}
use Rattle.bk_dump.specs.Print.{before, text_of}
use Rattle.bk_dump.proofs.Declared.{next_declared, last_declared}
use Rattle.bk_dump.proofs.print.write_declarations.Goals as goal

pub loop-func-preserved : goal.loop-func-preserved
loop-func-preserved c =
    next_declared c.args.pkg.now c.func-item.result c.args.pkg.now.funcs c.deref-func-items.result.now c.loop-func.vars.now c.split_at.result.0.now c.split_at.result.1.now c.loop-func.func-index c.count_before.result (string_bytes c.loop-func.out) (string_bytes c.write_variables.new.out) (string_bytes c.write_function.new.out) _
    (c.deref-func-items.ensures.value ∙ ap (λ (p : PackageRecord). p.funcs) c.pkg.view_is) c.loop-func-test.true c.func-item.is (c.count_before.ensures.count ∙ ap (λ (f : FuncRecord). before f.name c.loop-func.vars.now) c.func.view_is) c.split_at.ensures.front c.split_at.ensures.back c.in_ok-write_variables.ensures c.in_ok-write_function.ensures c.loop-func.invariant

pub returns : goal.returns
unfolding text_of
returns c =
    last_declared c.args.pkg.now c.args.pkg.now.funcs c.deref-func-items.result.now c.loop-func.vars.now c.loop-func.func-index (string_bytes c.loop-func.out) (string_bytes c.write_variables-2.new.out) _
    (c.deref-func-items.ensures.value ∙ ap (λ (p : PackageRecord). p.funcs) c.pkg.view_is) c.loop-func-test.false c.in_ok-write_variables-2.ensures c.loop-func.invariant
