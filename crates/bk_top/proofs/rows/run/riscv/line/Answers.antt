use Rattle.std.proofs.Common.{◌≡◌, string_bytes, ap, ◌∙◌}
use Rattle.bk_rv_sim.specs.declared.machine.Machine.{Machine}
use Rattle.bk_elf.specs.Functions.{function_of}
use Rattle.bk_rv_sim.specs.Started.{IsStarted}
use Rattle.bk_rv_sim.specs.View.{view}
use Rattle.bk_top.specs.Outcomes.{seen_outcome}
use Rattle.bk_top.specs.Running.{riscv_line}
use Rattle.bk_top.proofs.Endings.{riscv_lined, some_also}
use Rattle.bk_top.proofs.rows.run.riscv.line.Goals as goal

pub returns : goal.returns
returns c =
    let image = c.args.image.now in
    let args = c.args.args.now in
    let first = c.in_ok-machine.machine in
    let last = c.run-stop.new.machine in
    let line = string_bytes c.in_ok-outcome_line.field-0 in
    some_also (λ f. IsStarted image f.0 f.1 args image.window c.args.stack first) (λ f. line ≡ riscv_line image f.0 f.1 args c.args.bound c.args.stack) (function_of image c.args.name.now)
    (λ f s.
    riscv_lined image f.0 f.1 last.sig args c.args.bound c.args.stack (view first) (view last) c.run-stop.result c.as_slice-types.result.now (seen_outcome c.in_ok-outcome.outcome) c.deref.result.now line
    s.state c.run-stop.ensures.state (c.run-stop.ensures.sig ∙ s.signature) (c.as_slice-types.ensures.value ∙ ap (λ (m : Machine). m.sig.results) c.machine.view_is) c.in_ok-outcome.ensures (c.deref.ensures.value ∙ ap (λ (m : Machine). m.window.items) c.machine.view_is) c.in_ok-outcome_line.ensures)
    c.in_ok-machine.ensures
