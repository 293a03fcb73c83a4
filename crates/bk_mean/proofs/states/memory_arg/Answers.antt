use Rattle.std.proofs.Common.{◌∙◌, ap}
use Rattle.bk_func.specs.Numbers.{origin_of, memory_arg}
use Rattle.bk_func.specs.Records.{ValueRecord}
use Rattle.bk_mean.proofs.Dated.{last_names}
use Rattle.bk_mean.proofs.states.memory_arg.Goals as goal

pub returns-in_default : goal.returns-in_default
returns-in_default c =
    last_names c.origin_of.result c.args.value.now c.last_memory.result c.in_default.not-Result c.last_memory.ensures ∙ ap (λ o. memory_arg o c.args.value.now) c.origin_of.ensures ∙ ap (λ (v : ValueRecord). memory_arg (origin_of v.op.family) c.args.value.now) c.value.view_is
