use Rattle.std.proofs.Common.{rules, ◌≡◌, ◌∙◌, ap, true, Bool, sym}
use Rattle.std.specs.Prelude.{if◌then◌else◌, None}
use Rattle.std.specs.List.{last_or}
use Rattle.bk_ops.specs.Table.{info_of}
use Rattle.bk_mean.proofs.Dated.{last_is}
use Rattle.bk_mean.proofs.states.last_memory.Goals as goal

pub returns-then-op_info : goal.returns-then-op_info
returns-then-op_info c =
    let m : (info_of c.args.value.now.op).memory ≡ true = search rules in
    let l : c.copied.result ≡ last_or None c.args.value.now.args = search (rules, last_is c.args.value.now.args) in
    l ∙ ap (λ (b : Bool). if b then last_or None c.args.value.now.args else None) (sym m)
