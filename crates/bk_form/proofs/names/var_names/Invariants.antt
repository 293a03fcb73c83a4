use Rattle.std.proofs.Common.{◌≡◌, ℕ, ◌<◌, ◌==◌, length, take, get_or, false}
use Rattle.std.specs.List.{list_any}
use Rattle.bk_form.proofs.names.var_names.Given as goal

abbrev pub invariant-loop-var : goal.invariant-loop-var
invariant-loop-var l = (length l.named.items ≡ l.names) × ((s : ℕ) → s < l.names → get_or l.named.items s false ≡ list_any (λ v. v.name == s) (take l.var-index l.vars))
