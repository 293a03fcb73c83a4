use Rattle.std.proofs.Common.{◌≡◌, ◌++◌, drop}
use Rattle.bk_num.specs.Bytes.{each_bytes}
use Rattle.bk_num.proofs.windows.push_each.Given as goal

abbrev pub invariant-loop-n : goal.invariant-loop-n
invariant-loop-n l = l.out.items ++ each_bytes l.size (drop l.n-index l.numbers) ≡ l.initial.out.items ++ each_bytes l.size l.numbers
