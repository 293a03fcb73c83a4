use Rattle.std.proofs.Common.{◌≡◌, vec_len}
use Rattle.bk_mean.specs.declared.turn.Next.{Next}
use Rattle.bk_mean.specs.Running.{Held, held, Advanced}
use Rattle.bk_mean.proofs.machine.Machine.advance.Given as goal

abbrev pub invariant-loop-call : goal.invariant-loop-call
invariant-loop-call l = record {
  target : l.self.target ≡ l.initial.self.target;
  onward : (e : Held) (x : Next) → Advanced l.initial.self.target l.pkg l.readies (held l.self) e x → Advanced l.initial.self.target l.pkg l.readies (held l.initial.self) e x;
}

abbrev pub decreases-loop-call : goal.decreases-loop-call
decreases-loop-call l = vec_len l.self.calls
