-- the calls of the values so far
use Rattle.std.proofs.Common.{ℕ, Bool, ◌||◌, take}
use Rattle.std.specs.List.{list_any}
use Rattle.bk_alloc.specs.Outgoing.{AreMost, is_call_of}
use Rattle.bk_alloc.proofs.outgoing.take_calls.Given as goal

abbrev pub invariant-loop-value : goal.invariant-loop-value
invariant-loop-value l =
    (called : ℕ → Bool) → AreMost l.target called l.pkg.funcs l.initial.most → AreMost l.target (λ s. called s || list_any (is_call_of s) (take l.value-index l.values)) l.pkg.funcs l.most
