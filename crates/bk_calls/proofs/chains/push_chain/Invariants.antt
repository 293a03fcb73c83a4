use Rattle.std.proofs.Common.{◌≡◌, ◌+◌, ◌++◌, drop}
use Rattle.bk_calls.specs.Chains.{chain, memory_after}
use Rattle.bk_calls.proofs.chains.push_chain.Given as goal

abbrev pub invariant-loop-number : goal.invariant-loop-number
invariant-loop-number l = record {
  made : l.made.items ++ chain l.family l.link.number l.link.word l.link.memory (drop l.number-index l.numbers)
      ≡ l.initial.made.items ++ chain l.family l.fn.first.number l.fn.first.word l.fn.first.memory l.numbers;
  number : l.link.number ≡ l.fn.first.number + l.number-index;
  word : l.link.word ≡ l.fn.first.word + l.number-index;
  memory : memory_after l.link.number l.link.memory (drop l.number-index l.numbers) ≡ memory_after l.fn.first.number l.fn.first.memory l.numbers;
}
