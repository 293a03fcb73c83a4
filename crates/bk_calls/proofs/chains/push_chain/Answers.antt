use Rattle.std.proofs.Common.{◌++◌, arith}
use Rattle.bk_calls.specs.Chains.{chain, memory_after}
use Rattle.bk_calls.proofs.Linked.{chain_next, chain_all, memory_next, memory_all}
use Rattle.bk_calls.proofs.chains.push_chain.Goals as goal

pub loop-number-preserved : goal.loop-number-preserved
loop-number-preserved c =
    let o = c.args.family in
    let xs = c.args.numbers.now in
    let i = c.loop-number.number-index in
    let a = c.loop-number.link in
    let b = c.in_ok-link.link in
    let is = c.in_ok-link.ensures in
    let first = c.args.first in
    record {
      made = chain_next o xs i a.number a.word a.memory b.number b.word b.memory c.loop-number.made.items c.push_word.new.made.items
          (c.args.made.now.items ++ chain o first.number first.word first.memory xs) (omega arith) is.number is.word is.memory is.made c.loop-number.invariant.made;
      number = omega (arith, is.number, c.loop-number.invariant.number);
      word = omega (arith, is.word, c.loop-number.invariant.word);
      memory = memory_next xs i a.number a.memory b.number b.memory (memory_after first.number first.memory xs) (omega arith) is.number is.memory c.loop-number.invariant.memory;
    }

pub returns-clause-made : goal.returns-clause-made
returns-clause-made c =
    let a = c.loop-number.link in
    let first = c.args.first in
    chain_all c.args.family c.args.numbers.now c.loop-number.number-index a.number a.word a.memory c.loop-number.made.items
    (c.args.made.now.items ++ chain c.args.family first.number first.word first.memory c.args.numbers.now) (omega arith) c.loop-number.invariant.made

pub returns-clause-memory : goal.returns-clause-memory
returns-clause-memory c =
    let a = c.loop-number.link in
    let first = c.args.first in
    memory_all c.args.numbers.now c.loop-number.number-index a.number a.memory (memory_after first.number first.memory c.args.numbers.now) (omega arith)
    c.loop-number.invariant.memory
