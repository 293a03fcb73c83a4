use Rattle.std.proofs.Common.{◌∙◌, ◌<◌, ◌+◌, ◌≤◌, sym, refl, ap, subst, ℕ, List, Option, None, length, get_or, set, arith}
use Rattle.std.proofs.lemmas.List.{get_or_read}
use Rattle.bk_live.proofs.Clearing.{Forgotten, forgotten_none, forgotten_more, forgotten_all}
use Rattle.bk_live.proofs.search.Search.clear.Goals as goal

pub loop-index-init : goal.loop-index-init
loop-index-init c = record { same = refl; queue = refl; forgotten = forgotten_none c.args.self.now.distances.items c.args.self.now.reached.items }

pub loop-index-preserved : goal.loop-index-preserved
loop-index-preserved c =
    let ls = c.args.self.now.distances.items in
    let xs = c.args.self.now.reached.items in
    let i = c.loop-index.index in
    let same = c.loop-index.invariant.same in
    let within : i < length xs = omega (arith, ap length same) in
    let inside : i < length c.loop-index.self.reached.items = omega (arith, ap length same) in
    let here = get_or_read c.loop-index.self.reached.items i c.index-place.result.now inside c.index-place.ensures 0 in
    record {
      same = c.forget.ensures.reached ∙ same;
      queue = c.forget.ensures.queue ∙ c.loop-index.invariant.queue;
      forgotten = subst (λ (ms : List (Option ℕ)). Forgotten ls xs (i + 1) ms)
          (sym (c.forget.ensures.distances ∙ ap (λ k. set c.loop-index.self.distances.items k None) (here ∙ ap (λ us. get_or us i 0) same)))
          (forgotten_more ls xs i c.loop-index.self.distances.items within c.loop-index.invariant.forgotten);
    }

pub returns : goal.returns
returns c =
    let over : length c.args.self.now.reached.items ≤ c.loop-index.index = omega (arith, ap length c.loop-index.invariant.same) in
    record {
      distances = forgotten_all c.args.self.now.distances.items c.args.self.now.reached.items c.loop-index.index c.loop-index.self.distances.items c.requires.marks over
          c.loop-index.invariant.forgotten;
      reached = c.clear.ensures.items;
      queue = c.loop-index.invariant.queue ∙ c.requires.queue;
    }
