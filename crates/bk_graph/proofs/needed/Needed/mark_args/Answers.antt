use Rattle.std.proofs.Common.{◌≡◌, ◌∙◌, sym, ap, ℕ, Bool, List, Some, get_or, arith}
use Rattle.std.specs.Prelude.{slice_get}
use Rattle.bk_graph.specs.declared.settled.Settled.{Settled}
use Rattle.bk_graph.specs.Marks.{IsArgDone}
use Rattle.bk_graph.specs.Reads.{facts, tables_in}
use Rattle.bk_graph.specs.Tables.{args_of}
use Rattle.bk_graph.proofs.Marking.{arg_done, get_at}
use Rattle.bk_graph.proofs.Sweeping.{swept}
use Rattle.bk_graph.proofs.needed.Needed.mark_args.Goals as goal

pub mark_arg-more-requires-clause-arg : goal.mark_arg-more-requires-clause-arg
mark_arg-more-requires-clause-arg c =
    let k = c.loop-index.index in
    let a = get_or c.args_of-args.result.now k 0 in
    let own = ap (λ (s : Settled). args_of (tables_in s) c.args.place) c.loop-index.invariant.settled in
    ap (λ (xs : List ℕ). slice_get xs k) (own ∙ sym c.args_of-args.ensures) ∙ get_at c.args_of-args.result.now k (omega arith)

pub loop-index-preserved : goal.loop-index-preserved
loop-index-preserved c =
    let u = c.loop-index.self.settled.now in
    let p = c.args.place in
    let k = c.loop-index.index in
    let xs = c.args_of-args.result.now in
    let own = ap (λ (s : Settled). args_of (tables_in s) p) c.loop-index.invariant.settled in
    let at : slice_get (args_of (tables_in u) p) k ≡ Some (get_or xs k 0) = ap (λ (ys : List ℕ). slice_get ys k) (own ∙ sym c.args_of-args.ensures) ∙ get_at xs k (omega arith) in
    record {
      settled = c.mark_arg-more.ensures.settled ∙ c.loop-index.invariant.settled;
      marks = c.mark_arg-more.ensures.marks;
      needed = c.mark_arg-more.ensures.needed;
      none = swept (λ (s : Settled) (m : List Bool) (i : ℕ). IsArgDone (tables_in s) (facts s) m p i) c.args.self.now.settled.now u c.args.self.now.needed.items
          c.loop-index.self.needed.items c.mark_arg-more.new.self.needed.items k c.loop-index.changed c.mark_arg-more.result c.either-changed.result c.loop-index.invariant.settled
          c.loop-index.invariant.none
          (λ e. let r = c.mark_arg-more.ensures.none e in (r.0, arg_done (tables_in u) (facts u) c.loop-index.self.needed.items p k (get_or xs k 0) at r.1)) c.either-changed.ensures;
    }
