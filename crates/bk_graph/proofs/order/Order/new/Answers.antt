use Rattle.std.proofs.Common.{◌≡◌, ◌∙◌, sym, ap, ℕ, Bool, true, false, List, [], length, get_or, replicate, None}
use Rattle.std.proofs.lemmas.List.{length-replicate}
use Rattle.std.specs.BTreeMap.{is_at}
use Rattle.std.specs.List.{list_any, slice_get, last_or}
use Rattle.std.specs.Ordering.{nat_cmp}
use Rattle.bk_func.specs.Records.{FuncRecord}
use Rattle.bk_graph.specs.Layout.{is_placed, block_named}
use Rattle.bk_graph.specs.Placing.{ready_at}
use Rattle.bk_graph.proofs.Putting.{marks_none, ready_none}
use Rattle.bk_graph.proofs.order.Order.new.Goals as goal

pub returns-clause-order : goal.returns-clause-order
returns-clause-order c =
    let f : FuncRecord = c.args.func.now in
    let count : c.len.result ≡ length f.blocks = c.len.ensures ∙ c.func.inside.blocks.ok.0 ∙ ap (λ (x : FuncRecord). length x.blocks) c.func.view_is in
    let marks : c.in_ok-vec.field-0.items ≡ replicate (length f.blocks) false =
    c.in_ok-vec.ensures.items_if_clones_equal (λ y k. k) ∙ ap (λ (n : ℕ). replicate n false) count in
    let empty : c.in_ok-with_capacity.field-0.items ≡ [] = c.in_ok-with_capacity.ensures.items in
    record {
      given = c.requires.given;
      firsts = c.requires.firsts;
      size = ap (λ (xs : List Bool). length xs) marks ∙ length-replicate (length f.blocks) false;
      placed = λ q b e. ap (λ (xs : List Bool). get_or xs q true) marks ∙ marks_none f q b e ∙ ap (λ (ns : List ℕ). is_placed ns b.id) (sym empty);
      ready = λ q.
          ap (λ (ks : List ℕ). list_any (is_at (nat_cmp q)) ks) c.new.ensures.empty ∙ ready_none (slice_get f.blocks q)
          ∙ ap (λ (ns : List ℕ). ready_at ns (slice_get f.blocks q)) (sym empty);
      last = ap (λ (ns : List ℕ). block_named f (last_or None ns)) (sym empty);
    }
