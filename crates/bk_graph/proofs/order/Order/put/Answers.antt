use Rattle.std.proofs.Common.{◌≡◌, ◌∙◌, sym, refl, ap, ℕ, ◌||◌, Bool, true, List, [], ◌∷◌, ◌++◌, length, get_or, set, Option, Some, None, option_map, length-set}
use Rattle.std.specs.BTreeSet.{contains}
use Rattle.std.specs.List.{list_any, slice_get, last_or}
use Rattle.std.specs.Ordering.{nat_cmp}
use Rattle.std.proofs.lemmas.Option.{slice_get_read}
use Rattle.bk_func.specs.Records.{BlockRecord, FuncRecord}
use Rattle.bk_graph.specs.Layout.{is_placed, block_named, onward}
use Rattle.bk_graph.specs.Placing.{names, unplaced_in, ready_at}
use Rattle.bk_graph.proofs.Putting.{marks_put, ready_put, last_put}
use Rattle.bk_graph.proofs.order.Order.put.Goals as goal

pub returns : goal.returns
returns c =
    let o = c.args.self.now in
    let h = c.requires.order in
    let f : FuncRecord = o.func.now in
    let p : ℕ = c.args.place in
    let a : BlockRecord = c.index-block.result.now in
    let N : List ℕ = o.numbers.items in
    let ps : List Bool = o.placed.items in
    let e : slice_get f.blocks p ≡ Some a =
    slice_get_read f.blocks (length f.blocks) p a refl c.requires.within
    (c.index-block.ensures ∙ ap (λ (bs : List BlockRecord). get_or bs p a) (ap (λ (x : FuncRecord). x.blocks) c.func.view_is)) in
    let numbers : c.push.new.self.items ≡ N ++ a.id ∷ [] = c.in_ok-push.ensures.items ∙ ap (λ (k : ℕ). N ++ k ∷ []) (ap (λ (x : BlockRecord). x.id) c.block.view_is) in
    let added : List Bool → List ℕ → ℕ → Bool = λ xs ss q. list_any (λ s. names q (unplaced_in o.places.now xs s)) ss in
    let notes : (q : ℕ) → contains nat_cmp c.note_all.new.ready q ≡ (contains nat_cmp c.remove.new.self q || added (set ps p true) a.succs q) = λ q.
    c.in_ok-note_all.ensures q
    ∙ ap (λ (xs : List Bool). contains nat_cmp c.remove.new.self q || added xs c.deref-2.result.now q) c.deref.ensures.value
    ∙ ap (λ (ss : List ℕ). contains nat_cmp c.remove.new.self q || added (set ps p true) ss q) (c.deref-2.ensures.value ∙ ap (λ (x : BlockRecord). x.succs) c.block.view_is) in
    record {
      order = record {
        given = h.given;
        firsts = h.firsts;
        size = length-set ps p true ∙ h.size;
        placed = λ q b i. marks_put f h.given N ps p a e h.size h.placed q b i ∙ ap (λ (ns : List ℕ). is_placed ns b.id) (sym numbers);
        ready = λ q.
            ready_put f h.given o.places.now h.firsts N ps p a e h.size h.placed q (contains nat_cmp o.ready q) (contains nat_cmp c.remove.new.self q)
            (contains nat_cmp c.note_all.new.ready q) (h.ready q) (c.remove.ensures.updates.0 q) (notes q)
            ∙ ap (λ (ns : List ℕ). ready_at ns (slice_get f.blocks q)) (sym numbers);
        last = last_put f h.given N p a e ∙ ap (λ (ns : List ℕ). block_named f (last_or None ns)) (sym numbers);
      };
      func = refl;
      numbers = numbers ∙ sym (ap (λ (x : Option BlockRecord). onward (option_map (λ (b : BlockRecord). b.id) x) N (λ ns. ns)) e);
    }
