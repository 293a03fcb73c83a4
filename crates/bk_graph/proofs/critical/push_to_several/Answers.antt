use Rattle.std.proofs.Common.{◌≡◌, ◌∙◌, sym, ap, ℕ, ◌+◌, ◌<◌, ◌==◌, Bool, if◌then◌else◌, List, [], ◌∷◌, ◌++◌, length, get_or, take, append_assoc, arith}
use Rattle.std.specs.List.{find}
use Rattle.bk_func.specs.Records.{BlockRecord}
use Rattle.bk_graph.specs.Critical.{EdgeRecord, has_several, edge_at, edges_from}
use Rattle.bk_graph.proofs.Splitting.{edges_more}
use Rattle.bk_graph.proofs.critical.push_to_several.Goals as goal

several_more : (bs : List BlockRecord) (from i : ℕ) (ns : List ℕ) (es ds cs : List EdgeRecord) (t : Bool) → i < length ns
    → ds ≡ es ++ edges_from bs from 0 (take i ns) → t ≡ has_several (find (λ b. b.id == get_or ns i 0) bs)
    → cs ≡ ds ++ (if t then edge_at from i ∷ [] else []) → cs ≡ es ++ edges_from bs from 0 (take (i + 1) ns)
several_more bs from i ns es ds cs t l before is after =
    after ∙ ap (λ xs. xs ++ (if t then edge_at from i ∷ [] else [])) before
    ∙ ap (λ (u : Bool). (es ++ edges_from bs from 0 (take i ns)) ++ (if u then edge_at from i ∷ [] else [])) is
    ∙ append_assoc es (edges_from bs from 0 (take i ns)) (if has_several (find (λ b. b.id == get_or ns i 0) bs) then edge_at from i ∷ [] else [])
    ∙ ap (λ xs. es ++ xs) (sym (edges_more bs from i ns l))

pub loop-index-preserved : goal.loop-index-preserved
loop-index-preserved c =
    several_more c.args.blocks.now c.args.from c.loop-index.index c.args.succs.now c.args.edges.now.items c.loop-index.edges.items c.push_if.new.edges.items
    c.has_several-is_critical.result (omega arith) c.loop-index.invariant (c.has_several-is_critical.ensures ∙ ap has_several c.block_named.ensures)
    c.in_ok-push_if.ensures
