-- Blocks in form by their places: each number has one place, and predecessors and successors agree.
use Rattle.std.proofs.Common.{◌≡◌, ◌∙◌, ap, ℕ, ◌<◌, ◌==◌, Bool, true, List, length, get_or, Some, ⊎_elim, arith, position}
use Rattle.std.specs.List.{list_any, position_or_len, count_by, slice_get}
use Rattle.std.proofs.lemmas.Bool.{cases_order, eq-eqb, lt-ltb}
use Rattle.std.proofs.lemmas.List.Sums.{passes_at_first}
use Rattle.std.proofs.lemmas.Option.{slice_get_within, get_or_from_slice_get}
use Rattle.bk_func.specs.Records.{BlockRecord, FuncRecord}
use Rattle.bk_func.specs.Form.Text.{HasBlock}
use Rattle.bk_graph.specs.Joined.{IsJoined}
use Rattle.bk_graph.specs.Named.{block_ids}
use Rattle.bk_graph.proofs.Crossing.{counted_once}
use Rattle.bk_graph.proofs.Listed.{two_counted, counted_at, position-map}

pub once : (f : FuncRecord) → IsJoined f → (b : BlockRecord) → HasBlock f b → count_by (λ c. c.id == b.id) f.blocks ≡ 1
once f g b h = counted_once f b.id (g.own b h)

-- the number of a block has the block's place
pub place_sole : (f : FuncRecord) → IsJoined f → (b : BlockRecord) (k : ℕ) → slice_get f.blocks k ≡ Some b → position (λ x. x == b.id) (block_ids f.blocks) ≡ Some k
place_sole f g b k e =
    let bs : List BlockRecord = f.blocks in
    let p : BlockRecord → Bool = λ c. c.id == b.id in
    let q : ℕ = position_or_len p bs in
    let l : k < length bs = slice_get_within bs k b e in
    let r : get_or bs k b ≡ b = get_or_from_slice_get bs k b b e in
    let one : count_by p bs ≡ 1 = once f g b (k, l, r) in
    let within : q < length bs = counted_at p bs (omega arith) in
    let found = passes_at_first p bs b within in
    let own : p (get_or bs k b) ≡ true = eq-eqb (get_or bs k b).id b.id (ap (λ (c : BlockRecord). c.id) r) in
    let same : q ≡ k = ⊎_elim (λ (s : q ≡ k). s) (λ apart. ⊎_elim
    (λ (below : q < k). let t = two_counted p bs q k b below l found own in absurd (omega arith))
    (λ (above : k < q). let t = two_counted p bs k q b above within own found in absurd (omega arith))
    apart)
    (cases_order q k) in
    position-map (λ (c : BlockRecord). c.id) (λ x. x == b.id) bs ∙ (rw (lt-ltb q (length bs) within) (ap Some same))

-- a block is among the predecessors of its successors alone
pub edges_agree : (f : FuncRecord) → IsJoined f → (a b : BlockRecord) → HasBlock f a → HasBlock f b
    → list_any (λ m. m == a.id) b.preds ≡ list_any (λ n. n == b.id) a.succs
edges_agree f g a b i j = g.agree a b i j
