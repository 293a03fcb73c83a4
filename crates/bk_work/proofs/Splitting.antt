-- A block on an edge has no values, so it brings no keys.
use Rattle.std.proofs.Common.{◌≡◌, ℕ, ◌+◌, ◌==◌, Bool, true, false, cond, List, [], ◌∷◌, ◌++◌, refl, sym, ap, ◌∙◌}
use Rattle.std.specs.List.{filter_map, flat_map}
use Rattle.std.proofs.lemmas.Grind.{flat_map-append}
use Rattle.std.proofs.lemmas.List.{append-nil}
use Rattle.std.proofs.lemmas.List.Concat.{flat_map-cons}
use Rattle.bk_func.specs.Edits.{between, block_of, change_block, greatest_block, rank_in, split, successor_in, with_pred, with_succ}
use Rattle.bk_func.specs.Records.{BlockRecord, FuncRecord}
use Rattle.bk_fixup.specs.Keys.{block_keys, keys_of, type_key}
use Rattle.bk_graph.specs.Critical.{EdgeRecord, critical_edges, split_each, without_critical}
use Rattle.bk_piece.specs.declared.Key.{Key}

-- a change that keeps a block's values keeps its keys
changed : (n : ℕ) (F : BlockRecord → BlockRecord) (bs : List BlockRecord) → ((b : BlockRecord) → block_keys (F b) ≡ block_keys b) → flat_map block_keys (change_block n F bs) ≡ flat_map block_keys bs
unfolding change_block
changed n F [] same = refl
changed n F (b ∷ bs) same = by (changed n F bs same) (b.id == n)
  where
    by : flat_map block_keys (change_block n F bs) ≡ flat_map block_keys bs → (x : Bool) → flat_map block_keys (cond x (F b ∷ bs) (b ∷ change_block n F bs)) ≡ flat_map block_keys (b ∷ bs)
    by rest true = flat_map-cons block_keys (F b) bs ∙ (ap (λ (ks : List Key). ks ++ flat_map block_keys bs) (same b) ∙ sym (flat_map-cons block_keys b bs))
    by rest false = flat_map-cons block_keys b (change_block n F bs) ∙ (ap (λ (ks : List Key). block_keys b ++ ks) rest ∙ sym (flat_map-cons block_keys b bs))

split_keys : (f : FuncRecord) (from index : ℕ) → keys_of (split f from index) ≡ keys_of f
split_keys f from index =
    let id = greatest_block f + 1 in
    let to = successor_in (block_of f from) index in
    let k = rank_in (block_of f from) index in
    let inner = change_block from (with_succ index id) f.blocks in
    let outer = change_block to (with_pred from id k) inner in
    let values : flat_map block_keys (outer ++ between id from to ∷ []) ≡ flat_map block_keys f.blocks =
    flat_map-append block_keys outer (between id from to ∷ [])
    ∙ (append-nil (flat_map block_keys outer) ∙ (changed to (with_pred from id k) inner (λ b. refl) ∙ changed from (with_succ index id) f.blocks (λ b. refl))) in
    ap (λ (ks : List Key). ks ++ (filter_map type_key f.sig.args ++ filter_map type_key f.sig.results)) values

each_split : (f : FuncRecord) (es : List EdgeRecord) → keys_of (split_each f es) ≡ keys_of f
unfolding split_each
each_split f [] = refl
each_split f (e ∷ es) = each_split (split f e.from e.index) es ∙ split_keys f e.from e.index

pub critical_keys : (f : FuncRecord) → keys_of (without_critical f) ≡ keys_of f
critical_keys f = each_split f (critical_edges f)
