-- The lines of blocks, one block after the other.
use Rattle.std.proofs.Common.{◌≡◌, ◌∙◌, sym, refl, ap, subst, ℕ, zero, suc, ◌+◌, ◌<◌, ◌==◌, Bool, true, false, cond, if◌then◌else◌, List, [], ◌∷◌, ◌++◌, length, get_or, drop, Option, Some, append_assoc, length-append, arith}
use Rattle.std.proofs.Math.Seq.{drop-cons}
use Rattle.std.specs.BTreeMap.{is_at}
use Rattle.std.specs.List.{slice_get}
use Rattle.std.specs.Option.{unwrap_or, option_map}
use Rattle.std.specs.Ordering.{nat_cmp}
use Rattle.std.proofs.lemmas.Bool.Decides.{nat_tests}
use Rattle.bk_func.specs.Records.{PlacedBlockRecord}
use Rattle.bk_emit.specs.declared.blocks.Frame.{Frame}
use Rattle.bk_emit.specs.declared.lines.Line.{Line}
use Rattle.bk_emit.specs.Code.{first_id, block_lines, blocks_lines, function_lines, start_from, start_of}
use Rattle.bk_emit.specs.Forms.{Entry, Forms}
use Rattle.bk_emit.specs.Tables.{IsDrawn}

-- the number of the block at a place is the first behind the blocks before
pub first_dropped : (bs : List PlacedBlockRecord) (k : ℕ) → first_id (drop k bs) ≡ option_map (λ b. b.id) (slice_get bs k)
first_dropped [] zero = refl
first_dropped [] (suc k) = refl
first_dropped (b ∷ bs) zero = refl
first_dropped (b ∷ bs) (suc k) = first_dropped bs k

is_at_number : (x n : ℕ) → is_at (nat_cmp x) n ≡ (x == n)
is_at_number x n = grind (arith, nat_tests)

is_number : (x n : ℕ) → (x == n) ≡ true → x ≡ n
is_number x n h = grind (arith, nat_tests)

-- where a number begins once a block was seen
begun_more : (o p : Option ℕ) (same : Bool) (start at rest : ℕ) → (same ≡ true → start ≡ unwrap_or o at) → p ≡ cond same (Some start) o → unwrap_or p rest ≡ unwrap_or o (if same then at else rest)
begun_more o p true start at rest h q = ap (λ z. unwrap_or z rest) q ∙ h refl
begun_more o p false start at rest h q = ap (λ z. unwrap_or z rest) q

next_block : (bs : List PlacedBlockRecord) (k : ℕ) (b : PlacedBlockRecord) → k < length bs → b ≡ get_or bs k b → drop k bs ≡ b ∷ drop (k + 1) bs
next_block bs k b l i =
    let next : suc k ≡ k + 1 = omega arith in
    drop-cons bs k b l ∙ (ap (λ x. x ∷ drop (suc k) bs) (sym i) ∙ ap (λ j. b ∷ drop j bs) next)

step_lines : (m : Forms) (f : Frame) (e : ℕ → Option Entry) (b : PlacedBlockRecord) (rest bs : List PlacedBlockRecord) (ls new : List Line) → new ≡ ls ++ block_lines m f e b (first_id rest) → ls ++ blocks_lines m f e (b ∷ rest) ≡ function_lines m f e bs → new ++ blocks_lines m f e rest ≡ function_lines m f e bs
step_lines m f e b rest bs ls new d w =
    ap (λ x. x ++ blocks_lines m f e rest) d ∙ (append_assoc ls (block_lines m f e b (first_id rest)) (blocks_lines m f e rest) ∙ w)

step_begun : (m : Forms) (f : Frame) (e : ℕ → Option Entry) (b : PlacedBlockRecord) (rest bs : List PlacedBlockRecord) (ls new : List Line) (starts more : ℕ → Option ℕ) (start n : ℕ) → new ≡ ls ++ block_lines m f e b (first_id rest) → start ≡ unwrap_or (starts b.id) (length ls) → more n ≡ cond (is_at (nat_cmp b.id) n) (Some start) (starts n) → unwrap_or (starts n) (start_from m f e n (b ∷ rest) (length ls)) ≡ start_of m f e bs n → unwrap_or (more n) (start_from m f e n rest (length new)) ≡ start_of m f e bs n
step_begun m f e b rest bs ls new starts more start n d s t w =
    let long : length new ≡ length ls + length (block_lines m f e b (first_id rest)) = ap length d ∙ length-append ls (block_lines m f e b (first_id rest)) in
    let test : more n ≡ cond (b.id == n) (Some start) (starts n) = t ∙ ap (λ x. cond x (Some start) (starts n)) (is_at_number b.id n) in
    let r : ℕ = start_from m f e n rest (length ls + length (block_lines m f e b (first_id rest))) in
    let is : unwrap_or (more n) r ≡ unwrap_or (starts n) (if b.id == n then length ls else r) =
    begun_more (starts n) (more n) (b.id == n) start (length ls) r (λ h. s ∙ ap (λ x. unwrap_or (starts x) (length ls)) (is_number b.id n h)) test in
    ap (λ x. unwrap_or (more n) (start_from m f e n rest x)) long ∙ (is ∙ w)

-- one more block is drawn
drawn_step : (m : Forms) (f : Frame) (e : ℕ → Option Entry) (bs : List PlacedBlockRecord) (k : ℕ) (ls new : List Line) (starts more : ℕ → Option ℕ) (b : PlacedBlockRecord) (next : Option ℕ) (start : ℕ) → k < length bs → b ≡ get_or bs k b → next ≡ option_map (λ c. c.id) (slice_get bs (k + 1)) → start ≡ unwrap_or (starts b.id) (length ls) → ((n : ℕ) → more n ≡ cond (is_at (nat_cmp b.id) n) (Some start) (starts n)) → new ≡ ls ++ block_lines m f e b next → IsDrawn m f e bs k ls starts → IsDrawn m f e bs (k + 1) new more
drawn_step m f e bs k ls new starts more b next start l i h s t d w =
    let behind : drop k bs ≡ b ∷ drop (k + 1) bs = next_block bs k b l i in
    let first : next ≡ first_id (drop (k + 1) bs) = h ∙ sym (first_dropped bs (k + 1)) in
    let put : new ≡ ls ++ block_lines m f e b (first_id (drop (k + 1) bs)) = d ∙ ap (λ x. ls ++ block_lines m f e b x) first in
    record {
      lines = step_lines m f e b (drop (k + 1) bs) bs ls new put (subst (λ xs. ls ++ blocks_lines m f e xs ≡ function_lines m f e bs) behind w.lines);
      begun = λ n. step_begun m f e b (drop (k + 1) bs) bs ls new starts more start n put s (t n) (subst (λ xs. unwrap_or (starts n) (start_from m f e n xs (length ls)) ≡ start_of m f e bs n) behind (w.begun n));
    }

-- the same, with the block's number and the count of lines as the code has them
pub drawn_step_as : (m : Forms) (f : Frame) (e : ℕ → Option Entry) (bs : List PlacedBlockRecord) (k : ℕ) (ls new : List Line) (starts more : ℕ → Option ℕ) (b : PlacedBlockRecord) (next : Option ℕ) (start id count : ℕ) → id ≡ b.id → count ≡ length ls → k < length bs → b ≡ get_or bs k b → next ≡ option_map (λ c. c.id) (slice_get bs (k + 1)) → start ≡ unwrap_or (starts id) count → ((n : ℕ) → more n ≡ cond (is_at (nat_cmp id) n) (Some start) (starts n)) → new ≡ ls ++ block_lines m f e b next → IsDrawn m f e bs k ls starts → IsDrawn m f e bs (k + 1) new more
drawn_step_as m f e bs k ls new starts more b next start id count o c l i h s t d w =
    drawn_step m f e bs k ls new starts more b next start l i h (s ∙ (ap (λ x. unwrap_or (starts x) count) o ∙ ap (λ x. unwrap_or (starts b.id) x) c)) (λ n. t n ∙ ap (λ x. cond (is_at (nat_cmp x) n) (Some start) (starts n)) o) d w
