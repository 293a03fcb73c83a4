-- The bytes of the arguments' cells.
use Rattle.std.proofs.Common.{◌≡◌, ℕ, zero, suc, ◌+◌, ◌-◌, ◌*◌, List, ◌++◌, length, take, drop, ap, ◌∙◌, sym, refl, arith, append_assoc, length-drop}
use Rattle.std.specs.Prelude.{replicate, min}
use Rattle.std.proofs.lemmas.List.{replicate-append-replicate, drop_min, take_all}
use Rattle.bk_num.specs.Bytes.{bytes, each_bytes}
use Rattle.bk_rv_isa.specs.Machine.{argument_words}

no_bytes : bytes 8 0 ≡ replicate 8 0
unfolding bytes
no_bytes = refl

zero_words : (k : ℕ) (ns : List ℕ) → each_bytes 8 (replicate k 0 ++ ns) ≡ replicate (8 * k) 0 ++ each_bytes 8 ns
zero_words zero ns = refl
zero_words (suc k) ns =
    let z : List ℕ = replicate (8 * k) 0 in
    let e : 8 + 8 * k ≡ 8 * suc k = omega arith in
    ap (λ l. l ++ each_bytes 8 (replicate k 0 ++ ns)) no_bytes
    ∙ ap (λ l. replicate 8 0 ++ l) (zero_words k ns)
    ∙ sym (append_assoc (replicate 8 0) z (each_bytes 8 ns))
    ∙ ap (λ l. l ++ each_bytes 8 ns) (replicate-append-replicate 8 (8 * k) 0 ∙ ap (λ n. replicate n 0) e)

-- zeros for the cells of the arguments in registers, and the words of the others
pub cells_bytes : (args : List ℕ) → replicate (8 * min 8 (length args)) 0 ++ each_bytes 8 (drop (min 8 (length args)) args) ≡ argument_words args
cells_bytes args = ap (λ l. replicate (8 * min 8 (length args)) 0 ++ each_bytes 8 l) (drop_min 8 args) ∙ sym (zero_words (min 8 (length args)) (drop 8 args))

-- cells behind what stands there, step by step
pub pushed : (old grown new args : List ℕ) (low n count : ℕ) → low ≡ min (length args) 8 → count ≡ length old → n ≡ count + 8 * low → grown ≡ take n old ++ replicate (n - count) 0 → new ≡ grown ++ each_bytes 8 (take (length args - low) (drop low args)) → new ≡ old ++ argument_words args
pushed old grown new args low n count l k e g h =
    let t : take n old ≡ old = take_all n old (omega arith) in
    let d : n - count ≡ 8 * low = omega arith in
    let m : low ≡ min 8 (length args) = omega arith in
    let r : take (length args - low) (drop low args) ≡ drop low args = take_all (length args - low) (drop low args) (omega (arith, length-drop low args)) in
    h
    ∙ ap (λ x. grown ++ each_bytes 8 x) r
    ∙ ap (λ x. x ++ each_bytes 8 (drop low args)) (g ∙ ap (λ x. x ++ replicate (n - count) 0) t ∙ ap (λ i. old ++ replicate i 0) d)
    ∙ append_assoc old (replicate (8 * low) 0) (each_bytes 8 (drop low args))
    ∙ ap (λ i. old ++ (replicate (8 * i) 0 ++ each_bytes 8 (drop i args))) m
    ∙ ap (λ x. old ++ x) (cells_bytes args)
