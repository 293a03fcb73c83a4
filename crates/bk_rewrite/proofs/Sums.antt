-- The count of a function's values, block by block; it stays at the greatest number of 64 bits.
use Rattle.std.proofs.Common.{◌≡◌, ℕ, ◌+◌, ◌-◌, ◌<◌, ◌≤◌, min, ap, sym, ◌∙◌, arith, List, ◌∷◌, length, get_or, drop, sum_by, [], zero-add}
use Rattle.std.proofs.lemmas.List.Sums.{sum_by-append}
use Rattle.std.proofs.lemmas.List.{drop_more, drop_all}
use Rattle.bk_func.specs.Records.{BlockRecord}

abbrev total : List BlockRecord → ℕ
total bs = sum_by (λ (b : BlockRecord). length b.values) bs

pub count_step : (bs : List BlockRecord) (i c d all : ℕ) (x : BlockRecord) → min (c + total (drop i bs)) 18446744073709551615 ≡ min all 18446744073709551615 → i < length bs →
    x ≡ get_or bs i x → d ≡ min (c + length x.values) 18446744073709551615 → min (d + total (drop (i + 1) bs)) 18446744073709551615 ≡ min all 18446744073709551615
count_step bs i c d all x h l e k =
    let q : total (drop i bs) ≡ length x.values + total (drop (i + 1) bs) = ap total (drop_more bs i x l ∙ ap (λ y. y ∷ drop (i + 1) bs) (sym e))
    ∙ (sum_by-append (λ (b : BlockRecord). length b.values) (x ∷ []) (drop (i + 1) bs) ∙ ap (λ k. k + total (drop (i + 1) bs)) (zero-add (length x.values))) in
    omega (arith, h, q, k)

pub count_end : (bs : List BlockRecord) (i c : ℕ) → min (c + total (drop i bs)) 18446744073709551615 ≡ min (total bs) 18446744073709551615 → length bs ≤ i →
    32768 - c ≡ 32768 - total bs
count_end bs i c h l = omega (arith, h, ap total (drop_all i bs l))
