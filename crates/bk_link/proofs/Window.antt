-- The size of the data window.
use Rattle.std.proofs.Common.{◌≡◌, ap, ℕ, ◌-◌, ◌%◌, ◌≤◌, List, [], ◌∷◌, length, flat_map, replicate, sum_by, arith, length-append}
use Rattle.std.specs.List.{All}
use Rattle.std.proofs.lemmas.List.{length-replicate}
use Rattle.std.proofs.lemmas.List.Concat.{flat_map-cons}
use Rattle.std.proofs.lemmas.List.Elements.{All-head, All-tail}
use Rattle.std.proofs.lemmas.List.Sums.{sum_by-cons}
use Rattle.bk_func.specs.Records.{VarRecord}
use Rattle.bk_elf.specs.Layout.{aligned}
use Rattle.bk_link.specs.Conditions.{IsVar}
use Rattle.bk_link.specs.Linked.{var_bytes, window_of}

-- the window is as long as its variables up to multiples of 8
pub window_size : (vs : List VarRecord) → All IsVar vs → length (window_of vs) ≡ sum_by (λ v. aligned v.size) vs
window_size [] h = omega arith
window_size (v ∷ vs) h =
    let small : length v.bytes ≤ v.size = All-head IsVar v vs h in
    let rest = window_size vs (All-tail IsVar v vs h) in
    omega (arith, small, rest, ap length (flat_map-cons var_bytes v vs), length-append (var_bytes v) (flat_map var_bytes vs), length-append v.bytes (replicate {A = ℕ} (aligned v.size - length v.bytes) 0), length-replicate {A = ℕ} (aligned v.size - length v.bytes) 0, sum_by-cons (λ (v : VarRecord). aligned v.size) v vs)

pub whole_window : (vs : List VarRecord) → sum_by (λ v. aligned v.size) vs % 8 ≡ 0
whole_window [] = omega arith
whole_window (v ∷ vs) = omega (arith, whole_window vs, sum_by-cons (λ (v : VarRecord). aligned v.size) v vs)
