-- The branches among lines stand in the order of their places.
use Rattle.std.proofs.Common.{◌≡◌, sym, refl, subst, true, false, ℕ, zero, suc, ◌+◌, ◌<◌, ◌≤◌, List, [], ◌∷◌, length, arith}
use Rattle.bk_fixup.specs.declared.sizes.Branch.{Branch}
use Rattle.bk_fixup.specs.Sizes.{branch_at, Rise, AreBranches}
use Rattle.bk_emit.specs.declared.lines.Line.{Line}
use Rattle.bk_emit.specs.declared.lines.Line.TheVariants as line
use Rattle.bk_emit.specs.Code.{branches_from}

pub record IsBetween (bs : List Branch) (low high : ℕ) : Type 0 where
  pub above : (k : ℕ) → k < length bs → low ≤ (branch_at bs k).at
  pub below : (k : ℕ) → k < length bs → (branch_at bs k).at < high

first_low : (b : Branch) (bs : List Branch) (low high : ℕ) → b.at ≡ low → IsBetween bs (low + 1) high → (k : ℕ) → k < length (b ∷ bs) → low ≤ (branch_at (b ∷ bs) k).at
first_low b bs low high e w zero m = omega arith
first_low b bs low high e w (suc k) m = let h = w.above k (omega (arith, m)) in omega arith

first_high : (b : Branch) (bs : List Branch) (low high : ℕ) → b.at ≡ low → low < high → IsBetween bs (low + 1) high → (k : ℕ) → k < length (b ∷ bs) → (branch_at (b ∷ bs) k).at < high
first_high b bs low high e l w zero m = omega arith
first_high b bs low high e l w (suc k) m = w.below k (omega (arith, m))

first_between : (b : Branch) (bs : List Branch) (low high : ℕ) → b.at ≡ low → low < high → IsBetween bs (low + 1) high → IsBetween (b ∷ bs) low high
first_between b bs low high e l w = record {
  above = λ k m. first_low b bs low high e w k m;
  below = λ k m. first_high b bs low high e l w k m;
}

wider : (bs : List Branch) (low high : ℕ) → IsBetween bs (low + 1) high → IsBetween bs low high
wider bs low high w = record {
  above = λ k m. let h = w.above k m in omega arith;
  below = w.below;
}

none_between : (low high : ℕ) → IsBetween [] low high
none_between low high = record { above = λ k m. absurd (omega (arith, m)); below = λ k m. absurd (omega (arith, m)) }

taller : (bs : List Branch) (low high top : ℕ) → high ≤ top → IsBetween bs low high → IsBetween bs low top
taller bs low high top l w = record { above = w.above; below = λ k m. let h = w.below k m in omega arith }

-- the branches among lines lie at the places of the lines
between : (s : ℕ → ℕ) (at : ℕ) (ls : List Line) → IsBetween (branches_from s at ls) at (at + length ls)
between s at [] = none_between at (at + length {A = Line} [])
between s at (line.Word x ∷ ls) =
    let rest = taller (branches_from s (at + 1) ls) (at + 1) (at + 1 + length ls) (at + length (line.Word x ∷ ls)) (omega arith) (between s (at + 1) ls) in
    wider (branches_from s (at + 1) ls) at (at + length (line.Word x ∷ ls)) rest
between s at (line.Open p h x ∷ ls) =
    let rest = taller (branches_from s (at + 1) ls) (at + 1) (at + 1 + length ls) (at + length (line.Open p h x ∷ ls)) (omega arith) (between s (at + 1) ls) in
    wider (branches_from s (at + 1) ls) at (at + length (line.Open p h x ∷ ls)) rest
between s at (line.Jump n ∷ ls) =
    let rest = taller (branches_from s (at + 1) ls) (at + 1) (at + 1 + length ls) (at + length (line.Jump n ∷ ls)) (omega arith) (between s (at + 1) ls) in
    first_between (record { at = at; target = s n; cond = false }) (branches_from s (at + 1) ls) at (at + length (line.Jump n ∷ ls)) refl (omega arith) rest
between s at (line.Branch b n ∷ ls) =
    let rest = taller (branches_from s (at + 1) ls) (at + 1) (at + 1 + length ls) (at + length (line.Branch b n ∷ ls)) (omega arith) (between s (at + 1) ls) in
    first_between (record { at = at; target = s n; cond = true }) (branches_from s (at + 1) ls) at (at + length (line.Branch b n ∷ ls)) refl (omega arith) rest

first_rise : (b : Branch) (bs : List Branch) (low high : ℕ) → b.at < low → IsBetween bs low high → Rise bs → (j k : ℕ) → j < k → k < length (b ∷ bs) → (branch_at (b ∷ bs) j).at < (branch_at (b ∷ bs) k).at
first_rise b bs low high l w r j zero m n = absurd (omega (arith, m))
first_rise b bs low high l w r zero (suc k) m n = let h = w.above k (omega (arith, n)) in omega arith
first_rise b bs low high l w r (suc j) (suc k) m n = r.each j k (omega (arith, m)) (omega (arith, n))

rising : (s : ℕ → ℕ) (at : ℕ) (ls : List Line) → Rise (branches_from s at ls)
rising s at [] = record { each = λ j k m n. absurd (omega (arith, n)) }
rising s at (line.Word x ∷ ls) = rising s (at + 1) ls
rising s at (line.Open p h x ∷ ls) = rising s (at + 1) ls
rising s at (line.Jump n ∷ ls) = record {
  each = first_rise (record { at = at; target = s n; cond = false }) (branches_from s (at + 1) ls) (at + 1) (at + 1 + length ls) (omega arith) (between s (at + 1) ls) (rising s (at + 1) ls);
}
rising s at (line.Branch b n ∷ ls) = record {
  each = first_rise (record { at = at; target = s n; cond = true }) (branches_from s (at + 1) ls) (at + 1) (at + 1 + length ls) (omega arith) (between s (at + 1) ls) (rising s (at + 1) ls);
}

-- they are such as have least sizes
pub branches_fit : (s : ℕ → ℕ) (ls : List Line) (bs : List Branch) (words : ℕ) → bs ≡ branches_from s 0 ls → words ≡ length ls → AreBranches bs words
branches_fit s ls bs words e n = subst (λ x. AreBranches x words) (sym e) (record {
  rise = rising s 0 ls;
  within = λ k m. let h = (between s 0 ls).below k m in omega (arith, h, n);
})
