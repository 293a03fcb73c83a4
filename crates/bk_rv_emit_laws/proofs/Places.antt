-- Where lines stand once branches have sizes, and that least sizes reach.
use Rattle.std.proofs.Common.{◌≡◌, ℕ, zero, suc, ◌+◌, ◌-◌, ◌<◌, ◌≤◌, List, [], ◌∷◌, length, ap, ◌∙◌, sym, refl, arith, true, false, cond}
use Rattle.std.specs.Prelude.{slice_index, nat_lt}
use Rattle.std.proofs.lemmas.Bool.Decides.{nat_tests}
use Rattle.bk_fixup.specs.declared.sizes.Branch.{Branch}
use Rattle.bk_fixup.specs.Sizes.{AreSizes, branch_at, gained, reaches}
use Rattle.bk_emit.specs.declared.lines.Line.{Line}
use Rattle.bk_emit.specs.declared.lines.Line.TheVariants as line
use Rattle.bk_emit.specs.Code.{branches_from, widths, places_from}
use Rattle.bk_rv_emit_laws.specs.Ends.{LinesReach, SizesReach}

rest_of : (b : Branch) (bs : List Branch) (z : ℕ) (zs : List ℕ) → AreSizes (b ∷ bs) (z ∷ zs) → AreSizes bs zs
rest_of b bs z zs h = record {
  long = let l = h.long in omega (arith, l);
  some = λ k l. h.some (suc k) (omega (arith, l));
  most = λ k l. h.most (suc k) (omega (arith, l));
}

-- branches at and behind a place, none of which has gained anything there

below : (at p : ℕ) → p ≤ at → nat_lt at p ≡ false
below at p h = grind (arith, nat_tests)

above : (at p : ℕ) → at < p → nat_lt at p ≡ true
above at p h = grind (arith, nat_tests)

none_gained : (s : ℕ → ℕ) (at p : ℕ) (ls : List Line) (zs : List ℕ) → p ≤ at → gained (branches_from s at ls) zs p ≡ 0
unfolding gained
none_gained s at p [] zs h = refl
none_gained s at p (line.Word x ∷ ls) zs h = none_gained s (at + 1) p ls zs (omega (arith, h))
none_gained s at p (line.Open q k x ∷ ls) zs h = none_gained s (at + 1) p ls zs (omega (arith, h))
none_gained s at p (line.Jump n ∷ ls) [] h = refl
none_gained s at p (line.Jump n ∷ ls) (z ∷ zs) h =
    ap (λ b. cond b (z - 1) 0 + gained (branches_from s (at + 1) ls) zs p) (below at p h) ∙ (let r = none_gained s (at + 1) p ls zs (omega (arith, h)) in omega (arith, r))
none_gained s at p (line.Branch o n ∷ ls) [] h = refl
none_gained s at p (line.Branch o n ∷ ls) (z ∷ zs) h =
    ap (λ b. cond b (z - 1) 0 + gained (branches_from s (at + 1) ls) zs p) (below at p h) ∙ (let r = none_gained s (at + 1) p ls zs (omega (arith, h)) in omega (arith, r))

stepped : (at0 w j x z : ℕ) (g r : ℕ) → x ≡ at0 + w + j + r → g ≡ z + r → w ≡ suc z → x ≡ at0 + suc j + g
stepped at0 w j x z g r a b c = omega (arith, a, b, c)

longer : (at j z : ℕ) (bs : List Branch) (zs : List ℕ) (b : Branch) → b.at ≡ at → 1 ≤ z → gained (b ∷ bs) (z ∷ zs) (at + suc j) ≡ (z - 1) + gained bs zs (at + 1 + j)
unfolding gained
longer at j z bs zs b e l =
    ap (λ c. cond c (z - 1) 0 + gained bs zs (at + suc j)) (above b.at (at + suc j) (omega (arith, e)))
    ∙ ap (λ p. (z - 1) + gained bs zs p) (let q : at + suc j ≡ at + 1 + j = omega arith in q)

-- the place of a line in the code is where the sizes of branches move it
place_is : (s : ℕ → ℕ) (at at0 j : ℕ) (ls : List Line) (zs : List ℕ) → AreSizes (branches_from s at ls) zs → j < length ls →
    slice_index (places_from at0 (widths zs ls)) j ≡ at0 + j + gained (branches_from s at ls) zs (at + j)
place_is s at at0 j [] zs h l = absurd (omega (arith, l))
place_is s at at0 zero (x ∷ ls) zs h l =
    let g = none_gained s at (at + 0) (x ∷ ls) zs (omega arith) in
    omega (arith, g)
place_is s at at0 (suc j) (line.Word x ∷ ls) zs h l =
    let r = place_is s (at + 1) (at0 + 1) j ls zs h (omega (arith, l)) in
    stepped at0 1 j _ 0 (gained (branches_from s (at + 1) ls) zs (at + suc j)) (gained (branches_from s (at + 1) ls) zs (at + 1 + j)) r
    (ap (gained (branches_from s (at + 1) ls) zs) (let q : at + suc j ≡ at + 1 + j = omega arith in q) ∙ (omega arith)) refl
place_is s at at0 (suc j) (line.Open p k x ∷ ls) zs h l =
    let r = place_is s (at + 1) (at0 + 1) j ls zs h (omega (arith, l)) in
    stepped at0 1 j _ 0 (gained (branches_from s (at + 1) ls) zs (at + suc j)) (gained (branches_from s (at + 1) ls) zs (at + 1 + j)) r
    (ap (gained (branches_from s (at + 1) ls) zs) (let q : at + suc j ≡ at + 1 + j = omega arith in q) ∙ (omega arith)) refl
place_is s at at0 (suc j) (line.Jump n ∷ ls) [] h l = absurd (let q = h.long in omega (arith, q))
place_is s at at0 (suc j) (line.Jump n ∷ ls) (z ∷ zs) h l =
    let b : Branch = record { at = at; target = s n; cond = false } in
    let bs = branches_from s (at + 1) ls in
    let some : 1 ≤ z = h.some 0 (omega arith) in
    let r = place_is s (at + 1) (at0 + z) j ls zs (rest_of b bs z zs h) (omega (arith, l)) in
    stepped at0 z j _ (z - 1) (gained (b ∷ bs) (z ∷ zs) (at + suc j)) (gained bs zs (at + 1 + j)) r (longer at j z bs zs b refl some) (omega (arith, some))
place_is s at at0 (suc j) (line.Branch o n ∷ ls) [] h l = absurd (let q = h.long in omega (arith, q))
place_is s at at0 (suc j) (line.Branch o n ∷ ls) (z ∷ zs) h l =
    let b : Branch = record { at = at; target = s n; cond = true } in
    let bs = branches_from s (at + 1) ls in
    let some : 1 ≤ z = h.some 0 (omega arith) in
    let r = place_is s (at + 1) (at0 + z) j ls zs (rest_of b bs z zs h) (omega (arith, l)) in
    stepped at0 z j _ (z - 1) (gained (b ∷ bs) (z ∷ zs) (at + suc j)) (gained bs zs (at + 1 + j)) r (longer at j z bs zs b refl some) (omega (arith, some))

-- a branch stands among its lines and leads to one of them
record Lies (at long most : ℕ) (b : Branch) : Type 0 where
  from : b.at < at + long
  to : b.target < most

lies_on : (at long most : ℕ) (b : Branch) → Lies (at + 1) long most b → Lies at (suc long) most b
lies_on at long most b l = record { from = let q = l.from in omega (arith, q); to = l.to }

lies : (s : ℕ → ℕ) (at most k : ℕ) (ls : List Line) → ((n : ℕ) → s n < most) → k < length (branches_from s at ls) → Lies at (length ls) most (branch_at (branches_from s at ls) k)
lies s at most k [] h l = absurd (omega (arith, l))
lies s at most k (line.Word x ∷ ls) h l = lies_on at (length ls) most _ (lies s (at + 1) most k ls h l)
lies s at most k (line.Open p q x ∷ ls) h l = lies_on at (length ls) most _ (lies s (at + 1) most k ls h l)
lies s at most zero (line.Jump n ∷ ls) h l = record { from = omega arith; to = h n }
lies s at most (suc k) (line.Jump n ∷ ls) h l = lies_on at (length ls) most _ (lies s (at + 1) most k ls h (omega (arith, l)))
lies s at most zero (line.Branch o n ∷ ls) h l = record { from = omega arith; to = h n }
lies s at most (suc k) (line.Branch o n ∷ ls) h l = lies_on at (length ls) most _ (lies s (at + 1) most k ls h (omega (arith, l)))

-- p tells the place of each line
record Placed (p : ℕ → ℕ) (at at0 : ℕ) (ws : List ℕ) (long : ℕ) : Type 0 where
  each : (j : ℕ) → j < long → p (at + j) ≡ slice_index (places_from at0 ws) j

placed_on : (p : ℕ → ℕ) (at at0 w : ℕ) (ws : List ℕ) (long : ℕ) → Placed p at at0 (w ∷ ws) (suc long) → Placed p (at + 1) (at0 + w) ws long
placed_on p at at0 w ws long h = record { each = λ j l. ap p (let q : at + 1 + j ≡ at + suc j = omega arith in q) ∙ h.each (suc j) (omega (arith, l)) }

first_placed : (p : ℕ → ℕ) (at at0 w : ℕ) (ws : List ℕ) (long : ℕ) → Placed p at at0 (w ∷ ws) (suc long) → p at ≡ at0
first_placed p at at0 w ws long h = ap p (let q : at ≡ at + 0 = omega arith in q) ∙ h.each 0 (omega arith)

-- between these places each branch reaches
record Spanned (p : ℕ → ℕ) (bs : List Branch) (zs : List ℕ) : Type 0 where
  each : (k : ℕ) → k < length bs → reaches (branch_at bs k).cond (slice_index zs k) (p (branch_at bs k).at) (p (branch_at bs k).target) ≡ true

spanned_on : (p : ℕ → ℕ) (b : Branch) (bs : List Branch) (z : ℕ) (zs : List ℕ) → Spanned p (b ∷ bs) (z ∷ zs) → Spanned p bs zs
spanned_on p b bs z zs h = record { each = λ k l. h.each (suc k) (omega (arith, l)) }

lines_reach : (p s : ℕ → ℕ) (at at0 : ℕ) (ls : List Line) (zs : List ℕ) → AreSizes (branches_from s at ls) zs → Placed p at at0 (widths zs ls) (length ls) → Spanned p (branches_from s at ls) zs →
    LinesReach (λ n. p (s n)) at0 (widths zs ls) ls
lines_reach p s at at0 [] zs h q r = tt
lines_reach p s at at0 (line.Word x ∷ ls) zs h q r = (refl, lines_reach p s (at + 1) (at0 + 1) ls zs h (placed_on p at at0 1 (widths zs ls) (length ls) q) r)
lines_reach p s at at0 (line.Open c k x ∷ ls) zs h q r = (refl, lines_reach p s (at + 1) (at0 + 1) ls zs h (placed_on p at at0 1 (widths zs ls) (length ls) q) r)
lines_reach p s at at0 (line.Jump n ∷ ls) [] h q r = absurd (let l = h.long in omega (arith, l))
lines_reach p s at at0 (line.Jump n ∷ ls) (z ∷ zs) h q r =
    let b : Branch = record { at = at; target = s n; cond = false } in
    let bs = branches_from s (at + 1) ls in
    let ws = widths zs ls in
    let reach : reaches false z at0 (p (s n)) ≡ true = ap (λ y. reaches false z y (p (s n))) (sym (first_placed p at at0 z ws (length ls) q)) ∙ r.each 0 (omega arith) in
    ((h.some 0 (omega arith), h.most 0 (omega arith), reach), lines_reach p s (at + 1) (at0 + z) ls zs (rest_of b bs z zs h) (placed_on p at at0 z ws (length ls) q) (spanned_on p b bs z zs r))
lines_reach p s at at0 (line.Branch o n ∷ ls) [] h q r = absurd (let l = h.long in omega (arith, l))
lines_reach p s at at0 (line.Branch o n ∷ ls) (z ∷ zs) h q r =
    let b : Branch = record { at = at; target = s n; cond = true } in
    let bs = branches_from s (at + 1) ls in
    let ws = widths zs ls in
    let reach : reaches true z at0 (p (s n)) ≡ true = ap (λ y. reaches true z y (p (s n))) (sym (first_placed p at at0 z ws (length ls) q)) ∙ r.each 0 (omega arith) in
    ((h.some 0 (omega arith), h.most 0 (omega arith), reach), lines_reach p s (at + 1) (at0 + z) ls zs (rest_of b bs z zs h) (placed_on p at at0 z ws (length ls) q) (spanned_on p b bs z zs r))

pub sizes_reach : SizesReach
sizes_reach s ls zs inside h =
    let bs = branches_from s 0 ls in
    let p : ℕ → ℕ = λ j. slice_index (places_from 0 (widths zs ls)) j in
    let moved : (j : ℕ) → j < length ls → j + gained bs zs j ≡ p j = λ j l. sym (place_is s 0 0 j ls zs h.sizes l ∙ plain j (gained bs zs j) (gained bs zs (0 + j)) (ap (gained bs zs) (let q : 0 + j ≡ j = omega arith in q))) in
    lines_reach p s 0 0 ls zs h.sizes
    (record { each = λ j l. ap p (let q : 0 + j ≡ j = omega arith in q) })
    (record {
      each = λ k l.
          let b = branch_at bs k in
          let x = lies s 0 (length ls) k ls inside l in
          ap (λ y. reaches b.cond (slice_index zs k) y (p b.target)) (sym (moved b.at (let q = x.from in omega (arith, q))))
          ∙ ap (λ y. reaches b.cond (slice_index zs k) (b.at + gained bs zs b.at) y) (sym (moved b.target x.to))
          ∙ h.reach.each k l;
    })
  where
    plain : (j a b : ℕ) → b ≡ a → 0 + j + b ≡ j + a
    plain j a b e = omega (arith, e)
