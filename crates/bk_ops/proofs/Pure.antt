-- The ops that have a value are the pure ones, at as many arguments as the op table says.
use Rattle.std.proofs.Common.{◌≡◌, ℕ, suc, refl, ap, sym, ◌∙◌, arith, ℤ, Bool, true, false, ◌&&◌, not, if◌then◌else◌, Option, Some, None, is_some, List, [], ◌∷◌, length, ◌↔◌}
use Rattle.bk_ops.specs.declared.types.Target.{Target}
use Rattle.bk_ops.specs.declared.table.Op.{Op}
use Rattle.bk_ops.specs.declared.table.OpInfo.{OpInfo}
use Rattle.bk_ops.specs.declared.family.Family.{Family}
use Rattle.bk_ops.specs.declared.family.Family.TheVariants.{Const, Arm, Rv}
use Rattle.bk_ops.specs.declared.family.ArmOp.TheVariants as arm
use Rattle.bk_ops.specs.declared.family.RvOp.TheVariants as rv
use Rattle.bk_ops.specs.Table.{is_op, row, entry, arm_row, rv_row, unknown, info_of}
use Rattle.bk_ops.specs.Formulas.{Formula, no_value, constant, of_one, of_two, of_three, of_four, formula, arm_formula, rv_formula}
use Rattle.bk_ops.specs.Values.{places_of, places, on_none, on_one, on_two, on_three, on_four, cut, computed, valued, pure_value, is_given, is_pure}

abbrev pub has_value : Formula → Bool
has_value no_value = false
has_value (constant v) = true
has_value (of_one p f) = true
has_value (of_two p q f) = true
has_value (of_three p q r f) = true
has_value (of_four p q r s f) = true

-- ---- the two tables agree
pure_rows : (f : Family) (a b : ℕ) (n : ℤ) (t : Target) → has_value (formula f a b n t) ≡ (not (row f a b).info.memory && not (is_given f))
unfolding row entry arm_row rv_row formula arm_formula rv_formula
pure_rows Const a b n t = refl
pure_rows (Arm arm.Const) a b n t = refl
pure_rows (Arm _) a b n t = refl
pure_rows (Rv rv.Const) a b n t = refl
pure_rows (Rv _) a b n t = refl
pure_rows _ a b n t = refl

counted_rows : (f : Family) (a b : ℕ) (n : ℤ) (t : Target) →
    (if has_value (formula f a b n t) then (row f a b).info.arity else None) ≡ (if has_value (formula f a b n t) then Some (length (places_of (formula f a b n t))) else None)
unfolding row entry arm_row rv_row formula arm_formula rv_formula
counted_rows Const a b n t = refl
counted_rows (Arm arm.Const) a b n t = refl
counted_rows (Arm _) a b n t = refl
counted_rows (Rv rv.Const) a b n t = refl
counted_rows (Rv _) a b n t = refl
counted_rows _ a b n t = refl

-- the places do not go by the op's number
pub same_places : (f : Family) (a b : ℕ) (n : ℤ) (t : Target) → places_of (formula f a b n t) ≡ places f a b t
unfolding formula arm_formula rv_formula
same_places Const a b n t = refl
same_places (Arm arm.Const) a b n t = refl
same_places (Arm _) a b n t = refl
same_places (Rv rv.Const) a b n t = refl
same_places (Rv _) a b n t = refl
same_places _ a b n t = refl

-- ---- a formula has a value at as many arguments as it has places
pub length-cut : (ws xs : List ℕ) → length (cut ws xs) ≡ length xs
length-cut [] xs = refl
length-cut (w ∷ ws) [] = refl
length-cut (w ∷ ws) (x ∷ xs) = ap suc (length-cut ws xs)

none_at : (xs : List ℕ) (v : ℕ) → is_some (on_none xs v) ≡ true ↔ length xs ≡ 0
none_at [] v = (λ h. refl, λ h. refl)
none_at (x ∷ xs) v = (λ h. cc, λ h. absurd (omega arith))

one_at : (xs : List ℕ) (f : ℕ → ℕ) → is_some (on_one xs f) ≡ true ↔ length xs ≡ 1
one_at [] f = (λ h. cc, λ h. absurd (omega arith))
one_at (x ∷ []) f = (λ h. refl, λ h. refl)
one_at (x ∷ y ∷ xs) f = (λ h. cc, λ h. absurd (omega arith))

two_at : (xs : List ℕ) (f : ℕ → ℕ → ℕ) → is_some (on_two xs f) ≡ true ↔ length xs ≡ 2
two_at [] f = (λ h. cc, λ h. absurd (omega arith))
two_at (x ∷ xs) f = let (p, q) = one_at xs (f x) in (λ h. ap suc (p h), λ h. q (omega arith))

three_at : (xs : List ℕ) (f : ℕ → ℕ → ℕ → ℕ) → is_some (on_three xs f) ≡ true ↔ length xs ≡ 3
three_at [] f = (λ h. cc, λ h. absurd (omega arith))
three_at (x ∷ xs) f = let (p, q) = two_at xs (f x) in (λ h. ap suc (p h), λ h. q (omega arith))

four_at : (xs : List ℕ) (f : ℕ → ℕ → ℕ → ℕ → ℕ) → is_some (on_four xs f) ≡ true ↔ length xs ≡ 4
four_at [] f = (λ h. cc, λ h. absurd (omega arith))
four_at (x ∷ xs) f = let (p, q) = three_at xs (f x) in (λ h. ap suc (p h), λ h. q (omega arith))

computed_at : (g : Formula) (xs : List ℕ) → is_some (computed g xs) ≡ true ↔ ((has_value g ≡ true) × (length xs ≡ length (places_of g)))
computed_at no_value xs = (λ h. cc, λ (a, b). cc)
computed_at (constant v) xs = let (p, q) = none_at xs v in (λ h. (refl, p h), λ (a, b). q b)
computed_at (of_one p' f) xs = let (p, q) = one_at xs f in (λ h. (refl, p h), λ (a, b). q b)
computed_at (of_two p' q' f) xs = let (p, q) = two_at xs f in (λ h. (refl, p h), λ (a, b). q b)
computed_at (of_three p' q' r' f) xs = let (p, q) = three_at xs f in (λ h. (refl, p h), λ (a, b). q b)
computed_at (of_four p' q' r' s' f) xs = let (p, q) = four_at xs f in (λ h. (refl, p h), λ (a, b). q b)

pub valued_at : (g : Formula) (xs : List ℕ) → is_some (valued g xs) ≡ true ↔ ((has_value g ≡ true) × (length xs ≡ length (places_of g)))
valued_at g xs =
    let (p, q) = computed_at g (cut (places_of g) xs) in
    (λ h. let (a, b) = p h in (a, sym (length-cut (places_of g) xs) ∙ b), λ (a, b). q (a, length-cut (places_of g) xs ∙ b))

-- ---- both, for an op
some_is : (m n : ℕ) → Some m ≡ Some n → m ≡ n
some_is m n e = cc

-- a test under another one
under : (h m g : Bool) → h ≡ (not m && not g) → h ≡ true → (not m && not g) ≡ true
under h m g e f = sym e ∙ f

at_true : (h : Bool) (o p : Option ℕ) → h ≡ true → (if h then o else None) ≡ (if h then p else None) → o ≡ p
at_true true o p e q = q
at_true false o p e q = cc

together : (named : Bool) (i : OpInfo) (given : Bool) (g : Formula) (xs : List ℕ) →
    has_value g ≡ (not i.memory && not given) → (if has_value g then i.arity else None) ≡ (if has_value g then Some (length (places_of g)) else None) →
    is_some (if named then valued g xs else None) ≡ true ↔ (((named && not (if named then i else unknown).memory && not given) ≡ true) × ((if named then i else unknown).arity ≡ Some (length xs)))
together true i given g xs e f =
    let (p, q) = valued_at g xs in (
      λ h. let (a, b) = p h in (sym e ∙ a, at_true (has_value g) i.arity (Some (length (places_of g))) a f ∙ ap (λ k. Some k) (sym b)),
      λ (a, b). q (e ∙ a, some_is _ _ (sym b ∙ at_true (has_value g) i.arity (Some (length (places_of g))) (e ∙ a) f)),
    )
together false i given g xs e f = (λ h. cc, λ (a, b). cc)

pub pure_law : (o : Op) (n : ℤ) (xs : List ℕ) (t : Target) → is_some (pure_value o n xs t) ≡ true ↔ ((is_pure o ≡ true) × ((info_of o).arity ≡ Some (length xs)))
unfolding pure_value is_pure info_of
pure_law o n xs t =
    together (is_op o.family o.a o.b) (row o.family o.a o.b).info (is_given o.family) (formula o.family o.a o.b n t) xs
    (pure_rows o.family o.a o.b n t) (counted_rows o.family o.a o.b n t)

-- the same of what is equal to that value
pub pure_of : (o : Op) (n : ℤ) (xs : List ℕ) (t : Target) (r : Option ℕ) → r ≡ pure_value o n xs t → is_some r ≡ true ↔ ((is_pure o ≡ true) × ((info_of o).arity ≡ Some (length xs)))
pure_of o n xs t r e = let (p, q) = pure_law o n xs t in (λ h. p (ap is_some (sym e) ∙ h), λ k. ap is_some e ∙ q k)

-- an op that no name has
pub unnamed : (o : Op) (n : ℤ) (xs : List ℕ) (t : Target) → is_op o.family o.a o.b ≡ false → None ≡ pure_value o n xs t
unfolding pure_value
unnamed o n xs t h = rw h refl
