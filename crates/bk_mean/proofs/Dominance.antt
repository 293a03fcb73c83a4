-- Which blocks all walks to a block pass, and which values are defined there.
use Rattle.std.proofs.Common.{◌≡◌, ℕ, zero, suc, ◌<◌, refl, sym, subst, arith, inl, inr, List, [], ◌∷◌, length}
use Rattle.std.specs.List.{Contains}
use Rattle.bk_func.specs.Records.{ValueRecord, BlockRecord, FuncRecord}
use Rattle.bk_func.specs.declared.form.FormKind.TheVariants.{Use}
use Rattle.bk_func.specs.Form.{Keeps}
use Rattle.bk_func.specs.Form.Text.{HasBlock, HasValue, Defines, IsEntry, IsPhi}
use Rattle.bk_func.specs.Form.Walks.{Walk, begin, onward, IsReached, Passes, IsDefinedAt}
use Rattle.bk_func.specs.Form.Signatures.{Setting}
use Rattle.bk_func.proofs.Faults.{In}
use Rattle.bk_places.proofs.Elements.{to_in, to_contains}
use Rattle.bk_mean.proofs.Named.{IsNamed, got_in}

-- all walks to b pass a
abbrev pub Dominates : FuncRecord → BlockRecord → BlockRecord → Type 0
Dominates f a b = (w : List BlockRecord) → Walk f (b ∷ w) → In a (b ∷ w)

-- a walk up to a block that it passes, and no longer than a list
pub record Back (f : FuncRecord) (c : BlockRecord) (w : List BlockRecord) : Type 0 where
  pub before : List BlockRecord
  pub walk : Walk f (c ∷ before)
  pub shorter : length before < length w
  pub within : (b : BlockRecord) → In b (c ∷ before) → In b w

there : (f : FuncRecord) (b c : BlockRecord) (w : List BlockRecord) → Walk f (b ∷ w) → b ≡ c → Back f c (b ∷ w)
there f b c w walk e = (let P : BlockRecord → Type 0 = λ x. Back f x (b ∷ w) in subst P e (record { before = w; walk = walk; shorter = omega arith; within = λ x i. i }))

longer : (f : FuncRecord) (b c : BlockRecord) (w : List BlockRecord) → Back f c w → Back f c (b ∷ w)
longer f b c w r = record { before = r.before; walk = r.walk; shorter = omega (arith, r.shorter); within = λ x i. inr (r.within x i) }

pub back_to : (f : FuncRecord) (c : BlockRecord) (w : List BlockRecord) → Walk f w → In c w → Back f c w
back_to f c _ (begin b e) (inl q) = there f b c [] (begin b e) q
back_to f c _ (begin b e) (inr i) = elim i [ ]
back_to f c _ (onward a b w walk h e) (inl q) = there f b c (a ∷ w) (onward a b w walk h e) q
back_to f c _ (onward a b w walk h e) (inr i) = longer f b c (a ∷ w) (back_to f c (a ∷ w) walk i)

-- and where the walk passes the block before its end
earlier : (f : FuncRecord) (b c : BlockRecord) (w : List BlockRecord) → Walk f (b ∷ w) → In c w → Back f c w
earlier f b c _ (begin _ e) i = elim i [ ]
earlier f b c _ (onward a _ w walk h e) i = back_to f c (a ∷ w) walk i

pub walk_blocks : (f : FuncRecord) (c : BlockRecord) (w : List BlockRecord) → Walk f w → In c w → HasBlock f c
walk_blocks f c _ (begin b e) (inl q) = (let P : BlockRecord → Type 0 = λ x. HasBlock f x in subst P q (to_contains b f.blocks (got_in f.blocks 0 b e)))
walk_blocks f c _ (begin b e) (inr i) = elim i [ ]
walk_blocks f c _ (onward a b w walk h e) (inl q) = (let P : BlockRecord → Type 0 = λ x. HasBlock f x in subst P q h)
walk_blocks f c _ (onward a b w walk h e) (inr i) = walk_blocks f c (a ∷ w) walk i

pub reached_block : (f : FuncRecord) (b : BlockRecord) → IsReached f b → HasBlock f b
reached_block f b r = walk_blocks f b (b ∷ r.0) r.1 (inl refl)

pub entry_reached : (f : FuncRecord) (b : BlockRecord) → IsEntry f b → IsReached f b
entry_reached f b e = ([], begin b e)

pub reached_over : (f : FuncRecord) (b c : BlockRecord) → IsReached f b → HasBlock f c → Contains b.succs c.id → IsReached f c
reached_over f b c r h e = (b ∷ r.0, onward b c r.0 r.1 h e)

-- dominance is an order of the blocks that are reached

pub dominates_itself : (f : FuncRecord) (b : BlockRecord) → Dominates f b b
dominates_itself f b w walk = inl refl

pub dominates_onward : (f : FuncRecord) (a b c : BlockRecord) → Dominates f a b → Dominates f b c → Dominates f a c
dominates_onward f a b c d e w walk =
    let r = back_to f b (c ∷ w) walk (e w walk) in
    r.within a (d r.before r.walk)

apart : (k : ℕ) (f : FuncRecord) (a b : BlockRecord) (w : List BlockRecord) → length w < k → Walk f (b ∷ w) → Dominates f a b → Dominates f b a → b ≡ a
apart zero f a b w l walk d e = absurd (omega arith)
apart (suc k) f a b w l walk d e =
    elim (d w walk) as (λ _. b ≡ a) [
      | inl q ↦ q
      | inr i ↦ (let r = earlier f b a w walk i in sym (apart k f b a r.before (omega (arith, l, r.shorter)) r.walk e d))
    ]

-- of two blocks that are reached, not each can stand on all walks to the other
pub one_dominates : (f : FuncRecord) (a b : BlockRecord) → IsReached f b → Dominates f a b → Dominates f b a → a ≡ b
one_dominates f a b r d e = sym (apart (suc (length r.0)) f a b r.0 (omega arith) r.1 d e)

pub dominator_reached : (f : FuncRecord) (a b : BlockRecord) → IsReached f b → Dominates f a b → IsReached f a
dominator_reached f a b r d = let q = back_to f a (b ∷ r.0) r.1 (d r.0 r.1) in (q.before, q.walk)

-- values are defined at the blocks that their own block dominates

pub defined_from : (f : FuncRecord) → IsNamed f → (a b : BlockRecord) (v : ValueRecord) → HasValue f a v → IsDefinedAt f b v.id → Dominates f a b
defined_from f n a b v i d w walk =
    let q = d w walk in
    let j = to_in q.0 (b ∷ w) q.1 in
    let u = q.2 in
    let e = n.same_block q.0 a u.0 v (walk_blocks f q.0 (b ∷ w) walk j, u.1) i u.2 in
    (let P : BlockRecord → Type 0 = λ x. In x (b ∷ w) in subst P e j)

pub defined_below : (f : FuncRecord) (a b : BlockRecord) (n : ℕ) → Defines a n → Dominates f a b → IsDefinedAt f b n
defined_below f a b n h d w walk = (a, to_contains a (b ∷ w) (d w walk), h)

pub defined_here : (f : FuncRecord) (b : BlockRecord) (n : ℕ) → Defines b n → IsDefinedAt f b n
defined_here f b n h = defined_below f b b n h (dominates_itself f b)

-- what is defined where a dominating block ends is defined below
pub defined_onward : (f : FuncRecord) (a b : BlockRecord) (n : ℕ) → IsDefinedAt f a n → Dominates f a b → IsDefinedAt f b n
defined_onward f a b n h d w walk =
    let r = back_to f a (b ∷ w) walk (d w walk) in
    let q = h r.before r.walk in
    (q.0, to_contains q.0 (b ∷ w) (r.within q.0 (to_in q.0 (a ∷ r.before) q.1)), q.2)

-- where a value that is defined at a reached block stands
pub record Home (f : FuncRecord) (b : BlockRecord) (n : ℕ) : Type 0 where
  pub block : BlockRecord
  pub value : ValueRecord
  pub stands : HasValue f block value
  pub named : value.id ≡ n
  pub reached : IsReached f block
  pub dominates : Dominates f block b

pub home : (f : FuncRecord) → IsNamed f → (b : BlockRecord) (n : ℕ) → IsReached f b → IsDefinedAt f b n → Home f b n
home f h b n r d =
    let q = d r.0 r.1 in
    let u = q.2 in
    let i : HasValue f q.0 u.0 = (walk_blocks f q.0 (b ∷ r.0) r.1 (to_in q.0 (b ∷ r.0) q.1), u.1) in
    let over : Dominates f q.0 b = defined_from f h q.0 b u.0 i (let P : ℕ → Type 0 = λ m. IsDefinedAt f b m in subst P (sym u.2) d) in
    record { block = q.0; value = u.0; stands = i; named = u.2; reached = dominator_reached f q.0 b r over; dominates = over }

-- over an edge nothing is defined anew but what the block at its end defines
pub defined_before : (f : FuncRecord) (b c : BlockRecord) (n : ℕ) → HasBlock f c → Contains b.succs c.id → IsDefinedAt f c n → ¬ Defines c n → IsDefinedAt f b n
defined_before f b c n h e d out w walk =
    let q = d (b ∷ w) (onward b c w walk h e) in
    go q.0 (to_in q.0 (c ∷ b ∷ w) q.1) q.2
  where
    go : (a : BlockRecord) → In a (c ∷ b ∷ w) → Defines a n → Passes (b ∷ w) n
    go a (inl i) k = absurd (out (let P : BlockRecord → Type 0 = λ x. Defines x n in subst P (sym i) k))
    go a (inr i) k = (a, to_contains a (b ∷ w) i, k)

-- where a value that is no phi is defined, its arguments are
pub arguments_defined : (s : Setting) (f : FuncRecord) → IsNamed f → Keeps s f Use → (a b : BlockRecord) (v : ValueRecord) → HasValue f a v → ¬ IsPhi v → IsDefinedAt f b v.id →
    (n : ℕ) → In n v.args → IsDefinedAt f b n
arguments_defined s f h k a b v i p d n j =
    defined_onward f a b n (((k a i.0).value v i.1).here p n (to_contains n v.args j)) (defined_from f h a b v i d)
