-- The last state of a block, and the state at the end of a walk, are one each.
use Rattle.std.proofs.Common.{◌≡◌, ℕ, refl, sym, subst, inl, inr, List, [], ◌∷◌, ◌==◌, false, eq-eqb}
use Rattle.std.specs.List.{AllByRecursion}
use Rattle.std.proofs.lemmas.Map.Keys.{IsDistinct-head}
use Rattle.bk_func.specs.Records.{ValueRecord, BlockRecord, FuncRecord}
use Rattle.bk_func.specs.Form.Text.{HasValue}
use Rattle.bk_func.specs.Form.Walks.{IsReached}
use Rattle.bk_func.specs.Form.States.{IsStateOf, Names, IsLinked, first, more, IsChain, Carries, made, kept, IsFirstState}
use Rattle.bk_func.specs.Form.Signatures.{Setting}
use Rattle.bk_func.proofs.Faults.{In}
use Rattle.bk_places.proofs.Elements.{to_in, to_contains}
use Rattle.bk_order_laws.proofs.Standing.{Standing, names_once}

pub top_of : (f : FuncRecord) (b : BlockRecord) (m : ℕ) (ms : List ℕ) → IsChain f b (m ∷ ms) → IsStateOf f b m
top_of f b m ms c = (c.states m).0 (to_contains m (m ∷ ms) (inl refl))

-- a state that one of the linked states names stands behind the first of them
named_behind : (s : Setting) (f : FuncRecord) → Standing s f → (b : BlockRecord) (t : ℕ) (xs : List ℕ) → IsLinked f b (t ∷ xs) →
    (y : ValueRecord) → HasValue f b y → In y.id (t ∷ xs) → (m : ℕ) → Names f y m → IsStateOf f b m → In m xs
named_behind s f h b _ _ (first v i names) y iy (inl e) m n k =
    let P : ValueRecord → Type 0 = λ z. Names f z m in
    absurd (names m (subst P (sym (h.named.same_value b b v y i iy e)) n) k)
named_behind s f h b _ _ (first v i names) y iy (inr j) m n k = elim j [ ]
named_behind s f h b _ _ (more w n ms i names l) y iy (inl e) m o k =
    let P : ValueRecord → Type 0 = λ z. Names f z m in
    inl (names_once s f h b w i n m names (subst P (sym (h.named.same_value b b w y i iy e)) o))
named_behind s f h b _ _ (more w n ms i names l) y iy (inr j) m o k = inr (named_behind s f h b n ms l y iy j m o k)

none_again : (h : ℕ) (t : List ℕ) → AllByRecursion (λ y. (h == y) ≡ false) t → In h t → ⊥
none_again h [] a i = elim i [ ]
none_again h (x ∷ xs) a (inl e) = (let d = eq-eqb h x (sym e) in let g = a.0 in cc)
none_again h (x ∷ xs) a (inr i) = none_again h xs a.1 i

-- one of the linked states names each that is not the first
named_by : (f : FuncRecord) (b : BlockRecord) (t : ℕ) (xs : List ℕ) → IsLinked f b (t ∷ xs) → (m : ℕ) → In m xs → (y : ValueRecord) × HasValue f b y × Names f y m × In y.id (t ∷ xs)
named_by f b _ _ (first v i names) m j = elim j [ ]
named_by f b _ _ (more w n ms i names l) m (inl e) = (w, i, subst (λ x. Names f w x) e names, inl refl)
named_by f b _ _ (more w n ms i names l) m (inr j) = (let z = named_by f b n ms l m j in (z.0, z.1, z.2, inr z.3))

one_top : (s : Setting) (f : FuncRecord) → Standing s f → (b : BlockRecord) → (m n : ℕ) (ms ns : List ℕ) → IsChain f b (m ∷ ms) → IsChain f b (n ∷ ns) → m ≡ n
one_top s f h b m n ms ns c d = go (to_in n (m ∷ ms) ((c.states n).1 (top_of f b n ns d)))
  where
    go : In n (m ∷ ms) → m ≡ n
    go (inl e) = e
    go (inr i) =
        let y = named_by f b m ms c.linked n i in
        let k : IsStateOf f b y.0.id = (c.states y.0.id).0 (to_contains y.0.id (m ∷ ms) y.3) in
        let j : In y.0.id (n ∷ ns) = to_in y.0.id (n ∷ ns) ((d.states y.0.id).1 k) in
        absurd (none_again n ns (IsDistinct-head (λ x y. x == y) n ns d.distinct) (named_behind s f h b n ns d.linked y.0 y.1 j n y.2 (top_of f b n ns d)))

pub carries_one : (s : Setting) (f : FuncRecord) → Standing s f → (w : List BlockRecord) (m n : ℕ) → Carries f w m → Carries f w n → m ≡ n
carries_one s f h _ m n (made b w _ ms c) (made _ _ _ ns d) = one_top s f h b m n ms ns c d
carries_one s f h _ m n (made b w _ ms c) (kept _ _ _ none d) = absurd (none m (top_of f b m ms c))
carries_one s f h _ m n (kept b w _ none c) (made _ _ _ ns d) = absurd (none n (top_of f b n ns d))
carries_one s f h _ m n (kept b w _ none c) (kept _ _ _ also d) = carries_one s f h w m n c d

-- a reached block begins with one state
pub one_first : (s : Setting) (f : FuncRecord) → Standing s f → (b : BlockRecord) → IsReached f b → (m n : ℕ) → IsFirstState f b m → IsFirstState f b n → m ≡ n
one_first s f h b r m n c d = carries_one s f h r.0 m n (c r.0 r.1) (d r.0 r.1)
