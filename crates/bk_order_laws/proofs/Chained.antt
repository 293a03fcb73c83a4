-- Two states that the values of a block may name are one, or one of them follows the other.
use Rattle.std.proofs.Common.{◌≡◌, ℕ, refl, sym, ◌∙◌, subst, ◌⊎◌, inl, inr, List, [], ◌∷◌, ◌++◌}
use Rattle.bk_ops.specs.declared.family.Family.TheVariants as op
use Rattle.bk_func.specs.Records.{ValueRecord, BlockRecord, FuncRecord}
use Rattle.bk_func.specs.Form.Text.{HasValue, IsPhi}
use Rattle.bk_func.specs.Form.Walks.{begin, IsReached}
use Rattle.bk_func.specs.Form.States.{IsState, IsStateOf, Names, IsLinked, first, more, IsChain, Carries, IsFirstState, Starts, HasChain, HasMemoryPhi, IsStateIn}
use Rattle.bk_func.specs.Form.Signatures.{Setting}
use Rattle.bk_func.proofs.Faults.{In}
use Rattle.bk_places.proofs.Elements.{to_in, to_contains}
use Rattle.bk_mean.proofs.Named.{IsNamed}
use Rattle.bk_mean.proofs.Dominance.{reached_block}
use Rattle.bk_order_laws.specs.Base.{BasePrecedes}
use Rattle.bk_order_laws.proofs.Standing.{Standing}
use Rattle.bk_order_laws.proofs.First.{base_onward, named_first}
use Rattle.bk_order_laws.proofs.Heads.{one_first}

-- y bears the number, or comes before what bears it
abbrev pub Reaches : FuncRecord → BlockRecord → ValueRecord → ℕ → Type 0
Reaches f b y r = (y.id ≡ r) ⊎ ((z : ValueRecord) × HasValue f b z × (z.id ≡ r) × BasePrecedes f b y z)

-- r follows x: a state that names x is r or comes before it
pub record Follows (f : FuncRecord) (b : BlockRecord) (x r : ℕ) : Type 0 where
  pub value : ValueRecord
  pub state : IsState f b value
  pub names : Names f value x
  pub way : Reaches f b value r

-- what names a number comes after what reaches it
pub reach_named : (s : Setting) (f : FuncRecord) → Standing s f → (b : BlockRecord) → IsReached f b → (y : ValueRecord) → HasValue f b y → (n : ℕ) → Reaches f b y n → (w : ValueRecord) → HasValue f b w → Names f w n → BasePrecedes f b y w
reach_named s f h b r y iy n (inl e) w i names = named_first s f h b r w y i iy n names e
reach_named s f h b r y iy n (inr (z, iz, e, p)) w i names = base_onward f b y z w p (named_first s f h b r w z i iz n names e)

reach_more : (s : Setting) (f : FuncRecord) → Standing s f → (b : BlockRecord) → IsReached f b → (y : ValueRecord) → HasValue f b y → (n : ℕ) → Reaches f b y n → (w : ValueRecord) → HasValue f b w → Names f w n → Reaches f b y w.id
reach_more s f h b r y iy n way w i names = inr (w, i, refl, reach_named s f h b r y iy n way w i names)

state_at : (f : FuncRecord) → IsNamed f → (b : BlockRecord) (w : ValueRecord) → HasValue f b w → (n : ℕ) → w.id ≡ n → IsStateOf f b n → IsState f b w
state_at f h b w i n e (v, k, d) = (let P : ValueRecord → Type 0 = λ z. IsState f b z in subst P (h.same_value b b v w k.0 i (d ∙ sym e)) k)

-- the first of linked states follows each other one
to_head : (s : Setting) (f : FuncRecord) → Standing s f → (b : BlockRecord) → IsReached f b → (t : ℕ) (xs : List ℕ) → IsLinked f b (t ∷ xs) → ((n : ℕ) → In n (t ∷ xs) → IsStateOf f b n) → (x : ℕ) → In x xs → Follows f b x t
to_head s f h b r _ _ (first v i names) k x j = elim j [ ]
to_head s f h b r _ _ (more w n ms i names l) k x (inl e) =
    record { value = w; state = state_at f h.named b w i w.id refl (k w.id (inl refl)); names = subst (λ y. Names f w y) e names; way = inl refl }
to_head s f h b r _ _ (more w n ms i names l) k x (inr j) =
    let q = to_head s f h b r n ms l (λ m i. k m (inr i)) x j in
    record { value = q.value; state = q.state; names = q.names; way = reach_more s f h b r q.value q.state.0 n q.way w i names }

abbrev pub InTurn : FuncRecord → BlockRecord → ℕ → ℕ → Type 0
InTurn f b x r = (x ≡ r) ⊎ Follows f b x r ⊎ Follows f b r x

linked_pair : (s : Setting) (f : FuncRecord) → Standing s f → (b : BlockRecord) → IsReached f b → (xs : List ℕ) → IsLinked f b xs → ((n : ℕ) → In n xs → IsStateOf f b n) → (x y : ℕ) → In x xs → In y xs → InTurn f b x y
linked_pair s f h b r _ (first v i names) k x y (inl e) (inl d) = inl (sym e ∙ d)
linked_pair s f h b r _ (first v i names) k x y (inl e) (inr j) = elim j [ ]
linked_pair s f h b r _ (first v i names) k x y (inr j) q = elim j [ ]
linked_pair s f h b r _ (more w n ms i names l) k x y (inl e) (inl d) = inl (sym e ∙ d)
linked_pair s f h b r _ (more w n ms i names l) k x y (inl e) (inr j) =
    inr (inr (subst (λ z. Follows f b y z) e (to_head s f h b r w.id (n ∷ ms) (more w n ms i names l) k y j)))
linked_pair s f h b r _ (more w n ms i names l) k x y (inr j) (inl e) =
    inr (inl (subst (λ z. Follows f b x z) e (to_head s f h b r w.id (n ∷ ms) (more w n ms i names l) k x j)))
linked_pair s f h b r _ (more w n ms i names l) k x y (inr i2) (inr j) = linked_pair s f h b r (n ∷ ms) l (λ m i. k m (inr i)) x y i2 j

linked_tail : (f : FuncRecord) (b : BlockRecord) (x y : ℕ) (ys : List ℕ) → IsLinked f b (x ∷ y ∷ ys) → IsLinked f b (y ∷ ys)
linked_tail f b _ _ _ (more v n ms i names l) = l

link_of : (f : FuncRecord) (b : BlockRecord) (x y : ℕ) (ys : List ℕ) → IsLinked f b (x ∷ y ∷ ys) → (w : ValueRecord) × HasValue f b w × (w.id ≡ x) × Names f w y
link_of f b _ _ _ (more v n ms i names l) = (v, i, refl, names)

-- the last of linked states reaches each of them
from_last : (s : Setting) (f : FuncRecord) → Standing s f → (b : BlockRecord) → IsReached f b → (y : ValueRecord) → HasValue f b y → (m : ℕ) → y.id ≡ m → (xs : List ℕ) → IsLinked f b (xs ++ m ∷ []) → (n : ℕ) → In n (xs ++ m ∷ []) → Reaches f b y n
from_last s f h b r y iy m e [] l n (inl d) = inl (e ∙ d)
from_last s f h b r y iy m e [] l n (inr j) = elim j [ ]
from_last s f h b r y iy m e (x ∷ []) l n (inl d) =
    let (w, i, q, names) = link_of f b x m [] l in
    subst (λ z. Reaches f b y z) (q ∙ d) (reach_more s f h b r y iy m (inl e) w i names)
from_last s f h b r y iy m e (x ∷ []) l n (inr j) = from_last s f h b r y iy m e [] (linked_tail f b x m [] l) n j
from_last s f h b r y iy m e (x ∷ z ∷ zs) l n (inl d) =
    let (w, i, q, names) = link_of f b x z (zs ++ m ∷ []) l in
    subst (λ z. Reaches f b y z) (q ∙ d) (reach_more s f h b r y iy z (from_last s f h b r y iy m e (z ∷ zs) (linked_tail f b x z (zs ++ m ∷ []) l) z (inl refl)) w i names)
from_last s f h b r y iy m e (x ∷ z ∷ zs) l n (inr j) = from_last s f h b r y iy m e (z ∷ zs) (linked_tail f b x z (zs ++ m ∷ []) l) n j

-- each state of a block follows the one that walks lead to the block with, where the values may name it
after_first : (s : Setting) (f : FuncRecord) → Standing s f → (b : BlockRecord) → IsReached f b → (ms : List ℕ) (m : ℕ) → IsChain f b (ms ++ m ∷ []) → Starts f b m → (x : ℕ) → ¬ HasMemoryPhi f b → IsFirstState f b x → (y : ℕ) → IsStateOf f b y → Follows f b x y
after_first s f h b r ms m c (v, i, e, way) x none k y q = go way
  where
    last : (xs : List ℕ) → In m (xs ++ m ∷ [])
    last [] = inl refl
    last (z ∷ zs) = inr (last zs)

    own : IsState f b v
    own = state_at f h.named b v i m e ((c.states m).0 (to_contains m (ms ++ m ∷ []) (last ms)))

    nothing : Carries f [] x → ⊥
    nothing z = elim z [ ]

    go : IsPhi v ⊎ (v.op.family ≡ op.InitMem) ⊎ ((n : ℕ) × Names f v n × IsFirstState f b n) → Follows f b x y
    go (inl p) = absurd (none (v, own, p))
    go (inr (inl o)) = absurd (nothing (k [] (begin b (own.4 o).0)))
    go (inr (inr (n, names, l))) = record {
      value = v;
      state = own;
      names = subst (λ z. Names f v z) (one_first s f h b r n x l k) names;
      way = from_last s f h b r v i m e ms c.linked y (to_in y (ms ++ m ∷ []) ((c.states y).1 q));
    }

-- of two states that the values of a reached block may name
pub states_in_turn : (s : Setting) (f : FuncRecord) → Standing s f → (b : BlockRecord) → IsReached f b → (x y : ℕ) → IsStateIn f b x → IsStateIn f b y → InTurn f b x y
states_in_turn s f h b r x y (inr k) (inr q) = inl (one_first s f h b r x y k.1 q.1)
states_in_turn s f h b r x y (inl k) (inl q) = go ((h.states b (reached_block f b r)).chain r)
  where
    go : HasChain f b → InTurn f b x y
    go (inl none) = absurd (none x k)
    go (inr (ms, m, c, start)) = linked_pair s f h b r (ms ++ m ∷ []) c.linked (λ n i. (c.states n).0 (to_contains n (ms ++ m ∷ []) i)) x y
        (to_in x (ms ++ m ∷ []) ((c.states x).1 k)) (to_in y (ms ++ m ∷ []) ((c.states y).1 q))
states_in_turn s f h b r x y (inl k) (inr q) = go ((h.states b (reached_block f b r)).chain r)
  where
    go : HasChain f b → InTurn f b x y
    go (inl none) = absurd (none x k)
    go (inr (ms, m, c, start)) = inr (inr (after_first s f h b r ms m c start y q.0 q.1 x k))
states_in_turn s f h b r x y (inr k) (inl q) = go ((h.states b (reached_block f b r)).chain r)
  where
    go : HasChain f b → InTurn f b x y
    go (inl none) = absurd (none y q)
    go (inr (ms, m, c, start)) = inr (inl (after_first s f h b r ms m c start x k.0 k.1 y q))
