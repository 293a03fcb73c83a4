-- Two functions that differ in one block, which keeps its number and its edges: walks go over from the one to the other.
use Rattle.std.proofs.Common.{◌≡◌, ℕ, refl, ap, sym, subst, ◌∙◌, ◌⊎◌, inl, inr, List, [], ◌∷◌, Some}
use Rattle.std.specs.Prelude.{slice_get}
use Rattle.std.specs.List.{Contains}
use Rattle.bk_func.specs.Records.{BlockRecord, FuncRecord}
use Rattle.bk_func.specs.Form.Text.{HasBlock, Defines, IsEntry}
use Rattle.bk_func.specs.Form.Walks.{Walk, begin, onward, IsReached, Passes, IsDefinedAt}
use Rattle.bk_func.proofs.Faults.{In}
use Rattle.bk_places.proofs.Elements.{to_in, to_contains}
use Rattle.bk_mean.proofs.Named.{IsNamed, got_in, in_got}

-- what a visit keeps of a block
pub record Shape (c d : BlockRecord) : Type 0 where
  pub id : c.id ≡ d.id
  pub kind : c.kind ≡ d.kind
  pub control : c.control ≡ d.control
  pub preds : c.preds ≡ d.preds
  pub succs : c.succs ≡ d.succs

pub same_shape : (c : BlockRecord) → Shape c c
same_shape c = record { id = refl; kind = refl; control = refl; preds = refl; succs = refl }

pub turn_shape : (c d : BlockRecord) → Shape c d → Shape d c
turn_shape c d s = record { id = sym s.id; kind = sym s.kind; control = sym s.control; preds = sym s.preds; succs = sym s.succs }

-- c of f and d of g stand at one place; they are one block, or x and y
pub record Pair (f g : FuncRecord) (x y c d : BlockRecord) : Type 0 where
  pub place : ℕ
  pub old : slice_get f.blocks place ≡ Some c
  pub new : slice_get g.blocks place ≡ Some d
  pub same : (c ≡ d) ⊎ ((c ≡ x) × (d ≡ y))

pub turn : (f g : FuncRecord) (x y c d : BlockRecord) → Pair f g x y c d → Pair g f y x d c
turn f g x y c d p = record { place = p.place; old = p.new; new = p.old; same = go p.same }
  where
    go : (c ≡ d) ⊎ ((c ≡ x) × (d ≡ y)) → (d ≡ c) ⊎ ((d ≡ y) × (c ≡ x))
    go (inl e) = inl (sym e)
    go (inr e) = inr (e.1, e.0)

pub shape : (f g : FuncRecord) (x y c d : BlockRecord) → Shape x y → Pair f g x y c d → Shape c d
shape f g x y c d s p = go p.same
  where
    go : (c ≡ d) ⊎ ((c ≡ x) × (d ≡ y)) → Shape c d
    go (inl e) = subst (Shape c) e (same_shape c)
    go (inr e) = subst (Shape c) (sym e.1) (let P : BlockRecord → Type 0 = λ z. Shape z y in subst P (sym e.0) s)

pub in_old : (f g : FuncRecord) (x y c d : BlockRecord) → Pair f g x y c d → HasBlock f c
in_old f g x y c d p = to_contains c f.blocks (got_in f.blocks p.place c p.old)

pub in_new : (f g : FuncRecord) (x y c d : BlockRecord) → Pair f g x y c d → HasBlock g d
in_new f g x y c d p = to_contains d g.blocks (got_in g.blocks p.place d p.new)

-- each block has its partner
abbrev pub Over : FuncRecord → FuncRecord → BlockRecord → BlockRecord → Type 0
Over f g x y = (i : ℕ) (c : BlockRecord) → slice_get f.blocks i ≡ Some c → (d : BlockRecord) × (slice_get g.blocks i ≡ Some d) × ((c ≡ d) ⊎ ((c ≡ x) × (d ≡ y)))

pub partner : (f g : FuncRecord) (x y : BlockRecord) → Over f g x y → (c : BlockRecord) → HasBlock f c → (d : BlockRecord) × Pair f g x y c d
partner f g x y o c h =
    let (i, e) = in_got f.blocks c (to_in c f.blocks h) in
    let (d, q, s) = o i c e in
    (d, record { place = i; old = e; new = q; same = s })

-- ---- walks
abbrev pub Along : FuncRecord → FuncRecord → BlockRecord → BlockRecord → List BlockRecord → List BlockRecord → Type 0
Along f g x y [] [] = Unit {0}
Along f g x y [] (d ∷ ds) = ⊥
Along f g x y (c ∷ cs) [] = ⊥
Along f g x y (c ∷ cs) (d ∷ ds) = Pair f g x y c d × Along f g x y cs ds

-- a walk of g beside one of f that ends with b
pub record Beside (f g : FuncRecord) (x y b : BlockRecord) (w : List BlockRecord) : Type 0 where
  pub last : BlockRecord
  pub before : List BlockRecord
  pub walk : Walk g (last ∷ before)
  pub pair : Pair f g x y b last
  pub along : Along f g x y w before

abbrev BesideAll : FuncRecord → FuncRecord → BlockRecord → BlockRecord → List BlockRecord → Type 0
BesideAll f g x y [] = Unit {0}
BesideAll f g x y (b ∷ w) = Beside f g x y b w

walk_beside : (f g : FuncRecord) (x y : BlockRecord) → Over f g x y → Shape x y → (w : List BlockRecord) → Walk f w → BesideAll f g x y w
walk_beside f g x y o s _ (begin b e) =
    let (d, q, r) = o 0 b e in
    record { last = d; before = []; walk = begin d q; pair = record { place = 0; old = e; new = q; same = r }; along = tt }
walk_beside f g x y o s _ (onward a b w walk h e) =
    let t : Beside f g x y a w = walk_beside f g x y o s (a ∷ w) walk in
    let (d, p) = partner f g x y o b h in
    let succs = (shape f g x y a t.last s t.pair).succs in
    let id = (shape f g x y b d s p).id in
    let k : Contains t.last.succs b.id = (let P : List ℕ → Type 0 = λ z. Contains z b.id in subst P succs e) in
    let l : Contains t.last.succs d.id = (let P : ℕ → Type 0 = λ z. Contains t.last.succs z in subst P id k) in
    record { last = d; before = t.last ∷ t.before; walk = onward t.last d t.before t.walk (in_new f g x y b d p) l; pair = p; along = (t.pair, t.along) }

pub beside : (f g : FuncRecord) (x y : BlockRecord) → Over f g x y → Shape x y → (b : BlockRecord) (w : List BlockRecord) → Walk f (b ∷ w) → Beside f g x y b w
beside f g x y o s b w walk = walk_beside f g x y o s (b ∷ w) walk

-- each block of the one walk stands beside one of the other
pub along_in : (f g : FuncRecord) (x y : BlockRecord) (cs ds : List BlockRecord) → Along f g x y cs ds → (d : BlockRecord) → In d ds → (c : BlockRecord) × In c cs × Pair f g x y c d
along_in f g x y [] [] a d i = elim i [ ]
along_in f g x y [] (e ∷ ds) a d i = elim a [ ]
along_in f g x y (c ∷ cs) [] a d i = elim a [ ]
along_in f g x y (c ∷ cs) (e ∷ ds) a d (inl q) = (c, inl refl, (let P : BlockRecord → Type 0 = λ z. Pair f g x y c z in subst P q a.0))
along_in f g x y (c ∷ cs) (e ∷ ds) a d (inr i) = (let (z, j, p) = along_in f g x y cs ds a.1 d i in (z, inr j, p))

-- ---- two functions that differ in one block
pub record Turned (f g : FuncRecord) (x y : BlockRecord) : Type 0 where
  pub over : Over f g x y
  pub back : Over g f y x
  pub shape : Shape x y
  pub named : IsNamed f
  pub numbers : (n : ℕ) → Defines x n → Defines y n

pub keeps_numbers : (f g : FuncRecord) (x y c d : BlockRecord) → ((n : ℕ) → Defines x n → Defines y n) → Pair f g x y c d → (n : ℕ) → Defines c n → Defines d n
keeps_numbers f g x y c d k p n h = go p.same
  where
    go : (c ≡ d) ⊎ ((c ≡ x) × (d ≡ y)) → Defines d n
    go (inl e) = (let P : BlockRecord → Type 0 = λ z. Defines z n in subst P e h)
    go (inr e) = (let P : BlockRecord → Type 0 = λ z. Defines z n in subst P (sym e.1) (k n (subst P e.0 h)))

-- partners of one block are one
pub one_partner : (f g : FuncRecord) (x y : BlockRecord) → Shape x y → IsNamed f → (b c d : BlockRecord) → Pair f g x y b d → Pair f g x y c d → b ≡ c
one_partner f g x y s n b c d p q =
    n.one_block b c (in_old f g x y b d p) (in_old f g x y c d q) ((shape f g x y b d s p).id ∙ sym (shape f g x y c d s q).id)

pub defined_over : (f g : FuncRecord) (x y : BlockRecord) → Turned f g x y → (c d : BlockRecord) → Pair f g x y c d → (n : ℕ) → IsDefinedAt f c n → IsDefinedAt g d n
defined_over f g x y t c d p n h w walk =
    let s = turn_shape x y t.shape in
    let r : Beside g f y x d w = beside g f y x t.back s d w walk in
    let e : r.last ≡ c = one_partner f g x y t.shape t.named r.last c d (turn g f y x d r.last r.pair) p in
    let P : BlockRecord → Type 0 = λ z. Walk f (z ∷ r.before) in
    let Q : BlockRecord → Type 0 = λ z. Passes (z ∷ r.before) n in
    let k : Passes (r.last ∷ r.before) n = subst Q (sym e) (h r.before (subst P e r.walk)) in
    let (z, i, q) = along_in g f y x (d ∷ w) (r.last ∷ r.before) (r.pair, r.along) k.0 (to_in k.0 (r.last ∷ r.before) k.1) in
    (z, to_contains z (d ∷ w) i, keeps_numbers f g x y k.0 z t.numbers (turn g f y x z k.0 q) n k.2)

pub entry_back : (f g : FuncRecord) (x y : BlockRecord) → Turned f g x y → (c d : BlockRecord) → Pair f g x y c d → IsEntry g d → IsEntry f c
entry_back f g x y t c d p e =
    let (b, q, r) = t.back 0 d e in
    let s : Pair g f y x d b = record { place = 0; old = e; new = q; same = r } in
    q ∙ ap Some (one_partner f g x y t.shape t.named b c d (turn g f y x d b s) p)

pub reached_back : (f g : FuncRecord) (x y : BlockRecord) → Turned f g x y → (c d : BlockRecord) → Pair f g x y c d → IsReached g d → IsReached f c
reached_back f g x y t c d p r =
    let b : Beside g f y x d r.0 = beside g f y x t.back (turn_shape x y t.shape) d r.0 r.1 in
    let e : b.last ≡ c = one_partner f g x y t.shape t.named b.last c d (turn g f y x d b.last b.pair) p in
    let P : BlockRecord → Type 0 = λ z. IsReached f z in
    subst P e (b.before, b.walk)
